use Rattle.std.proofs.Common.{◌≡◌, ◌≤◌, ◌-◌, length, codes}
use Rattle.std.specs.List.{AllByRecursion}
use Rattle.tac_base.specs.declared.calls.Trade.{Trade}
use Rattle.text_forms.proofs.Repeats.{with_front}
use Rattle.log_reader.specs.{trade_of, line_by, as_long_as}
use Rattle.log_reader.proofs.entries.trades_in.Given as goal

abbrev pub invariant-loop-i : goal.invariant-loop-i
invariant-loop-i l = record {
  same : with_front l.trades (as_long_as (codes "trade") (λ _. line_by (trade_of l.good)) (128 - l._i) l._i l.left) ≡ as_long_as (codes "trade") (λ _. line_by (trade_of l.good)) 128 0 l.fn.lines;
  count : length l.trades ≡ l._i;
  some : AllByRecursion (λ (t : Trade). 1 ≤ t.units) l.trades;
}

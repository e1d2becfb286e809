use Rattle.std.proofs.Common.{ℕ, length-append, sym, ◌∙◌, arith, codes}
use Rattle.std.proofs.lemmas.Result.{err_from_is_err_and}
use Rattle.log_reader.specs.{trade_of, line_by}
use Rattle.log_reader.proofs.EntryCases.{all_some}
use Rattle.log_reader.proofs.Sequences.{goes_on, goes_wrong, stops, full, one_over}
use Rattle.log_reader.proofs.entries.trades_in.Goals as goal

pub returns-then-not-begins-clause-same : goal.returns-then-not-begins-clause-same
returns-then-not-begins-clause-same c =
    let l = c.loop-i in
    sym (sym l.invariant.same ∙ stops (λ (_ : ℕ). line_by (trade_of c.args.good)) l.trades (codes "trade") 128 l._i l.left (omega arith) (sym c.begins.ensures ∙ c.if-not-begins.true))

pub returns-in_err-trade-clause-same : goal.returns-in_err-trade-clause-same
returns-in_err-trade-clause-same c =
    let l = c.loop-i in
    let p = err_from_is_err_and c.from_residual.result c.from_residual.ensures.1 in
    rw (p.1, p.2) (sym (sym l.invariant.same
    ∙ goes_wrong (λ (_ : ℕ). line_by (trade_of c.args.good)) l.trades (codes "trade") 128 l._i l.left c.in_err-trade.field-0.0 (omega arith) (sym c.begins.ensures ∙ c.if-not-begins.false) (sym c.in_err-trade.ensures.same)))

pub loop-i-preserved : goal.loop-i-preserved
loop-i-preserved c =
    let l = c.loop-i in
    let w = c.in_ok-trade in
    let count = l.invariant.count in
    record {
      same = rw c.push.ensures (goes_on (λ (_ : ℕ). line_by (trade_of c.args.good)) l.trades (codes "trade") 128 l._i l.left w.trade w.after (omega arith) (sym c.begins.ensures ∙ c.if-not-begins.false) (sym w.ensures.same) ∙ l.invariant.same);
      count = rw c.push.ensures (simp length-append (omega (arith, count)));
      some = rw c.push.ensures (all_some l.trades w.trade l.invariant.some w.ensures.some);
    }

pub returns-in_err-left-clause-same : goal.returns-in_err-left-clause-same
returns-in_err-left-clause-same c =
    let l = c.loop-i in
    let p = err_from_is_err_and c.from_residual-in_err-left.result c.from_residual-in_err-left.ensures.1 in
    rw (p.1, p.2) (sym (sym l.invariant.same ∙ one_over (λ (_ : ℕ). line_by (trade_of c.args.good)) l.trades (codes "trade") 128 l._i l.left c.in_err-left.field-0.0 (omega arith) (sym c.in_err-left.ensures)))

pub returns-clause-same : goal.returns-clause-same
returns-clause-same c =
    let l = c.loop-i in
    sym (sym l.invariant.same ∙ full (λ (_ : ℕ). line_by (trade_of c.args.good)) l.trades (codes "trade") 128 l._i l.left c.in_ok-left.left (omega arith) (sym c.in_ok-left.ensures))

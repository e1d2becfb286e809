use Rattle.std.proofs.Common.{◌≡◌, length, take, drop}
use Rattle.text_forms.specs.Rows as rows
use Rattle.text_forms.proofs.RowLoops.{with_front}
use Rattle.text_forms.proofs.rows.numbers_of.Given as goal

abbrev pub invariant-loop-i : goal.invariant-loop-i
invariant-loop-i g l = record {
  count : length l.numbers ≡ length l.columns;
  left : with_front (take l.i l.numbers) (rows.numbers_of (drop l.i l.columns) l.words) ≡ rows.numbers_of l.columns l.fn.words;
}

use Rattle.std.proofs.Common.{ℕ, List, arith, sym, ap, ◌∙◌, drop, take}
use Rattle.text_forms.specs.Rows as rows
use Rattle.text_forms.specs.Rows.{within}
use Rattle.text_forms.specs.declared.rows.Column.{Column}
use Rattle.text_forms.proofs.RowLoops.{with_front, no_word}
use Rattle.text_forms.proofs.rows.numbers_of.Goals as goal

pub returns-in_default : goal.returns-in_default
returns-in_default g c =
    let gone = c.in_default.ensures.0 in
    let some : Column = within 0 0 in
    let i = c.loop-i.i in
    let front = take i c.loop-i.numbers in
    let columns = c.args.columns.now in
    sym (no_word front columns i some (omega (arith, c.told-columns))) ∙ ap (λ (words : List (List ℕ)). with_front front (rows.numbers_of (drop i columns) words)) (sym gone) ∙ c.loop-i.invariant.left

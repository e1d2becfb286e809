use Rattle.std.proofs.Common.{sym, ◌∙◌}
use Rattle.std.proofs.lemmas.Slice.Eq.{slice_eq-Decides}
use Rattle.tac_base.proofs.EqualPoints.{point_decides}
use Rattle.tac_base.proofs.same.same_left.Goals as goal

pub returns : goal.returns
returns c =
    let lists = slice_eq-Decides point_decides c.as_slice.result.now c.as_slice-2.result.now _ c.eq.ensures in
    let a = c.as_slice.ensures.value in
    let b = c.as_slice-2.ensures.value in
    (λ equal. sym a ∙ lists.0 equal ∙ b, λ same. lists.1 (a ∙ same ∙ sym b))

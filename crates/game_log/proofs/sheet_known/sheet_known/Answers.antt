use Rattle.std.proofs.Common.{rules, subst, ◌∙◌}
use Rattle.std.specs.Prelude.{⊤}
use Rattle.std.specs.List.{AllByRecursion}
use Rattle.std.proofs.lemmas.Iterator.{cases_from_all, YieldsList-from_slice}
use Rattle.log_text.specs.LoggedSheet.{IsKnownScore}
use Rattle.game_log.proofs.AllTrue.{all_true}
use Rattle.game_log.proofs.sheet_known.sheet_known.Goals as goal

pub returns-clause-scores : goal.returns-clause-scores
returns-clause-scores c =
    let scores = c.deref.result.now in
    subst (AllByRecursion IsKnownScore) (c.deref.ensures.value ∙ c.sheet.view_is)
    (all_true IsKnownScore _ scores _ (cases_from_all _ _ _ IsKnownScore (λ _. ⊤) c.all.ensures.ran (YieldsList-from_slice scores (search rules)) (λ x q k. search rules) (λ x q k. tt)) c.if-prove.false)

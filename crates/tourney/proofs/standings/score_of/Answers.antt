use Rattle.std.proofs.Common.{◌≡◌, ◌≤◌, ℤ, unsigned_abs, ap, sym, subst}
use Rattle.settlement.specs.Sheets.{Scored}
use Rattle.tourney.specs.Tallies.{most_score}
use Rattle.tourney.proofs.Scores.{score_small, read_small}
use Rattle.tourney.proofs.standings.score_of.Goals as goal

pub returns-clause-small : goal.returns-clause-small
returns-clause-small c =
    let small : unsigned_abs c.score.result.now.score ≤ most_score = score_small c.args.game.now c.args.log.now c.score.ensures.whole c.requires c.args.agent c.score.result.now c.score.ensures.value c.score.ensures.logged in
    let seen : c.behind-log.inside.score ≡ c.score.result.now.score = ap (λ (s : Scored). s.score) c.behind-log.view_is in
    read_small c.behind-log.inside.score (subst (λ (z : ℤ). unsigned_abs z ≤ most_score) (sym seen) small)

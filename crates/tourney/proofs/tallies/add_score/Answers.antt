use Rattle.std.proofs.Common.{◌≤◌, ◌*◌, unsigned_abs, sym, subst}
use Rattle.tourney.specs.declared.tallies.Tally.{Tally}
use Rattle.tourney.specs.Tallies.{most_score}
use Rattle.tourney.proofs.Ranges.{small_at}
use Rattle.tourney.proofs.tallies.add_score.Goals as goal

pub with_score-tally-requires-clause-total : goal.with_score-tally-requires-clause-total
with_score-tally-requires-clause-total c = subst (λ (t : Tally). unsigned_abs t.total ≤ t.games * most_score) (sym c.tally_at.ensures) (small_at 64 c.args.tallies.now.entries c.args.word c.requires.each)

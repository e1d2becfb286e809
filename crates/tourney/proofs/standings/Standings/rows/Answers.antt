use Rattle.std.proofs.Common.{◌≡◌, ℕ, length, ap, subst, arith}
use Rattle.tourney.specs.Tallies.{Kept, AreRowsBelow}
use Rattle.tourney.proofs.TeamRows.{rows_are}
use Rattle.tourney.proofs.standings.Standings.rows.Goals as goal

pub returns : goal.returns
returns c = λ played stands.
    let kept : Kept = c.args.self.now in
    let whole : length c.self.inside.tallies.entries ≡ length kept.tallies = ap (λ (k : Kept). length k.tallies) c.self.view_is in
    let last : c.loop-place.place ≡ length kept.tallies = omega (arith, c.loop-place-test.false, c.loop-place.auto.place-end, c.len-place-end.ensures.len, whole) in
    rows_are kept played c.loop-place.rows.items stands (subst (λ (n : ℕ). AreRowsBelow kept.tallies n c.loop-place.rows.items) last c.loop-place.invariant)

use Rattle.std.proofs.Common.{rules, ◌<◌, ℕ, subst, ap, ◌∙◌}
use Rattle.turn_lock.specs.TurnRule.{own_view}
use Rattle.turn_lock.proofs.Places.{only_of}
use Rattle.turn_lock.proofs.TurnSteps.{splits_off_at}
use Rattle.turn_lock.proofs.lock.TurnLock.split_off.Goals as goal

pub take-own_seat-requires : goal.take-own_seat-requires
take-own_seat-requires g c = only_of _ c.args.self.now.its_own.2

pub split_seat-seat-requires : goal.split_seat-seat-requires
split_seat-seat-requires g c =
    let next = c.requires.next in let taken = c.take-own_seat.ensures in let own = c.args.self.now.its_own in
    (taken.0 ∙ own.0, search rules, splits_off_at _ _ _ _ _ _ _ _ (taken.1 ∙ own.1) (subst (λ (k : ℕ). k < 9) (next.0 ∙ ap (λ l. (own_view l).passes) taken.2) next.1))

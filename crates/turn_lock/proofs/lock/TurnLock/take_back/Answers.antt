use Rattle.std.proofs.Common.{rules, ap, ◌∙◌}
use Rattle.turn_lock.proofs.Places.{only_of}
use Rattle.turn_lock.proofs.TurnSteps.{joins_at}
use Rattle.turn_lock.proofs.lock.TurnLock.take_back.Goals as goal

pub take-keeper-requires : goal.take-keeper-requires
take-keeper-requires g c = only_of _ c.args.self.now.its_own.2

pub join_seat-requires : goal.join_seat-requires
join_seat-requires g c =
    let pass = c.args.pass in let taken = c.take-keeper.ensures in let own = c.args.self.now.its_own in
    (taken.0 ∙ own.0, ap (λ l. l.table) c.requires.own, pass.at_rest.2, search rules, joins_at _ _ _ _ _ _ _ _ _ _ (taken.1 ∙ own.1) pass.live.0 pass.at_rest.0 pass.at_rest.1)

use Rattle.game_text.proofs.FlightLaws.{made_flight}
use Rattle.game_text.proofs.flights.FlightLine.new.Goals as goal

pub invariant_of-result : goal.invariant_of-result
invariant_of-result c = made_flight c.args.first c.args.bound c.args.draws.now c.copy_from_slice.new.self c.requires.first_low c.requires.first_high c.requires.bound_low c.requires.bound_high c.requires.count c.type_inv.draws c.copy_from_slice.ensures.after

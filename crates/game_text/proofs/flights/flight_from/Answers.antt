use Rattle.std.proofs.lemmas.List.{take_rest}
use Rattle.game_text.proofs.FlightLaws.{flight_row}
use Rattle.game_text.proofs.flights.flight_from.Goals as goal

pub draws_of-requires-clause-range : goal.draws_of-requires-clause-range
draws_of-requires-clause-range c = let row = flight_row c.args.numbers.now c.requires.count c.requires.range in rw take_rest row.tested

use Rattle.flight_auction.proofs.Drifts.{change_steps}
use Rattle.flight_auction.proofs.prices.change.Goals as goal

pub returns-clause-value : goal.returns-clause-value
returns-clause-value c =
    change_steps c.args.low c.args.high c.args.draw c.unsigned_abs.result c.requires.low_from c.requires.low_to c.requires.high_from c.requires.high_to c.unsigned_abs.ensures.value

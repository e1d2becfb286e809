use Rattle.std.proofs.Common.{◌^◌, ◌<◌, rules}
use Rattle.json_dialect.proofs.OneObject.{place_line}
use Rattle.json_dialect.proofs.printing.print_place.Goals as goal

pub returns-clause-one_line : goal.returns-clause-one_line
returns-clause-one_line c =
    let position : c.args.position < 2 ^ 32 = search rules in
    place_line c.args.position position

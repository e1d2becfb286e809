use Rattle.std.proofs.Common.{◌^◌, ◌<◌, rules}
use Rattle.json_dialect.proofs.OneObject.{numbers_line}
use Rattle.json_dialect.proofs.printing.print_pair.Goals as goal

pub returns-clause-one_line : goal.returns-clause-one_line
returns-clause-one_line c =
    let first : c.args.first < 2 ^ 32 = search rules in
    let second : c.args.second < 2 ^ 32 = search rules in
    numbers_line c.args.first c.args.second first second

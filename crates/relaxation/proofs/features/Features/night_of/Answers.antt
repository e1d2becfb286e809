use Rattle.std.proofs.Common.{arith}
use Rattle.packages.specs.Decoding.{package_at}
use Rattle.packages.proofs.Decoded.{package_is}
use Rattle.relaxation.proofs.FeatureValues.{night_in}
use Rattle.relaxation.proofs.features.Features.night_of.Goals as goal

pub returns : goal.returns
returns c =
    let p = package_at c.args.number in
    let found = package_is c.args.number c.requires.number in
    omega (arith, c.from.ensures, c.value_of.ensures.value p found, night_in c.args.kind c.args.number p c.requires.kind found)

use Rattle.std.proofs.Common.{◌<◌, get_or, ap, sym, subst, ◌∙◌}
use Rattle.packages.specs.Decoding.{package_at}
use Rattle.packages.specs.Features.{feature_of}
use Rattle.packages.proofs.Decoded.{package_is}
use Rattle.relaxation.proofs.FeatureValues.{feature_at, few_values, value_in}
use Rattle.relaxation.proofs.features.Features.value_of.Goals as goal

pub returns-clause-range : goal.returns-clause-range
returns-clause-range c =
    let feature = c.args.feature in
    let p = package_at c.args.number in
    let found = package_is c.args.number c.requires.number in
    let value_is = ap (λ row. get_or row feature 0) (c.of-values.ensures p found) ∙ feature_at feature p c.requires.feature in
    subst (λ value. value < 21) (sym value_is) (few_values feature (feature_of feature p) c.requires.feature (value_in feature c.args.number p c.requires.feature found))

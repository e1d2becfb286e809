use Rattle.std.proofs.Common.{ℤ, SFits, w64, rules, subst, arith}
use Rattle.std.proofs.lemmas.Int.{ints}
use Rattle.log_text.specs.Logged.{IsSigned}
use Rattle.log_text.specs.LoggedSheet.{IsKnownScore}
use Rattle.game_log.proofs.sheet_known.score_known.Goals as goal

signed_is : (z : ℤ) → SFits w64 z → IsSigned z
signed_is z fits = search (arith, ints)

pub returns-clause-known : goal.returns-clause-known
returns-clause-known c =
    let scored = c.scored.inside in
    let cash : SFits w64 scored.cash = search rules in
    let score : SFits w64 scored.score = search rules in
    subst IsKnownScore c.scored.view_is (record {
      best = omega (arith, c.from.ensures, c.from.type_inv);
      cash = signed_is scored.cash cash;
      short = omega (arith, c.from-2.ensures, c.from-2.type_inv);
      score = signed_is scored.score score;
      eight = c.packages_known.ensures.eight;
      packages = c.packages_known.ensures.each;
      certificate = c.cert_known.ensures;
    })

use Rattle.std.proofs.Common.{◌≢◌, ◌+◌, ◌*◌, negsuc, refl, sym, ◌∙◌, length-set, arith}
use Rattle.std.proofs.lemmas.Int.{ints}
use Rattle.packages.specs.Decoding.{package_at}
use Rattle.packages.specs.Features.{feature_of}
use Rattle.packages.proofs.Decoded.{package_is}
use Rattle.relaxation.proofs.TableLaws.{keeps_more, keeps_same, takes_more, takes_same}
use Rattle.relaxation.proofs.worth_table.WorthTable.narrow.Goals as goal
use Rattle.relaxation.proofs.worth_table.WorthTable.narrow.Goals.{then-value_of-value, else-value_of-value}

pub loop-number-preserved : goal.loop-number-preserved
loop-number-preserved c =
    let l = c.loop-number in
    let client = c.args.client in
    let feature = feature_of c.args.feature in
    let value = c.args.value in
    let old = c.args.self.now.dollars in
    let place = 393 * client + l.number in
    let choice = package_at l.number in
    let found = package_is l.number c.loop-number-test.true in
    let value_is = c.value_of.ensures.value choice found in
    elim c.if-value_of-value.branch [
      | then-value_of-value w ↦
          let lacks : feature choice ≢ value = λ is. w.if-value_of-value.true (value_is ∙ is) in
          rw w.self-is (record {
            long = omega (arith, length-set l.self.dollars place (negsuc 999999), l.invariant.long);
            keeps = keeps_more feature client value l.number place old l.self.dollars (negsuc 999999) choice found lacks refl l.invariant.keeps;
            takes = takes_more feature client value l.number place l.self.dollars (negsuc 999999) (omega (arith, l.invariant.long)) refl (omega (arith, ints)) l.invariant.takes;
          })
      | else-value_of-value w ↦
          rw w.self-is (record {
            long = l.invariant.long;
            keeps = keeps_same feature client value l.number old l.self.dollars l.invariant.keeps;
            takes = takes_same feature client value l.number l.self.dollars choice found (sym value_is ∙ w.if-value_of-value.false) l.invariant.takes;
          })
    ]

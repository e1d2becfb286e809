use Rattle.std.proofs.Common.{◌≡◌, ◌+◌, ◌*◌, subst, w32, to_z, of_z, length-set, refl, arith}
use Rattle.std.proofs.lemmas.Int.{ints}
use Rattle.relaxation.specs.Tables.{IsPut}
use Rattle.relaxation.proofs.TableLaws.{put_more}
use Rattle.relaxation.proofs.worth_table.put.Goals as goal

pub loop-client-init : goal.loop-client-init
loop-client-init c = record {
  long = omega arith;
  put = record { worth = λ k wants lt. absurd (omega arith); others = λ k n lt other. refl };
}

pub loop-client-preserved : goal.loop-client-preserved
loop-client-preserved c =
    let l = c.loop-client in
    let place = 393 * l.client + c.from.result in
    let is : to_z w32 (of_z w32 c.worth_to.result) ≡ c.worth_to.result = omega (arith, ints, c.worth_to.ensures.low, c.worth_to.ensures.high) in
    record {
      long = omega (arith, length-set l.dollars place (to_z w32 (of_z w32 c.worth_to.result)), l.invariant.long);
      put = put_more c.args.account.now.clients c.args.number c.args.choice.now c.args.dollars.now l.dollars l.client place c.worth_to.result _ c.requires.number (omega arith) l.invariant.long (omega (arith, c.from.ensures)) is c.worth_to.ensures.value l.invariant.put;
    }

pub returns : goal.returns
returns c =
    let l = c.loop-client in
    subst (λ count. IsPut c.args.account.now.clients c.args.number c.args.choice.now c.args.dollars.now count l.dollars) (omega arith) l.invariant.put

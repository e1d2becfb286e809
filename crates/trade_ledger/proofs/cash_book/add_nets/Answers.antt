use Rattle.std.proofs.Common.{rules, ◌≡◌, ℕ, ℤ, pos, ◌+ℤ◌, get_or, arith, below_more, ◌∙◌, to_z, of_z, w32, w64, SFits, length-set, get_or-set_same, get_or-set_other}
use Rattle.std.proofs.lemmas.Int.{ints}
use Rattle.std.proofs.lemmas.List.Elements.{All-from_get_or}
use Rattle.tac_base.specs.Ranges.{IsNet}
use Rattle.trade_ledger.specs.CashKeeping.{IsWithin}
use Rattle.trade_ledger.proofs.cash_book.add_nets.Goals as goal

-- a net fits its type, and the sum is not larger than the code's
is_net : (net : ℤ) → SFits w32 net → IsNet net
is_net net fits = record { low = omega (arith, ints); high = omega (arith, ints) }

net_within : (net : ℤ) → IsNet net → IsWithin 2147483648 net
net_within net is = let low = is.low in let high = is.high in (omega (arith, ints, low), omega (arith, ints, high))

sum_is : (total before net net' : ℤ) → total ≡ before → IsWithin 600000000000000 before → SFits w32 net → net' ≡ to_z w32 (of_z w32 net)
    → to_z w64 (of_z w64 (to_z w64 (of_z w64 total) +ℤ to_z w64 (of_z w64 net'))) ≡ before +ℤ net
sum_is total before net net' same small fits is = omega (arith, ints, small.0, small.1)

pub loop-party-preserved : goal.loop-party-preserved
loop-party-preserved c =
    let v = c.loop-party.invariant in let party : ℕ = c.loop-party.party in let inside = c.loop-party-test.true in
    let net : ℤ = get_or c.args.nets.now.dollars party (pos 0) in let fits : SFits w32 net = search rules in
    record {
      nine = length-set c.loop-party.totals party _ ∙ v.nine;
      added = below_more _ _ (λ k lt. get_or-set_other c.loop-party.totals party k _ (pos 0) (λ e. absurd (omega arith)) ∙ v.added k lt)
          (get_or-set_same c.loop-party.totals party _ (pos 0) (omega (arith, v.nine, inside))
          ∙ sum_is _ _ net _ (v.later party (omega arith)) (c.requires party inside) fits c.from.ensures);
      later = λ k le. get_or-set_other c.loop-party.totals party k _ (pos 0) (λ e. absurd (omega arith)) ∙ v.later k (omega arith);
      each = below_more _ _ v.each (is_net net fits);
    }

pub returns-clause-small : goal.returns-clause-small
returns-clause-small c party lt = net_within _ (c.loop-party.invariant.each party (omega arith))

pub returns-clause-each : goal.returns-clause-each
returns-clause-each c = All-from_get_or IsNet c.args.nets.now.dollars (pos 0) (λ k inside. c.loop-party.invariant.each k (omega arith))

use Rattle.std.proofs.Common.{◌≡◌, ℕ, List, [], Some, refl, sym, subst, arith, below_more, slice_get}
use Rattle.auction_rules.specs.History.{Entry}
use Rattle.link_audit.specs.declared.vouching.Difference.TheVariants as differences
use Rattle.link_audit.specs.{calls_left, subject_of, IsLowestLeft}
use Rattle.link_audit.proofs.Found.{left_at, none_found}
use Rattle.link_audit.proofs.leftovers.first_left.Goals as goal

pub loop-number-preserved : goal.loop-number-preserved
loop-number-preserved c = λ boards good lt.
    let log = c.args.log.now in let n = c.loop-number.number in let found : List Entry = c.history.result.now in
    let there : slice_get log.histories n ≡ Some found = subst (λ (k : ℕ). slice_get log.histories k ≡ Some found) c.good_of-good.ensures c.history.ensures.value in
    below_more (λ (k : ℕ). calls_left (subject_of log boards c.args.agent) c.args.places.now k ≡ []) n (c.loop-number.invariant boards)
    (none_found log c.args.places.now.next c.args.agent n c.from.result found c.from.ensures there c.in_default.ensures.next) good lt

pub returns-in-Some-clause-lowest : goal.returns-in-Some-clause-lowest
returns-in-Some-clause-lowest c = λ boards.
    let log = c.args.log.now in let n = c.loop-number.number in let found : List Entry = c.history.result.now in let position = c.in-Some.position in
    let there : slice_get log.histories n ≡ Some found = subst (λ (k : ℕ). slice_get log.histories k ≡ Some found) c.good_of-good.ensures c.history.ensures.value in
    let low = c.loop-number-test.true in
    let own = left_at log c.args.places.now.next c.args.agent n c.from.result found c.from.ensures there position c.in-Some.ensures.next.0 c.in-Some.ensures.next.3 in
    subst (λ (k : ℕ). IsLowestLeft (subject_of log boards c.args.agent) c.args.places.now (differences.Entry k position)) (sym c.good_of-good.ensures)
    (low, (λ g below. c.loop-number.invariant boards g below), (c.in-Some.ensures.next.0, own))

pub returns-in-Some-next_cash-clause-lowest : goal.returns-in-Some-next_cash-clause-lowest
returns-in-Some-next_cash-clause-lowest c = λ boards. (
  (λ g low. (let past = c.loop-number-test.false in c.loop-number.invariant boards g (omega (arith, low, past)))),
  (c.in-Some-next_cash.ensures.next.0, c.in-Some-next_cash.ensures.next.3),
)

pub returns-in-None-clause-none : goal.returns-in-None-clause-none
returns-in-None-clause-none c = λ boards. (
  (λ is. record { calls = λ good low. (let past = c.loop-number-test.false in c.loop-number.invariant boards good (omega (arith, low, past))); cash = c.in-None.ensures.next }),
  (λ over. refl),
)

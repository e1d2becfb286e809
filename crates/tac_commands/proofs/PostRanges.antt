-- The posts of a game have positions in the ranges of logs, since they are those that are due to its histories.
use Rattle.std.proofs.Common.{◌≡◌, ℕ, ◌+◌, ◌<◌, ◌≤◌, Bool, true, false, cond, List, [], ◌∷◌, length, map, get_or, sum_by, refl, ap, arith, nat_le, flat_map, leb-true, le-leb}
use Rattle.std.specs.Prelude.{⊤}
use Rattle.std.specs.List.{AllByRecursion, enumerate_from}
use Rattle.std.proofs.lemmas.List.Elements.{All-from_recursion}
use Rattle.std.proofs.lemmas.List.Sums.{sum_by-cons, sum_by-append}
use Rattle.tac_commands.specs.Prelude.{Trade, nets, CashCall, Done, CashEntry, is_post, posts_of, post_for, due_post, due_to, Matched, AreHistories}
use Rattle.auction_rules.specs.History.{Entry}
use Rattle.auction_rules.proofs.Lists.{all-weaker}
use Rattle.trade_ledger.specs.declared.cash_calls.CashCall.TheVariants.{Post, Read}

-- a post is of one of the 8,256 positions of a history
abbrev pub IsLow : CashCall → Type 0
IsLow (Post good position given) = position ≤ 8255
IsLow (Read agent) = ⊤

abbrev is_low : CashCall → Bool
is_low (Post good position given) = nat_le position 8255
is_low (Read agent) = true

-- what is of none weighs something
abbrev too_high : CashEntry → ℕ
too_high e = cond (is_low e.call) 0 1

-- a post weighs no more than all posts
post_within : (w : CashEntry → ℕ) (cash : List CashEntry) → AllByRecursion (λ (e : CashEntry). is_post e.call ≡ true → w e ≤ sum_by w (posts_of cash)) cash
post_within w [] = tt
post_within w (e ∷ cash) = by_test (is_post e.call) (sum_by-cons w e (posts_of cash)) (post_within w cash)
  where
    by_test : (b : Bool) → sum_by w (e ∷ posts_of cash) ≡ w e + sum_by w (posts_of cash) → AllByRecursion (λ (x : CashEntry). is_post x.call ≡ true → w x ≤ sum_by w (posts_of cash)) cash
        → (b ≡ true → w e ≤ sum_by w (cond b (e ∷ posts_of cash) (posts_of cash))) × AllByRecursion (λ (x : CashEntry). is_post x.call ≡ true → w x ≤ sum_by w (cond b (e ∷ posts_of cash) (posts_of cash))) cash
    by_test true sum rest = ((λ is. omega (arith, sum)), all-weaker (λ (x : CashEntry). is_post x.call ≡ true → w x ≤ sum_by w (posts_of cash)) (λ (x : CashEntry). is_post x.call ≡ true → w x ≤ sum_by w (e ∷ posts_of cash)) cash (λ x h is. let le = h is in omega (arith, sum, le)) rest)
    by_test false sum rest = ((λ is. absurd cc), rest)

-- ---- the posts that are due

-- those of histories whose goods are numbered from a number
abbrev due_from : ℕ → List (List Entry) → List CashEntry
due_from n histories = flat_map (λ row. due_to row.0 row.1) (enumerate_from n (map (enumerate_from 0) histories))

post_due : (good position : ℕ) (e : Entry) → position ≤ 8255 → sum_by too_high (due_post good position e) ≡ 0
post_due good position e low = by_trades e.trades
  where
    by_trades : (trades : List Trade) → sum_by too_high (post_for trades (record { caller = e.caller; call = Post good position (record { dollars = nets e.trades }); reply = Done })) ≡ 0
    by_trades [] = refl
    by_trades (t ∷ ts) = ap (λ (b : Bool). 0 + cond {A = ℕ} b 0 1) (le-leb position 8255 low)

history_due : (good k : ℕ) (history : List Entry) → k + length history ≤ 8256 → sum_by too_high (due_to good (enumerate_from k history)) ≡ 0
history_due good k [] few = refl
history_due good k (e ∷ history) few =
    let here = post_due good k e (omega (arith, few)) in
    let rest = history_due good (k + 1) history (omega (arith, few)) in
    let apart = sum_by-append too_high (due_post good k e) (due_to good (enumerate_from (k + 1) history)) in
    omega (arith, apart, here, rest)

histories_due : (good : ℕ) (histories : List (List Entry)) → AreHistories good histories → sum_by too_high (due_from good histories) ≡ 0
histories_due good [] are = refl
histories_due good (history ∷ histories) are =
    let here = history_due good 0 history (let most = are.0.few in omega (arith, most)) in
    let rest = histories_due (good + 1) histories are.1 in
    let apart = sum_by-append too_high (due_to good (enumerate_from 0 history)) (due_from (good + 1) histories) in
    omega (arith, apart, here, rest)

-- a call of the cash history
pub post_low : (histories : List (List Entry)) (cash : List CashEntry) → AreHistories 0 histories → Matched histories cash → (position : ℕ) (d : CashEntry) → position < length cash → IsLow (get_or cash position d).call
post_low histories cash are matched position d inside =
    by_call (get_or cash position d).call (λ is. none (All-from_recursion (λ (x : CashEntry). is_post x.call ≡ true → too_high x ≤ sum_by too_high (posts_of cash)) cash (post_within too_high cash) position d inside is))
  where
    none : {w : ℕ} → w ≤ sum_by too_high (posts_of cash) → w ≡ 0
    none {w} one =
        let all = matched too_high in
        let due = histories_due 0 histories are in
        omega (arith, one, all, due)

    by_test : (b : Bool) → cond {A = ℕ} b 0 1 ≡ 0 → b ≡ true
    by_test true is = refl
    by_test false is = absurd (omega (arith, is))

    by_call : (call : CashCall) → (is_post call ≡ true → cond {A = ℕ} (is_low call) 0 1 ≡ 0) → IsLow call
    by_call (Post good at given) low = leb-true at 8255 (by_test (nat_le at 8255) (low refl))
    by_call (Read agent) low = tt

-- Swaps keep the goods of a closing order different and in their range.
use Rattle.std.proofs.Common.{◌≡◌, ℕ, ◌+◌, ◌%◌, ◌≤◌, ◌<◌, Bool, true, false, not, ◌&&◌, ◌||◌, eqb, cond, List, [], ◌∷◌, length, refl, sym, ap, ◌∙◌, subst, lit<, lit≤, eq-eqb, arith, fold, IsPermutation, All, zip, sum_by, mod-lt, eqb-true}
use Rattle.std.specs.List.{list_any}
use Rattle.std.proofs.lemmas.Bool.{not-true}
use Rattle.std.proofs.lemmas.List.Edits.{length-swap}
use Rattle.std.proofs.lemmas.List.Elements.{All-from_recursion, All-head, All-tail}
use Rattle.std.proofs.lemmas.List.Sorted.{IsPermutation-refl, IsPermutation-swap, IsPermutation-trans, length_permutation, All-permutation, sum_by-IsPermutation}
use Rattle.std.proofs.lemmas.List.Sums.{sum_by-cons}
use Rattle.tac_base.proofs.NumeralLaws.{both_true}
use Rattle.text_forms.specs.Rows.{IsBetween}
use Rattle.game_text.specs.ClosingOrders.{is_distinct, IsOrder}
use Rattle.draw_maker.specs.ClosingOrders.{exchanged, made_order}

-- ---- different numbers, by how often each occurs

once : Bool → ℕ
once b = cond b 1 0

-- how often a number occurs
times : ℕ → List ℕ → ℕ
times n ns = sum_by (λ m. once (eqb m n)) ns

times_first : (n m : ℕ) (ms : List ℕ) → times n (m ∷ ms) ≡ once (eqb m n) + times n ms
unfolding times
times_first n m ms = sum_by-cons (λ (k : ℕ). once (eqb k n)) m ms

not_first : (b rest : Bool) → b || rest ≡ false → (b ≡ false) × (rest ≡ false)
not_first true rest h = absurd cc
not_first false rest h = (refl, h)

absent : (n : ℕ) (ns : List ℕ) → list_any (λ m. eqb m n) ns ≡ false → times n ns ≡ 0
unfolding times once
absent n [] h = refl
absent n (m ∷ ms) h =
    let none = not_first (eqb m n) (list_any (λ k. eqb k n) ms) h in
    let others : times n ms ≡ 0 = absent n ms none.1 in
    let first : once (eqb m n) ≡ 0 = ap once none.0 in
    omega (arith, times_first n m ms, others, first)

present_more : (b rest : Bool) (before : ℕ) → (rest ≡ true → 1 ≤ before) → b || rest ≡ true → 1 ≤ once b + before
unfolding once
present_more true rest before later h = omega arith
present_more false rest before later h = omega (arith, later h)

present : (n : ℕ) (ns : List ℕ) → list_any (λ m. eqb m n) ns ≡ true → 1 ≤ times n ns
present n [] h = absurd cc
present n (m ∷ ms) h =
    let more = present_more (eqb m n) (list_any (λ k. eqb k n) ms) (times n ms) (present n ms) h in
    omega (arith, times_first n m ms, more)

few_more : (b : Bool) (n m : ℕ) (ms : List ℕ) → eqb m n ≡ b → list_any (λ k. eqb k m) ms ≡ false → times n ms ≤ 1 → once b + times n ms ≤ 1
unfolding once
few_more true n m ms e none few =
    let zero = absent n ms (subst (λ (k : ℕ). list_any (λ (j : ℕ). eqb j k) ms ≡ false) (eqb-true m n e) none) in
    omega (arith, zero)
few_more false n m ms e none few = omega (arith, few)

few : (ns : List ℕ) → is_distinct ns ≡ true → (n : ℕ) → times n ns ≤ 1
unfolding times
few [] h n = lit≤ tt
few (m ∷ ms) h n =
    let both = both_true (not (list_any (λ k. eqb k m) ms)) (is_distinct ms) h in
    let more = few_more (eqb m n) n m ms refl (not-true (list_any (λ k. eqb k m) ms) both.0) (few ms both.1 n) in
    omega (arith, times_first n m ms, more)

not_there : (b : Bool) (m : ℕ) (ms : List ℕ) → list_any (λ k. eqb k m) ms ≡ b → times m ms ≤ 0 → b ≡ false
not_there true m ms e none = absurd (omega (arith, present m ms e, none))
not_there false m ms e none = refl

once_true : once true ≡ 1
unfolding once
once_true = refl

apart : (ns : List ℕ) → ((n : ℕ) → times n ns ≤ 1) → is_distinct ns ≡ true
apart [] h = refl
apart (m ∷ ms) h =
    let itself : once (eqb m m) ≡ once true = ap once (eq-eqb m m refl) in
    let one : once true ≡ 1 = once_true in
    let none = not_there (list_any (λ k. eqb k m) ms) m ms refl (omega (arith, h m, times_first m m ms, itself, one)) in
    let others = apart ms (λ n. omega (arith, h n, times_first n m ms)) in
    ap (λ (b : Bool). not b && is_distinct ms) none ∙ others

-- ---- swaps

-- each place is one of the order's, so the swaps keep the items
shuffled : (places words order : List ℕ) → All (λ place. place < length order) places → IsPermutation order (fold exchanged order (zip places words))
shuffled [] words order inside = IsPermutation-refl order
shuffled (place ∷ places) [] order inside = IsPermutation-refl order
shuffled (place ∷ places) (word ∷ words) order inside =
    let is_inside = All-head (λ p. p < length order) place places inside in
    let other : word % (place + 1) < place + 1 = mod-lt word (omega arith) in
    let swapped = exchanged order (place, word) in
    let others = All-tail (λ p. p < length order) place places inside in
    let same : length swapped ≡ length order = length-swap order place (word % (place + 1)) in
    IsPermutation-trans order swapped (fold exchanged swapped (zip places words))
    (IsPermutation-swap order swapped place (word % (place + 1)) is_inside (omega (arith, other, is_inside)) refl)
    (shuffled places words swapped (subst (λ (n : ℕ). All (λ p. p < n) places) (sym same) others))

-- the hotel nights in rising order
abbrev rising : List ℕ
rising = 8 ∷ 9 ∷ 10 ∷ 11 ∷ 12 ∷ 13 ∷ 14 ∷ 15 ∷ []

rising_range : All (IsBetween 8 15) rising
rising_range = All-from_recursion (IsBetween 8 15) rising ((lit≤ tt, lit≤ tt), ((lit≤ tt, lit≤ tt), ((lit≤ tt, lit≤ tt), ((lit≤ tt, lit≤ tt), ((lit≤ tt, lit≤ tt), ((lit≤ tt, lit≤ tt), ((lit≤ tt, lit≤ tt), ((lit≤ tt, lit≤ tt), tt))))))))

places_inside : All (λ place. place < 8) (7 ∷ 6 ∷ 5 ∷ 4 ∷ 3 ∷ 2 ∷ 1 ∷ [])
places_inside = All-from_recursion (λ place. place < 8) (7 ∷ 6 ∷ 5 ∷ 4 ∷ 3 ∷ 2 ∷ 1 ∷ []) (lit< tt, (lit< tt, (lit< tt, (lit< tt, (lit< tt, (lit< tt, (lit< tt, tt)))))))

pub order_range : (words : List ℕ) → IsOrder (made_order words)
unfolding times
order_range words =
    let moved = shuffled (7 ∷ 6 ∷ 5 ∷ 4 ∷ 3 ∷ 2 ∷ 1 ∷ []) words rising places_inside in
    record {
      count = length_permutation rising (made_order words) moved;
      range = All-permutation (IsBetween 8 15) rising (made_order words) moved rising_range;
      apart = apart (made_order words) (λ n. let same = sum_by-IsPermutation (λ (m : ℕ). once (eqb m n)) rising (made_order words) moved in let before = few rising refl n in omega (arith, same, before));
    }

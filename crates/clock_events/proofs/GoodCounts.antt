-- How often a number occurs in a list, and how many numbers of a list are among others.
use Rattle.std.proofs.Common.{◌≡◌, ℕ, zero, suc, ◌+◌, ◌-◌, ◌==◌, ◌≤◌, ◌<◌, Bool, true, false, cond, List, [], ◌∷◌, length, take, get_or, refl, sym, ap, ◌∙◌, arith, subst, not, ◌||◌, ◌&&◌, nat_le, filter, count_by, All}
use Rattle.std.specs.List.{list_all, list_any}
use Rattle.std.proofs.lemmas.List.Sums.{AllPass-from_list_all}
use Rattle.std.proofs.lemmas.List.Elements.{All-head, All-tail, All-weaker}
use Rattle.std.proofs.lemmas.List.Filters.{sum_by-filter_both}
use Rattle.std.proofs.lemmas.Bool.Decides.{nat_tests}
use Rattle.std.proofs.lemmas.Bool.{not-true, and_parts}
use Rattle.clock_events.specs.Prelude.{IsBetween, AllBetween, is_distinct, hotel_nights}
use Rattle.auction_rules.proofs.Ranks.{count-cons}

-- whether a good is one of these
abbrev pub is_among : List ℕ → ℕ → Bool
is_among goods good = list_any (λ other. other == good) goods

-- a part has no more of what passes
pub count-filter : {X : Type 0} (p test : X → Bool) (xs : List X) → count_by p (filter test xs) ≤ count_by p xs
count-filter p test xs = omega (arith, sum_by-filter_both test (λ x. not (test x)) (λ x. refl) (λ x. cond (p x) 1 0) xs)

-- a number that a filter leaves out is not in what it keeps
pub count_left_out : (test : ℕ → Bool) (n : ℕ) → test n ≡ false → (ns : List ℕ) → count_by (λ m. m == n) (filter test ns) ≡ 0
count_left_out test n out [] = refl
count_left_out test n out (m ∷ ns) = by_test (test m) refl (count_left_out test n out ns)
  where
    other : (b : Bool) → test m ≡ true → (m == n) ≡ b → (m == n) ≡ false
    other false kept e = e
    other true kept e =
        let same : m ≡ n = grind (arith, nat_tests, e) in
        absurd (let clash : true ≡ false = sym kept ∙ ap test same ∙ out in cc)

    by_test : (b : Bool) → test m ≡ b → count_by (λ k. k == n) (filter test ns) ≡ 0 → count_by (λ k. k == n) (cond b (m ∷ filter test ns) (filter test ns)) ≡ 0
    by_test true kept ih = count-cons (λ k. k == n) m (filter test ns) ∙ rw (other (m == n) kept refl, ih) refl
    by_test false kept ih = ih

-- ---- the hotel nights

at_place : (k : ℕ) → k < 8 → count_by (λ m. 8 + k == m) hotel_nights ≡ 1
at_place zero h = refl
at_place (suc zero) h = refl
at_place (suc (suc zero)) h = refl
at_place (suc (suc (suc zero))) h = refl
at_place (suc (suc (suc (suc zero)))) h = refl
at_place (suc (suc (suc (suc (suc zero))))) h = refl
at_place (suc (suc (suc (suc (suc (suc zero)))))) h = refl
at_place (suc (suc (suc (suc (suc (suc (suc zero))))))) h = refl
at_place (suc (suc (suc (suc (suc (suc (suc (suc k)))))))) h = absurd (omega (arith, h))

one_night : (n : ℕ) → 8 ≤ n → n ≤ 15 → count_by (λ m. n == m) hotel_nights ≡ 1
one_night n low high =
    let e : 8 + (n - 8) ≡ n = omega (arith, low) in
    subst (λ k. count_by (λ m. k == m) hotel_nights ≡ 1) e (at_place (n - 8) (omega (arith, low, high)))

-- a number beside numbers that it is not among
count_beside : (n : ℕ) (ns ms : List ℕ) → is_among ns n ≡ false → count_by (is_among (n ∷ ns)) ms ≡ count_by (λ m. n == m) ms + count_by (is_among ns) ms
count_beside n ns [] out = refl
count_beside n ns (m ∷ ms) out =
    let ih = count_beside n ns ms out in
    let a = count-cons (is_among (n ∷ ns)) m ms in
    let b = count-cons (λ k. n == k) m ms in
    let c = count-cons (is_among ns) m ms in
    let d = by_test (n == m) refl in
    omega (arith, ih, a, b, c, d)
  where
    by_test : (b : Bool) → (n == m) ≡ b → cond (b || is_among ns m) 1 0 ≡ cond b 1 0 + cond (is_among ns m) 1 0
    by_test true e =
        let same : n ≡ m = grind (arith, nat_tests, e) in
        let no_more : is_among ns m ≡ false = ap (is_among ns) (sym same) ∙ out in
        rw no_more refl
    by_test false e = let zero_plus : 0 + cond (is_among ns m) 1 0 ≡ cond (is_among ns m) 1 0 = omega arith in sym zero_plus

-- what is not among numbers is not among the first of them
among_fewer : (n : ℕ) (ns : List ℕ) (turn : ℕ) → is_among ns n ≡ false → is_among (take turn ns) n ≡ false
among_fewer n [] zero out = refl
among_fewer n [] (suc turn) out = refl
among_fewer n (m ∷ ns) zero out = refl
among_fewer n (m ∷ ns) (suc turn) out = by_test (m == n) (among_fewer n ns turn) out
  where
    by_test : (b : Bool) → (is_among ns n ≡ false → is_among (take turn ns) n ≡ false) → (b || is_among ns n) ≡ false → (b || is_among (take turn ns) n) ≡ false
    by_test true ih out = out
    by_test false ih out = ih out

-- different hotel nights are as many among the hotel nights as they are
pub count_among : (turn : ℕ) (order : List ℕ) → turn ≤ length order → AllBetween 8 15 order → is_distinct order ≡ true → count_by (is_among (take turn order)) hotel_nights ≡ turn
count_among zero [] within range apart = refl
count_among zero (n ∷ order) within range apart = refl
count_among (suc turn) [] within range apart = absurd (omega (arith, within))
count_among (suc turn) (n ∷ order) within range apart =
    let parts = and_parts (not (is_among order n)) (is_distinct order) apart in
    let out = among_fewer n order turn (not-true (is_among order n) parts.0) in
    let rest = count_among turn order (omega (arith, within)) (All-tail (IsBetween 8 15) n order range) parts.1 in
    let between = All-head (IsBetween 8 15) n order range in
    let one = one_night n between.0 between.1 in
    let beside = count_beside n (take turn order) hotel_nights out in
    omega (arith, rest, one, beside)

-- a number of the first is among them
pub among_first : (order : List ℕ) (i turn : ℕ) → i < length order → i < turn → is_among (take turn order) (get_or order i 0) ≡ true
among_first [] i turn within early = absurd (omega (arith, within))
among_first (n ∷ order) i zero within early = absurd (omega (arith, early))
among_first (n ∷ order) zero (suc turn) within early = let e : (n == n) ≡ true = grind (arith, nat_tests) in rw e refl
among_first (n ∷ order) (suc i) (suc turn) within early = by_test (n == get_or order i 0) (among_first order i turn (omega (arith, within)) (omega (arith, early)))
  where
    by_test : (b : Bool) → is_among (take turn order) (get_or order i 0) ≡ true → (b || is_among (take turn order) (get_or order i 0)) ≡ true
    by_test true ih = refl
    by_test false ih = ih

-- ---- numbers that differ

none_among : (n : ℕ) (ns : List ℕ) → is_among ns n ≡ false → count_by (λ m. m == n) ns ≡ 0
none_among n [] out = refl
none_among n (m ∷ ns) out = count-cons (λ k. k == n) m ns ∙ by_test (m == n) (none_among n ns) out
  where
    by_test : (b : Bool) → (is_among ns n ≡ false → count_by (λ k. k == n) ns ≡ 0) → (b || is_among ns n) ≡ false → cond b 1 0 + count_by (λ k. k == n) ns ≡ 0
    by_test true ih out = absurd cc
    by_test false ih out = let none = ih out in omega (arith, none)

pub distinct_once : (ns : List ℕ) → is_distinct ns ≡ true → (good : ℕ) → count_by (λ m. m == good) ns ≤ 1
distinct_once [] apart good = omega arith
distinct_once (n ∷ ns) apart good =
    let parts = and_parts (not (is_among ns n)) (is_distinct ns) apart in
    let first = count-cons (λ m. m == good) n ns in
    let rest = by_test (n == good) refl (not-true (is_among ns n) parts.0) (distinct_once ns parts.1 good) in
    omega (arith, first, rest)
  where
    by_test : (b : Bool) → (n == good) ≡ b → is_among ns n ≡ false → count_by (λ m. m == good) ns ≤ 1 → cond b 1 0 + count_by (λ m. m == good) ns ≤ 1
    by_test true e out ih =
        let same : n ≡ good = grind (arith, nat_tests, e) in
        let none = subst (λ k. count_by (λ m. m == k) ns ≡ 0) same (none_among n ns out) in
        omega (arith, none)
    by_test false e out ih = omega (arith, ih)

-- a number below others is none of them
pub none_below : (low : ℕ) (ns : List ℕ) → All (λ n. low ≤ n) ns → (good : ℕ) → good < low → count_by (λ m. m == good) ns ≡ 0
none_below low [] above good under = refl
none_below low (n ∷ ns) above good under =
    let here : low ≤ n = All-head (λ m. low ≤ m) n ns above in
    let e : (n == good) ≡ false = grind (arith, nat_tests, here, under) in
    let none = none_below low ns (All-tail (λ m. low ≤ m) n ns above) good under in
    count-cons (λ m. m == good) n ns ∙ rw (e, none) refl

-- numbers that pass the test of a range
pub all_between : (low high : ℕ) (ns : List ℕ) → list_all (λ n. nat_le low n && nat_le n high) ns ≡ true → AllBetween low high ns
all_between low high ns passed = All-weaker (λ n. (nat_le low n && nat_le n high) ≡ true) (IsBetween low high) one ns (AllPass-from_list_all (λ n. nat_le low n && nat_le n high) ns passed)
  where
    one : (n : ℕ) → (nat_le low n && nat_le n high) ≡ true → IsBetween low high n
    one n e = (grind (arith, nat_tests, e), grind (arith, nat_tests, e))

-- Line ends in bytes.
use Rattle.std.proofs.Common.{◌≡◌, ℕ, ◌+◌, ◌<◌, ◌≤◌, ◌-◌, List, [], ◌∷◌, ◌++◌, length, take, drop, get_or, refl, ap, sym, ◌∙◌, true, false, Bool, arith, length-take, length-drop, subst, ◌||◌, ◌==◌, slice_range, take-take, drop-drop}
use Rattle.std.proofs.lemmas.List.{take_more, drop-take}
use Rattle.std.proofs.lemmas.Bool.Decides.{nat_tests}
use Rattle.std.proofs.lemmas.Bool.{or_parts}
use Rattle.tac_io.specs.LineText.{has_end, BeginsWithLine}

pub has_end-append : (xs ys : List ℕ) → has_end (xs ++ ys) ≡ (has_end xs || has_end ys)
has_end-append [] ys = refl
has_end-append (x ∷ xs) ys = or_cases (x == 10) (has_end (xs ++ ys)) (has_end xs) (has_end ys) (has_end-append xs ys)
  where
    or_cases : (a b c d : Bool) → b ≡ (c || d) → (a || b) ≡ ((a || c) || d)
    or_cases true b c d e = refl
    or_cases false b c d e = e

pub no_end-append : (xs ys : List ℕ) → has_end xs ≡ false → has_end ys ≡ false → has_end (xs ++ ys) ≡ false
no_end-append xs ys p q = has_end-append xs ys ∙ ap (λ b. b || has_end ys) p ∙ q

pub no_end-front : (xs ys : List ℕ) → has_end (xs ++ ys) ≡ false → has_end xs ≡ false
no_end-front xs ys h = (or_parts (has_end xs) (has_end ys) (sym (has_end-append xs ys) ∙ h)).0

not_end : (b : ℕ) → (b ≡ 10 → ⊥) → has_end (b ∷ []) ≡ false
not_end b ne = grind (arith, nat_tests)

pub no_end-more : (xs : List ℕ) (i : ℕ) → i < length xs → (get_or xs i 0 ≡ 10 → ⊥) → has_end (take i xs) ≡ false → has_end (take (i + 1) xs) ≡ false
no_end-more xs i lt ne h = ap has_end (take_more xs i 0 lt) ∙ no_end-append (take i xs) (get_or xs i 0 ∷ []) h (not_end (get_or xs i 0) ne)

-- a front and a rest of a part of xs, as parts of xs
front_part : (xs : List ℕ) (from to i : ℕ) → i ≤ to - from → take i (slice_range xs from to) ≡ slice_range xs from (from + i)
front_part xs from to i le =
    let size : from + i - from ≡ i = omega arith in
    take-take i (to - from) (drop from xs) le ∙ ap (λ n. take n (drop from xs)) (sym size)

rest_part : (xs : List ℕ) (from to i : ℕ) → from + i + 1 ≤ to → drop (i + 1) (slice_range xs from to) ≡ slice_range xs (from + i + 1) to
rest_part xs from to i le =
    let size : to - from ≡ (i + 1) + (to - (from + i + 1)) = omega arith in
    let place : from + (i + 1) ≡ from + i + 1 = omega arith in
    ap (λ n. drop (i + 1) (take n (drop from xs))) size
    ∙ drop-take (i + 1) (to - (from + i + 1)) (drop from xs)
    ∙ ap (take (to - (from + i + 1))) (drop-drop (i + 1) from xs ∙ ap (λ n. drop n xs) place)

length-slice_range : (xs : List ℕ) (from to : ℕ) → to ≤ length xs → length (slice_range xs from to) ≡ to - from
length-slice_range xs from to le = omega (arith, length-take (to - from) (drop from xs), length-drop from xs)

-- The first line of a part of xs, and the rest, are parts of xs.
pub cut_part : (xs : List ℕ) (from to i : ℕ) (unread : List ℕ) → unread ≡ slice_range xs from to → from ≤ to → to ≤ length xs → i < length unread
    → BeginsWithLine unread (take i unread) (drop (i + 1) unread)
    → BeginsWithLine unread (slice_range xs from (from + i)) (slice_range xs (from + i + 1) to) × (i ≡ length (slice_range xs from (from + i)))
cut_part xs from to i unread is order within lt b =
    let whole_len : length unread ≡ to - from = ap length is ∙ length-slice_range xs from to within in
    let front : take i unread ≡ slice_range xs from (from + i) = ap (take i) is ∙ front_part xs from to i (omega arith) in
    let back : drop (i + 1) unread ≡ slice_range xs (from + i + 1) to = ap (drop (i + 1)) is ∙ rest_part xs from to i (omega arith) in
    let size : length (slice_range xs from (from + i)) ≡ from + i - from = length-slice_range xs from (from + i) (omega arith) in
    (subst (λ rest. BeginsWithLine unread (slice_range xs from (from + i)) rest) back (subst (λ line. BeginsWithLine unread line (drop (i + 1) unread)) front b), omega arith)

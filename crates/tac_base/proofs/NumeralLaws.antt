-- The numerals among words, and the text of a number.
use Rattle.std.proofs.Common.{◌≡◌, ℕ, zero, suc, ◌+◌, ◌-◌, ◌*◌, ◌^◌, ◌<◌, ◌≤◌, Bool, true, false, cond, not, ◌&&◌, eqb, ltb, leb, List, [], ◌∷◌, Option, Some, None, length, get_or, drop, add-one, refl, sym, ap, subst, ◌∙◌, arith, rules, ℤ, pos, decimal, inl, inr, drop-cons, drop_of_length-le, option_and_then, option_map, IfSome, leb-true, le-leb}
use Rattle.std.proofs.lemmas.Bool.Decides.{nat_tests}
use Rattle.std.proofs.lemmas.Option.{cond_some}
use Rattle.std.proofs.lemmas.Str.Parse.{IsNumeralModel, numerals_by_fold, digits_value_short}
use Rattle.std.proofs.lemmas.Fmt.{digits_decimal, digits_value-decimal, decimal-digits_value, decimal_nonempty, first_decimal, decimal_digit}
use Rattle.std.specs.Str.{all_ascii_digits}
use Rattle.std.proofs.lemmas.Bool.{cases_lt}
use Rattle.tac_base.specs.Numerals.{is_numeral, value_from, numeral, signed_numeral, opposite, below, within_i64}

pub value_from-ge : (n : ℕ) (digits : List ℕ) → n ≤ value_from n digits
value_from-ge n [] = omega arith
value_from-ge n (digit ∷ digits) = let more : n * 10 + (digit - 48) ≤ value_from (n * 10 + (digit - 48)) digits = value_from-ge (n * 10 + (digit - 48)) digits in omega (arith, more)

pub below-some : (limit n : ℕ) → n < limit → below limit (Some n) ≡ Some n
below-some limit n lt = grind (arith, nat_tests)

pub below-none : (limit n : ℕ) → limit ≤ n → below limit (Some n) ≡ None
below-none limit n le = grind (arith, nat_tests)

pub is_past : (limit n : ℕ) → below limit (Some n) ≡ None → limit ≤ n
is_past limit n h = grind (arith, nat_tests)

-- a number that is too large grows with each further digit
pub stays_past : (limit n : ℕ) (digits : List ℕ) → below limit (Some n) ≡ None → below limit (Some (value_from n digits)) ≡ None
stays_past limit n digits h = below-none limit (value_from n digits) (let past : limit ≤ n = is_past limit n h in let more : n ≤ value_from n digits = value_from-ge n digits in omega (arith, past, more))

own : IsNumeralModel (λ ds. all_ascii_digits ds ≡ true) (value_from 0)
own = numerals_by_fold _ (search rules) value_from (search rules)

pub both_true : (a b : Bool) → a && b ≡ true → (a ≡ true) × (b ≡ true)
both_true true b h = (refl, h)
both_true false b h = absurd cc

-- what a numeral is made of
pub record IsSpelled (word : List ℕ) : Type 0 where
  pub digits : all_ascii_digits word ≡ true
  pub some : 0 < length word
  pub first : get_or word 0 0 ≡ 48 → length word ≡ 1

pub numeral_parts : (word : List ℕ) → is_numeral word ≡ true → IsSpelled word
numeral_parts [] h = absurd cc
numeral_parts (first ∷ rest) h =
    let parts = both_true (all_ascii_digits (first ∷ rest)) (not (eqb first 48 && ltb 0 (length rest))) h in
    record {
      digits = parts.0;
      some = omega arith;
      first = λ e. grind (arith, nat_tests, parts.1, e);
    }

pub is_numeral_from : (word : List ℕ) → IsSpelled word → is_numeral word ≡ true
is_numeral_from [] s = absurd (let some = s.some in omega arith)
is_numeral_from (first ∷ rest) s = let digits = s.digits in let one = s.first in grind (arith, nat_tests)

-- one digit more
value_step : (n i : ℕ) (digits : List ℕ) → i < length digits → value_from n (drop i digits) ≡ value_from (n * 10 + (get_or digits i 0 - 48)) (drop (i + 1) digits)
value_step n i digits lt = rw (add-one, drop-cons digits i 0) refl

pub overflows : (limit n i : ℕ) (digits : List ℕ) (total : ℕ) → i < length digits → value_from n (drop i digits) ≡ total → None ≡ below limit (Some (n * 10 + (get_or digits i 0 - 48))) → None ≡ below limit (Some total)
overflows limit n i digits total lt e h =
    let past = stays_past limit (n * 10 + (get_or digits i 0 - 48)) (drop (i + 1) digits) (sym h) in
    sym past ∙ ap (λ (t : ℕ). below limit (Some t)) (sym (value_step n i digits lt) ∙ e)

pub at_end : (limit n i : ℕ) (digits : List ℕ) (total : ℕ) → length digits ≤ i → value_from n (drop i digits) ≡ total → n < limit → Some n ≡ below limit (Some total)
at_end limit n i digits total le e lt =
    let same : n ≡ total = ap (value_from n) (sym (drop_of_length-le digits le)) ∙ e in
    sym (below-some limit n lt) ∙ ap (λ (t : ℕ). below limit (Some t)) same

-- ---- what is read is what is printed

-- a word that is a numeral is its number, printed
pub numeral_is : (digits : ℕ) (word : List ℕ) (n : ℕ) → numeral digits word ≡ Some n → n < 2 ^ 64 → (word ≡ decimal n) × (length word ≤ digits)
unfolding numeral
numeral_is digits word n h lt =
    let c = cond_some (is_numeral word && leb (length word) digits) (value_from 0 word) n h in
    let both = both_true (is_numeral word) (leb (length word) digits) c.0 in
    let parts = numeral_parts word both.0 in
    let small : value_from 0 word < 2 ^ 64 = omega (arith, c.1, lt) in
    let printed : decimal (value_from 0 word) ≡ word = decimal-digits_value own word parts.digits parts.some parts.first small in
    (sym printed ∙ ap decimal c.1, leb-true _ _ both.1)

spelled_decimal : (n : ℕ) → n < 2 ^ 64 → IsSpelled (decimal n)
spelled_decimal n lt = record {
  digits = digits_decimal own n lt;
  some = decimal_nonempty n lt;
  first = λ e. elim (cases_lt 0 n) [
    | inl above ↦ absurd (let first = first_decimal n above lt in omega (arith, first, e))
    | inr le ↦ let is : n ≡ 0 = omega (arith, le) in rw is (ap length (decimal_digit 0 (omega arith)))
  ];
}

-- a number that is printed is a numeral again
pub numeral_again : (digits n : ℕ) → n < 2 ^ 64 → length (decimal n) ≤ digits → numeral digits (decimal n) ≡ Some n
unfolding numeral
numeral_again digits n lt few =
    let is : is_numeral (decimal n) ≡ true = is_numeral_from (decimal n) (spelled_decimal n lt) in
    let short : leb (length (decimal n)) digits ≡ true = le-leb _ _ few in
    let test : is_numeral (decimal n) && leb (length (decimal n)) digits ≡ true = rw (is, short) refl in
    rw (test, digits_value-decimal own n lt) refl

-- ---- a numeral of few digits has a small number

-- a numeral of at most this many digits has a number of this many
pub numeral_limit : (digits limit : ℕ) (word : List ℕ) (n : ℕ) → digits ≤ limit → numeral digits word ≡ Some n → n < 10 ^ limit
unfolding numeral
numeral_limit digits limit word n few h =
    let c = cond_some (is_numeral word && leb (length word) digits) (value_from 0 word) n h in
    let both = both_true (is_numeral word) (leb (length word) digits) c.0 in
    let parts = numeral_parts word both.0 in
    let long : length word ≤ limit = omega (arith, leb-true _ _ both.1, few) in
    subst (λ (v : ℕ). v < 10 ^ limit) c.1 (digits_value_short own word limit parts.digits long)

pub short_value : (digits : ℕ) (word : List ℕ) (n : ℕ) → digits ≤ 18 → numeral digits word ≡ Some n → n < 10 ^ 18
short_value digits word n few h = numeral_limit digits 18 word n few h

below_is : (limit : ℕ) (o : Option ℕ) → ((n : ℕ) → o ≡ Some n → n < limit) → below limit o ≡ o
below_is limit None h = refl
below_is limit (Some n) h = below-some limit n (h n refl)

pub short_numeral : (digits : ℕ) (word : List ℕ) → digits ≤ 18 → below (2 ^ 64) (numeral digits word) ≡ numeral digits word
short_numeral digits word few = below_is (2 ^ 64) (numeral digits word) (λ n e. let small : n < 10 ^ 18 = short_value digits word n few e in omega (arith, small))

within_opposite : (o : Option ℕ) → ((n : ℕ) → o ≡ Some n → n < 10 ^ 18) → within_i64 (option_and_then opposite o) ≡ option_and_then opposite o
within_opposite None h = refl
within_opposite (Some zero) h = refl
within_opposite (Some (suc n)) h = let small : suc n < 10 ^ 18 = h (suc n) refl in grind (arith, nat_tests, small)

within_positive : (o : Option ℕ) → ((n : ℕ) → o ≡ Some n → n < 10 ^ 18) → within_i64 (option_map pos o) ≡ option_map pos o
within_positive None h = refl
within_positive (Some n) h = let small : n < 10 ^ 18 = h n refl in grind (arith, nat_tests, small)

either_within : (b : Bool) (x y : Option ℤ) → within_i64 x ≡ x → within_i64 y ≡ y → within_i64 (cond b x y) ≡ cond b x y
either_within true x y hx hy = hx
either_within false x y hx hy = hy

pub short_signed : (digits : ℕ) (word : List ℕ) → digits ≤ 18 → within_i64 (signed_numeral digits word) ≡ signed_numeral digits word
unfolding signed_numeral
short_signed digits [] few = refl
short_signed digits (first ∷ rest) few = either_within (eqb first 45) (option_and_then opposite (numeral digits rest)) (option_map pos (numeral digits (first ∷ rest)))
    (within_opposite (numeral digits rest) (λ n e. short_value digits rest n few e))
    (within_positive (numeral digits (first ∷ rest)) (λ n e. short_value digits (first ∷ rest) n few e))

pub short_bound : (digits : ℕ) (word : List ℕ) (r : Option ℕ) → r ≡ below (2 ^ 64) (numeral digits word) → digits ≤ 18 → IfSome r (λ n. n < 10 ^ 18)
short_bound digits word None e few = tt
short_bound digits word (Some n) e few = short_value digits word n few (sym (e ∙ short_numeral digits word few))

pub decimal_digits : (n : ℕ) → n < 2 ^ 64 → all_ascii_digits (decimal n) ≡ true
decimal_digits n lt = digits_decimal own n lt

pub numeral_digits : (digits : ℕ) (word : List ℕ) (n : ℕ) → numeral digits word ≡ Some n → IsSpelled word
unfolding numeral
numeral_digits digits word n h =
    let c = cond_some (is_numeral word && leb (length word) digits) (value_from 0 word) n h in
    numeral_parts word (both_true (is_numeral word) (leb (length word) digits) c.0).0

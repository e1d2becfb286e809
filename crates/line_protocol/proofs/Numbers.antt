-- The numbers of reply lines: what is read is spelled so, and what is spelled so is read.
use Rattle.std.proofs.Common.{◌≡◌, ℕ, ◌^◌, ◌<◌, ◌≤◌, Bool, true, false, cond, eqb, leb, List, [], ◌∷◌, Option, Some, None, refl, ap, subst, ◌∙◌, arith, ℤ, decimal, lit<, lit≤, inl, inr, ◌⊎◌, unsigned_abs, bytes_eq, eqb-true, leb-true, le-leb}
use Rattle.std.specs.Fmt.{signed_decimal}
use Rattle.std.proofs.lemmas.Option.{cond_some, same_Some}
use Rattle.std.proofs.lemmas.Slice.Eq.{bytes_eq-Decides}
use Rattle.std.proofs.lemmas.Fmt.{length-decimal-le}
use Rattle.tac_base.specs.Numerals.{numeral, signed_numeral}
use Rattle.tac_base.proofs.NumeralLaws.{numeral_is, numeral_again}
use Rattle.tac_base.proofs.Signed.{signed_is, signed_again}
use Rattle.line_protocol.specs.Replies.{place}
use Rattle.line_protocol.specs.ReplyForms.{◌>>=◌, ended, at_most, read_at_most, next_within, small_holding, holding_of, read_place}

-- ---- steps

-- the first step gave something, and the next one too
pub bound : {A B : Type 0} (o : Option A) (f : A → Option B) (y : B) → (o >>= f) ≡ Some y → (x : A) × (o ≡ Some x) × (f x ≡ Some y)
bound None f y h = absurd cc
bound (Some x) f y h = (x, refl, h)

-- nothing is left
pub ended_is : {A : Type 0} (value y : A) (words : List (List ℕ)) → ended value words ≡ Some y → (value ≡ y) × (words ≡ [])
ended_is value y [] h = (same_Some value y h, refl)
ended_is value y (word ∷ words) h = absurd cc

-- one of two ways
pub either_way : {A : Type 0} (b : Bool) (x y : Option A) (v : A) → cond b x y ≡ Some v → ((b ≡ true) × (x ≡ Some v)) ⊎ (y ≡ Some v)
either_way true x y v h = inl (refl, h)
either_way false x y v h = inr h

pub is_word : (word known : List ℕ) → bytes_eq word known ≡ true → word ≡ known
is_word word known h = (bytes_eq-Decides word known).0 h

-- ---- numbers up to a limit

at_most_is : (limit number n : ℕ) → at_most limit number ≡ Some n → (number ≡ n) × (n ≤ limit)
at_most_is limit number n h =
    let c = cond_some (leb number limit) number n h in
    (c.1, subst (λ (m : ℕ). m ≤ limit) c.1 (leb-true number limit c.0))

pub within_is : (limit : ℕ) (word : List ℕ) (n : ℕ) → limit < 2 ^ 32 → read_at_most limit word ≡ Some n → (word ≡ decimal n) × (n ≤ limit)
within_is limit word n small h =
    let b = bound (numeral 10 word) (at_most limit) n h in
    let m = at_most_is limit b.0 n b.2 in
    let few : n < 2 ^ 64 = omega (arith, m.1, small) in
    ((numeral_is 10 word n (b.1 ∙ ap (λ (k : ℕ). Some k) m.0) few).0, m.1)

pub within_again : (limit n : ℕ) → limit < 2 ^ 32 → n ≤ limit → read_at_most limit (decimal n) ≡ Some n
within_again limit n small le =
    let few : n < 10 ^ 10 = omega (arith, small, le) in
    rw (numeral_again 10 n (omega (arith, few)) (length-decimal-le 10 n (lit< tt) few (omega (arith, few))), le-leb n limit le) refl

-- the next word
pub next_is : (limit : ℕ) (words : List (List ℕ)) (next : ℕ × List (List ℕ)) → limit < 2 ^ 32 → next_within limit words ≡ Some next → (words ≡ decimal next.0 ∷ next.1) × (next.0 ≤ limit)
next_is limit [] next small h = absurd cc
next_is limit (word ∷ words) next small h =
    let b = bound (read_at_most limit word) (λ number. Some (number, words)) next h in
    let is = within_is limit word b.0 small b.1 in
    let same : (b.0, words) ≡ next = same_Some (b.0, words) next b.2 in
    subst (λ (x : ℕ × List (List ℕ)). (word ∷ words ≡ decimal x.0 ∷ x.1) × (x.0 ≤ limit)) same (ap (λ (w : List ℕ). w ∷ words) is.0, is.1)

pub next_again : (limit n : ℕ) (words : List (List ℕ)) → limit < 2 ^ 32 → n ≤ limit → next_within limit (decimal n ∷ words) ≡ Some (n, words)
next_again limit n words small le = rw (within_again limit n small le) refl

-- ---- positions

place_by : (first : ℕ) (rest : List ℕ) (position : ℕ) → ((eqb first 64 ≡ true) × (read_at_most 16777215 rest ≡ Some position)) ⊎ (None ≡ Some position) → (first ∷ rest ≡ place position) × (position ≤ 16777215)
place_by first rest position h =
    elim h [
      | inl is ↦
          let number = within_is 16777215 rest position (lit< tt) is.1 in
          (ap (λ (b : ℕ). b ∷ rest) (eqb-true first 64 is.0) ∙ ap (λ (r : List ℕ). 64 ∷ r) number.0, number.1)
      | inr e ↦ absurd cc
    ]

pub place_is : (word : List ℕ) (position : ℕ) → read_place word ≡ Some position → (word ≡ place position) × (position ≤ 16777215)
place_is [] position h = absurd cc
place_is (first ∷ rest) position h = place_by first rest position (either_way (eqb first 64) (read_at_most 16777215 rest) None position h)

-- ---- signed numbers

small_is : (holding z : ℤ) → small_holding holding ≡ Some z → (holding ≡ z) × (unsigned_abs z ≤ 1000000)
small_is holding z h =
    let c = cond_some (leb (unsigned_abs holding) 1000000) holding z h in
    (c.1, subst (λ (m : ℤ). unsigned_abs m ≤ 1000000) c.1 (leb-true (unsigned_abs holding) 1000000 c.0))

pub holding_is : (word : List ℕ) (z : ℤ) → holding_of word ≡ Some z → (word ≡ signed_decimal z) × (unsigned_abs z ≤ 1000000)
holding_is word z h =
    let b = bound (signed_numeral 10 word) small_holding z h in
    let m = small_is b.0 z b.2 in
    (signed_is 10 word z (lit≤ tt) (b.1 ∙ ap (λ (k : ℤ). Some k) m.0), m.1)

pub holding_again : (z : ℤ) → unsigned_abs z ≤ 1000000 → holding_of (signed_decimal z) ≡ Some z
holding_again z le =
    let few : unsigned_abs z < 10 ^ 10 = omega (arith, le) in
    rw (signed_again 10 z (omega (arith, few)) (length-decimal-le 10 (unsigned_abs z) (lit< tt) few (omega (arith, few))), le-leb (unsigned_abs z) 1000000 le) refl

pub dollars_again : (z : ℤ) → unsigned_abs z < 10 ^ 18 → signed_numeral 18 (signed_decimal z) ≡ Some z
dollars_again z few = signed_again 18 z (omega (arith, few)) (length-decimal-le 18 (unsigned_abs z) (lit< tt) few (omega (arith, few)))

-- A total over games is one fraction in lowest terms.
use Rattle.std.proofs.Common.{◌≡◌, ℕ, zero, suc, ◌*◌, ◌/◌, ◌%◌, ◌+◌, ◌<◌, ◌≤◌, ℤ, pos, negsuc, neg_ℤ, ◌*ℤ◌, unsigned_abs, refl, sym, ap, ◌∙◌, subst, arith, mul_comm, mul_right_comm, mul-pos, zero-mul, mul-lt-mul_of_pos_right, mod-lt}
use Rattle.std.specs.Int.{IsGcd}
use Rattle.std.proofs.Math.Nat.{mod-add-div', eq_of_mul-eq-mul_right, dvd-mod_iff, eq-one_of_dvd-one}
use Rattle.std.proofs.Math.IntN.{pos-*ℤ-pos, negsuc-*ℤ-pos}
use Rattle.std.proofs.lemmas.Nat.{mod-mul-add}
use Rattle.std.proofs.lemmas.Nat.Gcd.{dvd_refl, dvd_of_mod-eq-zero}
use Rattle.std.proofs.lemmas.Int.{unsigned_abs-mul}
use Rattle.tourney.specs.Rows.{IsAverage}

-- the remainder of a division, both numbers scaled
scaled_rest : (a u v : ℕ) → 1 ≤ u → 1 ≤ v → (a * v) % (u * v) ≡ a % u * v
scaled_rest a u v some more =
    let split : a / u * (u * v) + a % u * v ≡ a * v = parts (a / u) u v (a % u) ∙ ap (λ (n : ℕ). n * v) (mod-add-div' a u) in
    ap (λ (n : ℕ). n % (u * v)) (sym split) ∙ mod-mul-add (a / u) (u * v) (a % u * v) (mul-lt-mul_of_pos_right (mod-lt a some) more)
  where
    parts : (q u v r : ℕ) → q * (u * v) + r * v ≡ (r + q * u) * v
    parts q u v r = omega arith

-- one step of Euclid's
gcd_rest : (a u : ℕ) → IsGcd a u 1 → IsGcd u (a % u) 1
gcd_rest a u is = (is.1, (dvd-mod_iff 1 is.1).1 is.0, λ d whole rest. is.2 d ((dvd-mod_iff d whole).0 rest) whole)

-- a number that divides another one, where these have no common divisor but 1
divisor_one : (a u : ℕ) → IsGcd a u 1 → a % u ≡ 0 → u ≡ 1
divisor_one a u is none = eq-one_of_dvd-one (is.2 u (dvd_of_mod-eq-zero u none) (dvd_refl u))

-- equal fractions leave equal fractions
rests : (a u b v : ℕ) → 1 ≤ u → 1 ≤ v → a * v ≡ b * u → a % u * v ≡ b % v * u
rests a u b v some more same =
    sym (scaled_rest a u v some more) ∙ (λ i. same i % mul_comm u v i) ∙ scaled_rest b v u more some

some_rest : (r s u v : ℕ) → suc r * v ≡ s * u → 1 ≤ v → 1 ≤ s
some_rest r zero u v same some = absurd (omega (arith, same, mul-pos {m = suc r} {n = v} (omega arith) some, zero-mul u))
some_rest r (suc s) u v same some = omega arith

no_rest : (s u v : ℕ) → 0 * v ≡ s * u → 1 ≤ u → s ≡ 0
no_rest zero u v same some = refl
no_rest (suc s) u v same some = absurd (omega (arith, same, mul-pos {m = suc s} {n = u} (omega arith) some, zero-mul v))

-- equal fractions in lowest terms have equal denominators, by Euclid's on both at once
same_under : (most a u b v r : ℕ) → a % u ≡ r → u ≤ most → 1 ≤ u → 1 ≤ v → IsGcd a u 1 → IsGcd b v 1 → a * v ≡ b * u → u ≡ v
same_under zero a u b v r e few some more first second same = absurd (omega (arith, few, some))
same_under (suc most) a u b v zero e few some more first second same =
    let left : 0 * v ≡ b % v * u = ap (λ (n : ℕ). n * v) (sym e) ∙ rests a u b v some more same in
    divisor_one a u first e ∙ sym (divisor_one b v second (no_rest (b % v) u v left some))
same_under (suc most) a u b v (suc r) e few some more first second same =
    let left : suc r * v ≡ b % v * u = ap (λ (n : ℕ). n * v) (sym e) ∙ rests a u b v some more same in
    let less : suc r < u = subst (λ (n : ℕ). n < u) e (mod-lt a some) in
    let turned : u * (b % v) ≡ v * suc r = mul_comm u (b % v) ∙ sym left ∙ mul_comm (suc r) v in
    let rest : IsGcd u (suc r) 1 = subst (λ (n : ℕ). IsGcd u n 1) e (gcd_rest a u first) in
    let under : suc r ≡ b % v = same_under most u (suc r) v (b % v) (u % suc r) refl (omega arith) (omega arith) (some_rest r (b % v) u v left more) rest (gcd_rest b v second) turned in
    eq_of_mul-eq-mul_right (suc r) (omega arith) u v (ap (λ (n : ℕ). u * n) under ∙ turned)

-- a product of one sign is not one of the other
apart : (a b g : ℕ) → 1 ≤ g → pos a *ℤ pos g ≡ negsuc b *ℤ pos g → ⊥
apart a b g some same = none (a * g) (suc b * g) (mul-pos {m = suc b} {n = g} (omega arith) some) (sym (pos-*ℤ-pos a g) ∙ same ∙ negsuc-*ℤ-pos b g)
  where
    none : (m n : ℕ) → 1 ≤ n → pos m ≡ neg_ℤ (pos n) → ⊥
    none m zero some e = omega arith
    none m (suc n) some e = cc

-- numbers of one size that give one product are the same
same_number : (o p : ℤ) (g : ℕ) → 1 ≤ g → unsigned_abs o ≡ unsigned_abs p → o *ℤ pos g ≡ p *ℤ pos g → o ≡ p
same_number (pos a) (pos b) g some size same = ap pos size
same_number (negsuc a) (negsuc b) g some size same = ap negsuc (omega (arith, size))
same_number (pos a) (negsuc b) g some size same = absurd (apart a b g some same)
same_number (negsuc a) (pos b) g some size same = absurd (apart b a g some (sym same))

sizes : (o t : ℤ) (g u : ℕ) → o *ℤ pos g ≡ t *ℤ pos u → unsigned_abs o * g ≡ unsigned_abs t * u
sizes o t g u same = sym (unsigned_abs-mul o (pos g)) ∙ ap unsigned_abs same ∙ unsigned_abs-mul t (pos u)

-- fractions of one total and of one number of games are equal
crossed : (a b t g u v : ℕ) → 1 ≤ g → a * g ≡ t * u → b * g ≡ t * v → a * v ≡ b * u
crossed a b t g u v some first second =
    eq_of_mul-eq-mul_right g some (a * v) (b * u) (mul_right_comm a v g ∙ ap (λ (n : ℕ). n * v) first ∙ mul_right_comm t u v ∙ ap (λ (n : ℕ). n * u) (sym second) ∙ mul_right_comm b g u)

pub one_average : (t o p : ℤ) (g u v : ℕ) → 1 ≤ g → IsAverage t g o u → IsAverage t g p v → (o ≡ p) × (u ≡ v)
one_average t o p g u v some first second =
    let equal = crossed (unsigned_abs o) (unsigned_abs p) (unsigned_abs t) g u v some (sizes o t g u first.same) (sizes p t g v second.same) in
    let under : u ≡ v = same_under u (unsigned_abs o) u (unsigned_abs p) v (unsigned_abs o % u) refl (omega arith) first.positive second.positive first.lowest second.lowest equal in
    let size : unsigned_abs o ≡ unsigned_abs p = eq_of_mul-eq-mul_right v second.positive (unsigned_abs o) (unsigned_abs p) (equal ∙ ap (λ (n : ℕ). unsigned_abs p * n) under) in
    (same_number o p g some size (first.same ∙ ap (λ (n : ℕ). t *ℤ pos n) under ∙ sym second.same), under)

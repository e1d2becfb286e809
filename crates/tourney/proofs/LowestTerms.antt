-- A total over games, divided by their greatest common divisor.
use Rattle.std.proofs.Common.{◌≡◌, ℕ, zero, suc, ◌*◌, ◌/◌, ◌<◌, ◌≤◌, ℤ, pos, negsuc, neg_ℤ, ◌<ℤ◌, ◌≤ℤ◌, ◌*ℤ◌, unsigned_abs, refl, sym, ap, ◌∙◌, subst, arith, mul_comm, mul_assoc}
use Prim.Native.Nat.{◌∣◌}
use Rattle.std.specs.Int.{IsGcd}
use Rattle.std.proofs.Math.Nat.{div-mul_cancel, mul-dvd-mul_right, dvd_of_mul-dvd-mul_right, dvd-mul_right, pos_of_dvd_of_pos}
use Rattle.std.proofs.Math.IntN.{pos-*ℤ-pos, negsuc-*ℤ-pos}
use Rattle.std.proofs.lemmas.Int.{ints}
use Rattle.tourney.specs.Rows.{IsAverage, signed}

one : (n : ℕ) → 1 * n ≡ n
one n = omega arith

one_divides : (n : ℕ) → 1 ∣ n
one_divides n = subst (λ (m : ℕ). 1 ∣ m) (one n) (dvd-mul_right 1 n)

above_none : (a g n : ℕ) → a * g ≡ n → 1 ≤ n → (1 ≤ a) × (1 ≤ g)
above_none zero g n e some = absurd (omega (arith, e, some))
above_none (suc a) zero n e some = absurd (omega (arith, sym (times_none (suc a)) ∙ e, some))
  where
    times_none : (m : ℕ) → m * 0 ≡ 0
    times_none m = omega arith
above_none (suc a) (suc g) n e some = (omega arith, omega arith)

-- parts that are left have no common divisor but 1
lowest : (t n g a b : ℕ) → IsGcd t n g → a * g ≡ t → b * g ≡ n → 1 ≤ g → IsGcd a b 1
lowest t n g a b is first second some = (
  one_divides a,
  one_divides b,
  λ d da db.
      let whole : d * g ∣ g = is.2 (d * g) (subst (λ (m : ℕ). d * g ∣ m) first (mul-dvd-mul_right d da g)) (subst (λ (m : ℕ). d * g ∣ m) second (mul-dvd-mul_right d db g)) in
      dvd_of_mul-dvd-mul_right d some (subst (λ (m : ℕ). d * g ∣ m) (sym (one g)) whole),
)

pub signed_low : (total : ℤ) (n : ℕ) → total <ℤ pos 0 → signed total n ≡ neg_ℤ (pos n)
signed_low (pos t) n lt = absurd (omega (arith, ints, lt))
signed_low (negsuc t) n lt = refl

pub signed_high : (total : ℤ) (n : ℕ) → pos 0 ≤ℤ total → signed total n ≡ pos n
signed_high (pos t) n le = refl
signed_high (negsuc t) n le = absurd (omega (arith, ints, le))

pub divisor_some : (t n g : ℕ) → IsGcd t n g → 1 ≤ n → 0 < g
divisor_some t n g is some = pos_of_dvd_of_pos is.1 some

abs_signed : (total : ℤ) (n : ℕ) → unsigned_abs (signed total n) ≡ n
abs_signed (pos t) n = refl
abs_signed (negsuc t) zero = refl
abs_signed (negsuc t) (suc n) = refl

crossed : (a b g t n : ℕ) → a * g ≡ t → b * g ≡ n → a * n ≡ t * b
crossed a b g t n first second = ap (λ (m : ℕ). a * m) (sym second) ∙ moved a b g ∙ ap (λ (m : ℕ). m * b) first
  where
    moved : (a b g : ℕ) → a * (b * g) ≡ (a * g) * b
    moved a b g = ap (λ (m : ℕ). a * m) (mul_comm b g) ∙ sym (mul_assoc a g b)

same_value : (total : ℤ) (games g a b : ℕ) → a * g ≡ unsigned_abs total → b * g ≡ games → signed total a *ℤ pos games ≡ total *ℤ pos b
same_value (pos t) games g a b first second = pos-*ℤ-pos a games ∙ ap pos (crossed a b g t games first second) ∙ sym (pos-*ℤ-pos t b)
same_value (negsuc t) games g a b first second =
    turned a games ∙ ap (λ (n : ℕ). neg_ℤ (pos n)) (crossed a b g (suc t) games first second) ∙ sym (negsuc-*ℤ-pos t b)
  where
    none : (n : ℕ) → 0 * n ≡ 0
    none n = omega arith

    turned : (a n : ℕ) → neg_ℤ (pos a) *ℤ pos n ≡ neg_ℤ (pos (a * n))
    turned zero n = pos-*ℤ-pos 0 n ∙ (ap pos (none n) ∙ ap (λ (m : ℕ). neg_ℤ (pos m)) (sym (none n)))
    turned (suc a) n = negsuc-*ℤ-pos a n

-- a total over games, each divided by their greatest common divisor
pub average_is : (total over : ℤ) (games g : ℕ) → IsGcd (unsigned_abs total) games g → 1 ≤ games → over ≡ signed total (unsigned_abs total / g) → IsAverage total games over (games / g)
average_is total over games g is some e =
    let first : unsigned_abs total / g * g ≡ unsigned_abs total = div-mul_cancel g is.0 in
    let second : games / g * g ≡ games = div-mul_cancel g is.1 in
    let parts = above_none (games / g) g games second some in
    subst (λ (z : ℤ). IsAverage total games z (games / g)) (sym e) (record {
      same = same_value total games g (unsigned_abs total / g) (games / g) first second;
      positive = parts.0;
      lowest = subst (λ (n : ℕ). IsGcd n (games / g) 1) (sym (abs_signed total (unsigned_abs total / g))) (lowest (unsigned_abs total) games g (unsigned_abs total / g) (games / g) is first second parts.1);
    })

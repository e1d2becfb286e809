-- Equal words.
use Rattle.std.proofs.Common.{◌≡◌, ℕ, List, Bool, true, false, ◌||◌, refl, sym, ◌∙◌, bytes_eq}
use Rattle.std.specs.Cmp.{IsEquivalence}
use Rattle.std.proofs.lemmas.Cmp.{nat_list_eq_equiv}
use Rattle.std.proofs.lemmas.Slice.Eq.{bytes_eq-Decides}

laws : IsEquivalence bytes_eq
laws = nat_list_eq_equiv

pub itself : (word : List ℕ) → bytes_eq word word ≡ true
itself word = laws.refl word

pub same : (word other : List ℕ) → bytes_eq word other ≡ true → word ≡ other
same word other e = (bytes_eq-Decides word other).0 e

pub turned : (word other : List ℕ) (b : Bool) → bytes_eq word other ≡ b → bytes_eq other word ≡ b
turned word other b e = laws.symm other word ∙ e

-- words are different if a third is equal to only one of them
pub apart : (word one other : List ℕ) → bytes_eq word one ≡ true → bytes_eq word other ≡ false → bytes_eq one other ≡ false
apart word one other e n = sym (laws.congr word one other e) ∙ n

-- ---- cases

pub cases : (b : Bool) {P : Type 0} → (b ≡ true → P) → (b ≡ false → P) → P
cases true holds fails = holds refl
cases false holds fails = fails refl

pub first_fails : (a b : Bool) → (a || b) ≡ false → a ≡ false
first_fails true b h = absurd cc
first_fails false b h = refl

pub second_fails : (a b : Bool) → (a || b) ≡ false → b ≡ false
second_fails true b h = absurd cc
second_fails false b h = h

pub second_passes : (a b : Bool) → (a || b) ≡ true → a ≡ false → b ≡ true
second_passes true b h n = absurd cc
second_passes false b h n = h

pub first_passes : (a b : Bool) → (a || b) ≡ true → b ≡ false → a ≡ true
first_passes true b h n = refl
first_passes false b h n = absurd cc

pub no_clash : (a b : Bool) → a ≡ true → (a || b) ≡ false → ⊥
no_clash true b e h = cc
no_clash false b e h = cc

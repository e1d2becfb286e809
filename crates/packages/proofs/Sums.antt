-- Sums over the numbers below another.
use Rattle.std.proofs.Common.{◌≡◌, ℕ, ◌+◌, refl, arith, add-one}
use Rattle.packages.specs.Bounds.{sum_below}

pub sum_below_none : (f : ℕ → ℕ) → sum_below f 0 ≡ 0
unfolding sum_below
sum_below_none f = refl

pub sum_below_more : (f : ℕ → ℕ) (n : ℕ) → sum_below f (n + 1) ≡ sum_below f n + f n
unfolding sum_below
sum_below_more f n = rw add-one

-- four terms from one on
abbrev pub four : (ℕ → ℕ) → ℕ → ℕ
four f n = f n + f (n + 1) + f (n + 2) + f (n + 3)

-- the 28 terms, four by four
pub sum_below_fours : (f : ℕ → ℕ) → sum_below f 28 ≡ four f 0 + four f 4 + (four f 8 + four f 12) + (four f 16 + four f 20 + four f 24)
unfolding sum_below
sum_below_fours f = omega arith

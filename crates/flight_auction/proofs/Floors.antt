-- The drift for each bound and tick is the floor of its quotient.
use Rattle.std.proofs.Common.{◌≡◌, ℕ, ◌&&◌, Bool, true, refl, pos, ℤ, ◌-ℤ◌, ◌*ℤ◌, int_le, int_lt}
use Rattle.std.specs.List.{list_all, range_with_len}
use Rattle.auction_rules.specs.FlightRule.{drift}

is_floor : ℤ → ℕ → Bool
is_floor bound tick =
    int_le (pos 54 *ℤ (drift bound tick -ℤ pos 10)) (pos tick *ℤ (bound -ℤ pos 10))
    && int_lt (pos tick *ℤ (bound -ℤ pos 10)) (pos 54 *ℤ (drift bound tick -ℤ pos 9))

-- the 41 bounds from -10 on, and the 54 ticks
all_floors : list_all (λ b. list_all (λ tick. is_floor (pos b -ℤ pos 10) tick) (range_with_len 1 54)) (range_with_len 0 41) ≡ true
unfolding is_floor
all_floors = refl

-- What one unit more and one less of a good are worth to a seat, and how far holdings go.
use Rattle.std.proofs.Common.{◌≡◌, ℕ, [], ◌∷◌, pos, negsuc, refl}
use Rattle.bound_cert.specs.Trees.{leaf}
use Rattle.good_worth.specs.Worth.{one_more, one_less}
use Rattle.good_worth.specs.Worths.{Solution, Valuation, up_at, down_at}

-- an account holds no more than 200000 of a good, and is short of no more
holdings_stop_at_their_limits : (one_more (pos 200000) ≡ pos 200000) × (one_less (negsuc 199999) ≡ negsuc 199999) × (one_less (pos 0) ≡ negsuc 0)
holdings_stop_at_their_limits = (refl, refl, refl)

-- the total alone
solved : ℕ → Solution
solved total = record { total = total; allocation = []; tree = leaf [] }

-- one seat in: with another one the best total is 2150, and with none it is 0
seat : Valuation
seat = record { base = solved 1150; more = solved 2150 ∷ []; less = solved 0 ∷ [] }

seat_is_worth_1000_more_and_1150_less : (up_at seat 0 ≡ 1000) × (down_at seat 0 ≡ 1150)
unfolding seat solved
seat_is_worth_1000_more_and_1150_less = (refl, refl)

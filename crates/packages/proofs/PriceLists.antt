-- Prices in their range.
use Rattle.std.proofs.Common.{ℕ, ◌≤◌, refl, replicate}
use Rattle.std.proofs.lemmas.List.Elements.{All-replicate}
use Rattle.tac_base.specs.declared.limits.TheConstants.{DUAL_PRICE}
use Rattle.packages.specs.Prices.{ArePrices}

-- the same price for each good
pub equal_prices : (price : ℕ) → price ≤ DUAL_PRICE → ArePrices (replicate 28 price)
equal_prices price high = record { count = refl; each = All-replicate (λ p. p ≤ DUAL_PRICE) 28 price high }

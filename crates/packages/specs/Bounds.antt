-- The bounds that prices give for every allocation.
use Rattle.std.specs.Prelude.{ℕ, zero, suc, ◌+◌, ◌*◌, ℤ, pos, ◌+ℤ◌, ◌-ℤ◌, Bool, List, [], ◌∷◌, map, Option, Some, None, slice_index, filter}
use Rattle.std.specs.Int.{int_max}
use Rattle.tac_base.specs.Clients.{Preferences}
use Rattle.tac_base.specs.declared.limits.TheConstants.{GOODS}
use Rattle.game_text.specs.Accounts.{AccountFile}
use Rattle.packages.specs.Stocks.{stock_of}
use Rattle.packages.specs.declared.travel_packages.Package.{Package}
use Rattle.packages.specs.Packages.{use_of, utility_of}
use Rattle.packages.specs.Listing.{packages}

-- which packages are left to each client
abbrev pub Narrowing : Type 0
Narrowing = ℕ → Package → Bool

-- the sum of f over the numbers below n
unfoldable pub sum_below : (ℕ → ℕ) → ℕ → ℕ
sum_below f zero = 0
sum_below f (suc n) = sum_below f n + f n

-- what a package costs
abbrev pub cost_of : List ℕ → Package → ℕ
cost_of prices p = sum_below (λ good. slice_index prices good * use_of p good) GOODS

-- what the stock costs
abbrev pub stock_value : List ℤ → List ℕ → ℕ
stock_value holdings prices = sum_below (λ good. slice_index prices good * stock_of holdings good) GOODS

-- what a package is worth to a client beyond its cost
abbrev pub margin_of : Preferences → List ℕ → Package → ℤ
margin_of client prices p = pos (utility_of client p) -ℤ pos (cost_of prices p)

-- the greater of two numbers, or the only one
abbrev pub greater : Option ℤ → Option ℤ → Option ℤ
greater None b = b
greater (Some a) None = Some a
greater (Some a) (Some b) = Some (int_max a b)

-- the greatest number of a list; None if it is empty
abbrev pub greatest : List ℤ → Option ℤ
greatest [] = None
greatest (n ∷ ns) = greater (Some n) (greatest ns)

-- the sum of two numbers, if there are both
abbrev pub plus : Option ℤ → Option ℤ → Option ℤ
plus None b = None
plus (Some a) None = None
plus (Some a) (Some b) = Some (a +ℤ b)

-- a client's greatest margin among the packages that are left to it
abbrev pub best_margin : Preferences → List ℕ → (Package → Bool) → Option ℤ
best_margin client prices left = greatest (map (margin_of client prices) (filter left packages))

-- the sum of the greatest margins of clients; the first of them has this number
abbrev pub margins : Narrowing → List ℕ → ℕ → List Preferences → Option ℤ
margins left prices number [] = Some (pos 0)
margins left prices number (client ∷ clients) = plus (best_margin client prices (left number)) (margins left prices (number + 1) clients)

-- the leaf bound; None if no package is left to some client
abbrev pub leaf_bound : AccountFile → Narrowing → List ℕ → Option ℤ
leaf_bound account left prices = plus (Some (pos (stock_value account.holdings prices))) (margins left prices 0 account.clients)

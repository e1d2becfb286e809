-- The best allocations of an account and of those with one unit more and one unit less of each good.
use Rattle.std.specs.Prelude.{◌≡◌, ℕ, ◌-◌, ◌<◌, ◌≤◌, List, [], ◌∷◌, ◌++◌, length, slice_index_or}
use Rattle.tac_base.specs.declared.limits.TheConstants.{GOODS}
use Rattle.game_text.specs.Accounts.{AccountFile}
use Rattle.packages.specs.declared.travel_packages.Package.{Package}
use Rattle.bound_cert.specs.Trees.{Tree, leaf}
use Rattle.bound_cert.specs.Solutions.{IsSolution}
use Rattle.good_worth.specs.Worth as worth

-- a best allocation, what it is worth, and a certificate that none is worth more
pub record Solution : Type 0 where
  pub total : ℕ
  pub allocation : List Package
  pub tree : Tree

abbrev pub no_solution : Solution
no_solution = record { total = 0; allocation = []; tree = leaf [] }

abbrev pub Solves : AccountFile → Solution → Type 0
Solves account s = IsSolution account s.total s.allocation s.tree

-- the solutions of the account itself and, by good, of the accounts with one unit more and with one unit less
pub record Valuation : Type 0 where
  pub base : Solution
  pub more : List Solution
  pub less : List Solution

abbrev pub total_at : List Solution → ℕ → ℕ
total_at solutions good = (slice_index_or solutions good no_solution).total

-- what one unit more of a good adds
abbrev pub up_at : Valuation → ℕ → ℕ
up_at v good = total_at v.more good - v.base.total

-- what one unit less of a good takes
abbrev pub down_at : Valuation → ℕ → ℕ
down_at v good = v.base.total - total_at v.less good

-- for each of the first goods, a solution of the account that the change makes
pub record AreChanged (change : ℕ → AccountFile) (count : ℕ) (solutions : List Solution) : Type 0 where
  pub size : length solutions ≡ count
  pub each : (good : ℕ) → good < count → Solves (change good) (slice_index_or solutions good no_solution)

abbrev pub AreMore : AccountFile → List Solution → Type 0
AreMore account solutions = AreChanged (worth.more account) GOODS solutions

abbrev pub AreLess : AccountFile → List Solution → Type 0
AreLess account solutions = AreChanged (worth.less account) GOODS solutions

-- one more solution, for the changed account
pub record IsGrown (account : AccountFile) (before after : List Solution) : Type 0 where
  pub solution : Solution
  pub solves : Solves account solution
  pub items : after ≡ before ++ solution ∷ []

pub record AreWorths (account : AccountFile) (v : Valuation) : Type 0 where
  pub base : Solves account v.base
  pub more : AreMore account v.more
  pub less : AreLess account v.less

-- solutions for each good: none with one unit more is worth less than the base, and none with one less is worth more
pub record AreRanged (v : Valuation) : Type 0 where
  pub more_size : length v.more ≡ GOODS
  pub less_size : length v.less ≡ GOODS
  pub rises : (good : ℕ) → good < GOODS → v.base.total ≤ total_at v.more good
  pub falls : (good : ℕ) → good < GOODS → total_at v.less good ≤ v.base.total

-- A best allocation with a certificate, a proof of its bound in our own form.
use Rattle.std.specs.Prelude.{◌≡◌, ℕ, List, IsTrue}
use Rattle.game_text.specs.Accounts.{AccountFile}
use Rattle.packages.specs.declared.travel_packages.Package.{Package}
use Rattle.packages.specs.BestTotal.{IsBest, IsFeasible, total_of}
use Rattle.bound_cert.specs.Certificate.{holds, all_left}
use Rattle.bound_cert.specs.Trees.{Tree, IsCertificate}

-- The allocation is feasible and is worth the total, which is the best one.
pub record IsSolution (account : AccountFile) (total : ℕ) (allocation : List Package) (tree : Tree) : Type 0 where
  pub feasible : IsFeasible account allocation
  pub worth : total_of account.clients allocation ≡ total
  pub best : IsBest account total
  -- `tree` is the search's own proof that no allocation is worth more. No score depends on it, so it can be left out in reading.
  pub certificate : IsCertificate tree
  pub holds : IsTrue (holds account total all_left tree)

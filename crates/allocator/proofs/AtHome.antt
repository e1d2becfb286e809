-- Eight clients that stay at home, from which the search begins.
use Rattle.std.proofs.Common.{get_or, ◌≡◌, ℕ, zero, suc, ◌<◌, true, List, [], ◌∷◌, refl, arith, replicate}
use Rattle.std.proofs.lemmas.List.Sums.{AllPass-from_list_all}
use Rattle.allocator.specs.{Preferences, Package, is_package, total_of, AccountFile, IsReached}
use Rattle.packages.specs.declared.travel_packages.Package.TheVariants as kinds

-- packages of clients that stay at home are worth nothing
worthless : (n : ℕ) (clients : List Preferences) → total_of clients (replicate n kinds.None) ≡ 0
worthless zero [] = refl
worthless zero (client ∷ clients) = refl
worthless (suc n) [] = refl
worthless (suc n) (client ∷ clients) = omega (arith, worthless n clients)

all_at_home : (k : ℕ) (d : Package) → k < 8 → is_package (get_or (replicate 8 kinds.None) k d) ≡ true
all_at_home k d lt = AllPass-from_list_all is_package (replicate 8 kinds.None) refl k d lt

pub reached_none : (account : AccountFile) → IsReached account (replicate 8 kinds.None) 0
reached_none account = record {
  feasible = record { eight = refl; lawful = all_at_home; enough = λ good lt. omega arith };
  worth = worthless 8 account.clients;
}

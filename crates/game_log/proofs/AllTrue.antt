-- If a test answers true of all items of a list, what it says then holds of each.
use Rattle.std.proofs.Common.{◌≡◌, Bool, true, false, List, length, arith, MatchBool}
use Rattle.std.specs.List.{AllByRecursion, AllWithin}
use Rattle.std.proofs.lemmas.List.Elements.{recursion_from_All}

pub all_true : {X : Type 0} (P : X → Type 0) (r : Bool) (xs : List X) (Otherwise : Type 0) → MatchBool r (AllWithin P xs 0 (length xs)) Otherwise → r ≡ true → AllByRecursion P xs
all_true P true xs Otherwise holds is = recursion_from_All P xs (λ k d inside. holds k d (omega arith) inside)
all_true P false xs Otherwise holds is = absurd cc

-- A name has at most one file, and reading it one answer.
use Rattle.std.proofs.Common.{◌≡◌, List, ℕ, Option, Some, Result, Ok, Err}

pub same_file : (file : Option (List ℕ)) (a b : List ℕ) → file ≡ Some a → file ≡ Some b → a ≡ b
same_file file a b e f = cc

pub not_both : {A E : Type 0} (read : Result A E) (x : A) (fault : E) → read ≡ Ok x → read ≡ Err fault → ⊥
not_both read x fault e f = absurd (cc)

pub same_value : {A E : Type 0} (read : Result A E) (x y : A) → read ≡ Ok x → read ≡ Ok y → x ≡ y
same_value read x y e f = cc

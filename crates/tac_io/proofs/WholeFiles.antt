-- A known file, read piece by piece.
use Rattle.std.proofs.Common.{◌≡◌, ℕ, ◌+◌, List, ◌++◌, take, drop, ap, sym, subst, ◌∙◌, take-add, None, Some, IfSome, IsSome, Option}
use Rattle.tac_io.specs.Known.{IsAtEnd, then_known}
use Rattle.tac_io.proofs.KnownPieces.{then_known-nothing, then_known-twice}

-- what is known of the file of that name is these bytes, and then what is left
abbrev pub IsReading : Option (List ℕ → Option (List ℕ)) → List ℕ → List ℕ → Option (List ℕ) → Type 0
IsReading content name done left = IfSome content (λ files. IsSome (files name) × (files name ≡ then_known done left))

-- The first at bytes, which stayed, are followed by n that were read.
pub reads_on : (content : Option (List ℕ → Option (List ℕ))) (name old new : List ℕ) (at n : ℕ) (left rest : Option (List ℕ)) → IsReading content name (take at old) left
    → take at new ≡ take at old → left ≡ then_known (take n (drop at new)) rest → IsReading content name (take (at + n) new) rest
reads_on None name old new at n left rest h same e = tt
reads_on (Some files) name old new at n left rest h same e = (
  h.0,
  h.1 ∙ ap (then_known (take at old)) e ∙ then_known-twice rest (take at old) (take n (drop at new))
      ∙ ap (λ done. then_known (done ++ take n (drop at new)) rest) (sym same) ∙ ap (λ done. then_known done rest) (sym (take-add at n new)),
)

-- a file that gave nothing more is at its end
pub still_at_end : (left left' : Option (List ℕ)) (piece : List ℕ) (n : ℕ) → n ≡ 0 → left ≡ then_known (take n piece) left' → IsAtEnd left → IsAtEnd left'
still_at_end left left' piece n none gave end = subst IsAtEnd (gave ∙ (ap (λ (k : ℕ). then_known (take k piece) left') none ∙ then_known-nothing left')) end

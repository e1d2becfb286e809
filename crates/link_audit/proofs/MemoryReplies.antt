-- Replies for want of memory, one after another.
use Rattle.std.proofs.Common.{◌≡◌, ℕ, zero, suc, ◌+◌, List, [], ◌∷◌, Bool, cond, take, refl, ap, ◌∙◌, arith, bytes_eq}
use Rattle.std.proofs.lemmas.List.Sums.{sum_by-cons}
use Rattle.link_audit.specs.{Said, memory_replies}
use Rattle.line_protocol.specs.declared.asking.RequestFault.TheVariants.{Memory}
use Rattle.line_protocol.specs.declared.saying.Said.TheVariants as said

module _ (text : Said → List ℕ) where
  none_of : (n : ℕ) → memory_replies text (take n []) ≡ 0
  none_of zero = refl
  none_of (suc n) = refl

  -- no reply is left
  pub no_more : (count n told : ℕ) (replies : List (List ℕ)) → replies ≡ [] → count + memory_replies text (take n replies) ≡ told → count ≡ told
  no_more count n told replies none is =
      let left : memory_replies text (take n replies) ≡ 0 = ap (λ (l : List (List ℕ)). memory_replies text (take n l)) none ∙ none_of n in
      omega (arith, left, is)

  -- one reply more was compared
  pub one_more : (count count' n m told : ℕ) (reply : List ℕ) (replies replies' : List (List ℕ)) (same : Bool) → n ≡ suc m → replies ≡ reply ∷ replies' → bytes_eq (text (said.Fault Memory)) reply ≡ same
      → count' ≡ count + cond same 1 0 → count + memory_replies text (take n replies) ≡ told → count' + memory_replies text (take m replies') ≡ told
  one_more count count' n m told reply replies replies' same room are test counted is =
      let first : memory_replies text (take n replies) ≡ cond (bytes_eq (text (said.Fault Memory)) reply) 1 0 + memory_replies text (take m replies') =
      (λ i. memory_replies text (take (room i) (are i))) ∙ sum_by-cons (λ (r : List ℕ). cond (bytes_eq (text (said.Fault Memory)) r) 1 0) reply (take m replies') in
      let here : memory_replies text (take n replies) ≡ cond same 1 0 + memory_replies text (take m replies') = first ∙ ap (λ (b : Bool). cond b 1 0 + memory_replies text (take m replies')) test in
      omega (arith, here, counted, is)

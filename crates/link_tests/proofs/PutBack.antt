-- A list whose first two were replaced by others that read alike.
use Rattle.std.proofs.Common.{◌≡◌, List, [], ◌∷◌, ◌++◌, map, sym, ap, ◌∙◌, append-nil}

module _ {A B : Type 0} where
  -- the first two were replaced by others that read alike, and the rest was added again
  pub put_back : (f : A → B) (all all0 all1 none desks rest rest' left : List A) (a b a' b' : A) → map f all ++ map f left ≡ map f all0 ++ map f rest' → left ≡ [] → none ≡ [] → all1 ≡ none ++ a' ∷ [] → all0 ≡ all1 ++ b' ∷ []
      → rest' ≡ rest → desks ≡ a ∷ b ∷ rest → f a' ≡ f a → f b' ≡ f b → map f all ≡ map f desks
  put_back f all all0 all1 none desks rest rest' left a b a' b' kept end empty first second same whole fa fb =
      let two : all0 ≡ a' ∷ b' ∷ [] = second ∙ ap (λ (l : List A). l ++ b' ∷ []) (first ∙ ap (λ (l : List A). l ++ a' ∷ []) empty) in
      sym (ap (λ (l : List A). map f all ++ map f l) end ∙ append-nil (map f all)) ∙ (kept ∙ ((λ i. map f (two i) ++ map f (same i)) ∙ ((λ i. fa i ∷ fb i ∷ map f rest) ∙ sym (ap (map f) whole))))

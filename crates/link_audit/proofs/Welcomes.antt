-- The first lines that a link was sent, one by one.
use Rattle.std.proofs.Common.{◌≡◌, ℕ, ◌+◌, ◌<◌, List, [], ◌∷◌, ◌++◌, length, take, drop, get_or, sym, ap, ◌∙◌, append_assoc, take-append-drop}
use Rattle.std.proofs.lemmas.List.{take_more, drop_more}
use Rattle.link_audit.proofs.Leading.{other_replies}

-- what follows the same lines
pub same_rest : (lines rest rest' : List (List ℕ)) → lines ++ rest ≡ lines ++ rest' → rest ≡ rest'
same_rest [] rest rest' is = is
same_rest (line ∷ lines) rest rest' is = same_rest lines rest rest' (ap other_replies is)

module _ (whole : List (List ℕ)) (first : List ℕ) (lines : List (List ℕ)) (n : ℕ) (row : List ℕ) (low : n < length lines) (row_is : row ≡ get_or lines n []) (rest : List (List ℕ))
    (came : whole ≡ (first ∷ take n lines) ++ rest) where
  pub welcome_more : (rest' : List (List ℕ)) → rest ≡ row ∷ rest' → whole ≡ (first ∷ take (n + 1) lines) ++ rest'
  welcome_more rest' is =
      came
      ∙ (ap (λ (l : List (List ℕ)). (first ∷ take n lines) ++ l) (is ∙ ap (λ (r : List ℕ). r ∷ rest') row_is)
      ∙ (sym (append_assoc (first ∷ take n lines) (get_or lines n [] ∷ []) rest') ∙ ap (λ (l : List (List ℕ)). (first ∷ l) ++ rest') (sym (take_more lines n [] low))))

  pub welcome_not : ((others : List (List ℕ)) → rest ≡ row ∷ others → ⊥) → (others : List (List ℕ)) → whole ≡ (first ∷ lines) ++ others → ⊥
  welcome_not none others is =
      let split : lines ++ others ≡ take n lines ++ (get_or lines n [] ∷ (drop (n + 1) lines ++ others)) =
      ap (λ (l : List (List ℕ)). l ++ others) (sym (take-append-drop n lines))
      ∙ (append_assoc (take n lines) (drop n lines) others ∙ ap (λ (l : List (List ℕ)). take n lines ++ (l ++ others)) (drop_more lines n [] low)) in
      let both : take n lines ++ rest ≡ take n lines ++ (get_or lines n [] ∷ (drop (n + 1) lines ++ others)) = ap other_replies (sym came ∙ is) ∙ split in
      none (drop (n + 1) lines ++ others) (same_rest (take n lines) rest (get_or lines n [] ∷ (drop (n + 1) lines ++ others)) both ∙ ap (λ (r : List ℕ). r ∷ (drop (n + 1) lines ++ others)) (sym row_is))

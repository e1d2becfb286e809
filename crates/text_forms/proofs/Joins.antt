-- Joined words are cut again.
use Rattle.std.proofs.Common.{◌≡◌, ℕ, false, eqb, List, [], ◌∷◌, ◌++◌, refl, ap, ◌∙◌, eq-eqb}
use Rattle.std.specs.List.{AllByRecursion, join_with_byte}
use Rattle.std.proofs.lemmas.List.Elements.{All-from_recursion}
use Rattle.std.proofs.lemmas.List.Splits.{slice_split_none, slice_split_at}
use Rattle.text_forms.specs.Words.{parts_of}
use Rattle.tac_base.proofs.Signed.{Lacks}

pub parts_one : (separator : ℕ) (word : List ℕ) → Lacks separator word → parts_of separator word ≡ word ∷ []
parts_one separator word lacks = slice_split_none (λ b. eqb b separator) word (All-from_recursion (λ b. eqb b separator ≡ false) word lacks)

pub parts_more : (separator : ℕ) (word rest : List ℕ) → Lacks separator word → parts_of separator (word ++ separator ∷ rest) ≡ word ∷ parts_of separator rest
parts_more separator word rest lacks = slice_split_at (λ b. eqb b separator) word separator rest (All-from_recursion (λ b. eqb b separator ≡ false) word lacks) (eq-eqb separator separator refl)

-- a list of words, none of which has the separator
pub joined_parts : (separator : ℕ) (word : List ℕ) (words : List (List ℕ)) → Lacks separator word → AllByRecursion (Lacks separator) words → parts_of separator (join_with_byte separator (word ∷ words)) ≡ word ∷ words
joined_parts separator word [] lacks others = parts_one separator word lacks
joined_parts separator word (next ∷ words) lacks others =
    parts_more separator word (join_with_byte separator (next ∷ words)) lacks ∙ ap (λ (ws : List (List ℕ)). word ∷ ws) (joined_parts separator next words others.0 others.1)

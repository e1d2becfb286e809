-- Words that are joined by spaces, and the words of what was joined.
use Rattle.std.proofs.Common.{◌≡◌, ℕ, Bool, true, false, not, eqb, List, [], ◌∷◌, ◌++◌, length, refl, sym, ap, ◌∙◌, arith, inl, inr, ◌⊎◌, codes, if◌then◌else◌, bytes_eq}
use Rattle.std.specs.List.{list_all, AllByRecursion, join_with_byte}
use Rattle.std.proofs.lemmas.Slice.Eq.{bytes_eq-Decides}
use Rattle.std.proofs.lemmas.List.Splits.{join_with_byte-slice_split, length-slice_split}
use Rattle.std.proofs.lemmas.Bool.{not-true}
use Rattle.tac_base.proofs.NumeralLaws.{both_true}
use Rattle.tac_base.proofs.Signed.{Lacks}
use Rattle.text_forms.specs.Words.{words_of}
use Rattle.text_forms.proofs.Joins.{parts_more}

-- whether an auction is closed
abbrev pub state_word : Bool → List ℕ
state_word closed = if closed then codes "closed" else codes "open"

-- a word that is tested byte for byte
pub lacks : (byte : ℕ) (word : List ℕ) → list_all (λ b. not (eqb b byte)) word ≡ true → Lacks byte word
lacks byte [] h = tt
lacks byte (first ∷ rest) h =
    let both = both_true (not (eqb first byte)) (list_all (λ b. not (eqb b byte)) rest) h in
    (not-true (eqb first byte) both.0, lacks byte rest both.1)

-- words without spaces before any bytes
pub words_before : (words : List (List ℕ)) (last : List ℕ) → AllByRecursion (Lacks 32) words → words_of (join_with_byte 32 (words ++ last ∷ [])) ≡ words ++ words_of last
words_before [] last h = refl
words_before (word ∷ []) last h = parts_more 32 word last h.0
words_before (word ∷ next ∷ words) last h =
    parts_more 32 word (join_with_byte 32 ((next ∷ words) ++ last ∷ [])) h.0 ∙ ap (λ (ws : List (List ℕ)). word ∷ ws) (words_before (next ∷ words) last h.1)

-- a line has a word
some_word : (line : List ℕ) (words : List (List ℕ)) → words_of line ≡ words → (first : List ℕ) × (others : List (List ℕ)) × (words ≡ first ∷ others)
some_word line [] e = absurd (let none : length (words_of line) ≡ 0 = ap length e in omega (arith, none, length-slice_split (λ b. eqb b 32) line))
some_word line (first ∷ others) e = (first, others, refl)

-- the first word of a line and the others, which are the line again where they are joined
pub record HasWords (line first : List ℕ) (others : List (List ℕ)) : Type 0 where
  pub words : words_of line ≡ first ∷ others
  pub joined : join_with_byte 32 (first ∷ others) ≡ line

pub has_words : (line : List ℕ) → (first : List ℕ) × (others : List (List ℕ)) × HasWords line first others
has_words line =
    let s = some_word line (words_of line) refl in
    (s.0, s.1, record { words = s.2; joined = sym (ap (join_with_byte 32) s.2) ∙ join_with_byte-slice_split 32 line })

same_by : (word known : List ℕ) (b : Bool) → bytes_eq word known ≡ b → (word ≡ known) ⊎ (bytes_eq word known ≡ false)
same_by word known true h = inl ((bytes_eq-Decides word known).0 h)
same_by word known false h = inr h

-- a word is a known one, or differs from it
pub same_or_not : (word known : List ℕ) → (word ≡ known) ⊎ (bytes_eq word known ≡ false)
same_or_not word known = same_by word known (bytes_eq word known) refl

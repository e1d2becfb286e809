-- Lines that are printed good by good.
use Rattle.std.proofs.Common.{◌≡◌, ℕ, ◌+◌, List, [], ◌∷◌, ◌++◌, ◌∙◌, ap, sym, add-one, codes, append_assoc, append-nil}
use Rattle.std.proofs.lemmas.Grind.{flat_map-append}
use Rattle.std.proofs.lemmas.List.Concat.{flat_map-cons}
use Rattle.text_forms.specs.Lines.{text_of}
use Rattle.good_worth.specs.{Valuation, lines_below, head_lines, base_lines, changed_lines, worth_text}

pub no_text : (lines : ℕ → List (List ℕ)) (old : List ℕ) → old ≡ old ++ text_of (lines_below lines 0)
unfolding lines_below
no_text lines old = sym (append-nil old)

more_below : (lines : ℕ → List (List ℕ)) (n : ℕ) → lines_below lines (n + 1) ≡ lines_below lines n ++ lines n
unfolding lines_below
more_below lines n = rw add-one

text_more : (lines : ℕ → List (List ℕ)) (n : ℕ) → text_of (lines_below lines (n + 1)) ≡ text_of (lines_below lines n) ++ text_of (lines n)
text_more lines n = ap text_of (more_below lines n) ∙ flat_map-append (λ line. line ++ 10 ∷ []) (lines_below lines n) (lines n)

pub lines_more : (lines : ℕ → List (List ℕ)) (n : ℕ) (old out new : List ℕ) → out ≡ old ++ text_of (lines_below lines n) → new ≡ out ++ text_of (lines n) → new ≡ old ++ text_of (lines_below lines (n + 1))
lines_more lines n old out new before after =
    after ∙ ap (λ (t : List ℕ). t ++ text_of (lines n)) before ∙ append_assoc old (text_of (lines_below lines n)) (text_of (lines n)) ∙ ap (λ (t : List ℕ). old ++ t) (sym (text_more lines n))

-- four pieces, the last of which is a line
four_pieces : (h b c : List (List ℕ)) (e : List ℕ) → text_of (h ++ (b ++ (c ++ e ∷ []))) ≡ ((text_of h ++ text_of b) ++ text_of c) ++ (e ++ 10 ∷ [])
four_pieces h b c e =
    let ended : List ℕ → List ℕ = λ line. line ++ 10 ∷ [] in
    let last : text_of (e ∷ []) ≡ e ++ 10 ∷ [] = flat_map-cons ended e [] ∙ append-nil (e ++ 10 ∷ []) in
    let third : text_of (c ++ e ∷ []) ≡ text_of c ++ (e ++ 10 ∷ []) = flat_map-append ended c (e ∷ []) ∙ ap (λ (t : List ℕ). text_of c ++ t) last in
    let second : text_of (b ++ (c ++ e ∷ [])) ≡ text_of b ++ (text_of c ++ (e ++ 10 ∷ [])) = flat_map-append ended b (c ++ e ∷ []) ∙ ap (λ (t : List ℕ). text_of b ++ t) third in
    flat_map-append ended h (b ++ (c ++ e ∷ [])) ∙ ap (λ (t : List ℕ). text_of h ++ t) second
    ∙ sym (append_assoc (text_of h) (text_of b) (text_of c ++ (e ++ 10 ∷ []))) ∙ sym (append_assoc (text_of h ++ text_of b) (text_of c) (e ++ 10 ∷ []))

pub whole : (v : Valuation) (a b c d : List ℕ) → a ≡ text_of (head_lines v) → b ≡ a ++ text_of (base_lines v) → c ≡ b ++ text_of (lines_below (changed_lines v) 28) → d ≡ c ++ (codes "end" ++ 10 ∷ []) → d ≡ worth_text v
whole v a b c d head base changed end =
    end ∙ ap (λ (t : List ℕ). t ++ (codes "end" ++ 10 ∷ [])) (changed ∙ ap (λ (t : List ℕ). t ++ text_of (lines_below (changed_lines v) 28)) (base ∙ ap (λ (t : List ℕ). t ++ text_of (base_lines v)) head))
    ∙ sym (four_pieces (head_lines v) (base_lines v) (lines_below (changed_lines v) 28) (codes "end"))

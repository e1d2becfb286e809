-- Going from line to line.
use Rattle.std.proofs.Common.{◌≡◌, ℕ, ◌+◌, Bool, true, false, cond, List, [], ◌∷◌, Ok, refl, sym, ap, subst, ◌∙◌, ◌==◌, ◌&&◌}
use Rattle.std.specs.List.{onto_first}
use Rattle.text_forms.specs.{parts_of, Remaining, is_comment, before, lines_from, next_of}
use Rattle.text_forms.specs.Blocks.{IsFirstKept}

-- a list of parts is never empty
abbrev pub HasPart : List (List ℕ) → Type 0
HasPart parts = (part : List ℕ) × (others : List (List ℕ)) × (parts ≡ part ∷ others)

onto_has_part : (b : ℕ) (parts : List (List ℕ)) → HasPart (onto_first b parts)
onto_has_part b [] = (_, _, refl)
onto_has_part b (part ∷ parts) = (_, _, refl)

either_has_part : (b : Bool) (x y : List (List ℕ)) → HasPart x → HasPart y → HasPart (cond b x y)
either_has_part true x y hx hy = hx
either_has_part false x y hx hy = hy

pub has_part : (separator : ℕ) (bytes : List ℕ) → HasPart (parts_of separator bytes)
has_part separator [] = (_, _, refl)
has_part separator (b ∷ bytes) = either_has_part (b == separator) ([] ∷ parts_of separator bytes) (onto_first b (parts_of separator bytes)) (_, _, refl) (onto_has_part b (parts_of separator bytes))

-- a line that has an end stands before the others
line_before : (skips : Bool) (number : ℕ) (line after : List ℕ) → lines_from skips number (line ∷ parts_of 10 after) ≡ before skips number line (lines_from skips (number + 1) (parts_of 10 after))
line_before skips number line after = let h = has_part 10 after in rw h.2 refl

-- a line of which the test for comments is known
abbrev pub chosen : Bool → ℕ → List ℕ → Remaining → Remaining
chosen skipped number line others = cond skipped others (record others { lines = record { number = number; bytes = line } ∷ others.lines })

pub one_line : (skips : Bool) (number : ℕ) (rest line after : List ℕ) (skipped : Bool) → parts_of 10 rest ≡ line ∷ parts_of 10 after → skipped ≡ skips && is_comment line
    → lines_from skips number (parts_of 10 rest) ≡ chosen skipped number line (lines_from skips (number + 1) (parts_of 10 after))
one_line skips number rest line after skipped cut test =
    ap (lines_from skips number) cut ∙ line_before skips number line after ∙ ap (λ (b : Bool). cond b (lines_from skips (number + 1) (parts_of 10 after)) (record (lines_from skips (number + 1) (parts_of 10 after)) { lines = record { number = number; bytes = line } ∷ (lines_from skips (number + 1) (parts_of 10 after)).lines })) (sym test)

pub skips_one : (skips : Bool) (number : ℕ) (rest line after : List ℕ) (left : Remaining) → parts_of 10 rest ≡ line ∷ parts_of 10 after → true ≡ skips && is_comment line → lines_from skips number (parts_of 10 rest) ≡ left
    → lines_from skips (number + 1) (parts_of 10 after) ≡ left
skips_one skips number rest line after left cut test so_far = sym (one_line skips number rest line after true cut test) ∙ so_far

stops : (skips : Bool) (number : ℕ) (rest line after : List ℕ) (left : Remaining) → parts_of 10 rest ≡ line ∷ parts_of 10 after → false ≡ skips && is_comment line → lines_from skips number (parts_of 10 rest) ≡ left
    → Ok (record { number = number; bytes = line }, lines_from skips (number + 1) (parts_of 10 after)) ≡ next_of left
stops skips number rest line after left cut test so_far = ap next_of (sym (one_line skips number rest line after false cut test) ∙ so_far)

-- where the first line is kept, it is the next
kept_line : (skips : Bool) (line : List ℕ) (others : List (List ℕ)) → HasPart others → IsFirstKept skips (line ∷ others) → false ≡ skips && is_comment line
kept_line skips line others h kept = subst (λ (ps : List (List ℕ)). IsFirstKept skips (line ∷ ps)) h.2 kept

pub next_is : (skips : Bool) (number : ℕ) (rest line after : List ℕ) (left : Remaining) → parts_of 10 rest ≡ line ∷ parts_of 10 after → IsFirstKept skips (parts_of 10 rest) → lines_from skips number (parts_of 10 rest) ≡ left
    → Ok (record { number = number; bytes = line }, lines_from skips (number + 1) (parts_of 10 after)) ≡ next_of left
next_is skips number rest line after left cut kept same = stops skips number rest line after left cut (kept_line skips line (parts_of 10 after) (has_part 10 after) (subst (IsFirstKept skips) cut kept)) same

-- What reading takes from the lines that are left.
use Rattle.std.proofs.Common.{◌≡◌, ℕ, zero, suc, ◌+◌, Bool, true, false, cond, List, [], ◌∷◌, ◌++◌, Result, Ok, Err, length, map, refl, ap, ◌∙◌, sym, subst, append_assoc, All, append-nil}
use Rattle.std.proofs.lemmas.List.Elements.{All-nil, All-cons}
use Rattle.text_forms.specs.declared.lines.Reason.{Reason}
use Rattle.text_forms.specs.declared.lines.Reason.TheVariants.{TextEnd}
use Rattle.text_forms.specs.declared.lines.BadLine.{BadLine}
use Rattle.text_forms.specs.{NumberedLine, Remaining, AreLinesLeft, due_in, due_of, nothing_in, nothing_left, at_line, ◌>>=◌, read_by, repeat, lines_of_parts}

-- these lines were taken, and those after them are left
pub record Took (left : Remaining) (lines : List (List ℕ)) (after : Remaining) : Type 0 where
  pub parts : map (λ line. line.bytes) left.lines ≡ lines ++ map (λ line. line.bytes) after.lines
  pub same : after.ended ≡ left.ended

pub took_then : (a : Remaining) (x : List (List ℕ)) (b : Remaining) (y : List (List ℕ)) (c : Remaining) → Took a x b → Took b y c → Took a (x ++ y) c
took_then a x b y c p q = record { parts = p.parts ∙ ap (λ (t : List (List ℕ)). x ++ t) q.parts ∙ sym (append_assoc x y (map (λ line. line.bytes) c.lines)); same = q.same ∙ p.same }

-- a line that was taken is another spelling of itself
pub took_line : (left after : Remaining) (line text : List ℕ) → line ≡ text → Took left (line ∷ []) after → Took left (text ∷ []) after
took_line left after line text is took = subst (λ (l : List ℕ). Took left (l ∷ []) after) is took

abbrev done : {A E : Type 0} → A → Result A E
done x = Ok x

pub ok_is : {A E : Type 0} (x y : A) → done {E = E} x ≡ done y → x ≡ y
ok_is x y e = cc

pub bind_ok : {A B E : Type 0} (r : Result A E) (f : A → Result B E) (y : B) → (r >>= f) ≡ Ok y → (x : A) × (r ≡ Ok x) × (f x ≡ Ok y)
bind_ok (Ok x) f y e = (x, refl, e)
bind_ok (Err d) f y e = absurd cc

at_line_ok : {A : Type 0} (number : ℕ) (r : Result A Reason) (x : A) → at_line number r ≡ Ok x → r ≡ Ok x
at_line_ok number (Ok y) x e = cc
at_line_ok number (Err reason) x e = absurd cc

due_ok : (left : Remaining) (lines : List NumberedLine) (x : NumberedLine × Remaining) → left.lines ≡ lines → due_in left lines ≡ Ok x → Took left (x.0.bytes ∷ []) x.1
due_ok left [] x is e = absurd cc
due_ok left (line ∷ lines) x is e =
    subst (λ (y : NumberedLine × Remaining). Took left (y.0.bytes ∷ []) y.1) (ok_is {E = BadLine} (line, record left { lines = lines }) x e) (record { parts = ap (λ (ls : List NumberedLine). map (λ l. l.bytes) ls) is; same = refl })

-- a line that was read by a form
pub read_took : {A : Type 0} (form : List ℕ → Result A Reason) (left : Remaining) (x : A × Remaining) → read_by form left ≡ Ok x → (line : List ℕ) × Took left (line ∷ []) x.1 × (form line ≡ Ok x.0)
read_took {A} form left x e =
    let a = bind_ok (due_of left) (λ line. at_line line.0.number (form line.0.bytes) >>= λ value. Ok (value, line.1)) x e in
    let b = bind_ok (at_line a.0.0.number (form a.0.0.bytes)) (λ value. Ok (value, a.0.1)) x a.2 in
    let form-ok = at_line_ok a.0.0.number (form a.0.0.bytes) b.0 b.1 in
    let took = due_ok left left.lines a.0 refl a.1 in
    subst (λ (y : A × Remaining). (line : List ℕ) × Took left (line ∷ []) y.1 × (form line ≡ Ok y.0)) (ok_is {E = BadLine} (b.0, a.0.1) x b.2) (a.0.0.bytes, took, form-ok)

-- a step that took a part's own lines, where the part lies in its ranges
unfoldable pub Takes : {A : Type 0} → (ℕ → Remaining → Result (A × Remaining) BadLine) → (ℕ → A → List (List ℕ)) → (A → Type 0) → Type 0
Takes {A} step lines P = (i : ℕ) (left : Remaining) (x : A × Remaining) → step i left ≡ Ok x → Took left (lines i x.0) x.1 × P x.0

-- a step that reads one line took it
pub line_takes : {A : Type 0} (form : ℕ → List ℕ → Result A Reason) (text : ℕ → A → List ℕ) (P : A → Type 0) → ((i : ℕ) (line : List ℕ) (x : A) → form i line ≡ Ok x → (line ≡ text i x) × P x) → Takes (λ i left. read_by (form i) left) (λ i x. text i x ∷ []) P
unfolding Takes
line_takes form text P is i left x e =
    let r = read_took (form i) left x e in
    let one = is i r.0 x.0 r.2 in
    (took_line left x.1 r.0 (text i x.0) one.0 r.1, one.1)

module _ {A : Type 0} (lines : ℕ → A → List (List ℕ)) (P : A → Type 0) where
  -- parts that were taken one after the other
  pub record TookParts (count from : ℕ) (left : Remaining) (xs : List A) (after : Remaining) : Type 0 where
    pub took : Took left (lines_of_parts lines from xs) after
    pub count_is : length xs ≡ count
    pub each : All P xs

pub repeat_took : {A : Type 0} (step : ℕ → Remaining → Result (A × Remaining) BadLine) (lines : ℕ → A → List (List ℕ)) (P : A → Type 0) → Takes step lines P
    → (count from : ℕ) (left : Remaining) (x : List A × Remaining) → repeat count from step left ≡ Ok x → TookParts lines P count from left x.0 x.1
unfolding repeat Takes
repeat_took {A} step lines P takes zero from left x e =
    subst (λ (y : List A × Remaining). TookParts lines P 0 from left y.0 y.1) (ok_is {E = BadLine} ([], left) x e) (record { took = record { parts = refl; same = refl }; count_is = refl; each = All-nil P })
repeat_took {A} step lines P takes (suc count) from left x e =
    let a = bind_ok (step from left) (λ first. repeat count (from + 1) step first.1 >>= λ others. Ok (first.0 ∷ others.0, others.1)) x e in
    let b = bind_ok (repeat count (from + 1) step a.0.1) (λ others. Ok (a.0.0 ∷ others.0, others.1)) x a.2 in
    let one = takes from left a.0 a.1 in
    let more = repeat_took step lines P takes count (from + 1) a.0.1 b.0 b.1 in
    subst (λ (y : List A × Remaining). TookParts lines P (suc count) from left y.0 y.1) (ok_is {E = BadLine} (a.0.0 ∷ b.0.0, b.0.1) x b.2)
    (record {
      took = took_then left (lines from a.0.0) a.0.1 (lines_of_parts lines (from + 1) b.0.0) b.0.1 one.0 more.took;
      count_is = ap suc more.count_is;
      each = All-cons P a.0.0 b.0.0 one.1 more.each;
    })

-- ---- nothing is left

abbrev nothing_done : Result (Unit {0}) BadLine
nothing_done = Ok tt

ended_ok : (b : Bool) (number : ℕ) → cond b (Ok tt) (Err (record { line = number; reason = TextEnd })) ≡ nothing_done → b ≡ true
ended_ok true number e = refl
ended_ok false number e = absurd cc

nothing_ok : (left : Remaining) (lines : List NumberedLine) → left.lines ≡ lines → nothing_in left lines ≡ nothing_done → (map (λ line. line.bytes) left.lines ≡ []) × (left.ended ≡ true)
nothing_ok left [] is e = (ap (λ (ls : List NumberedLine). map (λ l. l.bytes) ls) is, ended_ok left.ended left.last e)
nothing_ok left (line ∷ lines) is e = absurd cc

-- lines that were taken until nothing was left are all lines
pub took_all : (left after : Remaining) (lines : List (List ℕ)) (u : Unit {0}) → Took left lines after → nothing_left after ≡ Ok u → AreLinesLeft lines left
took_all left after lines u took e =
    let none = nothing_ok after after.lines refl e in
    record { same = took.parts ∙ ap (λ (t : List (List ℕ)). lines ++ t) none.0 ∙ append-nil lines; ended = sym took.same ∙ none.1 }

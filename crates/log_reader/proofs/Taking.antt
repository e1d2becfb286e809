-- What reading takes of a text, byte for byte.
use Rattle.std.proofs.Common.{◌≡◌, ℕ, zero, suc, ◌+◌, ◌≤◌, ◌⊎◌, inl, inr, Bool, true, false, cond, List, [], ◌∷◌, ◌++◌, Option, Some, None, Result, Ok, Err, length, map, refl, sym, ap, ◌∙◌, subst, append_assoc, arith, codes, All, flat_map, append-nil}
use Rattle.std.specs.Prelude.{⊤}
use Rattle.std.specs.List.{AllByRecursion, enumerate_from, join_with_byte}
use Rattle.std.proofs.lemmas.Grind.{flat_map-append}
use Rattle.std.proofs.lemmas.List.Concat.{flat_map-cons}
use Rattle.std.proofs.lemmas.List.Elements.{All-nil, All-cons}
use Rattle.std.proofs.lemmas.List.Splits.{join_with_byte-slice_split}
use Rattle.tac_base.proofs.Signed.{Lacks}
use Rattle.log_reader.specs.{Reason, TextEnd, BadLine, parts_of, Remaining, lines_from, text_of, due_of, nothing_left, is_nothing, Scored, formed, line_by, begins, refused_line, as_long_as}
use Rattle.text_forms.specs.Steps.{◌>>=◌, repeat, lines_of_parts}
use Rattle.text_forms.proofs.Reading.{Took, bind_ok, ok_is, read_took, took_all}
use Rattle.log_text.specs.SheetText.{agent_lines, sheet_part}

-- the bytes of the lines that are left
abbrev pub bytes_left : Remaining → List ℕ
bytes_left left = text_of (map (λ line. line.bytes) left.lines)

-- no line that is left has a line end within it
abbrev pub AreLines : Remaining → Type 0
AreLines left = AllByRecursion (Lacks 10) (map (λ line. line.bytes) left.lines)

-- these bytes were taken, and the lines after them are left
pub record TookBytes (left : Remaining) (bytes : List ℕ) (after : Remaining) : Type 0 where
  pub parts : bytes_left left ≡ bytes ++ bytes_left after
  pub same : after.ended ≡ left.ended
  pub lines : AreLines left → AreLines after

pub took_both : (a b c : Remaining) (x y : List ℕ) → TookBytes a x b → TookBytes b y c → TookBytes a (x ++ y) c
took_both a b c x y p q = record {
  parts = p.parts ∙ ap (λ (t : List ℕ). x ++ t) q.parts ∙ sym (append_assoc x y (bytes_left c));
  same = q.same ∙ p.same;
  lines = λ are. q.lines (p.lines are);
}

pub took_as : (left after : Remaining) (x y : List ℕ) → x ≡ y → TookBytes left x after → TookBytes left y after
took_as left after x y is took = subst (λ (t : List ℕ). TookBytes left t after) is took

pub took_none : (left : Remaining) → TookBytes left [] left
took_none left = record { parts = refl; same = refl; lines = λ are. are }

pub later_lines : (xs ys : List (List ℕ)) → AllByRecursion (Lacks 10) (xs ++ ys) → AllByRecursion (Lacks 10) ys
later_lines [] ys h = h
later_lines (x ∷ xs) ys h = later_lines xs ys h.1

pub took_lines : (left after : Remaining) (lines : List (List ℕ)) → Took left lines after → TookBytes left (text_of lines) after
took_lines left after lines took = record {
  parts = ap text_of took.parts ∙ flat_map-append (λ line. line ++ 10 ∷ []) lines (map (λ line. line.bytes) after.lines);
  same = took.same;
  lines = λ are. later_lines lines (map (λ line. line.bytes) after.lines) (subst (AllByRecursion (Lacks 10)) took.parts are);
}

-- the text of one line
pub one_text : (line : List ℕ) → text_of (line ∷ []) ≡ line ++ 10 ∷ []
one_text line = flat_map-cons (λ l. l ++ 10 ∷ []) line [] ∙ append-nil (line ++ 10 ∷ [])

formed_ok : {A : Type 0} (read : Option A) (x : A) → formed read ≡ Ok x → read ≡ Some x
formed_ok None x e = absurd cc
formed_ok {A} (Some y) x e = ap (λ (z : A). Some z) (ok_is {E = Reason} y x e)

-- a line that was read by its form
pub line_took : {A : Type 0} (form : List ℕ → Option A) (left : Remaining) (x : A × Remaining) → line_by form left ≡ Ok x → (line : List ℕ) × TookBytes left (line ++ 10 ∷ []) x.1 × (form line ≡ Some x.0)
line_took form left x e =
    let r = read_took (λ line. formed (form line)) left x e in
    (r.0, took_as left x.1 (text_of (r.0 ∷ [])) (r.0 ++ 10 ∷ []) (one_text r.0) (took_lines left x.1 (r.0 ∷ []) r.1), formed_ok (form r.0) x.0 r.2)

-- a line in the ranges of its form, with its line end
pub line_takes : {A : Type 0} (form : List ℕ → Option A) (body line : A → List ℕ) (P : A → Type 0) → ((text : List ℕ) (x : A) → form text ≡ Some x → (text ≡ body x) × P x) → ((x : A) → P x → body x ++ 10 ∷ [] ≡ line x) →
    (left : Remaining) (x : A × Remaining) → line_by form left ≡ Ok x → TookBytes left (line x.0) x.1 × P x.0
line_takes form body line P is ends left x e =
    let r = line_took form left x e in
    let read = is r.0 x.0 r.2 in
    (took_as left x.1 (r.0 ++ 10 ∷ []) (line x.0) (ap (λ (t : List ℕ). t ++ 10 ∷ []) read.0 ∙ ends x.0 read.1) r.1, read.1)

-- ---- parts, each with a number

-- the bytes of parts that are numbered from a number
abbrev pub bytes_of_parts : {A : Type 0} → (ℕ → A → List ℕ) → ℕ → List A → List ℕ
bytes_of_parts bytes from [] = []
bytes_of_parts bytes from (x ∷ xs) = bytes from x ++ bytes_of_parts bytes (from + 1) xs

-- something holds of each part and its number
abbrev pub AllFrom : {A : Type 0} → (ℕ → A → Type 0) → ℕ → List A → Type 0
AllFrom P from [] = ⊤
AllFrom P from (x ∷ xs) = P from x × AllFrom P (from + 1) xs

-- a step that takes the bytes of a part in its ranges
unfoldable pub TakesBytes : {A : Type 0} → (ℕ → Remaining → Result (A × Remaining) BadLine) → (ℕ → A → List ℕ) → (ℕ → A → Type 0) → Type 0
TakesBytes {A} step bytes P = (i : ℕ) (left : Remaining) (x : A × Remaining) → AreLines left → step i left ≡ Ok x → TookBytes left (bytes i x.0) x.1 × P i x.0

-- parts that were taken one after another
pub record TookAll {A : Type 0} (bytes : ℕ → A → List ℕ) (P : ℕ → A → Type 0) (from : ℕ) (left : Remaining) (xs : List A) (after : Remaining) : Type 0 where
  pub took : TookBytes left (bytes_of_parts bytes from xs) after
  pub each : AllFrom P from xs

pub repeat_took_bytes : {A : Type 0} (step : ℕ → Remaining → Result (A × Remaining) BadLine) (bytes : ℕ → A → List ℕ) (P : ℕ → A → Type 0) → TakesBytes step bytes P →
    (count from : ℕ) (left : Remaining) (x : List A × Remaining) → AreLines left → repeat count from step left ≡ Ok x → TookAll bytes P from left x.0 x.1 × (length x.0 ≡ count)
unfolding repeat TakesBytes
repeat_took_bytes {A} step bytes P takes zero from left x are e =
    subst (λ (y : List A × Remaining). TookAll bytes P from left y.0 y.1 × (length y.0 ≡ 0)) (ok_is {E = BadLine} ([], left) x e) (record { took = took_none left; each = tt }, refl)
repeat_took_bytes {A} step bytes P takes (suc count) from left x are e =
    let a = bind_ok (step from left) (λ first. repeat count (from + 1) step first.1 >>= λ others. Ok (first.0 ∷ others.0, others.1)) x e in
    let b = bind_ok (repeat count (from + 1) step a.0.1) (λ others. Ok (a.0.0 ∷ others.0, others.1)) x a.2 in
    let one = takes from left a.0 are a.1 in
    let more = repeat_took_bytes step bytes P takes count (from + 1) a.0.1 b.0 (one.0.lines are) b.1 in
    subst (λ (y : List A × Remaining). TookAll bytes P from left y.0 y.1 × (length y.0 ≡ suc count)) (ok_is {E = BadLine} (a.0.0 ∷ b.0.0, b.0.1) x b.2) (
      record {
        took = took_both left a.0.1 b.0.1 (bytes from a.0.0) (bytes_of_parts bytes (from + 1) b.0.0) one.0 more.0.took;
        each = (one.1, more.0.each);
      },
      ap suc more.1,
    )

-- one of two ways of reading
either_read : {A : Type 0} (b : Bool) (r s : Result A BadLine) (x : A) → cond b r s ≡ Ok x → ((b ≡ true) × (r ≡ Ok x)) ⊎ ((b ≡ false) × (s ≡ Ok x))
either_read true r s x e = inl (refl, e)
either_read false r s x e = inr (refl, e)

pub refused_not : {A : Type 0} (left : Remaining) (x : A) → refused_line left ≡ Ok x → ⊥
refused_not left x e = absurd (let b = bind_ok (due_of left) (λ line. refused_at line.0.number) x e in cc)
  where
    refused_at : {B : Type 0} → ℕ → Result B BadLine
    refused_at number = Err (record { line = number; reason = TextEnd })

pub as_long_took : {A : Type 0} (word : List ℕ) (step : ℕ → Remaining → Result (A × Remaining) BadLine) (bytes : ℕ → A → List ℕ) (P : ℕ → A → Type 0) → TakesBytes step bytes P →
    (room from : ℕ) (left : Remaining) (x : List A × Remaining) → AreLines left → as_long_as word step room from left ≡ Ok x → TookAll bytes P from left x.0 x.1 × (length x.0 ≤ room)
unfolding as_long_as TakesBytes
as_long_took {A} word step bytes P takes zero from left x are e =
    elim (either_read (begins word left) (refused_line left) (Ok ([], left)) x e) [
      | inl none ↦ absurd (refused_not left x none.1)
      | inr some ↦ subst (λ (y : List A × Remaining). TookAll bytes P from left y.0 y.1 × (length y.0 ≤ 0)) (ok_is {E = BadLine} ([], left) x some.1) (record { took = took_none left; each = tt }, omega arith)
    ]
as_long_took {A} word step bytes P takes (suc room) from left x are e =
    elim (either_read (begins word left) (step from left >>= λ first. as_long_as word step room (from + 1) first.1 >>= λ others. Ok (first.0 ∷ others.0, others.1)) (Ok ([], left)) x e) [
      | inl goes ↦
          let a = bind_ok (step from left) (λ first. as_long_as word step room (from + 1) first.1 >>= λ others. Ok (first.0 ∷ others.0, others.1)) x goes.1 in
          let b = bind_ok (as_long_as word step room (from + 1) a.0.1) (λ others. Ok (a.0.0 ∷ others.0, others.1)) x a.2 in
          let one = takes from left a.0 are a.1 in
          let more = as_long_took word step bytes P takes room (from + 1) a.0.1 b.0 (one.0.lines are) b.1 in
          let few = more.1 in
          subst (λ (y : List A × Remaining). TookAll bytes P from left y.0 y.1 × (length y.0 ≤ suc room)) (ok_is {E = BadLine} (a.0.0 ∷ b.0.0, b.0.1) x b.2) (
            record {
              took = took_both left a.0.1 b.0.1 (bytes from a.0.0) (bytes_of_parts bytes (from + 1) b.0.0) one.0 more.0.took;
              each = (one.1, more.0.each);
            },
            omega (arith, few),
          )
      | inr some ↦ subst (λ (y : List A × Remaining). TookAll bytes P from left y.0 y.1 × (length y.0 ≤ suc room)) (ok_is {E = BadLine} ([], left) x some.1) (record { took = took_none left; each = tt }, omega arith)
    ]

-- ---- the forms of lists of parts

pub all_of : {A : Type 0} (P : A → Type 0) (from : ℕ) (xs : List A) → AllFrom (λ _ x. P x) from xs → All P xs
all_of P from [] h = All-nil P
all_of P from (x ∷ xs) h = All-cons P x xs h.0 (all_of P (from + 1) xs h.1)

pub parts_numbered : {A : Type 0} (bytes : ℕ → A → List ℕ) (from : ℕ) (xs : List A) → bytes_of_parts bytes from xs ≡ flat_map (λ part. bytes part.0 part.1) (enumerate_from from xs)
parts_numbered bytes from [] = refl
parts_numbered {A} bytes from (x ∷ xs) = ap (λ (t : List ℕ). bytes from x ++ t) (parts_numbered bytes (from + 1) xs) ∙ sym (flat_map-cons (λ (part : ℕ × A). bytes part.0 part.1) (from, x) (enumerate_from (from + 1) xs))

pub parts_alike : {A : Type 0} (bytes : A → List ℕ) (from : ℕ) (xs : List A) → bytes_of_parts (λ _ x. bytes x) from xs ≡ flat_map bytes xs
parts_alike bytes from [] = refl
parts_alike bytes from (x ∷ xs) = ap (λ (t : List ℕ). bytes x ++ t) (parts_alike bytes (from + 1) xs) ∙ sym (flat_map-cons bytes x xs)

pub parts_of_lines : {A : Type 0} (lines : ℕ → A → List (List ℕ)) (from : ℕ) (xs : List A) → bytes_of_parts (λ i x. text_of (lines i x)) from xs ≡ text_of (lines_of_parts lines from xs)
parts_of_lines lines from [] = refl
parts_of_lines lines from (x ∷ xs) = ap (λ (t : List ℕ). text_of (lines from x) ++ t) (parts_of_lines lines (from + 1) xs) ∙ sym (flat_map-append (λ line. line ++ 10 ∷ []) (lines from x) (lines_of_parts lines (from + 1) xs))

-- the bytes of a sheet, as they are read
pub sheet_text : (scores : List Scored) → sheet_part scores ≡ (codes "sheet" ++ 10 ∷ []) ++ (bytes_of_parts (λ agent s. text_of (agent_lines agent s)) 0 scores ++ (codes "end" ++ 10 ∷ []))
sheet_text scores =
    let agents = lines_of_parts agent_lines 0 scores in
    flat_map-append (λ l. l ++ 10 ∷ []) (codes "sheet" ∷ []) (agents ++ codes "end" ∷ [])
    ∙ ap (λ (t : List ℕ). (codes "sheet" ++ 10 ∷ []) ++ t) (flat_map-append (λ l. l ++ 10 ∷ []) agents (codes "end" ∷ []) ∙ ap (λ (t : List ℕ). t ++ (codes "end" ++ 10 ∷ [])) (sym (parts_of_lines agent_lines 0 scores)))

-- ---- a whole text

nothing_is : (rest : List ℕ) → is_nothing rest ≡ true → rest ≡ []
nothing_is [] h = refl
nothing_is (first ∷ rest) h = absurd cc

whole_parts : (number : ℕ) (parts : List (List ℕ)) → (lines_from false number parts).ended ≡ true → join_with_byte 10 parts ≡ bytes_left (lines_from false number parts)
whole_parts number [] h = refl
whole_parts number (rest ∷ []) h = nothing_is rest h
whole_parts number (line ∷ next ∷ parts) h =
    let others = lines_from false (number + 1) (next ∷ parts) in
    ap (λ (t : List ℕ). line ++ 10 ∷ t) (whole_parts (number + 1) (next ∷ parts) h)
    ∙ sym (flat_map-cons (λ l. l ++ 10 ∷ []) line (map (λ l. l.bytes) others.lines) ∙ append_assoc line (10 ∷ []) (bytes_left others))

-- a text whose last line has its end is the bytes of its lines
pub whole_text : (text : List ℕ) → (lines_from false 1 (parts_of 10 text)).ended ≡ true → text ≡ bytes_left (lines_from false 1 (parts_of 10 text))
whole_text text h = sym (join_with_byte-slice_split 10 text) ∙ whole_parts 1 (parts_of 10 text) h

-- what was taken until nothing was left is all
pub took_text : (left after : Remaining) (bytes : List ℕ) (u : Unit {0}) → TookBytes left bytes after → nothing_left after ≡ Ok u → (bytes_left left ≡ bytes) × (left.ended ≡ true)
took_text left after bytes u took e =
    let none = took_all after after [] u (record { parts = refl; same = refl }) e in
    (took.parts ∙ ap (λ (ls : List (List ℕ)). bytes ++ text_of ls) none.same ∙ append-nil bytes, sym took.same ∙ none.ended)

-- Where a line that is left stands in the text, and what another text with the same lines before it has there.
use Rattle.std.proofs.Common.{◌≡◌, ℕ, zero, suc, ◌+◌, ◌≤◌, Bool, true, false, eqb, List, [], ◌∷◌, ◌++◌, length, map, take, refl, sym, ap, subst, ◌∙◌, arith, ◌&&◌}
use Rattle.std.specs.List.{AllByRecursion}
use Rattle.tac_base.proofs.Signed.{Lacks}
use Rattle.text_forms.specs.Lines.{NumberedLine, Remaining, is_comment, lines_from}
use Rattle.text_forms.proofs.Stepping.{HasPart, chosen}
use Rattle.reading_laws.specs.FirstBadLine.{with_ends}
use Rattle.reading_laws.proofs.Steady.{ArePlain, onto, bytes_of, ending}

-- ---- parts that lack line ends

abbrev pub AllLack : List (List ℕ) → Type 0
AllLack parts = AllByRecursion (Lacks 10) parts

pub front_lacks : (xs ys : List (List ℕ)) → AllLack (xs ++ ys) → AllLack xs
front_lacks [] ys h = tt
front_lacks (x ∷ xs) ys h = (h.0, front_lacks xs ys h.1)

pub last_lacks : (xs : List (List ℕ)) (part : List ℕ) → AllLack (xs ++ part ∷ []) → Lacks 10 part
last_lacks [] part h = h.0
last_lacks (x ∷ xs) part h = last_lacks xs part h.1

pub plain_lacks : (lines : List (List ℕ)) → ArePlain lines → AllLack lines
plain_lacks [] h = tt
plain_lacks (line ∷ lines) h = (h.0.lacks, plain_lacks lines h.1)

-- a line with its end has one
has_end : (line : List ℕ) → Lacks 10 (line ++ 10 ∷ []) → ⊥
has_end [] h = absurd (let no : eqb 10 10 ≡ false = h.0 in cc)
has_end (b ∷ line) h = has_end line h.1

-- ---- lines with their numbers

pub part_after : (xs : List (List ℕ)) (part : List ℕ) (parts : List (List ℕ)) → HasPart (xs ++ part ∷ parts)
part_after [] part parts = (part, parts, refl)
part_after (x ∷ xs) part parts = (x, xs ++ part ∷ parts, refl)

line_then : (skips : Bool) (number : ℕ) (line : List ℕ) (others : List (List ℕ)) → HasPart others → lines_from skips number (line ∷ others) ≡ chosen (skips && is_comment line) number line (lines_from skips (number + 1) others)
line_then skips number line others h = rw h.2 refl

-- lines of a text before which these stand
pub record Front (skips : Bool) (number : ℕ) (prior : List (List ℕ)) (front : List NumberedLine) : Type 0 where
  pub again : (part : List ℕ) (parts : List (List ℕ)) → lines_from skips number (prior ++ part ∷ parts) ≡ onto front (lines_from skips (number + length prior) (part ∷ parts))

pub front_again : (skips : Bool) (number : ℕ) (prior : List (List ℕ)) (front : List NumberedLine) → Front skips number prior front → (parts : List (List ℕ)) → HasPart parts → lines_from skips number (prior ++ parts) ≡ onto front (lines_from skips (number + length prior) parts)
front_again skips number prior front f parts h = ap (λ (ps : List (List ℕ)). lines_from skips number (prior ++ ps)) h.2 ∙ f.again h.0 h.1 ∙ ap (λ (ps : List (List ℕ)). onto front (lines_from skips (number + length prior) ps)) (sym h.2)

no_front : (skips : Bool) (number : ℕ) → Front skips number [] []
no_front skips number = record { again = λ part parts. ap (λ (n : ℕ). lines_from skips n (part ∷ parts)) (let same : number ≡ number + 0 = omega arith in same) }

front_skipped : (skips : Bool) (number : ℕ) (line : List ℕ) (prior : List (List ℕ)) (front : List NumberedLine) → skips && is_comment line ≡ true → Front skips (number + 1) prior front → Front skips number (line ∷ prior) front
front_skipped skips number line prior front test f = record {
  again = λ part parts.
      let count : number + 1 + length prior ≡ number + suc (length prior) = omega arith in
      line_then skips number line (prior ++ part ∷ parts) (part_after prior part parts) ∙ rw test (f.again part parts ∙ ap (λ (n : ℕ). onto front (lines_from skips n (part ∷ parts))) count);
}

front_kept : (skips : Bool) (number : ℕ) (line : List ℕ) (prior : List (List ℕ)) (front : List NumberedLine) → skips && is_comment line ≡ false → Front skips (number + 1) prior front → Front skips number (line ∷ prior) (record { number = number; bytes = line } ∷ front)
front_kept skips number line prior front test f = record {
  again = λ part parts.
      let one : NumberedLine = record { number = number; bytes = line } in
      let count : number + 1 + length prior ≡ number + suc (length prior) = omega arith in
      line_then skips number line (prior ++ part ∷ parts) (part_after prior part parts) ∙ rw test (ap (λ (m : Remaining). onto (one ∷ []) m) (f.again part parts ∙ ap (λ (n : ℕ). onto front (lines_from skips n (part ∷ parts))) count));
}

-- the lines of a text without comments that is read to its end
pub all_front : (number : ℕ) (prior : List (List ℕ)) → (front : List NumberedLine) × Front false number prior front
all_front number [] = ([], no_front false number)
all_front number (line ∷ prior) = let f = all_front (number + 1) prior in (record { number = number; bytes = line } ∷ f.0, front_kept false number line prior f.0 refl f.1)

-- a line that is left, and the parts of the text before and after it
pub record Spot (skips : Bool) (number : ℕ) (parts : List (List ℕ)) (front : List NumberedLine) (line : NumberedLine) : Type 0 where
  pub prior : List (List ℕ)
  pub next : List ℕ
  pub after : List (List ℕ)
  pub parts_are : parts ≡ prior ++ line.bytes ∷ next ∷ after
  pub number_is : line.number ≡ number + length prior
  pub kept : skips && is_comment line.bytes ≡ false
  pub ahead : Front skips number prior front

no_line : {A : Type 0} (front : List NumberedLine) (line : NumberedLine) (lines : List NumberedLine) → [] ≡ front ++ line ∷ lines → A
no_line [] line lines h = absurd cc
no_line (first ∷ front) line lines h = absurd cc

spot_skipped : (skips : Bool) (number : ℕ) (first : List ℕ) (parts : List (List ℕ)) (front : List NumberedLine) (line : NumberedLine) → skips && is_comment first ≡ true → Spot skips (number + 1) parts front line → Spot skips number (first ∷ parts) front line
spot_skipped skips number first parts front line test s = record {
  prior = first ∷ s.prior;
  next = s.next;
  after = s.after;
  parts_are = ap (λ (ps : List (List ℕ)). first ∷ ps) s.parts_are;
  number_is = let is = s.number_is in omega (arith, is);
  kept = s.kept;
  ahead = front_skipped skips number first s.prior front test s.ahead;
}

spot_kept : (skips : Bool) (number : ℕ) (first : List ℕ) (parts : List (List ℕ)) (front : List NumberedLine) (line : NumberedLine) → skips && is_comment first ≡ false → Spot skips (number + 1) parts front line → Spot skips number (first ∷ parts) (record { number = number; bytes = first } ∷ front) line
spot_kept skips number first parts front line test s = record {
  prior = first ∷ s.prior;
  next = s.next;
  after = s.after;
  parts_are = ap (λ (ps : List (List ℕ)). first ∷ ps) s.parts_are;
  number_is = let is = s.number_is in omega (arith, is);
  kept = s.kept;
  ahead = front_kept skips number first s.prior front test s.ahead;
}

spot_first : (skips : Bool) (number : ℕ) (line next : List ℕ) (parts : List (List ℕ)) → skips && is_comment line ≡ false → Spot skips number (line ∷ next ∷ parts) [] (record { number = number; bytes = line })
spot_first skips number line next parts test = record { prior = []; next = next; after = parts; parts_are = refl; number_is = omega arith; kept = test; ahead = no_front skips number }

spot_of : (skipped skips : Bool) (number : ℕ) (first next : List ℕ) (parts : List (List ℕ)) (front : List NumberedLine) (line : NumberedLine) (lines : List NumberedLine) → skips && is_comment first ≡ skipped
    → (chosen skipped number first (lines_from skips (number + 1) (next ∷ parts))).lines ≡ front ++ line ∷ lines
    → ((others : List NumberedLine) → (lines_from skips (number + 1) (next ∷ parts)).lines ≡ others ++ line ∷ lines → Spot skips (number + 1) (next ∷ parts) others line)
    → Spot skips number (first ∷ next ∷ parts) front line
spot_of true skips number first next parts front line lines test h more = spot_skipped skips number first (next ∷ parts) front line test (more front h)
spot_of false skips number first next parts [] line lines test h more =
    let same : record { number = number; bytes = first } ≡ line = cc in
    subst (Spot skips number (first ∷ next ∷ parts) []) same (spot_first skips number first next parts test)
spot_of false skips number first next parts (other ∷ front) line lines test h more =
    let same : record { number = number; bytes = first } ≡ other = cc in
    subst (λ (o : NumberedLine). Spot skips number (first ∷ next ∷ parts) (o ∷ front) line) same (spot_kept skips number first (next ∷ parts) front line test (more front cc))

pub spot : (skips : Bool) (number : ℕ) (parts : List (List ℕ)) (front : List NumberedLine) (line : NumberedLine) (lines : List NumberedLine) → (lines_from skips number parts).lines ≡ front ++ line ∷ lines → Spot skips number parts front line
spot skips number [] front line lines h = no_line front line lines h
spot skips number (rest ∷ []) front line lines h = no_line front line lines h
spot skips number (first ∷ next ∷ parts) front line lines h =
    spot_of (skips && is_comment first) skips number first next parts front line lines refl h (λ others k. spot skips (number + 1) (next ∷ parts) others line lines k)

-- the end of a text, and the parts before it
pub record EndSpot (skips : Bool) (number : ℕ) (parts : List (List ℕ)) (left : Remaining) : Type 0 where
  pub prior : List (List ℕ)
  pub rest : List ℕ
  pub parts_are : parts ≡ prior ++ rest ∷ []
  pub last_is : left.last ≡ number + length prior
  pub ahead : Front skips number prior left.lines

end_of : (skipped skips : Bool) (number : ℕ) (first : List ℕ) (parts : List (List ℕ)) (left : Remaining) → skips && is_comment first ≡ skipped → EndSpot skips (number + 1) parts left → EndSpot skips number (first ∷ parts) (chosen skipped number first left)
end_of true skips number first parts left test s = record {
  prior = first ∷ s.prior;
  rest = s.rest;
  parts_are = ap (λ (ps : List (List ℕ)). first ∷ ps) s.parts_are;
  last_is = let is = s.last_is in omega (arith, is);
  ahead = front_skipped skips number first s.prior left.lines test s.ahead;
}
end_of false skips number first parts left test s = record {
  prior = first ∷ s.prior;
  rest = s.rest;
  parts_are = ap (λ (ps : List (List ℕ)). first ∷ ps) s.parts_are;
  last_is = let is = s.last_is in omega (arith, is);
  ahead = front_kept skips number first s.prior left.lines test s.ahead;
}

pub end_spot : (skips : Bool) (number : ℕ) (parts : List (List ℕ)) → HasPart parts → EndSpot skips number parts (lines_from skips number parts)
end_spot skips number [] h = absurd (let no = h.2 in cc)
end_spot skips number (rest ∷ []) h = record { prior = []; rest = rest; parts_are = refl; last_is = omega arith; ahead = no_front skips number }
end_spot skips number (first ∷ next ∷ parts) h = end_of (skips && is_comment first) skips number first (next ∷ parts) (lines_from skips (number + 1) (next ∷ parts)) refl (end_spot skips (number + 1) (next ∷ parts) (next, parts, refl))

-- plain lines are all left, and end the text
pub record Numbered (skips : Bool) (number : ℕ) (lines : List (List ℕ)) : Type 0 where
  pub all : List NumberedLine
  pub last : ℕ
  pub same : bytes_of all ≡ lines
  pub left : lines_from skips number (lines ++ [] ∷ []) ≡ onto all (ending last)

never_skipped : (skips comment : Bool) → comment ≡ false → skips && comment ≡ false
never_skipped true comment h = h
never_skipped false comment h = refl

pub numbered : (skips : Bool) (number : ℕ) (lines : List (List ℕ)) → ArePlain lines → Numbered skips number lines
numbered skips number [] h = record { all = []; last = number; same = refl; left = refl }
numbered skips number (line ∷ lines) h =
    let more = numbered skips (number + 1) lines h.1 in
    let one : NumberedLine = record { number = number; bytes = line } in
    let test = never_skipped skips (is_comment line) h.0.kept in
    record {
      all = one ∷ more.all;
      last = more.last;
      same = ap (λ (bs : List (List ℕ)). line ∷ bs) more.same;
      left = line_then skips number line (lines ++ [] ∷ []) (part_after lines [] []) ∙ rw test (ap (λ (m : Remaining). onto (one ∷ []) m) more.left);
    }

-- ---- lines with their ends

abbrev pub with_end : List ℕ → List ℕ
with_end line = line ++ 10 ∷ []

end_then : (line : List ℕ) (others : List (List ℕ)) → HasPart others → with_ends (line ∷ others) ≡ with_end line ∷ with_ends others
end_then line others h = rw h.2 refl

pub ends_append : (prior : List (List ℕ)) (part : List ℕ) (parts : List (List ℕ)) → with_ends (prior ++ part ∷ parts) ≡ map with_end prior ++ with_ends (part ∷ parts)
ends_append [] part parts = refl
ends_append (line ∷ prior) part parts = end_then line (prior ++ part ∷ parts) (part_after prior part parts) ∙ ap (λ (ls : List (List ℕ)). with_end line ∷ ls) (ends_append prior part parts)

take_map : (prior rest : List (List ℕ)) → take (length prior) (map with_end prior ++ rest) ≡ map with_end prior
take_map [] rest = refl
take_map (line ∷ prior) rest = ap (λ (ls : List (List ℕ)). with_end line ∷ ls) (take_map prior rest)

pub take_prior : (prior : List (List ℕ)) (part : List ℕ) (parts : List (List ℕ)) → take (length prior) (with_ends (prior ++ part ∷ parts)) ≡ map with_end prior
take_prior prior part parts = ap (take (length prior)) (ends_append prior part parts) ∙ take_map prior (with_ends (part ∷ parts))

pub take_before : (prior parts : List (List ℕ)) → HasPart parts → take (length prior) (with_ends (prior ++ parts)) ≡ map with_end prior
take_before prior parts h = ap (λ (ps : List (List ℕ)). take (length prior) (with_ends (prior ++ ps))) h.2 ∙ take_prior prior h.0 h.1

longer : (x y : List ℕ) (xs ys : List (List ℕ)) → x ≡ y → xs ≡ ys → x ∷ xs ≡ y ∷ ys
longer x y xs ys h k = cc

-- lists that agree so far do so before
pub agree_before : (fewer count : ℕ) (xs ys : List (List ℕ)) → fewer ≤ count → take count xs ≡ take count ys → take fewer xs ≡ take fewer ys
agree_before zero count xs ys le h = refl
agree_before (suc fewer) zero xs ys le h = absurd (omega (arith, le))
agree_before (suc fewer) (suc count) [] [] le h = refl
agree_before (suc fewer) (suc count) [] (y ∷ ys) le h = absurd cc
agree_before (suc fewer) (suc count) (x ∷ xs) [] le h = absurd cc
agree_before (suc fewer) (suc count) (x ∷ xs) (y ∷ ys) le h =
    let first : x ≡ y = cc in
    let rest : take count xs ≡ take count ys = cc in
    longer x y (take fewer xs) (take fewer ys) first (agree_before fewer count xs ys (omega (arith, le)) rest)

-- lines with the same ends are the same
same_line : (x y : List ℕ) → with_end x ≡ with_end y → x ≡ y
same_line [] [] h = refl
same_line [] (b ∷ []) h = absurd cc
same_line [] (b ∷ c ∷ y) h = absurd cc
same_line (a ∷ []) [] h = absurd cc
same_line (a ∷ c ∷ x) [] h = absurd cc
same_line (a ∷ x) (b ∷ y) h = let first : a ≡ b = cc in let rest = same_line x y cc in rw (first, rest) refl

-- parts that have these lines at their head
pub record Heads (xs parts : List (List ℕ)) : Type 0 where
  pub part : List ℕ
  pub rest : List (List ℕ)
  pub split : parts ≡ xs ++ part ∷ rest

pub same_front : (xs parts : List (List ℕ)) → AllLack parts → HasPart parts → take (length xs) (with_ends parts) ≡ map with_end xs → Heads xs parts
same_front [] parts lack h same = record { part = h.0; rest = h.1; split = h.2 }
same_front (x ∷ xs) [] lack h same = absurd (let no = h.2 in cc)
same_front (x ∷ xs) (part ∷ []) lack h same = absurd (let is : part ≡ with_end x = cc in has_end x (subst (Lacks 10) is lack.0))
same_front (x ∷ xs) (part ∷ next ∷ parts) lack h same =
    let first = same_line part x cc in
    let more = same_front xs (next ∷ parts) lack.1 (next, parts, refl) cc in
    record { part = more.part; rest = more.rest; split = longer part x (next ∷ parts) (xs ++ more.part ∷ more.rest) first more.split }

not_empty : {A : Type 0} (xs : List A) (x : A) (ys : List A) → [] ≡ xs ++ x ∷ ys → ⊥
not_empty [] x ys h = absurd cc
not_empty (y ∷ xs) x ys h = absurd cc

-- and those that end as these do
pub same_end : (xs : List (List ℕ)) (rest : List ℕ) (parts : List (List ℕ)) → Lacks 10 rest → HasPart parts → take (suc (length xs)) (with_ends parts) ≡ map with_end xs ++ rest ∷ [] → parts ≡ xs ++ rest ∷ []
same_end xs rest [] lack h same = absurd (let no = h.2 in cc)
same_end [] rest (part ∷ []) lack h same = same
same_end [] rest (part ∷ next ∷ parts) lack h same = absurd (let is : with_end part ≡ rest = cc in has_end part (subst (Lacks 10) (sym is) lack))
same_end (x ∷ xs) rest (part ∷ []) lack h same = absurd (not_empty (map with_end xs) rest [] cc)
same_end (x ∷ xs) rest (part ∷ next ∷ parts) lack h same =
    let first = same_line part x cc in
    let more = same_end xs rest (next ∷ parts) lack (next, parts, refl) cc in
    longer part x (next ∷ parts) (xs ++ rest ∷ []) first more

-- a line among those of a text, with its end
pub record Cut (parts before : List (List ℕ)) (line : List ℕ) (after : List (List ℕ)) : Type 0 where
  pub prior : List (List ℕ)
  pub part : List ℕ
  pub others : List (List ℕ)
  pub are : parts ≡ prior ++ line ∷ part ∷ others
  pub before_is : before ≡ map with_end prior
  pub after_is : after ≡ with_ends (part ∷ others)

pub cut : (parts before : List (List ℕ)) (line : List ℕ) (after : List (List ℕ)) → AllLack parts → with_ends parts ≡ before ++ with_end line ∷ after → Cut parts before line after
cut [] before line after lack h = absurd (not_empty before (with_end line) after h)
cut (rest ∷ []) [] line after lack h = absurd (let is : rest ≡ with_end line = cc in has_end line (subst (Lacks 10) is lack.0))
cut (rest ∷ []) (first ∷ before) line after lack h = absurd (not_empty before (with_end line) after cc)
cut (part ∷ next ∷ parts) [] line after lack h =
    let same = same_line part line cc in
    record { prior = []; part = next; others = parts; are = longer part line (next ∷ parts) (next ∷ parts) same refl; before_is = refl; after_is = cc }
cut (part ∷ next ∷ parts) (first ∷ before) line after lack h =
    let more = cut (next ∷ parts) before line after lack.1 cc in
    let same : first ≡ with_end part = cc in
    record { prior = part ∷ more.prior; part = more.part; others = more.others; are = longer part part (next ∷ parts) (more.prior ++ line ∷ more.part ∷ more.others) refl more.are; before_is = longer first (with_end part) before (map with_end more.prior) same more.before_is; after_is = more.after_is }

pub same_prior : (xs ys : List (List ℕ)) → map with_end xs ≡ map with_end ys → xs ≡ ys
same_prior [] [] h = refl
same_prior [] (y ∷ ys) h = absurd cc
same_prior (x ∷ xs) [] h = absurd cc
same_prior (x ∷ xs) (y ∷ ys) h = longer x y xs ys (same_line x y cc) (same_prior xs ys cc)

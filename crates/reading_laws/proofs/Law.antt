-- A text is refused at its first bad line, if a reader goes from line to line and reads exactly the texts of a kind.
use Rattle.std.proofs.Common.{◌≡◌, ℕ, suc, ◌+◌, ◌-◌, ◌<◌, ◌≤◌, ◌&&◌, ◌⊎◌, inl, inr, Bool, true, false, ltb, List, [], ◌∷◌, ◌++◌, Result, Ok, Err, length, map, take, refl, sym, ap, subst, ◌∙◌, arith, append_assoc, length-append}
use Rattle.std.proofs.Math.Seq.{take-length}
use Rattle.std.proofs.lemmas.Bool.Decides.{nat_tests}
use Rattle.std.proofs.lemmas.List.{length-map}
use Rattle.reading_laws.specs.{parts_of, NumberedLine, Remaining, is_comment, lines_from, text_of, lines_with_ends, with_ends, BeginsText, IsFirstBadLine}
use Rattle.text_forms.proofs.Stepping.{HasPart, has_part, chosen}
use Rattle.bound_cert.proofs.TreesAgain.{parts_again, lines_lack-append}
use Rattle.log_reader.proofs.LogTaking.{part_lacks}
use Rattle.reading_laws.proofs.Steady.{Reader, onto, ending, Ends, Closes, OutcomeAtEnd, Refuses, AtLine, AtEnd, Within}
use Rattle.reading_laws.proofs.Spots.{AllLack, Front, with_end, front_lacks, plain_lacks, spot, end_spot, numbered, part_after, front_again, last_lacks, take_before, agree_before, ends_append, same_front, same_end}

-- the lines of a text
abbrev pub left_of : Bool → List ℕ → Remaining
left_of skips text = lines_from skips 1 (parts_of 10 text)

module _ {X E : Type 0} (IsAt : E → ℕ → Type 0) (is_calm : List ℕ → Bool) (In : Remaining → E → List (List ℕ) → Type 0) (skips : Bool) (read : Reader X E) (IsText : List ℕ → Type 0)
    (found : (text : List ℕ) (value : X) → read (left_of skips text) ≡ Ok value → IsText text) (only : (text : List ℕ) → IsText text → (value : X) × (read (left_of skips text) ≡ Ok value)) where
  -- a text of the kind that has these lines at its front, and then others
  pub record Begun (prior more : List (List ℕ)) : Type 0 where
    pub other : List ℕ
    pub is : IsText other
    pub parts : parts_of 10 other ≡ prior ++ (more ++ [] ∷ [])

  -- if lines before a place would have been read with others after them, they all are those of a text of the kind
  pub begun : (text : List ℕ) (prior parts : List (List ℕ)) (front : List NumberedLine) (more : List (List ℕ)) → parts_of 10 text ≡ prior ++ parts → HasPart parts → Front skips 1 prior front → Ends IsAt is_calm In read front more
      → Begun prior more
  begun text prior parts front more are h f e =
      let lines = prior ++ more in
      let last = more ++ [] ∷ [] in
      let last_has = part_after more [] [] in
      let lack : AllLack lines = lines_lack-append prior more (front_lacks prior parts (subst AllLack are (part_lacks text))) (plain_lacks more e.plain) in
      let cut : parts_of 10 (text_of lines) ≡ prior ++ last = parts_again lines lack ∙ append_assoc prior more ([] ∷ []) in
      let n = numbered skips (1 + length prior) more e.plain in
      let left : left_of skips (text_of lines) ≡ onto (front ++ n.all) (ending n.last) =
      ap (lines_from skips 1) cut ∙ front_again skips 1 prior front f last last_has ∙ ap (onto front) n.left ∙ ap (λ (ls : List NumberedLine). record (ending n.last) { lines = ls }) (sym (append_assoc front n.all [])) in
      record { other = text_of lines; is = found (text_of lines) e.value (ap read left ∙ e.reads n.all n.same n.last); parts = cut }

  -- so this many lines begin a text of the kind
  begins : (text : List ℕ) (prior parts : List (List ℕ)) (front : List NumberedLine) (more : List (List ℕ)) → parts_of 10 text ≡ prior ++ parts → HasPart parts → Front skips 1 prior front → Ends IsAt is_calm In read front more
      → BeginsText IsText text (length prior)
  begins text prior parts front more are h f e =
      let b = begun text prior parts front more are h f e in
      let last = more ++ [] ∷ [] in
      let last_has = part_after more [] [] in (
        b.other,
        b.is,
        ap (λ (ps : List (List ℕ)). take (length prior) (with_ends ps)) b.parts ∙ take_before prior last last_has ∙ sym (ap (λ (ps : List (List ℕ)). take (length prior) (with_ends ps)) are ∙ take_before prior parts h),
      )

  abbrev refuse : E → Result X E
  refuse fault = Err fault

  not_both : (r : Result X E) (value : X) (fault : E) → r ≡ Ok value → r ≡ refuse fault → ⊥
  not_both (Ok x) value fault h k = absurd cc
  not_both (Err e) value fault h k = absurd cc

  -- the first bad line, and that the fault is there
  record FirstBad (text : List ℕ) (fault : E) : Type 0 where
    line : ℕ
    at : IsAt fault line
    first : IsFirstBadLine IsText text line

  before_next : (text : List ℕ) (count : ℕ) → BeginsText IsText text count → BeginsText IsText text (suc count - 1)
  before_next text count h = let same : suc count - 1 ≡ count = omega arith in subst (BeginsText IsText text) (sym same) h

  -- a text that agrees with another so far has the same parts up to a line
  taken_to : (text other : List ℕ) (prior : List (List ℕ)) (bytes next : List ℕ) (after : List (List ℕ)) → parts_of 10 text ≡ prior ++ bytes ∷ next ∷ after → take (suc (length prior)) (lines_with_ends other) ≡ take (suc (length prior)) (lines_with_ends text)
      → take (length (prior ++ bytes ∷ [])) (lines_with_ends other) ≡ map with_end (prior ++ bytes ∷ [])
  taken_to text other prior bytes next after are same =
      ap (λ (n : ℕ). take n (lines_with_ends other)) count ∙ same ∙ ap (λ (n : ℕ). take n (lines_with_ends text)) (sym count) ∙ ap (λ (ps : List (List ℕ)). take (length lines) (with_ends ps)) {y = lines ++ next ∷ after} (are ∙ sym (append_assoc prior (bytes ∷ []) (next ∷ after)))
      ∙ take_before lines (next ∷ after) (next, after, refl) where
        lines : List (List ℕ)
        lines = prior ++ bytes ∷ []

        count : length (prior ++ bytes ∷ []) ≡ suc (length prior)
        count = let same = length-append prior (bytes ∷ []) in omega (arith, same)

  -- and so the same lines
  left_to : (other : List ℕ) (prior : List (List ℕ)) (front : List NumberedLine) (line : NumberedLine) (part : List ℕ) (parts : List (List ℕ)) → parts_of 10 other ≡ (prior ++ line.bytes ∷ []) ++ part ∷ parts → Front skips 1 prior front → line.number ≡ 1 + length prior
      → skips && is_comment line.bytes ≡ false → left_of skips other ≡ onto front (onto (line ∷ []) (lines_from skips (1 + length prior + 1) (part ∷ parts)))
  left_to other prior front line part parts are f number kept =
      ap (lines_from skips 1) (are ∙ append_assoc prior (line.bytes ∷ []) (part ∷ parts)) ∙ front_again skips 1 prior front f (line.bytes ∷ part ∷ parts) (line.bytes, part ∷ parts, refl)
      ∙ ap (λ (t : Bool). onto front (chosen t (1 + length prior) line.bytes (lines_from skips (1 + length prior + 1) (part ∷ parts)))) kept
      ∙ ap (λ (n : ℕ). onto front (onto (record { number = n; bytes = line.bytes } ∷ []) (lines_from skips (1 + length prior + 1) (part ∷ parts)))) (sym number)

  line_fits_none : (text : List ℕ) (fault : E) (prior : List (List ℕ)) (front : List NumberedLine) (line : NumberedLine) (next : List ℕ) (after : List (List ℕ)) → parts_of 10 text ≡ prior ++ line.bytes ∷ next ∷ after → Front skips 1 prior front → line.number ≡ 1 + length prior
      → skips && is_comment line.bytes ≡ false → ((other : Remaining) → read (onto front (onto (line ∷ []) other)) ≡ Err fault) → BeginsText IsText text (suc (length prior)) → ⊥
  line_fits_none text fault prior front line next after are f number kept again b =
      let heads = same_front (prior ++ line.bytes ∷ []) (parts_of 10 b.0) (part_lacks b.0) (has_part 10 b.0) (taken_to text b.0 prior line.bytes next after are b.2) in
      let value = only b.0 b.1 in
      let left = left_to b.0 prior front line heads.part heads.rest heads.split f number kept in
      not_both (read (left_of skips b.0)) value.0 fault value.1 (ap read left ∙ again (lines_from skips (1 + length prior + 1) (heads.part ∷ heads.rest)))

  bad_at_line : (text : List ℕ) (fault : E) (front : List NumberedLine) (more : List (List ℕ)) → Ends IsAt is_calm In read front more → AtLine IsAt is_calm In read front (left_of skips text) fault → FirstBad text fault
  bad_at_line text fault front more e a =
      let s = spot skips 1 (parts_of 10 text) front a.line a.lines a.split in
      record {
        line = suc (length s.prior);
        at = let is = s.number_is in subst (IsAt fault) (let same : a.line.number ≡ suc (length s.prior) = omega (arith, is) in same) a.at;
        first = record {
          before = before_next text (length s.prior) (begins text s.prior (a.line.bytes ∷ s.next ∷ s.after) front more s.parts_are (a.line.bytes, s.next ∷ s.after, refl) s.ahead e);
          bad = line_fits_none text fault s.prior front a.line s.next s.after s.parts_are s.ahead s.number_is s.kept a.again;
        };
      }

  -- a text that agrees with another to its end is that text
  whole_to : (text other : List ℕ) (prior : List (List ℕ)) (rest : List ℕ) → parts_of 10 text ≡ prior ++ rest ∷ [] → take (suc (length prior)) (lines_with_ends other) ≡ take (suc (length prior)) (lines_with_ends text) → parts_of 10 other ≡ parts_of 10 text
  whole_to text other prior rest are same = same_end prior rest (parts_of 10 other) (last_lacks prior rest (subst AllLack are (part_lacks text))) (has_part 10 other) taken ∙ sym are where
    whole : lines_with_ends text ≡ map with_end prior ++ rest ∷ []
    whole = ap with_ends are ∙ ends_append prior rest []

    count : suc (length prior) ≡ length (map with_end prior ++ rest ∷ [])
    count = let l = length-append (map with_end prior) (rest ∷ []) in let m = length-map prior with_end in omega (arith, l, m)

    taken : take (suc (length prior)) (lines_with_ends other) ≡ map with_end prior ++ rest ∷ []
    taken = same ∙ ap (take (suc (length prior))) whole ∙ ap (λ (n : ℕ). take n (map with_end prior ++ rest ∷ [])) count ∙ take-length (map with_end prior ++ rest ∷ [])

  end_fits_none : (text : List ℕ) (fault : E) (prior : List (List ℕ)) (rest : List ℕ) → parts_of 10 text ≡ prior ++ rest ∷ [] → read (left_of skips text) ≡ Err fault → BeginsText IsText text (suc (length prior)) → ⊥
  end_fits_none text fault prior rest are refused b =
      let value = only b.0 b.1 in
      not_both (read (left_of skips b.0)) value.0 fault value.1 (ap (λ (ps : List (List ℕ)). read (lines_from skips 1 ps)) (whole_to text b.0 prior rest are b.2) ∙ refused)

  bad_at_end : (text : List ℕ) (fault : E) (front : List NumberedLine) (more : List (List ℕ)) → Ends IsAt is_calm In read front more → AtEnd IsAt is_calm In front (left_of skips text) fault → read (left_of skips text) ≡ Err fault → FirstBad text fault
  bad_at_end text fault front more e a refused =
      let s = end_spot skips 1 (parts_of 10 text) (has_part 10 text) in
      record {
        line = suc (length s.prior);
        at = let is = s.last_is in subst (IsAt fault) (let same : (left_of skips text).last ≡ suc (length s.prior) = omega (arith, is) in same) a.at;
        first = record {
          before = before_next text (length s.prior) (begins text s.prior (s.rest ∷ []) front more s.parts_are (s.rest, [], refl) (subst (Front skips 1 s.prior) a.whole s.ahead) e);
          bad = end_fits_none text fault s.prior s.rest s.parts_are refused;
        };
      }

  -- ---- the law

  -- a text is refused so within what some of its lines begin with
  pub record IsWithin (text : List ℕ) (fault : E) : Type 0 where
    pub front : List NumberedLine
    pub more : List (List ℕ)
    pub goes : Ends IsAt is_calm In read front more
    pub place : Within IsAt is_calm In front more (left_of skips text) fault

  module _ (closes : Closes IsAt is_calm In read) where
    either_bad : (text : List ℕ) (fault : E) → read (left_of skips text) ≡ Err fault → FirstBad text fault ⊎ IsWithin text fault
    either_bad text fault refused =
        let r : Refuses IsAt is_calm In read (Ends IsAt is_calm In read) (left_of skips text) fault = subst (OutcomeAtEnd IsAt is_calm In read (left_of skips text)) refused (closes.outcome (left_of skips text)) in
        elim r.place as (λ _. FirstBad text fault ⊎ IsWithin text fault) [
          | inl a ↦ inl (bad_at_line text fault r.front r.more r.goes a)
          | inr p ↦ elim p as (λ _. FirstBad text fault ⊎ IsWithin text fault) [
            | inl a ↦ inl (bad_at_end text fault r.front r.more r.goes a refused)
            | inr w ↦ inr (record { front = r.front; more = r.more; goes = r.goes; place = w })
          ]
        ]

    -- a text that agrees with one of the kind so far does so before
    begins_less : (text : List ℕ) (fewer count : ℕ) → fewer ≤ count → BeginsText IsText text count → BeginsText IsText text fewer
    begins_less text fewer count le b = (b.0, b.1, agree_before fewer count (lines_with_ends b.0) (lines_with_ends text) le b.2)

    -- there is one first bad line
    one_bad : (text : List ℕ) (m n : ℕ) → IsFirstBadLine IsText text m → IsFirstBadLine IsText text n → m ≡ n
    one_bad text m n a b = by_order (ltb m n) (ltb n m) refl refl where
      less : (i j : ℕ) → IsFirstBadLine IsText text i → IsFirstBadLine IsText text j → ltb i j ≡ true → ⊥
      less i j x y lt = let order : i < j = grind (arith, nat_tests, lt) in x.bad (begins_less text i (j - 1) (omega (arith, order)) y.before)

      by_order : (below above : Bool) → ltb m n ≡ below → ltb n m ≡ above → m ≡ n
      by_order true above h k = absurd (less m n a b h)
      by_order false true h k = absurd (less n m b a k)
      by_order false false h k = grind (arith, nat_tests, h, k)

    -- the line of a fault is the first bad one, or the fault is within
    pub is_first_or_within : (one_place : (fault : E) (m n : ℕ) → IsAt fault m → IsAt fault n → m ≡ n) (text : List ℕ) (line : ℕ) (fault : E) → read (left_of skips text) ≡ Err fault → IsAt fault line
        → IsFirstBadLine IsText text line ⊎ IsWithin text fault
    is_first_or_within one_place text line fault refused at = elim (either_bad text fault refused) as (λ _. IsFirstBadLine IsText text line ⊎ IsWithin text fault) [
      | inl f ↦ inl (subst (IsFirstBadLine IsText text) (one_place fault f.line line f.at at) f.first)
      | inr w ↦ inr w
    ]

    -- so it is the first bad one if nothing is refused within
    pub is_first : (one_place : (fault : E) (m n : ℕ) → IsAt fault m → IsAt fault n → m ≡ n) (text : List ℕ) → ((fault : E) → IsWithin text fault → ⊥) → (line : ℕ) (fault : E) → read (left_of skips text) ≡ Err fault → IsAt fault line → IsFirstBadLine IsText text line
    is_first one_place text never line fault refused at = elim (is_first_or_within one_place text line fault refused at) as (λ _. IsFirstBadLine IsText text line) [
      | inl first ↦ first
      | inr w ↦ absurd (never fault w)
    ]

    -- a text is refused at its first bad line, if what is refused within is at no other
    is_refused_by : (text : List ℕ) (line : ℕ) → ((fault : E) → IsWithin text fault → IsAt fault line) → IsFirstBadLine IsText text line → (r : Result X E) → read (left_of skips text) ≡ r → (fault : E) × (read (left_of skips text) ≡ Err fault) × IsAt fault line
    is_refused_by text line there is (Ok value) e = absurd (is.bad (text, found text value e, refl))
    is_refused_by text line there is (Err fault) e = (
      fault,
      e,
      elim (either_bad text fault e) as (λ _. IsAt fault line) [
        | inl f ↦ subst (IsAt fault) (one_bad text f.line line f.first is) f.at
        | inr w ↦ there fault w
      ],
    )

    pub is_refused : (text : List ℕ) (line : ℕ) → ((fault : E) → IsWithin text fault → IsAt fault line) → IsFirstBadLine IsText text line → (fault : E) × (read (left_of skips text) ≡ Err fault) × IsAt fault line
    is_refused text line there is = is_refused_by text line there is (read (left_of skips text)) refl

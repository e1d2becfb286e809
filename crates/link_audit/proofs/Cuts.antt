-- Bytes, cut at their line ends.
use Rattle.std.proofs.Common.{◌≡◌, ◌≢◌, ℕ, ◌+◌, ◌-◌, ◌^◌, ◌<◌, ◌≤◌, List, [], ◌∷◌, ◌++◌, Bool, false, cond, length, take, drop, get_or, refl, sym, ap, ◌∙◌, arith, inl, inr, length-take, length-drop, ◌==◌, slice_range, append_assoc, append-nil, drop-drop, take-append-drop, get_or-drop, take_all}
use Rattle.std.proofs.lemmas.List.{drop_more}
use Rattle.std.proofs.lemmas.Bool.{or_parts}
use Rattle.std.proofs.lemmas.Bool.Decides.{leb_tells}
use Rattle.link_audit.specs.{all_answers, ended_line, has_end, BeginsWithLine, End, LineGot, HasNoLine, whole_lines_after, whole_lines, lines_at, replies_at}
use Rattle.tac_io.proofs.LineEnds.{no_end-more}
use Rattle.tac_io.specs.declared.line_got.LineGot.TheVariants.{Budget}
use Rattle.tac_io.proofs.ByBytes.{all_answers-line, all_answers-end, all_answers-budget}
use Rattle.link_audit.proofs.Leading.{IsLast}

-- ---- whole lines

pub whole_lines-line : (before line rest : List ℕ) → has_end line ≡ false → whole_lines_after before (line ++ 10 ∷ rest) ≡ (before ++ line) ∷ whole_lines_after [] rest
whole_lines-line before [] rest none = ap (λ (l : List ℕ). l ∷ whole_lines_after [] rest) (sym (append-nil before))
whole_lines-line before (byte ∷ line) rest none =
    let both = or_parts (byte == 10) (has_end line) none in
    ap (λ (b : Bool). cond b (before ∷ whole_lines_after [] (line ++ 10 ∷ rest)) (whole_lines_after (before ++ byte ∷ []) (line ++ 10 ∷ rest))) both.0
    ∙ (whole_lines-line (before ++ byte ∷ []) line rest both.1 ∙ ap (λ (l : List ℕ). l ∷ whole_lines_after [] rest) (append_assoc before (byte ∷ []) line))

pub whole_lines-none : (before bytes : List ℕ) → has_end bytes ≡ false → whole_lines_after before bytes ≡ []
whole_lines-none before [] none = refl
whole_lines-none before (byte ∷ bytes) none =
    let both = or_parts (byte == 10) (has_end bytes) none in
    ap (λ (b : Bool). cond b (before ∷ whole_lines_after [] bytes) (whole_lines_after (before ++ byte ∷ []) bytes)) both.0 ∙ whole_lines-none (before ++ byte ∷ []) bytes both.1

-- ---- ranges

module _ (bytes : List ℕ) (from : ℕ) where
  pub range_more : (i : ℕ) → from ≤ i → i < length bytes → get_or bytes i 0 ≢ 10 → has_end (slice_range bytes from i) ≡ false → has_end (slice_range bytes from (i + 1)) ≡ false
  range_more i after inside other none =
      let n : ℕ = i - from in
      let at : from + n ≡ i = omega arith in
      let more : n + 1 ≡ (i + 1) - from = omega arith in
      let here : get_or (drop from bytes) n 0 ≡ get_or bytes i 0 = get_or-drop from bytes n 0 ∙ ap (λ (k : ℕ). get_or bytes k 0) at in
      ap (λ (k : ℕ). has_end (take k (drop from bytes))) (sym more)
      ∙ no_end-more (drop from bytes) n (omega (arith, length-drop from bytes, inside, after)) (λ is. other (sym here ∙ is)) none

  pub range_line : (end : ℕ) → from ≤ end → end < length bytes → get_or bytes end 0 ≡ 10 → has_end (slice_range bytes from end) ≡ false
      → BeginsWithLine (drop from bytes) (slice_range bytes from end) (drop (end + 1) bytes)
  range_line end after inside is none =
      let n : ℕ = end - from in
      let at : n + from ≡ end = omega arith in
      let rest : drop n (drop from bytes) ≡ 10 ∷ drop (end + 1) bytes =
      drop-drop n from bytes ∙ (ap (λ (k : ℕ). drop k bytes) (let e : from + n ≡ end = omega arith in e) ∙ (drop_more bytes end 0 inside ∙ ap (λ (b : ℕ). b ∷ drop (end + 1) bytes) is)) in
      record { whole = sym (take-append-drop n (drop from bytes)) ∙ ap (λ (l : List ℕ). take n (drop from bytes) ++ l) rest; first = none }

  pub range_rest : (end : ℕ) → length bytes ≤ end → has_end (slice_range bytes from end) ≡ false → has_end (drop from bytes) ≡ false
  range_rest end past none = ap has_end (sym (take_all (end - from) (drop from bytes) (omega (arith, length-drop from bytes, past)))) ∙ none

-- ---- from a place on

module _ (asked : List ℕ) (at : ℕ) (short : length asked ≤ 2 ^ 26) (within : at ≤ length asked) where
  pub lines_here : (end : ℕ) → at ≤ end → end < length asked → BeginsWithLine (drop at asked) (slice_range asked at end) (drop (end + 1) asked) → lines_at asked at ≡ ended_line (slice_range asked at end) ∷ lines_at asked (end + 1)
  lines_here end after inside b =
      let long : length (slice_range asked at end) ≡ end - at = omega (arith, length-take (end - at) (drop at asked), length-drop at asked, inside, after) in
      ap (λ (l : List ℕ). all_answers [] (2 ^ 26 - at) l) b.whole
      ∙ all_answers-line [] (slice_range asked at end) (drop (end + 1) asked) (2 ^ 26 - at) (2 ^ 26 - (end + 1)) b.first (omega (arith, long, short, inside, after))

  pub lines_end : has_end (drop at asked) ≡ false → HasNoLine (lines_at asked at)
  lines_end none = elim (leb_tells (2 ^ 26) (length asked)) [
    | inl full ↦ inr (
        ap (all_answers [] (2 ^ 26 - at)) (sym (append-nil (drop at asked)))
        ∙ all_answers-budget [] (drop at asked) [] (2 ^ 26 - at) none (let most = full.1 in omega (arith, length-drop at asked, short, within, most)))
    | inr less ↦ inl (all_answers-end [] (drop at asked) (2 ^ 26 - at) none (let few = less.1 in omega (arith, length-drop at asked, within, few)))
  ]

-- what stands where no line is left is no line
pub no_line : (lines : List (LineGot × List ℕ)) → HasNoLine lines → (got : LineGot) × IsLast got × (lines ≡ (got, []) ∷ [])
no_line lines (inl end) = (End, tt, end)
no_line lines (inr full) = (Budget, tt, full)

module _ (said : List ℕ) (told : ℕ) where
  pub replies_here : (end : ℕ) → BeginsWithLine (drop told said) (slice_range said told end) (drop (end + 1) said) → replies_at said told ≡ slice_range said told end ∷ replies_at said (end + 1)
  replies_here end b = ap whole_lines b.whole ∙ whole_lines-line [] (slice_range said told end) (drop (end + 1) said) b.first

  pub replies_end : has_end (drop told said) ≡ false → replies_at said told ≡ []
  replies_end none = whole_lines-none [] (drop told said) none

-- The first line, the last line and the line of the seat words.
use Rattle.std.proofs.Common.{◌≡◌, ◌⊎◌, inl, inr, ℕ, ◌≤◌, ◌<◌, Bool, true, false, cond, ◌&&◌, eqb, ltb, List, [], ◌∷◌, Ok, Err, length, refl, sym, ap, ◌∙◌, subst, arith, ℤ, lit<, lit≤, eq-eqb, codes, nat_le, bytes_eq, eqb-true, leb-true}
use Rattle.std.specs.List.{list_all, join_with_byte, AllByRecursion}
use Rattle.std.proofs.lemmas.Bool.Decides.{nat_tests}
use Rattle.std.proofs.lemmas.List.Splits.{join_with_byte-slice_split}
use Rattle.tac_base.proofs.NumeralLaws.{both_true}
use Rattle.tac_base.proofs.Signed.{Lacks}
use Rattle.game_text.specs.{Reason, Keyword, WordCount, Spelling, Repeated, words_of, row, row_text, header_of_words, header_of, header_text, nothing_from, read_end_line, is_seat_byte, is_seat_word, are_distinct, seats_of_words, seats_of, seats_text, AreSeats}
use Rattle.text_forms.proofs.Joins.{joined_parts}
use Rattle.text_forms.proofs.RowLaws.{row_is, same_word}
use Rattle.text_forms.proofs.PrintedLines.{IsLine, lacks_from, join_lacks, join_short, starts_kept}
use Rattle.text_forms.proofs.Reading.{bind_ok, ok_is}
use Rattle.game_text.proofs.Choices.{passed}
use Rattle.game_text.proofs.Versions.{by_version}

-- ---- the first line and the last

which_version : (first second : Bool) (version : ℕ) → cond first (Ok 1) (cond second (Ok 2) (Err Keyword)) ≡ Ok version → ((first ≡ true) × (1 ≡ version)) ⊎ ((second ≡ true) × (2 ≡ version))
which_version true second version e = inl (refl, ok_is {E = Reason} 1 version e)
which_version false true version e = inr (refl, ok_is {E = Reason} 2 version e)
which_version false false version e = absurd cc

-- the first line of a version
pub record IsHeader (line : List ℕ) (version : ℕ) : Type 0 where
  pub text : line ≡ header_text version
  pub low : 1 ≤ version
  pub high : version ≤ 2

of_version : (word : List ℕ) (version : ℕ) → ((bytes_eq word (codes "1") ≡ true) × (1 ≡ version)) ⊎ ((bytes_eq word (codes "2") ≡ true) × (2 ≡ version)) → IsHeader (join_with_byte 32 (codes "tac" ∷ word ∷ [])) version
of_version word version (inl p) = subst (IsHeader (join_with_byte 32 (codes "tac" ∷ word ∷ []))) p.1 (record { text = ap (λ (w : List ℕ). join_with_byte 32 (codes "tac" ∷ w ∷ [])) (same_word word (codes "1") p.0); low = lit≤ tt; high = lit≤ tt })
of_version word version (inr p) = subst (IsHeader (join_with_byte 32 (codes "tac" ∷ word ∷ []))) p.1 (record { text = ap (λ (w : List ℕ). join_with_byte 32 (codes "tac" ∷ w ∷ [])) (same_word word (codes "2") p.0); low = lit≤ tt; high = lit≤ tt })

header_words : (words : List (List ℕ)) (version : ℕ) → header_of_words words ≡ Ok version → IsHeader (join_with_byte 32 words) version
header_words [] version e = absurd cc
header_words (first ∷ []) version e = let a = passed (bytes_eq first (codes "tac")) Keyword _ version e in absurd cc
header_words (first ∷ second ∷ []) version e =
    let a = passed (bytes_eq first (codes "tac")) Keyword _ version e in
    let which = which_version (bytes_eq second (codes "1")) (bytes_eq second (codes "2")) version a.1 in
    subst (λ (w : List ℕ). IsHeader (join_with_byte 32 (w ∷ second ∷ [])) version) (sym (same_word first (codes "tac") a.0)) (of_version second version which)
header_words (first ∷ second ∷ third ∷ words) version e =
    let a = passed (bytes_eq first (codes "tac")) Keyword _ version e in
    let b = passed (eqb (length (second ∷ third ∷ words)) 1) WordCount _ version a.1 in
    absurd (let n = eqb-true (length (second ∷ third ∷ words)) 1 b.0 in omega (arith, n))

pub header_is : (line : List ℕ) (version : ℕ) → header_of line ≡ Ok version → IsHeader line version
unfolding header_of
header_is line version e = subst (λ (l : List ℕ). IsHeader l version) (join_with_byte-slice_split 32 line) (header_words (words_of line) version e)

pub nothing_more : (numbers : List ℤ) → length numbers ≡ 0 → numbers ≡ []
nothing_more [] len = refl
nothing_more (number ∷ numbers) len = absurd (omega (arith, len))

pub end_is : (line : List ℕ) (u : Unit {0}) → read_end_line line ≡ Ok u → line ≡ codes "end"
unfolding read_end_line
end_is line u e =
    let a = bind_ok (row (codes "end") [] line) nothing_from u e in
    let r = row_is (codes "end") [] line a.0 a.1 in
    r.text ∙ ap (row_text (codes "end")) (nothing_more a.0 r.count)

pub header_again : (version : ℕ) → 1 ≤ version → version ≤ 2 → header_of (header_text version) ≡ Ok version
unfolding header_of
header_again version low high = by_version (λ v. header_of (header_text v) ≡ Ok v) version low high refl refl

pub end_again : read_end_line (codes "end") ≡ Ok tt
unfolding read_end_line row
end_again = refl

pub header_line : (version : ℕ) → 1 ≤ version → version ≤ 2 → IsLine 678 (header_text version)
header_line version low high =
    by_version (λ v. IsLine 678 (header_text v)) version low high (record { lacks = lacks_from 10 (codes "tac 1") refl; kept = refl; short = lit≤ tt })
    (record { lacks = lacks_from 10 (codes "tac 2") refl; kept = refl; short = lit≤ tt })

pub end_line : IsLine 678 (codes "end")
end_line = record { lacks = lacks_from 10 (codes "end") refl; kept = refl; short = lit≤ tt }

-- ---- the seat words

seats_words : (all words : List (List ℕ)) → seats_of_words all ≡ Ok words → (all ≡ codes "words" ∷ words) × AreSeats words
seats_words [] words e = absurd cc
seats_words (first ∷ others) words e =
    let a = passed (bytes_eq first (codes "words")) Keyword _ words e in
    let b = passed (eqb (length others) 8) WordCount _ words a.1 in
    let c = passed (list_all is_seat_word others) Spelling _ words b.1 in
    let d = passed (are_distinct others) Repeated _ words c.1 in
    subst (λ (ws : List (List ℕ)). (first ∷ others ≡ codes "words" ∷ ws) × AreSeats ws) (ok_is {E = Reason} others words d.1)
    (ap (λ (w : List ℕ). w ∷ others) (same_word first (codes "words") a.0), record { count = eqb-true _ _ b.0; form = c.0; apart = d.0 })

pub seats_is : (line : List ℕ) (words : List (List ℕ)) → seats_of line ≡ Ok words → (line ≡ seats_text words) × AreSeats words
unfolding seats_of
seats_is line words e =
    let r = seats_words (words_of line) words e in
    (sym (join_with_byte-slice_split 32 line) ∙ ap (join_with_byte 32) r.0, r.1)

not_low : (byte b : ℕ) → byte < 48 → is_seat_byte b ≡ true → eqb b byte ≡ false
not_low byte b lt h = grind (arith, nat_tests)

bytes_lack : (byte : ℕ) (word : List ℕ) → byte < 48 → list_all is_seat_byte word ≡ true → Lacks byte word
bytes_lack byte [] lt h = tt
bytes_lack byte (b ∷ word) lt h =
    let both = both_true (is_seat_byte b) (list_all is_seat_byte word) h in
    (not_low byte b lt both.0, bytes_lack byte word lt both.1)

seats_lack : (byte : ℕ) (words : List (List ℕ)) → byte < 48 → list_all is_seat_word words ≡ true → AllByRecursion (Lacks byte) words
seats_lack byte [] lt h = tt
seats_lack byte (word ∷ words) lt h =
    let both = both_true (is_seat_word word) (list_all is_seat_word words) h in
    let form = both_true (ltb 0 (length word) && nat_le (length word) 16) (list_all is_seat_byte word) both.0 in
    (bytes_lack byte word lt form.1, seats_lack byte words lt both.1)

seats_few : (words : List (List ℕ)) → list_all is_seat_word words ≡ true → AllByRecursion (λ word. length word ≤ 16) words
seats_few [] h = tt
seats_few (word ∷ words) h =
    let both = both_true (is_seat_word word) (list_all is_seat_word words) h in
    let form = both_true (ltb 0 (length word) && nat_le (length word) 16) (list_all is_seat_byte word) both.0 in
    let size = both_true (ltb 0 (length word)) (nat_le (length word) 16) form.0 in
    (leb-true _ _ size.1, seats_few words both.1)

pub seats_again : (words : List (List ℕ)) → AreSeats words → seats_of (seats_text words) ≡ Ok words
unfolding seats_of
seats_again words is =
    let cut : words_of (seats_text words) ≡ codes "words" ∷ words = joined_parts 32 (codes "words") words (lacks_from 32 (codes "words") refl) (seats_lack 32 words (lit< tt) is.form) in
    rw (cut, eq-eqb (length words) 8 is.count, is.form, is.apart) refl

pub seats_line : (words : List (List ℕ)) → AreSeats words → IsLine 678 (seats_text words)
seats_line words is = record {
  lacks = join_lacks 10 (codes "words" ∷ words) refl (lacks_from 10 (codes "words") refl, seats_lack 10 words (lit< tt) is.form);
  kept = starts_kept 119 (codes "ords") words refl;
  short = let all = join_short 16 (codes "words") words (seats_few words is.form) in omega (arith, all, is.count);
}

-- The lines of a log's head are read as they are spelled.
use Rattle.std.proofs.Common.{◌≡◌, ℕ, ◌≤◌, ◌<◌, ◌^◌, true, ◌&&◌, List, [], ◌∷◌, ◌++◌, Some, None, refl, sym, ap, ◌∙◌, subst, append_assoc, arith, pos, decimal, lit≤, inl, inr, codes, bytes_eq}
use Rattle.std.specs.List.{AllByRecursion, join_with_byte}
use Rattle.std.proofs.lemmas.Option.{same_Some}
use Rattle.std.proofs.lemmas.List.Splits.{join_with_byte-slice_split}
use Rattle.tac_base.proofs.NumeralLaws.{both_true}
use Rattle.log_reader.specs.{words_of, row_text, Verdict, Seated, Syntax, WrongWord, Taken, Lost, Cause, Quit, End, ReadFault, WriteFault, Budget, verdict_text, cause_text, link_line, IsLoggedVerdict, IsLoggedEnd, digit_of, read_numbers, number_at, read_refused, seated_of, read_verdict, link_of_words, read_link, read_cause, ended_of, end_of_words, read_end, read_missed}
use Rattle.text_forms.proofs.Columns.{in_within}
use Rattle.text_forms.proofs.RowLaws.{is_same}
use Rattle.line_protocol.specs.ReplyForms.{◌>>=◌}
use Rattle.line_protocol.proofs.JoinedWords.{lacks}
use Rattle.line_protocol.proofs.Numbers.{bound, either_way, is_word}
use Rattle.log_text.proofs.Cuts.{IsWord, row, line_words, number_word}
use Rattle.log_text.proofs.HeadsAgain.{end_words, end_are}
use Rattle.log_text.proofs.Trades.{known_word}
use Rattle.log_reader.proofs.RowForms.{digit_is, digit_again, numbers_is, numbers_again, columns_of, each_within, one_number}

-- ---- links

abbrev pub verdict_words : Verdict → List (List ℕ)
verdict_words (Seated agent) = codes "seated" ∷ decimal agent ∷ []
verdict_words Syntax = codes "syntax" ∷ []
verdict_words WrongWord = codes "wrongword" ∷ []
verdict_words Taken = codes "taken" ∷ []
verdict_words Lost = codes "lost" ∷ []

abbrev pub link_words : ℕ → Verdict → List (List ℕ)
link_words place verdict = codes "link" ∷ decimal place ∷ verdict_words verdict

-- words that are those of a verdict
record AreVerdict (words : List (List ℕ)) (verdict : Verdict) : Type 0 where
  range : IsLoggedVerdict verdict
  same : words ≡ verdict_words verdict

known_verdict : (word known : List ℕ) (made verdict : Verdict) → bytes_eq word known ≡ true → Some made ≡ Some verdict → AreVerdict (known ∷ []) made → AreVerdict (word ∷ []) verdict
known_verdict word known made verdict same h is =
    subst (λ (v : Verdict). AreVerdict (word ∷ []) v) (same_Some made verdict h) (record { range = is.range; same = ap (λ (w : List ℕ). w ∷ []) (is_word word known same) ∙ is.same })

word_verdict_is : (word : List ℕ) (verdict : Verdict) → read_refused word ≡ Some verdict → AreVerdict (word ∷ []) verdict
word_verdict_is word verdict h =
    elim (either_way (bytes_eq word (codes "syntax")) (Some Syntax) _ verdict h) [
      | inl is ↦ known_verdict word (codes "syntax") Syntax verdict is.0 is.1 (record { range = tt; same = refl })
      | inr h ↦ elim (either_way (bytes_eq word (codes "wrongword")) (Some WrongWord) _ verdict h) [
        | inl is ↦ known_verdict word (codes "wrongword") WrongWord verdict is.0 is.1 (record { range = tt; same = refl })
        | inr h ↦ elim (either_way (bytes_eq word (codes "taken")) (Some Taken) _ verdict h) [
          | inl is ↦ known_verdict word (codes "taken") Taken verdict is.0 is.1 (record { range = tt; same = refl })
          | inr h ↦ elim (either_way (bytes_eq word (codes "lost")) (Some Lost) None verdict h) [
            | inl is ↦ known_verdict word (codes "lost") Lost verdict is.0 is.1 (record { range = tt; same = refl })
            | inr e ↦ absurd cc
          ]
        ]
      ]
    ]

seated_is : (word agent : List ℕ) (verdict : Verdict) → seated_of word agent ≡ Some verdict → AreVerdict (word ∷ agent ∷ []) verdict
seated_is word agent verdict h =
    elim (either_way (bytes_eq word (codes "seated")) (digit_of 7 agent >>= λ seat. Some (Seated seat)) None verdict h) [
      | inl is ↦
          let b = bound (digit_of 7 agent) (λ seat. Some (Seated seat)) verdict is.1 in
          let d = digit_is 7 agent b.0 (lit≤ tt) b.1 in
          subst (λ (v : Verdict). AreVerdict (word ∷ agent ∷ []) v) (same_Some (Seated b.0) verdict b.2)
          (record { range = d.1; same = ap (λ (w : List ℕ). w ∷ agent ∷ []) (is_word word (codes "seated") is.0) ∙ ap (λ (a : List ℕ). codes "seated" ∷ a ∷ []) d.0 })
      | inr e ↦ absurd cc
    ]

verdict_is : (words : List (List ℕ)) (verdict : Verdict) → read_verdict words ≡ Some verdict → AreVerdict words verdict
verdict_is [] verdict h = absurd cc
verdict_is (word ∷ []) verdict h = word_verdict_is word verdict h
verdict_is (word ∷ agent ∷ []) verdict h = seated_is word agent verdict h
verdict_is (word ∷ agent ∷ other ∷ words) verdict h = absurd cc

link_words_is : (place : ℕ) (words : List (List ℕ)) (verdict : Verdict) → link_of_words place words ≡ Some verdict → (words ≡ link_words place verdict) × IsLoggedVerdict verdict
link_words_is place [] verdict h = absurd cc
link_words_is place (keyword ∷ []) verdict h = absurd cc
link_words_is place (keyword ∷ number ∷ words) verdict h =
    elim (either_way (bytes_eq keyword (codes "link") && bytes_eq number (decimal place)) (read_verdict words) None verdict h) [
      | inl is ↦
          let both = both_true (bytes_eq keyword (codes "link")) (bytes_eq number (decimal place)) is.0 in
          let are = verdict_is words verdict is.1 in (
            ap (λ (w : List ℕ). w ∷ number ∷ words) (is_word keyword (codes "link") both.0)
                ∙ ap (λ (w : List ℕ). codes "link" ∷ w ∷ words) (is_word number (decimal place) both.1)
                ∙ ap (λ (ws : List (List ℕ)). codes "link" ∷ decimal place ∷ ws) are.same,
            are.range,
          )
      | inr e ↦ absurd cc
    ]

pub link_is : (place : ℕ) (line : List ℕ) (verdict : Verdict) → read_link place line ≡ Some verdict → (line ≡ join_with_byte 32 (link_words place verdict)) × IsLoggedVerdict verdict
unfolding read_link
link_is place line verdict h =
    let are = link_words_is place (words_of line) verdict h in
    (sym (join_with_byte-slice_split 32 line) ∙ ap (join_with_byte 32) are.0, are.1)

verdict_are : (verdict : Verdict) → IsLoggedVerdict verdict → AllByRecursion IsWord (verdict_words verdict)
verdict_are (Seated agent) h = (known_word (codes "seated") refl refl, (number_word agent (omega (arith, h)), tt))
verdict_are Syntax h = (known_word (codes "syntax") refl refl, tt)
verdict_are WrongWord h = (known_word (codes "wrongword") refl refl, tt)
verdict_are Taken h = (known_word (codes "taken") refl refl, tt)
verdict_are Lost h = (known_word (codes "lost") refl refl, tt)

pub link_are : (place : ℕ) (verdict : Verdict) → place < 2 ^ 32 → IsLoggedVerdict verdict → AllByRecursion IsWord (link_words place verdict)
link_are place verdict small h = (known_word (codes "link") refl refl, (number_word place (omega (arith, small)), verdict_are verdict h))

verdict_again : (verdict : Verdict) → IsLoggedVerdict verdict → read_verdict (verdict_words verdict) ≡ Some verdict
verdict_again (Seated agent) h = rw (digit_again 7 agent (lit≤ tt) h) refl
verdict_again Syntax h = refl
verdict_again WrongWord h = refl
verdict_again Taken h = refl
verdict_again Lost h = refl

pub link_again : (place : ℕ) (verdict : Verdict) → place < 2 ^ 32 → IsLoggedVerdict verdict → read_link place (join_with_byte 32 (link_words place verdict)) ≡ Some verdict
unfolding read_link
link_again place verdict small h =
    ap (link_of_words place) (line_words (codes "link") (decimal place ∷ verdict_words verdict) (link_are place verdict small h)) ∙ rw (is_same (decimal place)) (verdict_again verdict h)

-- the line of a link, whatever its place and its verdict are
link_joined : (place verdict : List ℕ) → row (codes "link" ∷ place ∷ verdict ∷ []) ≡ codes "link" ++ (32 ∷ place) ++ codes " " ++ verdict ++ codes "\n"
link_joined place verdict = ap (λ (t : List ℕ). codes "link" ++ 32 ∷ (t ++ 10 ∷ [])) (sym (append_assoc place (32 ∷ []) verdict))

pub link_text : (place : ℕ) (verdict : Verdict) → row (link_words place verdict) ≡ link_line (place, verdict)
link_text place (Seated agent) = link_joined (decimal place) (verdict_text (Seated agent))
link_text place Syntax = link_joined (decimal place) (verdict_text Syntax)
link_text place WrongWord = link_joined (decimal place) (verdict_text WrongWord)
link_text place Taken = link_joined (decimal place) (verdict_text Taken)
link_text place Lost = link_joined (decimal place) (verdict_text Lost)

-- ---- ends of sessions

known_cause : (word known : List ℕ) (made cause : Cause) → bytes_eq word known ≡ true → Some made ≡ Some cause → known ≡ cause_text made → word ≡ cause_text cause
known_cause word known made cause same h is = is_word word known same ∙ is ∙ ap cause_text (same_Some made cause h)

cause_is : (word : List ℕ) (cause : Cause) → read_cause word ≡ Some cause → word ≡ cause_text cause
cause_is word cause h =
    elim (either_way (bytes_eq word (codes "quit")) (Some Quit) _ cause h) [
      | inl is ↦ known_cause word (codes "quit") Quit cause is.0 is.1 refl
      | inr h ↦ elim (either_way (bytes_eq word (codes "end")) (Some End) _ cause h) [
        | inl is ↦ known_cause word (codes "end") End cause is.0 is.1 refl
        | inr h ↦ elim (either_way (bytes_eq word (codes "readfault")) (Some ReadFault) _ cause h) [
          | inl is ↦ known_cause word (codes "readfault") ReadFault cause is.0 is.1 refl
          | inr h ↦ elim (either_way (bytes_eq word (codes "writefault")) (Some WriteFault) _ cause h) [
            | inl is ↦ known_cause word (codes "writefault") WriteFault cause is.0 is.1 refl
            | inr h ↦ elim (either_way (bytes_eq word (codes "budget")) (Some Budget) None cause h) [
              | inl is ↦ known_cause word (codes "budget") Budget cause is.0 is.1 refl
              | inr e ↦ absurd cc
            ]
          ]
        ]
      ]
    ]

cause_again : (cause : Cause) → read_cause (cause_text cause) ≡ Some cause
cause_again Quit = refl
cause_again End = refl
cause_again ReadFault = refl
cause_again WriteFault = refl
cause_again Budget = refl

ended_is : (keyword agent word : List ℕ) (end : ℕ × Cause) → ended_of keyword agent word ≡ Some end → (keyword ∷ agent ∷ word ∷ [] ≡ end_words end) × IsLoggedEnd end
ended_is keyword agent word end h =
    elim (either_way (bytes_eq keyword (codes "end")) (digit_of 7 agent >>= λ seat. read_cause word >>= λ cause. Some (seat, cause)) None end h) [
      | inl is ↦
          let b = bound (digit_of 7 agent) (λ seat. read_cause word >>= λ cause. Some (seat, cause)) end is.1 in
          let d = digit_is 7 agent b.0 (lit≤ tt) b.1 in
          let c = bound (read_cause word) (λ cause. Some (b.0, cause)) end b.2 in
          let same : (b.0, c.0) ≡ end = same_Some (b.0, c.0) end c.2 in
          subst (λ (x : ℕ × Cause). (keyword ∷ agent ∷ word ∷ [] ≡ end_words x) × IsLoggedEnd x) same (
            ap (λ (w : List ℕ). w ∷ agent ∷ word ∷ []) (is_word keyword (codes "end") is.0)
                ∙ ap (λ (w : List ℕ). codes "end" ∷ w ∷ word ∷ []) d.0 ∙ ap (λ (w : List ℕ). codes "end" ∷ decimal b.0 ∷ w ∷ []) (cause_is word c.0 c.1),
            d.1,
          )
      | inr e ↦ absurd cc
    ]

end_words_is : (words : List (List ℕ)) (end : ℕ × Cause) → end_of_words words ≡ Some end → (words ≡ end_words end) × IsLoggedEnd end
end_words_is [] end h = absurd cc
end_words_is (keyword ∷ []) end h = absurd cc
end_words_is (keyword ∷ agent ∷ []) end h = absurd cc
end_words_is (keyword ∷ agent ∷ word ∷ []) end h = ended_is keyword agent word end h
end_words_is (keyword ∷ agent ∷ word ∷ other ∷ words) end h = absurd cc

pub end_is : (line : List ℕ) (end : ℕ × Cause) → read_end line ≡ Some end → (line ≡ join_with_byte 32 (end_words end)) × IsLoggedEnd end
unfolding read_end
end_is line end h =
    let are = end_words_is (words_of line) end h in
    (sym (join_with_byte-slice_split 32 line) ∙ ap (join_with_byte 32) are.0, are.1)

pub end_again : (end : ℕ × Cause) → IsLoggedEnd end → read_end (join_with_byte 32 (end_words end)) ≡ Some end
unfolding read_end
end_again end h =
    ap end_of_words (line_words (codes "end") (decimal end.0 ∷ cause_text end.1 ∷ []) (end_are end (omega (arith, h)))) ∙ rw (digit_again 7 end.0 (lit≤ tt) h, cause_again end.1) refl

-- ---- missed ticks

abbrev pub missed_text : ℕ → List ℕ
missed_text missed = row_text (codes "missed") (pos missed ∷ [])

pub missed_is : (line : List ℕ) (missed : ℕ) → read_missed line ≡ Some missed → (line ≡ missed_text missed) × (missed ≤ 255)
unfolding read_missed
missed_is line missed h =
    let b = bound (read_numbers (codes "missed") (columns_of ((0, 255) ∷ [])) line) (λ numbers. Some (number_at numbers 0)) missed h in
    let r = numbers_is (codes "missed") (columns_of ((0, 255) ∷ [])) line b.0 b.1 in
    let one = one_number 0 255 b.0 (each_within ((0, 255) ∷ []) b.0 r.count r.range) in
    subst (λ (m : ℕ). (line ≡ missed_text m) × (m ≤ 255)) (same_Some (number_at b.0 0) missed b.2) (r.text ∙ ap (row_text (codes "missed")) one.0, one.1)

pub missed_again : (missed : ℕ) → missed ≤ 255 → read_missed (missed_text missed) ≡ Some missed
unfolding read_missed
missed_again missed le =
    let read = numbers_again (codes "missed") (columns_of ((0, 255) ∷ [])) (pos missed ∷ []) (lacks 32 (codes "missed") refl) refl refl (rw (in_within 0 255 missed (omega arith) le) refl) in
    rw read refl

-- A text that begins with the head of a log determines how its game was played.
use Rattle.std.proofs.Common.{◌≡◌, ℕ, ◌+◌, List, [], ◌∷◌, ◌++◌, get_or, Option, Some, None, refl, sym, ap, ◌∙◌, append_assoc, arith, decimal, codes, if◌then◌else◌, bytes_eq, flat_map}
use Rattle.std.specs.List.{AllByRecursion, enumerate_from}
use Rattle.std.proofs.lemmas.Fmt.{decimal_injective}
use Rattle.std.proofs.lemmas.List.{append_cancel_left}
use Rattle.std.proofs.lemmas.Option.{same_Some}
use Rattle.log_text.specs.{numeral, words_of, Verdict, Seated, Syntax, WrongWord, Taken, Lost, Cause, Quit, End, ReadFault, WriteFault, Budget, Head, Play, Serve, then_number, verdict_text, cause_text, link_line, end_line, missed_line, first_lines, IsNumber, IsVerdict, IsEnd, IsHead}
use Rattle.tac_base.proofs.Signed.{Lacks}
use Rattle.text_forms.proofs.Joins.{joined_parts}
use Rattle.line_protocol.proofs.JoinedWords.{lacks}
use Rattle.log_text.proofs.Cuts.{IsWord, row, row_same, cut_same, lacks_append, number_word, number_again, pieces_cons}
use Rattle.log_text.proofs.Trades.{known_word}

-- ---- what became of a link

abbrev seated : Option ℕ → Option Verdict
seated (Some agent) = Some (Seated agent)
seated None = None

abbrev seat_at : List (List ℕ) → Option Verdict
seat_at [] = None
seat_at (agent ∷ words) = seated (numeral 20 agent)

abbrev verdict_at : List (List ℕ) → Option Verdict
verdict_at [] = None
verdict_at (keyword ∷ words) =
    if bytes_eq keyword (codes "seated") then seat_at words
    else if bytes_eq keyword (codes "syntax") then Some Syntax
    else if bytes_eq keyword (codes "wrongword") then Some WrongWord
    else if bytes_eq keyword (codes "taken") then Some Taken
    else Some Lost

verdict_found : (verdict : Verdict) → IsVerdict verdict → verdict_at (words_of (verdict_text verdict)) ≡ Some verdict
verdict_found (Seated agent) h = ap verdict_at (joined_parts 32 (codes "seated") (decimal agent ∷ []) (lacks 32 (codes "seated") refl) ((number_word agent h).0, tt)) ∙ rw (number_again agent h) refl
verdict_found Syntax h = refl
verdict_found WrongWord h = refl
verdict_found Taken h = refl
verdict_found Lost h = refl

verdict_same : (verdict other : Verdict) → IsVerdict verdict → IsVerdict other → verdict_text verdict ≡ verdict_text other → verdict ≡ other
verdict_same verdict other h k e = same_Some verdict other (sym (verdict_found verdict h) ∙ ap (λ (text : List ℕ). verdict_at (words_of text)) e ∙ verdict_found other k)

verdict_lacks : (verdict : Verdict) → IsVerdict verdict → Lacks 10 (verdict_text verdict)
verdict_lacks (Seated agent) h = lacks_append 10 (codes "seated") (then_number agent) (lacks 10 (codes "seated") refl) (refl, (number_word agent h).1)
verdict_lacks Syntax h = lacks 10 (codes "syntax") refl
verdict_lacks WrongWord h = lacks 10 (codes "wrongword") refl
verdict_lacks Taken h = lacks 10 (codes "taken") refl
verdict_lacks Lost h = lacks 10 (codes "lost") refl

-- what stands before the verdict of a link
abbrev link_words : ℕ → List ℕ
link_words place = codes "link" ++ then_number place ++ codes " "

after_words : (words verdict rest : List ℕ) → (words ++ verdict ++ codes "\n") ++ rest ≡ words ++ (verdict ++ 10 ∷ rest)
after_words words verdict rest = simp append_assoc

link_same : (place : ℕ) (verdict other : Verdict) (us vs : List ℕ) → IsVerdict verdict → IsVerdict other → link_line (place, verdict) ++ us ≡ link_line (place, other) ++ vs → (verdict ≡ other) × (us ≡ vs)
link_same place verdict other us vs h k same =
    let mine = after_words (link_words place) (verdict_text verdict) us in
    let theirs = after_words (link_words place) (verdict_text other) vs in
    let after = append_cancel_left (link_words place) (verdict_text verdict ++ 10 ∷ us) (verdict_text other ++ 10 ∷ vs) (sym mine ∙ same ∙ theirs) in
    let cut = cut_same 10 (verdict_text verdict) (verdict_text other) us vs (verdict_lacks verdict h) (verdict_lacks other k) after in
    (verdict_same verdict other h k cut.0, cut.1)

-- a text begins with another byte
abbrev BeginsWithout : ℕ → List ℕ → Type 0
BeginsWithout byte text = get_or text 0 0 ≡ byte → ⊥

begins : (text other : List ℕ) → text ≡ other → get_or other 0 0 ≡ get_or text 0 0
begins text other e = ap (λ (t : List ℕ). get_or t 0 0) (sym e)

abbrev links : ℕ → List Verdict → List ℕ → List ℕ
links place verdicts rest = flat_map link_line (enumerate_from place verdicts) ++ rest

-- a text that begins with no link is not one that begins with some
no_link : (place : ℕ) (verdict : Verdict) (verdicts : List Verdict) (us vs : List ℕ) → BeginsWithout 108 us → us ≡ links place (verdict ∷ verdicts) vs → ⊥
no_link place verdict verdicts us vs m same = m (sym (begins us _ (same ∙ pieces_cons link_line (place, verdict) (enumerate_from (place + 1) verdicts) vs)))

links_same : (place : ℕ) (verdicts others : List Verdict) (us vs : List ℕ) → AllByRecursion IsVerdict verdicts → AllByRecursion IsVerdict others → BeginsWithout 108 us → BeginsWithout 108 vs → links place verdicts us ≡ links place others vs → (verdicts ≡ others) × (us ≡ vs)
links_same place [] [] us vs h k m n same = (refl, same)
links_same place [] (other ∷ others) us vs h k m n same = absurd (no_link place other others us vs m same)
links_same place (verdict ∷ verdicts) [] us vs h k m n same = absurd (no_link place verdict verdicts vs us n (sym same))
links_same place (verdict ∷ verdicts) (other ∷ others) us vs h k m n same =
    let mine = pieces_cons link_line (place, verdict) (enumerate_from (place + 1) verdicts) us in
    let theirs = pieces_cons link_line (place, other) (enumerate_from (place + 1) others) vs in
    let first = link_same place verdict other (links (place + 1) verdicts us) (links (place + 1) others vs) h.0 k.0 (sym mine ∙ same ∙ theirs) in
    let rest = links_same (place + 1) verdicts others us vs h.1 k.1 m n first.1 in
    (ap (λ (x : Verdict). x ∷ verdicts) first.0 ∙ ap (λ (xs : List Verdict). other ∷ xs) rest.0, rest.1)

-- ---- why a session ended

abbrev cause_at : List ℕ → Cause
cause_at text =
    if bytes_eq text (codes "quit") then Quit
    else if bytes_eq text (codes "end") then End
    else if bytes_eq text (codes "readfault") then ReadFault
    else if bytes_eq text (codes "writefault") then WriteFault
    else Budget

cause_found : (cause : Cause) → cause_at (cause_text cause) ≡ cause
cause_found Quit = refl
cause_found End = refl
cause_found ReadFault = refl
cause_found WriteFault = refl
cause_found Budget = refl

cause_word : (cause : Cause) → IsWord (cause_text cause)
cause_word Quit = known_word (codes "quit") refl refl
cause_word End = known_word (codes "end") refl refl
cause_word ReadFault = known_word (codes "readfault") refl refl
cause_word WriteFault = known_word (codes "writefault") refl refl
cause_word Budget = known_word (codes "budget") refl refl

abbrev pub end_words : ℕ × Cause → List (List ℕ)
end_words end = codes "end" ∷ decimal end.0 ∷ cause_text end.1 ∷ []

pub end_row : (end : ℕ × Cause) → end_line end ≡ row (end_words end)
end_row end = simp append_assoc

pub end_are : (end : ℕ × Cause) → IsEnd end → AllByRecursion IsWord (end_words end)
end_are end h = (known_word (codes "end") refl refl, (number_word end.0 h, (cause_word end.1, tt)))

end_same : (end other : ℕ × Cause) (us vs : List ℕ) → IsEnd end → IsEnd other → end_line end ++ us ≡ end_line other ++ vs → (end ≡ other) × (us ≡ vs)
end_same end other us vs h k same =
    let cut = row_same (codes "end") (codes "end") (decimal end.0 ∷ cause_text end.1 ∷ []) (decimal other.0 ∷ cause_text other.1 ∷ []) us vs (end_are end h) (end_are other k)
    (ap (λ (line : List ℕ). line ++ us) (sym (end_row end)) ∙ same ∙ ap (λ (line : List ℕ). line ++ vs) (end_row other)) in
    let agents = decimal_injective end.0 other.0 h k (ap (λ (ws : List (List ℕ)). get_or ws 1 []) cut.0) in
    let causes = sym (cause_found end.1) ∙ ap (λ (ws : List (List ℕ)). cause_at (get_or ws 2 [])) cut.0 ∙ cause_found other.1 in
    (ap (λ (agent : ℕ). (agent, end.1)) agents ∙ ap (λ (cause : Cause). (other.0, cause)) causes, cut.1)

abbrev ends_text : List (ℕ × Cause) → List ℕ → List ℕ
ends_text ends rest = flat_map end_line ends ++ rest

no_end : (end : ℕ × Cause) (ends : List (ℕ × Cause)) (us vs : List ℕ) → BeginsWithout 101 us → us ≡ ends_text (end ∷ ends) vs → ⊥
no_end end ends us vs m same = m (sym (begins us _ (same ∙ pieces_cons end_line end ends vs)))

ends_same : (ends others : List (ℕ × Cause)) (us vs : List ℕ) → AllByRecursion IsEnd ends → AllByRecursion IsEnd others → BeginsWithout 101 us → BeginsWithout 101 vs → ends_text ends us ≡ ends_text others vs → (ends ≡ others) × (us ≡ vs)
ends_same [] [] us vs h k m n same = (refl, same)
ends_same [] (other ∷ others) us vs h k m n same = absurd (no_end other others us vs m same)
ends_same (end ∷ ends) [] us vs h k m n same = absurd (no_end end ends vs us n (sym same))
ends_same (end ∷ ends) (other ∷ others) us vs h k m n same =
    let first = end_same end other (ends_text ends us) (ends_text others vs) h.0 k.0 (sym (pieces_cons end_line end ends us) ∙ same ∙ pieces_cons end_line other others vs) in
    let rest = ends_same ends others us vs h.1 k.1 m n first.1 in
    (ap (λ (x : ℕ × Cause). x ∷ ends) first.0 ∙ ap (λ (xs : List (ℕ × Cause)). other ∷ xs) rest.0, rest.1)

-- ---- the ticks that were missed

abbrev pub missed_words : ℕ → List (List ℕ)
missed_words missed = codes "missed" ∷ decimal missed ∷ []

pub missed_row : (missed : ℕ) → missed_line missed ≡ row (missed_words missed)
missed_row missed = simp append_assoc

pub missed_are : (missed : ℕ) → IsNumber missed → AllByRecursion IsWord (missed_words missed)
missed_are missed h = (known_word (codes "missed") refl refl, (number_word missed h, tt))

missed_same : (missed other : ℕ) (us vs : List ℕ) → IsNumber missed → IsNumber other → missed_line missed ++ us ≡ missed_line other ++ vs → (missed ≡ other) × (us ≡ vs)
missed_same missed other us vs h k same =
    let cut = row_same (codes "missed") (codes "missed") (decimal missed ∷ []) (decimal other ∷ []) us vs (missed_are missed h) (missed_are other k)
    (ap (λ (line : List ℕ). line ++ us) (sym (missed_row missed)) ∙ same ∙ ap (λ (line : List ℕ). line ++ vs) (missed_row other)) in
    (decimal_injective missed other h k (ap (λ (ws : List (List ℕ)). get_or ws 1 []) cut.0), cut.1)

-- ---- the head

-- what follows the links of a head
abbrev after_links : List (ℕ × Cause) → ℕ → List ℕ → List ℕ
after_links ends missed rest = ends_text ends (missed_line missed ++ rest)

no_more_ends : (missed : ℕ) (rest : List ℕ) → BeginsWithout 101 (missed_line missed ++ rest)
no_more_ends missed rest e = let first : 109 ≡ 101 = e in omega (arith, first)

no_more_links : (ends : List (ℕ × Cause)) (missed : ℕ) (rest : List ℕ) → BeginsWithout 108 (after_links ends missed rest)
no_more_links [] missed rest e = let first : 109 ≡ 108 = e in omega (arith, first)
no_more_links (end ∷ ends) missed rest e =
    let first : 101 ≡ 108 = sym (begins _ _ (sym (pieces_cons end_line end ends (missed_line missed ++ rest)))) ∙ e in
    omega (arith, first)

regroup : (a b links ends missed rest : List ℕ) → (a ++ (b ++ links ++ ends ++ missed)) ++ rest ≡ a ++ (b ++ (links ++ (ends ++ (missed ++ rest))))
regroup a b links ends missed rest = simp append_assoc

served : (verdicts : List Verdict) (ends : List (ℕ × Cause)) (missed : ℕ) (rest : List ℕ) → first_lines (Serve verdicts ends missed) ++ rest ≡ codes "taclog 1\n" ++ (codes "serve\n" ++ links 0 verdicts (after_links ends missed rest))
served verdicts ends missed rest = regroup (codes "taclog 1\n") (codes "serve\n") (flat_map link_line (enumerate_from 0 verdicts)) (flat_map end_line ends) (missed_line missed) rest

-- a script and links have different heads
no_script : (verdicts : List Verdict) (ends : List (ℕ × Cause)) (missed : ℕ) (us vs : List ℕ) → first_lines Play ++ us ≡ first_lines (Serve verdicts ends missed) ++ vs → ⊥
no_script verdicts ends missed us vs same =
    let first : 112 ≡ 115 = ap (λ (text : List ℕ). get_or text 9 0) (same ∙ served verdicts ends missed vs) in
    omega (arith, first)

-- a head and what follows it
pub head_same : (head other : Head) (us vs : List ℕ) → IsHead head → IsHead other → first_lines head ++ us ≡ first_lines other ++ vs → (head ≡ other) × (us ≡ vs)
head_same Play Play us vs h k same = (refl, append_cancel_left (first_lines Play) us vs same)
head_same Play (Serve verdicts ends missed) us vs h k same = absurd (no_script verdicts ends missed us vs same)
head_same (Serve verdicts ends missed) Play us vs h k same = absurd (no_script verdicts ends missed vs us (sym same))
head_same (Serve verdicts ends missed) (Serve verdicts' ends' missed') us vs h k same =
    let begun = codes "taclog 1\nserve\n" in
    let after = append_cancel_left begun (links 0 verdicts (after_links ends missed us)) (links 0 verdicts' (after_links ends' missed' vs)) (sym (served verdicts ends missed us) ∙ same ∙ served verdicts' ends' missed' vs) in
    let first = links_same 0 verdicts verdicts' (after_links ends missed us) (after_links ends' missed' vs) h.0 k.0 (no_more_links ends missed us) (no_more_links ends' missed' vs) after in
    let second = ends_same ends ends' (missed_line missed ++ us) (missed_line missed' ++ vs) h.1 k.1 (no_more_ends missed us) (no_more_ends missed' vs) first.1 in
    let third = missed_same missed missed' us vs h.2 k.2 second.1 in
    (ap (λ (vs : List Verdict). Serve vs ends missed) first.0 ∙ ap (λ (es : List (ℕ × Cause)). Serve verdicts' es missed) second.0 ∙ ap (λ (n : ℕ). Serve verdicts' ends' n) third.0, third.1)

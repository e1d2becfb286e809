-- Links: the lines of their bytes, what is known of these after a call, counts of faults, what the quiet game says to them, verdicts on their
-- first lines, and what became of those without a seat.
use Rattle.std.proofs.Common.{◌≡◌, ℕ, ◌<◌, true, false, List, [], ◌∷◌, pos, Option, Some, None, ap, map, take, length, refl, arith, inl, inr, ◌++◌, ◌-◌, ◌^◌, codes, replicate}
use Rattle.std.specs.Fmt.{digits}
use Rattle.std.specs.List.{range_with_len}
use Rattle.auction_rules.specs.declared.rules.Rules.TheVariants.{Hotel as HotelRules, Flight as FlightRules, Tickets as TicketRules}
use Rattle.tac_io.specs.declared.line_got.LineGot.TheVariants.{Line, TooLong, End, Budget}
use Rattle.tac_io.specs.AllAnswers.{all_answers}
use Rattle.tac_io.specs.Known.{known_then, then_known, TakesSome}
use Rattle.tac_io.specs.Counts.{Rose}
use Rattle.tac_io.specs.States.{LinkState}
use Rattle.game_text.specs.Games.{GameFile}
use Rattle.game_text.specs.QuietGames.{quiet_game}
use Rattle.line_protocol.specs.declared.admission.Verdict.{Verdict}
use Rattle.line_protocol.specs.declared.admission.Verdict.TheVariants.{Seated, Syntax, WrongWord, Taken, Lost}
use Rattle.auction_core.specs.Setups.{setup_of}
use Rattle.agent_gate.specs.Gates.{Seats, verdict_of}
use Rattle.agent_gate.specs.Welcome.{welcome_lines}
use Rattle.game_run.specs.Admission.{seats_given, first_verdict, refusal_line, HasFirstLine, IsSentOrCut, IsLost, MayGoOn}

-- ---- bytes and counts

-- what stands after the last line end is dropped; of three bytes that may be taken the line end is the third, and then there is no room for
-- another line
lines_have_ends_and_fit_the_budget : (all_answers [] 100 (codes "own 1\n\nqui") ≡ (Line, codes "own 1") ∷ (Line, []) ∷ (End, []) ∷ [])
    × (all_answers [] 3 (codes "ab\ncd\n") ≡ (Line, codes "ab") ∷ (Budget, []) ∷ [])
lines_have_ends_and_fit_the_budget = (refl, refl)

-- 512 bytes are a line, and 513 are too many: they are passed over, and the next line counts
longest_line : all_answers [] 2000 (replicate 512 97 ++ 10 ∷ (replicate 513 97 ++ 10 ∷ codes "cash\n")) ≡ (Line, replicate 512 97) ∷ (TooLong, []) ∷ (Line, codes "cash") ∷ (End, []) ∷ []
longest_line = refl

known_bytes_grow_and_unknown_stay : (known_then (Some (codes "ab")) (codes "c") ≡ Some (codes "abc"))
    × (then_known (codes "a") (Some (codes "bc")) ≡ Some (codes "abc"))
    × (known_then None (codes "c") ≡ None)
known_bytes_grow_and_unknown_stay = (refl, refl, refl)

-- a write that failed sent nothing, or a part
cut_line : TakesSome (Some (codes "@")) (Some (codes "@0 t")) (codes "0 taken 1 0\n")
cut_line = record { count = 3; proper = omega arith; taken = refl }

pub counts_rise_or_stay : Rose 0 1 × Rose 3 4 × Rose (2 ^ 64 - 1) (2 ^ 64 - 1)
counts_rise_or_stay = (
  record { never_falls = omega arith; rises = omega arith; stays = λ last. omega (arith, last) },
  record { never_falls = omega arith; rises = omega arith; stays = λ last. omega (arith, last) },
  record { never_falls = omega arith; rises = omega arith; stays = λ last. refl },
)

-- ---- the quiet game

auctions_have_their_rules : (setup_of 0 quiet_game ≡ record { good = 0; rules = FlightRules 300 (pos 10); endow = replicate 8 (pos 0) })
    × (setup_of 15 quiet_game ≡ record { good = 15; rules = HotelRules 16 false; endow = replicate 8 (pos 0) })
    × (setup_of 27 quiet_game ≡ record { good = 27; rules = TicketRules; endow = replicate 8 (pos 0) })
unfolding quiet_game
auctions_have_their_rules = (refl, refl, refl)

-- the tickets of two agents, of which all numbers differ
abbrev endowed : GameFile
endowed = record quiet_game { endow = range_with_len 1 12 ∷ range_with_len 21 12 ∷ [] }

tickets_are_those_of_their_goods : map (λ good. (setup_of good endowed).endow) (16 ∷ 17 ∷ 27 ∷ []) ≡ (pos 1 ∷ pos 21 ∷ []) ∷ (pos 2 ∷ pos 22 ∷ []) ∷ (pos 12 ∷ pos 32 ∷ []) ∷ []
tickets_are_those_of_their_goods = refl

-- two links with the same first line, one after the other
seat_is_taken_for_the_next_link : map (λ verdicts. verdict_of (seats_given quiet_game verdicts) (codes "hello seat2")) ([] ∷ (Seated 2 ∷ []) ∷ []) ≡ Seated 2 ∷ Taken ∷ []
unfolding quiet_game
seat_is_taken_for_the_next_link = refl

ten_lines_are_sent_first : (length (welcome_lines quiet_game 3) ≡ 10)
    × (take 3 (welcome_lines quiet_game 3) ≡ codes "welcome 3" ∷ codes "endow 3 0 0 0 0 0 0 0 0 0 0 0 0" ∷ codes "client 3 0 1 2 100 0 0 100" ∷ [])
unfolding quiet_game digits
ten_lines_are_sent_first = (refl, refl)

-- ---- verdicts, in a game in which `seat2` is given

abbrev seats : Seats
seats = seats_given quiet_game (WrongWord ∷ Seated 2 ∷ Lost ∷ [])

-- no greetings: another word, no seat word, a large letter, two spaces, a space at the end, 17 bytes, and nothing
first_line_decides : (map (verdict_of seats) (codes "hello seat7" ∷ codes "hello seat2" ∷ codes "hello seat8" ∷ []) ≡ Seated 7 ∷ Taken ∷ WrongWord ∷ [])
    × (map (verdict_of seats) (codes "Hello seat7" ∷ codes "hello" ∷ codes "hello Seat7" ∷ codes "hello  seat7" ∷ codes "hello seat7 " ∷ codes "hello abcdefghijklmnopq" ∷ [] ∷ []) ≡ replicate 7 Syntax)
unfolding quiet_game
first_line_decides = (refl, refl)

one_seat_is_given_and_refused_links_are_told : (seats.taken ≡ false ∷ false ∷ true ∷ false ∷ false ∷ false ∷ false ∷ false ∷ [])
    × (first_verdict seats TooLong [] ≡ Syntax)
    × (map refusal_line (Syntax ∷ WrongWord ∷ Taken ∷ Lost ∷ []) ≡ codes "refused syntax\n" ∷ codes "refused wrongword\n" ∷ codes "refused taken\n" ∷ [] ∷ [])
unfolding quiet_game
one_seat_is_given_and_refused_links_are_told = (refl, refl, refl)

-- ---- links without a seat

-- a link that gave some bytes and has some left, was sent some, and whose reads and writes failed after so many bytes
abbrev link : List ℕ → List ℕ → List ℕ → List ℕ → List ℕ → LinkState
link taken left sent reads writes = record {
  taken = Some taken;
  left = Some left;
  sent = Some sent;
  reads = length reads;
  writes = length writes;
  read_failures = Some reads;
  write_failures = Some writes;
}

-- the first of what is known, if there is one
abbrev pub first_known : Option (List ℕ) → ℕ
first_known None = 0
first_known (Some []) = 0
first_known (Some (place ∷ places)) = place

-- of two lines the first one decides; the seat of agent 2 was given to an earlier link
second_greeting_is_taken : HasFirstLine (seats_given quiet_game (Seated 2 ∷ [])) Taken (link [] (codes "hello seat2\nhello seat3\n") [] [] [])
    (link (codes "hello seat2\nhello seat3\n") [] (codes "refused taken\n") [] [])
unfolding quiet_game
second_greeting_is_taken = record {
  bytes = codes "hello seat2\nhello seat3\n";
  gave = (refl, refl);
  got = Line;
  line = codes "hello seat2";
  first = ((Line, codes "hello seat3") ∷ (End, []) ∷ [], refl);
  due = refl;
  reads = (refl, refl);
}

refusal_is_sent_or_cut : IsSentOrCut (codes "refused taken\n") (link [] [] [] [] []) (link [] [] (codes "refused taken\n") [] [])
    × IsSentOrCut (codes "refused taken\n") (link [] [] [] [] []) (link [] [] (codes "refused") [] (7 ∷ []))
refusal_is_sent_or_cut = (inl (refl, (refl, refl)), inr (record { count = 7; proper = omega arith; taken = refl }, (counts_rise_or_stay.0, refl)))

-- a write failed after 4 bytes, and 3 more were sent
no_refusal_goes_on_after_a_failed_write : IsSentOrCut (codes "refused taken\n") (link [] [] [] [] []) (link [] [] (codes "refused") [] (4 ∷ [])) → ⊥
no_refusal_goes_on_after_a_failed_write told = elim told [
  | inl whole ↦ let e : ◌≡◌ {A = ℕ} 1 0 = whole.1.0 in omega (arith, e)
  | inr cut ↦ let e : ◌≡◌ {A = ℕ} 4 7 = ap first_known cut.1.1 in omega (arith, e)
]

-- no line end, and nothing more
lost_at_its_end_or_a_failed_read : IsLost (link [] (codes "hello seat2") [] [] []) (link (codes "hello seat2") [] [] [] [])
    × IsLost (link [] (codes "hello seat2\n") [] [] []) (link (codes "hello") (codes " seat2\n") [] (5 ∷ []) [])
lost_at_its_end_or_a_failed_read = (
  record { bytes = codes "hello seat2"; gave = (refl, refl); why = inl (refl, refl, (refl, refl)); quiet = (refl, (refl, refl)) },
  record { bytes = codes "hello"; gave = (refl, refl); why = inr (inr (refl, (counts_rise_or_stay.0, refl))); quiet = (refl, (refl, refl)) },
)

-- a read failed after 2 bytes, and 3 more were taken
no_link_is_read_after_a_failed_read : IsLost (link [] (codes "hello seat2\n") [] [] []) (link (codes "hello") (codes " seat2\n") [] (2 ∷ []) []) → ⊥
no_link_is_read_after_a_failed_read lost = elim lost.why [
  | inl ended ↦ let e : ◌≡◌ {A = ℕ} 1 0 = ended.2.0 in omega (arith, e)
  | inr other ↦ elim other [
    | inl full ↦ let e : ◌≡◌ {A = ℕ} 1 0 = full.1.0 in omega (arith, e)
    | inr failed ↦ let e : ◌≡◌ {A = ℕ} 2 5 = ap first_known failed.1.1 in omega (arith, e)
  ]
]

abbrev seven : List Verdict
seven = Seated 0 ∷ Seated 1 ∷ Seated 2 ∷ Seated 3 ∷ Seated 4 ∷ Seated 5 ∷ Seated 6 ∷ []

links_are_taken_up_to_8_seats_or_64_links : MayGoOn seven × (MayGoOn (seven ++ Seated 7 ∷ []) → ⊥) × MayGoOn (replicate 63 Syntax) × (MayGoOn (replicate 64 Syntax) → ⊥)
links_are_taken_up_to_8_seats_or_64_links = (
  (let links : 7 < 64 = omega arith in let given : 7 < 8 = omega arith in (links, given)),
  (λ more. let below : 8 < 8 = more.1 in omega (arith, below)),
  (let links : 63 < 64 = omega arith in let given : 0 < 8 = omega arith in (links, given)),
  λ more. let below : 64 < 64 = more.0 in omega (arith, below),
)

-- Links of agent 2, which bought two seats and read its cash, and the log of that game: each session ended for another cause.
use Rattle.std.proofs.Common.{◌≡◌, ℕ, zero, suc, true, false, List, [], ◌∷◌, ◌++◌, length, refl, arith, inl, inr, Some, codes, replicate, slice_get}
use Rattle.std.specs.Fmt.{digits}
use Rattle.tac_base.specs.Numerals.{numeral, signed_numeral}
use Rattle.game_text.specs.QuietGames.{quiet_game}
use Rattle.bid_strings.specs.BidForm.{points_of, point_of}
use Rattle.tac_io.specs.Counts.{Rose}
use Rattle.tac_io.specs.States.{LinkState}
use Rattle.tac_io.specs.declared.line_got.LineGot.TheVariants as gots
use Rattle.line_protocol.specs.declared.admission.Cause.{Cause}
use Rattle.line_protocol.specs.declared.admission.Cause.TheVariants as causes
use Rattle.line_protocol.specs.declared.admission.Verdict.{Verdict}
use Rattle.line_protocol.specs.declared.admission.Verdict.TheVariants.{Seated, Lost}
use Rattle.line_protocol.specs.declared.asking.RequestFault.TheVariants.{Memory}
use Rattle.line_protocol.specs.Requests.{request_of}
use Rattle.line_protocol.specs.Replies.{said_text}
use Rattle.line_protocol.specs.Heads.{Play, Serve}
use Rattle.log_text.specs.LoggedGames.{LoggedGame}
use Rattle.agent_gate.specs.Dialects.{Dialect}
use Rattle.agent_gate.specs.SessionEnds.{reply_line}
use Rattle.agent_gate.specs.Turns.{Quit, Refused}
use Rattle.agent_gate.specs.Welcome.{welcome_text}
use Rattle.agent_gate.proofs.LawfulTurns.{lawful_more, none_lawful}
use Rattle.game_run.specs.Hosted.{HostedGame, hosted_game}
use Rattle.game_run.specs.Admission.{seats_given}
use Rattle.game_run.specs.PlayedLinks.{IsSeatedLink}
use Rattle.game_run.proofs.SameLinks.{seated_from_link}
use Rattle.link_audit.specs.Links.{AccountsFor, AllowsCause, HasBytes, IsLinkOfLog, LeavesNothing, fresh_link, played_in}
use Rattle.link_audit.specs.Vouchings.{memory_replies}
use Rattle.worked_rows.proofs.Vouched.{bought, json, lawful, log, read, transcribed, words}

-- the log whose head has a cause for the agent, whose link was the second to come
abbrev ended_by : Cause → LoggedGame
ended_by cause = log (Serve (Lost ∷ Seated 2 ∷ []) ((2, cause) ∷ []) 0)

abbrev hosted : Dialect → HostedGame
hosted dialect = hosted_game quiet_game dialect 7000

-- what became of a link of which no call failed
abbrev quiet : List ℕ → List ℕ → List ℕ → LinkState
quiet taken left sent = record { taken = Some taken; left = Some left; sent = Some sent; reads = 0; writes = 0; read_failures = Some []; write_failures = Some [] }

-- in the game of a log a link that had these bytes to give was seated as agent 2, after links with the earlier verdicts, and left like this
abbrev IsAgentsLink : Dialect → LoggedGame → List Verdict → List ℕ → LinkState → Type 0
IsAgentsLink dialect log earlier asked after = IsSeatedLink (hosted dialect) (played_in quiet_game log) (seats_given quiet_game earlier) 2 (fresh_link asked) after

rose_once : Rose 0 1
rose_once = record { never_falls = omega arith; rises = omega arith; stays = λ is. absurd (omega (arith, is)) }

-- the two lines and their replies
abbrev two_lines : List ℕ
two_lines = codes "hello seat2\nbid 0 ((2 310))\ncash\n"

abbrev two_replies : List ℕ
two_replies = welcome_text quiet_game 2 ++ codes "@0 taken 2 0\n@1 cash -600\n"

-- its bytes came to an end
ended_by_its_end : IsAgentsLink words (ended_by causes.End) (Lost ∷ []) two_lines (quiet two_lines [] two_replies)
unfolding quiet_game request_of points_of point_of numeral signed_numeral digits
ended_by_its_end = record {
  cause = causes.End;
  ended = (0, omega arith, refl);
  bytes = two_lines;
  gave = (refl, refl);
  first = codes "hello seat2";
  lines = (gots.Line, codes "bid 0 ((2 310))") ∷ (gots.Line, codes "cash") ∷ [];
  rest = (gots.End, []) ∷ [];
  read = refl;
  seat = refl;
  turns = bought ∷ read ∷ [];
  items = (refl, (refl, tt));
  few = omega arith;
  lawful = lawful;
  transcript = transcribed (ended_by causes.End) (bought ∷ read ∷ []) refl refl refl (λ good. refl);
  stopped = (refl, omega arith, refl, refl);
  reads = (refl, refl);
  sent = (refl, (refl, refl));
}

-- `quit` was answered; a line that was taken with it was not, and one was not taken
abbrev quit_lines : List ℕ
quit_lines = codes "hello seat2\nbid 0 ((2 310))\ncash\nquit\nown 8\n"

abbrev quit_replies : List ℕ
quit_replies = two_replies ++ codes "bye\n"

ended_by_quit : IsAgentsLink words (ended_by causes.Quit) (Lost ∷ []) (quit_lines ++ codes "own 9\n") (quiet quit_lines (codes "own 9\n") quit_replies)
unfolding quiet_game request_of points_of point_of numeral signed_numeral digits
ended_by_quit = record {
  cause = causes.Quit;
  ended = (0, omega arith, refl);
  bytes = quit_lines;
  gave = (refl, refl);
  first = codes "hello seat2";
  lines = (gots.Line, codes "bid 0 ((2 310))") ∷ (gots.Line, codes "cash") ∷ (gots.Line, codes "quit") ∷ [];
  rest = (gots.Line, codes "own 8") ∷ (gots.End, []) ∷ [];
  read = refl;
  seat = refl;
  turns = bought ∷ read ∷ Quit ∷ [];
  items = (refl, (refl, (refl, tt)));
  few = omega arith;
  lawful = lawful_more (bought ∷ read ∷ []) Quit lawful tt refl;
  transcript = transcribed (ended_by causes.Quit) (bought ∷ read ∷ Quit ∷ []) refl refl refl (λ good. refl);
  stopped = refl;
  reads = (refl, refl);
  sent = (refl, (refl, refl));
}

-- a read failed behind the second line, where a half line had been taken
ended_by_a_read : IsAgentsLink words (ended_by causes.ReadFault) (Lost ∷ []) (two_lines ++ codes "own 8\n") (record (quiet (two_lines ++ codes "ow") (codes "n 8\n") two_replies) { reads = 1; read_failures = Some (length (two_lines ++ codes "ow") ∷ []) })
unfolding quiet_game request_of points_of point_of numeral signed_numeral digits
ended_by_a_read = record {
  cause = causes.ReadFault;
  ended = (0, omega arith, refl);
  bytes = two_lines ++ codes "ow";
  gave = (refl, refl);
  first = codes "hello seat2";
  lines = (gots.Line, codes "bid 0 ((2 310))") ∷ (gots.Line, codes "cash") ∷ [];
  rest = (gots.End, []) ∷ [];
  read = refl;
  seat = refl;
  turns = bought ∷ read ∷ [];
  items = (refl, (refl, tt));
  few = omega arith;
  lawful = lawful;
  transcript = transcribed (ended_by causes.ReadFault) (bought ∷ read ∷ []) refl refl refl (λ good. refl);
  stopped = (refl, omega arith, refl);
  reads = (rose_once, refl);
  sent = (refl, (refl, refl));
}

-- a write failed in the second reply; the line behind it was taken, and not answered
abbrev cut_replies : List ℕ
cut_replies = welcome_text quiet_game 2 ++ codes "@0 taken 2 0\n@1 ca"

ended_by_a_write : IsAgentsLink words (ended_by causes.WriteFault) (Lost ∷ []) (two_lines ++ codes "own 8\n") (record (quiet (two_lines ++ codes "own 8\n") [] cut_replies) { writes = 1; write_failures = Some (length cut_replies ∷ []) })
unfolding quiet_game request_of points_of point_of numeral signed_numeral digits
ended_by_a_write = record {
  cause = causes.WriteFault;
  ended = (0, omega arith, refl);
  bytes = two_lines ++ codes "own 8\n";
  gave = (refl, refl);
  first = codes "hello seat2";
  lines = (gots.Line, codes "bid 0 ((2 310))") ∷ (gots.Line, codes "cash") ∷ [];
  rest = (gots.Line, codes "own 8") ∷ (gots.End, []) ∷ [];
  read = refl;
  seat = refl;
  turns = bought ∷ read ∷ [];
  items = (refl, (refl, tt));
  few = omega arith;
  lawful = lawful;
  transcript = transcribed (ended_by causes.WriteFault) (bought ∷ read ∷ []) refl refl refl (λ good. refl);
  stopped = tt;
  reads = (refl, refl);
  sent = (welcome_text quiet_game 2 ∷ reply_line said_text bought ∷ [], reply_line said_text read, 5, refl, omega arith, refl, (rose_once, refl));
}

-- a JSON line for which memory was refused has its reply, and left nothing
abbrev nothing_called : LoggedGame
nothing_called = record { head = Serve (Seated 2 ∷ []) ((2, causes.End) ∷ []) 0; histories = replicate 28 []; cash = []; scores = [] }

abbrev json_line : List ℕ
json_line = codes "hello seat2\n{\"do\":\"cash\"}\n"

abbrev memory_reply : List ℕ
memory_reply = welcome_text quiet_game 2 ++ codes "{\"no\":\"memory\"}\n"

memory_was_refused : IsAgentsLink json nothing_called [] json_line (quiet json_line [] memory_reply)
unfolding quiet_game digits
memory_was_refused = record {
  cause = causes.End;
  ended = (0, omega arith, refl);
  bytes = json_line;
  gave = (refl, refl);
  first = codes "hello seat2";
  lines = (gots.Line, codes "{\"do\":\"cash\"}") ∷ [];
  rest = (gots.End, []) ∷ [];
  read = refl;
  seat = refl;
  turns = Refused Memory ∷ [];
  items = (inr refl, tt);
  few = omega arith;
  lawful = lawful_more [] (Refused Memory) none_lawful tt refl;
  transcript = transcribed nothing_called (Refused Memory ∷ []) refl refl refl (λ good. refl);
  stopped = (refl, omega arith, refl, refl);
  reads = (refl, refl);
  sent = (refl, (refl, refl));
}

-- all these are links of the logs
are_links_of_logs : IsLinkOfLog (hosted words) (ended_by causes.End) 2 two_lines two_replies
    × IsLinkOfLog (hosted words) (ended_by causes.Quit) 2 (quit_lines ++ codes "own 9\n") quit_replies
    × IsLinkOfLog (hosted words) (ended_by causes.ReadFault) 2 (two_lines ++ codes "own 8\n") two_replies
    × IsLinkOfLog (hosted words) (ended_by causes.WriteFault) 2 (two_lines ++ codes "own 8\n") cut_replies
    × IsLinkOfLog (hosted json) nothing_called 2 json_line memory_reply
are_links_of_logs = (
  record { place = 1; listed = refl; after = _; sent = refl; seated = seated_from_link _ _ _ _ _ _ ended_by_its_end },
  record { place = 1; listed = refl; after = _; sent = refl; seated = seated_from_link _ _ _ _ _ _ ended_by_quit },
  record { place = 1; listed = refl; after = _; sent = refl; seated = seated_from_link _ _ _ _ _ _ ended_by_a_read },
  record { place = 1; listed = refl; after = _; sent = refl; seated = seated_from_link _ _ _ _ _ _ ended_by_a_write },
  record { place = 0; listed = refl; after = _; sent = refl; seated = seated_from_link _ _ _ _ _ _ memory_was_refused },
)

-- a link of which all is known, that had been sent three bytes before
bytes_are_those_since : HasBytes (quiet [] (codes "cash\n") (codes "hi\n")) (quiet (codes "ca") (codes "sh\n") (codes "hi\nbye\n")) (codes "cash\n") (codes "bye\n")
bytes_are_those_since = record { had = refl; sent_at_first = codes "hi\n"; sent_before = refl; sent_after = refl }

-- ---- no links of a log, whatever their bytes are

module _ (asked said : List ℕ) where
  -- the game was played by a script
  no_link_of_a_script : IsLinkOfLog (hosted words) (log Play) 2 asked said → ⊥
  no_link_of_a_script l = absurd (let listed = l.listed in cc)

  -- the seat was given to no link
  no_link_without_a_seat : IsLinkOfLog (hosted words) (log (Serve (Seated 3 ∷ []) ((3, causes.End) ∷ []) 0)) 2 asked said → ⊥
  no_link_without_a_seat l = by_place l.place l.listed
    where
      by_place : (place : ℕ) → slice_get (Seated 3 ∷ []) place ≡ Some (Seated 2) → ⊥
      by_place zero listed = cc
      by_place (suc place) listed = cc

  -- the head has no end of the agent's session
  no_link_without_an_end : IsLinkOfLog (hosted words) (log (Serve (Seated 2 ∷ []) [] 0)) 2 asked said → ⊥
  no_link_without_an_end l = let inside = l.seated.ended.1 in omega (arith, inside)

-- ---- what a record allows

-- all lines up to `quit` were answered
quit_was_answered : AccountsFor quiet_game words (ended_by causes.End) 2 quit_lines quit_replies
unfolding quiet_game request_of points_of point_of numeral signed_numeral digits
quit_was_answered = record {
  listed = refl;
  line = codes "hello seat2";
  answered = (gots.Line, codes "bid 0 ((2 310))") ∷ (gots.Line, codes "cash") ∷ (gots.Line, codes "quit") ∷ [];
  unanswered = [];
  later = (gots.Line, codes "own 8") ∷ (gots.End, []) ∷ [];
  lines = refl;
  seat = refl;
  heard = bought ∷ read ∷ Quit ∷ [];
  unheard = [];
  heard_items = (refl, (refl, (refl, tt)));
  unheard_items = tt;
  few = omega arith;
  lawful = lawful_more (bought ∷ read ∷ []) Quit lawful tt refl;
  replies = refl;
  transcript = transcribed (ended_by causes.End) (bought ∷ read ∷ Quit ∷ []) refl refl refl (λ good. refl);
}

-- a `bye` that arrived allows no other cause than `quit`
a_bye_is_of_quit_alone : AllowsCause quit_was_answered causes.Quit × (AllowsCause quit_was_answered causes.End → ⊥) × (AllowsCause quit_was_answered causes.Budget → ⊥)
unfolding quit_was_answered
a_bye_is_of_quit_alone = (
  record { left = λ bye. refl; quit = λ same. inl refl; full = λ stays. absurd (let both : true ≡ false = stays in cc); cut = λ other. absurd cc; used_up = λ other. absurd cc },
  (λ allowed. let other = allowed.left refl in cc),
  (λ allowed. let other = allowed.left refl in cc),
)

-- both lines were answered, and nothing else was asked
all_was_answered : AccountsFor quiet_game words (ended_by causes.End) 2 two_lines two_replies
unfolding quiet_game request_of points_of point_of numeral signed_numeral digits
all_was_answered = record {
  listed = refl;
  line = codes "hello seat2";
  answered = (gots.Line, codes "bid 0 ((2 310))") ∷ (gots.Line, codes "cash") ∷ [];
  unanswered = [];
  later = (gots.End, []) ∷ [];
  lines = refl;
  seat = refl;
  heard = bought ∷ read ∷ [];
  unheard = [];
  heard_items = (refl, (refl, tt));
  unheard_items = tt;
  few = omega arith;
  lawful = lawful;
  replies = refl;
  transcript = transcribed (ended_by causes.End) (bought ∷ read ∷ []) refl refl refl (λ good. refl);
}

-- no write failed where nothing is left over, and three lines use nothing up
no_fault_and_no_budget : LeavesNothing all_was_answered × (AllowsCause all_was_answered causes.WriteFault → ⊥) × (AllowsCause all_was_answered causes.Budget → ⊥)
unfolding all_was_answered quiet_game digits
no_fault_and_no_budget = (
  record { all_heard = refl; last = inr (inl refl); ended = refl },
  (λ allowed. allowed.cut refl (inl refl)),
  (λ allowed. elim (allowed.used_up refl) [ inl lines ↦ omega (arith, lines) | inr bytes ↦ omega (arith, bytes) ]),
)

-- nor did the agent quit
no_quit : AllowsCause all_was_answered causes.Quit → ⊥
unfolding all_was_answered quiet_game digits
no_quit allowed = elim (allowed.quit refl) [ inl bye ↦ (let other = bye in cc) | inr asks ↦ elim asks [ inl is ↦ is | inr more ↦ more ] ]

-- of two replies one says that there was no memory
memory_is_counted : memory_replies json.text (codes "{\"no\":\"memory\"}" ∷ codes "{\"bye\":true}" ∷ []) ≡ 1
memory_is_counted = refl

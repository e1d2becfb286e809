-- The definitions on small links: each lemma compares what they say with what was worked out by hand.
use Rattle.std.proofs.Common.{◌≡◌, ℕ, List, [], ◌∷◌, ◌++◌, length, map, Err, refl, sym, ap, ◌∙◌, arith, inr, pos, codes, neg_ℤ, replicate}
use Rattle.std.specs.Fmt.{digits}
use Rattle.std.specs.List.{AllZip}
use mathlib.Core.Option.{some, none}
use lib.ListN.{get_elem?}
use Rattle.tac_base.specs.Numerals.{numeral, signed_numeral}
use Rattle.tac_base.specs.declared.calls.Board.{Board}
use Rattle.tac_base.specs.declared.calls.Call.TheVariants as calls
use Rattle.tac_base.specs.declared.calls.Reply.TheVariants as replies
use Rattle.game_text.specs.QuietGames.{quiet_game}
use Rattle.auction_rules.specs.History.{Entry}
use Rattle.turn_lock.specs.Part.{part}
use Rattle.turn_lock.specs.Notes.{AreNotes}
use Rattle.auction_core.specs.Auctions.{AuctionHistory}
use Rattle.auction_core.specs.ClosedGame.{all_goods}
use Rattle.floor.specs.ClosedBoards.{board_of}
use Rattle.trade_ledger.specs.declared.cash_calls.CashCall.TheVariants as cash_calls
use Rattle.trade_ledger.specs.declared.cash_calls.CashReply.TheVariants as cash_replies
use Rattle.trade_ledger.specs.declared.cash_calls.CashEntry.{CashEntry}
use Rattle.bid_strings.specs.BidForm.{points_of, point_of}
use Rattle.tac_io.specs.declared.line_got.LineGot.{LineGot}
use Rattle.tac_io.specs.declared.line_got.LineGot.TheVariants as gots
use Rattle.line_protocol.specs.declared.admission.Cause.TheVariants as causes
use Rattle.line_protocol.specs.declared.admission.Verdict.TheVariants.{Seated, Lost}
use Rattle.line_protocol.specs.declared.asking.Request.TheVariants as requests
use Rattle.line_protocol.specs.declared.asking.RequestFault.TheVariants.{Memory}
use Rattle.line_protocol.specs.Requests.{request_of}
use Rattle.line_protocol.specs.Heads.{Head, Play, Serve}
use Rattle.log_text.specs.LoggedGames.{LoggedGame}
use Rattle.log_text.specs.SoundLog.{auctions_in}
use Rattle.agent_gate.specs.Dialects.{Dialect}
use Rattle.agent_gate.specs.Items.{Asks, IsItem}
use Rattle.agent_gate.specs.Transcript.{IsTranscript}
use Rattle.agent_gate.specs.Turns.{Turn, Called, CashRead, AreLawful, boards_shown, cash_made, made_at}
use Rattle.agent_gate.specs.Welcome.{welcome_text}
use Rattle.agent_gate.proofs.LawfulTurns.{none_lawful, lawful_more}
use Rattle.tac_commands.specs.declared.services.Form.TheVariants.{Lines, Json}
use Rattle.tac_commands.specs.Services.{dialect_in}
use Rattle.link_audit.specs.Links.{AccountsFor, IsVouched, MayAsk, closed_in, logged_ends, logged_verdicts, whole_lines}

-- ---- parts

-- half a line at the end is none, and an empty line is one
whole_lines_end : (whole_lines (codes "welcome 2\n@0 taken 2 0\n@1 qu") ≡ codes "welcome 2" ∷ codes "@0 taken 2 0" ∷ []) × (whole_lines (codes "\n\nbye") ≡ [] ∷ [] ∷ []) × (whole_lines (codes "bye") ≡ [])
whole_lines_end = (refl, refl, refl)

heads_say_what_became_of_links : (logged_verdicts (Serve (Lost ∷ Seated 2 ∷ []) ((2, causes.End) ∷ []) 0) ≡ Lost ∷ Seated 2 ∷ []) × (logged_ends (Serve (Lost ∷ Seated 2 ∷ []) ((2, causes.End) ∷ []) 0) ≡ (2, causes.End) ∷ [])
    × (logged_verdicts Play ≡ []) × (logged_ends Play ≡ [])
heads_say_what_became_of_links = (refl, refl, refl, refl)

-- a JSON line may have been answered for want of memory; where its reply did not come, it was not
abbrev pub json : Dialect
json = dialect_in Json

memory_is_told_by_its_reply_alone : IsItem json.may_answer (gots.Line, codes "{\"do\":\"cash\"}") (Asks (Err Memory)) × (IsItem (MayAsk json.may_answer) (gots.Line, codes "{\"do\":\"cash\"}") (Asks (Err Memory)) → ⊥)
memory_is_told_by_its_reply_alone = (inr refl, λ asked. asked.1 refl)

-- ---- a link of agent 2, which bought two seats and read its cash, and whose last reply did not come

abbrev pub words : Dialect
words = dialect_in Lines

abbrev bid_entry : Entry
bid_entry = record {
  caller = 2;
  call = calls.Bid (record { units = pos 2; price = 310 } ∷ []);
  reply = replies.Taken 2 0;
  trades = record { buyer = 2; seller = 8; good = 0; units = 2; price = 300 } ∷ [];
}

abbrev post : CashEntry
post = record {
  caller = 2;
  call = cash_calls.Post 0 0 (record { dollars = pos 0 ∷ pos 0 ∷ neg_ℤ (pos 600) ∷ replicate 5 (pos 0) ++ pos 600 ∷ [] });
  reply = cash_replies.Done;
}

abbrev cash_entry : CashEntry
cash_entry = record { caller = 2; call = cash_calls.Read 2; reply = cash_replies.Cash (neg_ℤ (pos 600)) }

-- the log of a game in which nobody else called, with this head
abbrev pub log : Head → LoggedGame
log head = record { head = head; histories = (bid_entry ∷ []) ∷ replicate 27 []; cash = post ∷ cash_entry ∷ []; scores = [] }

abbrev served : LoggedGame
served = log (Serve (Lost ∷ Seated 2 ∷ []) ((2, causes.End) ∷ []) 0)

abbrev pub bought : Turn
bought = Called (requests.Bid 0 (record { units = pos 2; price = 310 } ∷ [])) 0 0 bid_entry 0

abbrev pub read : Turn
read = CashRead 1 (neg_ℤ (pos 600))

zip_all : {A B : Type 0} (R : A → B → Type 0) (xs : List A) (ys : List B) → length xs ≡ length ys → ((x : A) (y : B) → R x y) → AllZip R xs ys
zip_all R [] [] long each = tt
zip_all R [] (y ∷ ys) long each = absurd (omega (arith, long))
zip_all R (x ∷ xs) [] long each = absurd (omega (arith, long))
zip_all R (x ∷ xs) (y ∷ ys) long each = (each x y, zip_all R xs ys (omega (arith, long)) each)

-- turns that show no board are the agent's part of a log, if they made its entries
pub transcribed : (logged : LoggedGame) (turns : List Turn) → length (auctions_in quiet_game logged) ≡ 28
    → map (λ auction. part (λ e. e.caller) auction.history 2) (auctions_in quiet_game logged) ≡ map (λ good. made_at good turns) all_goods
    → part (λ e. e.caller) logged.cash 2 ≡ cash_made 2 turns → ((good : ℕ) → boards_shown good turns ≡ []) → IsTranscript 2 (closed_in quiet_game logged) turns
transcribed logged turns long calls cash quiet = record {
  calls = calls;
  cash = cash;
  boards = zip_all (λ (auction : AuctionHistory) good. AreNotes (board_of auction) auction.history (length auction.history) (boards_shown good turns)) (auctions_in quiet_game logged) all_goods long
      (λ auction good k note at. absurd (never k note (sym (ap (λ (notes : List (ℕ × Board)). get_elem? notes k) (quiet good)) ∙ at)));
}
  where
    never : (k : ℕ) (note : ℕ × Board) → get_elem? {A = ℕ × Board} [] k ≡ some note → ⊥
    never k note at = let none_is : none ≡ some note = at in cc

pub lawful : AreLawful (bought ∷ read ∷ [])
lawful = lawful_more (bought ∷ []) read (lawful_more [] bought none_lawful (refl, omega arith, omega arith, λ k d inside. absurd (omega (arith, inside))) refl) (omega arith) refl

-- the last line and its reply are cut, and a line that was not read by the server comes behind
abbrev asked : List ℕ
asked = codes "hello seat2\nbid 0 ((2 310))\ncash\nown 8\nquo"

abbrev said : List ℕ
said = welcome_text quiet_game 2 ++ codes "@0 taken 2 0\n@1 ca"

lines_account_for_the_log : AccountsFor quiet_game words served 2 asked said
unfolding quiet_game request_of points_of point_of numeral signed_numeral digits
lines_account_for_the_log = record {
  listed = refl;
  line = codes "hello seat2";
  answered = (gots.Line, codes "bid 0 ((2 310))") ∷ [];
  unanswered = (gots.Line, codes "cash") ∷ [];
  later = (gots.Line, codes "own 8") ∷ (gots.End, []) ∷ [];
  lines = refl;
  seat = refl;
  heard = bought ∷ [];
  unheard = read ∷ [];
  heard_items = (refl, tt);
  unheard_items = ((refl, λ is. absurd cc), tt);
  few = omega arith;
  lawful = lawful;
  replies = refl;
  transcript = transcribed served (bought ∷ read ∷ []) refl refl refl (λ good. refl);
}

link_is_vouched_for : IsVouched quiet_game words served 2 asked said
unfolding lines_account_for_the_log
link_is_vouched_for = record {
  account = lines_account_for_the_log;
  cause = causes.End;
  ended = (0, omega arith, refl);
  allowed = record { left = λ bye. absurd cc; quit = λ other. absurd cc; full = λ stays most. absurd (omega (arith, most)); cut = λ other. absurd cc; used_up = λ other. absurd cc };
}

-- ---- links that are not vouched for, whatever the rest

-- the head gives the seat to no link, or the log is that of a game from a script
seat_is_listed : (IsVouched quiet_game words (log (Serve (Lost ∷ Seated 3 ∷ []) [] 0)) 2 asked said → ⊥) × (IsVouched quiet_game words (log Play) 2 asked said → ⊥)
seat_is_listed = ((λ v. let listed = v.account.listed in absurd cc), (λ v. let listed = v.account.listed in absurd cc))

-- no line asks for the seat
greeting_has_an_end : IsVouched quiet_game words served 2 (codes "hello seat2") said → ⊥
greeting_has_an_end v = absurd (let kind : gots.End ≡ gots.Line = ap (λ (answers : List (LineGot × List ℕ)). kind_of answers) v.account.lines in cc)
  where
    kind_of : List (LineGot × List ℕ) → LineGot
    kind_of [] = gots.Line
    kind_of (answer ∷ answers) = answer.0

-- nothing was said, so the ten lines did not come
welcome_comes_whole : IsVouched quiet_game words served 2 asked [] → ⊥
welcome_comes_whole v = let none = v.account.replies in absurd cc

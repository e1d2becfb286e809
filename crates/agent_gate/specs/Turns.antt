-- The turns of a session: each is a line's item with its reply, and with the entries that were made in the auctions and in the cash
-- history. What a turn may be is our own rule.
use Rattle.std.specs.Prelude.{⊤, ◌≡◌, ℕ, ◌+◌, ◌<◌, ◌≤◌, ◌==◌, if◌then◌else◌, List, [], ◌∷◌, Bool, true, false, ℤ, Option, Some, None, Ok, Err, All, length, map, take, slice_get, filter_map, flat_map, count_by}
use Rattle.std.specs.List.{list_any}
use Rattle.tac_base.specs.declared.limits.TheConstants.{AGENT_CALLS, CASH_READINGS, GOODS}
use Rattle.tac_base.specs.declared.calls.Board.{Board}
use Rattle.tac_base.specs.declared.calls.Call.{Call}
use Rattle.line_protocol.specs.declared.asking.Request.{Request}
use Rattle.line_protocol.specs.declared.asking.RequestFault.{RequestFault}
use Rattle.line_protocol.specs.declared.saying.Said.{Said}
use Rattle.auction_rules.specs.History.{Entry}
use Rattle.trade_ledger.specs.declared.cash_calls.CashEntry.{CashEntry}
use Rattle.trade_ledger.specs.Posts.{due_post}
use Rattle.tac_base.specs.declared.calls.Call.TheVariants as calls
use Rattle.trade_ledger.specs.declared.cash_calls.CashCall.TheVariants as cash_calls
use Rattle.trade_ledger.specs.declared.cash_calls.CashReply.TheVariants as cash_replies
use Rattle.line_protocol.specs.declared.asking.Request.TheVariants as requests
use Rattle.line_protocol.specs.declared.saying.Said.TheVariants as said
use Rattle.agent_gate.specs.Items.{Item, Asks, Overlong}

-- A turn, by its kind: what the line asks for, the reply, the entry that was made, and when the turn is lawful. A position or a board's
-- count is behind if an earlier turn showed that the good's history has more entries than that.
pub data Turn : Type 0 where
  -- The line asks for a call at a good. The reply is `@P ..`, where P is the position of its entry there; the post that is due to the
  -- entry, if any, is at `posted` in the cash history. Lawful if the agent has calls left at the good and P is not behind.
  Called : (request : Request) → (good : ℕ) → (position : ℕ) → (entry : Entry) → (posted : ℕ) → Turn
  -- The line asks for a call. The reply is `no spent`, and there is no entry. Lawful if the agent has no calls left at the good.
  CallDenied : (request : Request) → (good : ℕ) → Turn
  -- The line asks for cash. The reply is `@P cash D`, and the reading is at P in the cash history. Lawful if the agent has readings
  -- left.
  CashRead : (position : ℕ) → (dollars : ℤ) → Turn
  -- The line asks for cash. The reply is `no spent`, and there is no entry. Lawful if the agent has no readings left.
  CashDenied : Turn
  -- The line asks for a quote. The reply is a board, and there is no entry. Lawful if the board's count is not behind.
  Quoted : (good : ℕ) → (board : Board) → Turn
  -- The line is not a request. The reply is its fault, and there is no entry. Always lawful.
  Refused : (fault : RequestFault) → Turn
  -- The line is too long. The reply is `no toolong`, and there is no entry. Always lawful.
  Skipped : Turn
  -- The line asks to quit. The reply is `bye`, there is no entry, and no turn follows. Always lawful.
  Quit : Turn

-- ---- items and replies

-- what the line of a turn asks for, and the reply
-- Row: each_line_is_asked_and_answered_once (worked_rows/proofs/Sessions.antt)
abbrev pub asked_and_said : Turn → Item × Said
asked_and_said (Called request good position entry posted) = (Asks (Ok request), said.At position entry.reply)
asked_and_said (CallDenied request good) = (Asks (Ok request), said.Spent)
asked_and_said (CashRead position dollars) = (Asks (Ok requests.Cash), said.Cash position dollars)
asked_and_said CashDenied = (Asks (Ok requests.Cash), said.Spent)
asked_and_said (Quoted good board) = (Asks (Ok (requests.Quote good)), said.Quote board)
asked_and_said (Refused fault) = (Asks (Err fault), said.Fault fault)
asked_and_said Skipped = (Overlong, said.TooLong)
asked_and_said Quit = (Asks (Ok requests.Quit), said.Bye)

-- what the line of a turn asks for
abbrev pub item_of : Turn → Item
item_of turn = (asked_and_said turn).0

-- the reply of a turn
abbrev pub said_of : Turn → Said
said_of turn = (asked_and_said turn).1

-- the good and the call that a request asks for, if it is for a call
-- Row: call_is_denied_after_1024 (worked_rows/proofs/Sessions.antt)
abbrev pub asked_call : Request → Option (ℕ × Call)
asked_call (requests.Bid good points) = Some (good, calls.Bid points)
asked_call (requests.Withdraw good) = Some (good, calls.Withdraw)
asked_call (requests.Own good) = Some (good, calls.Own)
asked_call request = None

-- ---- entries and boards

-- the entry that a turn made at a good, if any, with its position
abbrev pub entry_made : ℕ → Turn → Option (ℕ × Entry)
entry_made good (Called request g position entry posted) = if g == good then Some (position, entry) else None
entry_made good turn = None

-- the entries that turns made at a good, in order, each with its position
-- Row: turns_make_the_agents_part (worked_rows/proofs/Sessions.antt)
abbrev pub made_at : ℕ → List Turn → List (ℕ × Entry)
made_at good turns = filter_map (entry_made good) turns

-- the entry of the cash history by which an agent read its cash
abbrev pub reading : ℕ → ℤ → CashEntry
reading agent dollars = record { caller = agent; call = cash_calls.Read agent; reply = cash_replies.Cash dollars }

-- the entries that a turn made in the cash history, each with its position: a post if its call traded, or a reading
abbrev pub cash_by : ℕ → Turn → List (ℕ × CashEntry)
cash_by agent (Called request good position entry posted) = map (λ post. (posted, post)) (due_post good position entry)
cash_by agent (CashRead position dollars) = (position, reading agent dollars) ∷ []
cash_by agent turn = []

-- the entries that turns made in the cash history, in order, each with its position
-- Row: turns_make_the_agents_part (worked_rows/proofs/Sessions.antt)
abbrev pub cash_made : ℕ → List Turn → List (ℕ × CashEntry)
cash_made agent turns = flat_map (cash_by agent) turns

-- the board of a good that a turn showed, if any, with the number of entries that it states
abbrev pub shown_by : ℕ → Turn → Option (ℕ × Board)
shown_by good (Quoted g board) = if g == good then Some (board.count, board) else None
shown_by good turn = None

-- the boards of a good that turns showed, in order
-- Row: shown_board_is_of_a_prefix (worked_rows/proofs/Sessions.antt)
abbrev pub boards_shown : ℕ → List Turn → List (ℕ × Board)
boards_shown good turns = filter_map (shown_by good) turns

-- whether the agent's cash was read
-- Row: reading_is_denied_after_1024 (worked_rows/proofs/Sessions.antt)
abbrev pub is_reading : Turn → Bool
is_reading (CashRead position dollars) = true
is_reading turn = false

-- whether the agent quit
abbrev pub is_leaving : Turn → Bool
is_leaving Quit = true
is_leaving turn = false

-- whether the agent has quit
-- Row: answers_tell_lengths_and_quit_is_last (worked_rows/proofs/Sessions.antt)
abbrev pub has_left : List Turn → Bool
has_left turns = list_any is_leaving turns

-- ---- the rule of turns

-- The good's history has at least this many entries, as the reply of a turn shows: an entry at position P shows P + 1, and a board
-- that states n entries shows n. A turn that shows nothing of the good counts as 0.
-- Row: answers_tell_lengths_and_quit_is_last (worked_rows/proofs/Sessions.antt)
abbrev pub shown_length : ℕ → Turn → ℕ
shown_length good (Called request g position entry posted) = if g == good then position + 1 else 0
shown_length good (Quoted g board) = if g == good then board.count else 0
shown_length good turn = 0

-- No earlier turn showed the good's history to have more than `count` entries. For a call, `count` is the position of its entry, so
-- the call comes after everything that the agent had seen there; for a quote, it is the number of entries that the board states.
-- Row: board_is_not_shorter (worked_rows/proofs/Sessions.antt)
abbrev pub IsNotBehind : ℕ → ℕ → List Turn → Type 0
IsNotBehind good count past = All (λ turn. shown_length good turn ≤ count) past

-- What a turn may be after those before it. An agent has 1024 calls at each good, refused calls included, and 1024 readings of its
-- cash. A call is the one that its line asks for, and neither a call nor a quote is behind what was shown.
-- Row: call_is_denied_after_1024 (worked_rows/proofs/Sessions.antt)
-- Row: reading_is_denied_after_1024 (worked_rows/proofs/Sessions.antt)
abbrev pub IsLawfulTurn : List Turn → Turn → Type 0
IsLawfulTurn past (Called request good position entry posted) =
    (asked_call request ≡ Some (good, entry.call)) × (good < GOODS) × (length (made_at good past) < AGENT_CALLS) × IsNotBehind good position past
IsLawfulTurn past (CallDenied request good) = ((call : Call) × (asked_call request ≡ Some (good, call))) × (good < GOODS) × (length (made_at good past) ≡ AGENT_CALLS)
IsLawfulTurn past (CashRead position dollars) = count_by is_reading past < CASH_READINGS
IsLawfulTurn past CashDenied = count_by is_reading past ≡ CASH_READINGS
IsLawfulTurn past (Quoted good board) = (good < GOODS) × IsNotBehind good board.count past
IsLawfulTurn past turn = ⊤

-- Each turn is lawful after those before it, and none comes after the turn in which the agent quit.
-- Row: nothing_comes_after_quit (worked_rows/proofs/Sessions.antt)
abbrev pub AreLawful : List Turn → Type 0
AreLawful turns = (n : ℕ) (turn : Turn) → slice_get turns n ≡ Some turn → IsLawfulTurn (take n turns) turn × (has_left (take n turns) ≡ false)

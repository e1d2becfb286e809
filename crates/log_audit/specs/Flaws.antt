-- The flaws of a log. Each flaw has a sentence about one place of the log: the log has the flaw if that sentence does not hold.
use Rattle.std.specs.Prelude.{◌≡◌, ◌≢◌, ℕ, ◌<◌, ◌⊎◌, ⊤, Bool, true, false, List, [], take, reverse, Some, slice_get}
use Rattle.std.specs.List.{list_any}
use Rattle.log_audit.specs.Prelude.{Nets, GOODS, GameFile, clock_calls, Setup, nets as nets_of, CashCall, CashEntry, setup_of, settlement_of, Scored, IsDueScore, LoggedGame, logged_history, clock_calls_in, auctions_in, IsSoundHead}
use Rattle.auction_rules.specs.History.{Entry}
use Rattle.auction_rules.specs.Legal.{cap, entries_of}
use Rattle.auction_rules.specs.BookRules as rules
use Rattle.trade_ledger.specs.declared.cash_calls.CashCall.TheVariants as cash_calls
use Rattle.trade_ledger.specs.CashHistory as cash_book
use Rattle.trade_ledger.specs.Posts.{is_post_at}
use Rattle.log_audit.specs.declared.findings.Flaw.{Flaw}
use Rattle.log_audit.specs.declared.findings.Flaw.TheVariants as flaws
use Rattle.log_audit.specs.declared.findings.Finding.{Finding}
use Rattle.log_audit.specs.declared.findings.Finding.TheVariants as findings

-- ---- entries

-- after these entries, the entry has the reply and the trades that the rules give, and its caller had an entry left
pub record IsFair (setup : Setup) (before : List Entry) (e : Entry) : Type 0 where
  pub reply : e.reply ≡ rules.reply_of setup (reverse before) e.caller e.call
  pub trades : e.trades ≡ rules.trades_of setup (reverse before) e.caller e.call
  pub room : entries_of before e.caller ≢ cap e.caller

abbrev pub HasFairEntry : Setup → List Entry → ℕ → Type 0
HasFairEntry setup history position = (e : Entry) → slice_get history position ≡ Some e → IsFair setup (take position history) e

-- ---- the clock

abbrev pub IsOnSchedule : GameFile → ℕ → List Entry → Type 0
IsOnSchedule game good history = clock_calls_in history ≡ clock_calls game good

-- ---- cash

-- a reading shows what the posts before it give its agent
abbrev pub IsTrueReading : List CashEntry → CashEntry → CashCall → Type 0
IsTrueReading before e (cash_calls.Post good position nets) = ⊤
IsTrueReading before e (cash_calls.Read agent) = e.reply ≡ cash_book.cash_reply_of before e.call

abbrev pub HasTrueReading : List CashEntry → ℕ → Type 0
HasTrueReading cash position = (e : CashEntry) → slice_get cash position ≡ Some e → IsTrueReading (take position cash) e e.call

-- ---- posts

-- whether a post of these entries names the place
abbrev pub is_posted : List CashEntry → ℕ → ℕ → Bool
is_posted cash good position = list_any (λ e. is_post_at good position e.call) cash

-- an entry with a trade, of this caller, whose trades give the parties these amounts
pub record IsEarned (caller : ℕ) (nets : Nets) (e : Entry) : Type 0 where
  pub trades : e.trades ≢ []
  pub caller_is : caller ≡ e.caller
  pub nets_are : nets.dollars ≡ nets_of e.trades

-- a post names such an entry, and no post before it names that entry
abbrev pub IsDuePost : (ℕ → List Entry) → List CashEntry → ℕ → CashCall → Type 0
IsDuePost history before caller (cash_calls.Post good position nets) =
    ((e : Entry) × (slice_get (history good) position ≡ Some e) × IsEarned caller nets e) × (is_posted before good position ≡ false)
IsDuePost history before caller (cash_calls.Read agent) = ⊤

abbrev pub HasDuePost : LoggedGame → ℕ → Type 0
HasDuePost log position = (e : CashEntry) → slice_get log.cash position ≡ Some e → IsDuePost (logged_history log) (take position log.cash) e.caller e.call

-- an entry with a trade has a post that names it
abbrev pub HasPost : LoggedGame → ℕ → ℕ → Type 0
HasPost log good position = (e : Entry) → slice_get (logged_history log good) position ≡ Some e → e.trades ≢ [] → is_posted log.cash good position ≡ true

-- ---- scores

-- an agent's score, with its packages and its certificate, is the one due to it
abbrev pub HasDueScore : GameFile → LoggedGame → ℕ → Type 0
HasDueScore game log agent = (scored : Scored) → slice_get log.scores agent ≡ Some scored → IsDueScore game (settlement_of (auctions_in game log)) agent scored

-- ---- all flaws

-- the sentence that does not hold for a log with the flaw
abbrev pub IsFreeOf : GameFile → LoggedGame → Flaw → Type 0
IsFreeOf game log (flaws.Entry good position) = good < GOODS → HasFairEntry (setup_of good game) (logged_history log good) position
IsFreeOf game log (flaws.Clock good) = good < GOODS → IsOnSchedule game good (logged_history log good)
IsFreeOf game log (flaws.Cash position) = HasTrueReading log.cash position
IsFreeOf game log (flaws.Post position) = HasDuePost log position
IsFreeOf game log (flaws.Unposted good position) = good < GOODS → HasPost log good position
IsFreeOf game log (flaws.Score agent) = HasDueScore game log agent
IsFreeOf game log flaws.Head = IsSoundHead log log.head

-- ---- which flaw is reported

-- the order of the kinds of flaws
abbrev pub turn_of : Flaw → ℕ
turn_of (flaws.Entry good position) = 0
turn_of (flaws.Clock good) = 1
turn_of (flaws.Cash position) = 2
turn_of (flaws.Post position) = 3
turn_of (flaws.Unposted good position) = 4
turn_of (flaws.Score agent) = 5
turn_of flaws.Head = 6

-- where a flaw is: its good, and its position or agent
abbrev pub place_of : Flaw → ℕ × ℕ
place_of (flaws.Entry good position) = (good, position)
place_of (flaws.Clock good) = (good, 0)
place_of (flaws.Cash position) = (0, position)
place_of (flaws.Post position) = (0, position)
place_of (flaws.Unposted good position) = (good, position)
place_of (flaws.Score agent) = (0, agent)
place_of flaws.Head = (0, 0)

-- a lower good, or in the same good a lower position or agent
abbrev pub IsLower : ℕ × ℕ → ℕ × ℕ → Type 0
IsLower place other = (place.0 < other.0) ⊎ ((place.0 ≡ other.0) × (place.1 < other.1))

-- a flaw of an earlier kind, or of the same kind at a lower place
abbrev pub ComesBefore : Flaw → Flaw → Type 0
ComesBefore flaw other = (turn_of flaw < turn_of other) ⊎ ((turn_of flaw ≡ turn_of other) × IsLower (place_of flaw) (place_of other))

-- the log has the flaw, and no flaw before it
pub record IsFirstFlaw (game : GameFile) (log : LoggedGame) (flaw : Flaw) : Type 0 where
  pub has : IsFreeOf game log flaw → ⊥
  pub first : (other : Flaw) → ComesBefore other flaw → IsFreeOf game log other

abbrev pub IsFound : GameFile → LoggedGame → Finding → Type 0
IsFound game log findings.Sound = (flaw : Flaw) → IsFreeOf game log flaw
IsFound game log (findings.Unsound flaw) = IsFirstFlaw game log flaw

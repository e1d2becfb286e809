-- What the parts of an audit say; for private clauses.
use Rattle.std.specs.Prelude.{◌≡◌, ◌≢◌, ℕ, ◌+◌, ◌*◌, ◌<◌, ◌≤◌, ◌==◌, ◌⊎◌, Bool, true, false, ℤ, pos, List, [], take, reverse, map, filter, Option, Some, None, MatchOption, slice_get, slice_index, slice_index_or}
use Rattle.log_audit.specs.Prelude.{Call, Nets, Trade, AUCTION_ENTRIES, GOODS, clock, Setup, nets as nets_of, entries_of, reply_of, trades_of, CashEntry, cash_total}
use Rattle.tac_base.specs.declared.calls.Entry.{Entry as StoredEntry}
use Rattle.auction_rules.specs.History.{Entry}
use Rattle.log_audit.specs.Flaws.{HasFairEntry, IsLower, is_posted}

-- ---- the lowest place

-- the lowest number at which a sentence does not hold, and none where it holds at each
abbrev pub IsLowest : (ℕ → Type 0) → Option ℕ → Type 0
IsLowest Holds None = (n : ℕ) → Holds n
IsLowest Holds (Some n) = (Holds n → ⊥) × ((k : ℕ) → k < n → Holds k)

-- the lowest number below a bound at which a sentence does not hold, and none where it holds at each
abbrev pub IsLowestBelow : ℕ → (ℕ → Type 0) → Option ℕ → Type 0
IsLowestBelow bound Holds None = (n : ℕ) → n < bound → Holds n
IsLowestBelow bound Holds (Some n) = (n < bound) × (Holds n → ⊥) × ((k : ℕ) → k < n → Holds k)

-- the first position at which a sentence does not hold, the lowest good first, and none where it holds at each
abbrev pub IsLowestPlace : (ℕ → ℕ → Type 0) → Option (ℕ × ℕ) → Type 0
IsLowestPlace Holds None = (good position : ℕ) → good < GOODS → Holds good position
IsLowestPlace Holds (Some place) =
    (place.0 < GOODS) × (Holds place.0 place.1 → ⊥) × ((good position : ℕ) → good < GOODS → IsLower (good, position) place → Holds good position)

-- ---- replays

-- each caller has had this many entries
abbrev pub AreCounts : List Entry → List ℕ → Type 0
AreCounts history counts = (caller : ℕ) → caller ≤ clock → slice_index counts caller ≡ entries_of history caller

-- after these entries, the reply and the trades that a log shows of a call are those that the rules give
abbrev pub IsRuled : Setup → List Entry → StoredEntry → List Trade → Type 0
IsRuled setup before shown trades = (shown.reply ≡ reply_of setup (reverse before) shown.caller shown.call) × (trades ≡ trades_of setup (reverse before) shown.caller shown.call)

-- what the trades of an entry give each party
abbrev pub nets_by : Entry → Nets
nets_by e = record { dollars = nets_of e.trades }

-- the entry at a position was struck: it is fair, the history now has it, and these are its nets
pub record IsStruck (setup : Setup) (history : List Entry) (position : ℕ) (after : List Entry) (counts : List ℕ) (nets : Nets) : Type 0 where
  pub fair : HasFairEntry setup history position
  pub after_is : after ≡ take (position + 1) history
  pub counted : AreCounts (take (position + 1) history) counts
  pub nets_are : slice_get (map nets_by history) position ≡ Some nets

-- the entry at a position was struck, with these nets, or is not fair
abbrev pub IsStruckIfFair : Setup → List Entry → ℕ → List Entry → List ℕ → Option Nets → Type 0
IsStruckIfFair setup history position after counts found = MatchOption found (HasFairEntry setup history position → ⊥) (IsStruck setup history position after counts)

-- ---- the clock

-- the calls of a good among calls of all goods
abbrev pub calls_for : ℕ → List (ℕ × Call) → List Call
calls_for good calls = map (λ entry. entry.1) (filter (λ entry. entry.0 == good) calls)

-- An entry keeps to the schedule if it makes the next call that is due, or is not of the clock. This many of the calls were made before it; the result
-- is how many were made with it, and None if it does not keep to the schedule.
abbrev pub KeepsSchedule : List Call → ℕ → ℕ → Call → Option ℕ → Type 0
KeepsSchedule due made caller call None = (caller ≡ clock) × (slice_get due made ≡ Some call → ⊥)
KeepsSchedule due made caller call (Some next) = ((caller ≡ clock) × (slice_get due made ≡ Some call) × (next ≡ made + 1)) ⊎ ((caller ≢ clock) × (next ≡ made))

-- ---- cash

-- each party has this much after a cash history
abbrev pub AreTotals : List CashEntry → List ℤ → Type 0
AreTotals history totals = (party : ℕ) → party < 9 → slice_index_or totals party (pos 0) ≡ cash_total history party

-- ---- posts

-- the index of an entry among all places
abbrev pub place_at : ℕ → ℕ → ℕ
place_at good position = good * AUCTION_ENTRIES + position

-- the places that are named are those that posts of these entries name
abbrev pub AreNamed : List CashEntry → List Bool → Type 0
AreNamed cash named = (good position : ℕ) → good < GOODS → position < AUCTION_ENTRIES → slice_index_or named (place_at good position) false ≡ is_posted cash good position

-- an entry of a good with a trade has a place that is named
abbrev pub HasNamedEntry : List Entry → List Bool → ℕ → ℕ → Type 0
HasNamedEntry history named good position = (e : Entry) → slice_get history position ≡ Some e → e.trades ≢ [] → slice_index_or named (place_at good position) false ≡ true

-- ---- ends

-- The ends of sessions keep to an agent if the next one is the agent's, or no link has its seat. This many ends are of agents before it; the result is
-- how many are of agents up to it, and None if they do not keep to it.
abbrev pub KeepsEnds : List ℕ → ℕ → ℕ → ℕ → Option ℕ → Type 0
KeepsEnds ended place agent seats None = (0 < seats) × (slice_get ended place ≡ Some agent → ⊥)
KeepsEnds ended place agent seats (Some next) = ((0 < seats) × (slice_get ended place ≡ Some agent) × (next ≡ place + 1)) ⊎ ((seats ≡ 0) × (next ≡ place))

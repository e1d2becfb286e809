-- The invariants of every desk and every floor.
use Rattle.std.specs.Prelude.{◌≡◌, ℕ, ◌+◌, ◌==◌, ◌<◌, ◌≤◌, not, List, filter, map, length, replicate, count_by, sum_by, slice_index_or, [], ◌++◌, All}
use Rattle.std.specs.List.Sorted.{IsStrictlyIncreasing}
use Rattle.floor.specs.Prelude.{CASH_READINGS, GOODS, Board, Call, Entry, clock, cap, AuctionHistory, CashEntry, cash_cap, HoldSame, is_post, posts_of, due_posts, Ghosts, Pass, made_by, turns_left}

-- entries were added to the cash history, all at one position: one entry, or none
abbrev pub AddsCash : List (ℕ × CashEntry) → List (ℕ × CashEntry) → List CashEntry → Type 0
AddsCash before after entries = (position : ℕ) × (after ≡ before ++ map (λ e. (position, e)) entries)

module _ {S C R G : Type 0} {K : Ghosts S C R G CashEntry} where
  -- a pass added entries to the cash history, and used a turn for each
  abbrev pub AddsByTurns : Pass S C R G CashEntry K → Pass S C R G CashEntry K → List CashEntry → Type 0
  AddsByTurns before after entries = AddsCash (made_by before) (made_by after) entries × (turns_left after + length entries ≡ turns_left before)

-- a desk has posted all: its posts are those that are due to its own entries so far, each once
abbrev pub HasPostedAll : List (List (ℕ × Entry)) → List (ℕ × CashEntry) → Type 0
HasPostedAll entries cash = HoldSame (posts_of (map (λ p. p.1) cash)) (due_posts entries)

-- how many readings are among entries of the cash history
abbrev pub count_readings : List (ℕ × CashEntry) → ℕ
count_readings cash = count_by (λ p. not (is_post p.1.call)) cash

-- how many entries there are at all goods
abbrev pub count_entries : List (List (ℕ × Entry)) → ℕ
count_entries entries = sum_by (λ row. length row) entries

module _ (caller : ℕ) where
  -- The desk of a caller has a pass of the caller at each of 28 auctions. Calls made plus turns left are the cap. It counts its
  -- readings, a limited number, of which the clock makes none; and each post that is due is made.
  pub record IsDeskKept (callers lefts : List ℕ) (entries : List (List (ℕ × Entry))) (cash_left : ℕ) (cash : List (ℕ × CashEntry)) (count : ℕ) : Type 0 where
    pub goods : length entries ≡ GOODS
    pub own : callers ≡ replicate GOODS caller
    pub capped : (good : ℕ) → good < GOODS → slice_index_or lefts good 0 + length (slice_index_or entries good []) ≡ cap caller
    pub cash_capped : cash_left + length cash ≡ cash_cap caller
    pub counted : count ≡ count_readings cash
    pub few : count ≤ CASH_READINGS
    pub clock_reads_nothing : caller ≡ clock → count ≡ 0
    pub posted : HasPostedAll entries cash

-- what was answered of a good is in order: positions rise, and what was seen is above each, and not below the count of a board
pub record IsInOrder (entries : List (ℕ × Entry)) (boards : List (ℕ × Board)) (seen : ℕ) : Type 0 where
  pub rising : IsStrictlyIncreasing (map (λ p. p.0) entries)
  pub past : All (λ p. p.0 < seen) entries
  pub counts : All (λ b. b.0 ≤ seen) boards

-- what was answered of each of the 28 goods is in order
pub record AreGoodsInOrder (entries : List (List (ℕ × Entry))) (boards : List (List (ℕ × Board))) (seen : List ℕ) : Type 0 where
  pub goods : length entries ≡ GOODS
  pub each : (good : ℕ) → good < GOODS → IsInOrder (slice_index_or entries good []) (slice_index_or boards good []) (slice_index_or seen good 0)

-- the calls of a good among calls with their goods, in order
abbrev pub calls_of_good : List (ℕ × Call) → ℕ → List Call
calls_of_good calls good = map (λ call. call.1) (filter (λ call. call.0 == good) calls)

-- a desk's list of its calls has exactly those of its entries, for each of the 28 goods in order
pub record AreListed (entries : List (List (ℕ × Entry))) (calls : List (ℕ × Call)) : Type 0 where
  pub goods : All (λ call. call.0 < GOODS) calls
  pub each : (good : ℕ) → good < GOODS → map (λ p. p.1.call) (slice_index_or entries good []) ≡ calls_of_good calls good

-- the goods of auctions in order
abbrev pub goods_of : List AuctionHistory → List ℕ
goods_of auctions = map (λ a. a.setup.good) auctions

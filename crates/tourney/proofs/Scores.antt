-- The scores of a sound log are small: no trade moves more than its ranges allow.
use Rattle.std.proofs.Common.{◌≡◌, ℕ, ◌+◌, ◌*◌, ◌<◌, ◌≤◌, List, [], ◌∷◌, Bool, length, map, fold, filter, sum_by, ℤ, pos, ◌+ℤ◌, ◌-ℤ◌, unsigned_abs, get_or, to_z, of_z, w64, sym, ap, ◌∙◌, subst, arith, suc, reverse, slice_get, Some, ◌==◌, mul-le-mul}
use Rattle.std.specs.List.{AllByRecursion, enumerate_from}
use Rattle.std.proofs.lemmas.Int.{ints}
use Rattle.std.proofs.lemmas.List.{length-reverse, length-map}
use Rattle.std.proofs.lemmas.List.Concat.{flat_map-cons}
use Rattle.std.proofs.lemmas.List.Elements.{filter-append, All-map, recursion_from_All}
use Rattle.std.proofs.lemmas.List.Sorted.{All-permutation, IsPermutation-reverse}
use Rattle.std.proofs.lemmas.List.Sums.{sum_by-append, sum_by-cons}
use Rattle.std.proofs.lemmas.Option.{slice_get_within, slice_get-get_or}
use Rattle.tac_base.specs.declared.calls.Trade.{Trade}
use Rattle.tourney.specs.{agents, GameFile, LoggedGame, IsLogged, IsLoggedScore, AreHistories, IsSound, auctions_in, most_score, result_of}
use Rattle.tac_base.specs.Ranges.{IsTrade}
use Rattle.auction_core.specs.Ranges.{IsEntry, IsHistory}
use Rattle.auction_rules.specs.History.{Entry}
use Rattle.auction_rules.specs.Effects.{all_trades, dollars}
use Rattle.trade_ledger.specs.CashKeeping.{IsWithin}
use Rattle.auction_core.specs.Auctions.{AuctionHistory}
use Rattle.auction_core.specs.Setups.{setup_of}
use Rattle.settlement.specs.Settlement.{cash_gained}
use Rattle.settlement.specs.Sheets.{Scored}
use Rattle.tourney.proofs.Words.{cases}

abbrev cost_of : Trade → ℕ
cost_of t = t.units * t.price

trade_cost : (good : ℕ) (t : Trade) → IsTrade good t → cost_of t ≤ 160000
trade_cost good t is = mul-le-mul is.few is.price

-- the trades of an entry that pass a test
trades_cost : (test : Trade → Bool) (good : ℕ) (trades : List Trade) → AllByRecursion (IsTrade good) trades → sum_by cost_of (filter test trades) ≤ length trades * 160000
trades_cost test good [] all = omega arith
trades_cost test good (t ∷ trades) all =
    let rest = trades_cost test good trades all.1 in let one = trade_cost good t all.0 in
    cases (test t) (λ e. rw e (subst (λ (n : ℕ). n ≤ suc (length trades) * 160000) (sym (sum_by-cons cost_of t (filter test trades))) (more (cost_of t) (sum_by cost_of (filter test trades)) (length trades) one rest))) (λ n. rw n (omega (arith, rest)))
  where
    more : (c s n : ℕ) → c ≤ 160000 → s ≤ n * 160000 → c + s ≤ suc n * 160000
    more c s n one rest = omega arith

-- the trades of entries that pass a test
entries_cost : (test : Trade → Bool) (good : ℕ) (past : List Entry) → AllByRecursion (IsEntry good) past → sum_by cost_of (filter test (all_trades past)) ≤ length past * 20480000
entries_cost test good [] all = omega arith
entries_cost test good (e ∷ past) all =
    let one = trades_cost test good e.trades (recursion_from_All (IsTrade good) e.trades all.0.trades) in
    let rest = entries_cost test good past all.1 in
    let split : sum_by cost_of (filter test (all_trades (e ∷ past))) ≡ sum_by cost_of (filter test e.trades) + sum_by cost_of (filter test (all_trades past)) =
    ap (λ (ts : List Trade). sum_by cost_of (filter test ts)) (flat_map-cons (λ (x : Entry). x.trades) e past) ∙ ap (sum_by cost_of) (filter-append test e.trades (all_trades past)) ∙ sum_by-append cost_of (filter test e.trades) (filter test (all_trades past)) in
    more (sum_by cost_of (filter test (all_trades (e ∷ past)))) (sum_by cost_of (filter test e.trades)) (sum_by cost_of (filter test (all_trades past))) (length e.trades) (length past) split one rest all.0.few
  where
    more : (s a b n m : ℕ) → s ≡ a + b → a ≤ n * 160000 → b ≤ m * 20480000 → n ≤ 128 → s ≤ suc m * 20480000
    more s a b n m split one rest few = omega arith

difference : (a b m : ℕ) → a ≤ m → b ≤ m → IsWithin m (pos a -ℤ pos b)
difference a b m x y = (omega (arith, ints), omega (arith, ints))

-- what a party gains by the trades of a good
gain_small : (good : ℕ) (history : List Entry) (party : ℕ) → IsHistory good history → IsWithin 169082880000 (dollars (all_trades (reverse history)) party)
gain_small good history party is =
    let all : AllByRecursion (IsEntry good) (reverse history) = recursion_from_All (IsEntry good) (reverse history) (All-permutation (IsEntry good) history (reverse history) (IsPermutation-reverse history) is.entries) in
    let few : length (reverse history) ≤ 8256 = subst (λ (n : ℕ). n ≤ 8256) (sym (length-reverse history)) is.few in
    difference _ _ 169082880000 (bound (entries_cost (λ t. t.seller == party) good (reverse history) all) few) (bound (entries_cost (λ t. t.buyer == party) good (reverse history) all) few)
  where
    bound : {s n : ℕ} → s ≤ n * 20480000 → n ≤ 8256 → s ≤ 169082880000
    bound {s} {n} h few = omega arith

within_sum : (a b : ℤ) (m n : ℕ) → IsWithin m a → IsWithin n b → IsWithin (m + n) (a +ℤ b)
within_sum a b m n h k = (omega (arith, ints, h.0, k.0), omega (arith, ints, h.1, k.1))

-- what it gains by the trades of goods from one on
gains_small : (game : GameFile) (party good : ℕ) (histories : List (List Entry)) → AreHistories good histories → (sum : ℤ) (m : ℕ) → IsWithin m sum →
    IsWithin (m + length histories * 169082880000) (fold ◌+ℤ◌ sum (map (λ (auction : AuctionHistory). dollars (all_trades (reverse auction.history)) party) (map (λ p. record { setup = setup_of p.0 game; history = p.1 }) (enumerate_from good histories))))
gains_small game party good [] all sum m within = subst (λ (n : ℕ). IsWithin n sum) (none m) within
  where
    none : (m : ℕ) → m ≡ m + 0 * 169082880000
    none m = omega arith
gains_small game party good (history ∷ histories) all sum m within =
    subst (λ (n : ℕ). IsWithin n (fold ◌+ℤ◌ (sum +ℤ dollars (all_trades (reverse history)) party) (map (λ (auction : AuctionHistory). dollars (all_trades (reverse auction.history)) party) (map (λ p. record { setup = setup_of p.0 game; history = p.1 }) (enumerate_from (good + 1) histories))))) (one m (length histories))
    (gains_small game party (good + 1) histories all.1 (sum +ℤ dollars (all_trades (reverse history)) party) (m + 169082880000) (within_sum sum (dollars (all_trades (reverse history)) party) m 169082880000 within (gain_small good history party all.0)))
  where
    one : (m n : ℕ) → (m + 169082880000) + n * 169082880000 ≡ m + suc n * 169082880000
    one m n = omega arith

cash_small : (game : GameFile) (log : LoggedGame) → IsLogged log → (agent : ℕ) → IsWithin 4734320640000 (cash_gained (auctions_in game log) agent)
cash_small game log is agent =
    subst (λ (n : ℕ). IsWithin n (cash_gained (auctions_in game log) agent)) (ap (λ (n : ℕ). 0 + n * 169082880000) is.goods) (gains_small game agent 0 log.histories is.histories (pos 0) 0 (omega (arith, ints), omega (arith, ints)))

-- the score of an agent
pub score_small : (game : GameFile) (log : LoggedGame) → IsLogged log → IsSound game log → (agent : ℕ) (scored : Scored) → slice_get log.scores agent ≡ Some scored → IsLoggedScore scored → unsigned_abs scored.score ≤ most_score
score_small game log is sound agent scored at ranged =
    let lt : agent < 8 = subst (λ (n : ℕ). agent < n) is.agents (slice_get_within log.scores agent scored at) in
    let due = sound.scores.due agent scored at in
    let cash : IsWithin 4734320640000 scored.cash = subst (IsWithin 4734320640000) (sym due.cash) (All-map (IsWithin 4734320640000) (cash_gained (auctions_in game log)) agents (λ k d inside. cash_small game log is _) agent (pos 0) lt) in
    subst (λ (z : ℤ). unsigned_abs z ≤ most_score) (sym due.score) (bound scored.best scored.cash scored.short ranged.best cash ranged.short)
  where
    bound : (best : ℕ) (cash : ℤ) (short : ℕ) → best ≤ 14000 → IsWithin 4734320640000 cash → short ≤ 4294967295 → unsigned_abs ((pos best +ℤ cash) -ℤ pos (200 * short)) ≤ 10000000000000
    bound best cash short few within less = omega (arith, ints, within.0, within.1)

-- the scores by agent
pub result_small : (game : GameFile) (log : LoggedGame) → IsLogged log → IsSound game log → (agent : ℕ) → agent < 8 → unsigned_abs (result_of (game, log) agent).1 ≤ most_score
result_small game log is sound agent lt =
    All-map (λ (z : ℤ). unsigned_abs z ≤ most_score) (λ (s : Scored). s.score) log.scores
    (λ k d inside. score_small game log is sound k (get_or log.scores k d) (slice_get-get_or log.scores k d inside) (is.scores k d inside))
    agent (pos 0) (subst (λ (n : ℕ). agent < n) (sym (length-map log.scores (λ (s : Scored). s.score) ∙ is.agents)) lt)

-- a score that is read from its 64 bits
pub read_small : (z : ℤ) → unsigned_abs z ≤ most_score → unsigned_abs (to_z w64 (of_z w64 z)) ≤ most_score
read_small z h = subst (λ (x : ℤ). unsigned_abs x ≤ most_score) (sym (fits z h)) h
  where
    fits : (z : ℤ) → unsigned_abs z ≤ most_score → to_z w64 (of_z w64 z) ≡ z
    fits z h = omega (arith, ints, h)

-- A stored history with one entry more, and what is stored at a position.
use Rattle.std.proofs.Common.{◌≡◌, ℕ, zero, suc, ◌+◌, ◌≤◌, List, [], ◌∷◌, ◌++◌, length, refl, sym, ap, ◌∙◌, subst, arith, take, drop, map, length-take-le, length-append, length-drop, Option, Some, None, All, flat_map, reverse, slice_get}
use Rattle.std.specs.List.{AllByRecursion}
use Rattle.std.proofs.lemmas.List.{length-map, map-append, reverse-append, take-append-le, drop-append-le}
use Rattle.std.proofs.lemmas.List.Sums.{sum_by-cons, sum_by_push, sum_by-append}
use Rattle.std.proofs.Math.Seq.{drop-append_seam, take-length}
use Rattle.auction_core.specs.Prelude.{Call, Reply, Trade, all_trades, traded}
use Rattle.tac_base.specs.declared.calls.Entry.{Entry as StoredEntry}
use Rattle.auction_rules.specs.History.{Entry}
use Rattle.auction_rules.proofs.Trading.{length_le}
use Rattle.auction_core.specs.Stored.{entry_with, stored, AreChained, count_trades, IsStored, entry_behind, IsShown}

-- ---- the trades of the entries lie in the list

abbrev IsWithin : ℕ → StoredEntry → Type 0
IsWithin end e = e.first_trade + e.trades ≤ end

chained_within : (from end : ℕ) (entries : List StoredEntry) → AreChained from entries → from + count_trades entries ≤ end → AllByRecursion (IsWithin end) entries
chained_within from end [] h le = tt
chained_within from end (e ∷ entries) h le =
    let more = sum_by-cons (λ (x : StoredEntry). x.trades) e entries in
    let first = h.0 in
    (omega (arith, more, first), chained_within (from + e.trades) end entries h.1 (omega (arith, more)))

pub within : (entries : List StoredEntry) (trades : List Trade) → IsStored entries trades → AllByRecursion (IsWithin (length trades)) entries
within entries trades stores = chained_within 0 (length trades) entries stores.chained (let whole = stores.whole in omega (arith, whole))

chained_snoc : (from : ℕ) (entries : List StoredEntry) (e : StoredEntry) → AreChained from entries → e.first_trade ≡ from + count_trades entries → AreChained from (entries ++ e ∷ [])
chained_snoc from [] e h is = (is ∙ (let none : count_trades [] ≡ 0 = refl in omega (arith, none)), tt)
chained_snoc from (x ∷ entries) e h is = (h.0, chained_snoc (from + x.trades) entries e h.1 (let more = sum_by-cons (λ (y : StoredEntry). y.trades) x entries in omega (arith, more, is)))

-- ---- one entry more

-- a part of the front of a list
part_front : (first count : ℕ) (xs ys : List Trade) → first + count ≤ length xs → take count (drop first (xs ++ ys)) ≡ take count (drop first xs)
part_front first count xs ys h =
    let le : count ≤ length (drop first xs) = simp length-drop (omega arith) in
    rw (drop-append-le first xs ys (omega arith)) (take-append-le count (drop first xs) ys le)

same_entries : (trades more : List Trade) (entries : List StoredEntry) → AllByRecursion (IsWithin (length trades)) entries → stored entries (trades ++ more) ≡ stored entries trades
same_entries trades more [] h = refl
same_entries trades more (e ∷ entries) h =
    let one : entry_with (trades ++ more) e ≡ entry_with trades e =
    ap (λ (ts : List Trade). record { caller = e.caller; call = e.call; reply = e.reply; trades = ts }) (part_front e.first_trade e.trades trades more h.0) in
    rw (one, same_entries trades more entries h.1)

new_trades : (trades more : List Trade) → take (length more) (drop (length trades) (trades ++ more)) ≡ more
new_trades trades more = rw (drop-append_seam trades more) (take-length more)

module _ (entries : List StoredEntry) (trades more : List Trade) (caller : ℕ) (call : Call) (reply : Reply) where
  abbrev new : StoredEntry
  new = entry_behind trades caller call reply more

  abbrev pub entry : Entry
  entry = record { caller = caller; call = call; reply = reply; trades = more }

  pub stored_more : IsStored entries trades → stored (entries ++ new ∷ []) (trades ++ more) ≡ stored entries trades ++ entry ∷ []
  stored_more stores =
      map-append (entry_with (trades ++ more)) entries (new ∷ []) ∙ rw (same_entries trades more entries (within entries trades stores), new_trades trades more)

  pub stores_more : IsStored entries trades → All (λ (t : Trade). 1 ≤ t.units) more → IsStored (entries ++ new ∷ []) (trades ++ more)
  stores_more stores some = record {
    chained = chained_snoc 0 entries new stores.chained (let whole = stores.whole in omega (arith, whole));
    whole = let whole = stores.whole in omega (arith, whole, length-append trades more, sum_by_push (λ (x : StoredEntry). x.trades) entries new);
    some = subst (λ (h : List Entry). length (trades ++ more) ≤ traded (all_trades (reverse h))) (sym (stored_more stores))
        (subst (λ (past : List Entry). length (trades ++ more) ≤ traded (all_trades past)) (sym (reverse-append (stored entries trades) (entry ∷ [])))
        (let old = stores.some in omega (arith, old, length_le more some, length-append trades more, sum_by-append (λ (t : Trade). t.units) more (all_trades (reverse (stored entries trades))))));
  }

-- ---- what is stored at a position

taken_length : (first count : ℕ) (trades : List Trade) → first + count ≤ length trades → length (take count (drop first trades)) ≡ count
taken_length first count trades le = length-take-le count (drop first trades) (simp length-drop (omega arith))

-- the trades of the first entries
trades_before : (entries : List StoredEntry) (trades : List Trade) (position : ℕ) → AllByRecursion (IsWithin (length trades)) entries →
    length (flat_map (λ (e : Entry). e.trades) (take position (stored entries trades))) ≡ count_trades (take position entries)
trades_before entries trades zero h = refl
trades_before [] trades (suc position) h = refl
trades_before (e ∷ entries) trades (suc position) h =
    let own : List Trade = take e.trades (drop e.first_trade trades) in
    omega (
      arith,
      trades_before entries trades position h.1,
      length-append own (flat_map (λ (x : Entry). x.trades) (take position (stored entries trades))),
      taken_length e.first_trade e.trades trades h.0,
      sum_by-cons (λ (x : StoredEntry). x.trades) e (take position entries),
    )

chained_at : (from : ℕ) (entries : List StoredEntry) (position : ℕ) (shown : StoredEntry) → AreChained from entries → slice_get entries position ≡ Some shown →
    shown.first_trade ≡ from + count_trades (take position entries)
chained_at from [] position shown h at = absurd cc
chained_at from (e ∷ entries) zero shown h at =
    let same : e ≡ shown = cc in let none : count_trades [] ≡ 0 = refl in
    omega (arith, ap (λ (x : StoredEntry). x.first_trade) same, h.0, none)
chained_at from (e ∷ entries) (suc position) shown h at =
    omega (arith, chained_at (from + e.trades) entries position shown h.1 at, sum_by-cons (λ (x : StoredEntry). x.trades) e (take position entries))

all_at : (P : StoredEntry → Type 0) (entries : List StoredEntry) (position : ℕ) (shown : StoredEntry) → AllByRecursion P entries → slice_get entries position ≡ Some shown → P shown
all_at P [] position shown h at = absurd cc
all_at P (e ∷ entries) zero shown h at = let same : e ≡ shown = cc in subst P same h.0
all_at P (e ∷ entries) (suc position) shown h at = all_at P entries position shown h.1 at

stored_at : (entries : List StoredEntry) (trades : List Trade) (position : ℕ) (shown : StoredEntry) → slice_get entries position ≡ Some shown →
    slice_get (stored entries trades) position ≡ Some (entry_with trades shown)
stored_at [] trades position shown at = absurd cc
stored_at (e ∷ entries) trades zero shown at = let same : e ≡ shown = cc in ap (λ (x : StoredEntry). Some (entry_with trades x)) same
stored_at (e ∷ entries) trades (suc position) shown at = stored_at entries trades position shown at

past_end : (entries : List StoredEntry) (position : ℕ) → slice_get entries position ≡ None → length entries ≤ position
past_end [] position at = omega arith
past_end (e ∷ entries) zero at = absurd cc
past_end (e ∷ entries) (suc position) at = let le = past_end entries position at in omega (arith, le)

-- what the entries have at a position shows the history's entry there
pub shown_at : (entries : List StoredEntry) (trades : List Trade) (position : ℕ) (found : Option StoredEntry) → IsStored entries trades → slice_get entries position ≡ found →
    IsShown (stored entries trades) position found
shown_at entries trades position None stores at = let le = past_end entries position at in omega (arith, le, length-map entries (entry_with trades))
shown_at entries trades position (Some shown) stores at = (
  entry_with trades shown,
  stored_at entries trades position shown at,
  record {
    caller = refl;
    call = refl;
    reply = refl;
    trades = sym (taken_length shown.first_trade shown.trades trades (all_at (IsWithin (length trades)) entries position shown (within entries trades stores) at));
    first_trade = chained_at 0 entries position shown stores.chained at ∙ (plus (count_trades (take position entries)) ∙ sym (trades_before entries trades position (within entries trades stores)));
  },
)
  where
    plus : (n : ℕ) → 0 + n ≡ n
    plus n = omega arith

-- an entry's trades lie in the list
pub trades_end : (entries : List StoredEntry) (trades : List Trade) (position : ℕ) (shown : StoredEntry) → IsStored entries trades → slice_get entries position ≡ Some shown →
    shown.first_trade + shown.trades ≤ length trades
trades_end entries trades position shown stores at = all_at (IsWithin (length trades)) entries position shown (within entries trades stores) at

trades_at : (history : List Entry) (position : ℕ) (e : Entry) → slice_get history position ≡ Some e → slice_get (map (λ (x : Entry). x.trades) history) position ≡ Some e.trades
trades_at [] position e at = absurd cc
trades_at (x ∷ history) zero e at = let same : x ≡ e = cc in ap (λ (y : Entry). Some y.trades) same
trades_at (x ∷ history) (suc position) e at = trades_at history position e at

-- and they are those of the history's entry
pub trades_are : (entries : List StoredEntry) (trades : List Trade) (position : ℕ) (shown : StoredEntry) → slice_get entries position ≡ Some shown →
    slice_get (map (λ (x : Entry). x.trades) (stored entries trades)) position ≡ Some (take shown.trades (drop shown.first_trade trades))
trades_are entries trades position shown at = trades_at (stored entries trades) position (entry_with trades shown) (stored_at entries trades position shown at)

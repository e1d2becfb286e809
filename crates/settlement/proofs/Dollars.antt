-- What trades give a party, trade by trade and entry by entry.
use Rattle.std.proofs.Common.{◌≡◌, ℕ, ◌+◌, ◌<◌, ◌≤◌, List, [], ◌∷◌, ◌++◌, length, map, take, get_or, fold, refl, sym, ap, ◌∙◌, arith, ℤ, pos, ◌+ℤ◌, Option, Some, None, to_z, of_z, w64, reverse, slice_get, option_map}
use Rattle.std.proofs.lemmas.Int.{ints}
use Rattle.std.proofs.lemmas.List.{length-map, take_more, map_more, reverse-append}
use Rattle.std.proofs.lemmas.List.Concat.{flat_map-cons}
use Rattle.std.proofs.lemmas.List.Sums.{fold_push}
use Rattle.std.proofs.lemmas.Option.{slice_get-map, slice_get_within, get_or_from_slice_get}
use Rattle.tac_base.specs.declared.calls.Trade.{Trade}
use Rattle.auction_rules.specs.History.{Entry}
use Rattle.settlement.specs.{all_trades, dollars, IsWithin, AuctionHistory, cash_gained}
use Rattle.trade_ledger.proofs.Matching.{dollars-append}
use Rattle.tac_base.specs.declared.calls.Entry.{Entry as StoredEntry}
use Rattle.auction_core.specs.ClosedGame.{all_goods}
use Rattle.auction_core.specs.Stored.{IsShown}

-- one trade more
pub dollars_more : (trades : List Trade) (i : ℕ) (t : Trade) (party : ℕ) → i < length trades → t ≡ get_or trades i t →
    dollars (take (i + 1) trades) party ≡ dollars (take i trades) party +ℤ dollars (t ∷ []) party
dollars_more trades i t party inside is =
    ap (λ (ts : List Trade). dollars ts party) (take_more trades i t inside ∙ ap (λ (x : Trade). take i trades ++ x ∷ []) (sym is))
    ∙ dollars-append (take i trades) (t ∷ []) party

-- the trades of the first entries and of one more
trades_more : (history : List Entry) (k : ℕ) (e : Entry) → k < length history → all_trades (reverse (take (k + 1) history)) ≡ (get_or history k e).trades ++ all_trades (reverse (take k history))
trades_more history k e inside =
    ap (λ (h : List Entry). all_trades (reverse h)) (take_more history k e inside)
    ∙ (ap all_trades (reverse-append (take k history) (get_or history k e ∷ [])) ∙ flat_map-cons (λ (x : Entry). x.trades) (get_or history k e) (reverse (take k history)))

-- one entry more
pub gains_more : (history : List Entry) (k : ℕ) (trades : List Trade) (party : ℕ) → slice_get (map (λ (e : Entry). e.trades) history) k ≡ Some trades →
    dollars (all_trades (reverse (take (k + 1) history))) party ≡ dollars (all_trades (reverse (take k history))) party +ℤ dollars trades party
gains_more history k trades party at =
    let found = of_option (slice_get history k) trades (sym (slice_get-map (λ (e : Entry). e.trades) history k) ∙ at) in
    let inside : k < length history = slice_get_within history k found.0 found.1 in
    let there : get_or history k found.0 ≡ found.0 = get_or_from_slice_get history k found.0 found.0 found.1 in
    ap (λ (ts : List Trade). dollars ts party) (trades_more history k found.0 inside)
    ∙ (dollars-append (get_or history k found.0).trades (all_trades (reverse (take k history))) party
    ∙ (ap (λ (ts : List Trade). dollars ts party +ℤ dollars (all_trades (reverse (take k history))) party) (ap (λ (e : Entry). e.trades) there ∙ found.2)
    ∙ swapped (dollars trades party) (dollars (all_trades (reverse (take k history))) party)))
  where
    of_option : (o : Option Entry) (ts : List Trade) → option_map (λ (e : Entry). e.trades) o ≡ Some ts → (e : Entry) × (o ≡ Some e) × (e.trades ≡ ts)
    of_option (Some e) ts is = (e, refl, cc)
    of_option None ts is = absurd cc

    swapped : (a b : ℤ) → a +ℤ b ≡ b +ℤ a
    swapped a b = omega (arith, ints)

-- a sum that fits as the code has it
pub sum_fits : (sum gain : ℤ) (a b : ℕ) → a + b ≤ 1000000000000000 → IsWithin a sum → IsWithin b gain → to_z w64 (of_z w64 (sum +ℤ to_z w64 (of_z w64 gain))) ≡ sum +ℤ gain
sum_fits sum gain a b few h k = omega (arith, ints, few, h.0, h.1, k.0, k.1)

pub sum_within : (sum gain total : ℤ) (a b c : ℕ) → a + b ≡ c → IsWithin a sum → IsWithin b gain → total ≡ sum +ℤ gain → IsWithin c total
sum_within sum gain total a b c is h k e = (omega (arith, ints, is, h.0, k.0, e), omega (arith, ints, is, h.1, k.1, e))

-- one auction more
pub cash_more : (auctions : List AuctionHistory) (i : ℕ) (auction : AuctionHistory) (agent : ℕ) → i < length auctions → auction ≡ get_or auctions i auction →
    cash_gained (take (i + 1) auctions) agent ≡ cash_gained (take i auctions) agent +ℤ dollars (all_trades (reverse auction.history)) agent
cash_more auctions i auction agent inside is =
    let gain : AuctionHistory → ℤ = λ a. dollars (all_trades (reverse a.history)) agent in
    ap (fold ◌+ℤ◌ (pos 0)) (map_more gain auctions i auction inside ∙ ap (λ (a : AuctionHistory). map gain (take i auctions) ++ gain a ∷ []) (sym is))
    ∙ fold_push ◌+ℤ◌ (pos 0) (map gain (take i auctions)) (gain auction)

pub fits : (sum : ℤ) → IsWithin 1000000000000000 sum → to_z w64 (of_z w64 sum) ≡ sum
fits sum h = omega (arith, ints, h.0, h.1)

-- a closed game has an auction for each good
pub twenty_eight : (auctions : List AuctionHistory) → map (λ (a : AuctionHistory). a.setup.good) auctions ≡ all_goods → length auctions ≡ 28
twenty_eight auctions goods = sym (length-map auctions (λ (a : AuctionHistory). a.setup.good)) ∙ ap (λ (ns : List ℕ). length ns) goods

-- an entry has as many trades as its count says
pub shown_count : (history : List Entry) (position : ℕ) (shown : StoredEntry) (trades : List Trade) → IsShown history position (Some shown) →
    slice_get (map (λ (e : Entry). e.trades) history) position ≡ Some trades → length trades ≡ shown.trades
shown_count history position shown trades is at =
    let found : Some trades ≡ Some is.0.trades = sym at ∙ (slice_get-map (λ (e : Entry). e.trades) history position ∙ ap (option_map (λ (e : Entry). e.trades)) is.1) in
    let same : trades ≡ is.0.trades = cc in
    ap (λ (ts : List Trade). length ts) same ∙ sym is.2.trades

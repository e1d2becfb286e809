-- The entry of the rules keeps the laws of the auctions.
use Rattle.std.proofs.Common.{◌≡◌, ℕ, ◌≤◌, ◌<◌, min, Bool, true, false, cond, List, [], ◌∷◌, ◌++◌, length, reverse, refl, sym, ap, ◌∙◌, subst, arith, Option, Some, None, ℤ, ◌&&◌, ◌||◌}
use Rattle.std.specs.List.{AllByRecursion}
use Rattle.std.proofs.lemmas.Bool.{false≢true, and_parts}
use Rattle.std.proofs.lemmas.List.{reverse-append}
use Rattle.std.proofs.lemmas.List.Elements.{All-from_recursion}
use Rattle.auction_core.specs.{Call, Reply, Trade, clock, house, Setup, Rules, looked_at, stand, refusal, IsLawful, entry_by, entry_of, trades_by, trades_of, closing_trades, shown_bid, shown_ask, traded, HasTwoParties, held_after, sum_held, held_by, AreInRange, AuctionHistory, auction_past, NoLower, SellsAll, IsPriced, bought_at, bid_at, ArePaid, IsApart, KeepsQuote, TradesWhileOpen, SellsRooms, KeepsSum, HasNoSelfTrade, KeepsPrice, NobodyOverpays, IsUncrossed}
use Rattle.auction_rules.specs.declared.rules.Rules.TheVariants.{Flight as FlightRules, Hotel as HotelRules, Tickets as TicketRules}
use Rattle.auction_rules.specs.History.{Entry, is_admission, is_close, is_closed}
use Rattle.auction_rules.proofs.Steps.{refusal_refuses}
use Rattle.auction_rules.proofs.Histories.{entry_caller, entry_call, lawful_more}
use Rattle.auction_rules.proofs.Quoted.{published_does_not_fall}
use Rattle.auction_rules.proofs.AfterClose.{no_trades_after_close}
use Rattle.auction_rules.proofs.HotelUnits.{sells_what_stands}
use Rattle.auction_rules.proofs.ClosingTrades.{closing_moves}
use Rattle.auction_rules.proofs.SelfTrades.{nobody_trades_with_itself, parties_within}
use Rattle.auction_rules.proofs.FlightPrices.{flight_price_within}
use Rattle.auction_rules.proofs.Uncrossed.{board_apart}
use Rattle.trade_ledger.proofs.Trading.{moved_is, sum_held-moved}
use Rattle.auction_core.proofs.Holding.{held_start, held_more}
use Rattle.auction_core.proofs.Keeping.{held_next}
use Rattle.auction_core.proofs.Paying.{nobody_pays_more}

-- ---- the sum of the holdings

sum_after : (held : List ℤ) (trades : List Trade) → length held ≡ 9 → AllByRecursion (λ t. (t.buyer ≤ house) × (t.seller ≤ house)) trades → sum_held (held_after held trades) ≡ sum_held held
sum_after held [] nine within = ap sum_held (sym (held_start held nine))
sum_after held (t ∷ trades) nine within =
    ap sum_held (sym (held_more held (t ∷ []) trades))
    ∙ sum_after (held_after held (t ∷ [])) trades refl within.1
    ∙ ap sum_held (sym (moved_is held t nine within.0.0 within.0.1))
    ∙ sum_held-moved held t nine within.0.0 within.0.1

-- ---- one entry more

module _ (setup : Setup) (past : List Entry) (caller : ℕ) (call : Call) where
  abbrev e : Entry
  e = entry_of setup past caller call

  no_lower : (rules : Rules) → setup.rules ≡ rules → AreInRange rules → IsLawful setup past → NoLower rules past (e ∷ past)
  no_lower (FlightRules first bound) is range lawful = tt
  no_lower (HotelRules rooms live) is range lawful = published_does_not_fall setup rooms live is range.0 past caller call lawful
  no_lower TicketRules is range lawful = tt

  -- an entry that closes an auction
  closes : is_closed past ≡ false → is_closed (e ∷ past) ≡ true → (is_admission e.reply && is_close e.call) ≡ true
  closes opened closed = by_test (is_admission e.reply && is_close e.call) (sym (ap (λ (b : Bool). (is_admission e.reply && is_close e.call) || b) opened) ∙ closed)
    where
      by_test : (b : Bool) → (b || false) ≡ true → b ≡ true
      by_test true h = refl
      by_test false h = h

  hotel_sells : (rooms : ℕ) (live : Bool) → setup.rules ≡ HotelRules rooms live → is_closed past ≡ false → is_closed (e ∷ past) ≡ true → traded e.trades ≡ min rooms (length (stand (HotelRules rooms live) past))
  hotel_sells rooms live is opened closed =
      let both = and_parts (is_admission e.reply) (is_close e.call) (closes opened closed) in
      by_refusal (refusal setup.rules past caller call) refl both.0 (sym (ap is_close (entry_call setup past caller call)) ∙ both.1)
    where
      moved : is_close call ≡ true → traded (trades_by setup.rules setup.good past caller call) ≡ min rooms (length (stand (HotelRules rooms live) past))
      moved close =
          ap (λ (r : Rules). traded (trades_by r setup.good past caller call)) is
          ∙ (ap (λ (b : Bool). traded (cond b (closing_trades setup.good rooms (stand (HotelRules rooms live) past)) [])) close
          ∙ (closing_moves setup.good rooms (HotelRules rooms live) past ∙ sells_what_stands rooms live past))

      by_refusal : (refused : Option Reply) → refusal setup.rules past caller call ≡ refused → is_admission (entry_by setup past caller call refused).reply ≡ true → is_close call ≡ true →
          traded (entry_by setup past caller call refused).trades ≡ min rooms (length (stand (HotelRules rooms live) past))
      by_refusal (Some reply) h admitted close = absurd (false≢true (sym (refusal_refuses setup.rules past caller call reply h) ∙ admitted))
      by_refusal None h admitted close = moved close

  sells_all : (rules : Rules) → setup.rules ≡ rules → SellsAll rules past (e ∷ past)
  sells_all (FlightRules first bound) is = tt
  sells_all (HotelRules rooms live) is = hotel_sells rooms live is
  sells_all TicketRules is = tt

  keeps_sum : caller ≤ clock → sum_held (held_by setup (e ∷ past)) ≡ sum_held (held_by setup past)
  keeps_sum le = ap sum_held (sym (held_next setup past e)) ∙ sum_after (held_by setup past) e.trades refl (parties_within setup past caller call le)

  is_priced : (rules : Rules) → AreInRange rules → IsPriced rules (e ∷ past)
  is_priced (FlightRules first bound) range = flight_price_within first bound (e ∷ past) (omega (arith, range), omega (arith, range))
  is_priced (HotelRules rooms live) range = tt
  is_priced TicketRules range = tt

  are_paid : IsLawful setup past → ArePaid setup.rules (e ∷ past)
  are_paid lawful agent dollars le =
      subst (λ (a : ℕ). bought_at e.trades agent dollars ≤ bid_at (looked_at (stand setup.rules past) (length past) a e.call) agent dollars) (sym (entry_caller setup past caller call))
      (subst (λ (c : Call). bought_at e.trades agent dollars ≤ bid_at (looked_at (stand setup.rules past) (length past) caller c) agent dollars) (sym (entry_call setup past caller call))
      (nobody_pays_more setup past caller call lawful agent dollars le))

  is_apart : (rules : Rules) → setup.rules ≡ rules → IsLawful setup (e ∷ past) → IsApart rules (e ∷ past)
  is_apart (FlightRules first bound) is lawful = tt
  is_apart (HotelRules rooms live) is lawful = tt
  is_apart TicketRules is lawful =
      subst (λ (r : Rules). 0 < shown_bid r (e ∷ past) → 0 < shown_ask r (e ∷ past) → shown_bid r (e ∷ past) < shown_ask r (e ∷ past)) is (board_apart setup (e ∷ past) is lawful)

-- ---- the laws

-- what a call keeps
pub record Laws (before after : AuctionHistory) : Type 0 where
  pub quote : KeepsQuote before after
  pub closed : TradesWhileOpen before after
  pub sells : SellsRooms before after
  pub sum : KeepsSum before after
  pub parties : HasNoSelfTrade after
  pub price : KeepsPrice after
  pub paid : NobodyOverpays after
  pub uncrossed : IsUncrossed after

laws_of : (setup : Setup) (history next : List Entry) (caller : ℕ) (call : Call) → AreInRange setup.rules → IsLawful setup (reverse history) → caller ≤ clock →
    reverse next ≡ entry_of setup (reverse history) caller call ∷ reverse history → Laws (record { setup = setup; history = history }) (record { setup = setup; history = next })
laws_of setup history next caller call range lawful le is =
    let past = reverse history in
    record {
      quote = subst (NoLower setup.rules past) (sym is) (no_lower setup past caller call setup.rules refl range lawful);
      closed = λ closed. rw is (no_trades_after_close setup past caller call closed);
      sells = subst (SellsAll setup.rules past) (sym is) (sells_all setup past caller call setup.rules refl);
      sum = rw is (keeps_sum setup past caller call le);
      parties = rw is (All-from_recursion HasTwoParties (trades_of setup past caller call) (nobody_trades_with_itself setup past caller call le));
      price = subst (IsPriced setup.rules) (sym is) (is_priced setup past caller call setup.rules range);
      paid = subst (ArePaid setup.rules) (sym is) (are_paid setup past caller call lawful);
      uncrossed = subst (IsApart setup.rules) (sym is) (is_apart setup past caller call setup.rules refl (lawful_more setup past caller call lawful));
    }

pub laws_hold : (before after : AuctionHistory) (caller : ℕ) (call : Call) → AreInRange before.setup.rules → IsLawful before.setup (auction_past before) → caller ≤ clock → after.setup ≡ before.setup →
    after.history ≡ before.history ++ entry_of before.setup (auction_past before) caller call ∷ [] → Laws before after
laws_hold before after caller call range lawful le same appended =
    subst (λ (setup : Setup). Laws before (record { setup = setup; history = after.history })) (sym same)
    (laws_of before.setup before.history after.history caller call range lawful le
    (ap (λ (h : List Entry). reverse h) appended ∙ reverse-append before.history (entry_of before.setup (auction_past before) caller call ∷ [])))

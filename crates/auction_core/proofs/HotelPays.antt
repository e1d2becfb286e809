-- Hotels: no agent buys more units at a price or more than standing units bid so much.
use Rattle.std.proofs.Common.{◌≡◌, ℕ, ◌≤◌, Bool, true, false, cond, List, refl, ap, arith, Some, None, inl, inr, ◌&&◌, ◌==◌, nat_le}
use Rattle.std.proofs.lemmas.Bool.{and_parts}
use Rattle.std.proofs.lemmas.Bool.Decides.{nat_tests}
use Rattle.auction_core.specs.{Trade, BidUnit, agents, house, ask, winning, closing_trade, closing_trades, bought_at, bid_at}
use Rattle.auction_rules.specs.BookHotels.{wins}
use Rattle.auction_rules.proofs.Ranks.{count_le}
use Rattle.auction_rules.proofs.Standing.{number_is}
use Rattle.auction_rules.proofs.HotelUnits.{each_in}
use Rattle.auction_rules.proofs.Asks.{IsReached, ask_reached}
use Rattle.auction_rules.proofs.Outbids.{winner_reaches}
use Rattle.auction_core.proofs.Bought.{counted, sum-filter_map, counted_once, paid, bought_is}
use Rattle.auction_core.proofs.Buying.{AllBuy}
use Rattle.auction_core.proofs.FlightPays.{agents_once}

module _ (good rooms : ℕ) (units : List BidUnit) (agent price : ℕ) where
  -- what the agent pays for, if another may be the buyer
  abbrev bought_by : ℕ → ℕ
  bought_by a = counted (paid agent price) (closing_trade good rooms units a)

  abbrev trade : ℕ → Trade
  trade a = record { buyer = a; seller = house; good = good; units = winning rooms units a; price = ask rooms units }

  other_buyer : (a : ℕ) → (a == agent) ≡ false → bought_by a ≡ 0
  other_buyer a other = by_test (winning rooms units a == 0)
    where
      none : (count : ℕ) → cond ((a == agent) && nat_le price (ask rooms units)) count 0 ≡ 0
      none count = rw other refl

      by_test : (b : Bool) → counted (paid agent price) (cond b None (Some (trade a))) ≡ 0
      by_test true = refl
      by_test false = none (winning rooms units a)

  through : (p q r : ℕ) → nat_le p q ≡ true → nat_le q r ≡ true → nat_le p r ≡ true
  through p q r h k = grind (arith, nat_tests)

  from_zero : (n : ℕ) → nat_le 0 n ≡ true
  from_zero n = grind (arith, nat_tests)

  -- a unit that wins bids the ask or more
  winner_bids : (u : BidUnit) → wins rooms units u ≡ true → IsReached rooms units (ask rooms units) → nat_le (ask rooms units) u.price ≡ true
  winner_bids u wins_it (inl zero_price) = rw zero_price (from_zero u.price)
  winner_bids u wins_it (inr enough) = winner_reaches rooms units (ask rooms units) enough u wins_it

  one_buyer : AllBuy units → (a : ℕ) → bought_by a ≤ bid_at units agent price
  one_buyer buying a = by_test (winning rooms units a == 0)
    where
      winner : nat_le price (ask rooms units) ≡ true → (u : BidUnit) → u.buys ≡ true → ((u.agent == agent) && wins rooms units u) ≡ true → (u.buys && ((u.agent == agent) && nat_le price u.price)) ≡ true
      winner dear u buys is =
          let both = and_parts (u.agent == agent) (wins rooms units u) is in
          rw (buys, both.0, through price (ask rooms units) u.price dear (winner_bids u both.1 (ask_reached rooms units))) refl

      enough : (b : Bool) → ((a == agent) && nat_le price (ask rooms units)) ≡ b → cond b (winning rooms units a) 0 ≤ bid_at units agent price
      enough false is = omega arith
      enough true is =
          let both = and_parts (a == agent) (nat_le price (ask rooms units)) is in
          let own = ap (winning rooms units) (number_is a agent both.0) in
          let few = count_le (λ u. (u.agent == agent) && wins rooms units u) (λ u. u.buys && ((u.agent == agent) && nat_le price u.price)) units (λ u in_units wins_it. winner both.1 u (each_in (λ v. v.buys ≡ true) u units buying in_units) wins_it) in
          omega (arith, own, few)

      by_test : (b : Bool) → counted (paid agent price) (cond b None (Some (trade a))) ≤ bid_at units agent price
      by_test true = omega arith
      by_test false = enough ((a == agent) && nat_le price (ask rooms units)) refl

  -- what a closing sells
  pub hotel_paid : agent ≤ 7 → AllBuy units → bought_at (closing_trades good rooms units) agent price ≤ bid_at units agent price
  hotel_paid le buying =
      let is = bought_is (closing_trades good rooms units) agent price in
      let each = sum-filter_map (paid agent price) (closing_trade good rooms units) agents in
      let one = counted_once (λ a. a == agent) bought_by (bid_at units agent price) agents other_buyer (one_buyer buying) (agents_once agent le) in
      omega (arith, is, each, one)

-- In a hotel every standing unit buys, so both orders are the same there.
use Rattle.std.proofs.Common.{◌≡◌, ℕ, ◌+◌, Bool, true, false, cond, List, [], ◌∷◌, length, refl, ap, ◌∙◌, arith, Option, Some, None, not, ◌&&◌, ◌||◌, ◌==◌, nat_lt, ℤ, if◌then◌else◌}
use Rattle.std.specs.Prelude.{count_by, filter_map, filter, map}
use Rattle.std.specs.List.{cons_option}
use Rattle.std.proofs.lemmas.Bool.{or_parts}
use Rattle.std.proofs.lemmas.List.Sums.{sum_by-cons}
use Rattle.auction_rules.specs.{Point, Trade, size_of, buys_of, Call, agents, house, point_units, units_from, units_of, among, without, Entry, is_admission, is_closed, goes_before, precedes, ask, sells, refusal, is_wrong_caller, is_wrong_place, need, quote_to_beat, offered, entry_of, IsLawful}
use Rattle.auction_rules.specs.BookHotels.{wins, winning, closing_trades, sold_units}
use Rattle.auction_rules.specs.HotelClosing.{gets_room, rooms_won, room_sales}
use Rattle.auction_rules.specs.Prelude.{Reply, Closed, WrongCall, Sell, BelowQuote}
use Rattle.tac_base.specs.declared.calls.Call.TheVariants.{Bid, Withdraw, Own as OwnCall, Update, Publish, Close}
use Rattle.auction_rules.specs.declared.units.BidUnit.{BidUnit}
use Rattle.auction_rules.specs.declared.rules.Rules.TheVariants.{Hotel as HotelRules}
use Rattle.auction_rules.specs.Setup.{Setup}
use Rattle.auction_rules.specs.Standing.{units_found, standing_units}
use Rattle.auction_rules.proofs.Standing.{Each, each-append, each-filter, each-block}
use Rattle.auction_rules.proofs.SameStanding.{each_replaced}
use Rattle.auction_rules.proofs.Steps.{entry_refused, refusal_refuses}

abbrev pub AllBuy : List BidUnit → Type 0
AllBuy units = Each (λ u. u.buys ≡ true) units

-- ---- the orders

order_same : (u v : BidUnit) → v.buys ≡ true → goes_before v u ≡ precedes v u
order_same u v buys = rw buys refl

count_same : (u : BidUnit) (units : List BidUnit) → AllBuy units → count_by (λ v. goes_before v u) units ≡ count_by (λ v. precedes v u) units
count_same u [] h = refl
count_same u (v ∷ units) h =
    omega (
      arith,
      sum_by-cons (λ (x : BidUnit). cond (goes_before x u) 1 0) v units,
      sum_by-cons (λ (x : BidUnit). cond (precedes x u) 1 0) v units,
      ap (λ (b : Bool). cond {A = ℕ} b 1 0) (order_same u v h.0),
      count_same u units h.1,
    )

pub wins_same : (rooms : ℕ) (units : List BidUnit) (u : BidUnit) → AllBuy units → gets_room rooms units u ≡ wins rooms units u
wins_same rooms units u h = ap (λ (n : ℕ). nat_lt n rooms) (count_same u units h)

pub winning_same : (rooms : ℕ) (units : List BidUnit) (agent : ℕ) → AllBuy units → rooms_won rooms units agent ≡ winning rooms units agent
winning_same rooms units agent h = λ i. count_by (λ u. (u.agent == agent) && wins_same rooms units u h i) units

pub sold_same : (rooms : ℕ) (units : List BidUnit) → AllBuy units → count_by (gets_room rooms units) units ≡ sold_units rooms units
sold_same rooms units h = λ i. count_by (λ u. wins_same rooms units u h i) units

-- a trade for each that has a number above 0
picked : (n : ℕ → ℕ) (f : ℕ → Trade) (who : List ℕ) → map f (filter (λ a. not (n a == 0)) who) ≡ filter_map (λ a. if n a == 0 then None else Some (f a)) who
picked n f [] = refl
picked n f (a ∷ who) = by_test (n a == 0) (picked n f who)
  where
    by_test : (b : Bool) → map f (filter (λ k. not (n k == 0)) who) ≡ filter_map (λ k. if n k == 0 then None else Some (f k)) who →
        map f (cond (not b) (a ∷ filter (λ k. not (n k == 0)) who) (filter (λ k. not (n k == 0)) who)) ≡ cons_option (cond b None (Some (f a))) (filter_map (λ k. if n k == 0 then None else Some (f k)) who)
    by_test true ih = ih
    by_test false ih = ap (λ (trades : List Trade). f a ∷ trades) ih

pub closing_same : (good rooms : ℕ) (units : List BidUnit) → AllBuy units → room_sales good rooms units ≡ closing_trades good rooms units
closing_same good rooms units h =
    picked (rooms_won rooms units) (λ agent. record { buyer = agent; seller = house; good = good; units = rooms_won rooms units agent; price = ask rooms units }) agents
    ∙ (λ i.
    filter_map (λ agent.
    if winning_same rooms units agent h i == 0 then None
    else Some (record { buyer = agent; seller = house; good = good; units = winning_same rooms units agent h i; price = ask rooms units })) agents)

-- ---- a hotel takes no bid that sells

points_buy : (agent position from : ℕ) (points : List Point) → sells points ≡ false → AllBuy (units_from agent position from points)
points_buy agent position from [] h = tt
points_buy agent position from (point ∷ points) h =
    let parts = or_parts (not (buys_of point.units)) (sells points) h in
    each-append (λ u. u.buys ≡ true) (point_units agent position from point) (units_from agent position (from + size_of point) points)
    (each-block (λ u. u.buys ≡ true) (record { agent = agent; buys = buys_of point.units; price = point.price; position = position; index = from }) (size_of point) (λ i. buying (buys_of point.units) parts.0))
    (points_buy agent position (from + size_of point) points parts.1)
  where
    buying : (b : Bool) → not b ≡ false → b ≡ true
    buying true h = refl
    buying false h = absurd cc

-- an admitted entry of the rules has no refusal
pub admitted_none : (setup : Setup) (past : List Entry) (e : Entry) → e ≡ entry_of setup past e.caller e.call → is_admission e.reply ≡ true → refusal setup.rules past e.caller e.call ≡ None
admitted_none setup past e ruled admitted = by_refusal (refusal setup.rules past e.caller e.call) refl
  where
    by_refusal : (r : Option Reply) → refusal setup.rules past e.caller e.call ≡ r → r ≡ None
    by_refusal None is = refl
    by_refusal (Some reply) is =
        let same : e.reply ≡ reply = ap (λ (x : Entry). x.reply) (ruled ∙ entry_refused setup past e.caller e.call reply is) in
        let refused : is_admission e.reply ≡ false = ap is_admission same ∙ refusal_refuses setup.rules past e.caller e.call reply is in absurd cc

no_sale : (rooms : ℕ) (live : Bool) (past : List Entry) (caller : ℕ) (points : List Point) → refusal (HotelRules rooms live) past caller (Bid points) ≡ None → sells points ≡ false
no_sale rooms live past caller points h = by_tests (is_closed past) (is_wrong_caller caller (Bid points) || is_wrong_place (HotelRules rooms live) (Bid points)) (sells points) h
  where
    by_tests : (a b s : Bool) →
        cond a (Some Closed)
        (cond b (Some WrongCall)
        (cond s (Some Sell)
        (cond (nat_lt (offered points (quote_to_beat rooms live past)) (need rooms live past caller)) (Some (BelowQuote (need rooms live past caller) (quote_to_beat rooms live past) (offered points (quote_to_beat rooms live past)))) None))) ≡ None →
        s ≡ false
    by_tests true b s k = absurd cc
    by_tests false true s k = absurd cc
    by_tests false false true k = absurd cc
    by_tests false false false k = refl

-- so each standing unit buys
module _ (good rooms : ℕ) (live : Bool) (endow : List ℤ) where
  abbrev setup : Setup
  setup = record { good = good; rules = HotelRules rooms live; endow = endow }

  pub hotel_buys : (past : List Entry) → IsLawful setup past → AllBuy (standing_units (HotelRules rooms live) past)
  hotel_buys [] lawful = tt
  hotel_buys (e ∷ past) lawful = by_closed (is_closed (e ∷ past))
      (by_reply (is_admission e.reply) refl (hotel_buys past lawful.1))
    where
      before : List BidUnit
      before = standing_units (HotelRules rooms live) past

      found : (call : Call) → e.call ≡ call → refusal (HotelRules rooms live) past e.caller call ≡ None → AllBuy before → AllBuy (units_found before (length past) e.caller call)
      found (Bid points) is none h =
          each_replaced (λ u. u.buys ≡ true) before e.caller (units_of (record { agent = e.caller; position = length past; points = points })) agents
          (points_buy e.caller (length past) 0 points (no_sale rooms live past e.caller points none)) (λ a other. each-filter (λ u. u.buys ≡ true) (λ u. u.agent == a) before h)
      found Withdraw is none h = each_replaced (λ u. u.buys ≡ true) before e.caller [] agents tt (λ a other. each-filter (λ u. u.buys ≡ true) (λ u. u.agent == a) before h)
      found OwnCall is none h = h
      found (Update tick draw) is none h = h
      found Publish is none h = h
      found Close is none h = h

      by_reply : (b : Bool) → is_admission e.reply ≡ b → AllBuy before → AllBuy (cond b (without (units_found before (length past) e.caller e.call) []) before)
      by_reply true admitted h =
          each-filter (λ u. u.buys ≡ true) (λ u. not (among u [])) (units_found before (length past) e.caller e.call) (found e.call refl (admitted_none setup past e lawful.0 admitted) h)
      by_reply false refused h = h

      by_closed : (b : Bool) → AllBuy (cond (is_admission e.reply) (without (units_found before (length past) e.caller e.call) []) before) →
          AllBuy (cond b [] (cond (is_admission e.reply) (without (units_found before (length past) e.caller e.call) []) before))
      by_closed true h = tt
      by_closed false h = h

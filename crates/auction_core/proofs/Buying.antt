-- All that stands in a lawful flight or hotel buys.
use Rattle.std.proofs.Common.{◌≡◌, ℕ, ◌+◌, Bool, true, false, cond, List, [], ◌∷◌, length, map, refl, sym, ap, ◌∙◌, subst, Option, Some, None, not, ◌&&◌, ◌||◌, ◌==◌, filter, flat_map}
use Rattle.std.specs.Prelude.{⊤}
use Rattle.std.proofs.lemmas.Bool.{false≢true, and_parts, or_parts, not-false}
use Rattle.auction_core.specs.Prelude.{Point, Call, Reply, size_of, buys_of, Placed, BidUnit, agents, point_units, units_from, among, without, Setup, Rules, looked_at, gone, stand, is_wrong_caller, is_wrong_place, sells, bid_refusal, call_refusal, refusal, IsLawful, entry_of}
use Rattle.tac_base.specs.declared.calls.Call.TheVariants.{Bid, Withdraw, Own as OwnCall, Update, Publish, Close}
use Rattle.tac_base.specs.declared.calls.Reply.TheVariants.{Closed, WrongCall, Sell}
use Rattle.auction_rules.specs.declared.rules.Rules.TheVariants.{Flight as FlightRules, Hotel as HotelRules, Tickets as TicketRules}
use Rattle.auction_rules.specs.History.{Entry, is_admission, is_own, is_closed}
use Rattle.auction_rules.specs.BookStanding.{bid_after, last_bid, bid_units, units_of_last}
use Rattle.auction_rules.proofs.Steps.{refusal_refuses, entry_refused}
use Rattle.auction_rules.proofs.Standing.{Each, each-append, each-filter, each-block}

-- the rules by which the house alone sells
abbrev pub HouseSells : Rules → Type 0
HouseSells (FlightRules first bound) = ⊤
HouseSells (HotelRules rooms live) = ⊤
HouseSells TicketRules = ⊥

abbrev pub AllBuy : List BidUnit → Type 0
AllBuy units = Each (λ u. u.buys ≡ true) units

-- ---- a bid that is not refused

not_refused : (b : Bool) (reply : Reply) (other : Option Reply) → cond b (Some reply) other ≡ None → (b ≡ false) × (other ≡ None)
not_refused true reply other h = absurd cc
not_refused false reply other h = (refl, h)

bid_buys : (rules : Rules) (past : List Entry) (caller : ℕ) (points : List Point) → HouseSells rules → bid_refusal rules past caller points ≡ None → sells points ≡ false
bid_buys (FlightRules first bound) past caller points house h = (not_refused (sells points) Sell None h).0
bid_buys (HotelRules rooms live) past caller points house h = (not_refused (sells points) Sell _ h).0
bid_buys TicketRules past caller points house h = absurd house

pub admitted_buys : (rules : Rules) (past : List Entry) (caller : ℕ) (points : List Point) → HouseSells rules → refusal rules past caller (Bid points) ≡ None → sells points ≡ false
admitted_buys rules past caller points house h =
    let still_open = not_refused (not (is_own (Bid points)) && is_closed past) Closed _ h in
    let placed = not_refused (is_wrong_caller caller (Bid points) || is_wrong_place rules (Bid points)) WrongCall (call_refusal rules past caller (Bid points)) still_open.1 in
    bid_buys rules past caller points house placed.1

-- ---- the last bids

abbrev IsBuying : Option Placed → Type 0
IsBuying None = ⊤
IsBuying (Some bid) = sells bid.points ≡ false

module _ (setup : Setup) (house : HouseSells setup.rules) where
  entry_buys : (e : Entry) (past : List Entry) (points : List Point) → e ≡ entry_of setup past e.caller e.call → is_admission e.reply ≡ true → e.call ≡ Bid points → sells points ≡ false
  entry_buys e past points lawful admitted call = by_refusal (refusal setup.rules past e.caller e.call) refl
    where
      by_refusal : (refused : Option Reply) → refusal setup.rules past e.caller e.call ≡ refused → sells points ≡ false
      by_refusal (Some reply) h =
          let same : e.reply ≡ reply = ap (λ (x : Entry). x.reply) (lawful ∙ entry_refused setup past e.caller e.call reply h) in
          absurd (false≢true (sym (refusal_refuses setup.rules past e.caller e.call reply h) ∙ ap is_admission (sym same) ∙ admitted))
      by_refusal None h = admitted_buys setup.rules past e.caller points house (subst (λ (c : Call). refusal setup.rules past e.caller c ≡ None) call h)

  last_buys : (past : List Entry) (agent : ℕ) → IsLawful setup past → IsBuying (last_bid agent past)
  last_buys [] agent lawful = tt
  last_buys (e ∷ past) agent lawful = by_test (is_admission e.reply && (e.caller == agent)) refl (last_buys past agent lawful.1)
    where
      after : (call : Call) → e.call ≡ call → is_admission e.reply ≡ true → IsBuying (last_bid agent past) → IsBuying (bid_after e.caller (length past) call (last_bid agent past))
      after (Bid points) is admitted old = entry_buys e past points lawful.0 admitted is
      after Withdraw is admitted old = tt
      after OwnCall is admitted old = old
      after (Update tick draw) is admitted old = old
      after Publish is admitted old = old
      after Close is admitted old = old

      by_test : (b : Bool) → (is_admission e.reply && (e.caller == agent)) ≡ b → IsBuying (last_bid agent past) →
          IsBuying (cond b (bid_after e.caller (length past) e.call (last_bid agent past)) (last_bid agent past))
      by_test true own old = after e.call refl (and_parts (is_admission e.reply) (e.caller == agent) own).0 old
      by_test false own old = old

  -- ---- their units

  units_buy : (agent position from : ℕ) (points : List Point) → sells points ≡ false → AllBuy (units_from agent position from points)
  units_buy agent position from [] h = tt
  units_buy agent position from (point ∷ points) h =
      let parts = or_parts (not (buys_of point.units)) (sells points) h in
      each-append (λ (u : BidUnit). u.buys ≡ true) (point_units agent position from point) (units_from agent position (from + size_of point) points)
      (each-block (λ (u : BidUnit). u.buys ≡ true) (record { agent = agent; buys = buys_of point.units; price = point.price; position = position; index = from }) (size_of point) (λ i. not-false (buys_of point.units) parts.0))
      (units_buy agent position (from + size_of point) points parts.1)

  of_last : (bid : Option Placed) → IsBuying bid → AllBuy (units_of_last bid)
  of_last None h = tt
  of_last (Some bid) h = units_buy bid.agent bid.position 0 bid.points h

  bids_buy : (past : List Entry) (who : List ℕ) → IsLawful setup past → AllBuy (flat_map units_of_last (map (λ a. last_bid a past) who))
  bids_buy past [] lawful = tt
  bids_buy past (a ∷ who) lawful =
      each-append (λ (u : BidUnit). u.buys ≡ true) (units_of_last (last_bid a past)) (flat_map units_of_last (map (λ (b : ℕ). last_bid b past) who))
      (of_last (last_bid a past) (last_buys past a lawful)) (bids_buy past who lawful)

  -- what stands buys
  pub stand_buys : (past : List Entry) → IsLawful setup past → AllBuy (stand setup.rules past)
  stand_buys past lawful = by_test (is_closed past)
    where
      by_test : (b : Bool) → AllBuy (cond b [] (without (bid_units past) (gone setup.rules past)))
      by_test true = tt
      by_test false = each-filter (λ (u : BidUnit). u.buys ≡ true) (λ (u : BidUnit). not (among u (gone setup.rules past))) (bid_units past) (bids_buy past agents lawful)

  -- and so does what an admitted call looks at
  pub looked_buys : (past : List Entry) (caller : ℕ) (call : Call) → IsLawful setup past → refusal setup.rules past caller call ≡ None → AllBuy (looked_at (stand setup.rules past) (length past) caller call)
  looked_buys past caller (Bid points) lawful h =
      each-append (λ (u : BidUnit). u.buys ≡ true) (filter (λ u. not (u.agent == caller)) (stand setup.rules past)) (units_from caller (length past) 0 points)
      (each-filter (λ (u : BidUnit). u.buys ≡ true) (λ (u : BidUnit). not (u.agent == caller)) (stand setup.rules past) (stand_buys past lawful))
      (units_buy caller (length past) 0 points (admitted_buys setup.rules past caller points house h))
  looked_buys past caller Withdraw lawful h = stand_buys past lawful
  looked_buys past caller OwnCall lawful h = stand_buys past lawful
  looked_buys past caller (Update tick draw) lawful h = stand_buys past lawful
  looked_buys past caller Publish lawful h = stand_buys past lawful
  looked_buys past caller Close lawful h = stand_buys past lawful

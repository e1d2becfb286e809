-- After a legal past no board of a ticket auction is crossed: each unit that buys has a lower price than each that sells.
use Rattle.std.proofs.Common.{◌≡◌, ℕ, ◌+◌, ◌<◌, ◌≤◌, Bool, true, false, List, [], ◌∷◌, length, map, refl, sym, ap, ◌∙◌, subst, arith, Option, Some, None, not, ◌&&◌, ◌||◌, ◌==◌, nat_le, max, filter, if◌then◌else◌}
use Rattle.std.specs.List.{list_any}
use Rattle.std.proofs.lemmas.Bool.{false≢true, and_parts, or_parts, or_right, not-true}
use Rattle.std.proofs.lemmas.Bool.Decides.{nat_tests}
use Rattle.auction_rules.specs.{Point, buys_of, size_of, Call, Reply, Closed, WrongCall, SelfCross, point_units, units_from, units_of, same_side, among, without, Entry, is_admission, is_bid, is_close, is_closed, last_bid, units_of_last, faces, crosses, ticket_gone, gone, stand, is_wrong_caller, is_wrong_place, crosses_itself, refusal, IsLawful, entry_of, highest_buy, lowest_sell, shown_bid, shown_ask}
use Rattle.tac_base.specs.declared.calls.Call.TheVariants.{Bid, Withdraw, Own as OwnCall, Update, Publish, Close}
use Rattle.auction_rules.specs.declared.units.BidUnit.{BidUnit}
use Rattle.auction_rules.specs.declared.units.Placed.{Placed}
use Rattle.auction_rules.specs.Setup.{Setup}
use Rattle.auction_rules.specs.declared.rules.Rules.{Rules}
use Rattle.auction_rules.specs.declared.rules.Rules.TheVariants.{Tickets as TicketRules}
use Rattle.auction_rules.proofs.Lists.{any-weaker}
use Rattle.auction_rules.proofs.Quotes.{fold_keeps, max_keeps, lowest_keeps, prices_of}
use Rattle.auction_rules.proofs.Steps.{entry_refused, refusal_refuses}
use Rattle.auction_rules.proofs.Standing.{Each, each-append, each-block, each-weaker, IsPlaced, each-placed, number_is, among-filter, all_among_self, side_is}
use Rattle.auction_rules.proofs.Agents.{number_same}
use Rattle.auction_rules.proofs.AgentUnits.{stand_owned, own_units, gone_now, own_by_other, own_by_bid}
use Rattle.auction_rules.proofs.Matching.{each_among, unmatched}

-- each of the units that buys has a lower price than each that sells
abbrev pub Apart : List BidUnit → Type 0
Apart units = (u v : BidUnit) → among u units ≡ true → among v units ≡ true → u.buys ≡ true → v.buys ≡ false → u.price < v.price

price_below : (u v : BidUnit) → nat_le v.price u.price ≡ false → u.price < v.price
price_below u v h = grind (arith, nat_tests)

-- ---- one bid

-- a point of the unit's side and price is among the points
abbrev point_of : BidUnit → Point → Bool
point_of u point = same_side (buys_of point.units) u.buys && (point.price == u.price)

each_has_point : (agent position from : ℕ) (points : List Point) → Each (λ u. list_any (point_of u) points ≡ true) (units_from agent position from points)
each_has_point agent position from [] = tt
each_has_point agent position from (point ∷ points) =
    each-append (λ u. list_any (point_of u) (point ∷ points) ≡ true) (point_units agent position from point) (units_from agent position (from + size_of point) points)
    (each-block (λ u. list_any (point_of u) (point ∷ points) ≡ true) (record { agent = agent; buys = buys_of point.units; price = point.price; position = position; index = from }) (size_of point)
    (λ i. rw (same (buys_of point.units), number_same point.price) refl))
    (each-weaker (λ u. list_any (point_of u) points ≡ true) (λ u. list_any (point_of u) (point ∷ points) ≡ true) (units_from agent position (from + size_of point) points) (λ u h. or_right (point_of u point) (list_any (point_of u) points) h)
    (each_has_point agent position (from + size_of point) points))
  where
    same : (b : Bool) → same_side b b ≡ true
    same true = refl
    same false = refl

-- the units of a bid that does not cross itself
one_bid_apart : (bid : Placed) → crosses_itself bid.points ≡ false → Apart (units_of bid)
one_bid_apart bid apart u v among_u among_v buys sells = by_test (nat_le v.price u.price) refl
  where
    has : (w : BidUnit) → among w (units_of bid) ≡ true → list_any (point_of w) bid.points ≡ true
    has w is = each_among (λ x. list_any (point_of x) bid.points ≡ true) w (units_of bid) (each_has_point bid.agent bid.position 0 bid.points) is

    reached : nat_le v.price u.price ≡ true → (p : Point) → point_of v p ≡ true → (not (buys_of p.units) && nat_le p.price u.price) ≡ true
    reached h p is =
        let side : buys_of p.units ≡ false = side_is (buys_of p.units) v.buys (and_parts (same_side (buys_of p.units) v.buys) _ is).0 ∙ sells in
        let price : p.price ≡ v.price = number_is p.price v.price (and_parts (same_side (buys_of p.units) v.buys) _ is).1 in
        rw (side, price, h) refl

    reaching : nat_le v.price u.price ≡ true → (p : Point) → point_of u p ≡ true → (buys_of p.units && list_any (λ sell. not (buys_of sell.units) && nat_le sell.price p.price) bid.points) ≡ true
    reaching h p is =
        let side : buys_of p.units ≡ true = side_is (buys_of p.units) u.buys (and_parts (same_side (buys_of p.units) u.buys) _ is).0 ∙ buys in
        let price : p.price ≡ u.price = number_is p.price u.price (and_parts (same_side (buys_of p.units) u.buys) _ is).1 in
        let meets : list_any (λ sell. not (buys_of sell.units) && nat_le sell.price u.price) bid.points ≡ true = any-weaker (point_of v) (λ sell. not (buys_of sell.units) && nat_le sell.price u.price) bid.points (reached h) (has v among_v) in
        rw (side, price, meets) refl

    by_test : (t : Bool) → nat_le v.price u.price ≡ t → u.price < v.price
    by_test true h = let crossed : crosses_itself bid.points ≡ true = any-weaker (point_of u) (λ buy. buys_of buy.units && list_any (λ sell. not (buys_of sell.units) && nat_le sell.price buy.price) bid.points) bid.points (reaching h) (has u among_u) in absurd cc
    by_test false h = price_below u v h

-- ---- the owner of a standing unit, and where it comes from

-- each standing unit is an agent's
owner_within : (rules : Rules) (past : List Entry) (u : BidUnit) → among u (stand rules past) ≡ true → u.agent ≤ 7
owner_within rules past u is = each_among (λ (x : BidUnit). x.agent ≤ 7) u (stand rules past) (stand_owned rules past) is

-- a standing unit among those of its owner
among_own : (units : List BidUnit) (u : BidUnit) (agent : ℕ) → among u units ≡ true → (u.agent == agent) ≡ true → among u (filter (λ x. x.agent == agent) units) ≡ true
among_own units u agent is own = among-filter u (λ x. x.agent == agent) units ∙ rw (is, own) refl

-- what stands of a list without what is gone
among_left : (u : BidUnit) (us away : List BidUnit) → among u (without us away) ≡ true → (among u us ≡ true) × (among u away ≡ false)
among_left u us away is =
    let both = and_parts (among u us) _ (sym (among-filter u (λ x. not (among x away)) us) ∙ is) in (both.0, not-true (among u away) both.1)

module _ (past : List Entry) (e : Entry) (still_open : is_closed past ≡ false) (stays_open : is_closed (e ∷ past) ≡ false) where
  -- a unit of another agent stood before, and did not trade now
  from_other : (u : BidUnit) → among u (stand TicketRules (e ∷ past)) ≡ true → (is_admission e.reply && (e.caller == u.agent)) ≡ false →
      (among u (stand TicketRules past) ≡ true) × (among u (gone_now TicketRules past e) ≡ false)
  from_other u is other =
      let le = owner_within TicketRules (e ∷ past) u is in
      let own = among_own (stand TicketRules (e ∷ past)) u u.agent is (number_same u.agent) in
      let left = among_left u (filter (λ x. x.agent == u.agent) (stand TicketRules past)) (gone_now TicketRules past e)
      (sym (ap (among u) (own_by_other TicketRules past e u.agent le still_open stays_open other)) ∙ own) in
      ((and_parts (among u (stand TicketRules past)) _ (sym (among-filter u (λ x. x.agent == u.agent) (stand TicketRules past)) ∙ left.0)).0, left.1)

  -- a unit of the bidder is of its new bid, and did not trade now
  from_bidder : (u : BidUnit) (points : List Point) → among u (stand TicketRules (e ∷ past)) ≡ true → is_admission e.reply ≡ true → (e.caller == u.agent) ≡ true → e.call ≡ Bid points →
      (among u (units_of (record { agent = e.caller; position = length past; points = points })) ≡ true) × (among u (gone_now TicketRules past e) ≡ false)
  from_bidder u points is admitted same call =
      let owner : e.caller ≡ u.agent = number_is e.caller u.agent same in
      let le : e.caller ≤ 7 = rw owner (owner_within TicketRules (e ∷ past) u is) in
      let own = among_own (stand TicketRules (e ∷ past)) u e.caller is (rw (sym owner) (number_same e.caller)) in
      among_left u (units_of (record { agent = e.caller; position = length past; points = points })) (gone_now TicketRules past e)
      (sym (ap (among u) (own_by_bid TicketRules past e e.caller points le stays_open (rw (admitted, number_same e.caller) refl) call)) ∙ own)

  -- a new unit and another agent's face each other
  facing : (u v : BidUnit) (points : List Point) → among u (units_of (record { agent = e.caller; position = length past; points = points })) ≡ true → (e.caller == v.agent) ≡ false →
      same_side u.buys v.buys ≡ false → faces u v ≡ true
  facing u v points is other sides =
      let own = each_among (IsPlaced e.caller (length past)) u (units_of (record { agent = e.caller; position = length past; points = points })) (each_placed_all points) is in
      rw (own.0, other, sides) refl
    where
      each_placed_all : (ps : List Point) → Each (IsPlaced e.caller (length past)) (units_of (record { agent = e.caller; position = length past; points = ps }))
      each_placed_all ps = each-placed e.caller (length past) 0 ps

  -- after an admitted bid that does not cross itself
  bid_apart : (points : List Point) → is_admission e.reply ≡ true → e.call ≡ Bid points → crosses_itself points ≡ false → Apart (stand TicketRules past) → Apart (stand TicketRules (e ∷ past))
  bid_apart points admitted call apart before u v among_u among_v buys sells = by_owners (e.caller == u.agent) (e.caller == v.agent) refl refl
    where
      new : List BidUnit
      new = units_of (record { agent = e.caller; position = length past; points = points })

      away : gone_now TicketRules past e ≡ ticket_gone (stand TicketRules past) new
      away = rw (admitted, call) refl

      stays : (w : BidUnit) → among w (gone_now TicketRules past e) ≡ false → among w (ticket_gone (stand TicketRules past) new) ≡ false
      stays w h = sym (ap (among w) away) ∙ h

      other : (w : BidUnit) → (e.caller == w.agent) ≡ false → (is_admission e.reply && (e.caller == w.agent)) ≡ false
      other w h = rw (admitted, h) refl

      by_owners : (a b : Bool) → (e.caller == u.agent) ≡ a → (e.caller == v.agent) ≡ b → u.price < v.price
      by_owners true true own_u own_v =
          one_bid_apart (record { agent = e.caller; position = length past; points = points }) apart u v
          ((from_bidder u points among_u admitted own_u call).0) ((from_bidder v points among_v admitted own_v call).0) buys sells
      by_owners true false own_u own_v =
          let new_u = from_bidder u points among_u admitted own_u call in
          let old_v = from_other v among_v (other v own_v) in
          let uncrossed : crosses u v ≡ false = unmatched (stand TicketRules past) new u v new_u.0 old_v.0 (facing u v points new_u.0 own_v (rw (buys, sells) refl)) (stays u new_u.1) (stays v old_v.1) in
          price_below u v (sym (rw buys refl) ∙ uncrossed)
      by_owners false true own_u own_v =
          let old_u = from_other u among_u (other u own_u) in
          let new_v = from_bidder v points among_v admitted own_v call in
          let uncrossed : crosses v u ≡ false = unmatched (stand TicketRules past) new v u new_v.0 old_u.0 (facing v u points new_v.0 own_u (rw (buys, sells) refl)) (stays v new_v.1) (stays u old_u.1) in
          price_below u v (sym (rw sells refl) ∙ uncrossed)
      by_owners false false own_u own_v =
          before u v ((from_other u among_u (other u own_u)).0) ((from_other v among_v (other v own_v)).0) buys sells

  -- after an admitted call that is no bid, only units stand that stood before
  none_new : (u : BidUnit) (call : Call) → is_bid call ≡ false → is_admission e.reply ≡ true → e.call ≡ call → among u (stand TicketRules (e ∷ past)) ≡ true → among u (stand TicketRules past) ≡ true
  none_new u call no_bid admitted is_call is = by_owner (e.caller == u.agent) refl
    where
      le : u.agent ≤ 7
      le = owner_within TicketRules (e ∷ past) u is

      own : among u (without (units_of_last (last_bid u.agent (e ∷ past))) (gone TicketRules (e ∷ past))) ≡ true
      own = sym (ap (among u) (own_units TicketRules (e ∷ past) u.agent le stays_open)) ∙ among_own (stand TicketRules (e ∷ past)) u u.agent is (number_same u.agent)

      had : among u (without (units_of_last (last_bid u.agent past)) (gone TicketRules past)) ≡ true → among u (stand TicketRules past) ≡ true
      had h =
          (and_parts (among u (stand TicketRules past)) _
          (sym (among-filter u (λ x. x.agent == u.agent) (stand TicketRules past)) ∙ ap (among u) (own_units TicketRules past u.agent le still_open) ∙ h)).0

      by_call : (c : Call) → is_bid c ≡ false → e.call ≡ c → (e.caller == u.agent) ≡ true → among u (stand TicketRules past) ≡ true
      by_call (Bid points) other_call c same = absurd cc
      by_call Withdraw other_call c same = absurd (let nothing : among u (without (units_of_last (last_bid u.agent (e ∷ past))) (gone TicketRules (e ∷ past))) ≡ false = rw (admitted, same, c) refl in false≢true (sym nothing ∙ own))
      by_call OwnCall other_call c same = had (sym (rw (admitted, same, c) refl) ∙ own)
      by_call (Update tick draw) other_call c same = had (sym (rw (admitted, same, c) refl) ∙ own)
      by_call Publish other_call c same = had (sym (rw (admitted, same, c) refl) ∙ own)
      by_call Close other_call c same = had (sym (rw (admitted, same, c) refl) ∙ own)

      by_owner : (b : Bool) → (e.caller == u.agent) ≡ b → among u (stand TicketRules past) ≡ true
      by_owner true same = by_call call no_bid is_call same
      by_owner false other = (from_other u is (rw (admitted, other) refl)).0

-- ---- all entries

-- an admitted bid does not cross itself
admitted_apart : (past : List Entry) (caller : ℕ) (points : List Point) → refusal TicketRules past caller (Bid points) ≡ None → crosses_itself points ≡ false
admitted_apart past caller points h = by_tests (is_closed past) (is_wrong_caller caller (Bid points) || is_wrong_place TicketRules (Bid points)) (crosses_itself points) h
  where
    by_tests : (a b c : Bool) → (if a then Some Closed else if b then Some WrongCall else if c then Some SelfCross else None) ≡ None → c ≡ false
    by_tests true b c g = cc
    by_tests false true c g = cc
    by_tests false false true g = cc
    by_tests false false false g = refl

-- an admitted entry of the rules was not refused
not_refused : (setup : Setup) (past : List Entry) (e : Entry) → e ≡ entry_of setup past e.caller e.call → is_admission e.reply ≡ true → refusal setup.rules past e.caller e.call ≡ None
not_refused setup past e lawful admitted = by_refusal (refusal setup.rules past e.caller e.call) refl
  where
    by_refusal : (r : Option Reply) → refusal setup.rules past e.caller e.call ≡ r → r ≡ None
    by_refusal None h = refl
    by_refusal (Some reply) h =
        let replied : e.reply ≡ reply = ap (λ (x : Entry). x.reply) (lawful ∙ entry_refused setup past e.caller e.call reply h) in
        absurd (false≢true (sym (refusal_refuses setup.rules past e.caller e.call reply h) ∙ sym (ap is_admission replied) ∙ admitted))

entry_apart : (setup : Setup) (past : List Entry) (e : Entry) → setup.rules ≡ TicketRules → e ≡ entry_of setup past e.caller e.call → Apart (stand TicketRules past) → Apart (stand TicketRules (e ∷ past))
entry_apart setup past e tickets lawful before = by_closed (is_closed (e ∷ past)) refl
  where
    by_call : (call : Call) → e.call ≡ call → is_admission e.reply ≡ true → is_closed past ≡ false → is_closed (e ∷ past) ≡ false → Apart (stand TicketRules (e ∷ past))
    by_call (Bid points) is admitted still_open stays_open =
        bid_apart past e still_open stays_open points admitted is
        (admitted_apart past e.caller points (sym (rw (tickets, is) refl) ∙ not_refused setup past e lawful admitted)) before
    by_call Withdraw is admitted still_open stays_open = λ u v among_u among_v. before u v (none_new past e still_open stays_open u Withdraw refl admitted is among_u) (none_new past e still_open stays_open v Withdraw refl admitted is among_v)
    by_call OwnCall is admitted still_open stays_open = λ u v among_u among_v. before u v (none_new past e still_open stays_open u OwnCall refl admitted is among_u) (none_new past e still_open stays_open v OwnCall refl admitted is among_v)
    by_call (Update tick draw) is admitted still_open stays_open =
        λ u v among_u among_v. before u v (none_new past e still_open stays_open u (Update tick draw) refl admitted is among_u) (none_new past e still_open stays_open v (Update tick draw) refl admitted is among_v)
    by_call Publish is admitted still_open stays_open = λ u v among_u among_v. before u v (none_new past e still_open stays_open u Publish refl admitted is among_u) (none_new past e still_open stays_open v Publish refl admitted is among_v)
    by_call Close is admitted still_open stays_open = λ u v among_u among_v. before u v (none_new past e still_open stays_open u Close refl admitted is among_u) (none_new past e still_open stays_open v Close refl admitted is among_v)

    by_admission : (b : Bool) → is_admission e.reply ≡ b → is_closed (e ∷ past) ≡ false → Apart (stand TicketRules (e ∷ past))
    by_admission true admitted stays_open = by_call e.call refl admitted (or_parts (is_admission e.reply && is_close e.call) (is_closed past) stays_open).1 stays_open
    by_admission false refused stays_open = let same : stand TicketRules (e ∷ past) ≡ stand TicketRules past = rw refused refl in subst Apart (sym same) before

    by_closed : (b : Bool) → is_closed (e ∷ past) ≡ b → Apart (stand TicketRules (e ∷ past))
    by_closed true closed = let nothing : stand TicketRules (e ∷ past) ≡ [] = rw closed refl in λ u v among_u. absurd (false≢true (sym (ap (among u) nothing) ∙ among_u))
    by_closed false stays_open = by_admission (is_admission e.reply) refl stays_open

-- after a legal past no standing unit that buys reaches one that sells
pub stand_apart : (setup : Setup) (past : List Entry) → setup.rules ≡ TicketRules → IsLawful setup past → Apart (stand TicketRules past)
stand_apart setup [] tickets lawful = λ u v among_u. absurd (false≢true among_u)
stand_apart setup (e ∷ past) tickets lawful = entry_apart setup past e tickets lawful.0 (stand_apart setup past tickets lawful.1)

-- ---- the board

-- the bid that is shown is below the ask, if both are there
pub quotes_apart : (units : List BidUnit) → Apart units → 0 < highest_buy units → 0 < lowest_sell units → highest_buy units < lowest_sell units
quotes_apart units apart some_bid some_ask =
    lowest_keeps Above (λ h. absurd (omega arith)) (map (λ u. u.price) (filter (λ u. not u.buys) units))
    (prices_of Above (λ u. not u.buys) units (each-weaker (λ v. among v units ≡ true) (λ v. not v.buys ≡ true → Above v.price) units (λ v is sells _. highest v is (not-true v.buys sells) some_bid) (all_among_self units)))
    some_ask
  where
    Above : ℕ → Type 0
    Above n = 0 < n → highest_buy units < n

    highest : (v : BidUnit) → among v units ≡ true → v.buys ≡ false → 0 < highest_buy units → highest_buy units < v.price
    highest v is sells =
        fold_keeps (λ n. 0 < n → n < v.price) max (max_keeps (λ n. 0 < n → n < v.price)) 0 (λ h. absurd (omega arith)) (map (λ u. u.price) (filter (λ u. u.buys) units))
        (prices_of (λ n. 0 < n → n < v.price) (λ u. u.buys) units (each-weaker (λ u. among u units ≡ true) (λ u. u.buys ≡ true → 0 < u.price → u.price < v.price) units (λ u is_u buys _. apart u v is_u is buys sells) (all_among_self units)))

pub board_apart : (setup : Setup) (past : List Entry) → setup.rules ≡ TicketRules → IsLawful setup past → 0 < shown_bid setup.rules past → 0 < shown_ask setup.rules past →
    shown_bid setup.rules past < shown_ask setup.rules past
board_apart setup past tickets lawful = rw tickets (quotes_apart (stand TicketRules past) (stand_apart setup past tickets lawful))

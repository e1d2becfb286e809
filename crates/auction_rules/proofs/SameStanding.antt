-- The units that stand after each entry, and the units of the last bids less all that ever traded, are the same.
use Rattle.std.proofs.Common.{◌≡◌, ℕ, ℤ, ◌≤◌, Bool, true, false, cond, List, [], ◌∷◌, ◌++◌, length, refl, sym, ap, ◌∙◌, subst, Option, None, not, ◌&&◌, ◌==◌, filter, flat_map, nat_le, if◌then◌else◌}
use Rattle.std.specs.Prelude.{⊤}
use Rattle.std.proofs.lemmas.Bool.{or_parts}
use Rattle.auction_rules.specs.{Call, agents, units_of, among, without, Entry, is_admission, is_closed, is_close, bid_after, last_bid, bid_units, units_of_last, units_of_bids, looked_at, arriving, gone_by, gone, stand, price, price_after}
use Rattle.tac_base.specs.declared.calls.Call.TheVariants.{Bid, Withdraw, Own as OwnCall, Update, Publish, Close}
use Rattle.auction_rules.specs.declared.units.Placed.{Placed}
use Rattle.auction_rules.specs.declared.units.BidUnit.{BidUnit}
use Rattle.auction_rules.specs.declared.rules.Rules.{Rules}
use Rattle.auction_rules.specs.declared.rules.Rules.TheVariants.{Flight as FlightRules, Hotel as HotelRules, Tickets as TicketRules}
use Rattle.auction_rules.specs.BookStanding.{is_sale}
use Rattle.auction_rules.specs.Standing.{replaced_units, units_found, units_traded, standing_units}
use Rattle.auction_rules.proofs.Agents.{agents_alike, agents_joined, another}
use Rattle.auction_rules.proofs.Lists.{filter_same, filter-flat_map}
use Rattle.auction_rules.proofs.Standing.{Each, each-append, each-filter, each-weaker, number_is, among-filter, AllAmong, all_among_self, all_among_left, all_among_right}
use Rattle.auction_rules.proofs.AgentUnits.{gone_now, own_units, units_joined, own_by_other, own_by_bid, without-append}
use Rattle.auction_rules.proofs.Idle.{either_same, idle_refused, idle_stand}
use Rattle.auction_rules.proofs.SamePairs.{gone_same}

-- ---- what the found units are among

-- what holds of one agent's new units, and of the standing units of the others
pub each_replaced : (P : BidUnit → Type 0) (standing : List BidUnit) (agent : ℕ) (units : List BidUnit) (who : List ℕ) → Each P units →
    ((a : ℕ) → (agent == a) ≡ false → Each P (filter (λ u. u.agent == a) standing)) →
    Each P (flat_map (λ a. if agent == a then units else filter (λ u. u.agent == a) standing) who)
each_replaced P standing agent units [] h k = tt
each_replaced P standing agent units (a ∷ who) h k =
    each-append P (if agent == a then units else filter (λ u. u.agent == a) standing) _ (by_test (agent == a) refl) (each_replaced P standing agent units who h k)
  where
    by_test : (b : Bool) → (agent == a) ≡ b → Each P (cond b units (filter (λ u. u.agent == a) standing))
    by_test true same = h
    by_test false other = k a other

others_stand : (standing : List BidUnit) (agent a : ℕ) → (agent == a) ≡ false → AllAmong (filter (λ u. not (u.agent == agent)) standing) (filter (λ u. u.agent == a) standing)
others_stand standing agent a other =
    each-weaker (λ u. among u (filter (λ v. v.agent == a) standing) ≡ true) (λ u. among u (filter (λ v. not (v.agent == agent)) standing) ≡ true) (filter (λ u. u.agent == a) standing)
    (λ u is. among-filter u (λ v. not (v.agent == agent)) standing ∙ both u (among u standing) (u.agent == a) refl (sym (among-filter u (λ v. v.agent == a) standing) ∙ is))
    (all_among_self (filter (λ u. u.agent == a) standing))
  where
    both : (u : BidUnit) (s t : Bool) → (u.agent == a) ≡ t → (s && t) ≡ true → (s && not (u.agent == agent)) ≡ true
    both u true true own is = let differs : (u.agent == agent) ≡ false = another agent a u.agent (number_is u.agent a own) other in rw differs refl
    both u true false own is = absurd cc
    both u false t own is = absurd cc

-- the found units are among those that the other definition looks at
all_found : (standing : List BidUnit) (position caller : ℕ) (call : Call) → AllAmong (looked_at standing position caller call) (units_found standing position caller call)
all_found standing position caller (Bid points) =
    let units = units_of (record { agent = caller; position = position; points = points }) in
    let others = filter (λ (u : BidUnit). not (u.agent == caller)) standing in
    each_replaced (λ u. among u (others ++ units) ≡ true) standing caller units agents (all_among_right units others units (all_among_self units))
    (λ a other. all_among_left (filter (λ u. u.agent == a) standing) others units (others_stand standing caller a other))
all_found standing position caller Withdraw =
    each_replaced (λ u. among u standing ≡ true) standing caller [] agents tt
    (λ a other. each-weaker (λ u. among u (filter (λ v. v.agent == a) standing) ≡ true) (λ u. among u standing ≡ true) (filter (λ u. u.agent == a) standing)
    (λ u is. kept (among u standing) (u.agent == a) (sym (among-filter u (λ v. v.agent == a) standing) ∙ is)) (all_among_self (filter (λ u. u.agent == a) standing)))
  where
    kept : (s t : Bool) → (s && t) ≡ true → s ≡ true
    kept true t is = refl
    kept false t is = absurd cc
all_found standing position caller OwnCall = all_among_self standing
all_found standing position caller (Update tick draw) = all_among_self standing
all_found standing position caller Publish = all_among_self standing
all_found standing position caller Close = all_among_self standing

-- so a call takes the same of the found units by both definitions
without_same : (us xs ys : List BidUnit) → Each (λ u. among u xs ≡ among u ys) us → without us xs ≡ without us ys
without_same us xs ys h = filter_same (λ u. not (among u xs)) (λ u. not (among u ys)) us (each-weaker (λ u. among u xs ≡ among u ys) (λ u. not (among u xs) ≡ not (among u ys)) us (λ u e. ap not e) h)

-- ---- the units of a flight that stand are below its price

abbrev pub AllCheap : ℕ → List BidUnit → Type 0
AllCheap current units = Each (λ u. nat_le current u.price ≡ false) units

none_dear : (current : ℕ) (units : List BidUnit) → AllCheap current units → filter (λ u. nat_le current u.price) units ≡ []
none_dear current [] h = refl
none_dear current (u ∷ us) h = rw (h.0, none_dear current us h.1) refl

-- what is left once those at or above the price are taken away
rest_cheap : (current : ℕ) (units us : List BidUnit) → AllAmong units us → AllCheap current (without us (filter (λ u. nat_le current u.price) units))
rest_cheap current units [] h = tt
rest_cheap current units (u ∷ us) h =
    by_test (nat_le current u.price) refl (among-filter u (λ v. nat_le current v.price) units ∙ ap (λ (b : Bool). b && nat_le current u.price) h.0) (rest_cheap current units us h.1)
  where
    taken : List BidUnit
    taken = filter (λ v. nat_le current v.price) units

    by_test : (b : Bool) → nat_le current u.price ≡ b → among u taken ≡ b → AllCheap current (without us taken) → AllCheap current (cond (not (among u taken)) (u ∷ without us taken) (without us taken))
    by_test true dear is rest = rw is rest
    by_test false cheap is rest = rw is (cheap, rest)

pub all_cheap : (first : ℕ) (bound : ℤ) (past : List Entry) → AllCheap (price first bound past) (standing_units (FlightRules first bound) past)
all_cheap first bound [] = tt
all_cheap first bound (e ∷ past) = by_closed (is_closed (e ∷ past)) (by_reply (is_admission e.reply) (all_cheap first bound past))
  where
    before : List BidUnit
    before = standing_units (FlightRules first bound) past

    found : List BidUnit
    found = units_found before (length past) e.caller e.call

    now : ℕ
    now = price_after bound (price first bound past) e.call

    kept : List BidUnit
    kept = without found (filter (λ u. nat_le now u.price) found)

    by_reply : (b : Bool) → AllCheap (price first bound past) before → AllCheap (cond b now (price first bound past)) (cond b kept before)
    by_reply true h = rest_cheap now found found (all_among_self found)
    by_reply false h = h

    by_closed : (b : Bool) → AllCheap (cond (is_admission e.reply) now (price first bound past)) (cond (is_admission e.reply) kept before) →
        AllCheap (cond (is_admission e.reply) now (price first bound past)) (cond b [] (cond (is_admission e.reply) kept before))
    by_closed true h = tt
    by_closed false h = h

-- so a call that brings no unit at or above the price trades none away
pub none_traded : (first : ℕ) (bound : ℤ) (past : List Entry) (standing : List BidUnit) (caller : ℕ) (call : Call) → is_sale call ≡ false → AllCheap (price first bound past) standing →
    units_traded (FlightRules first bound) past standing caller call ≡ []
none_traded first bound past standing caller (Bid points) idle h = absurd cc
none_traded first bound past standing caller (Update tick draw) idle h = absurd cc
none_traded first bound past standing caller Withdraw idle h =
    none_dear (price first bound past) (replaced_units standing caller [])
    (each_replaced (λ u. nat_le (price first bound past) u.price ≡ false) standing caller [] agents tt (λ a other. each-filter (λ u. nat_le (price first bound past) u.price ≡ false) (λ u. u.agent == a) standing h))
none_traded first bound past standing caller OwnCall idle h = none_dear (price first bound past) standing h
none_traded first bound past standing caller Publish idle h = none_dear (price first bound past) standing h
none_traded first bound past standing caller Close idle h = none_dear (price first bound past) standing h

-- in a flight, all of these units are below the price
abbrev IsCheap : Rules → List Entry → List BidUnit → Type 0
IsCheap (FlightRules first bound) past standing = AllCheap (price first bound past) standing
IsCheap rules past standing = ⊤

cheap_standing : (rules : Rules) (past : List Entry) → IsCheap rules past (standing_units rules past)
cheap_standing (FlightRules first bound) past = all_cheap first bound past
cheap_standing (HotelRules rooms live) past = tt
cheap_standing TicketRules past = tt

taken_same : (rules : Rules) (past : List Entry) (standing : List BidUnit) (caller : ℕ) (call : Call) → IsCheap rules past standing →
    without (units_found standing (length past) caller call) (units_traded rules past standing caller call) ≡ without (units_found standing (length past) caller call) (gone_by rules past standing caller call)
taken_same (FlightRules first bound) past standing caller call cheap = by_sale (is_sale call) refl
  where
    at : BidUnit → Bool
    at u = nat_le (price_after bound (price first bound past) call) u.price

    found : List BidUnit
    found = units_found standing (length past) caller call

    looked : List BidUnit
    looked = looked_at standing (length past) caller call

    alike : (u : BidUnit) → (among u found ≡ true) → (among u looked ≡ true) → among u (filter at found) ≡ among u (filter at looked)
    alike u in_found in_looked = among-filter u at found ∙ ap (λ (b : Bool). b && at u) (in_found ∙ sym in_looked) ∙ sym (among-filter u at looked)

    both : (us : List BidUnit) → AllAmong found us → AllAmong looked us → Each (λ u. among u (filter at found) ≡ among u (filter at looked)) us
    both [] h k = tt
    both (u ∷ us) h k = (alike u h.0 k.0, both us h.1 k.1)

    by_sale : (b : Bool) → is_sale call ≡ b → without found (filter at found) ≡ without found (cond b (filter at looked) [])
    by_sale true sale = without_same found (filter at found) (filter at looked) (both found (all_among_self found) (all_found standing (length past) caller call))
    by_sale false idle = ap (without found) (none_traded first bound past standing caller call idle cheap)
taken_same (HotelRules rooms live) past standing caller call cheap = refl
taken_same TicketRules past standing caller call cheap = ap (without (units_found standing (length past) caller call)) (gone_same standing (arriving (length past) caller call))

-- ---- one entry more

module _ (rules : Rules) (past : List Entry) (e : Entry) (stays_open : is_closed (e ∷ past) ≡ false) (admitted : is_admission e.reply ≡ true) where
  abbrev before : List BidUnit
  before = stand rules past

  still_open : is_closed past ≡ false
  still_open = (or_parts (is_admission e.reply && is_close e.call) (is_closed past) stays_open).1

  taken : gone_now rules past e ≡ gone_by rules past before e.caller e.call
  taken = ap (λ (b : Bool). cond b (gone_by rules past before e.caller e.call) []) admitted

  -- the units of one agent are replaced
  placed : (units : List BidUnit) → ((a : ℕ) → a ≤ 7 → (e.caller == a) ≡ true → filter (λ u. u.agent == a) (stand rules (e ∷ past)) ≡ without units (gone_now rules past e)) →
      stand rules (e ∷ past) ≡ without (replaced_units before e.caller units) (gone_by rules past before e.caller e.call)
  placed units own =
      sym (units_joined rules (e ∷ past))
      ∙ agents_joined _ (λ a. without (if e.caller == a then units else filter (λ u. u.agent == a) before) (gone_now rules past e)) (λ a le. by_test (e.caller == a) a le refl)
      ∙ sym (filter-flat_map (λ u. not (among u (gone_now rules past e))) (λ (a : ℕ). if e.caller == a then units else filter (λ u. u.agent == a) before) agents)
      ∙ ap (without (replaced_units before e.caller units)) taken
    where
      by_test : (b : Bool) (a : ℕ) → a ≤ 7 → (e.caller == a) ≡ b →
          filter (λ u. u.agent == a) (stand rules (e ∷ past)) ≡ without (cond b units (filter (λ u. u.agent == a) before)) (gone_now rules past e)
      by_test true a le same = own a le same
      by_test false a le other = own_by_other rules past e a le still_open stays_open (rw (admitted, other) refl)

  -- all bids stay
  kept : ((earlier : Option Placed) → bid_after e.caller (length past) e.call earlier ≡ earlier) → stand rules (e ∷ past) ≡ without before (gone_by rules past before e.caller e.call)
  kept same =
      ap (λ (b : Bool). cond b [] (without (bid_units (e ∷ past)) (gone rules (e ∷ past)))) stays_open
      ∙ ap (λ (us : List BidUnit). without us (gone rules (e ∷ past))) bids
      ∙ without-append (bid_units past) (gone_now rules past e) (gone rules past)
      ∙ ap (λ (b : Bool). without (cond b [] (without (bid_units past) (gone rules past))) (gone_now rules past e)) (sym still_open)
      ∙ ap (without before) taken
    where
      bids : bid_units (e ∷ past) ≡ bid_units past
      bids =
          ap units_of_bids
          (agents_alike (λ a. last_bid a (e ∷ past)) (λ a. last_bid a past)
          (λ a le. ap (λ (bid : Option Placed). cond (is_admission e.reply && (e.caller == a)) bid (last_bid a past)) (same (last_bid a past)) ∙ either_same (is_admission e.reply && (e.caller == a)) (last_bid a past)))

  one_more : (call : Call) → e.call ≡ call → stand rules (e ∷ past) ≡ without (units_found before (length past) e.caller call) (gone_by rules past before e.caller e.call)
  one_more (Bid points) is =
      placed (units_of (record { agent = e.caller; position = length past; points = points }))
      (λ a le same.
      own_by_bid rules past e a points le stays_open (rw (admitted, same) refl) is
      ∙ ap (λ (agent : ℕ). without (units_of (record { agent = agent; position = length past; points = points })) (gone_now rules past e)) (sym (number_is e.caller a same)))
  one_more Withdraw is =
      placed []
      (λ a le same.
      let none : last_bid a (e ∷ past) ≡ None = rw (admitted, same, is) refl in
      own_units rules (e ∷ past) a le stays_open ∙ ap (λ (bid : Option Placed). without (units_of_last bid) (gone rules (e ∷ past))) none)
  one_more OwnCall is = kept (λ earlier. rw is refl)
  one_more (Update tick draw) is = kept (λ earlier. rw is refl)
  one_more Publish is = kept (λ earlier. rw is refl)
  one_more Close is = kept (λ earlier. rw is refl)

-- the two definitions give the same list, for every past
pub standing_same : (rules : Rules) (past : List Entry) → standing_units rules past ≡ stand rules past
standing_same rules [] = refl
standing_same rules (e ∷ past) = subst (λ (before : List BidUnit). after before ≡ stand rules (e ∷ past)) (sym (standing_same rules past)) (by_closed (is_closed (e ∷ past)) refl (subst (IsCheap rules past) (standing_same rules past) (cheap_standing rules past)))
  where
    after : List BidUnit → List BidUnit
    after before =
        cond (is_closed (e ∷ past)) []
        (cond (is_admission e.reply) (without (units_found before (length past) e.caller e.call) (units_traded rules past before e.caller e.call)) before)

    by_reply : (b : Bool) → is_admission e.reply ≡ b → is_closed (e ∷ past) ≡ false → IsCheap rules past (stand rules past) →
        cond b (without (units_found (stand rules past) (length past) e.caller e.call) (units_traded rules past (stand rules past) e.caller e.call)) (stand rules past) ≡ stand rules (e ∷ past)
    by_reply true admitted stays_open cheap = taken_same rules past (stand rules past) e.caller e.call cheap ∙ sym (one_more rules past e stays_open admitted e.call refl)
    by_reply false refused stays_open cheap = sym (idle_stand past e (idle_refused e refused) rules)

    by_closed : (b : Bool) → is_closed (e ∷ past) ≡ b → IsCheap rules past (stand rules past) →
        cond b [] (cond (is_admission e.reply) (without (units_found (stand rules past) (length past) e.caller e.call) (units_traded rules past (stand rules past) e.caller e.call)) (stand rules past)) ≡ stand rules (e ∷ past)
    by_closed true closed cheap = sym (ap (λ (b : Bool). cond b [] (without (bid_units (e ∷ past)) (gone rules (e ∷ past)))) closed)
    by_closed false stays_open cheap = by_reply (is_admission e.reply) refl stays_open cheap

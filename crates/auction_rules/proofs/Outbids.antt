-- A hotel bid that is not below the quote keeps the published price reached.
use Rattle.std.proofs.Common.{◌≡◌, ℕ, ◌+◌, ◌<◌, ◌≤◌, min, Bool, true, false, List, [], ◌∷◌, length, refl, sym, ap, ◌∙◌, subst, arith, inl, inr, ◌⊎◌, not, ◌==◌, max, nat_le, nat_lt, filter, count_by, ltb-true, ltb-false}
use Rattle.std.proofs.lemmas.Bool.{cases_lt}
use Rattle.std.proofs.lemmas.Bool.Decides.{nat_tests}
use Rattle.std.proofs.lemmas.List.Sums.{count_by-le-length}
use Rattle.auction_rules.specs.{Point, Trade, Bid, Taken, agents, units_of, Entry, is_closed, last_bid, bid_units, units_of_last, stand, precedes, wins, published, winning, sold_units, need, quote_to_beat, offered}
use Rattle.auction_rules.specs.declared.units.BidUnit.{BidUnit}
use Rattle.auction_rules.specs.declared.rules.Rules.{Rules}
use Rattle.auction_rules.specs.declared.rules.Rules.TheVariants.{Hotel as HotelRules}
use Rattle.auction_rules.proofs.Agents.{number_same, numbers_differ, agents_joined}
use Rattle.auction_rules.proofs.Lists.{filter-flat_map}
use Rattle.auction_rules.proofs.Standing.{Each, last_is, last_units, number_is}
use Rattle.auction_rules.proofs.AgentUnits.{without_nothing, own_by_bid}
use Rattle.auction_rules.proofs.Ranks.{count_le}
use Rattle.auction_rules.proofs.Counts.{count-parts, count-filter, units_at, units_offered, offered_below}
use Rattle.auction_rules.proofs.HotelUnits.{open_stand, sells_what_stands}
use Rattle.auction_rules.proofs.Asks.{IsReached}

-- ---- who wins

-- if as many units as there are rooms have a price or more, each unit that wins has it
pub winner_reaches : (rooms : ℕ) (units : List BidUnit) (price : ℕ) → rooms ≤ units_at units price → (u : BidUnit) → wins rooms units u ≡ true → nat_le price u.price ≡ true
winner_reaches rooms units price enough u winning = by_test (nat_le price u.price) refl
  where
    before : (v : BidUnit) → nat_le price u.price ≡ false → nat_le price v.price ≡ true → precedes v u ≡ true
    before v lower reaches = grind (arith, nat_tests)

    by_test : (b : Bool) → nat_le price u.price ≡ b → b ≡ true
    by_test true is = refl
    by_test false lower =
        let many : units_at units price ≤ count_by (λ v. precedes v u) units = count_le (λ v. nat_le price v.price) (λ v. precedes v u) units (λ v is reaches. before v lower reaches) in
        let few = ltb-true (count_by (λ v. precedes v u) units) rooms winning in
        absurd (omega arith)

-- the rooms that an agent does not win go to others' units at the price or more
rooms_shared : (rooms : ℕ) (units : List BidUnit) (price agent : ℕ) → sold_units rooms units ≡ min rooms (length units) → rooms ≤ units_at units price →
    rooms ≤ winning rooms units agent + units_at (filter (λ u. not (u.agent == agent)) units) price
rooms_shared rooms units price agent sold enough =
    let most = count_by-le-length (λ u. nat_le price u.price) units in
    let parts = count-parts (λ u. u.agent == agent) (wins rooms units) units in
    let own = count-filter (λ u. u.agent == agent) (wins rooms units) units in
    let others = count_le (wins rooms units) (λ u. nat_le price u.price) (filter (λ u. not (u.agent == agent)) units) (λ u is wins_it. winner_reaches rooms units price enough u wins_it) in
    omega (arith, most, parts, own, others, sold)

-- ---- what a bid changes

abbrev pub bid_entry : ℕ → List Point → ℕ → ℕ → List Trade → Entry
bid_entry agent points bought sold trades = record { caller = agent; call = Bid points; reply = Taken bought sold; trades = trades }

none_of_others : (agent : ℕ) (units : List BidUnit) → Each (λ u. u.agent ≡ agent) units → filter (λ u. not (u.agent == agent)) units ≡ []
none_of_others agent [] h = refl
none_of_others agent (u ∷ units) h = let same : (u.agent == agent) ≡ true = rw (h.0) (number_same agent) in rw (same, none_of_others agent units h.1) refl

none_of_own_bid : (agent a : ℕ) (past : List Entry) → (agent == a) ≡ true → filter (λ u. not (u.agent == agent)) (units_of_last (last_bid a past)) ≡ []
none_of_own_bid agent a past same =
    none_of_others agent (units_of_last (last_bid a past))
    (last_units (λ u. u.agent ≡ agent) a (length past) (last_bid a past) (last_is a past) (λ u own lt. own ∙ sym (number_is agent a same)))

-- the others' units stay
others_stay : (past : List Entry) (agent : ℕ) (points : List Point) (bought sold : ℕ) (trades : List Trade) →
    filter (λ u. not (u.agent == agent)) (bid_units (bid_entry agent points bought sold trades ∷ past)) ≡ filter (λ u. not (u.agent == agent)) (bid_units past)
others_stay past agent points bought sold trades =
    filter-flat_map of_others (λ a. units_of_last (last_bid a (e ∷ past))) agents
    ∙ agents_joined (λ a. filter of_others (units_of_last (last_bid a (e ∷ past)))) (λ a. filter of_others (units_of_last (last_bid a past))) (λ a le. one (agent == a) a refl)
    ∙ sym (filter-flat_map of_others (λ a. units_of_last (last_bid a past)) agents)
  where
    e : Entry
    e = bid_entry agent points bought sold trades

    of_others : BidUnit → Bool
    of_others u = not (u.agent == agent)

    one : (b : Bool) (a : ℕ) → (agent == a) ≡ b → filter of_others (units_of_last (last_bid a (e ∷ past))) ≡ filter of_others (units_of_last (last_bid a past))
    one true a same = none_of_own_bid agent a (e ∷ past) same ∙ sym (none_of_own_bid agent a past same)
    one false a differs = rw differs refl

-- a caller that is not an agent changes nothing
strangers_bid : (past : List Entry) (agent : ℕ) (points : List Point) (bought sold : ℕ) (trades : List Trade) → 8 ≤ agent → bid_units (bid_entry agent points bought sold trades ∷ past) ≡ bid_units past
strangers_bid past agent points bought sold trades le =
    agents_joined (λ a. units_of_last (last_bid a (bid_entry agent points bought sold trades ∷ past))) (λ a. units_of_last (last_bid a past))
    (λ a within. let differs : (agent == a) ≡ false = numbers_differ agent a (λ same. absurd (omega arith)) in rw differs refl)

-- after a bid that is not below the quote the price is reached
module _ (rooms : ℕ) (live : Bool) (past : List Entry) (agent : ℕ) (points : List Point) (bought sold : ℕ) (trades : List Trade) (still_open : is_closed past ≡ false) where
  abbrev rules : Rules
  rules = HotelRules rooms live

  abbrev next : List Entry
  next = bid_entry agent points bought sold trades ∷ past

  abbrev price : ℕ
  price = published rooms live past

  others_same : filter (λ u. not (u.agent == agent)) (stand rules next) ≡ filter (λ u. not (u.agent == agent)) (stand rules past)
  others_same = rw (open_stand rooms live next still_open, open_stand rooms live past still_open) (others_stay past agent points bought sold trades)

  own_new : agent ≤ 7 → filter (λ u. u.agent == agent) (stand rules next) ≡ units_of (record { agent = agent; position = length past; points = points })
  own_new le =
      own_by_bid rules past (bid_entry agent points bought sold trades) agent points le still_open (number_same agent) refl
      ∙ without_nothing (units_of (record { agent = agent; position = length past; points = points }))

  agent_keeps : agent ≤ 7 → nat_lt (offered points (quote_to_beat rooms live past)) (need rooms live past agent) ≡ false → rooms ≤ units_at (stand rules past) price → rooms ≤ units_at (stand rules next) price
  agent_keeps le beats enough =
      let parts = count-parts (λ u. u.agent == agent) (λ u. nat_le price u.price) (stand rules next) in
      let own : units_at (filter (λ u. u.agent == agent) (stand rules next)) price ≡ offered points price = rw (own_new le) (units_offered agent (length past) 0 price points) in
      let others : units_at (filter (λ u. not (u.agent == agent)) (stand rules next)) price ≡ units_at (filter (λ u. not (u.agent == agent)) (stand rules past)) price = ap (λ (us : List BidUnit). units_at us price) others_same in
      let shared = rooms_shared rooms (stand rules past) price agent (sells_what_stands rooms live past) enough in
      let beating = ltb-false (offered points (price + 1)) (max 1 (winning rooms (stand rules past) agent)) beats in
      let below = offered_below price points in
      omega (arith, parts, own, others, shared, beating, below)

  stranger_keeps : 8 ≤ agent → rooms ≤ units_at (stand rules past) price → rooms ≤ units_at (stand rules next) price
  stranger_keeps le enough =
      subst (λ (us : List BidUnit). rooms ≤ units_at us price)
      (open_stand rooms live past still_open ∙ sym (strangers_bid past agent points bought sold trades le) ∙ sym (open_stand rooms live next still_open)) enough

  pub bid_keeps : nat_lt (offered points (quote_to_beat rooms live past)) (need rooms live past agent) ≡ false → IsReached rooms (stand rules past) price → IsReached rooms (stand rules next) price
  bid_keeps beats (inl zero_price) = inl zero_price
  bid_keeps beats (inr enough) = inr (by_agent (cases_lt agent 8))
    where
      by_agent : (agent < 8) ⊎ (8 ≤ agent) → rooms ≤ units_at (stand rules next) price
      by_agent (inl lt) = agent_keeps (omega arith) beats enough
      by_agent (inr le) = stranger_keeps le enough

-- The standing units of one agent, and what one more entry changes in them.
use Rattle.std.proofs.Common.{◌≡◌, ℕ, ◌≤◌, Bool, true, false, cond, List, [], ◌∷◌, ◌++◌, length, map, refl, sym, ap, ◌∙◌, Option, Some, not, ◌&&◌, ◌||◌, ◌==◌, filter, if◌then◌else◌, flat_map}
use Rattle.std.specs.List.{AllByRecursion}
use Rattle.std.proofs.lemmas.List.Folds.{flat_map-map}
use Rattle.auction_rules.specs.{Point, Bid, agents, units_of, among, without, Entry, is_admission, is_closed, last_bid, bid_units, units_of_last, gone_by, gone, stand}
use Rattle.auction_rules.specs.declared.units.Placed.{Placed}
use Rattle.auction_rules.specs.declared.units.BidUnit.{BidUnit}
use Rattle.auction_rules.specs.declared.rules.Rules.{Rules}
use Rattle.auction_rules.proofs.Agents.{number_same, another, agents_within, agents_pick, agents_joined}
use Rattle.auction_rules.proofs.Lists.{filter-filter, filter-flat_map, flat_map_alike, filter_all}
use Rattle.auction_rules.proofs.Standing.{Each, each-append, each-filter, each-weaker, last_is, last_units, number_is, among-append, new_not_gone}

-- ---- the owner of a standing unit

bids_owned : (past : List Entry) (who : List ℕ) → AllByRecursion (λ a. a ≤ 7) who → Each (λ u. u.agent ≤ 7) (flat_map units_of_last (map (λ a. last_bid a past) who))
bids_owned past [] h = tt
bids_owned past (a ∷ who) h =
    each-append (λ (u : BidUnit). u.agent ≤ 7) (units_of_last (last_bid a past)) (flat_map units_of_last (map (λ (b : ℕ). last_bid b past) who))
    (last_units (λ (u : BidUnit). u.agent ≤ 7) a (length past) (last_bid a past) (last_is a past) (λ u own lt. rw own h.0)) (bids_owned past who h.1)

-- each standing unit is an agent's
pub stand_owned : (rules : Rules) (past : List Entry) → Each (λ u. u.agent ≤ 7) (stand rules past)
stand_owned rules past = by_test (is_closed past)
  where
    by_test : (b : Bool) → Each (λ (x : BidUnit). x.agent ≤ 7) (cond b [] (without (bid_units past) (gone rules past)))
    by_test true = tt
    by_test false = each-filter (λ (x : BidUnit). x.agent ≤ 7) (λ (x : BidUnit). not (among x (gone rules past))) (bid_units past) (bids_owned past agents agents_within)

-- ---- one agent's units

-- either all units of one agent are found, or none is
all_own : (agent a : ℕ) (units : List BidUnit) → (agent == a) ≡ true → Each (λ u. u.agent ≡ a) units → filter (λ u. u.agent == agent) units ≡ units
all_own agent a [] same h = refl
all_own agent a (u ∷ units) same h =
    let is : (u.agent == agent) ≡ true = rw (h.0 ∙ sym (number_is agent a same)) (number_same agent) in rw (is, all_own agent a units same h.1) refl

none_own : (agent a : ℕ) (units : List BidUnit) → (agent == a) ≡ false → Each (λ u. u.agent ≡ a) units → filter (λ u. u.agent == agent) units ≡ []
none_own agent a [] differs h = refl
none_own agent a (u ∷ units) differs h = let is : (u.agent == agent) ≡ false = another agent a u.agent h.0 differs in rw (is, none_own agent a units differs h.1) refl

-- an agent's standing units
pub own_units : (rules : Rules) (past : List Entry) (agent : ℕ) → agent ≤ 7 → is_closed past ≡ false →
    filter (λ u. u.agent == agent) (stand rules past) ≡ without (units_of_last (last_bid agent past)) (gone rules past)
own_units rules past agent le still_open =
    ap (λ (b : Bool). filter own (cond b [] (without (bid_units past) (gone rules past)))) still_open
    ∙ filter-filter own (λ u. not (among u (gone rules past))) (bid_units past)
    ∙ ap (λ (us : List BidUnit). without us (gone rules past))
    (ap (filter own) (flat_map-map units_of_last (λ (a : ℕ). last_bid a past) agents)
    ∙ filter-flat_map own (λ (a : ℕ). units_of_last (last_bid a past)) agents
    ∙ flat_map_alike _ (λ (a : ℕ). if agent == a then units_of_last (last_bid agent past) else []) agents (λ a. one (agent == a) a refl)
    ∙ agents_pick agent (units_of_last (last_bid agent past)) le)
  where
    own : BidUnit → Bool
    own u = u.agent == agent

    agents_own : (a : ℕ) → Each (λ u. u.agent ≡ a) (units_of_last (last_bid a past))
    agents_own a = last_units (λ u. u.agent ≡ a) a (length past) (last_bid a past) (last_is a past) (λ u is lt. is)

    one : (b : Bool) (a : ℕ) → (agent == a) ≡ b → filter (λ u. u.agent == agent) (units_of_last (last_bid a past)) ≡ cond b (units_of_last (last_bid agent past)) []
    one true a same =
        all_own agent a (units_of_last (last_bid a past)) same (agents_own a) ∙ ap (λ (x : ℕ). units_of_last (last_bid x past)) (sym (number_is agent a same))
    one false a differs = none_own agent a (units_of_last (last_bid a past)) differs (agents_own a)

-- the units of all agents are all that stand
pub units_joined : (rules : Rules) (past : List Entry) → flat_map (λ a. filter (λ u. u.agent == a) (stand rules past)) agents ≡ stand rules past
units_joined rules past = by_test (is_closed past) refl
  where
    by_test : (b : Bool) → is_closed past ≡ b → flat_map (λ a. filter (λ u. u.agent == a) (stand rules past)) agents ≡ stand rules past
    by_test true closed = ap (λ (b : Bool). flat_map (λ a. filter (λ u. u.agent == a) (cond b [] (without (bid_units past) (gone rules past)))) agents) closed ∙ sym (ap (λ (b : Bool). cond b [] (without (bid_units past) (gone rules past))) closed)
    by_test false still_open =
        agents_joined (λ a. filter (λ u. u.agent == a) (stand rules past)) (λ a. without (units_of_last (last_bid a past)) (gone rules past)) (λ a le. own_units rules past a le still_open)
        ∙ sym (filter-flat_map (λ u. not (among u (gone rules past))) (λ (a : ℕ). units_of_last (last_bid a past)) agents)
        ∙ ap (λ (us : List BidUnit). without us (gone rules past)) (sym (flat_map-map units_of_last (λ (a : ℕ). last_bid a past) agents))
        ∙ sym (ap (λ (b : Bool). cond b [] (without (bid_units past) (gone rules past))) still_open)

-- ---- one more entry

-- what an entry trades away
abbrev pub gone_now : Rules → List Entry → Entry → List BidUnit
gone_now rules past e = if is_admission e.reply then gone_by rules past (stand rules past) e.caller e.call else []

pub without-append : (us xs ys : List BidUnit) → without us (xs ++ ys) ≡ without (without us ys) xs
without-append [] xs ys = refl
without-append (u ∷ us) xs ys = rw (among-append u xs ys) (by_tests (among u xs) (among u ys) refl (without-append us xs ys))
  where
    by_tests : (a b : Bool) → among u xs ≡ a → without us (xs ++ ys) ≡ without (without us ys) xs →
        cond (not (a || b)) (u ∷ without us (xs ++ ys)) (without us (xs ++ ys)) ≡ without (cond (not b) (u ∷ without us ys) (without us ys)) xs
    by_tests true true h ih = ih
    by_tests true false h ih = rw h ih
    by_tests false true h ih = ih
    by_tests false false h ih = rw h (ap (λ (vs : List BidUnit). u ∷ vs) ih)

-- nothing is taken away
pub without_nothing : (us : List BidUnit) → without us [] ≡ us
without_nothing [] = refl
without_nothing (u ∷ us) = ap (λ (vs : List BidUnit). u ∷ vs) (without_nothing us)

-- an agent keeps what an entry of another, or a refused one, does not trade away
pub own_by_other : (rules : Rules) (past : List Entry) (e : Entry) (agent : ℕ) → agent ≤ 7 → is_closed past ≡ false → is_closed (e ∷ past) ≡ false →
    (is_admission e.reply && (e.caller == agent)) ≡ false →
    filter (λ u. u.agent == agent) (stand rules (e ∷ past)) ≡ without (filter (λ u. u.agent == agent) (stand rules past)) (gone_now rules past e)
own_by_other rules past e agent le still_open stays_open other =
    own_units rules (e ∷ past) agent le stays_open
    ∙ ap (λ (bid : Option Placed). without (units_of_last bid) (gone_now rules past e ++ gone rules past)) last
    ∙ without-append (units_of_last (last_bid agent past)) (gone_now rules past e) (gone rules past)
    ∙ ap (λ (us : List BidUnit). without us (gone_now rules past e)) (sym (own_units rules past agent le still_open))
  where
    last : last_bid agent (e ∷ past) ≡ last_bid agent past
    last = rw other refl

-- an agent that bids has what its bid does not trade away at once
pub own_by_bid : (rules : Rules) (past : List Entry) (e : Entry) (agent : ℕ) (points : List Point) → agent ≤ 7 → is_closed (e ∷ past) ≡ false →
    (is_admission e.reply && (e.caller == agent)) ≡ true → e.call ≡ Bid points →
    filter (λ u. u.agent == agent) (stand rules (e ∷ past)) ≡ without (units_of (record { agent = agent; position = length past; points = points })) (gone_now rules past e)
own_by_bid rules past e agent points le stays_open own call =
    own_units rules (e ∷ past) agent le stays_open
    ∙ ap (λ (bid : Option Placed). without (units_of_last bid) (gone_now rules past e ++ gone rules past)) last
    ∙ without-append new (gone_now rules past e) (gone rules past)
    ∙ ap (λ (us : List BidUnit). without us (gone_now rules past e)) whole
  where
    new : List BidUnit
    new = units_of (record { agent = agent; position = length past; points = points })

    caller : e.caller ≡ agent
    caller = own_caller (is_admission e.reply) own
      where
        own_caller : (a : Bool) → (a && (e.caller == agent)) ≡ true → e.caller ≡ agent
        own_caller true h = number_is e.caller agent h
        own_caller false h = absurd cc

    last : last_bid agent (e ∷ past) ≡ Some (record { agent = agent; position = length past; points = points })
    last = rw (own, call, caller) refl

    whole : without new (gone rules past) ≡ new
    whole =
        filter_all (λ u. not (among u (gone rules past))) new
        (each-weaker (λ u. among u (gone rules past) ≡ false) (λ u. not (among u (gone rules past)) ≡ true) new (λ u h. ap not h) (new_not_gone rules past agent points))

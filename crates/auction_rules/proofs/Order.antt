-- The last bids in the order of their positions, and how one entry changes it.
use Rattle.std.proofs.Common.{◌≡◌, ℕ, zero, suc, ◌+◌, ◌<◌, ◌≤◌, Bool, true, false, cond, List, [], ◌∷◌, ◌++◌, length, refl, sym, ap, ◌∙◌, arith, append-nil, add-zero, Option, Some, None, not, ◌==◌, filter, if◌then◌else◌, filter_map, flat_map, option_to_list}
use Rattle.std.specs.List.{AllByRecursion, cons_option, range_with_len}
use Rattle.std.proofs.lemmas.Bool.Decides.{nat_tests}
use Rattle.std.proofs.lemmas.List.Elements.{filter-append}
use Rattle.std.proofs.lemmas.List.Concat.{flat_map-append}
use Rattle.auction_rules.specs.{agents, units_of, Entry, last_bid, units_of_last, by_position, placed_bids}
use Rattle.auction_rules.specs.declared.units.Placed.{Placed}
use Rattle.auction_rules.specs.declared.units.BidUnit.{BidUnit}
use Rattle.auction_rules.proofs.Agents.{number_same, numbers_differ, another, agents_pick}
use Rattle.auction_rules.proofs.Standing.{Each, IsBidOf, last_is, number_is}
use Rattle.auction_rules.proofs.Lists.{filter-filter, filter-flat_map, flat_map_alike, filter-filter_map, all-filter, all-append}

abbrev pub made_at : ℕ → Placed → Bool
made_at position bid = bid.position == position

-- a bid of another agent
abbrev pub of_others : ℕ → Placed → Bool
of_others agent bid = not (bid.agent == agent)

-- ---- one position more

range_more : (from n : ℕ) → range_with_len from (suc n) ≡ range_with_len from n ++ (from + n) ∷ []
range_more from zero = ap (λ (k : ℕ). k ∷ []) (sym (add-zero from))
range_more from (suc n) = ap (λ (ks : List ℕ). from ∷ ks) (range_more (from + 1) n ∙ ap (λ (k : ℕ). range_with_len (from + 1) n ++ k ∷ []) (omega arith))

-- the positions below a number, with that number
pub below_more : (n : ℕ) → range_with_len 0 (suc n) ≡ range_with_len 0 n ++ n ∷ []
below_more n = range_more 0 n ∙ ap (λ (k : ℕ). range_with_len 0 n ++ k ∷ []) (omega arith)

pub by_position_more : (bids : List Placed) (n : ℕ) → by_position bids (suc n) ≡ by_position bids n ++ filter (made_at n) bids
by_position_more bids n =
    ap (flat_map (λ (position : ℕ). filter (made_at position) bids)) (below_more n)
    ∙ flat_map-append (λ (position : ℕ). filter (made_at position) bids) (range_with_len 0 n) (n ∷ [])
    ∙ ap (λ (more : List Placed). by_position bids n ++ more) (append-nil (filter (made_at n) bids))

-- bids that are alike below a position
by_position_alike : (xs ys : List Placed) (n : ℕ) → ((position : ℕ) → position < n → filter (made_at position) xs ≡ filter (made_at position) ys) → by_position xs n ≡ by_position ys n
by_position_alike xs ys zero h = refl
by_position_alike xs ys (suc n) h =
    by_position_more xs n
    ∙ rw (by_position_alike xs ys n (λ position lt. h position (omega arith)), h n (omega arith)) refl
    ∙ sym (by_position_more ys n)

by_position_filter : (test : Placed → Bool) (bids : List Placed) (n : ℕ) → by_position (filter test bids) n ≡ filter test (by_position bids n)
by_position_filter test bids n =
    flat_map_alike (λ (position : ℕ). filter (made_at position) (filter test bids)) (λ (position : ℕ). filter test (filter (made_at position) bids)) (range_with_len 0 n)
    (λ position. filter-filter (made_at position) test bids)
    ∙ sym (filter-flat_map test (λ (position : ℕ). filter (made_at position) bids) (range_with_len 0 n))

-- ---- the bids that an agent's new one, or its withdrawal, leaves

-- what the agents have placed, where one of them has something new
abbrev replaced : ℕ → Option Placed → (ℕ → Option Placed) → ℕ → Option Placed
replaced agent new old a = if agent == a then new else old a

-- no bid of the past was made at a position after it
none_at : (n agent : ℕ) (bid : Option Placed) → IsBidOf agent n bid → (position : ℕ) → n ≤ position → filter (made_at position) (option_to_list bid) ≡ []
none_at n agent None h position le = refl
none_at n agent (Some bid) h position le = rw (numbers_differ bid.position position (λ same. omega (arith, h.1, same))) refl

-- below its position a new bid is not there, and what is there is of others
one_below : (agent a n : ℕ) (new old : Option Placed) → IsBidOf a n old → ((position : ℕ) → position < n → filter (made_at position) (option_to_list new) ≡ []) → (position : ℕ) → position < n →
    filter (made_at position) (option_to_list (if agent == a then new else old)) ≡ filter (of_others agent) (filter (made_at position) (option_to_list old))
one_below agent a n new old h at position lt = by_test (agent == a) refl old h
  where
    by_test : (b : Bool) → (agent == a) ≡ b → (bid : Option Placed) → IsBidOf a n bid →
        filter (made_at position) (option_to_list (cond b new bid)) ≡ filter (of_others agent) (filter (made_at position) (option_to_list bid))
    by_test true same None k = at position lt
    by_test true same (Some bid) k = at position lt ∙ sym (dropped (made_at position bid))
      where
        own : (bid.agent == agent) ≡ true
        own = rw (k.0, number_is agent a same) (number_same a)

        dropped : (c : Bool) → filter (of_others agent) (cond c (bid ∷ []) []) ≡ []
        dropped true = rw own refl
        dropped false = refl
    by_test false differ None k = refl
    by_test false differ (Some bid) k = kept (made_at position bid)
      where
        other : (bid.agent == agent) ≡ false
        other = another agent a bid.agent k.0 differ

        kept : (c : Bool) → cond c (bid ∷ []) [] ≡ filter (of_others agent) (cond c (bid ∷ []) [])
        kept true = rw other refl
        kept false = refl

placed_below : (agent : ℕ) (new : Option Placed) (past : List Entry) → ((position : ℕ) → position < length past → filter (made_at position) (option_to_list new) ≡ []) →
    (position : ℕ) → position < length past →
    filter (made_at position) (filter_map (replaced agent new (λ a. last_bid a past)) agents) ≡ filter (made_at position) (filter (of_others agent) (placed_bids past))
placed_below agent new past at position lt =
    filter-filter_map (made_at position) (replaced agent new (λ a. last_bid a past)) agents
    ∙ flat_map_alike _ (λ (a : ℕ). filter (of_others agent) (filter (made_at position) (option_to_list (last_bid a past)))) agents
    (λ a. one_below agent a (length past) new (last_bid a past) (last_is a past) at position lt)
    ∙ sym (filter-flat_map (of_others agent) (λ (a : ℕ). filter (made_at position) (option_to_list (last_bid a past))) agents)
    ∙ ap (filter (of_others agent)) (sym (filter-filter_map (made_at position) (λ (a : ℕ). last_bid a past) agents))
    ∙ filter-filter (of_others agent) (made_at position) (placed_bids past)

placed_here : (agent : ℕ) (new : Option Placed) (past : List Entry) → agent ≤ 7 → filter (made_at (length past)) (option_to_list new) ≡ option_to_list new →
    filter (made_at (length past)) (filter_map (replaced agent new (λ a. last_bid a past)) agents) ≡ option_to_list new
placed_here agent new past le here =
    filter-filter_map (made_at (length past)) (replaced agent new (λ a. last_bid a past)) agents
    ∙ flat_map_alike _ (λ (a : ℕ). if agent == a then option_to_list new else []) agents (λ a. one (agent == a) a)
    ∙ agents_pick agent (option_to_list new) le
  where
    one : (b : Bool) (a : ℕ) → filter (made_at (length past)) (option_to_list (cond b new (last_bid a past))) ≡ cond b (option_to_list new) []
    one true a = here
    one false a = none_at (length past) a (last_bid a past) (last_is a past) (length past) (omega arith)

-- the others' bids keep their order, and the new one is the last
pub replaced_order : (agent : ℕ) (new : Option Placed) (past : List Entry) → agent ≤ 7 →
    ((position : ℕ) → position < length past → filter (made_at position) (option_to_list new) ≡ []) → filter (made_at (length past)) (option_to_list new) ≡ option_to_list new →
    by_position (filter_map (replaced agent new (λ a. last_bid a past)) agents) (suc (length past)) ≡ filter (of_others agent) (by_position (placed_bids past) (length past)) ++ option_to_list new
replaced_order agent new past le below here =
    by_position_more (filter_map (replaced agent new (λ a. last_bid a past)) agents) (length past)
    ∙ rw (placed_here agent new past le here) refl
    ∙ ap (λ (bids : List Placed). bids ++ option_to_list new)
    (by_position_alike _ (filter (of_others agent) (placed_bids past)) (length past) (placed_below agent new past below)
    ∙ by_position_filter (of_others agent) (placed_bids past) (length past))

-- no bid of a past was made after it
none_here : (past : List Entry) → filter (made_at (length past)) (placed_bids past) ≡ []
none_here past =
    filter-filter_map (made_at (length past)) (λ (a : ℕ). last_bid a past) agents
    ∙ flat_map_alike _ (λ (a : ℕ). []) agents (λ a. none_at (length past) a (last_bid a past) (last_is a past) (length past) (omega arith))

-- the order of the bids that a new bid looks at
pub looked_order : (agent : ℕ) (new : Placed) (past : List Entry) → new.position ≡ length past →
    by_position (filter (of_others agent) (placed_bids past) ++ new ∷ []) (suc (length past)) ≡ filter (of_others agent) (by_position (placed_bids past) (length past)) ++ new ∷ []
looked_order agent new past here =
    by_position_more (filter (of_others agent) (placed_bids past) ++ new ∷ []) (length past)
    ∙ rw (at) refl
    ∙ ap (λ (bids : List Placed). bids ++ new ∷ [])
    (by_position_alike _ (filter (of_others agent) (placed_bids past)) (length past) below ∙ by_position_filter (of_others agent) (placed_bids past) (length past))
  where
    is_here : made_at (length past) new ≡ true
    is_here = rw here (number_same (length past))

    at : filter (made_at (length past)) (filter (of_others agent) (placed_bids past) ++ new ∷ []) ≡ new ∷ []
    at =
        filter-append (made_at (length past)) (filter (of_others agent) (placed_bids past)) (new ∷ [])
        ∙ rw (filter-filter (made_at (length past)) (of_others agent) (placed_bids past), none_here past, is_here) refl

    below : (position : ℕ) → position < length past →
        filter (made_at position) (filter (of_others agent) (placed_bids past) ++ new ∷ []) ≡ filter (made_at position) (filter (of_others agent) (placed_bids past))
    below position lt =
        filter-append (made_at position) (filter (of_others agent) (placed_bids past)) (new ∷ [])
        ∙ rw (numbers_differ new.position position (λ same. omega (arith, here, same))) refl
        ∙ append-nil (filter (made_at position) (filter (of_others agent) (placed_bids past)))

-- a past's own order is the same up to one position more
pub order_more : (past : List Entry) → by_position (placed_bids past) (suc (length past)) ≡ by_position (placed_bids past) (length past)
order_more past =
    by_position_more (placed_bids past) (length past)
    ∙ ap (λ (more : List Placed). by_position (placed_bids past) (length past) ++ more)
    (none_here past)
    ∙ append-nil (by_position (placed_bids past) (length past))

-- ---- what all bids have

placed_one : (P : BidUnit → Type 0) (bid : Option Placed) (bids : List Placed) → Each P (units_of_last bid) → AllByRecursion (λ (b : Placed). Each P (units_of b)) bids →
    AllByRecursion (λ (b : Placed). Each P (units_of b)) (cons_option bid bids)
placed_one P None bids h rest = rest
placed_one P (Some bid) bids h rest = (h, rest)

placed_all : (P : BidUnit → Type 0) (f : ℕ → Option Placed) (who : List ℕ) → AllByRecursion (λ a. Each P (units_of_last (f a))) who →
    AllByRecursion (λ (bid : Placed). Each P (units_of bid)) (filter_map f who)
placed_all P f [] h = tt
placed_all P f (a ∷ who) h = placed_one P (f a) (filter_map f who) h.0 (placed_all P f who h.1)

-- what the units of each agent's last bid have, so have those of all bids in order
pub ordered_all : (P : BidUnit → Type 0) (f : ℕ → Option Placed) (n : ℕ) → ((a : ℕ) → a ≤ 7 → Each P (units_of_last (f a))) →
    AllByRecursion (λ (bid : Placed). Each P (units_of bid)) (by_position (filter_map f agents) n)
ordered_all P f n h = all_of (range_with_len 0 n)
  where
    all : AllByRecursion (λ (bid : Placed). Each P (units_of bid)) (filter_map f agents)
    all = placed_all P f agents
        (h 0 (omega arith), (h 1 (omega arith), (h 2 (omega arith), (h 3 (omega arith), (h 4 (omega arith), (h 5 (omega arith), (h 6 (omega arith), (h 7 (omega arith), tt))))))))

    all_of : (positions : List ℕ) → AllByRecursion (λ (bid : Placed). Each P (units_of bid)) (flat_map (λ position. filter (made_at position) (filter_map f agents)) positions)
    all_of [] = tt
    all_of (position ∷ positions) =
        all-append (λ (bid : Placed). Each P (units_of bid)) (filter (made_at position) (filter_map f agents)) _ (all-filter (λ (bid : Placed). Each P (units_of bid)) (made_at position) (filter_map f agents) all) (all_of positions)

-- ---- each agent has at most one bid

by_position_none : (n : ℕ) → by_position [] n ≡ []
by_position_none zero = refl
by_position_none (suc n) = by_position_more [] n ∙ append-nil (by_position [] n) ∙ by_position_none n

not_yet : (bid : Placed) (n : ℕ) → n ≤ bid.position → by_position (bid ∷ []) n ≡ []
not_yet bid zero le = refl
not_yet bid (suc n) le = by_position_more (bid ∷ []) n ∙ rw (numbers_differ bid.position n (λ same. omega arith), not_yet bid n (omega arith)) refl

by_position_one : (bid : Placed) (n : ℕ) → bid.position < n → by_position (bid ∷ []) n ≡ bid ∷ []
by_position_one bid zero lt = absurd (omega arith)
by_position_one bid (suc n) lt = by_position_more (bid ∷ []) n ∙ by_test (bid.position == n) refl (λ before. by_position_one bid n before)
  where
    by_test : (b : Bool) → (bid.position == n) ≡ b → (bid.position < n → by_position (bid ∷ []) n ≡ bid ∷ []) → by_position (bid ∷ []) n ++ cond b (bid ∷ []) [] ≡ bid ∷ []
    by_test true h before = ap (λ (bids : List Placed). bids ++ bid ∷ []) (not_yet bid n (let is = number_is bid.position n h in omega (arith, is)))
    by_test false h before = append-nil (by_position (bid ∷ []) n) ∙ before (grind (arith, nat_tests))

by_position_option : (agent n : ℕ) (bid : Option Placed) → IsBidOf agent n bid → by_position (option_to_list bid) n ≡ option_to_list bid
by_position_option agent n None h = by_position_none n
by_position_option agent n (Some bid) h = by_position_one bid n h.1

-- a bid of the agent
abbrev pub made_by : ℕ → Placed → Bool
made_by agent bid = bid.agent == agent

-- an agent's bid in the order is its last one, if it has one
pub own_bid : (agent : ℕ) (past : List Entry) → agent ≤ 7 → filter (made_by agent) (by_position (placed_bids past) (length past)) ≡ option_to_list (last_bid agent past)
own_bid agent past le =
    sym (by_position_filter (made_by agent) (placed_bids past) (length past))
    ∙ ap (λ (bids : List Placed). by_position bids (length past))
    (filter-filter_map (made_by agent) (λ (a : ℕ). last_bid a past) agents
    ∙ flat_map_alike _ (λ (a : ℕ). if agent == a then option_to_list (last_bid agent past) else []) agents (λ a. one (agent == a) a refl)
    ∙ agents_pick agent (option_to_list (last_bid agent past)) le)
    ∙ by_position_option agent (length past) (last_bid agent past) (last_is agent past)
  where
    own : (a : ℕ) (bid : Option Placed) → IsBidOf a (length past) bid → agent ≡ a → filter (made_by agent) (option_to_list bid) ≡ option_to_list bid
    own a None h same = refl
    own a (Some bid) h same = let is : (bid.agent == agent) ≡ true = rw (h.0, same) (number_same a) in rw is refl

    other : (a : ℕ) (bid : Option Placed) → IsBidOf a (length past) bid → (agent == a) ≡ false → filter (made_by agent) (option_to_list bid) ≡ []
    other a None h differ = refl
    other a (Some bid) h differ = let is : (bid.agent == agent) ≡ false = another agent a bid.agent h.0 differ in rw is refl

    one : (b : Bool) (a : ℕ) → (agent == a) ≡ b → filter (made_by agent) (option_to_list (last_bid a past)) ≡ cond b (option_to_list (last_bid agent past)) []
    one true a same = let is = number_is agent a same in own a (last_bid a past) (last_is a past) is ∙ ap (λ (x : ℕ). option_to_list (last_bid x past)) (sym is)
    one false a differ = other a (last_bid a past) (last_is a past) differ

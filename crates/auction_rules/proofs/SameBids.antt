-- The agents' current bids are their last bids, in the order of their positions.
use Rattle.std.proofs.Common.{◌≡◌, ℕ, suc, ◌<◌, ◌≤◌, Bool, true, false, cond, List, [], ◌∷◌, ◌++◌, length, refl, sym, ap, ◌∙◌, arith, append-nil, Option, Some, None, ◌&&◌, ◌==◌, if◌then◌else◌, filter, filter_map, flat_map, option_to_list}
use Rattle.std.specs.List.{AllByRecursion}
use Rattle.auction_rules.specs.{Call, agents, Entry, is_admission, bids_found, current_bids, bid_after, last_bid, placed_bids, by_position, left_of, left_points, points_among, points_of_agent}
use Rattle.tac_base.specs.declared.calls.Call.TheVariants.{Bid, Withdraw, Own as OwnCall, Update, Publish, Close}
use Rattle.auction_rules.specs.declared.units.Placed.{Placed}
use Rattle.auction_rules.specs.declared.units.BidUnit.{BidUnit}
use Rattle.auction_rules.proofs.Agents.{number_same, numbers_differ}
use Rattle.auction_rules.proofs.Idle.{either_same}
use Rattle.auction_rules.proofs.Order.{of_others, made_by, replaced_order, order_more, own_bid}

-- whether agents alone may make the call
abbrev pub is_agents : Call → Bool
is_agents (Bid points) = true
is_agents Withdraw = true
is_agents OwnCall = true
is_agents call = false

-- an agent made each admitted call of this kind
abbrev pub ByAgents : List Entry → Type 0
ByAgents past = AllByRecursion (λ e. is_admission e.reply ≡ true → is_agents e.call ≡ true → e.caller ≤ 7) past

pub current_same : (past : List Entry) → ByAgents past → current_bids past ≡ by_position (placed_bids past) (length past)
current_same [] h = refl
current_same (e ∷ past) h = by_reply (is_admission e.reply) refl (current_same past h.1)
  where
    ordered : List Placed
    ordered = by_position (placed_bids past) (length past)

    -- what the agents have placed after the entry
    placed : Bool → Call → List Placed
    placed admitted call =
        filter_map (λ a. if admitted && (e.caller == a) then bid_after e.caller (length past) call (last_bid a past) else last_bid a past) agents

    unchanged : ordered ≡ by_position (filter_map (λ a. cond (e.caller == a) (last_bid a past) (last_bid a past)) agents) (suc (length past))
    unchanged = sym ((λ i. by_position (filter_map (λ a. either_same (e.caller == a) (last_bid a past) i) agents) (suc (length past))) ∙ order_more past)

    by_call : (call : Call) → (is_agents call ≡ true → e.caller ≤ 7) → bids_found ordered (length past) e.caller call ≡ by_position (placed true call) (suc (length past))
    by_call (Bid points) agent =
        sym (replaced_order e.caller (Some (record { agent = e.caller; position = length past; points = points })) past (agent refl)
        (λ position lt. rw (numbers_differ (length past) position (λ same. omega (arith, lt, same))) refl) (rw (number_same (length past)) refl))
    by_call Withdraw agent = sym (replaced_order e.caller None past (agent refl) (λ position lt. refl) refl ∙ append-nil (filter (of_others e.caller) ordered))
    by_call OwnCall agent = unchanged
    by_call (Update tick draw) agent = unchanged
    by_call Publish agent = unchanged
    by_call Close agent = unchanged

    by_reply : (b : Bool) → is_admission e.reply ≡ b → current_bids past ≡ ordered →
        cond b (bids_found (current_bids past) (length past) e.caller e.call) (current_bids past) ≡ by_position (placed (is_admission e.reply) e.call) (suc (length past))
    by_reply true admitted ih =
        ap (λ (bids : List Placed). bids_found bids (length past) e.caller e.call) ih
        ∙ by_call e.call (h.0 admitted)
        ∙ ap (λ (b : Bool). by_position (placed b e.call) (suc (length past))) (sym admitted)
    by_reply false refused ih = ih ∙ sym (order_more past) ∙ ap (λ (b : Bool). by_position (placed b e.call) (suc (length past))) (sym refused)

-- so the points of an agent are those that are left of its last bid
pub points_same : (past : List Entry) (standing : List BidUnit) (agent : ℕ) → agent ≤ 7 → current_bids past ≡ by_position (placed_bids past) (length past) →
    points_of_agent standing past agent ≡ left_of standing (last_bid agent past)
points_same past standing agent le ordered =
    ap (λ (bids : List Placed). flat_map (points_among standing) (filter (made_by agent) bids)) ordered
    ∙ ap (flat_map (points_among standing)) (own_bid agent past le)
    ∙ of_bid (last_bid agent past)
  where
    of_bid : (bid : Option Placed) → flat_map (points_among standing) (option_to_list bid) ≡ left_of standing bid
    of_bid None = refl
    of_bid (Some bid) = append-nil (left_points standing bid.agent bid.position 0 bid.points)

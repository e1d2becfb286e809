-- What stands, by the rules, after an agent's bid and after its withdrawal.
use Rattle.std.proofs.Common.{◌≡◌, ℕ, ◌≤◌, Bool, true, false, cond, List, [], ◌∷◌, ◌++◌, length, append-nil, refl, sym, ap, ◌∙◌, subst, arith, Option, None, not, ◌&&◌, ◌==◌, filter}
use Rattle.std.proofs.lemmas.List.Filters.{sum_by-filter_both}
use Rattle.std.proofs.lemmas.List.Sums.{sum_by-append}
use Rattle.std.proofs.lemmas.Bool.{and_right}
use Rattle.ticket_book.specs.{Point, Bid, Withdraw, agents, Placed, BidUnit, Tickets as TicketRules, units_of, among, without, Entry, is_admission, is_closed, last_bid, units_of_last, gone, stand, ticket_gone, HaveSame, others, after_bid}
use Rattle.auction_rules.proofs.Agents.{number_same, agents_joined}
use Rattle.auction_rules.proofs.AgentUnits.{own_units, units_joined, gone_now, own_by_other, own_by_bid, without_nothing}
use Rattle.auction_rules.proofs.Lists.{filter-filter, filter-flat_map}
use Rattle.auction_rules.proofs.Standing.{number_is}

-- the units of an agent
abbrev pub own : ℕ → List BidUnit → List BidUnit
own agent units = filter (λ u. u.agent == agent) units

none_of_others : (agent a : ℕ) (units : List BidUnit) → (agent == a) ≡ true → others agent (own a units) ≡ []
none_of_others agent a [] same = refl
none_of_others agent a (u ∷ units) same = by_test (u.agent == a) refl (none_of_others agent a units same)
  where
    by_test : (b : Bool) → (u.agent == a) ≡ b → others agent (own a units) ≡ [] → others agent (cond b (u ∷ own a units) (own a units)) ≡ []
    by_test true is ih =
        let owner : (u.agent == agent) ≡ true = ap (λ (n : ℕ). n == agent) (number_is u.agent a is ∙ sym (number_is agent a same)) ∙ number_same agent in rw owner ih
    by_test false is ih = ih

-- all units are the agent's or another's
pub parted : (agent : ℕ) (units : List BidUnit) → HaveSame (others agent units ++ own agent units) units
parted agent units = λ weight.
    omega (
      arith,
      sum_by-append weight (others agent units) (own agent units),
      sum_by-filter_both (λ u. u.agent == agent) (λ u. not (u.agent == agent)) (λ u. refl) weight units,
    )

module _ (past : List Entry) (e : Entry) (agent : ℕ) (still_open : is_closed past ≡ false) (stays_open : is_closed (e ∷ past) ≡ false) (caller : e.caller ≡ agent) where
  abbrev new : List BidUnit
  new = stand TicketRules (e ∷ past)

  abbrev old : List BidUnit
  old = stand TicketRules past

  abbrev away : List BidUnit
  away = gone_now TicketRules past e

  another : (a : ℕ) → (agent == a) ≡ false → (is_admission e.reply && (e.caller == a)) ≡ false
  another a differ = rw (caller, differ) (and_right (is_admission e.reply) false refl)

  -- the others have what they had, except for what the entry trades away
  pub others_keep : others agent (stand TicketRules (e ∷ past)) ≡ others agent (without (stand TicketRules past) (gone_now TicketRules past e))
  others_keep =
      ap (others agent) (sym (units_joined TicketRules (e ∷ past)))
      ∙ filter-flat_map (λ u. not (u.agent == agent)) (λ a. own a new) agents
      ∙ agents_joined (λ a. others agent (own a new)) (λ a. others agent (without (own a old) away)) (λ a le. one a le (agent == a) refl)
      ∙ sym (filter-flat_map (λ u. not (u.agent == agent)) (λ a. without (own a old) away) agents)
      ∙ ap (others agent) (sym (filter-flat_map (λ u. not (among u away)) (λ a. own a old) agents) ∙ ap (λ (us : List BidUnit). without us away) (units_joined TicketRules past))
    where
      one : (a : ℕ) → a ≤ 7 → (b : Bool) → (agent == a) ≡ b → others agent (own a new) ≡ others agent (without (own a old) away)
      one a le true same =
          none_of_others agent a new same
          ∙ sym (filter-filter (λ u. not (u.agent == agent)) (λ u. not (among u away)) (own a old) ∙ ap (λ (us : List BidUnit). without us away) (none_of_others agent a old same))
      one a le false differ = ap (others agent) (own_by_other TicketRules past e a le still_open stays_open (another a differ))

-- after a bid
pub after_bid_stands : (past : List Entry) (e : Entry) (agent : ℕ) (points : List Point) → agent ≤ 7 → is_closed past ≡ false → is_closed (e ∷ past) ≡ false →
    is_admission e.reply ≡ true → e.caller ≡ agent → e.call ≡ Bid points →
    HaveSame (after_bid (stand TicketRules past) agent (units_of (record { agent = agent; position = length past; points = points }))) (stand TicketRules (e ∷ past))
after_bid_stands past e agent points le still_open stays_open admitted caller call =
    subst (λ (us : List BidUnit). HaveSame us (stand TicketRules (e ∷ past)))
    ((λ i. others_are i ++ own_are i))
    (parted agent (stand TicketRules (e ∷ past)))
  where
    bid : Placed
    bid = record { agent = agent; position = length past; points = points }

    away_is : gone_now TicketRules past e ≡ ticket_gone (stand TicketRules past) (units_of bid)
    away_is = rw (admitted, caller, call) refl

    others_are : others agent (stand TicketRules (e ∷ past)) ≡ others agent (without (stand TicketRules past) (ticket_gone (stand TicketRules past) (units_of bid)))
    others_are = others_keep past e agent still_open stays_open caller ∙ ap (λ (us : List BidUnit). others agent (without (stand TicketRules past) us)) away_is

    own_are : filter (λ u. u.agent == agent) (stand TicketRules (e ∷ past)) ≡ without (units_of bid) (ticket_gone (stand TicketRules past) (units_of bid))
    own_are =
        own_by_bid TicketRules past e agent points le stays_open (rw (admitted, caller) (number_same agent)) call
        ∙ ap (λ (us : List BidUnit). without (units_of bid) us) away_is

-- after a withdrawal
pub after_withdrawal_stands : (past : List Entry) (e : Entry) (agent : ℕ) → agent ≤ 7 → is_closed past ≡ false → is_closed (e ∷ past) ≡ false →
    is_admission e.reply ≡ true → e.caller ≡ agent → e.call ≡ Withdraw →
    HaveSame (others agent (stand TicketRules past)) (stand TicketRules (e ∷ past))
after_withdrawal_stands past e agent le still_open stays_open admitted caller call =
    subst (λ (us : List BidUnit). HaveSame us (stand TicketRules (e ∷ past)))
    ((λ i. others_are i ++ own_are i) ∙ append-nil (others agent (stand TicketRules past)))
    (parted agent (stand TicketRules (e ∷ past)))
  where
    away_is : gone_now TicketRules past e ≡ []
    away_is = rw (admitted, call) refl

    others_are : others agent (stand TicketRules (e ∷ past)) ≡ others agent (stand TicketRules past)
    others_are =
        others_keep past e agent still_open stays_open caller
        ∙ ap (λ (us : List BidUnit). others agent (without (stand TicketRules past) us)) away_is ∙ ap (others agent) (without_nothing (stand TicketRules past))

    own_are : filter (λ u. u.agent == agent) (stand TicketRules (e ∷ past)) ≡ []
    own_are = own_units TicketRules (e ∷ past) agent le stays_open ∙ ap (λ (bid : Option Placed). without (units_of_last bid) (gone TicketRules (e ∷ past))) last
      where
        last : last_bid agent (e ∷ past) ≡ None
        last = rw (admitted, caller, number_same agent, call) refl

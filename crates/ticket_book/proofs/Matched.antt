-- What stands after arriving units have taken their partners, one after the other.
use Rattle.std.proofs.Common.{◌≡◌, ℕ, Bool, true, false, cond, List, [], ◌∷◌, ◌++◌, refl, sym, ap, ◌∙◌, arith, Option, Some, None, not, ◌||◌, ◌==◌, filter, count_by}
use Rattle.ticket_book.specs.{BidUnit, same_unit, among, without, partner, pair_with, not_taken, pairs, units_of_pairs, ticket_gone, others}
use Rattle.auction_rules.proofs.Agents.{number_same}
use Rattle.auction_rules.proofs.AgentUnits.{without_nothing}
use Rattle.auction_rules.proofs.Ranks.{count-cons}
use Rattle.auction_rules.proofs.Standing.{Each, same_is}

-- the units that stand after all have arrived
abbrev pub untaken : List BidUnit → List BidUnit → List BidUnit
untaken standing [] = standing
untaken standing (u ∷ arriving) = untaken (not_taken (partner standing u) standing) arriving

-- a pair takes one standing unit away, if the arriving one is of the agent
take_pair : (agent : ℕ) (u v : BidUnit) (away standing : List BidUnit) → u.agent ≡ agent →
    others agent (without (filter (λ x. not (same_unit x v)) standing) away) ≡ others agent (without standing (u ∷ v ∷ away))
take_pair agent u v away [] own = refl
take_pair agent u v away (x ∷ standing) own = by_tests (same_unit x u) (same_unit x v) (among x away) (x.agent == agent) refl refl refl refl (take_pair agent u v away standing own)
  where
    left : List BidUnit
    left = filter (λ y. not (same_unit y v)) standing

    own_unit : same_unit x u ≡ true → (x.agent == agent) ≡ true
    own_unit same = ap (λ (n : ℕ). n == agent) (ap (λ (y : BidUnit). y.agent) (same_is x u same) ∙ own) ∙ number_same agent

    by_tests : (s t a o : Bool) → same_unit x u ≡ s → same_unit x v ≡ t → among x away ≡ a → (x.agent == agent) ≡ o →
        others agent (without left away) ≡ others agent (without standing (u ∷ v ∷ away)) →
        others agent (without (cond (not t) (x ∷ left) left) away) ≡ others agent (cond (not (s || (t || a))) (x ∷ without standing (u ∷ v ∷ away)) (without standing (u ∷ v ∷ away)))
    by_tests true true a o s t is_a is_o ih = ih
    by_tests true false true o s t is_a is_o ih = rw is_a ih
    by_tests true false false o s t is_a is_o ih = rw (is_a, own_unit s) ih
    by_tests false true a o s t is_a is_o ih = ih
    by_tests false false true o s t is_a is_o ih = rw is_a ih
    by_tests false false false true s t is_a is_o ih = rw (is_a, is_o) ih
    by_tests false false false false s t is_a is_o ih = rw (is_a, is_o) (ap (λ (us : List BidUnit). x ∷ us) ih)

pub untaken_others : (agent : ℕ) (standing arriving : List BidUnit) → Each (λ u. u.agent ≡ agent) arriving → others agent (untaken standing arriving) ≡ others agent (without standing (ticket_gone standing arriving))
untaken_others agent standing [] h = ap (others agent) (sym (without_nothing standing))
untaken_others agent standing (u ∷ arriving) h = by_partner (partner standing u) (λ left. untaken_others agent left arriving h.1)
  where
    by_partner : (p : Option BidUnit) → ((left : List BidUnit) → others agent (untaken left arriving) ≡ others agent (without left (ticket_gone left arriving))) →
        others agent (untaken (not_taken p standing) arriving) ≡ others agent (without standing (units_of_pairs (pair_with u p ++ pairs (not_taken p standing) arriving)))
    by_partner None more = more standing
    by_partner (Some v) more = let left = not_taken (Some v) standing in more left ∙ take_pair agent u v (ticket_gone left arriving) standing h.0

-- ---- the units of a bid

-- the others have none of the agent's
pub none_among_others : (agent : ℕ) (units : List BidUnit) → count_by (λ u. u.agent == agent) (others agent units) ≡ 0
none_among_others agent [] = refl
none_among_others agent (u ∷ units) = by_test (u.agent == agent) refl (none_among_others agent units)
  where
    by_test : (b : Bool) → (u.agent == agent) ≡ b → count_by (λ v. v.agent == agent) (others agent units) ≡ 0 →
        count_by (λ v. v.agent == agent) (cond (not b) (u ∷ others agent units) (others agent units)) ≡ 0
    by_test true is ih = ih
    by_test false is ih = let none : ◌≡◌ {A = ℕ} (cond (u.agent == agent) 1 0) 0 = rw is refl in omega (arith, count-cons (λ v. v.agent == agent) u (others agent units), none, ih)

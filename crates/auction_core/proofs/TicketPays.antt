-- Tickets: no agent buys more units at a price or more than arriving or others' standing units bid so much.
use Rattle.std.proofs.Common.{◌≡◌, ℕ, ◌+◌, ◌≤◌, Bool, true, false, cond, List, [], ◌∷◌, ◌++◌, map, refl, sym, ◌∙◌, subst, arith, Option, Some, None, not, ◌&&◌, ◌==◌, nat_le, filter, sum_by, count_by}
use Rattle.std.specs.Prelude.{⊤}
use Rattle.std.specs.List.{AllByRecursion}
use Rattle.std.proofs.lemmas.Bool.Decides.{nat_tests}
use Rattle.std.proofs.lemmas.List.Sums.{sum_by-cons, sum_by-append}
use Rattle.auction_core.specs.{Trade, BidUnit, same_side, same_unit, among, faces, crosses, partner, pair_with, not_taken, pairs, pair_trade, ticket_trades, bought_at, bid_at}
use Rattle.auction_rules.proofs.Agents.{numbers_differ}
use Rattle.auction_rules.proofs.Ranks.{count-cons}
use Rattle.auction_rules.proofs.Counts.{count-parts, count-filter}
use Rattle.auction_rules.proofs.Standing.{Each, all_among_self, same_self}
use Rattle.auction_rules.proofs.Matching.{each_pair, faces_differ}
use Rattle.auction_core.proofs.Bought.{among_counted, paid, bought_is}

-- ---- a partner

-- it stands, is faced and crosses
abbrev IsPartner : List BidUnit → BidUnit × BidUnit → Type 0
IsPartner standing pair = (among pair.1 standing ≡ true) × ((faces pair.0 pair.1 ≡ true) × (crosses pair.0 pair.1 ≡ true))

partner_met : (standing : List BidUnit) (u w : BidUnit) → partner standing u ≡ Some w → IsPartner standing (u, w)
partner_met standing u w is = (subst (λ (p : Option BidUnit). AllByRecursion (IsPartner standing) (pair_with u p ++ [])) is one).0
  where
    one : AllByRecursion (IsPartner standing) (pairs standing (u ∷ []))
    one = each_pair (λ v. among v standing ≡ true) (λ v. ⊤) (IsPartner standing) (λ x y _ stands facing crossing. (stands, (facing, crossing))) standing (u ∷ []) (all_among_self standing) (tt, tt)

-- ---- what is bid

abbrev bids_so : ℕ → ℕ → BidUnit → Bool
bids_so agent price u = u.buys && ((u.agent == agent) && nat_le price u.price)

-- by another than the caller
abbrev others_bid : ℕ → ℕ → ℕ → BidUnit → Bool
others_bid caller agent price u = not (u.agent == caller) && bids_so agent price u

module _ (good caller agent price : ℕ) where
  -- the unit that is taken counts no longer
  taken_counts : (standing : List BidUnit) (w : BidUnit) → among w standing ≡ true →
      cond (others_bid caller agent price w) 1 0 + count_by (others_bid caller agent price) (not_taken (Some w) standing) ≤ count_by (others_bid caller agent price) standing
  taken_counts standing w is = by_test (others_bid caller agent price w) refl
    where
      test : BidUnit → Bool
      test = others_bid caller agent price

      parts : count_by test standing ≡ count_by test (filter (λ u. same_unit u w) standing) + count_by test (not_taken (Some w) standing)
      parts = count-parts (λ u. same_unit u w) test standing

      by_test : (b : Bool) → test w ≡ b → cond b 1 0 + count_by test (not_taken (Some w) standing) ≤ count_by test standing
      by_test true passes =
          let taken = count-filter (λ u. same_unit u w) test standing in
          let one = among_counted (λ u. same_unit u w && test u) w standing is (rw (same_self w, passes) refl) in
          omega (arith, parts, taken, one)
      by_test false passes = omega (arith, parts)

  -- one of a pair's units bids what the trade costs
  pair_bids : (u w : BidUnit) → u.agent ≡ caller → faces u w ≡ true → crosses u w ≡ true →
      paid agent price (pair_trade good (u, w)) ≤ cond (bids_so agent price u) 1 0 + cond (others_bid caller agent price w) 1 0
  pair_bids u w own facing crossing = by_side u.buys refl
    where
      differ : (w.agent == caller) ≡ false
      differ = numbers_differ w.agent caller (λ same. faces_differ u w facing (own ∙ sym same))

      other_side : (a b c : Bool) → (a && not (same_side b c)) ≡ true → b ≡ false → c ≡ true
      other_side true true c g is = absurd cc
      other_side true false true g is = refl
      other_side true false false g is = absurd cc
      other_side false b c g is = absurd cc

      buyer : (b : ℕ) (p q : ℕ) → nat_le p q ≡ true → cond ((b == agent) && nat_le price p) 1 0 ≤ cond ((b == agent) && nat_le price q) 1 0
      buyer b p q le = grind (arith, nat_tests)

      by_side : (b : Bool) → u.buys ≡ b →
          paid agent price
          (cond {A = Trade} b (record { buyer = u.agent; seller = w.agent; good = good; units = 1; price = w.price })
          (record { buyer = w.agent; seller = u.agent; good = good; units = 1; price = w.price }))
          ≤ cond (b && ((u.agent == agent) && nat_le price u.price)) 1 0 + cond (others_bid caller agent price w) 1 0
      by_side true buying =
          let cheaper : nat_le w.price u.price ≡ true = sym (rw buying refl) ∙ crossing in
          let le = buyer u.agent w.price u.price cheaper in
          omega (arith, le)
      by_side false selling =
          let side : w.buys ≡ true = other_side (not (u.agent == w.agent)) u.buys w.buys facing selling in
          let same : ◌≡◌ {A = ℕ} (cond (others_bid caller agent price w) 1 0) (cond ((w.agent == agent) && nat_le price w.price) 1 0) = rw (differ, side) refl in
          omega (arith, same)

  pairs_bid : (standing arriving : List BidUnit) → Each (λ u. u.agent ≡ caller) arriving →
      sum_by (paid agent price) (map (pair_trade good) (pairs standing arriving)) ≤ count_by (bids_so agent price) arriving + count_by (others_bid caller agent price) standing
  pairs_bid standing [] own = omega arith
  pairs_bid standing (u ∷ us) own = by_partner (partner standing u) refl (λ left. pairs_bid left us own.1)
    where
      all : count_by (bids_so agent price) (u ∷ us) ≡ cond (bids_so agent price u) 1 0 + count_by (bids_so agent price) us
      all = count-cons (bids_so agent price) u us

      by_partner : (p : Option BidUnit) → partner standing u ≡ p →
          ((left : List BidUnit) → sum_by (paid agent price) (map (pair_trade good) (pairs left us)) ≤ count_by (bids_so agent price) us + count_by (others_bid caller agent price) left) →
          sum_by (paid agent price) (map (pair_trade good) (pair_with u p ++ pairs (not_taken p standing) us)) ≤ count_by (bids_so agent price) (u ∷ us) + count_by (others_bid caller agent price) standing
      by_partner None is more = let rest = more standing in omega (arith, rest, all)
      by_partner (Some w) is more =
          let met = partner_met standing u w is in
          let first = sum_by-cons (paid agent price) (pair_trade good (u, w)) (map (pair_trade good) (pairs (not_taken (Some w) standing) us)) in
          let here = pair_bids u w own.0 met.1.0 met.1.1 in
          let kept = taken_counts standing w met.0 in
          let rest = more (not_taken (Some w) standing) in
          omega (arith, all, first, here, kept, rest)

  -- what stands of others and what arrives is looked at
  pub ticket_paid : (standing arriving : List BidUnit) → Each (λ u. u.agent ≡ caller) arriving →
      bought_at (ticket_trades good standing arriving) agent price ≤ bid_at (filter (λ u. not (u.agent == caller)) standing ++ arriving) agent price
  ticket_paid standing arriving own =
      let is = bought_is (ticket_trades good standing arriving) agent price in
      let bids = pairs_bid standing arriving own in
      let parts = sum_by-append (λ u. cond (bids_so agent price u) 1 0) (filter (λ u. not (u.agent == caller)) standing) arriving in
      let kept = count-filter (λ u. not (u.agent == caller)) (bids_so agent price) standing in
      omega (arith, is, bids, parts, kept)

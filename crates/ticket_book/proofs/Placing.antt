-- Two sides stay as a book keeps them when a unit is inserted or some are removed.
use Rattle.std.proofs.Common.{◌≡◌, ℕ, zero, suc, ◌+◌, ◌<◌, ◌≤◌, Bool, true, false, cond, List, [], ◌∷◌, ◌++◌, length, map, get_or, refl, sym, ap, subst, ◌∙◌, arith, length-append, not, ◌==◌, sum_by, count_by, filter, All, insert, IsPermutation}
use Rattle.std.specs.List.{AllByRecursion, position_or_len}
use Rattle.std.proofs.lemmas.List.Elements.{recursion_from_All}
use Rattle.std.proofs.lemmas.List.{length-map}
use Rattle.std.proofs.lemmas.List.Filters.{sum_by-filter_both}
use Rattle.std.proofs.lemmas.List.Sums.{sum_by-cons, sum_by-append}
use Rattle.ticket_book.specs.{Unit as ShownUnit, BID_PRICE, BidUnit, shown_unit, on_side, goes_first, IsSideSorted, SortedSides, both, HaveSame, AreSides}
use Rattle.auction_rules.proofs.Shown.{permuted, sum_by-map}
use Rattle.auction_rules.proofs.Standing.{Each, each-append, each-filter, number_is}
use Rattle.ticket_book.proofs.Sorting.{sorted_put}
use Rattle.ticket_book.proofs.Weights.{same_filter, each_alike}
use Rattle.ticket_book.proofs.Sided.{sides_of, buy_put, sell_put, buying, selling}

-- ---- room for one unit more

is_at : ℕ → ℕ → ℕ
is_at owner agent = cond (owner == agent) 1 0

one_owner : (owner : ℕ) → owner ≤ 7 → 1 ≤ is_at owner 0 + is_at owner 1 + is_at owner 2 + is_at owner 3 + is_at owner 4 + is_at owner 5 + is_at owner 6 + is_at owner 7
unfolding is_at
one_owner zero le = omega arith
one_owner (suc zero) le = omega arith
one_owner (suc (suc zero)) le = omega arith
one_owner (suc (suc (suc zero))) le = omega arith
one_owner (suc (suc (suc (suc zero)))) le = omega arith
one_owner (suc (suc (suc (suc (suc zero))))) le = omega arith
one_owner (suc (suc (suc (suc (suc (suc zero)))))) le = omega arith
one_owner (suc (suc (suc (suc (suc (suc (suc zero))))))) le = omega arith
one_owner (suc (suc (suc (suc (suc (suc (suc (suc m)))))))) le = absurd (omega (arith, le))

-- how many of the units are the agent's
counted : List BidUnit → ℕ → ℕ
counted units agent = count_by (λ u. u.agent == agent) units

counted-cons : (u : BidUnit) (units : List BidUnit) (agent : ℕ) → counted (u ∷ units) agent ≡ is_at u.agent agent + counted units agent
unfolding is_at counted
counted-cons u units agent = sum_by-cons (λ (x : BidUnit). cond (x.agent == agent) 1 0) u units

all_counted : (units : List BidUnit) → Each (λ u. u.agent ≤ 7) units →
    length units ≤ counted units 0 + counted units 1 + counted units 2 + counted units 3 + counted units 4 + counted units 5 + counted units 6 + counted units 7
unfolding counted
all_counted [] h = omega arith
all_counted (u ∷ units) h =
    omega (
      arith,
      all_counted units h.1,
      one_owner u.agent h.0,
      counted-cons u units 0,
      counted-cons u units 1,
      counted-cons u units 2,
      counted-cons u units 3,
      counted-cons u units 4,
      counted-cons u units 5,
      counted-cons u units 6,
      counted-cons u units 7,
    )

-- if no agent has more than 16 units, and one has fewer, there are fewer than 128
room_by : (agent : ℕ) (count : ℕ → ℕ) → agent ≤ 7 → ((a : ℕ) → count a ≤ 16) → count agent < 16 → count 0 + count 1 + count 2 + count 3 + count 4 + count 5 + count 6 + count 7 < 128
room_by zero count le few lt = omega (arith, lt, few 1, few 2, few 3, few 4, few 5, few 6, few 7)
room_by (suc zero) count le few lt = omega (arith, few 0, lt, few 2, few 3, few 4, few 5, few 6, few 7)
room_by (suc (suc zero)) count le few lt = omega (arith, few 0, few 1, lt, few 3, few 4, few 5, few 6, few 7)
room_by (suc (suc (suc zero))) count le few lt = omega (arith, few 0, few 1, few 2, lt, few 4, few 5, few 6, few 7)
room_by (suc (suc (suc (suc zero)))) count le few lt = omega (arith, few 0, few 1, few 2, few 3, lt, few 5, few 6, few 7)
room_by (suc (suc (suc (suc (suc zero))))) count le few lt = omega (arith, few 0, few 1, few 2, few 3, few 4, lt, few 6, few 7)
room_by (suc (suc (suc (suc (suc (suc zero)))))) count le few lt = omega (arith, few 0, few 1, few 2, few 3, few 4, few 5, lt, few 7)
room_by (suc (suc (suc (suc (suc (suc (suc zero))))))) count le few lt = omega (arith, few 0, few 1, few 2, few 3, few 4, few 5, few 6, lt)
room_by (suc (suc (suc (suc (suc (suc (suc (suc m)))))))) count le few lt = absurd (omega (arith, le))

pub room : (agent : ℕ) (buys sells : List ShownUnit) → agent ≤ 7 → AreSides buys sells (both (sides_of buys sells)) → count_by (λ u. u.agent == agent) (both (sides_of buys sells)) < 16 →
    (length buys < 128) × (length sells < 128)
unfolding counted
room agent buys sells le held lt =
    let all = all_counted (both (sides_of buys sells)) held.owned in
    let few = room_by agent (counted (both (sides_of buys sells))) le held.few lt in
    let parts = length-append (map (on_side true) buys) (map (on_side false) sells) in
    (omega (arith, all, few, parts, length-map buys (on_side true)), omega (arith, all, few, parts, length-map buys (on_side true), length-map sells (on_side false)))

-- what holds of all units holds of the one at a place
pub all_at : (P : BidUnit → Type 0) (units : List BidUnit) (i : ℕ) (u : BidUnit) → i < length units → u ≡ get_or units i u → All P units → P u
all_at P units i u lt is all = at_place units i lt is (recursion_from_All P units all)
  where
    at_place : (us : List BidUnit) (k : ℕ) → k < length us → u ≡ get_or us k u → AllByRecursion P us → P u
    at_place [] k within here h = absurd (omega arith)
    at_place (v ∷ us) zero within here h = subst P (sym here) h.0
    at_place (v ∷ us) (suc k) within here h = at_place us k (omega arith) here h.1

-- ---- one unit more

pub sides_more : (old new : SortedSides) (u : BidUnit) → AreSides old.buys old.sells (both old) → u.agent ≤ 7 → u.price ≤ BID_PRICE → count_by (λ v. v.agent == u.agent) (both old) < 16 →
    HaveSame (both new) (both old ++ u ∷ []) → IsSideSorted true new.buys → IsSideSorted false new.sells → AreSides new.buys new.sells (both new)
sides_more old new u held agent price lt same buys sells = record {
  buys_sorted = buys;
  sells_sorted = sells;
  priced = each_alike (λ v. v.price ≤ BID_PRICE) (both new) (both old ++ u ∷ []) same (each-append (λ v. v.price ≤ BID_PRICE) (both old) (u ∷ []) held.priced (price, tt));
  owned = each_alike (λ v. v.agent ≤ 7) (both new) (both old ++ u ∷ []) same (each-append (λ v. v.agent ≤ 7) (both old) (u ∷ []) held.owned (agent, tt));
  few = λ a. by_test a (u.agent == a) refl;
}
  where
    by_test : (a : ℕ) (b : Bool) → (u.agent == a) ≡ b → count_by (λ v. v.agent == a) (both new) ≤ 16
    by_test a b is =
        let weight : BidUnit → ℕ = λ v. cond (v.agent == a) 1 0 in
        let all = same weight in
        let parts = sum_by-append weight (both old) (u ∷ []) in
        let last = sum_by-cons weight u [] in
        by_owner b is all parts last
      where
        by_owner : (t : Bool) → (u.agent == a) ≡ t → sum_by (λ v. cond (v.agent == a) 1 0) (both new) ≡ sum_by (λ v. cond (v.agent == a) 1 0) (both old ++ u ∷ []) →
            sum_by (λ v. cond (v.agent == a) 1 0) (both old ++ u ∷ []) ≡ sum_by (λ v. cond (v.agent == a) 1 0) (both old) + sum_by (λ v. cond (v.agent == a) 1 0) (u ∷ []) →
            sum_by (λ v. cond (v.agent == a) 1 0) (u ∷ []) ≡ cond (u.agent == a) 1 0 + 0 → count_by (λ v. v.agent == a) (both new) ≤ 16
        by_owner true own all parts last =
            let here : count_by (λ v. v.agent == a) (both old) < 16 = subst (λ n. count_by (λ v. v.agent == n) (both old) < 16) (number_is u.agent a own) lt in
            let one : ◌≡◌ {A = ℕ} (cond (u.agent == a) 1 0) 1 = rw own refl in omega (arith, all, parts, last, here, one)
        by_owner false other all parts last =
            let none : ◌≡◌ {A = ℕ} (cond (u.agent == a) 1 0) 0 = rw other refl in omega (arith, all, parts, last, held.few a, none)

module _ (buys sells : List ShownUnit) (u : BidUnit) (shown : ShownUnit) (is : shown ≡ shown_unit u) where
  pub buy_placed : (new : List ShownUnit) → u.buys ≡ true → new ≡ insert buys (position_or_len (goes_first true shown) buys) shown → HaveSame (both (sides_of new sells)) (both (sides_of buys sells) ++ u ∷ [])
  buy_placed new side placed = λ weight.
      ap (λ (us : List ShownUnit). sum_by weight (both (sides_of us sells))) (placed ∙ ap (λ (v : ShownUnit). insert buys (position_or_len (goes_first true v) buys) v) is)
      ∙ buy_put weight (position_or_len (goes_first true (shown_unit u)) buys) u buys sells side

  pub sell_placed : (new : List ShownUnit) → u.buys ≡ false → new ≡ insert sells (position_or_len (goes_first false shown) sells) shown → HaveSame (both (sides_of buys new)) (both (sides_of buys sells) ++ u ∷ [])
  sell_placed new side placed = λ weight.
      ap (λ (us : List ShownUnit). sum_by weight (both (sides_of buys us))) (placed ∙ ap (λ (v : ShownUnit). insert sells (position_or_len (goes_first false v) sells) v) is)
      ∙ sell_put weight (position_or_len (goes_first false (shown_unit u)) sells) u buys sells side

  module _ (held : AreSides buys sells (both (sides_of buys sells))) (agent : u.agent ≤ 7) (price : u.price ≤ BID_PRICE) (lt : count_by (λ v. v.agent == u.agent) (both (sides_of buys sells)) < 16) where
    pub buy_kept : (new : List ShownUnit) → u.buys ≡ true → new ≡ insert buys (position_or_len (goes_first true shown) buys) shown → AreSides new sells (both (sides_of new sells))
    buy_kept new side placed =
        sides_more (sides_of buys sells) (sides_of new sells) u held agent price lt (buy_placed new side placed) (subst (IsSideSorted true) (sym placed) (sorted_put true shown buys held.buys_sorted)) held.sells_sorted

    pub sell_kept : (new : List ShownUnit) → u.buys ≡ false → new ≡ insert sells (position_or_len (goes_first false shown) sells) shown → AreSides buys new (both (sides_of buys new))
    sell_kept new side placed =
        sides_more (sides_of buys sells) (sides_of buys new) u held agent price lt (sell_placed new side placed) held.buys_sorted (subst (IsSideSorted false) (sym placed) (sorted_put false shown sells held.sells_sorted))

-- ---- fewer units

pub sides_less : (test : BidUnit → Bool) (old new : SortedSides) → AreSides old.buys old.sells (both old) → both new ≡ filter test (both old) → IsSideSorted true new.buys → IsSideSorted false new.sells →
    AreSides new.buys new.sells (both new)
sides_less test old new held are buys sells = record {
  buys_sorted = buys;
  sells_sorted = sells;
  priced = subst (Each (λ v. v.price ≤ BID_PRICE)) (sym are) (each-filter (λ v. v.price ≤ BID_PRICE) test (both old) held.priced);
  owned = subst (Each (λ v. v.agent ≤ 7)) (sym are) (each-filter (λ v. v.agent ≤ 7) test (both old) held.owned);
  few = λ a.
      let weight : BidUnit → ℕ = λ v. cond (v.agent == a) 1 0 in
      omega (arith, ap (sum_by weight) are, sum_by-filter_both test (λ v. not (test v)) (λ v. refl) weight (both old), held.few a);
}

-- ---- what is shown of a side

module _ (sides : SortedSides) (standing : List BidUnit) (same : HaveSame (both sides) standing) where
  pub buys_shown : IsPermutation (map shown_unit (filter (λ u. u.buys) standing)) sides.buys
  buys_shown =
      permuted (filter (λ u. u.buys) standing) sides.buys
      (λ weight. sym (sum_by-map (on_side true) (λ u. weight (shown_unit u)) sides.buys)
      ∙ ap (sum_by (λ u. weight (shown_unit u))) (sym (buying sides))
      ∙ same_filter (λ u. u.buys) (both sides) standing same (λ u. weight (shown_unit u)))

  pub sells_shown : IsPermutation (map shown_unit (filter (λ u. not u.buys) standing)) sides.sells
  sells_shown =
      permuted (filter (λ u. not u.buys) standing) sides.sells
      (λ weight. sym (sum_by-map (on_side false) (λ u. weight (shown_unit u)) sides.sells)
      ∙ ap (sum_by (λ u. weight (shown_unit u))) (sym (selling sides))
      ∙ same_filter (λ u. not u.buys) (both sides) standing same (λ u. weight (shown_unit u)))

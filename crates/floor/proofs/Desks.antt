-- The invariant of a desk, at its start, with one entry more, and with one reading more.
use Rattle.std.proofs.Common.{◌≡◌, ℕ, zero, suc, ◌+◌, ◌*◌, ◌<◌, ◌≤◌, List, [], ◌∷◌, ◌++◌, map, length, get_or, set, replicate, sum_by, sym, refl, ap, ◌∙◌, subst, arith, length-set, length-append, ne_eqb, get_or-set_same, get_or-set_other}
use Rattle.std.proofs.lemmas.List.{get_or-replicate}
use Rattle.std.proofs.lemmas.List.Sums.{sum_by-append, sum_by-cons}
use mathlib.Core.Logic.{dite}
use native.Mathlib.Decide.{ℕ_discrete}
use Rattle.floor.specs.{Entry, nets, cap, Done, CashEntry, cash_cap, posts_of, due_post, IsDeskKept, count_entries}
use Rattle.floor.proofs.Posts.{bare, due_posts-more, few_due, with_posts, posts_and_readings}

-- ---- caps

pub cap_agent : (caller : ℕ) → caller < 8 → cap caller ≡ 1024
cap_agent caller is = rw (ne_eqb caller 8 (λ e. absurd (omega arith))) refl

pub cash_cap_agent : (caller : ℕ) → caller < 8 → cash_cap caller ≡ 29696
cash_cap_agent caller is = rw (ne_eqb caller 8 (λ e. absurd (omega arith))) refl

pub cash_cap_clock : (caller : ℕ) → caller ≡ 8 → cash_cap caller ≡ 480
cash_cap_clock caller is = ap cash_cap is

-- ---- room

fewer : (most : ℕ) (rows : List (List (ℕ × Entry))) (good : ℕ) → ((k : ℕ) → k < length rows → length (get_or rows k []) ≤ most) → good < length rows → length (get_or rows good []) < most
    → count_entries rows < length rows * most
fewer most [] good all inside less = absurd (omega arith)
fewer most (row ∷ rows) zero all inside less =
    let rest : count_entries rows ≤ length rows * most = at_most rows (λ k lt. all (suc k) (omega arith)) in
    omega (arith, sum_by-cons (λ (r : List (ℕ × Entry)). length r) row rows)
  where
    at_most : (rows : List (List (ℕ × Entry))) → ((k : ℕ) → k < length rows → length (get_or rows k []) ≤ most) → count_entries rows ≤ length rows * most
    at_most [] all = omega arith
    at_most (row ∷ rows) all = omega (arith, all 0 (omega arith), at_most rows (λ k lt. all (suc k) (omega arith)), sum_by-cons (λ (r : List (ℕ × Entry)). length r) row rows)
fewer most (row ∷ rows) (suc good) all inside less =
    omega (arith, all 0 (omega arith), fewer most rows good (λ k lt. all (suc k) (omega arith)) (omega arith) less, sum_by-cons (λ (r : List (ℕ × Entry)). length r) row rows)

module _ {caller : ℕ} {callers lefts : List ℕ} {entries : List (List (ℕ × Entry))} {cash_left : ℕ} {cash : List (ℕ × CashEntry)} {count : ℕ} where
  -- the entries of the cash history are at most as many as those of all goods, and the readings
  cash_few : IsDeskKept caller callers lefts entries cash_left cash count → length cash ≤ count_entries entries + count
  cash_few kept = omega (arith, posts_and_readings cash, kept.posted (λ (x : CashEntry). 1), few_due entries, kept.counted)

  at_most_cap : IsDeskKept caller callers lefts entries cash_left cash count → (k : ℕ) → k < length entries → length (get_or entries k []) ≤ cap caller
  at_most_cap kept k inside = omega (arith, kept.capped k (omega (arith, kept.goods)))

  -- an agent that may call may post
  pub agent_room : IsDeskKept caller callers lefts entries cash_left cash count → caller < 8 → (good : ℕ) → good < 28 → length (get_or entries good []) < cap caller → 1 ≤ cash_left
  agent_room kept agent good inside less =
      let few = fewer (cap caller) entries good (at_most_cap kept) (omega (arith, kept.goods)) less in
      let few' : count_entries entries < 28 * 1024 = subst (λ (k : ℕ). count_entries entries < k * 1024) kept.goods (subst (λ (k : ℕ). count_entries entries < length entries * k) (cap_agent caller agent) few) in
      omega (arith, cash_few kept, cash_cap_agent caller agent, kept.cash_capped, kept.few)

  -- the clock may post after each of its calls
  pub clock_room : IsDeskKept caller callers lefts entries cash_left cash count → caller ≡ 8 → count_entries entries < 480 → 1 ≤ cash_left
  clock_room kept clock few = omega (arith, cash_few kept, cash_cap_clock caller clock, kept.cash_capped, kept.clock_reads_nothing clock)

  -- an agent may read
  pub reading_room : IsDeskKept caller callers lefts entries cash_left cash count → caller < 8 → count < 1024 → 1 ≤ cash_left
  reading_room kept agent few =
      let below : (k : ℕ) → k < length entries → length (get_or entries k []) ≤ 1024 = λ k inside. omega (arith, at_most_cap kept k inside, cap_agent caller agent) in
      omega (arith, all_few entries below, kept.goods, cash_few kept, cash_cap_agent caller agent, kept.cash_capped)
    where
      all_few : (rows : List (List (ℕ × Entry))) → ((k : ℕ) → k < length rows → length (get_or rows k []) ≤ 1024) → count_entries rows ≤ length rows * 1024
      all_few [] all = omega arith
      all_few (row ∷ rows) all = omega (arith, all 0 (omega arith), all_few rows (λ k lt. all (suc k) (omega arith)), sum_by-cons (λ (r : List (ℕ × Entry)). length r) row rows)

  -- ---- one entry more

  pub kept_more : IsDeskKept caller callers lefts entries cash_left cash count → (good left p q cash_left' : ℕ) (e : Entry) → good < 28 → length lefts ≡ 28 → left + 1 ≡ get_or lefts good 0
      → cash_left' + length (due_post good p e) ≡ cash_left
      → IsDeskKept caller callers (set lefts good left) (set entries good (get_or entries good [] ++ (p, e) ∷ [])) cash_left' (cash ++ map (λ x. (q, x)) (due_post good p e)) count
  kept_more kept good left p q cash_left' e inside long one posts =
      let after = cash ++ map (λ (x : CashEntry). (q, x)) (due_post good p e) in
      let more = with_posts cash q e.trades e.caller good p (record { dollars = nets e.trades }) Done in record {
        goods = length-set entries good (get_or entries good [] ++ (p, e) ∷ []) ∙ kept.goods;
        own = kept.own;
        capped = λ k lt. dite (ℕ_discrete k good)
            (λ is. let here = kept.capped k lt in
            let turns : get_or (set lefts good left) k 0 ≡ left = ap (λ (j : ℕ). get_or (set lefts good left) j 0) is ∙ get_or-set_same lefts good left 0 (omega arith) in
            let made : length (get_or (set entries good (get_or entries good [] ++ (p, e) ∷ [])) k []) ≡ length (get_or entries k []) + 1 =
            ap length (ap (λ (j : ℕ). get_or (set entries good (get_or entries good [] ++ (p, e) ∷ [])) j []) is ∙ (get_or-set_same entries good (get_or entries good [] ++ (p, e) ∷ []) [] (omega (arith, kept.goods))
            ∙ ap (λ (j : ℕ). get_or entries j [] ++ (p, e) ∷ []) (sym is))) ∙ length-append (get_or entries k []) ((p, e) ∷ []) in
            let before : get_or lefts k 0 ≡ left + 1 = ap (λ (j : ℕ). get_or lefts j 0) is ∙ sym one in omega arith)
            (λ ne. let here = kept.capped k lt in
            let turns : get_or (set lefts good left) k 0 ≡ get_or lefts k 0 = get_or-set_other lefts good k left 0 ne in
            let made : length (get_or (set entries good (get_or entries good [] ++ (p, e) ∷ [])) k []) ≡ length (get_or entries k []) = ap length (get_or-set_other entries good k (get_or entries good [] ++ (p, e) ∷ []) [] ne) in omega arith);
        cash_capped = omega (arith, kept.cash_capped, more.2);
        counted = kept.counted ∙ sym more.1;
        few = kept.few;
        clock_reads_nothing = kept.clock_reads_nothing;
        posted = λ w. ap (sum_by w) more.0 ∙ (sum_by-append w (posts_of (bare cash)) (due_post good p e)
            ∙ (ap (λ (k : ℕ). k + sum_by w (due_post good p e)) (kept.posted w) ∙ sym (due_posts-more w good entries p e (omega (arith, kept.goods)))));
      }

  -- the same if the code names the parts otherwise
  pub kept_as : {caller' : ℕ} {callers' lefts' : List ℕ} {entries' : List (List (ℕ × Entry))} {cash_left' : ℕ} {cash' : List (ℕ × CashEntry)} {count' : ℕ} → IsDeskKept caller callers lefts entries cash_left cash count
      → caller' ≡ caller → callers' ≡ callers → lefts' ≡ lefts → entries' ≡ entries → cash_left' ≡ cash_left → cash' ≡ cash → count' ≡ count → IsDeskKept caller' callers' lefts' entries' cash_left' cash' count'
  kept_as kept a b c d e f g = subst (λ (t : ℕ × List ℕ × List ℕ × List (List (ℕ × Entry)) × ℕ × List (ℕ × CashEntry) × ℕ). IsDeskKept t.0 t.1 t.2 t.3 t.4 t.5 t.6)
      (λ k. (sym a k, sym b k, sym c k, sym d k, sym e k, sym f k, sym g k)) kept

-- a desk that made no call
pub kept_first : (caller : ℕ) → IsDeskKept caller (replicate 28 caller) (replicate 28 (cap caller)) (replicate 28 []) (cash_cap caller) [] 0
kept_first caller = record {
  goods = refl;
  own = refl;
  capped = λ k lt. let turns = get_or-replicate 28 k (cap caller) 0 lt in
      let none : length (get_or (replicate 28 []) k []) ≡ 0 = ap length (get_or-replicate {A = List (ℕ × Entry)} 28 k [] [] lt) in omega arith;
  cash_capped = omega arith;
  counted = refl;
  few = omega arith;
  clock_reads_nothing = λ _. refl;
  posted = λ w. refl;
}

-- Sums of weights over the posts of a cash history, and over the posts that are due.
use Rattle.std.proofs.Common.{◌≡◌, ◌≢◌, ℕ, zero, suc, ◌+◌, ◌<◌, ◌≤◌, Bool, true, false, ◌&&◌, ◌||◌, cond, List, [], ◌∷◌, map, sum_by, refl, ap, ◌∙◌, subst, arith, Some, None, slice_get, ne_eqb, ◌==◌, flat_map}
use Rattle.std.specs.List.{enumerate_from}
use Rattle.std.proofs.lemmas.List.Sums.{sum_by-cons, sum_by-append}
use mathlib.Core.Logic.{dite}
use native.Mathlib.Decide.{ℕ_discrete}
use Rattle.log_audit.specs.{Trade, nets as nets_of, CashCall, Post, Read, Done, CashEntry, is_post, posts_of, post_for, due_post, due_to, is_post_at, is_posted}
use Rattle.auction_rules.specs.History.{Entry}
use Rattle.trade_ledger.proofs.Matching.{filtered}

-- ---- the posts of a cash history

-- the weight of an entry, if it is a post
abbrev post_weight : (CashEntry → ℕ) → CashEntry → ℕ
post_weight w e = cond (is_post e.call) (w e) 0

-- a post weighs no more than all posts
pub post_within : (w : CashEntry → ℕ) (cash : List CashEntry) (position : ℕ) (e : CashEntry) → slice_get cash position ≡ Some e → is_post e.call ≡ true → w e ≤ sum_by w (posts_of cash)
post_within w [] position e at is = let never : None ≡ Some e = at in absurd cc
post_within w (x ∷ cash) zero e at is =
    let same : x ≡ e = cc in
    let here : post_weight w x ≡ w e = ap (post_weight w) same ∙ ap (λ b. cond {A = ℕ} b (w e) 0) is in
    omega (arith, filtered w (is_post x.call) x (posts_of cash), here)
post_within w (x ∷ cash) (suc position) e at is = let ih = post_within w cash position e at is in omega (arith, filtered w (is_post x.call) x (posts_of cash), ih)

-- the weight of a post that names a place
abbrev pub naming : ℕ → ℕ → CashEntry → ℕ
naming good position e = cond (is_post_at good position e.call) 1 0

-- how many entries name a place
abbrev pub named : ℕ → ℕ → List CashEntry → ℕ
named good position cash = sum_by (naming good position) cash

only_posts : (good position : ℕ) (call : CashCall) → cond {A = ℕ} (is_post call) (cond (is_post_at good position call) 1 0) 0 ≡ cond (is_post_at good position call) 1 0
only_posts good position (Post other place nets) = refl
only_posts good position (Read agent) = refl

pub posts_named : (good position : ℕ) (cash : List CashEntry) → sum_by (naming good position) (posts_of cash) ≡ named good position cash
posts_named good position [] = refl
posts_named good position (e ∷ cash) =
    omega (arith, filtered (naming good position) (is_post e.call) e (posts_of cash), only_posts good position e.call, posts_named good position cash, sum_by-cons (naming good position) e cash)

-- what is named by one is posted
pub posted_from_named : (good position : ℕ) (cash : List CashEntry) → 0 < named good position cash → is_posted cash good position ≡ true
posted_from_named good position [] some = absurd (omega (arith, some))
posted_from_named good position (e ∷ cash) some = by_test (is_post_at good position e.call) (sum_by-cons (naming good position) e cash) (λ more. posted_from_named good position cash more)
  where
    by_test : (b : Bool) → named good position (e ∷ cash) ≡ cond b 1 0 + named good position cash → (0 < named good position cash → is_posted cash good position ≡ true) → (b || is_posted cash good position) ≡ true
    by_test true is later = refl
    by_test false is later = later (omega (arith, is, some))

pub named_from_posted : (good position : ℕ) (cash : List CashEntry) → is_posted cash good position ≡ true → 0 < named good position cash
named_from_posted good position [] is = absurd cc
named_from_posted good position (e ∷ cash) is = by_test (is_post_at good position e.call) (sum_by-cons (naming good position) e cash) (λ later. named_from_posted good position cash later) is
  where
    by_test : (b : Bool) → named good position (e ∷ cash) ≡ cond b 1 0 + named good position cash → (is_posted cash good position ≡ true → 0 < named good position cash) → (b || is_posted cash good position) ≡ true →
        0 < named good position (e ∷ cash)
    by_test true sum later is' = omega (arith, sum)
    by_test false sum later is' = let more = later is' in omega (arith, sum, more)

-- ---- the posts that are due

-- those of histories whose goods are numbered from a number
abbrev pub due_from : ℕ → List (List Entry) → List CashEntry
due_from n histories = flat_map (λ row. due_to row.0 row.1) (enumerate_from n (map (enumerate_from 0) histories))

pub due_row : (w : CashEntry → ℕ) (good k : ℕ) (e : Entry) (history : List Entry) → sum_by w (due_to good (enumerate_from k (e ∷ history))) ≡ sum_by w (due_post good k e) + sum_by w (due_to good (enumerate_from (k + 1) history))
due_row w good k e history = sum_by-append w (due_post good k e) (due_to good (enumerate_from (k + 1) history))

pub due_rows : (w : CashEntry → ℕ) (n : ℕ) (history : List Entry) (histories : List (List Entry)) → sum_by w (due_from n (history ∷ histories)) ≡ sum_by w (due_to n (enumerate_from 0 history)) + sum_by w (due_from (n + 1) histories)
due_rows w n history histories = sum_by-append w (due_to n (enumerate_from 0 history)) (due_from (n + 1) histories)

-- the post that is due to an entry weighs no more than all
row_least : (w : CashEntry → ℕ) (good k j : ℕ) (history : List Entry) (e : Entry) → slice_get history j ≡ Some e → sum_by w (due_post good (k + j) e) ≤ sum_by w (due_to good (enumerate_from k history))
row_least w good k j [] e at = let never : None ≡ Some e = at in absurd cc
row_least w good k zero (x ∷ history) e at =
    let same : x ≡ e = cc in let here : k ≡ k + 0 = omega arith in
    let weight : sum_by w (due_post good k x) ≡ sum_by w (due_post good (k + 0) e) = λ i. sum_by w (due_post good (here i) (same i)) in
    omega (arith, due_row w good k x history, weight)
row_least w good k (suc j) (x ∷ history) e at =
    let ih = row_least w good (k + 1) j history e at in let next : (k + 1) + j ≡ k + suc j = omega arith in
    let weight : sum_by w (due_post good ((k + 1) + j) e) ≡ sum_by w (due_post good (k + suc j) e) = ap (λ (p : ℕ). sum_by w (due_post good p e)) next in
    omega (arith, due_row w good k x history, ih, weight)

pub due_least : (w : CashEntry → ℕ) (n i j : ℕ) (histories : List (List Entry)) (history : List Entry) (e : Entry) → slice_get histories i ≡ Some history → slice_get history j ≡ Some e
    → sum_by w (due_post (n + i) j e) ≤ sum_by w (due_from n histories)
due_least w n i j [] history e at at' = let never : None ≡ Some history = at in absurd cc
due_least w n zero j (h ∷ histories) history e at at' =
    let same : h ≡ history = cc in let here : n ≡ n + 0 = omega arith in let first : 0 + j ≡ j = omega arith in
    let row = row_least w n 0 j h e (ap (λ (l : List Entry). slice_get l j) same ∙ at') in
    let weight : sum_by w (due_post n (0 + j) e) ≡ sum_by w (due_post (n + 0) j e) = λ i. sum_by w (due_post (here i) (first i) e) in
    omega (arith, due_rows w n h histories, row, weight)
due_least w n (suc i) j (h ∷ histories) history e at at' =
    let ih = due_least w (n + 1) i j histories history e at at' in let next : (n + 1) + i ≡ n + suc i = omega arith in
    let weight : sum_by w (due_post ((n + 1) + i) j e) ≡ sum_by w (due_post (n + suc i) j e) = ap (λ (g : ℕ). sum_by w (due_post g j e)) next in
    omega (arith, due_rows w n h histories, ih, weight)

-- a due post that weighs something
pub record IsHeavy (w : CashEntry → ℕ) (good position : ℕ) (e : Entry) : Type 0 where
  pub heavy : 0 < sum_by w (due_post good position e)

row_heavy : (w : CashEntry → ℕ) (good k : ℕ) (history : List Entry) → 0 < sum_by w (due_to good (enumerate_from k history))
    → (j : ℕ) × (e : Entry) × (slice_get history j ≡ Some e) × IsHeavy w good (k + j) e
row_heavy w good k [] some = absurd (omega (arith, some))
row_heavy w good k (x ∷ history) some = by_weight (sum_by w (due_post good k x)) refl (λ more. row_heavy w good (k + 1) history more)
  where
    by_weight : (n : ℕ) → sum_by w (due_post good k x) ≡ n
        → (0 < sum_by w (due_to good (enumerate_from (k + 1) history)) → (j : ℕ) × (e : Entry) × (slice_get history j ≡ Some e) × IsHeavy w good ((k + 1) + j) e)
        → (j : ℕ) × (e : Entry) × (slice_get (x ∷ history) j ≡ Some e) × IsHeavy w good (k + j) e
    by_weight zero is rest =
        let later = rest (omega (arith, due_row w good k x history, is, some)) in let next : (k + 1) + later.0 ≡ k + suc later.0 = omega arith in
        (suc later.0, later.1, later.2, subst (λ (p : ℕ). IsHeavy w good p later.1) next later.3)
    by_weight (suc n) is rest =
        let here : k ≡ k + 0 = omega arith in
        (0, x, refl, subst (λ (p : ℕ). IsHeavy w good p x) here (record { heavy = omega (arith, is) }))

pub due_heavy : (w : CashEntry → ℕ) (n : ℕ) (histories : List (List Entry)) → 0 < sum_by w (due_from n histories)
    → (i : ℕ) × (j : ℕ) × (history : List Entry) × (e : Entry) × (slice_get histories i ≡ Some history) × (slice_get history j ≡ Some e) × IsHeavy w (n + i) j e
due_heavy w n [] some = absurd (omega (arith, some))
due_heavy w n (h ∷ histories) some = by_weight (sum_by w (due_to n (enumerate_from 0 h))) refl (λ more. due_heavy w (n + 1) histories more)
  where
    by_weight : (m : ℕ) → sum_by w (due_to n (enumerate_from 0 h)) ≡ m
        → (0 < sum_by w (due_from (n + 1) histories)
        → (i : ℕ) × (j : ℕ) × (history : List Entry) × (e : Entry) × (slice_get histories i ≡ Some history) × (slice_get history j ≡ Some e) × IsHeavy w ((n + 1) + i) j e)
        → (i : ℕ) × (j : ℕ) × (history : List Entry) × (e : Entry) × (slice_get (h ∷ histories) i ≡ Some history) × (slice_get history j ≡ Some e) × IsHeavy w (n + i) j e
    by_weight zero is rest =
        let later = rest (omega (arith, due_rows w n h histories, is, some)) in let next : (n + 1) + later.0 ≡ n + suc later.0 = omega arith in
        (suc later.0, later.1, later.2, later.3, later.4, later.5, subst (λ (g : ℕ). IsHeavy w g later.1 later.3) next later.6)
    by_weight (suc m) is rest =
        let row = row_heavy w n 0 h (omega (arith, is)) in let here : n ≡ n + 0 = omega arith in let first : 0 + row.0 ≡ row.0 = omega arith in
        (0, row.0, h, row.1, refl, row.2, subst (λ (g : ℕ). IsHeavy w g row.0 row.1) here (subst (λ (p : ℕ). IsHeavy w n p row.1) first row.3))

-- ---- no place is named by two due posts

name_of_due : (good position g k : ℕ) (e : Entry) → sum_by (naming good position) (due_post g k e) ≤ cond ((g == good) && (k == position)) 1 0
name_of_due good position g k e = by_trades e.trades
  where
    by_trades : (trades : List Trade) → sum_by (naming good position) (post_for trades (record { caller = e.caller; call = Post g k (record { dollars = nets_of trades }); reply = Done })) ≤ cond ((g == good) && (k == position)) 1 0
    by_trades [] = omega arith
    by_trades (t ∷ ts) = omega arith

other_good : (good position g k : ℕ) → g ≢ good → cond {A = ℕ} ((g == good) && (k == position)) 1 0 ≡ 0
other_good good position g k ne = ap (λ b. cond {A = ℕ} (b && (k == position)) 1 0) (ne_eqb g good ne)

other_position : (good position g k : ℕ) → k ≢ position → cond {A = ℕ} ((g == good) && (k == position)) 1 0 ≡ 0
other_position good position g k ne = ap (λ b. cond {A = ℕ} ((g == good) && b) 1 0) (ne_eqb k position ne) ∙ by_test (g == good)
  where
    by_test : (b : Bool) → cond {A = ℕ} (b && false) 1 0 ≡ 0
    by_test true = refl
    by_test false = refl

at_most_one : (b : Bool) → cond {A = ℕ} b 1 0 ≤ 1
at_most_one true = omega arith
at_most_one false = omega arith

row_none : (good position g k : ℕ) (history : List Entry) → g ≢ good → sum_by (naming good position) (due_to g (enumerate_from k history)) ≡ 0
row_none good position g k [] ne = refl
row_none good position g k (e ∷ history) ne =
    omega (arith, due_row (naming good position) g k e history, name_of_due good position g k e, other_good good position g k ne, row_none good position g (k + 1) history ne)

row_later : (good position g k : ℕ) (history : List Entry) → position < k → sum_by (naming good position) (due_to g (enumerate_from k history)) ≡ 0
row_later good position g k [] later = refl
row_later good position g k (e ∷ history) later =
    omega (
      arith,
      due_row (naming good position) g k e history,
      name_of_due good position g k e,
      other_position good position g k (λ is. absurd (omega (arith, is, later))),
      row_later good position g (k + 1) history (omega (arith, later)),
    )

row_most : (good position g k : ℕ) (history : List Entry) → sum_by (naming good position) (due_to g (enumerate_from k history)) ≤ 1
row_most good position g k [] = omega arith
row_most good position g k (e ∷ history) = dite (ℕ_discrete k position)
    (λ is. omega (arith, due_row (naming good position) g k e history, name_of_due good position g k e, at_most_one ((g == good) && (k == position)), row_later good position g (k + 1) history (omega (arith, is))))
    (λ ne. omega (arith, due_row (naming good position) g k e history, name_of_due good position g k e, other_position good position g k ne, row_most good position g (k + 1) history))

due_later : (good position n : ℕ) (histories : List (List Entry)) → good < n → sum_by (naming good position) (due_from n histories) ≡ 0
due_later good position n [] later = refl
due_later good position n (h ∷ histories) later =
    omega (
      arith,
      due_rows (naming good position) n h histories,
      row_none good position n 0 h (λ is. absurd (omega (arith, is, later))),
      due_later good position (n + 1) histories (omega (arith, later)),
    )

pub due_most : (good position n : ℕ) (histories : List (List Entry)) → sum_by (naming good position) (due_from n histories) ≤ 1
due_most good position n [] = omega arith
due_most good position n (h ∷ histories) = dite (ℕ_discrete n good)
    (λ is. omega (arith, due_rows (naming good position) n h histories, row_most good position n 0 h, due_later good position (n + 1) histories (omega (arith, is))))
    (λ ne. omega (arith, due_rows (naming good position) n h histories, row_none good position n 0 h ne, due_most good position (n + 1) histories))

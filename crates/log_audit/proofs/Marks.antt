-- The posts that are due at marked places, and what they weigh.
use Rattle.std.proofs.Common.{◌≡◌, ◌≢◌, ℕ, zero, suc, ◌+◌, ◌≤◌, Bool, true, false, cond, List, [], ◌∷◌, sum_by, refl, sym, ap, ◌∙◌, arith, Some, None, slice_get}
use Rattle.std.specs.List.{enumerate_from}
use Rattle.log_audit.specs.Prelude.{Trade, nets as nets_of, Post, Done, CashEntry, post_for, due_post, due_to}
use Rattle.auction_rules.specs.History.{Entry}
use Rattle.log_audit.proofs.Sums.{due_from, due_row, due_rows}

module _ (w : CashEntry → ℕ) where
  abbrev pub marked_row : (ℕ → ℕ → Bool) → ℕ → ℕ → List Entry → ℕ
  marked_row m g k [] = 0
  marked_row m g k (e ∷ history) = cond (m g k) (sum_by w (due_post g k e)) 0 + marked_row m g (k + 1) history

  -- the weight of the due posts at marked places, where the goods are numbered from a number
  abbrev pub marked : (ℕ → ℕ → Bool) → ℕ → List (List Entry) → ℕ
  marked m n [] = 0
  marked m n (history ∷ histories) = marked_row m n 0 history + marked m (n + 1) histories

  no_row : (g k : ℕ) (history : List Entry) → marked_row (λ _ _. false) g k history ≡ 0
  no_row g k [] = refl
  no_row g k (e ∷ history) = omega (arith, no_row g (k + 1) history)

  -- if nothing is marked
  pub none_marked : (n : ℕ) (histories : List (List Entry)) → marked (λ _ _. false) n histories ≡ 0
  none_marked n [] = refl
  none_marked n (h ∷ histories) = omega (arith, no_row n 0 h, none_marked (n + 1) histories)

  module _ (m m' : ℕ → ℕ → Bool) where
    same_row : (g k : ℕ) (history : List Entry) → ((p : ℕ) → k ≤ p → m' g p ≡ m g p) → marked_row m' g k history ≡ marked_row m g k history
    same_row g k [] same = refl
    same_row g k (e ∷ history) same =
        let here : cond (m' g k) (sum_by w (due_post g k e)) 0 ≡ cond (m g k) (sum_by w (due_post g k e)) 0 = ap (λ b. cond b (sum_by w (due_post g k e)) 0) (same k (omega arith)) in
        omega (arith, here, same_row g (k + 1) history (λ p le. same p (omega (arith, le))))

    -- if the same is marked
    pub same_marked : (n : ℕ) (histories : List (List Entry)) → ((g p : ℕ) → n ≤ g → m' g p ≡ m g p) → marked m' n histories ≡ marked m n histories
    same_marked n [] same = refl
    same_marked n (h ∷ histories) same =
        omega (arith, same_row n 0 h (λ p le. same n p (omega arith)), same_marked (n + 1) histories (λ g p le. same g p (omega (arith, le))))

    more_row : (g k j : ℕ) (history : List Entry) (e : Entry) → slice_get history j ≡ Some e → m g (k + j) ≡ false → m' g (k + j) ≡ true → ((p : ℕ) → p ≢ k + j → m' g p ≡ m g p)
        → marked_row m' g k history ≡ marked_row m g k history + sum_by w (due_post g (k + j) e)
    more_row g k j [] e at old new others = let never : None ≡ Some e = at in absurd cc
    more_row g k zero (x ∷ history) e at old new others =
        let same : x ≡ e = cc in let here : k + 0 ≡ k = omega arith in
        let before : cond (m g k) (sum_by w (due_post g k x)) 0 ≡ 0 = ap (λ b. cond b (sum_by w (due_post g k x)) 0) (ap (m g) (sym here) ∙ old) in
        let after : cond (m' g k) (sum_by w (due_post g k x)) 0 ≡ sum_by w (due_post g k x) = ap (λ b. cond b (sum_by w (due_post g k x)) 0) (ap (m' g) (sym here) ∙ new) in
        let weight : sum_by w (due_post g (k + 0) e) ≡ sum_by w (due_post g k x) = λ i. sum_by w (due_post g (here i) (sym same i)) in
        let rest = same_row g (k + 1) history (λ p le. others p (λ is. absurd (omega (arith, is, le)))) in
        omega (arith, before, after, weight, rest)
    more_row g k (suc j) (x ∷ history) e at old new others =
        let next : (k + 1) + j ≡ k + suc j = omega arith in
        let here : cond (m' g k) (sum_by w (due_post g k x)) 0 ≡ cond (m g k) (sum_by w (due_post g k x)) 0 = ap (λ b. cond b (sum_by w (due_post g k x)) 0) (others k (λ is. absurd (omega (arith, is)))) in
        let ih = more_row g (k + 1) j history e at (ap (m g) next ∙ old) (ap (m' g) next ∙ new) (λ p ne. others p (λ is. ne (is ∙ sym next))) in
        let weight : sum_by w (due_post g ((k + 1) + j) e) ≡ sum_by w (due_post g (k + suc j) e) = ap (λ (p : ℕ). sum_by w (due_post g p e)) next in
        omega (arith, here, ih, weight)

    -- if one more place is marked
    pub more_marked : (n i j : ℕ) (histories : List (List Entry)) (history : List Entry) (e : Entry) → slice_get histories i ≡ Some history → slice_get history j ≡ Some e
        → m (n + i) j ≡ false → m' (n + i) j ≡ true → ((g p : ℕ) → ((g ≡ n + i) × (p ≡ j) → ⊥) → m' g p ≡ m g p)
        → marked m' n histories ≡ marked m n histories + sum_by w (due_post (n + i) j e)
    more_marked n i j [] history e at at' old new others = let never : None ≡ Some history = at in absurd cc
    more_marked n zero j (h ∷ histories) history e at at' old new others =
        let same : h ≡ history = cc in let here : n + 0 ≡ n = omega arith in let first : 0 + j ≡ j = omega arith in
        let row = more_row n 0 j h e (ap (λ (l : List Entry). slice_get l j) same ∙ at') ((λ i. m (sym here i) (first i)) ∙ old) ((λ i. m' (sym here i) (first i)) ∙ new)
        (λ p ne. others n p (λ both. ne (both.1 ∙ sym first))) in
        let weight : sum_by w (due_post n (0 + j) e) ≡ sum_by w (due_post (n + 0) j e) = λ i. sum_by w (due_post (sym here i) (first i) e) in
        let rest = same_marked (n + 1) histories (λ g p le. others g p (λ both. absurd (omega (arith, both.0, le)))) in
        omega (arith, row, weight, rest)
    more_marked n (suc i) j (h ∷ histories) history e at at' old new others =
        let next : (n + 1) + i ≡ n + suc i = omega arith in
        let row = same_row n 0 h (λ p le. others n p (λ both. absurd (omega (arith, both.0)))) in
        let ih = more_marked (n + 1) i j histories history e at at' (ap (λ (g : ℕ). m g j) next ∙ old) (ap (λ (g : ℕ). m' g j) next ∙ new) (λ g p no. others g p (λ both. no (both.0 ∙ sym next, both.1))) in
        let weight : sum_by w (due_post ((n + 1) + i) j e) ≡ sum_by w (due_post (n + suc i) j e) = ap (λ (g : ℕ). sum_by w (due_post g j e)) next in
        omega (arith, row, ih, weight)

  module _ (m : ℕ → ℕ → Bool) where
    all_row : (g k : ℕ) (history : List Entry) → ((j : ℕ) (e : Entry) → slice_get history j ≡ Some e → e.trades ≢ [] → m g (k + j) ≡ true) → marked_row m g k history ≡ sum_by w (due_to g (enumerate_from k history))
    all_row g k [] each = refl
    all_row g k (e ∷ history) each =
        let next : (j : ℕ) → (k + 1) + j ≡ k + suc j = λ j. omega arith in
        let ih = all_row g (k + 1) history (λ j x at some. ap (m g) (next j) ∙ each (suc j) x at some) in
        omega (arith, due_row w g k e history, ih, by_trades e.trades (each 0 e refl))
      where
        by_trades : (trades : List Trade) → (trades ≢ [] → m g (k + 0) ≡ true) →
            cond (m g k) (sum_by w (post_for trades (record { caller = e.caller; call = Post g k (record { dollars = nets_of trades }); reply = Done }))) 0
            ≡ sum_by w (post_for trades (record { caller = e.caller; call = Post g k (record { dollars = nets_of trades }); reply = Done }))
        by_trades [] is = by_test (m g k)
          where
            by_test : (b : Bool) → cond {A = ℕ} b 0 0 ≡ 0
            by_test true = refl
            by_test false = refl
        by_trades (t ∷ ts) is =
            let here : k + 0 ≡ k = omega arith in
            let on : m g k ≡ true = ap (m g) (sym here) ∙ is (λ never. absurd cc) in
            ap (λ b. cond b (sum_by w ((record { caller = e.caller; call = Post g k (record { dollars = nets_of (t ∷ ts) }); reply = Done }) ∷ [])) 0) on

    -- if each place of an entry with a trade is marked
    pub all_marked : (n : ℕ) (histories : List (List Entry))
        → ((i j : ℕ) (history : List Entry) (e : Entry) → slice_get histories i ≡ Some history → slice_get history j ≡ Some e → e.trades ≢ [] → m (n + i) j ≡ true) → marked m n histories ≡ sum_by w (due_from n histories)
    all_marked n [] each = refl
    all_marked n (h ∷ histories) each =
        let next : (i : ℕ) → (n + 1) + i ≡ n + suc i = λ i. omega arith in let here : n + 0 ≡ n = omega arith in let first : (j : ℕ) → 0 + j ≡ j = λ j. omega arith in
        let row = all_row n 0 h (λ j e at some. (λ i. m (sym here i) (first j i)) ∙ each 0 j h e refl at some) in
        let ih = all_marked (n + 1) histories (λ i j history e at at' some. ap (λ (g : ℕ). m g j) (next i) ∙ each (suc i) j history e at at' some) in
        omega (arith, due_rows w n h histories, row, ih)

-- A cash history is matched exactly if each of its posts is due and each entry with a trade has one.
use Rattle.std.proofs.Common.{◌≡◌, ◌≢◌, ℕ, zero, suc, ◌+◌, ◌<◌, ◌≤◌, Bool, true, false, ◌&&◌, ◌||◌, cond, List, [], ◌∷◌, ◌++◌, length, take, sum_by, refl, sym, ap, ◌∙◌, subst, arith, Some, slice_get, slice_index_or, eq-eqb, ne_eqb, ◌==◌}
use Rattle.std.proofs.lemmas.List.Elements.{filter-append}
use Rattle.std.proofs.lemmas.List.Sums.{sum_by-append, sum_by-cons}
use Rattle.std.proofs.lemmas.Option.{slice_get-get_or, slice_get_within, get_or_from_slice_get}
use Rattle.std.proofs.lemmas.Bool.{and_right, or_right}
use mathlib.Core.Logic.{dite}
use native.Mathlib.Decide.{ℕ_discrete}
use Rattle.log_audit.specs.{Nets, Trade, nets as nets_of, CashCall, Post, Read, CashReply, Done, Cash, CashEntry, is_post, posts_of, post_for, due_post, Matched, LoggedGame, IsLogged, IsLoggedCash, IsLoggedCashEntry, logged_history, is_post_at, is_posted, IsEarned, IsDuePost, HasDuePost, HasPost}
use Rattle.auction_rules.specs.History.{Entry}
use Rattle.log_audit.proofs.Positions.{found_at, take_at, split_at, all_taken}
use Rattle.log_audit.proofs.Sums.{naming, named, posts_named, posted_from_named, named_from_posted, post_within, due_least, IsHeavy, due_heavy, due_most}
use Rattle.log_audit.proofs.Naming.{posted_more, or_none}
use Rattle.log_audit.proofs.Marks.{marked, none_marked, same_marked, more_marked, all_marked}
use Rattle.log_audit.proofs.Codes.{is_one, one-same, one-true}

-- the post that is due to an entry with a trade
due_is : (caller good position : ℕ) (nets : Nets) (e : Entry) → IsEarned caller nets e → due_post good position e ≡ (record { caller = caller; call = Post good position nets; reply = Done }) ∷ []
due_is caller good position nets e earned = by_trades e.trades earned.trades earned.nets_are
  where
    by_trades : (trades : List Trade) → trades ≢ [] → nets.dollars ≡ nets_of trades
        → post_for trades (record { caller = e.caller; call = Post good position (record { dollars = nets_of trades }); reply = Done }) ≡ (record { caller = caller; call = Post good position nets; reply = Done }) ∷ []
    by_trades [] some is = absurd (some refl)
    by_trades (t ∷ ts) some is = λ i. (record { caller = sym earned.caller_is i; call = Post good position (record { dollars = sym is i }); reply = Done }) ∷ []

-- the post that is due to an entry at a place, where these are its trades
abbrev due_entry : ℕ → ℕ → Entry → List Trade → CashEntry
due_entry good position e trades = record { caller = e.caller; call = Post good position (record { dollars = nets_of trades }); reply = Done }

module _ (histories : List (List Entry)) (goods : length histories ≡ 28) where
  abbrev history : ℕ → List Entry
  history good = slice_index_or histories good []

  history_is : (good : ℕ) → good < 28 → slice_get histories good ≡ Some (history good)
  history_is good low = slice_get-get_or histories good [] (omega (arith, goods, low))

  -- ---- posts that are due, one after the other

  module _ (w : CashEntry → ℕ) where
    -- the posts so far have the weight of the due posts of the places that they name
    abbrev AreEven : List CashEntry → Type 0
    AreEven cash = sum_by w (posts_of cash) ≡ marked w (is_posted cash) 0 histories

    one_more : (before : List CashEntry) (caller : ℕ) (call : CashCall) (reply : CashReply) → IsLoggedCash caller call reply → IsDuePost history before caller call → AreEven before
        → AreEven (before ++ (record { caller = caller; call = call; reply = reply }) ∷ [])
    one_more before caller (Read agent) reply logged due even =
        let e : CashEntry = record { caller = caller; call = Read agent; reply = reply } in
        let posts : sum_by w (posts_of (before ++ e ∷ [])) ≡ sum_by w (posts_of before) + 0 = ap (sum_by w) (filter-append (λ (x : CashEntry). is_post x.call) before (e ∷ [])) ∙ sum_by-append w (posts_of before) [] in
        let marks = same_marked w (is_posted before) (is_posted (before ++ e ∷ [])) 0 histories (λ g p low. posted_more before e g p ∙ or_none (is_posted before g p)) in
        omega (arith, posts, marks, even)
    one_more before caller (Post good position nets) (Cash dollars) logged due even = absurd logged
    one_more before caller (Post good position nets) Done logged due even =
        let e : CashEntry = record { caller = caller; call = Post good position nets; reply = Done } in
        let entry = due.0.0 in
        let posts : sum_by w (posts_of (before ++ e ∷ [])) ≡ sum_by w (posts_of before) + sum_by w (e ∷ []) = ap (sum_by w) (filter-append (λ (x : CashEntry). is_post x.call) before (e ∷ [])) ∙ sum_by-append w (posts_of before) (e ∷ []) in
        let own : is_post_at good position e.call ≡ true = (λ i. eq-eqb good good refl i && eq-eqb position position refl i) in
        let here : is_posted (before ++ e ∷ []) good position ≡ true = posted_more before e good position ∙ (ap (λ b. is_posted before good position || (b || false)) own ∙ or_right (is_posted before good position) (true || false) refl) in
        let low : good < 28 = omega (arith, logged.1) in let zeroed : 0 + good ≡ good = omega arith in
        let marks = more_marked w (is_posted before) (is_posted (before ++ e ∷ [])) 0 good position histories (history good) entry (history_is good low) due.0.1 (ap (λ (g : ℕ). is_posted before g position) zeroed ∙ due.1) (ap (λ (g : ℕ). is_posted (before ++ e ∷ []) g position) zeroed ∙ here)
        (λ g p off. posted_more before e g p ∙ (ap (λ b. is_posted before g p || (b || false)) (apart g p (λ both. off (both.0 ∙ sym zeroed, both.1))) ∙ or_none (is_posted before g p))) in
        let weight : sum_by w (due_post (0 + good) position entry) ≡ sum_by w (e ∷ []) = ap (λ (g : ℕ). sum_by w (due_post g position entry)) zeroed ∙ ap (sum_by w) (due_is caller good position nets entry due.0.2) in
        omega (arith, posts, marks, even, weight)
      where
        apart : (g p : ℕ) → ((g ≡ good) × (p ≡ position) → ⊥) → ((good == g) && (position == p)) ≡ false
        apart g p other = dite (ℕ_discrete good g)
            (λ is. dite (ℕ_discrete position p) (λ is'. absurd (other (sym is, sym is'))) (λ ne. (ap (λ b. (good == g) && b) (ne_eqb position p ne)) ∙ and_right (good == g) false refl))
            (λ ne. ap (λ b. b && (position == p)) (ne_eqb good g ne))

    all_even : (cash : List CashEntry) → ((position : ℕ) (e : CashEntry) → slice_get cash position ≡ Some e → IsLoggedCashEntry e)
        → ((position : ℕ) (e : CashEntry) → slice_get cash position ≡ Some e → IsDuePost history (take position cash) e.caller e.call) → (n : ℕ) → n ≤ length cash → AreEven (take n cash)
    all_even cash logged due zero le = sym (none_marked w 0 histories)
    all_even cash logged due (suc n) le =
        let found = found_at cash n (omega (arith, le)) in let e = found.0 in let next : n + 1 ≡ suc n = omega arith in
        let more : take n cash ++ e ∷ [] ≡ take (suc n) cash = sym (take_at cash n e found.1) ∙ ap (λ (k : ℕ). take k cash) next in
        subst AreEven more (one_more (take n cash) e.caller e.call e.reply (logged n e found.1) (due n e found.1) (all_even cash logged due n (omega (arith, le))))

module _ (log : LoggedGame) (logged : IsLogged log) (cash_logged : (position : ℕ) (e : CashEntry) → slice_get log.cash position ≡ Some e → IsLoggedCashEntry e) where
  -- posts that are due, one for each entry with a trade, are those that are due
  pub matched_from_due : ((position : ℕ) → HasDuePost log position) → ((good position : ℕ) → good < 28 → HasPost log good position) → Matched log.histories log.cash
  matched_from_due due posted w =
      let cash = log.cash in
      let even = all_even log.histories logged.goods w cash cash_logged due (length cash) (omega arith) in
      let whole : take (length cash) cash ≡ cash = all_taken cash (length cash) (omega arith) in
      subst (AreEven log.histories logged.goods w) whole even
      ∙ all_marked w (is_posted cash) 0 log.histories (λ i j history e at at' some.
      ap (λ (g : ℕ). is_posted cash g j) (let zeroed : 0 + i ≡ i = omega arith in zeroed) ∙ posted i j (within i history at) e (ap (λ (l : List Entry). slice_get l j) (get_or_from_slice_get log.histories i history [] at) ∙ at') some)
    where
      within : (i : ℕ) (history : List Entry) → slice_get log.histories i ≡ Some history → i < 28
      within i history at = let inside = slice_get_within log.histories i history at in let goods = logged.goods in omega (arith, inside, goods)

  module _ (matched : Matched log.histories log.cash) where
    -- a post of a matched history is the one that is due to an entry
    due_from_matched : (position : ℕ) (e : CashEntry) → slice_get log.cash position ≡ Some e → is_post e.call ≡ true
        → (i : ℕ) × (j : ℕ) × (history : List Entry) × (x : Entry) × (slice_get log.histories i ≡ Some history) × (slice_get history j ≡ Some x) × IsHeavy (λ other. cond (is_one e other) 1 0) i j x
    due_from_matched position e at post =
        let w : CashEntry → ℕ = λ other. cond (is_one e other) 1 0 in
        let own : w e ≡ 1 = ap (λ b. cond {A = ℕ} b 1 0) (one-same e) in
        let found = due_heavy w 0 log.histories (let least = post_within w log.cash position e at post in omega (arith, least, own, matched w)) in
        let here : 0 + found.0 ≡ found.0 = omega arith in
        (found.0, found.1, found.2, found.3, found.4, found.5, subst (λ (g : ℕ). IsHeavy w g found.1 found.3) here found.6)

    is_due : (one : CashEntry) (g p : ℕ) (x : Entry) → IsHeavy (λ other. cond (is_one one other) 1 0) g p x → (x.trades ≢ []) × (one ≡ due_entry g p x x.trades)
    is_due one g p x heavy = by_trades x.trades heavy.heavy
      where
        by_trades : (trades : List Trade) → 0 < sum_by (λ other. cond (is_one one other) 1 0) (post_for trades (due_entry g p x trades)) → (trades ≢ []) × (one ≡ due_entry g p x trades)
        by_trades [] some = absurd (omega (arith, some))
        by_trades (t ∷ ts) some = ((λ never. absurd cc), by_test (is_one one (due_entry g p x (t ∷ ts))) refl (omega (arith, some)))
          where
            by_test : (b : Bool) → is_one one (due_entry g p x (t ∷ ts)) ≡ b → 0 < cond {A = ℕ} b 1 0 → one ≡ due_entry g p x (t ∷ ts)
            by_test true is some' = one-true one (due_entry g p x (t ∷ ts)) is
            by_test false is some' = absurd (omega (arith, some'))

    -- no two posts name one place
    named_once : (good position : ℕ) → named good position log.cash ≤ 1
    named_once good position = omega (arith, posts_named good position log.cash, matched (naming good position), due_most good position 0 log.histories)

    once_before : (place good position : ℕ) (e : CashEntry) → slice_get log.cash place ≡ Some e → is_post_at good position e.call ≡ true → is_posted (take place log.cash) good position ≡ false
    once_before place good position e at own = by_test (is_posted (take place log.cash) good position) refl
      where
        by_test : (b : Bool) → is_posted (take place log.cash) good position ≡ b → b ≡ false
        by_test false is = refl
        by_test true is =
            let split = split_at log.cash place e at in
            let first = named_from_posted good position (take place log.cash) is in
            let sum : named good position log.cash ≡ named good position (take place log.cash) + named good position (e ∷ split.0) = ap (named good position) split.1 ∙ sum_by-append (naming good position) (take place log.cash) (e ∷ split.0) in
            let here : named good position (e ∷ split.0) ≡ 1 + named good position split.0 = sum_by-cons (naming good position) e split.0 ∙ ap (λ b. cond {A = ℕ} b 1 0 + named good position split.0) own in
            absurd (omega (arith, first, sum, here, named_once good position))

    due_by : (place caller : ℕ) (call : CashCall) (reply : CashReply) → slice_get log.cash place ≡ Some (record { caller = caller; call = call; reply = reply }) → IsDuePost (logged_history log) (take place log.cash) caller call
    due_by place caller (Read agent) reply at = tt
    due_by place caller (Post good position nets) reply at =
        let e : CashEntry = record { caller = caller; call = Post good position nets; reply = reply } in
        let found = due_from_matched place e at refl in
        let i = found.0 in let j = found.1 in let x = found.3 in
        let one = is_due e i j x found.6 in
        let calls : Post good position nets ≡ Post i j (record { dollars = nets_of x.trades }) = ap (λ (c : CashEntry). c.call) one.1 in
        let good_is : good ≡ i = cc in let position_is : position ≡ j = cc in let nets_is : nets ≡ record { dollars = nets_of x.trades } = cc in
        let history_is : logged_history log good ≡ found.2 = ap (logged_history log) good_is ∙ get_or_from_slice_get log.histories i found.2 [] found.4 in (
          (x, (λ k. slice_get (history_is k) (position_is k)) ∙ found.5, record { trades = one.0; caller_is = ap (λ (c : CashEntry). c.caller) one.1; nets_are = ap (λ (n : Nets). n.dollars) nets_is }),
          once_before place good position e at (λ k. eq-eqb good good refl k && eq-eqb position position refl k),
        )

    pub due_posts_from : (position : ℕ) → HasDuePost log position
    due_posts_from position e at = due_by position e.caller e.call e.reply at

    pub has_post_from : (good position : ℕ) → good < 28 → HasPost log good position
    has_post_from good position low e at some =
        let goods = logged.goods in
        let least = due_least (naming good position) 0 good position log.histories (logged_history log good) e (slice_get-get_or log.histories good [] (omega (arith, goods, low))) at in
        let here : sum_by (naming good position) (due_post (0 + good) position e) ≡ sum_by (naming good position) (due_post good position e) = ap (λ (g : ℕ). sum_by (naming good position) (due_post g position e)) (let first : 0 + good ≡ good = omega arith in first) in
        posted_from_named good position log.cash (omega (arith, least, here, by_trades e.trades some, posts_named good position log.cash, matched (naming good position)))
      where
        by_trades : (trades : List Trade) → trades ≢ [] → 1 ≤ sum_by (naming good position) (post_for trades (record { caller = e.caller; call = Post good position (record { dollars = nets_of trades }); reply = Done }))
        by_trades [] some' = absurd (some' refl)
        by_trades (t ∷ ts) some' =
            let own : is_post_at good position (Post good position (record { dollars = nets_of (t ∷ ts) })) ≡ true = (λ i. eq-eqb good good refl i && eq-eqb position position refl i) in
            let one : cond {A = ℕ} ((good == good) && (position == position)) 1 0 ≡ 1 = ap (λ b. cond {A = ℕ} b 1 0) own in
            omega (arith, one)

-- A cash history is matched if the posts of each caller are those due to its own entries; then its totals are those of the trades.
use Rattle.std.proofs.Common.{◌≡◌, ◌≢◌, ℕ, zero, suc, ◌+◌, ◌*◌, ◌≤◌, Bool, true, false, cond, eqb, List, [], ◌∷◌, ◌++◌, map, fold, length, sum_by, sym, refl, ap, ◌∙◌, arith, eq-eqb, ne_eqb, ℤ, pos, negsuc, ◌+ℤ◌, ◌-ℤ◌, slice_index_or, flat_map}
use Rattle.std.specs.List.{enumerate_from, AllByRecursion}
use Rattle.std.proofs.lemmas.Int.{ints}
use Rattle.std.proofs.lemmas.List.Sums.{sum_by-append, sum_by-cons}
use Rattle.std.proofs.lemmas.List.Elements.{filter-append}
use mathlib.Core.Logic.{dite}
use native.Mathlib.Decide.{ℕ_discrete, dec_le}
use Rattle.trade_ledger.specs.Prelude.{Trade, Entry, buys_by, sales_by, dollars, nets, part_from, part}
use Rattle.turn_lock.proofs.Parts.{nine}
use Rattle.trade_ledger.specs.declared.cash_calls.CashCall.{CashCall}
use Rattle.trade_ledger.specs.declared.cash_calls.CashCall.TheVariants.{Post, Read}
use Rattle.trade_ledger.specs.declared.cash_calls.CashReply.TheVariants.{Done}
use Rattle.trade_ledger.specs.declared.cash_calls.CashEntry.{CashEntry}
use Rattle.trade_ledger.specs.CashHistory.{cash_total}
use Rattle.trade_ledger.proofs.CashSteps.{posted_nets}
use Rattle.trade_ledger.specs.BookPosts.{HoldSame, is_post, posts_of, due_to, due_posts, Matched, trades_of_all}
use Rattle.trade_ledger.specs.Posts.{post_for, due_post}
use Rattle.trade_ledger.proofs.Trading.{get_or-nine}

-- ---- sums over a history are sums over its nine parts

-- the caller's own of nine numbers, else 0
abbrev pub own : ℕ → ℕ → ℕ → ℕ
own b n c = cond (eqb b c) n 0

nine_own : (b n : ℕ) → b ≤ 8 → nine (own b n) ≡ n
nine_own zero n h = omega arith
nine_own (suc zero) n h = omega arith
nine_own (suc (suc zero)) n h = omega arith
nine_own (suc (suc (suc zero))) n h = omega arith
nine_own (suc (suc (suc (suc zero)))) n h = omega arith
nine_own (suc (suc (suc (suc (suc zero))))) n h = omega arith
nine_own (suc (suc (suc (suc (suc (suc zero)))))) n h = omega arith
nine_own (suc (suc (suc (suc (suc (suc (suc zero))))))) n h = omega arith
nine_own (suc (suc (suc (suc (suc (suc (suc (suc zero)))))))) n h = omega arith
nine_own (suc (suc (suc (suc (suc (suc (suc (suc (suc b))))))))) n h = absurd (omega arith)

module _ {E : Type 0} (caller_of : E → ℕ) (f : ℕ × E → ℕ) where
  part_sum : (c n : ℕ) (x : E) (h : List E) → sum_by f (part_from caller_of c n (x ∷ h)) ≡ own (caller_of x) (f (n, x)) c + sum_by f (part_from caller_of c (n + 1) h)
  part_sum c n x h = dite (ℕ_discrete (caller_of x) c)
      (λ y. rw (eq-eqb (caller_of x) c y) (sum_by-cons f (n, x) (part_from caller_of c (n + 1) h)))
      (λ y. rw (ne_eqb (caller_of x) c y) (omega arith))

  pub nine_sums : (n : ℕ) (h : List E) → AllByRecursion (λ e. caller_of e ≤ 8) h → sum_by f (enumerate_from n h) ≡ nine (λ c. sum_by f (part_from caller_of c n h))
  nine_sums n [] small = refl
  nine_sums n (x ∷ h) small =
      omega (
        arith,
        nine_sums (n + 1) h small.1,
        nine_own (caller_of x) (f (n, x)) small.0,
        sum_by-cons f (n, x) (enumerate_from (n + 1) h),
        part_sum 0 n x h,
        part_sum 1 n x h,
        part_sum 2 n x h,
        part_sum 3 n x h,
        part_sum 4 n x h,
        part_sum 5 n x h,
        part_sum 6 n x h,
        part_sum 7 n x h,
        part_sum 8 n x h,
      )

-- if callers past the eighth have no part, no entry is theirs
module _ {E : Type 0} (caller_of : E → ℕ) where
  none_later : (c n : ℕ) (x : E) (h : List E) → part_from caller_of c n (x ∷ h) ≡ [] → (caller_of x ≢ c) × (part_from caller_of c (n + 1) h ≡ [])
  none_later c n x h none = dite (ℕ_discrete (caller_of x) c)
      (λ y. let some : part_from caller_of c n (x ∷ h) ≡ (n, x) ∷ part_from caller_of c (n + 1) h = rw (eq-eqb (caller_of x) c y) refl in
      let never : length ((n, x) ∷ part_from caller_of c (n + 1) h) ≡ 0 = ap length (sym some ∙ none) in absurd (omega arith))
      (λ y. let other : part_from caller_of c n (x ∷ h) ≡ part_from caller_of c (n + 1) h = rw (ne_eqb (caller_of x) c y) refl in (y, sym other ∙ none))

  called_from : (n : ℕ) (h : List E) → ((c : ℕ) → 9 ≤ c → part_from caller_of c n h ≡ []) → AllByRecursion (λ e. caller_of e ≤ 8) h
  called_from n [] none = tt
  called_from n (x ∷ h) none = (
    dite (dec_low (caller_of x)) (λ low. low) (λ high. absurd ((none_later (caller_of x) n x h (none (caller_of x) (omega arith))).0 refl)),
    called_from (n + 1) h (λ c le. (none_later c n x h (none c le)).1),
  )
    where
      dec_low : (b : ℕ) → Dec (b ≤ 8)
      dec_low b = dec_le b 8

  pub called_by_nine : (h : List E) → ((c : ℕ) → 9 ≤ c → part caller_of h c ≡ []) → AllByRecursion (λ e. caller_of e ≤ 8) h
  called_by_nine h none = called_from 0 h none

-- ---- posts by parts

pub filtered : (w : CashEntry → ℕ) (b : Bool) (e : CashEntry) (rest : List CashEntry) → sum_by w (cond b (e ∷ rest) rest) ≡ cond b (w e) 0 + sum_by w rest
filtered w true e rest = sum_by-cons w e rest
filtered w false e rest = omega arith

-- the weight of an entry, if it is a post
abbrev pub post_weight : (CashEntry → ℕ) → ℕ × CashEntry → ℕ
post_weight w p = cond (is_post p.1.call) (w p.1) 0

pub posts_weigh : (w : CashEntry → ℕ) (cash : List (ℕ × CashEntry)) → sum_by w (posts_of (map (λ p. p.1) cash)) ≡ sum_by (post_weight w) cash
posts_weigh w [] = refl
posts_weigh w (p ∷ cash) = omega (arith, filtered w (is_post p.1.call) p.1 (posts_of (map (λ p. p.1) cash)), posts_weigh w cash, sum_by-cons (post_weight w) p cash)

bare : (n : ℕ) (cash : List CashEntry) → map (λ p. p.1) (enumerate_from n cash) ≡ cash
bare n [] = refl
bare n (e ∷ cash) = ap (λ (l : List CashEntry). e ∷ l) (bare (n + 1) cash)

abbrev by : CashEntry → ℕ
by e = e.caller

-- the posts of a cash history have the weight of those of its nine parts
pub posts_by_parts : (w : CashEntry → ℕ) (cash : List CashEntry) → AllByRecursion (λ (e : CashEntry). e.caller ≤ 8) cash
    → sum_by w (posts_of cash) ≡ nine (λ c. sum_by w (posts_of (map (λ p. p.1) (part by cash c))))
posts_by_parts w cash called =
    let all = nine_sums by (post_weight w) 0 cash called in
    let whole : sum_by w (posts_of cash) ≡ sum_by (post_weight w) (enumerate_from 0 cash) = ap (λ (l : List CashEntry). sum_by w (posts_of l)) (sym (bare 0 cash)) ∙ posts_weigh w (enumerate_from 0 cash) in
    omega (
      arith,
      posts_weigh w (part by cash 0),
      posts_weigh w (part by cash 1),
      posts_weigh w (part by cash 2),
      posts_weigh w (part by cash 3),
      posts_weigh w (part by cash 4),
      posts_weigh w (part by cash 5),
      posts_weigh w (part by cash 6),
      posts_weigh w (part by cash 7),
      posts_weigh w (part by cash 8),
    )

-- ---- posts that are due, by parts

-- the weight of the post that is due to an entry
abbrev pub due_weight : (CashEntry → ℕ) → ℕ → ℕ × Entry → ℕ
due_weight w good p = sum_by w (due_post good p.0 p.1)

due_to_weighs : (w : CashEntry → ℕ) (good : ℕ) (entries : List (ℕ × Entry)) → sum_by w (due_to good entries) ≡ sum_by (due_weight w good) entries
due_to_weighs w good [] = refl
due_to_weighs w good (p ∷ entries) =
    omega (arith, sum_by-append w (due_post good p.0 p.1) (due_to good entries), due_to_weighs w good entries, sum_by-cons (due_weight w good) p entries)

abbrev due_from : ℕ → List (List (ℕ × Entry)) → List CashEntry
due_from n rows = flat_map (λ row. due_to row.0 row.1) (enumerate_from n rows)

due_split : (w : CashEntry → ℕ) (n : ℕ) (row : List (ℕ × Entry)) (rows : List (List (ℕ × Entry))) → sum_by w (due_from n (row ∷ rows)) ≡ sum_by (due_weight w n) row + sum_by w (due_from (n + 1) rows)
due_split w n row rows = omega (arith, sum_by-append w (due_to n row) (due_from (n + 1) rows), due_to_weighs w n row)

abbrev who : Entry → ℕ
who e = e.caller

-- each caller's own entries, by good
abbrev pub parts_of : List (List Entry) → ℕ → List (List (ℕ × Entry))
parts_of histories caller = map (λ history. part who history caller) histories

due_parts : (w : CashEntry → ℕ) (n : ℕ) (histories : List (List Entry)) → AllByRecursion (λ h. AllByRecursion (λ (e : Entry). e.caller ≤ 8) h) histories
    → sum_by w (due_from n (map (enumerate_from 0) histories)) ≡ nine (λ c. sum_by w (due_from n (parts_of histories c)))
due_parts w n [] called = refl
due_parts w n (h ∷ histories) called =
    let split : (c : ℕ) → sum_by w (due_from n (parts_of (h ∷ histories) c)) ≡ sum_by (due_weight w n) (part who h c) + sum_by w (due_from (n + 1) (parts_of histories c)) =
    λ c. due_split w n (part who h c) (parts_of histories c) in
    omega (
      arith,
      due_split w n (enumerate_from 0 h) (map (enumerate_from 0) histories),
      nine_sums who (due_weight w n) 0 h called.0,
      due_parts w (n + 1) histories called.1,
      split 0,
      split 1,
      split 2,
      split 3,
      split 4,
      split 5,
      split 6,
      split 7,
      split 8,
    )

pub due_by_parts : (w : CashEntry → ℕ) (histories : List (List Entry)) → AllByRecursion (λ h. AllByRecursion (λ (e : Entry). e.caller ≤ 8) h) histories
    → sum_by w (due_posts (map (enumerate_from 0) histories)) ≡ nine (λ c. sum_by w (due_posts (parts_of histories c)))
due_by_parts w histories called = due_parts w 0 histories called

-- if the posts of each of nine callers are those that are due to its own entries, the cash history is matched
pub matched_by_parts : (histories : List (List Entry)) (cash : List CashEntry) → AllByRecursion (λ h. AllByRecursion (λ (e : Entry). e.caller ≤ 8) h) histories → AllByRecursion (λ (e : CashEntry). e.caller ≤ 8) cash
    → ((c : ℕ) → c ≤ 8 → HoldSame (posts_of (map (λ p. p.1) (part by cash c))) (due_posts (parts_of histories c))) → Matched histories cash
matched_by_parts histories cash called called' each w =
    omega (
      arith,
      posts_by_parts w cash called',
      due_by_parts w histories called,
      each 0 (omega arith) w,
      each 1 (omega arith) w,
      each 2 (omega arith) w,
      each 3 (omega arith) w,
      each 4 (omega arith) w,
      each 5 (omega arith) w,
      each 6 (omega arith) w,
      each 7 (omega arith) w,
      each 8 (omega arith) w,
    )

-- ---- totals

-- a number's part above 0, and its part below
abbrev above : ℤ → ℕ
above (pos n) = n
above (negsuc n) = 0

abbrev below : ℤ → ℕ
below (pos n) = 0
below (negsuc n) = suc n

two_parts : (z : ℤ) → pos (above z) -ℤ pos (below z) ≡ z
two_parts (pos n) = omega (arith, ints)
two_parts (negsuc n) = omega (arith, ints)

-- what a post gives a party
abbrev given : ℕ → CashCall → ℤ
given party (Post good position nets) = slice_index_or nets.dollars party (pos 0)
given party (Read agent) = pos 0

abbrev gains : ℕ → CashEntry → ℕ
gains party e = above (given party e.call)

abbrev losses : ℕ → CashEntry → ℕ
losses party e = below (given party e.call)

-- gains less losses of entries
abbrev net_of : ℕ → List CashEntry → ℤ
net_of party entries = pos (sum_by (gains party) entries) -ℤ pos (sum_by (losses party) entries)

net_of-cons : (party : ℕ) (e : CashEntry) (entries : List CashEntry) → net_of party (e ∷ entries) ≡ given party e.call +ℤ net_of party entries
net_of-cons party e entries = omega (arith, ints, two_parts (given party e.call), sum_by-cons (gains party) e entries, sum_by-cons (losses party) e entries)

net_of-append : (party : ℕ) (xs ys : List CashEntry) → net_of party (xs ++ ys) ≡ net_of party xs +ℤ net_of party ys
net_of-append party xs ys = omega (arith, ints, sum_by-append (gains party) xs ys, sum_by-append (losses party) xs ys)

abbrev total_from : ℤ → ℕ → List CashEntry → ℤ
total_from a party history = fold ◌+ℤ◌ a (map (λ nets. slice_index_or nets.dollars party (pos 0)) (posted_nets history))

total_of_call : (a : ℤ) (party : ℕ) (call : CashCall) (caller : ℕ) (reply : _) (history : List CashEntry)
    → total_from a party (record { caller = caller; call = call; reply = reply } ∷ history) ≡ total_from (a +ℤ given party call) party history
total_of_call a party (Post good position nets) caller reply history = refl
total_of_call a party (Read agent) caller reply history = ap (λ (z : ℤ). total_from z party history) (omega (arith, ints))

net_of_call : (party : ℕ) (call : CashCall) (caller : ℕ) (reply : _) (history : List CashEntry)
    → net_of party (posts_of (record { caller = caller; call = call; reply = reply } ∷ history)) ≡ given party call +ℤ net_of party (posts_of history)
net_of_call party (Post good position nets) caller reply history = net_of-cons party (record { caller = caller; call = Post good position nets; reply = reply }) (posts_of history)
net_of_call party (Read agent) caller reply history = omega (arith, ints)

total_is : (a : ℤ) (party : ℕ) (history : List CashEntry) → total_from a party history ≡ a +ℤ net_of party (posts_of history)
total_is a party [] = omega (arith, ints)
total_is a party (e ∷ history) =
    omega (arith, ints, total_of_call a party e.call e.caller e.reply history, net_of_call party e.call e.caller e.reply history, total_is (a +ℤ given party e.call) party history)

-- the dollars of trades add up
pub dollars-append : (xs ys : List Trade) (party : ℕ) → dollars (xs ++ ys) party ≡ dollars xs party +ℤ dollars ys party
dollars-append xs ys party =
    let worth : Trade → ℕ = λ t. t.units * t.price in
    let sales = ap (sum_by worth) (filter-append (λ (t : Trade). eqb t.seller party) xs ys) ∙ sum_by-append worth (sales_by xs party) (sales_by ys party) in
    let buys = ap (sum_by worth) (filter-append (λ (t : Trade). eqb t.buyer party) xs ys) ∙ sum_by-append worth (buys_by xs party) (buys_by ys party) in
    omega (arith, ints, sales, buys)

net_of_due : (party : ℕ) (trades : List Trade) (caller good position : ℕ) → party ≤ 8
    → net_of party (post_for trades (record { caller = caller; call = Post good position (record { dollars = nets trades }); reply = Done })) ≡ dollars trades party
net_of_due party [] caller good position low = omega (arith, ints)
net_of_due party (t ∷ trades) caller good position low =
    omega (arith, ints, net_of-cons party (record { caller = caller; call = Post good position (record { dollars = nets (t ∷ trades) }); reply = Done }) [], get_or-nine (dollars (t ∷ trades)) party low)

net_of_good : (party n : ℕ) (good : ℕ) (h : List Entry) → party ≤ 8 → net_of party (due_to good (enumerate_from n h)) ≡ dollars (flat_map (λ e. e.trades) h) party
net_of_good party n good [] low = omega (arith, ints)
net_of_good party n good (e ∷ h) low =
    omega (
      arith,
      ints,
      net_of-append party (due_post good n e) (due_to good (enumerate_from (n + 1) h)),
      net_of_due party e.trades e.caller good n low,
      net_of_good party (n + 1) good h low,
      dollars-append e.trades (flat_map (λ e. e.trades) h) party,
    )

net_of_all : (party n : ℕ) (histories : List (List Entry)) → party ≤ 8 → net_of party (due_from n (map (enumerate_from 0) histories)) ≡ dollars (trades_of_all histories) party
net_of_all party n [] low = omega (arith, ints)
net_of_all party n (h ∷ histories) low =
    omega (
      arith,
      ints,
      net_of-append party (due_to n (enumerate_from 0 h)) (due_from (n + 1) (map (enumerate_from 0) histories)),
      net_of_good party 0 n h low,
      net_of_all party (n + 1) histories low,
      dollars-append (flat_map (λ e. e.trades) h) (trades_of_all histories) party,
    )

-- in a matched cash history the total of a party is the sum of its dollars over the trades of all histories
pub matched_totals : (histories : List (List Entry)) (cash : List CashEntry) (party : ℕ) → party ≤ 8 → Matched histories cash → cash_total cash party ≡ dollars (trades_of_all histories) party
matched_totals histories cash party low matched =
    omega (arith, ints, total_is (pos 0) party cash, matched (gains party), matched (losses party), net_of_all party 0 histories low)

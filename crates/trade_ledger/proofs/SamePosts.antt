-- The posts of a cash history are those that are due, place by place, exactly if both have the same sum under every weight.
use Rattle.std.proofs.Common.{◌≡◌, ◌≢◌, ℕ, zero, suc, ◌+◌, ◌<◌, Bool, true, false, cond, List, [], ◌∷◌, ◌++◌, map, length, sum_by, sym, refl, ap, ◌∙◌, subst, arith, ℤ, pos, negsuc, Option, Some, None, filter, flat_map, ◌&&◌, ◌==◌, slice_index_or, slice_get}
use Rattle.std.specs.List.{enumerate_from, AllByRecursion}
use Rattle.std.proofs.lemmas.Bool.{and_parts}
use Rattle.std.proofs.lemmas.Bool.Decides.{nat_tests}
use Rattle.std.proofs.lemmas.List.Sums.{sum_by-append, sum_by-cons}
use Rattle.std.proofs.lemmas.List.Elements.{filter-append}
use Rattle.trade_ledger.specs.Prelude.{Trade, Entry, nets}
use Rattle.trade_ledger.specs.declared.cash_calls.CashCall.{CashCall}
use Rattle.trade_ledger.specs.declared.cash_calls.CashCall.TheVariants.{Post, Read}
use Rattle.trade_ledger.specs.declared.cash_calls.CashReply.{CashReply}
use Rattle.trade_ledger.specs.declared.cash_calls.CashReply.TheVariants.{Done, Cash}
use Rattle.trade_ledger.specs.declared.cash_calls.CashEntry.{CashEntry}
use Rattle.trade_ledger.specs.BookPosts.{HoldSame, is_post, posts_of, due_to, due_posts, Matched}
use Rattle.trade_ledger.specs.Posts.{post_for, due_post, is_post_at, IsPosted}

-- the post that is due to the entry at a place, if there is an entry
abbrev due_post_at : ℕ → ℕ → Option Entry → List CashEntry
due_post_at good position None = []
due_post_at good position (Some e) = due_post good position e

due_there : (good position : ℕ) (o : Option Entry) → elim o as (λ _. List CashEntry) [ None ↦ [] | Some e ↦ due_post good position e ] ≡ due_post_at good position o
due_there good position None = refl
due_there good position (Some e) = refl

abbrev at : ℕ → ℕ → CashEntry → Bool
at good position e = is_post_at good position e.call

number_is : (m n : ℕ) → (m == n) ≡ true → m ≡ n
number_is m n h = grind (arith, nat_tests)

number_same : (n : ℕ) → (n == n) ≡ true
number_same n = grind (arith, nat_tests)

number_differs : (m n : ℕ) → m ≢ n → (m == n) ≡ false
number_differs m n h = grind (arith, nat_tests)

-- ---- a reading names no place

pub named_posts : (good position : ℕ) (cash : List CashEntry) → filter (at good position) cash ≡ filter (at good position) (posts_of cash)
named_posts good position [] = refl
named_posts good position (e ∷ cash) = by_call e.caller e.call e.reply (named_posts good position cash)
  where
    by_call : (caller : ℕ) (call : CashCall) (reply : CashReply) → filter (at good position) cash ≡ filter (at good position) (posts_of cash) →
        filter (at good position) (record { caller = caller; call = call; reply = reply } ∷ cash) ≡ filter (at good position) (posts_of (record { caller = caller; call = call; reply = reply } ∷ cash))
    by_call caller (Read agent) reply ih = ih
    by_call caller (Post g p nets) reply ih = by_test ((g == good) && (p == position))
      where
        one : CashEntry
        one = record { caller = caller; call = Post g p nets; reply = reply }

        by_test : (b : Bool) → cond b (one ∷ filter (at good position) cash) (filter (at good position) cash) ≡ cond b (one ∷ filter (at good position) (posts_of cash)) (filter (at good position) (posts_of cash))
        by_test true = ap (λ (l : List CashEntry). one ∷ l) ih
        by_test false = ih

-- ---- the due posts that name a place

named_due : (good position g p : ℕ) (e : Entry) → filter (at good position) (due_post g p e) ≡ cond ((g == good) && (p == position)) (due_post g p e) []
named_due good position g p e = by_trades e.trades
  where
    post : List Trade → CashEntry
    post trades = record { caller = e.caller; call = Post g p (record { dollars = nets trades }); reply = Done }

    none : (b : Bool) → [] ≡ cond {A = List CashEntry} b [] []
    none true = refl
    none false = refl

    by_trades : (trades : List Trade) →
        filter (at good position) (post_for trades (record { caller = e.caller; call = Post g p (record { dollars = nets e.trades }); reply = Done }))
        ≡ cond ((g == good) && (p == position)) (post_for trades (record { caller = e.caller; call = Post g p (record { dollars = nets e.trades }); reply = Done })) []
    by_trades [] = none ((g == good) && (p == position))
    by_trades (t ∷ ts) = refl

due_elsewhere : (good position g p : ℕ) (e : Entry) → ((g == good) && (p == position)) ≡ false → filter (at good position) (due_post g p e) ≡ []
due_elsewhere good position g p e h = named_due good position g p e ∙ ap (λ (b : Bool). cond b (due_post g p e) []) h

due_here : (good position : ℕ) (e : Entry) → filter (at good position) (due_post good position e) ≡ due_post good position e
due_here good position e =
    let own : ((good == good) && (position == position)) ≡ true = rw (number_same good, number_same position) refl in
    named_due good position good position e ∙ ap (λ (b : Bool). cond b (due_post good position e) []) own

left_false : (a b : Bool) → a ≡ false → (a && b) ≡ false
left_false a b h = rw h refl

right_false : (a b : Bool) → b ≡ false → (a && b) ≡ false
right_false true b h = h
right_false false b h = refl

row_other : (good position g n : ℕ) (history : List Entry) → g ≢ good → filter (at good position) (due_to g (enumerate_from n history)) ≡ []
row_other good position g n [] h = refl
row_other good position g n (e ∷ history) h =
    filter-append (at good position) (due_post g n e) (due_to g (enumerate_from (n + 1) history))
    ∙ rw (due_elsewhere good position g n e (left_false (g == good) (n == position) (number_differs g good h))) (row_other good position g (n + 1) history h)

row_past : (good position n : ℕ) (history : List Entry) → position < n → filter (at good position) (due_to good (enumerate_from n history)) ≡ []
row_past good position n [] h = refl
row_past good position n (e ∷ history) h =
    filter-append (at good position) (due_post good n e) (due_to good (enumerate_from (n + 1) history))
    ∙ rw (due_elsewhere good position good n e (right_false (good == good) (n == position) (number_differs n position (λ same. absurd (omega arith))))) (row_past good position (n + 1) history (omega arith))

nothing_more : (xs ys : List CashEntry) → ys ≡ [] → xs ++ ys ≡ xs
nothing_more [] ys h = h
nothing_more (x ∷ xs) ys h = ap (λ (l : List CashEntry). x ∷ l) (nothing_more xs ys h)

row_here : (good position n k : ℕ) (history : List Entry) → position ≡ n + k → filter (at good position) (due_to good (enumerate_from n history)) ≡ due_post_at good position (slice_get history k)
row_here good position n k [] h = refl
row_here good position n zero (e ∷ history) h =
    let here : n ≡ position = omega arith in
    filter-append (at good position) (due_post good n e) (due_to good (enumerate_from (n + 1) history))
    ∙ nothing_more (filter (at good position) (due_post good n e)) _ (row_past good position (n + 1) history (omega arith))
    ∙ ap (λ (m : ℕ). filter (at good position) (due_post good m e)) here
    ∙ due_here good position e
row_here good position n (suc k) (e ∷ history) h =
    filter-append (at good position) (due_post good n e) (due_to good (enumerate_from (n + 1) history))
    ∙ rw (due_elsewhere good position good n e (right_false (good == good) (n == position) (number_differs n position (λ same. absurd (omega arith))))) (row_here good position (n + 1) k history (omega arith))

abbrev due_after : ℕ → List (List (ℕ × Entry)) → List CashEntry
due_after n rows = flat_map (λ row. due_to row.0 row.1) (enumerate_from n rows)

rows_past : (good position n : ℕ) (histories : List (List Entry)) → good < n → filter (at good position) (due_after n (map (enumerate_from 0) histories)) ≡ []
rows_past good position n [] h = refl
rows_past good position n (history ∷ histories) h =
    filter-append (at good position) (due_to n (enumerate_from 0 history)) (due_after (n + 1) (map (enumerate_from 0) histories))
    ∙ rw (row_other good position n 0 history (λ same. absurd (omega arith))) (rows_past good position (n + 1) histories (omega arith))

rows_here : (good position n k : ℕ) (histories : List (List Entry)) → good ≡ n + k →
    filter (at good position) (due_after n (map (enumerate_from 0) histories)) ≡ due_post_at good position (slice_get (slice_index_or histories k []) position)
rows_here good position n k [] h = refl
rows_here good position n zero (history ∷ histories) h =
    let here : n ≡ good = omega arith in
    filter-append (at good position) (due_to n (enumerate_from 0 history)) (due_after (n + 1) (map (enumerate_from 0) histories))
    ∙ nothing_more (filter (at good position) (due_to n (enumerate_from 0 history))) _ (rows_past good position (n + 1) histories (omega arith))
    ∙ ap (λ (g : ℕ). filter (at good position) (due_to g (enumerate_from 0 history))) here
    ∙ row_here good position 0 position history (omega arith)
rows_here good position n (suc k) (history ∷ histories) h =
    filter-append (at good position) (due_to n (enumerate_from 0 history)) (due_after (n + 1) (map (enumerate_from 0) histories))
    ∙ rw (row_other good position n 0 history (λ same. absurd (omega arith))) (rows_here good position (n + 1) k histories (omega arith))

-- the due posts that name a place are the one that is due to the entry there
pub named_due_posts : (good position : ℕ) (histories : List (List Entry)) →
    filter (at good position) (due_posts (map (enumerate_from 0) histories)) ≡ due_post_at good position (slice_get (slice_index_or histories good []) position)
named_due_posts good position histories = rows_here good position 0 good histories (omega arith)

-- ---- two entries of which every weight is the same are the same

abbrev above : ℤ → ℕ
above (pos n) = n
above (negsuc n) = 0

abbrev below : ℤ → ℕ
below (pos n) = 0
below (negsuc n) = suc n

alike_int : (a b : ℤ) → ((w : ℤ → ℕ) → w a ≡ w b) → a ≡ b
alike_int (pos m) (pos n) h = ap pos (h (λ z. above z))
alike_int (pos m) (negsuc n) h = let never : 0 ≡ suc n = h (λ z. below z) in absurd (omega arith)
alike_int (negsuc m) (pos n) h = let never : suc m ≡ 0 = h (λ z. below z) in absurd (omega arith)
alike_int (negsuc m) (negsuc n) h = let up : suc m ≡ suc n = h (λ z. below z) in let same : m ≡ n = omega arith in ap negsuc same

abbrev of_head : (ℤ → ℕ) → List ℤ → ℕ
of_head w [] = 0
of_head w (z ∷ zs) = w z

abbrev of_tail : (List ℤ → ℕ) → List ℤ → ℕ
of_tail w [] = 0
of_tail w (z ∷ zs) = w zs

alike_ints : (xs ys : List ℤ) → ((w : List ℤ → ℕ) → w xs ≡ w ys) → xs ≡ ys
alike_ints [] [] h = refl
alike_ints [] (y ∷ ys) h = let never : length {A = ℤ} [] ≡ length (y ∷ ys) = h (λ l. length l) in absurd (omega arith)
alike_ints (x ∷ xs) [] h = let never : length (x ∷ xs) ≡ length {A = ℤ} [] = h (λ l. length l) in absurd (omega arith)
alike_ints (x ∷ xs) (y ∷ ys) h =
    let head : x ≡ y = alike_int x y (λ w. h (λ l. of_head w l)) in
    let tail : xs ≡ ys = alike_ints xs ys (λ w. h (λ l. of_tail w l)) in cc

abbrev good_of : CashCall → ℕ
good_of (Post g p nets) = g
good_of (Read agent) = 0

abbrev position_of : CashCall → ℕ
position_of (Post g p nets) = p
position_of (Read agent) = 0

abbrev of_nets : (List ℤ → ℕ) → CashCall → ℕ
of_nets w (Post g p nets) = w nets.dollars
of_nets w (Read agent) = 0

abbrev reader_of : CashCall → ℕ
reader_of (Post g p nets) = 0
reader_of (Read agent) = suc agent

alike_calls : (c d : CashCall) → ((w : CashCall → ℕ) → w c ≡ w d) → c ≡ d
alike_calls (Post g p nets) (Post g' p' nets') h =
    let good : g ≡ g' = h (λ c. good_of c) in
    let position : p ≡ p' = h (λ c. position_of c) in
    let dollars : nets.dollars ≡ nets'.dollars = alike_ints nets.dollars nets'.dollars (λ w. h (λ c. of_nets w c)) in
    λ i. Post (good i) (position i) (record { dollars = dollars i })
alike_calls (Post g p nets) (Read agent) h = let never : 0 ≡ suc agent = h (λ c. reader_of c) in absurd (omega arith)
alike_calls (Read agent) (Post g p nets) h = let never : suc agent ≡ 0 = h (λ c. reader_of c) in absurd (omega arith)
alike_calls (Read agent) (Read agent') h = let up : suc agent ≡ suc agent' = h (λ c. reader_of c) in let same : agent ≡ agent' = omega arith in ap Read same

abbrev kind : CashReply → ℕ
kind Done = 0
kind (Cash d) = 1

abbrev of_dollars : (ℤ → ℕ) → CashReply → ℕ
of_dollars w Done = 0
of_dollars w (Cash d) = w d

alike_replies : (r s : CashReply) → ((w : CashReply → ℕ) → w r ≡ w s) → r ≡ s
alike_replies Done Done h = refl
alike_replies Done (Cash d) h = let never : kind Done ≡ kind (Cash d) = h (λ r. kind r) in absurd (omega arith)
alike_replies (Cash c) Done h = let never : kind (Cash c) ≡ kind Done = h (λ r. kind r) in absurd (omega arith)
alike_replies (Cash c) (Cash d) h = ap Cash (alike_int c d (λ w. h (λ r. of_dollars w r)))

alike_entries : (x y : CashEntry) → ((w : CashEntry → ℕ) → w x ≡ w y) → x ≡ y
alike_entries x y h = λ i. record {
  caller = h (λ e. e.caller) i;
  call = alike_calls x.call y.call (λ w. h (λ e. w e.call)) i;
  reply = alike_replies x.reply y.reply (λ w. h (λ e. w e.reply)) i;
}

-- ---- what has the same sums as at most one entry is that entry

same_none : (xs : List CashEntry) → HoldSame xs [] → xs ≡ []
same_none [] h = refl
same_none (x ∷ xs) h = let count : sum_by (λ _. 1) (x ∷ xs) ≡ 0 = h (λ _. 1) in absurd (omega (arith, count, sum_by-cons (λ _. 1) x xs))

same_one : (xs : List CashEntry) (y : CashEntry) → HoldSame xs (y ∷ []) → xs ≡ y ∷ []
same_one [] y h = let count : 0 ≡ sum_by (λ _. 1) (y ∷ []) = h (λ _. 1) in absurd (omega (arith, count, sum_by-cons (λ _. 1) y []))
same_one (x ∷ []) y h =
    ap (λ (e : CashEntry). e ∷ [])
    (alike_entries x y (λ w. let same : sum_by w (x ∷ []) ≡ sum_by w (y ∷ []) = h w in omega (arith, same, sum_by-cons w x [], sum_by-cons w y [])))
same_one (x ∷ x' ∷ xs) y h =
    let count : sum_by (λ _. 1) (x ∷ x' ∷ xs) ≡ sum_by (λ _. 1) (y ∷ []) = h (λ _. 1) in
    absurd (omega (arith, count, sum_by-cons (λ _. 1) y [], sum_by-cons (λ _. 1) x (x' ∷ xs), sum_by-cons (λ _. 1) x' xs))

same_due : (good position : ℕ) (xs : List CashEntry) (o : Option Entry) → HoldSame xs (due_post_at good position o) → xs ≡ due_post_at good position o
same_due good position xs None h = same_none xs h
same_due good position xs (Some e) h = by_trades e.trades h
  where
    by_trades : (trades : List Trade) → HoldSame xs (post_for trades (record { caller = e.caller; call = Post good position (record { dollars = nets e.trades }); reply = Done })) →
        xs ≡ post_for trades (record { caller = e.caller; call = Post good position (record { dollars = nets e.trades }); reply = Done })
    by_trades [] k = same_none xs k
    by_trades (t ∷ ts) k = same_one xs (record { caller = e.caller; call = Post good position (record { dollars = nets e.trades }); reply = Done }) k

filtered_sum : (test : CashEntry → Bool) (w : CashEntry → ℕ) (xs : List CashEntry) → sum_by w (filter test xs) ≡ sum_by (λ e. cond (test e) (w e) 0) xs
filtered_sum test w [] = refl
filtered_sum test w (x ∷ xs) = by_test (test x) refl (filtered_sum test w xs)
  where
    by_test : (b : Bool) → test x ≡ b → sum_by w (filter test xs) ≡ sum_by (λ e. cond (test e) (w e) 0) xs →
        sum_by w (cond b (x ∷ filter test xs) (filter test xs)) ≡ sum_by (λ e. cond (test e) (w e) 0) (x ∷ xs)
    by_test true is ih =
        let own : cond (test x) (w x) 0 ≡ w x = ap (λ (b : Bool). cond b (w x) 0) is in
        omega (arith, own, ih, sum_by-cons w x (filter test xs), sum_by-cons (λ e. cond (test e) (w e) 0) x xs)
    by_test false is ih =
        let own : cond (test x) (w x) 0 ≡ 0 = ap (λ (b : Bool). cond b (w x) 0) is in
        omega (arith, own, ih, sum_by-cons (λ e. cond (test e) (w e) 0) x xs)

same_filtered : (test : CashEntry → Bool) (xs ys : List CashEntry) → HoldSame xs ys → HoldSame (filter test xs) (filter test ys)
same_filtered test xs ys h w = filtered_sum test w xs ∙ h (λ e. cond (test e) (w e) 0) ∙ sym (filtered_sum test w ys)

-- a matched cash history has, for each place, the post that is due there and no other
pub posted_from_matched : (histories : List (List Entry)) (cash : List CashEntry) → Matched histories cash → IsPosted histories cash
posted_from_matched histories cash matched good position =
    named_posts good position cash
    ∙ same_due good position (filter (at good position) (posts_of cash)) (slice_get (slice_index_or histories good []) position)
    (subst (HoldSame (filter (at good position) (posts_of cash))) (named_due_posts good position histories)
    (same_filtered (at good position) (posts_of cash) (due_posts (map (enumerate_from 0) histories)) matched))
    ∙ sym (due_there good position (slice_get (slice_index_or histories good []) position))

-- ---- and the other way round

abbrev ArePosts : List CashEntry → Type 0
ArePosts entries = AllByRecursion (λ e. is_post e.call ≡ true) entries

posts_are : (cash : List CashEntry) → ArePosts (posts_of cash)
posts_are [] = tt
posts_are (e ∷ cash) = by_test (is_post e.call) refl (posts_are cash)
  where
    by_test : (b : Bool) → is_post e.call ≡ b → ArePosts (posts_of cash) → ArePosts (cond b (e ∷ posts_of cash) (posts_of cash))
    by_test true is rest = (is, rest)
    by_test false is rest = rest

posts_append : (xs ys : List CashEntry) → ArePosts xs → ArePosts ys → ArePosts (xs ++ ys)
posts_append [] ys h k = k
posts_append (x ∷ xs) ys h k = (h.0, posts_append xs ys h.1 k)

posts_front : (xs ys : List CashEntry) → ArePosts (xs ++ ys) → ArePosts xs
posts_front [] ys h = tt
posts_front (x ∷ xs) ys h = (h.0, posts_front xs ys h.1)

posts_back : (xs ys : List CashEntry) → ArePosts (xs ++ ys) → ArePosts ys
posts_back [] ys h = h
posts_back (x ∷ xs) ys h = posts_back xs ys h.1

due_is_post : (g p : ℕ) (e : Entry) → ArePosts (due_post g p e)
due_is_post g p e = by_trades e.trades
  where
    by_trades : (trades : List Trade) → ArePosts (post_for trades (record { caller = e.caller; call = Post g p (record { dollars = nets e.trades }); reply = Done }))
    by_trades [] = tt
    by_trades (t ∷ ts) = (refl, tt)

row_posts : (g : ℕ) (entries : List (ℕ × Entry)) → ArePosts (due_to g entries)
row_posts g [] = tt
row_posts g (p ∷ entries) = posts_append (due_post g p.0 p.1) (due_to g entries) (due_is_post g p.0 p.1) (row_posts g entries)

rows_posts : (n : ℕ) (rows : List (List (ℕ × Entry))) → ArePosts (due_after n rows)
rows_posts n [] = tt
rows_posts n (row ∷ rows) = posts_append (due_to n row) (due_after (n + 1) rows) (row_posts n row) (rows_posts (n + 1) rows)

-- where an entry stands that is the first to name its place
record IsFoundAt (good position : ℕ) (ys : List CashEntry) (x : CashEntry) : Type 0 where
  front : List CashEntry
  back : List CashEntry
  whole : ys ≡ front ++ x ∷ back
  none : filter (at good position) front ≡ []

found_at : (good position : ℕ) (ys : List CashEntry) (x : CashEntry) (rest : List CashEntry) → filter (at good position) ys ≡ x ∷ rest → IsFoundAt good position ys x
found_at good position [] x rest h = absurd cc
found_at good position (y ∷ ys) x rest h = by_test (at good position y) refl h (λ k. found_at good position ys x rest k)
  where
    by_test : (b : Bool) → at good position y ≡ b → cond b (y ∷ filter (at good position) ys) (filter (at good position) ys) ≡ x ∷ rest →
        (filter (at good position) ys ≡ x ∷ rest → IsFoundAt good position ys x) → IsFoundAt good position (y ∷ ys) x
    by_test true is k later = let same : y ≡ x = cc in record { front = []; back = ys; whole = ap (λ (e : CashEntry). e ∷ ys) same; none = refl }
    by_test false is k later =
        let found = later k in
        record { front = y ∷ found.front; back = found.back; whole = ap (λ (l : List CashEntry). y ∷ l) found.whole; none = rw is found.none }

-- the place that a post names
record IsPlace (x : CashEntry) : Type 0 where
  good : ℕ
  position : ℕ
  named : at good position x ≡ true
  alone : (g p : ℕ) → at g p x ≡ true → (g ≡ good) × (p ≡ position)

place_of : (caller : ℕ) (call : CashCall) (reply : CashReply) → is_post call ≡ true → IsPlace (record { caller = caller; call = call; reply = reply })
place_of caller (Read agent) reply h = absurd cc
place_of caller (Post good position nets) reply h = record {
  good = good;
  position = position;
  named = rw (number_same good, number_same position) refl;
  alone = λ g p k. let both = and_parts (good == g) (position == p) k in (sym (number_is good g both.0), sym (number_is position p both.1));
}

tails : (x y : CashEntry) (xs ys : List CashEntry) → x ∷ xs ≡ y ∷ ys → xs ≡ ys
tails x y xs ys h = cc

spread : (xs ys : List CashEntry) → ArePosts xs → ArePosts ys → ((good position : ℕ) → filter (at good position) xs ≡ filter (at good position) ys) → HoldSame xs ys
spread [] [] h k same w = refl
spread [] (y ∷ ys) h k same w =
    let place = place_of y.caller y.call y.reply k.0 in
    let never : [] ≡ filter (at place.good place.position) (y ∷ ys) = same place.good place.position in
    let some : filter (at place.good place.position) (y ∷ ys) ≡ y ∷ filter (at place.good place.position) ys = rw place.named refl in absurd cc
spread (x ∷ xs) ys h k same w = step (λ zs posts alike. spread xs zs h.1 posts alike w)
  where
    place : IsPlace x
    place = place_of x.caller x.call x.reply h.0

    found : IsFoundAt place.good place.position ys x
    found =
        found_at place.good place.position ys x (filter (at place.good place.position) xs)
        (sym (same place.good place.position) ∙ ap (λ (b : Bool). cond b (x ∷ filter (at place.good place.position) xs) (filter (at place.good place.position) xs)) place.named)

    others : (good position : ℕ) → filter (at good position) xs ≡ filter (at good position) (found.front ++ found.back)
    others good position = by_test (at good position x) refl split
      where
        split : filter (at good position) (x ∷ xs) ≡ filter (at good position) found.front ++ filter (at good position) (x ∷ found.back)
        split = same good position ∙ ap (filter (at good position)) found.whole ∙ filter-append (at good position) found.front (x ∷ found.back)

        by_test : (b : Bool) → at good position x ≡ b →
            cond b (x ∷ filter (at good position) xs) (filter (at good position) xs) ≡ filter (at good position) found.front ++ cond b (x ∷ filter (at good position) found.back) (filter (at good position) found.back) →
            filter (at good position) xs ≡ filter (at good position) (found.front ++ found.back)
        by_test true is e =
            let here = place.alone good position is in
            let none : filter (at good position) found.front ≡ [] = ap (λ (g : ℕ). filter (at g position) found.front) here.0 ∙ ap (λ (p : ℕ). filter (at place.good p) found.front) here.1 ∙ found.none in
            let tail : filter (at good position) xs ≡ filter (at good position) found.back =
            tails x x (filter (at good position) xs) (filter (at good position) found.back) (e ∙ ap (λ (l : List CashEntry). l ++ x ∷ filter (at good position) found.back) none) in
            tail ∙ sym (filter-append (at good position) found.front found.back ∙ ap (λ (l : List CashEntry). l ++ filter (at good position) found.back) none)
        by_test false is e = e ∙ sym (filter-append (at good position) found.front found.back)

    left_posts : ArePosts (found.front ++ found.back)
    left_posts =
        let all : ArePosts (found.front ++ x ∷ found.back) = subst ArePosts found.whole k in
        posts_append found.front found.back (posts_front found.front (x ∷ found.back) all) (posts_back found.front (x ∷ found.back) all).1

    step : ((zs : List CashEntry) → ArePosts zs → ((good position : ℕ) → filter (at good position) xs ≡ filter (at good position) zs) → sum_by w xs ≡ sum_by w zs) →
        sum_by w (x ∷ xs) ≡ sum_by w ys
    step more =
        omega (
          arith,
          more (found.front ++ found.back) left_posts others,
          sum_by-cons w x xs,
          sum_by-cons w x found.back,
          sum_by-append w found.front (x ∷ found.back),
          sum_by-append w found.front found.back,
          ap (sum_by w) found.whole,
        )

pub matched_from_posted : (histories : List (List Entry)) (cash : List CashEntry) → IsPosted histories cash → Matched histories cash
matched_from_posted histories cash posted =
    spread (posts_of cash) (due_posts (map (enumerate_from 0) histories)) (posts_are cash) (rows_posts 0 (map (enumerate_from 0) histories))
    (λ good position. sym (named_posts good position cash)
    ∙ posted good position
    ∙ due_there good position (slice_get (slice_index_or histories good []) position)
    ∙ sym (named_due_posts good position histories))

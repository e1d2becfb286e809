-- The posts that are due to entries, and those among entries of the cash history.
use Rattle.std.proofs.Common.{◌≡◌, ◌≢◌, ℕ, zero, suc, ◌+◌, ◌<◌, ◌≤◌, Bool, true, false, not, cond, List, [], ◌∷◌, ◌++◌, map, length, get_or, set, sum_by, sym, refl, ap, ◌∙◌, arith, append-nil, length-append, flat_map}
use Rattle.std.specs.List.{enumerate_from}
use Rattle.std.proofs.lemmas.List.{map_push}
use Rattle.std.proofs.lemmas.List.Concat.{flat_map-append}
use Rattle.std.proofs.lemmas.List.Elements.{filter-append}
use Rattle.std.proofs.lemmas.List.Sums.{sum_by-append, sum_by-cons, sum_by_push}
use Rattle.tac_base.specs.declared.calls.Trade.{Trade}
use Rattle.floor.specs.{Nets, Entry, nets as nets_of_trades, Post, Done, CashEntry, is_post, posts_of, post_for, due_post, due_to, due_posts, count_readings, count_entries}
use Rattle.trade_ledger.specs.declared.cash_calls.CashReply.{CashReply}

pub no_post : (trades : List Trade) (post : CashEntry) → length trades ≡ 0 → post_for trades post ≡ []
no_post [] post none = refl
no_post (t ∷ ts) post none = absurd (omega arith)

pub one_post : (trades : List Trade) (post : CashEntry) → length trades ≢ 0 → post_for trades post ≡ post ∷ []
one_post [] post some = absurd (some refl)
one_post (t ∷ ts) post some = refl

-- ---- what is due with one entry more

abbrev pub due_from : ℕ → List (List (ℕ × Entry)) → List CashEntry
due_from n rows = flat_map (λ row. due_to row.0 row.1) (enumerate_from n rows)

due_to-snoc : (n : ℕ) (row : List (ℕ × Entry)) (p : ℕ) (e : Entry) → due_to n (row ++ (p, e) ∷ []) ≡ due_to n row ++ due_post n p e
due_to-snoc n row p e = flat_map-append (λ (q : ℕ × Entry). due_post n q.0 q.1) row ((p, e) ∷ []) ∙ ap (λ (l : List CashEntry). due_to n row ++ l) (append-nil (due_post n p e))

due_more : (w : CashEntry → ℕ) (n good : ℕ) (rows : List (List (ℕ × Entry))) (p : ℕ) (e : Entry) → good < length rows
    → sum_by w (due_from n (set rows good (get_or rows good [] ++ (p, e) ∷ []))) ≡ sum_by w (due_from n rows) + sum_by w (due_post (n + good) p e)
due_more w n good [] p e inside = absurd (omega arith)
due_more w n zero (row ∷ rows) p e inside =
    let first = ap (λ (l : List CashEntry). sum_by w (l ++ due_from (n + 1) rows)) (due_to-snoc n row p e) in
    let here : sum_by w (due_post (n + 0) p e) ≡ sum_by w (due_post n p e) = ap (λ (k : ℕ). sum_by w (due_post k p e)) (omega arith) in
    omega (arith, sum_by-append w (due_to n row ++ due_post n p e) (due_from (n + 1) rows), sum_by-append w (due_to n row) (due_post n p e), sum_by-append w (due_to n row) (due_from (n + 1) rows))
due_more w n (suc good) (row ∷ rows) p e inside =
    let later = due_more w (n + 1) good rows p e (omega arith) in
    let here : sum_by w (due_post (n + 1 + good) p e) ≡ sum_by w (due_post (n + suc good) p e) = ap (λ (k : ℕ). sum_by w (due_post k p e)) (omega arith) in
    omega (arith, sum_by-append w (due_to n row) (due_from (n + 1) (set rows good (get_or rows good [] ++ (p, e) ∷ []))), sum_by-append w (due_to n row) (due_from (n + 1) rows))

pub due_posts-more : (w : CashEntry → ℕ) (good : ℕ) (rows : List (List (ℕ × Entry))) (p : ℕ) (e : Entry) → good < length rows
    → sum_by w (due_posts (set rows good (get_or rows good [] ++ (p, e) ∷ []))) ≡ sum_by w (due_posts rows) + sum_by w (due_post good p e)
due_posts-more w good rows p e inside =
    let here : sum_by w (due_post (0 + good) p e) ≡ sum_by w (due_post good p e) = ap (λ (k : ℕ). sum_by w (due_post k p e)) (omega arith) in
    omega (arith, due_more w 0 good rows p e inside)

-- at most one post is due to each entry
few_for : (trades : List Trade) (post : CashEntry) → sum_by (λ (x : CashEntry). 1) (post_for trades post) ≤ 1
few_for [] post = omega arith
few_for (t ∷ ts) post = omega arith

few_to : (n : ℕ) (row : List (ℕ × Entry)) → sum_by (λ (x : CashEntry). 1) (due_to n row) ≤ length row
few_to n [] = omega arith
few_to n ((p, e) ∷ row) = omega (
  arith,
  few_to n row,
  few_for e.trades (record { caller = e.caller; call = Post n p (record { dollars = nets_of_trades e.trades }); reply = Done }),
  sum_by-append (λ (x : CashEntry). 1) (due_post n p e) (due_to n row),
)

few_from : (n : ℕ) (rows : List (List (ℕ × Entry))) → sum_by (λ (x : CashEntry). 1) (due_from n rows) ≤ count_entries rows
few_from n [] = omega arith
few_from n (row ∷ rows) = omega (arith, few_from (n + 1) rows, few_to n row, sum_by-append (λ (x : CashEntry). 1) (due_to n row) (due_from (n + 1) rows), sum_by-cons (λ (r : List (ℕ × Entry)). length r) row rows)

pub few_due : (rows : List (List (ℕ × Entry))) → sum_by (λ (x : CashEntry). 1) (due_posts rows) ≤ count_entries rows
few_due rows = few_from 0 rows

-- ---- posts and readings among entries of the cash history

abbrev pub bare : List (ℕ × CashEntry) → List CashEntry
bare cash = map (λ p. p.1) cash

-- the cash history with posts more
pub with_posts : (cash : List (ℕ × CashEntry)) (q : ℕ) (trades : List Trade) (caller good position : ℕ) (nets : Nets) (reply : CashReply)
    → let post : CashEntry = record { caller = caller; call = Post good position nets; reply = reply } in let after = cash ++ map (λ (x : CashEntry). (q, x)) (post_for trades post) in
    (posts_of (bare after) ≡ posts_of (bare cash) ++ post_for trades post) × (count_readings after ≡ count_readings cash) × (length after ≡ length cash + length (post_for trades post))
with_posts cash q [] caller good position nets reply =
    (ap (λ l. posts_of (bare l)) (append-nil cash) ∙ sym (append-nil (posts_of (bare cash))), ap count_readings (append-nil cash), length-append cash [])
with_posts cash q (t ∷ ts) caller good position nets reply =
    let post : CashEntry = record { caller = caller; call = Post good position nets; reply = reply } in (
      ap posts_of (map_push (λ (p : ℕ × CashEntry). p.1) cash (q, post)) ∙ filter-append (λ (e : CashEntry). is_post e.call) (bare cash) (post ∷ []),
      sum_by_push (λ (p : ℕ × CashEntry). cond (not (is_post p.1.call)) 1 0) cash (q, post) ∙ omega arith,
      length-append cash ((q, post) ∷ []),
    )

one_each : (b : Bool) (e : CashEntry) (rest : List CashEntry) → sum_by (λ (x : CashEntry). 1) (cond b (e ∷ rest) rest) + cond (not b) 1 0 ≡ sum_by (λ (x : CashEntry). 1) rest + 1
one_each true e rest = omega (arith, sum_by-cons (λ (x : CashEntry). 1) e rest)
one_each false e rest = omega arith

-- each entry is a post or a reading
pub posts_and_readings : (cash : List (ℕ × CashEntry)) → sum_by (λ (x : CashEntry). 1) (posts_of (bare cash)) + count_readings cash ≡ length cash
posts_and_readings [] = refl
posts_and_readings (p ∷ cash) =
    omega (arith, posts_and_readings cash, one_each (is_post p.1.call) p.1 (posts_of (bare cash)), sum_by-cons (λ (p : ℕ × CashEntry). cond (not (is_post p.1.call)) 1 0) p cash)

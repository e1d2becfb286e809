-- How many entries, posts and readings there are after one more.
use Rattle.std.proofs.Common.{◌≡◌, ◌≢◌, ℕ, zero, suc, ◌+◌, ◌*◌, ◌<◌, ◌≤◌, Bool, true, false, cond, List, [], ◌∷◌, ◌++◌, length, reverse, get_or, set, refl, sym, ap, ◌∙◌, arith, eq-eqb, ne_eqb, length-append, ◌==◌, ◌&&◌, append-nil, get_or-set_same, get_or-set_other}
use Rattle.std.proofs.lemmas.List.{reverse-append}
use Rattle.std.proofs.lemmas.List.Sums.{sum_by-cons, sum_by_push, sum_by-set}
use mathlib.Core.Logic.{dite}
use native.Mathlib.Decide.{ℕ_discrete}
use Rattle.script_run.specs.{Trade, Entry, nets, entries_of, part, Post, Done, CashEntry, post_for, due_post, past_at, reads, readings_of, reading_of, made}
use Rattle.turn_lock.proofs.Parts.{part_mine, part_other}

abbrev pub one_if : Bool → ℕ
one_if b = cond b 1 0

pub one_if_le : (b : Bool) → one_if b ≤ 1
one_if_le true = omega arith
one_if_le false = omega arith

pub one_if_same : (n m : ℕ) → n ≡ m → one_if (n == m) ≡ 1
one_if_same n m is = ap one_if (eq-eqb n m is)

pub one_if_other : (n m : ℕ) → n ≢ m → one_if (n == m) ≡ 0
one_if_other n m is = ap one_if (ne_eqb n m is)

-- a history and its past have the same entries
pub entries_of-reverse : (history : List Entry) (caller : ℕ) → entries_of (reverse history) caller ≡ entries_of history caller
entries_of-reverse [] caller = refl
entries_of-reverse (e ∷ history) caller =
    ap (λ (h : List Entry). entries_of h caller) (reverse-append (e ∷ []) history)
    ∙ (sum_by_push (λ (x : Entry). cond (x.caller == caller) 1 0) (reverse history) e
    ∙ (let ih = entries_of-reverse history caller in
    let more = sum_by-cons (λ (x : Entry). cond (x.caller == caller) 1 0) e history in omega (arith, ih, more)))

-- ---- an entry more in the auction of a good

abbrev pub with_entry : List (List Entry) → ℕ → Entry → List (List Entry)
with_entry pasts good e = set pasts good (e ∷ past_at pasts good)

entries_more : (e : Entry) (past : List Entry) (caller : ℕ) → entries_of (e ∷ past) caller ≡ one_if (e.caller == caller) + entries_of past caller
entries_more e past caller = sum_by-cons (λ (x : Entry). cond (x.caller == caller) 1 0) e past

and_true : (b c : Bool) → c ≡ true → one_if (b && c) ≡ one_if b
and_true true c is = ap one_if is
and_true false c is = refl

pub and_false : (b c : Bool) → c ≡ false → one_if (b && c) ≡ 0
and_false true c is = ap one_if is
and_false false c is = refl

pub entries_called : (pasts : List (List Entry)) (good other caller : ℕ) (e : Entry) → good < length pasts →
    entries_of (past_at (with_entry pasts good e) other) caller ≡ entries_of (past_at pasts other) caller + one_if ((e.caller == caller) && (good == other))
entries_called pasts good other caller e inside = dite (ℕ_discrete good other)
    (λ is. let one = and_true (e.caller == caller) (good == other) (eq-eqb good other is) in
    let there : past_at (with_entry pasts good e) other ≡ e ∷ past_at pasts other =
    ap (past_at (with_entry pasts good e)) (sym is) ∙ (get_or-set_same pasts good (e ∷ past_at pasts good) [] inside ∙ ap (λ (g : ℕ). e ∷ past_at pasts g) is) in
    let more = ap (λ (h : List Entry). entries_of h caller) there ∙ entries_more e (past_at pasts other) caller in
    omega (arith, one, more))
    (λ ne. let none = and_false (e.caller == caller) (good == other) (ne_eqb good other ne) in
    let there : past_at (with_entry pasts good e) other ≡ past_at pasts other =
    get_or-set_other pasts good other (e ∷ past_at pasts good) [] (λ is. ne (sym is)) in
    let same = ap (λ (h : List Entry). entries_of h caller) there in
    omega (arith, none, same))

pub made_called : (pasts : List (List Entry)) (good caller : ℕ) (e : Entry) → good < length pasts → made (with_entry pasts good e) caller ≡ made pasts caller + one_if (e.caller == caller)
made_called pasts good caller e inside =
    let swapped = sum_by-set (λ (past : List Entry). entries_of past caller) pasts good (e ∷ past_at pasts good) [] inside in
    let more = entries_more e (past_at pasts good) caller in
    omega (arith, swapped, more)

-- what a caller made, if it has at most this many entries of each good
pub made_most : (pasts : List (List Entry)) (caller most : ℕ) → ((good : ℕ) → entries_of (past_at pasts good) caller ≤ most) → made pasts caller ≤ length pasts * most
made_most [] caller most few = omega arith
made_most (past ∷ pasts) caller most few =
    let first = few 0 in
    let others = made_most pasts caller most (λ good. few (suc good)) in
    let sum = sum_by-cons (λ (p : List Entry). entries_of p caller) past pasts in omega (arith, first, others, sum)

pub made_below : (pasts : List (List Entry)) (caller most good : ℕ) → ((other : ℕ) → entries_of (past_at pasts other) caller ≤ most) → good < length pasts →
    made pasts caller + most ≤ length pasts * most + entries_of (past_at pasts good) caller
made_below [] caller most good few inside = absurd (omega arith)
made_below (past ∷ pasts) caller most zero few inside =
    let others = made_most pasts caller most (λ other. few (suc other)) in
    let sum = sum_by-cons (λ (p : List Entry). entries_of p caller) past pasts in omega (arith, others, sum)
made_below (past ∷ pasts) caller most (suc good) few inside =
    let first = few 0 in
    let others = made_below pasts caller most good (λ other. few (suc other)) (omega arith) in
    let sum = sum_by-cons (λ (p : List Entry). entries_of p caller) past pasts in omega (arith, first, others, sum)

-- ---- an entry more in the cash history

abbrev pub by : CashEntry → ℕ
by e = e.caller

part_more : (cash : List CashEntry) (e : CashEntry) (caller : ℕ) → length (part by (cash ++ e ∷ []) caller) ≡ length (part by cash caller) + one_if (e.caller == caller)
part_more cash e caller = dite (ℕ_discrete e.caller caller)
    (λ is. let one = one_if_same e.caller caller is in
    let more = ap length (part_mine by cash e caller is) ∙ length-append (part by cash caller) ((length cash, e) ∷ []) in omega (arith, one, more))
    (λ ne. let none = one_if_other e.caller caller ne in
    let same = ap length (part_other by cash e caller ne) in omega (arith, none, same))

part_post : (cash : List CashEntry) (post : CashEntry) (caller : ℕ) (trades : List Trade) →
    length (part by (cash ++ post_for trades post) caller) ≤ length (part by cash caller) + one_if (post.caller == caller)
part_post cash post caller [] = let same = ap (λ (l : List CashEntry). length (part by l caller)) (append-nil cash) in omega (arith, same)
part_post cash post caller (t ∷ trades) = let more = part_more cash post caller in omega (arith, more)

pub part_posts : (cash : List CashEntry) (good position caller : ℕ) (e : Entry) →
    length (part by (cash ++ due_post good position e) caller) ≤ length (part by cash caller) + one_if (e.caller == caller)
part_posts cash good position caller e =
    part_post cash (record { caller = e.caller; call = Post good position (record { dollars = nets e.trades }); reply = Done }) caller e.trades

readings_post : (cash : List CashEntry) (post : CashEntry) (agent : ℕ) (trades : List Trade) → one_if (reads agent post.call) ≡ 0 →
    readings_of (cash ++ post_for trades post) agent ≡ readings_of cash agent
readings_post cash post agent [] none = ap (λ (l : List CashEntry). readings_of l agent) (append-nil cash)
readings_post cash post agent (t ∷ trades) none = let more = sum_by_push (λ (x : CashEntry). cond (reads agent x.call) 1 0) cash post in omega (arith, more, none)

pub readings_posts : (cash : List CashEntry) (good position agent : ℕ) (e : Entry) → readings_of (cash ++ due_post good position e) agent ≡ readings_of cash agent
readings_posts cash good position agent e =
    readings_post cash (record { caller = e.caller; call = Post good position (record { dollars = nets e.trades }); reply = Done }) agent e.trades refl

pub part_read : (cash : List CashEntry) (agent caller : ℕ) → length (part by (cash ++ reading_of cash agent ∷ []) caller) ≡ length (part by cash caller) + one_if (agent == caller)
part_read cash agent caller = part_more cash (reading_of cash agent) caller

pub readings_read : (cash : List CashEntry) (agent other : ℕ) → readings_of (cash ++ reading_of cash agent ∷ []) other ≡ readings_of cash other + one_if (agent == other)
readings_read cash agent other = sum_by_push (λ (e : CashEntry). cond (reads other e.call) 1 0) cash (reading_of cash agent)

-- ---- counts in rows

-- one more at a place
pub count_set : (row : List ℕ) (good place : ℕ) → good < length row → get_or (set row good (get_or row good 0 + 1)) place 0 ≡ get_or row place 0 + one_if (good == place)
count_set row good place inside = dite (ℕ_discrete good place)
    (λ is. let one = one_if_same good place is in
    let there : get_or (set row good (get_or row good 0 + 1)) place 0 ≡ get_or row place 0 + 1 =
    ap (λ (k : ℕ). get_or (set row good (get_or row good 0 + 1)) k 0) (sym is) ∙ (get_or-set_same row good (get_or row good 0 + 1) 0 inside ∙ ap (λ (k : ℕ). get_or row k 0 + 1) is) in
    omega (arith, one, there))
    (λ ne. let none = one_if_other good place ne in
    let same = get_or-set_other row good place (get_or row good 0 + 1) 0 (λ is. ne (sym is)) in omega (arith, none, same))

-- The posts that are due to the pasts of a game, by their weight.
use Rattle.std.proofs.Common.{◌≡◌, ℕ, zero, suc, ◌+◌, ◌<◌, true, List, [], ◌∷◌, ◌++◌, length, map, reverse, get_or, set, refl, sym, ap, ◌∙◌, arith, sum_by, flat_map, append-nil}
use Rattle.std.specs.List.{enumerate_from}
use Rattle.std.proofs.lemmas.List.{reverse-append, length-reverse}
use Rattle.std.proofs.lemmas.List.Concat.{flat_map-append}
use Rattle.std.proofs.lemmas.List.Elements.{filter-append}
use Rattle.std.proofs.lemmas.List.Sums.{sum_by-append}
use Rattle.script_run.specs.{Trade, Entry, nets, Post, Done, CashEntry, is_post, posts_of, post_for, due_post, due_to, Matched, past_at, reading_of}
use Rattle.script_run.proofs.Counted.{with_entry}

-- ---- one good

-- what the posts weigh that are due to the past of a good, the newest entry first
abbrev pub owed_to : (CashEntry → ℕ) → ℕ → List Entry → ℕ
owed_to w good [] = 0
owed_to w good (e ∷ past) = owed_to w good past + sum_by w (due_post good (length past) e)

enumerate_snoc : {X : Type 0} (n : ℕ) (xs : List X) (x : X) → enumerate_from n (xs ++ x ∷ []) ≡ enumerate_from n xs ++ (n + length xs, x) ∷ []
enumerate_snoc {X} n [] x = let none : n ≡ n + 0 = omega arith in let one : ℕ → List (ℕ × X) = λ k. (k, x) ∷ [] in ap one none
enumerate_snoc {X} n (y ∷ xs) x =
    let next : (n + 1) + length xs ≡ n + suc (length xs) = omega arith in
    ap (λ (l : List (ℕ × X)). (n, y) ∷ l) (enumerate_snoc (n + 1) xs x) ∙ ap (λ (k : ℕ). (n, y) ∷ (enumerate_from (n + 1) xs ++ (k, x) ∷ [])) next

owed_is : (w : CashEntry → ℕ) (good : ℕ) (past : List Entry) → sum_by w (due_to good (enumerate_from 0 (reverse past))) ≡ owed_to w good past
owed_is w good [] = refl
owed_is w good (e ∷ past) =
    let here : enumerate_from 0 (reverse (e ∷ past)) ≡ enumerate_from 0 (reverse past) ++ (length past, e) ∷ [] =
    ap (enumerate_from 0) (reverse-append (e ∷ []) past) ∙ (enumerate_snoc 0 (reverse past) e ∙ ap (λ (k : ℕ). enumerate_from 0 (reverse past) ++ (k, e) ∷ []) (position (length-reverse past))) in
    let apart : due_to good (enumerate_from 0 (reverse (e ∷ past))) ≡ due_to good (enumerate_from 0 (reverse past)) ++ due_post good (length past) e =
    ap (due_to good) here ∙ (flat_map-append (λ (p : ℕ × Entry). due_post good p.0 p.1) (enumerate_from 0 (reverse past)) ((length past, e) ∷ [])
    ∙ ap (λ (l : List CashEntry). due_to good (enumerate_from 0 (reverse past)) ++ l) (append-nil (due_post good (length past) e))) in
    ap (sum_by w) apart ∙ (sum_by-append w (due_to good (enumerate_from 0 (reverse past))) (due_post good (length past) e)
    ∙ ap (λ (n : ℕ). n + sum_by w (due_post good (length past) e)) (owed_is w good past))
  where
    position : length (reverse past) ≡ length past → 0 + length (reverse past) ≡ length past
    position is = omega (arith, is)

-- ---- all goods

-- what the pasts of the goods that are numbered from a number owe
abbrev pub owed : (CashEntry → ℕ) → ℕ → List (List Entry) → ℕ
owed w good [] = 0
owed w good (past ∷ pasts) = owed_to w good past + owed w (good + 1) pasts

abbrev due_from : ℕ → List (List (ℕ × Entry)) → List CashEntry
due_from n rows = flat_map (λ row. due_to row.0 row.1) (enumerate_from n rows)

owed_from : (w : CashEntry → ℕ) (n : ℕ) (pasts : List (List Entry)) → sum_by w (due_from n (map (enumerate_from 0) (map reverse pasts))) ≡ owed w n pasts
owed_from w n [] = refl
owed_from w n (past ∷ pasts) =
    let apart = sum_by-append w (due_to n (enumerate_from 0 (reverse past))) (due_from (n + 1) (map (enumerate_from 0) (map reverse pasts))) in
    let first = owed_is w n past in
    let others = owed_from w (n + 1) pasts in
    omega (arith, apart, first, others)

-- an entry more in the past of a good
owed_set : (w : CashEntry → ℕ) (n good : ℕ) (pasts : List (List Entry)) (e : Entry) → good < length pasts →
    owed w n (set pasts good (e ∷ get_or pasts good [])) ≡ owed w n pasts + sum_by w (due_post (n + good) (length (get_or pasts good [])) e)
owed_set w n good [] e inside = absurd (omega arith)
owed_set w n zero (past ∷ pasts) e inside =
    let same : sum_by w (due_post (n + 0) (length past) e) ≡ sum_by w (due_post n (length past) e) = ap (λ (k : ℕ). sum_by w (due_post k (length past) e)) (none n) in
    omega (arith, same)
  where
    none : (k : ℕ) → k + 0 ≡ k
    none k = omega arith
owed_set w n (suc good) (past ∷ pasts) e inside =
    let others = owed_set w (n + 1) good pasts e (omega arith) in
    let same : sum_by w (due_post ((n + 1) + good) (length (get_or pasts good [])) e) ≡ sum_by w (due_post (n + suc good) (length (get_or pasts good [])) e) =
    ap (λ (k : ℕ). sum_by w (due_post k (length (get_or pasts good [])) e)) next in
    omega (arith, others, same)
  where
    next : (n + 1) + good ≡ n + suc good
    next = omega arith

pub owed_more : (w : CashEntry → ℕ) (good : ℕ) (pasts : List (List Entry)) (e : Entry) → good < length pasts →
    owed w 0 (with_entry pasts good e) ≡ owed w 0 pasts + sum_by w (due_post good (length (past_at pasts good)) e)
owed_more w good pasts e inside =
    owed_set w 0 good pasts e inside ∙ ap (λ (k : ℕ). owed w 0 pasts + sum_by w (due_post k (length (past_at pasts good)) e)) (bare good)
  where
    bare : (k : ℕ) → 0 + k ≡ k
    bare k = omega arith

-- ---- the cash history

due_are_posts : (post : CashEntry) (trades : List Trade) → is_post post.call ≡ true → posts_of (post_for trades post) ≡ post_for trades post
due_are_posts post [] is = refl
due_are_posts post (t ∷ trades) is = rw is refl

-- a post more
pub posts_more : (w : CashEntry → ℕ) (cash : List CashEntry) (good position : ℕ) (e : Entry) →
    sum_by w (posts_of (cash ++ due_post good position e)) ≡ sum_by w (posts_of cash) + sum_by w (due_post good position e)
posts_more w cash good position e =
    let post : CashEntry = record { caller = e.caller; call = Post good position (record { dollars = nets e.trades }); reply = Done } in
    ap (sum_by w) (filter-append (λ (x : CashEntry). is_post x.call) cash (due_post good position e) ∙ ap (λ (l : List CashEntry). posts_of cash ++ l) (due_are_posts post e.trades refl))
    ∙ sum_by-append w (posts_of cash) (due_post good position e)

-- a reading more
pub posts_read : (w : CashEntry → ℕ) (cash : List CashEntry) (agent : ℕ) → sum_by w (posts_of (cash ++ reading_of cash agent ∷ [])) ≡ sum_by w (posts_of cash)
posts_read w cash agent = ap (sum_by w) (filter-append (λ (x : CashEntry). is_post x.call) cash (reading_of cash agent ∷ []) ∙ append-nil (posts_of cash))

-- the posts are those that are due if they have the same weight
pub matched_is : (pasts : List (List Entry)) (cash : List CashEntry) → ((w : CashEntry → ℕ) → sum_by w (posts_of cash) ≡ owed w 0 pasts) → Matched (map reverse pasts) cash
matched_is pasts cash same w = same w ∙ sym (owed_from w 0 pasts)

-- The entries of a desk that made a list of calls, each of a good.
use Rattle.std.proofs.Common.{◌≡◌, ℕ, suc, ◌+◌, ◌==◌, ◌≤◌, ◌<◌, Bool, cond, List, [], ◌∷◌, ◌++◌, length, map, get_or, slice_index_or, sym, ap, ◌∙◌, arith, filter, count_by, nat_le, sum_by}
use Rattle.std.proofs.lemmas.List.{length-map}
use Rattle.std.proofs.lemmas.List.Sums.{sum_by-cons, length-filter, count_by-le-length}
use Rattle.std.proofs.lemmas.Bool.Decides.{nat_tests}
use Rattle.clock_events.specs.Prelude.{Call, Entry, Desk, desk_calls, desk_entries}
pub use Rattle.floor.specs.Keeping.{calls_of_good}
use Rattle.floor.proofs.CallLists.{calls_of_good-append}
use Rattle.auction_rules.proofs.Ranks.{count-cons}

abbrev of : ℕ → ℕ × Call → Bool
of good call = call.0 == good

-- the entries of the goods are those of these calls, in order
abbrev pub AreMade : List (ℕ × Call) → List (List (ℕ × Entry)) → Type 0
AreMade calls entries = (good : ℕ) → good < 28 → map (λ p. p.1.call) (slice_index_or entries good []) ≡ calls_of_good calls good

-- a desk that had made some calls, and then these in order
pub made_after : (before calls : List (ℕ × Call)) (d d' : Desk) → AreMade before (desk_entries d) → desk_calls d' ≡ desk_calls d ++ calls → AreMade (before ++ calls) (desk_entries d')
made_after before calls d d' made grew good low =
    d'.listed.each good low ∙ ap (λ all. calls_of_good all good) grew ∙ calls_of_good-append (desk_calls d) calls good
    ∙ ap (λ l. l ++ calls_of_good calls good) (sym (d.listed.each good low) ∙ made good low) ∙ sym (calls_of_good-append before calls good)

-- ---- how many entries there are

pub made_length : (calls : List (ℕ × Call)) (entries : List (List (ℕ × Entry))) → AreMade calls entries → (good : ℕ) → good < 28 → length (slice_index_or entries good []) ≡ count_by (of good) calls
made_length calls entries made good low =
    sym (length-map (slice_index_or entries good []) (λ p. p.1.call)) ∙ ap length (made good low)
    ∙ length-map (filter (of good) calls) (λ call. call.1) ∙ length-filter (of good) calls

abbrev from_on : ℕ → ℕ × Call → Bool
from_on good call = nat_le good call.0

one_good_less : (good : ℕ) (calls : List (ℕ × Call)) → count_by (of good) calls + count_by (from_on (good + 1)) calls ≤ count_by (from_on good) calls
one_good_less good [] = omega arith
one_good_less good (call ∷ calls) =
    let rest = one_good_less good calls in
    let here = count-cons (of good) call calls in
    let above = count-cons (from_on (good + 1)) call calls in
    let both = count-cons (from_on good) call calls in
    let one : cond (call.0 == good) 1 0 + cond (nat_le (good + 1) call.0) 1 0 ≤ cond (nat_le good call.0) 1 0 = grind (arith, nat_tests) in
    omega (arith, rest, here, above, both, one)

rows_count : (rows : List (List (ℕ × Entry))) (good : ℕ) (calls : List (ℕ × Call)) → ((i : ℕ) → i < length rows → length (get_or rows i []) ≡ count_by (of (good + i)) calls)
    → sum_by (λ row. length row) rows ≤ count_by (from_on good) calls
rows_count [] good calls each = omega arith
rows_count (row ∷ rows) good calls each =
    let parts = sum_by-cons (λ (r : List (ℕ × Entry)). length r) row rows in
    let zero_plus : good + 0 ≡ good = omega arith in
    let first = each 0 (omega arith) ∙ ap (λ k. count_by (of k) calls) zero_plus in
    let rest = rows_count rows (good + 1) calls (λ i within. each (suc i) (omega (arith, within)) ∙ ap (λ k. count_by (of k) calls) (next i)) in
    let less = one_good_less good calls in
    omega (arith, parts, first, rest, less)
  where
    next : (i : ℕ) → good + suc i ≡ good + 1 + i
    next i = omega arith

-- a desk has no more entries than the calls that it made
pub made_count : (calls : List (ℕ × Call)) (entries : List (List (ℕ × Entry))) → AreMade calls entries → length entries ≡ 28 → sum_by (λ row. length row) entries ≤ length calls
made_count calls entries made goods =
    let counted = rows_count entries 0 calls (λ i within. made_length calls entries made i (omega (arith, within, goods)) ∙ ap (λ k. count_by (of k) calls) (plus_zero i)) in
    let few = count_by-le-length (from_on 0) calls in
    omega (arith, counted, few)
  where
    plus_zero : (i : ℕ) → i ≡ 0 + i
    plus_zero i = omega arith

-- A made script has its bids, and at most 54 ticks.
use Rattle.std.proofs.Common.{◌≡◌, ℕ, zero, suc, ◌+◌, ◌-◌, ◌*◌, ◌/◌, ◌%◌, ◌<◌, ◌≤◌, Bool, false, not, cond, List, [], ◌∷◌, ◌++◌, None, inl, inr, ◌⊎◌, replicate, refl, sym, ap, subst, ◌∙◌, lit<, arith, codes, slice_index, All, count_by, sum_by, flat_map, mod-lt, div-mul-le_self}
use Rattle.std.specs.List.{range_with_len}
use Rattle.std.proofs.Math.Nat.{div-le_of_le-mul}
use Rattle.std.proofs.lemmas.Nat.{le-div}
use Rattle.std.proofs.lemmas.Bool.Decides.{nat_tests}
use Rattle.std.proofs.lemmas.Fmt.{decimal_digit}
use Rattle.std.proofs.lemmas.List.Sums.{sum_by-append}
use Rattle.std.proofs.lemmas.List.Folds.{sum_by-replicate}
use Rattle.std.proofs.lemmas.List.Elements.{All-nil, All-cons, All-append, All-replicate}
use Rattle.draw_maker.specs.Prelude.{Kind, Flight, Hotel, Ticket, Point, fault_of, kind_of}
use Rattle.draw_maker.specs.Scripts.{made_point, bid_line, made_request, ticks_before, made_lines, request_draws, made_script}
use Rattle.draw_maker.specs.BidScripts.{is_tick, IsBidLine, IsBidScript}
use Rattle.draw_maker.proofs.DrawnScripts.{numbers_more}

lawful_point : (kind : Kind) (side units price : ℕ) → fault_of (made_point kind side units price ∷ []) ≡ None
lawful_point Flight side units price =
    let few : units % 2 < 2 = mod-lt units (lit< tt) in
    let low : price % 651 < 651 = mod-lt price (lit< tt) in
    grind (arith, nat_tests)
lawful_point Hotel side units price =
    let few : units % 4 < 4 = mod-lt units (lit< tt) in
    let low : price % 400 < 400 = mod-lt price (lit< tt) in
    grind (arith, nat_tests)
lawful_point Ticket side units price =
    let low : price % 200 < 200 = mod-lt price (lit< tt) in
    grind (arith, nat_tests)

request_is_bid : (words : List ℕ) → IsBidLine (made_request words)
request_is_bid words =
    let agent : slice_index words 0 % 8 < 8 = mod-lt (slice_index words 0) (lit< tt) in
    let good : slice_index words 1 % 28 < 28 = mod-lt (slice_index words 1) (lit< tt) in
    record {
      agent = slice_index words 0 % 8;
      good = slice_index words 1 % 28;
      point = made_point (kind_of (slice_index words 1 % 28)) (slice_index words 2) (slice_index words 3) (slice_index words 4);
      one_of_agents = omega (arith, agent);
      one_of_goods = omega (arith, good);
      lawful = lawful_point (kind_of (slice_index words 1 % 28)) (slice_index words 2) (slice_index words 3) (slice_index words 4);
      spelled = refl;
    }

-- a bid begins with a digit
bid_is_no_tick : (agent good : ℕ) (point : Point) → agent < 8 → is_tick (bid_line agent good point) ≡ false
bid_is_no_tick agent good point few = rw (decimal_digit agent (omega arith)) (grind (arith, nat_tests))

request_is_no_tick : (words : List ℕ) → is_tick (made_request words) ≡ false
request_is_no_tick words = bid_is_no_tick (slice_index words 0 % 8) (slice_index words 1 % 28) _ (mod-lt (slice_index words 0) (lit< tt))

abbrev IsScriptLine : List ℕ → Type 0
IsScriptLine line = (line ≡ codes "tick") ⊎ IsBidLine line

-- the lines of the first requests of a script
abbrev first_lines : ℕ → ℕ → ℕ → List (List ℕ)
first_lines seed count n = flat_map (λ i. made_lines count i (request_draws seed i)) (range_with_len 0 n)

first_lines_more : (seed count n : ℕ) → first_lines seed count (suc n) ≡ first_lines seed count n ++ made_lines count n (request_draws seed n)
first_lines_more seed count n =
    ap (first_lines seed count) (let e : suc n ≡ n + 1 = omega arith in e) ∙ numbers_more (λ i. made_lines count i (request_draws seed i)) n

made_lines_either : (count n : ℕ) (words : List ℕ) → All IsScriptLine (made_lines count n words)
made_lines_either count n words =
    All-append IsScriptLine (replicate (ticks_before count n - ticks_before count (n - 1)) (codes "tick")) (made_request words ∷ [])
    (All-replicate IsScriptLine _ (codes "tick") (inl refl))
    (All-cons IsScriptLine (made_request words) [] (inr (request_is_bid words)) (All-nil IsScriptLine))

first_lines_either : (seed count n : ℕ) → All IsScriptLine (first_lines seed count n)
first_lines_either seed count zero = All-nil IsScriptLine
first_lines_either seed count (suc n) =
    rw (first_lines_more seed count n) (All-append IsScriptLine (first_lines seed count n) _ (first_lines_either seed count n) (made_lines_either count n (request_draws seed n)))

-- ---- how many lines pass a test

lines_counted : (test : List ℕ → Bool) (k : ℕ) (tick bid : List ℕ) → count_by test (replicate k tick ++ bid ∷ []) ≡ k * cond (test tick) 1 0 + cond (test bid) 1 0
lines_counted test k tick bid =
    sum_by-append (λ (line : List ℕ). cond (test line) 1 0) (replicate k tick) (bid ∷ [])
    ∙ ap (λ (n : ℕ). n + sum_by (λ (line : List ℕ). cond (test line) 1 0) (bid ∷ [])) (sum_by-replicate (λ (line : List ℕ). cond (test line) 1 0) k tick)
    ∙ (let e : k * cond (test tick) 1 0 + (0 + cond (test bid) 1 0) ≡ k * cond (test tick) 1 0 + cond (test bid) 1 0 = omega arith in e)

-- what the lines of one more request add to a count, where `tick` adds so many and the request so many
counted_more : (test : List ℕ → Bool) (seed count n ticks bids : ℕ) → cond (test (codes "tick")) 1 0 ≡ ticks → cond (test (made_request (request_draws seed n))) 1 0 ≡ bids
    → count_by test (first_lines seed count (suc n)) ≡ count_by test (first_lines seed count n) + ((ticks_before count n - ticks_before count (n - 1)) * ticks + bids)
counted_more test seed count n ticks bids ticks-are bids-are =
    let new = ticks_before count n - ticks_before count (n - 1) in
    let before = count_by test (first_lines seed count n) in
    ap (count_by test) (first_lines_more seed count n)
    ∙ sum_by-append (λ (line : List ℕ). cond (test line) 1 0) (first_lines seed count n) (made_lines count n (request_draws seed n))
    ∙ ap (λ (k : ℕ). before + k) (lines_counted test new (codes "tick") (made_request (request_draws seed n)))
    ∙ ap (λ (k : ℕ). before + (new * k + cond (test (made_request (request_draws seed n))) 1 0)) ticks-are
    ∙ ap (λ (k : ℕ). before + (new * ticks + k)) bids-are

-- the number of ticks never falls
ticks_rise : (count n : ℕ) → 0 < count → ticks_before count (n - 1) ≤ ticks_before count n
ticks_rise count n some =
    let whole : 54 * (n - 1) / count * count ≤ 54 * (n - 1) = div-mul-le_self (54 * (n - 1)) count in
    le-div (54 * (n - 1) / count) (54 * n) count some (omega (arith, whole))

-- a tick more for each that is new
risen : (before now : ℕ) → before ≤ now → before + ((now - before) * 1 + 0) ≡ now
risen before now rise = omega arith

ticks_counted : (seed count n : ℕ) → 0 < count → count_by is_tick (first_lines seed count n) ≡ ticks_before count (n - 1)
ticks_counted seed count zero some = let none : 54 * (0 - 1) / count ≤ 0 = div-le_of_le-mul count (omega arith) in omega (arith, none)
ticks_counted seed count (suc n) some =
    let now = ticks_before count n in
    let before = ticks_before count (n - 1) in
    counted_more is_tick seed count n 1 0 refl (ap (λ (b : Bool). cond b 1 0) (request_is_no_tick (request_draws seed n)))
    ∙ ap (λ (k : ℕ). k + ((now - before) * 1 + 0)) (ticks_counted seed count n some)
    ∙ risen before now (ticks_rise count n some)
    ∙ ap (ticks_before count) (let e : n ≡ suc n - 1 = omega arith in e)

one_bid_more : (new n : ℕ) → n + (new * 0 + 1) ≡ suc n
one_bid_more new n = omega arith

bids_counted : (seed count n : ℕ) → count_by (λ line. not (is_tick line)) (first_lines seed count n) ≡ n
bids_counted seed count zero = refl
bids_counted seed count (suc n) =
    let new = ticks_before count n - ticks_before count (n - 1) in
    counted_more (λ line. not (is_tick line)) seed count n 0 1 refl (ap (λ (b : Bool). cond (not b) 1 0) (request_is_no_tick (request_draws seed n)))
    ∙ ap (λ (k : ℕ). k + (new * 0 + 1)) (bids_counted seed count n)
    ∙ one_bid_more new n

few_ticks : (seed count : ℕ) → count_by is_tick (first_lines seed count count) ≤ 54
few_ticks seed zero = omega arith
few_ticks seed (suc n) =
    let all : 54 * (suc n - 1) / suc n ≤ 54 = div-le_of_le-mul (suc n) (omega arith) in
    subst (λ (k : ℕ). k ≤ 54) (sym (ticks_counted seed (suc n) (suc n) (omega arith))) all

pub bid_script : (seed count : ℕ) → IsBidScript count (made_script seed count)
unfolding made_script
bid_script seed count = record {
  lines = first_lines seed count count;
  in_lines = refl;
  either = first_lines_either seed count count;
  ticks = few_ticks seed count;
  bids = bids_counted seed count count;
}

-- At each tick the clock has few calls, at most one of each good; how many a whole game has.
use Rattle.std.proofs.Common.{◌≡◌, ◌≢◌, ℕ, ◌+◌, ◌-◌, ◌/◌, ◌%◌, ◌==◌, ◌≤◌, ◌<◌, Bool, true, false, cond, List, [], ◌∷◌, ◌++◌, length, map, take, get_or, refl, sym, ap, ◌∙◌, arith, subst, not, filter, count_by, All, flat_map, sum_by, length-append}
use Rattle.std.specs.List.{enumerate_from}
use Rattle.std.proofs.lemmas.List.{length-map}
use Rattle.std.proofs.lemmas.List.Concat.{length-flat_map}
use Rattle.std.proofs.lemmas.List.Sums.{sum_by-cons, sum_by-append, sum_by-le, length-filter}
use Rattle.std.proofs.lemmas.List.Elements.{All-nil, All-cons, All-head, All-tail, All-append, All-map, All-filter, All-get_or, All-weaker}
use Rattle.std.proofs.lemmas.List.FromFn.{length-enumerate_from}
use Rattle.std.proofs.lemmas.List.Filters.{length-filter_both}
use Rattle.std.proofs.lemmas.Bool.Decides.{nat_tests}
use Rattle.clock_events.specs.Prelude.{Call, Publish, Close, IsBetween, AllBetween, FlightTerms, IsOrder, GameFile, IsGame, update_of, closed_last, hotel_nights, open_after, hotel_calls, calls_at, ticks, schedule, clock_calls}
use Rattle.auction_rules.proofs.Ranks.{count-cons}
use Rattle.clock_events.specs.Laws.{tick_calls_of, IsDueCall}
use Rattle.clock_events.proofs.CallLists.{publication_of, closing_of, hotel_calls_at}
use Rattle.clock_events.proofs.GoodCounts.{is_among, count-filter, count_left_out, count_among, among_first, distinct_once, none_below, all_between}

abbrev of : ℕ → ℕ × Call → Bool
of good call = call.0 == good

-- ---- the updates of flights

updates_behind : (tick good from : ℕ) (flights : List FlightTerms) → good < from → count_by (of good) (map (update_of tick) (enumerate_from from flights)) ≡ 0
updates_behind tick good from [] early = refl
updates_behind tick good from (flight ∷ flights) early =
    let e : (from == good) ≡ false = grind (arith, nat_tests, early) in
    count-cons (of good) (update_of tick (from, flight)) (map (update_of tick) (enumerate_from (from + 1) flights))
    ∙ rw (e, updates_behind tick good (from + 1) flights (omega (arith, early))) refl

updates_once : (tick good from : ℕ) (flights : List FlightTerms) → count_by (of good) (map (update_of tick) (enumerate_from from flights)) ≤ 1
updates_once tick good from [] = omega arith
updates_once tick good from (flight ∷ flights) =
    let first = count-cons (of good) (update_of tick (from, flight)) (map (update_of tick) (enumerate_from (from + 1) flights)) in
    let rest = by_test (from == good) refl (updates_once tick good (from + 1) flights) in
    omega (arith, first, rest)
  where
    by_test : (b : Bool) → (from == good) ≡ b → count_by (of good) (map (update_of tick) (enumerate_from (from + 1) flights)) ≤ 1 →
        cond b 1 0 + count_by (of good) (map (update_of tick) (enumerate_from (from + 1) flights)) ≤ 1
    by_test true e ih =
        let same : from ≡ good = grind (arith, nat_tests, e) in
        let none = updates_behind tick good (from + 1) flights (omega (arith, same)) in
        omega (arith, none)
    by_test false e ih = omega (arith, ih)

updates_before : (tick good from : ℕ) (flights : List FlightTerms) → from + length flights ≤ good → count_by (of good) (map (update_of tick) (enumerate_from from flights)) ≡ 0
updates_before tick good from [] past = refl
updates_before tick good from (flight ∷ flights) past =
    let e : (from == good) ≡ false = grind (arith, nat_tests, past) in
    count-cons (of good) (update_of tick (from, flight)) (map (update_of tick) (enumerate_from (from + 1) flights))
    ∙ rw (e, updates_before tick good (from + 1) flights (omega (arith, past))) refl

updates_due : (tick from : ℕ) (flights : List FlightTerms) → tick ≤ 53 → from + length flights ≤ 8 → All (IsDueCall tick) (map (update_of tick) (enumerate_from from flights))
updates_due tick from [] soon within = All-nil (IsDueCall tick)
updates_due tick from (flight ∷ flights) soon within =
    All-cons (IsDueCall tick) (update_of tick (from, flight)) _ (refl, soon, omega (arith, within)) (updates_due tick (from + 1) flights soon (omega (arith, within)))

-- ---- the calls of the hotels

-- the same call of several goods
of_goods : (call : Call) (good : ℕ) (goods : List ℕ) → count_by (of good) (map (λ m. (m, call)) goods) ≡ count_by (λ m. m == good) goods
of_goods call good [] = refl
of_goods call good (m ∷ goods) =
    count-cons (of good) (m, call) (map (λ k. (k, call)) goods)
    ∙ ap (λ k. cond (m == good) 1 0 + k) (of_goods call good goods)
    ∙ sym (count-cons (λ k. k == good) m goods)

publications_due : (tick : ℕ) (goods : List ℕ) → AllBetween 8 15 goods → All (IsDueCall tick) (map publication_of goods)
publications_due tick goods range = All-map (IsDueCall tick) publication_of goods range

nights_between : AllBetween 8 15 hotel_nights
nights_between = all_between 8 15 hotel_nights refl

open_count : (order : List ℕ) (turn : ℕ) → IsOrder order → turn ≤ 8 → length (open_after order turn) ≡ 8 - turn
unfolding open_after
open_count order turn is within =
    let closed = count_among turn order (omega (arith, within, is.count)) is.range is.apart in
    let sides = length-filter_both (is_among (take turn order)) (λ good. not (is_among (take turn order) good)) (λ good. refl) hotel_nights in
    let kept = length-filter (is_among (take turn order)) hotel_nights in
    omega (arith, closed, sides, kept)

open_once : (order : List ℕ) (turn good : ℕ) → count_by (λ m. m == good) (open_after order turn) ≤ 1
unfolding open_after
open_once order turn good =
    let part = count-filter (λ m. m == good) (λ m. not (is_among (take turn order) m)) hotel_nights in
    let one = distinct_once hotel_nights refl good in
    omega (arith, part, one)

open_low : (order : List ℕ) (turn good : ℕ) → good < 8 → count_by (λ m. m == good) (open_after order turn) ≡ 0
unfolding open_after
open_low order turn good low =
    let part = count-filter (λ m. m == good) (λ m. not (is_among (take turn order) m)) hotel_nights in
    let none = none_below 8 hotel_nights (All-weaker (IsBetween 8 15) (λ n. 8 ≤ n) (λ n between. between.0) hotel_nights nights_between) good low in
    omega (arith, part, none)

open_between : (order : List ℕ) (turn : ℕ) → AllBetween 8 15 (open_after order turn)
unfolding open_after
open_between order turn = All-filter (λ m. not (is_among (take turn order) m)) (IsBetween 8 15) hotel_nights nights_between

-- the hotel that closes is not open any more
not_open : (order : List ℕ) (turn : ℕ) → 1 ≤ turn → turn ≤ length order → count_by (λ m. m == get_or order (turn - 1) 0) (open_after order turn) ≡ 0
unfolding open_after
not_open order turn first within =
    count_left_out (λ m. not (is_among (take turn order) m)) (get_or order (turn - 1) 0)
    (ap not (among_first order (turn - 1) turn (omega (arith, first, within)) (omega (arith, first)))) hotel_nights

module _ (order : List ℕ) (turn : ℕ) (is : IsOrder order) (first : 1 ≤ turn) (last : turn ≤ 8) where
  abbrev closing : ℕ
  closing = get_or order (turn - 1) 0

  in_order : turn ≤ length order
  in_order = let count = is.count in omega (arith, last, count)

  closing_between : (8 ≤ closing) × (closing ≤ 15)
  closing_between = All-get_or (IsBetween 8 15) order (turn - 1) 0 (let within = in_order in omega (arith, within, first)) is.range

  hotels_parts : (good : ℕ) → count_by (of good) (hotel_calls order turn) ≡ cond (closing == good) 1 0 + count_by (λ m. m == good) (open_after order turn)
  hotels_parts good = count-cons (of good) (closing_of closing) (map publication_of (open_after order turn)) ∙ ap (λ k. cond (closing == good) 1 0 + k) (of_goods Publish good (open_after order turn))

  pub hotels_once : (good : ℕ) → count_by (of good) (hotel_calls order turn) ≤ 1
  hotels_once good = let parts = hotels_parts good in let rest = by_test (closing == good) refl in omega (arith, parts, rest)
    where
      by_test : (b : Bool) → (closing == good) ≡ b → cond b 1 0 + count_by (λ m. m == good) (open_after order turn) ≤ 1
      by_test true e =
          let same : closing ≡ good = grind (arith, nat_tests, e) in
          let none = subst (λ k. count_by (λ m. m == k) (open_after order turn) ≡ 0) same (not_open order turn first in_order) in
          omega (arith, none)
      by_test false e = let once = open_once order turn good in omega (arith, once)

  pub hotels_low : (good : ℕ) → good < 8 → count_by (of good) (hotel_calls order turn) ≡ 0
  hotels_low good low =
      let between = closing_between in
      let other : (closing == good) ≡ false = grind (arith, nat_tests, between.0, low) in
      hotels_parts good ∙ rw (other, open_low order turn good low) refl

  pub hotels_count : length (hotel_calls order turn) ≡ 9 - turn
  hotels_count = let open_now = open_count order turn is last in let one = length-map (open_after order turn) publication_of in omega (arith, open_now, one, last)

  pub hotels_due : (tick : ℕ) → All (IsDueCall tick) (hotel_calls order turn)
  hotels_due tick = let between = closing_between in
      All-cons (IsDueCall tick) (closing_of closing) _ (omega (arith, between)) (publications_due tick (open_after order turn) (open_between order turn))

-- ---- the calls of a tick

-- a number is a flight or it is none
one_side : (flights hotels all good : ℕ) → all ≡ flights + hotels → flights ≤ 1 → hotels ≤ 1 → (8 ≤ good → flights ≡ 0) → (good < 8 → hotels ≡ 0) → all ≤ 1
one_side flights hotels all good parts one two high low = grind arith

-- how many calls a tick has
abbrev calls_count : ℕ → ℕ
calls_count tick = cond (tick == 54) 20 (8 + cond (tick % 6 == 0) (9 - tick / 6) 0)

last_once : (good : ℕ) → count_by (of good) (map closing_of closed_last) ≤ 1
last_once good = let one = distinct_once closed_last refl good in let goods = of_goods Close good closed_last in omega (arith, one, goods)

last_due : All (IsDueCall 54) (map closing_of closed_last)
last_due = All-map (IsDueCall 54) closing_of closed_last (All-weaker (IsBetween 0 27) (λ good. good ≤ 27) (λ good between. between.1) closed_last (all_between 0 27 closed_last refl))

module _ (game : GameFile) (is : IsGame game) (tick : ℕ) (first : 1 ≤ tick) (last : tick ≤ 54) where
  order_is : IsOrder game.order
  order_is = is.order

  turn_low : tick % 6 ≡ 0 → 1 ≤ tick / 6
  turn_low sixth = omega (arith, sixth, first)

  turn_high : tick ≢ 54 → tick / 6 ≤ 8
  turn_high early = omega (arith, last, early)

  flights_count : length game.flights ≡ 8
  flights_count = is.flight_count

  abbrev updates : List (ℕ × Call)
  updates = map (update_of tick) (enumerate_from 0 game.flights)

  updates_length : length updates ≡ 8
  updates_length = length-map (enumerate_from 0 game.flights) (update_of tick) ∙ length-enumerate_from 0 game.flights ∙ flights_count

  -- what holds of the updates and of a hotel's calls holds of a tick's calls
  at_hotels : (P : List (ℕ × Call) → Type 0) → tick ≢ 54 → ((tick % 6 == 0) ≡ false → P []) → (tick % 6 ≡ 0 → P (hotel_calls game.order (tick / 6))) → P (hotel_calls_at game.order tick)
  at_hotels P early none some = by_test (tick % 6 == 0) refl
    where
      by_test : (b : Bool) → (tick % 6 == 0) ≡ b → P (cond b (hotel_calls game.order (tick / 6)) [])
      by_test true e = some (grind (arith, nat_tests, e))
      by_test false e = none e

  early_once : tick ≢ 54 → (good : ℕ) → count_by (of good) (updates ++ hotel_calls_at game.order tick) ≤ 1
  early_once early good =
      let parts = sum_by-append (λ call. cond (of good call) 1 0) updates (hotel_calls_at game.order tick) in
      let one = updates_once tick good 0 game.flights in
      let other : 8 ≤ good → count_by (of good) updates ≡ 0 = λ high. updates_before tick good 0 game.flights (let count = flights_count in omega (arith, count, high)) in
      let hotels : count_by (of good) (hotel_calls_at game.order tick) ≤ 1 = at_hotels (λ calls. count_by (of good) calls ≤ 1) early (λ e. omega arith)
      (λ sixth. hotels_once game.order (tick / 6) order_is (turn_low sixth) (turn_high early) good) in
      let low : good < 8 → count_by (of good) (hotel_calls_at game.order tick) ≡ 0 = λ under. at_hotels (λ calls. count_by (of good) calls ≡ 0) early (λ e. refl)
      (λ sixth. hotels_low game.order (tick / 6) order_is (turn_low sixth) (turn_high early) good under) in
      one_side (count_by (of good) updates) (count_by (of good) (hotel_calls_at game.order tick)) (count_by (of good) (updates ++ hotel_calls_at game.order tick)) good parts one hotels other low

  pub once : (good : ℕ) → tick_calls_of game tick good ≤ 1
  unfolding calls_at
  once good = by_test (tick == 54) refl
    where
      by_test : (b : Bool) → (tick == 54) ≡ b → count_by (of good) (cond b (map closing_of closed_last) (updates ++ hotel_calls_at game.order tick)) ≤ 1
      by_test true e = last_once good
      by_test false e = early_once (λ same. let clash : (tick == 54) ≡ true = grind (arith, nat_tests, same) in let off : true ≡ false = sym clash ∙ e in cc) good

  early_due : tick ≢ 54 → All (IsDueCall tick) (updates ++ hotel_calls_at game.order tick)
  early_due early = All-append (IsDueCall tick) updates (hotel_calls_at game.order tick)
      (updates_due tick 0 game.flights (omega (arith, early, last)) (let count = flights_count in omega (arith, count)))
      (at_hotels (All (IsDueCall tick)) early (λ e. All-nil (IsDueCall tick)) (λ sixth. hotels_due game.order (tick / 6) order_is (turn_low sixth) (turn_high early) tick))

  pub fit : All (IsDueCall tick) (calls_at game tick)
  unfolding calls_at
  fit = by_test (tick == 54) refl
    where
      by_test : (b : Bool) → (tick == 54) ≡ b → All (IsDueCall tick) (cond b (map closing_of closed_last) (updates ++ hotel_calls_at game.order tick))
      by_test true e = let same : 54 ≡ tick = grind (arith, nat_tests, e) in subst (λ k. All (IsDueCall k) (map closing_of closed_last)) same last_due
      by_test false e = early_due (λ same. let clash : (tick == 54) ≡ true = grind (arith, nat_tests, same) in let off : true ≡ false = sym clash ∙ e in cc)

  early_count : tick ≢ 54 → length (updates ++ hotel_calls_at game.order tick) ≡ 8 + cond (tick % 6 == 0) (9 - tick / 6) 0
  early_count early =
      length-append updates (hotel_calls_at game.order tick)
      ∙ ap (λ k. k + length (hotel_calls_at game.order tick)) updates_length
      ∙ ap (λ k. 8 + k) (by_test (tick % 6 == 0) refl)
    where
      by_test : (b : Bool) → (tick % 6 == 0) ≡ b → length (cond b (hotel_calls game.order (tick / 6)) []) ≡ cond b (9 - tick / 6) 0
      by_test true e = let sixth : tick % 6 ≡ 0 = grind (arith, nat_tests, e) in hotels_count game.order (tick / 6) order_is (turn_low sixth) (turn_high early)
      by_test false e = refl

  pub count : length (calls_at game tick) ≡ calls_count tick
  unfolding calls_at
  count = by_test (tick == 54) refl
    where
      by_test : (b : Bool) → (tick == 54) ≡ b → length (cond b (map closing_of closed_last) (updates ++ hotel_calls_at game.order tick)) ≡ cond b 20 (8 + cond (tick % 6 == 0) (9 - tick / 6) 0)
      by_test true e = refl
      by_test false e = early_count (λ same. let clash : (tick == 54) ≡ true = grind (arith, nat_tests, same) in let off : true ≡ false = sym clash ∙ e in cc)

  pub few : length (calls_at game tick) ≤ 20
  few = let counted = count in let small = by_test (tick == 54) (tick % 6 == 0) in omega (arith, counted, small)
    where
      by_test : (a b : Bool) → cond a 20 (8 + cond b (9 - tick / 6) 0) ≤ 20
      by_test true b = omega arith
      by_test false true = omega arith
      by_test false false = omega arith

-- ---- the calls of a game

are_ticks : AllBetween 1 54 ticks
are_ticks = all_between 1 54 ticks refl

-- two numbers that are equal at each tick add up to the same
same_sums : (f g : ℕ → ℕ) (ns : List ℕ) → All (λ n. f n ≡ g n) ns → sum_by f ns ≡ sum_by g ns
same_sums f g [] same = refl
same_sums f g (n ∷ ns) same =
    let here = All-head (λ m. f m ≡ g m) n ns same in
    let rest = same_sums f g ns (All-tail (λ m. f m ≡ g m) n ns same) in
    sum_by-cons f n ns ∙ rw (here, rest) (sym (sum_by-cons g n ns))

pub whole : (game : GameFile) → IsGame game → length (schedule game) ≡ 480
whole game is =
    length-flat_map (calls_at game) ticks
    ∙ same_sums (λ tick. length (calls_at game tick)) calls_count ticks
    (All-weaker (IsBetween 1 54) (λ tick. length (calls_at game tick) ≡ calls_count tick) (λ tick within. count game is tick within.0 within.1) ticks are_ticks)

count-flat_map : (p : ℕ × Call → Bool) (f : ℕ → List (ℕ × Call)) (ns : List ℕ) → count_by p (flat_map f ns) ≡ sum_by (λ n. count_by p (f n)) ns
count-flat_map p f [] = refl
count-flat_map p f (n ∷ ns) =
    sum_by-append (λ call. cond (p call) 1 0) (f n) (flat_map f ns)
    ∙ ap (λ k. count_by p (f n) + k) (count-flat_map p f ns)
    ∙ sym (sum_by-cons (λ m. count_by p (f m)) n ns)

pub most : (game : GameFile) → IsGame game → (good : ℕ) → length (clock_calls game good) ≤ 54
most game is good =
    let shown = length-map (filter (of good) (schedule game)) (λ entry. entry.1) in
    let counted = length-filter (of good) (schedule game) in
    let parts = count-flat_map (of good) (calls_at game) ticks in
    let each = sum_by-le (λ tick. count_by (of good) (calls_at game tick)) 1 ticks
    (All-weaker (IsBetween 1 54) (λ tick. count_by (of good) (calls_at game tick) ≤ 1) (λ tick within. once game is tick within.0 within.1 good) ticks are_ticks) in
    omega (arith, shown, counted, parts, each)

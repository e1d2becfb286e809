-- The calls of the ticks so far, among those of a game.
use Rattle.std.proofs.Common.{◌≡◌, ℕ, zero, suc, ◌+◌, ◌-◌, ◌==◌, ◌≤◌, ◌<◌, List, [], ◌∷◌, ◌++◌, length, take, drop, get_or, slice_get, Some, None, refl, sym, ap, ◌∙◌, arith, subst, cond, append_assoc, append-nil, filter, count_by, All, flat_map, take-suc, length-append, length-drop, take-append-drop}
use Rattle.std.proofs.lemmas.Grind.{flat_map-append}
use Rattle.std.proofs.lemmas.Option.{get_or_from_slice_get, slice_get_within}
use Rattle.std.proofs.lemmas.List.{length-map}
use Rattle.std.proofs.lemmas.List.Elements.{All-get_or}
use Rattle.std.proofs.lemmas.List.FromFn.{get_or-range_with_len}
use Rattle.std.proofs.lemmas.List.Sums.{sum_by-append, length-filter}
use Rattle.clock_events.specs.Prelude.{Call, Bid, Withdraw, Own, Update, Publish, Close, GameFile, IsClockCall, calls_at, clock_calls, schedule, ticks}
use Rattle.clock_events.specs.Laws.{IsDueCall, IsFor}

tick_is : (tick : ℕ) → 1 ≤ tick → tick ≤ 54 → get_or ticks (tick - 1) 0 ≡ tick
tick_is tick first last = let found : get_or ticks (tick - 1) 0 ≡ 1 + (tick - 1) = get_or-range_with_len 1 54 (tick - 1) 0 (omega (arith, first, last)) in omega (arith, found, first)

-- the ticks up to one
pub next_tick : (tick : ℕ) → 1 ≤ tick → tick ≤ 54 → take tick ticks ≡ take (tick - 1) ticks ++ tick ∷ []
next_tick tick first last =
    let more = take-suc ticks (tick - 1) 0 (omega (arith, first, last)) in
    let same : suc (tick - 1) ≡ tick = omega (arith, first) in
    ap (λ k. take k ticks) (sym same) ∙ more ∙ ap (λ k. take (tick - 1) ticks ++ k ∷ []) (tick_is tick first last)

module _ (game : GameFile) where
  -- the calls of the ticks before one, and of that tick
  pub tick_done : (tick : ℕ) → 1 ≤ tick → tick ≤ 54 → flat_map (calls_at game) (take (tick - 1) ticks) ++ calls_at game tick ≡ flat_map (calls_at game) (take tick ticks)
  tick_done tick first last =
      ap (λ more. flat_map (calls_at game) (take (tick - 1) ticks) ++ more) (sym (append-nil (calls_at game tick)))
      ∙ sym (flat_map-append (calls_at game) (take (tick - 1) ticks) (tick ∷ []))
      ∙ ap (flat_map (calls_at game)) (sym (next_tick tick first last))

  -- the calls that follow the first calls of a tick
  pub to_come : (tick n : ℕ) → 1 ≤ tick → tick ≤ 54 → schedule game ≡ (flat_map (calls_at game) (take (tick - 1) ticks) ++ take n (calls_at game tick)) ++ (drop n (calls_at game tick) ++ flat_map (calls_at game) (drop tick ticks))
  to_come tick n first last =
      ap (flat_map (calls_at game)) (sym (take-append-drop tick ticks))
      ∙ flat_map-append (calls_at game) (take tick ticks) (drop tick ticks)
      ∙ ap (λ calls. calls ++ flat_map (calls_at game) (drop tick ticks)) (sym (tick_done tick first last)
      ∙ ap (λ calls. flat_map (calls_at game) (take (tick - 1) ticks) ++ calls) (sym (take-append-drop n (calls_at game tick))))
      ∙ regroup (flat_map (calls_at game) (take (tick - 1) ticks)) (take n (calls_at game tick)) (drop n (calls_at game tick)) (flat_map (calls_at game) (drop tick ticks))
    where
      regroup : (a b c d : List (ℕ × Call)) → (a ++ (b ++ c)) ++ d ≡ (a ++ b) ++ (c ++ d)
      regroup a b c d = simp append_assoc

  module _ (tick n : ℕ) (first : 1 ≤ tick) (last : tick ≤ 54) where
    abbrev pub so_far : List (ℕ × Call)
    so_far = flat_map (calls_at game) (take (tick - 1) ticks) ++ take n (calls_at game tick)

    -- of a good there are no more calls so far than in the game
    pub few_so_far : (good : ℕ) → count_by (λ call. call.0 == good) so_far ≤ length (clock_calls game good)
    few_so_far good =
        let whole = length-map (filter (λ call. call.0 == good) (schedule game)) (λ call. call.1) ∙ length-filter (λ call. call.0 == good) (schedule game) ∙ ap (count_by (λ call. call.0 == good)) (to_come tick n first last) in
        let parts = sum_by-append (λ (call : ℕ × Call). cond (call.0 == good) 1 0) so_far (drop n (calls_at game tick) ++ flat_map (calls_at game) (drop tick ticks)) in
        omega (arith, whole, parts)

    -- while a call of the tick is left, not all calls of the game were made
    pub some_to_come : n < length (calls_at game tick) → length so_far < length (schedule game)
    some_to_come left =
        let whole = ap length (to_come tick n first last) in
        let parts = length-append so_far (drop n (calls_at game tick) ++ flat_map (calls_at game) (drop tick ticks)) in
        let later = length-append (drop n (calls_at game tick)) (flat_map (calls_at game) (drop tick ticks)) in
        let rest = length-drop n (calls_at game tick) in
        omega (arith, whole, parts, later, rest, left)

module _ {A : Type 0} where
  -- one element more from the front
  pub one_more : (xs : List A) (n : ℕ) (x : A) → slice_get xs n ≡ Some x → take n xs ++ x ∷ [] ≡ take (n + 1) xs
  one_more xs n x at =
      ap (λ y. take n xs ++ y ∷ []) (sym (get_or_from_slice_get xs n x x at)) ∙ sym (take-suc xs n x (slice_get_within xs n x at)) ∙ ap (λ k. take k xs) (suc_is n)
    where
      suc_is : (k : ℕ) → suc k ≡ k + 1
      suc_is k = omega arith

  pub all_taken : (xs : List A) (n : ℕ) → slice_get xs n ≡ None → take n xs ≡ xs
  all_taken [] zero past = refl
  all_taken [] (suc n) past = refl
  all_taken (x ∷ xs) zero past = let clash : Some x ≡ None = past in cc
  all_taken (x ∷ xs) (suc n) past = ap (λ rest. x ∷ rest) (all_taken xs n past)

-- a call that is due at a good's tick is one of the clock's, and its good has a number
pub is_clock_call : (tick good : ℕ) (call : Call) → IsFor tick good call → (good < 28) × IsClockCall call
is_clock_call tick good (Update when draw) for = (omega (arith, for.2), omega (arith, for.0, for.1))
is_clock_call tick good Publish for = (omega (arith, for.1), tt)
is_clock_call tick good Close for = (omega (arith, for), tt)
is_clock_call tick good (Bid points) for = absurd for
is_clock_call tick good Withdraw for = absurd for
is_clock_call tick good Own for = absurd for

pub call_is_due : (calls : List (ℕ × Call)) (tick n good : ℕ) (call : Call) → All (IsDueCall tick) calls → slice_get calls n ≡ Some (good, call) → (good < 28) × IsClockCall call
call_is_due calls tick n good call due at =
    is_clock_call tick good call (subst (IsDueCall tick) (get_or_from_slice_get calls n (good, call) (good, call) at) (All-get_or (IsDueCall tick) calls n (good, call) (slice_get_within calls n (good, call) at) due))

-- A game that one thread plays to its end is legal.
use Rattle.std.proofs.Common.{◌≡◌, ℕ, ◌+◌, ◌<◌, ◌≤◌, List, [], ◌∷◌, length, map, reverse, get_or, refl, sym, ap, ◌∙◌, subst, arith, Ok, All}
use Rattle.std.specs.List.{AllByRecursion, enumerate_from, range_with_len}
use Rattle.std.proofs.lemmas.List.{reverse-append, reverse-reverse, get_or-map, length-map}
use mathlib.Core.Logic.{dite}
use native.Mathlib.Decide.{ℕ_discrete}
use Rattle.script_run.specs.{clock, GameFile, calls_at, clock_calls, Entry, Setup, Legal, IsLawful, cap, entries_of, part, AuctionHistory, setup_of, IsDueCall, calls_until, Matched, histories_of, GameState, past_at, auction_with, closed_of, whole_game, closed_game, game_script, closed_history, calls_by, IsLawfulGame}
use Rattle.auction_core.proofs.Counting.{by, length-part, called_snoc}
use Rattle.script_run.specs.declared.game.lines.GameLine.{GameLine}
use Rattle.script_run.proofs.Counted.{entries_of-reverse}
use Rattle.script_run.proofs.LawfulSteps.{IsOnTime, time_whole}
use Rattle.script_run.proofs.LineRanges.{script_low}
use Rattle.script_run.proofs.OwedPosts.{matched_is}
use Rattle.script_run.proofs.Tables.{agent_cap}

-- ---- what a closed game has of the pasts

histories_from : (game : GameFile) (n : ℕ) (pasts : List (List Entry)) → map (λ (a : AuctionHistory). a.history) (map (auction_with game) (enumerate_from n pasts)) ≡ map reverse pasts
histories_from game n [] = refl
histories_from game n (past ∷ pasts) = ap (λ (l : List (List Entry)). reverse past ∷ l) (histories_from game (n + 1) pasts)

setups_from : (game : GameFile) (n : ℕ) (pasts : List (List Entry)) →
    map (λ (a : AuctionHistory). a.setup) (map (auction_with game) (enumerate_from n pasts)) ≡ map (λ (good : ℕ). setup_of good game) (range_with_len n (length pasts))
setups_from game n [] = refl
setups_from game n (past ∷ pasts) = ap (λ (l : List Setup). setup_of n game ∷ l) (setups_from game (n + 1) pasts)

called_reversed : (past : List Entry) → AllByRecursion (λ (e : Entry). e.caller ≤ clock) past → AllByRecursion (λ (e : Entry). e.caller ≤ clock) (reverse past)
called_reversed [] all = tt
called_reversed (e ∷ past) all = subst (AllByRecursion (λ (x : Entry). x.caller ≤ clock)) (sym (reverse-append (e ∷ []) past)) (called_snoc (reverse past) e (called_reversed past all.1) all.0)

-- the clock's entries are as many as its calls
clock_count : (history : List Entry) → entries_of history clock ≡ length (calls_by clock history)
clock_count history = sym (length-part history clock) ∙ sym (length-map (part by history clock) (λ (p : ℕ × Entry). p.1.call))

module _ (game : GameFile) (fit : (tick : ℕ) → 1 ≤ tick → tick ≤ 54 → All (IsDueCall tick) (calls_at game tick)) (most : (good : ℕ) → length (clock_calls game good) ≤ 54) (state : GameState)
    (time : IsOnTime game state) (all : state.ticks ≡ 54) where
  histories : histories_of (closed_of game state) ≡ map reverse state.pasts
  histories = histories_from game 0 state.pasts

  there : (good : ℕ) → good < 28 → closed_history (closed_of game state) good ≡ reverse (past_at state.pasts good)
  there good low =
      let count = time.lawful.count in
      ap (λ (l : List (List Entry)). get_or l good []) histories ∙ get_or-map reverse state.pasts good [] [] (omega (arith, count, low))

  on_schedule : (good : ℕ) → calls_by clock (reverse (past_at state.pasts good)) ≡ clock_calls game good
  on_schedule good = time.made good ∙ ap (λ (n : ℕ). calls_until game n good) all

  capped : (good caller : ℕ) → caller ≤ clock → entries_of (reverse (past_at state.pasts good)) caller ≤ cap caller
  capped good caller low = dite (ℕ_discrete caller clock)
      (λ is. subst (λ (c : ℕ). entries_of (reverse (past_at state.pasts good)) c ≤ cap c) (sym is)
      (let count = clock_count (reverse (past_at state.pasts good)) ∙ ap length (on_schedule good) in let few = most good in omega (arith, count, few)))
      (λ ne. let le : caller ≤ 7 = omega (arith, low, ne) in
      let few = time.lawful.few good caller le in
      let same = entries_of-reverse (past_at state.pasts good) caller in
      let most' : cap caller ≡ 1024 = (agent_cap caller le).0 in
      omega (arith, few, same, most'))

  lawful_state : IsLawfulGame game (closed_of game state)
  lawful_state = record {
    setups = setups_from game 0 state.pasts ∙ ap (λ (n : ℕ). map (λ (good : ℕ). setup_of good game) (range_with_len 0 n)) time.lawful.count;
    legal = λ good low. subst (Legal (setup_of good game)) (sym (there good low)) (record {
      lawful = subst (IsLawful (setup_of good game)) (sym (reverse-reverse (past_at state.pasts good))) (time.lawful.lawful good);
      called = called_reversed (past_at state.pasts good) (time.lawful.called good);
      capped = capped good;
    });
    scheduled = λ good low. ap (calls_by clock) (there good low) ∙ on_schedule good;
    cash = time.lawful.cash;
    matched = subst (λ (l : List (List Entry)). Matched l state.cash) (sym histories) (matched_is state.pasts state.cash time.lawful.matched);
  }

-- whatever a script asks
pub lawful_script : (game : GameFile) → ((tick : ℕ) → 1 ≤ tick → tick ≤ 54 → All (IsDueCall tick) (calls_at game tick)) → ((good : ℕ) → length (clock_calls game good) ≤ 54) →
    (script : List ℕ) (lines : List GameLine) → game_script script ≡ Ok lines → IsLawfulGame game (closed_game game lines)
lawful_script game fit most script lines is =
    let whole = time_whole game fit lines (script_low script lines is) in
    lawful_state game fit most (whole_game game lines) whole.0 whole.1

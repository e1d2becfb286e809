-- Waiting tick by tick.
use Rattle.std.proofs.Common.{◌≡◌, ℕ, zero, suc, ◌+◌, ◌-◌, ◌<◌, ◌≤◌, Bool, true, false, cond, List, [], ◌∷◌, ◌++◌, map, take, Option, refl, sym, ap, ◌∙◌, arith, subst, append_assoc, append-nil, All, MatchBool, count_by}
use Rattle.std.specs.Int.{from_bool}
use Rattle.std.proofs.lemmas.List.{map-append}
use Rattle.std.proofs.lemmas.List.Elements.{All-nil, All-push}
use Rattle.std.proofs.lemmas.List.Sums.{sum_by-append}
use Rattle.clock_events.specs.Prelude.{Rose, TickWait, TickerState, known_then, Step, WaitsNoted, GameFile, ticks}
use Rattle.tac_io.proofs.KnownPieces.{known_then-nothing, known_then-twice}
use Rattle.clock_events.specs.Clocking.{WaitsForAll}
use Rattle.clock_events.specs.Steps.{steps_at, steps_over}
use Rattle.clock_events.proofs.TickCalls.{next_tick}

rose_twice : (first before now : ℕ) → Rose first before → Rose before now → Rose first now
rose_twice first before now one two = record {
  never_falls = let a = one.never_falls in let b = two.never_falls in omega (arith, a, b);
  rises = let a = one.rises in let b = two.never_falls in omega (arith, a, b);
  stays = λ last. two.stays (one.stays last ∙ last) ∙ one.stays last;
}

-- some tick lapsed exactly if the count of faults rose
pub record HasMissedCause (faults faults' missed : ℕ) : Type 0 where
  pub rose : 0 < missed → Rose faults faults'
  pub same : missed ≡ 0 → faults' ≡ faults

missed_more : (first before now missed : ℕ) (lapsed : Bool) → HasMissedCause first before missed → MatchBool lapsed (Rose before now) (now ≡ before) → HasMissedCause first now (missed + from_bool lapsed)
missed_more first before now zero true cause rose = record {
  rose = λ some. subst (λ count. Rose count now) (cause.same refl) rose;
  same = λ none. absurd (omega (arith, none));
}
missed_more first before now (suc missed) true cause rose = record {
  rose = λ some. rose_twice first before now (cause.rose (omega arith)) rose;
  same = λ none. absurd (omega (arith, none));
}
missed_more first before now missed false cause stays = record {
  rose = λ some. subst (λ count. Rose first count) (sym stays) (cause.rose (omega (arith, some)));
  same = λ none. stays ∙ cause.same (omega (arith, none));
}

-- the first `many` ticks were waited for, in order, each at the pace that was set before the first wait, and this many of them lapsed
pub record WaitsFor (before after : TickerState) (many missed : ℕ) : Type 0 where
  pub waits : List TickWait
  pub known : after.waited ≡ known_then before.waited waits
  pub in_order : map (λ wait. wait.tick) waits ≡ take many ticks
  pub all_paced : All (λ wait. wait.paced ≡ before.paced) waits
  pub lapses : count_by (λ wait. wait.lapsed) waits ≡ missed
  pub cause : HasMissedCause before.faults after.faults missed
  pub paced : after.paced ≡ before.paced

pub waits_for_none : (ticker : TickerState) → WaitsFor ticker ticker 0 0
waits_for_none ticker = record {
  waits = [];
  known = sym (known_then-nothing ticker.waited);
  in_order = refl;
  all_paced = All-nil (λ (wait : TickWait). wait.paced ≡ ticker.paced);
  lapses = refl;
  cause = record { rose = λ some. absurd (omega (arith, some)); same = λ none. refl };
  paced = refl;
}

pub waits_for_more : (before now after : TickerState) (tick missed : ℕ) (lapsed : Bool) → 1 ≤ tick → tick ≤ 54 → WaitsFor before now (tick - 1) missed
    → after.waited ≡ known_then now.waited (record { tick = tick; lapsed = lapsed; paced = now.paced } ∷ []) → after.paced ≡ now.paced → MatchBool lapsed (Rose now.faults after.faults) (after.faults ≡ now.faults)
    → WaitsFor before after tick (missed + from_bool lapsed)
waits_for_more before now after tick missed lapsed first last so_far e paced rose =
    let wait : TickWait = record { tick = tick; lapsed = lapsed; paced = now.paced } in
    record {
      waits = so_far.waits ++ wait ∷ [];
      known = e ∙ ap (λ t. known_then t (wait ∷ [])) so_far.known ∙ known_then-twice before.waited so_far.waits (wait ∷ []);
      in_order = map-append (λ (w : TickWait). w.tick) so_far.waits (wait ∷ []) ∙ ap (λ ts. ts ++ tick ∷ []) so_far.in_order ∙ sym (next_tick tick first last);
      all_paced = All-push (λ (w : TickWait). w.paced ≡ before.paced) so_far.waits wait so_far.all_paced so_far.paced;
      lapses = sum_by-append (λ (w : TickWait). cond w.lapsed 1 0) so_far.waits (wait ∷ []) ∙ ap (λ k. k + count_by (λ (w : TickWait). w.lapsed) (wait ∷ [])) so_far.lapses ∙ ap (λ k. missed + k) (one lapsed);
      cause = missed_more before.faults now.faults after.faults missed lapsed so_far.cause rose;
      paced = paced ∙ so_far.paced;
    }
  where
    one : (b : Bool) → count_by (λ (w : TickWait). w.lapsed) (record { tick = tick; lapsed = b; paced = now.paced } ∷ []) ≡ from_bool b
    one true = refl
    one false = refl

-- all of them were
pub waits_for_all : (before after : TickerState) (many missed : ℕ) → WaitsFor before after many missed → many ≡ 54 → WaitsForAll before after missed
waits_for_all before after many missed so_far all = record {
  waits = so_far.waits;
  known = so_far.known;
  all_ticks = so_far.in_order ∙ ap (λ k. take k ticks) all;
  all_paced = so_far.all_paced;
  lapses = so_far.lapses;
  rose = so_far.cause.rose;
  same = so_far.cause.same;
  paced = so_far.paced;
}

-- a ticker, and the steps that a desk has taken
pub record Moment : Type 0 where
  pub ticker : TickerState
  pub steps : List Step

abbrev pub moment : TickerState → List Step → Moment
moment ticker steps = record { ticker = ticker; steps = steps }

-- the steps of a desk over the waits that are known so far
pub record TakesSteps (mark : ℕ) (game : GameFile) (before after : Moment) (many missed : ℕ) : Type 0 where
  pub waits : WaitsFor before.ticker after.ticker many missed
  pub steps : after.steps ≡ before.steps ++ steps_over mark game before.ticker.waited waits.waits

pub takes_none : (mark : ℕ) (game : GameFile) (ticker : TickerState) (steps : List Step) → TakesSteps mark game (moment ticker steps) (moment ticker steps) 0 0
unfolding waits_for_none
takes_none mark game ticker steps = record { waits = waits_for_none ticker; steps = sym (append-nil steps) }

steps_over-more : (mark : ℕ) (game : GameFile) (waited : Option (List TickWait)) (waits : List TickWait) (wait : TickWait)
    → steps_over mark game waited (waits ++ wait ∷ []) ≡ steps_over mark game waited waits ++ (steps_at mark game wait.tick ++ WaitsNoted (known_then waited (waits ++ wait ∷ [])) ∷ [])
steps_over-more mark game waited [] wait = refl
steps_over-more mark game waited (w ∷ waits) wait =
    let now : Option (List TickWait) = known_then waited (w ∷ []) in
    let more : Option (List TickWait) → List Step = λ known. steps_at mark game wait.tick ++ WaitsNoted known ∷ [] in
    ap (λ l. steps_at mark game w.tick ++ WaitsNoted now ∷ l) (steps_over-more mark game now waits wait ∙ ap (λ known. steps_over mark game now waits ++ more known) (known_then-twice waited (w ∷ []) (waits ++ wait ∷ [])))
    ∙ sym (append_assoc (steps_at mark game w.tick) (WaitsNoted now ∷ steps_over mark game now waits) (more (known_then waited (w ∷ waits ++ wait ∷ []))))

pub takes_more : (mark : ℕ) (game : GameFile) (before now after : TickerState) (first between last : List Step) (tick missed : ℕ) (lapsed : Bool) → 1 ≤ tick → tick ≤ 54 → TakesSteps mark game (moment before first) (moment now between) (tick - 1) missed
    → after.waited ≡ known_then now.waited (record { tick = tick; lapsed = lapsed; paced = now.paced } ∷ []) → after.paced ≡ now.paced → MatchBool lapsed (Rose now.faults after.faults) (after.faults ≡ now.faults)
    → last ≡ between ++ (steps_at mark game tick ++ WaitsNoted after.waited ∷ []) → TakesSteps mark game (moment before first) (moment after last) tick (missed + from_bool lapsed)
unfolding waits_for_more
takes_more mark game before now after first between last tick missed lapsed low high so_far e paced rose more =
    let wait : TickWait = record { tick = tick; lapsed = lapsed; paced = now.paced } in
    let waits = waits_for_more before now after tick missed lapsed low high so_far.waits e paced rose in
    record {
      waits = waits;
      steps = more ∙ (λ i. so_far.steps i ++ (steps_at mark game tick ++ WaitsNoted (waits.known i) ∷ []))
          ∙ append_assoc first (steps_over mark game before.waited so_far.waits.waits) (steps_at mark game tick ++ WaitsNoted (known_then before.waited (so_far.waits.waits ++ wait ∷ [])) ∷ [])
          ∙ ap (λ l. first ++ l) (sym (steps_over-more mark game before.waited so_far.waits.waits wait));
    }

pub takes_all : (mark : ℕ) (game : GameFile) (before after : TickerState) (first last : List Step) (many missed : ℕ) → TakesSteps mark game (moment before first) (moment after last) many missed → many ≡ 54
    → (all : WaitsForAll before after missed) × (last ≡ first ++ steps_over mark game before.waited all.waits)
unfolding waits_for_all
takes_all mark game before after first last many missed so_far all = (waits_for_all before after many missed so_far.waits all, so_far.steps)

pub one_at_most : (lapsed : Bool) → from_bool lapsed ≤ 1
one_at_most true = omega arith
one_at_most false = omega arith

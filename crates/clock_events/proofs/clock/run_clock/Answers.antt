use Rattle.std.proofs.Common.{rules, ◌≡◌, ◌≤◌, ◌+◌, ◌-◌, [], ◌∷◌, ◌++◌, take, subst, sym, ap, ◌∙◌, arith, append_assoc, flat_map}
use Rattle.clock_events.specs.{desk_steps, WaitsNoted, calls_of_good, calls_at, ticks, known_then, MakesCalls}
use Rattle.floor.proofs.CallLists.{none_listed}
use Rattle.clock_events.specs.Steps.{steps_at}
use Rattle.clock_events.proofs.ClockTurns.{makes_both, makes_none, makes_still}
use Rattle.clock_events.proofs.TickCalls.{tick_done}
use Rattle.clock_events.proofs.Waits.{TakesSteps, moment, one_at_most, takes_all, takes_more, takes_none}
use Rattle.clock_events.proofs.clock.run_clock.Goals as goal

pub loop-number-init : goal.loop-number-init
loop-number-init g c = record {
  calls = none_listed _ _ c.requires.no_calls.0 c.args.desk.listed;
  turns = makes_none c.args.desk;
  boards = search rules;
  same = search rules;
  few = omega arith;
  steps = takes_none _ _ _ _;
}

pub loop-number-preserved : goal.loop-number-preserved
loop-number-preserved g c =
    let before = c.loop-number.invariant in
    let tick : c.unwrap-tick.result ≡ c.loop-number.number = search rules in
    let same : c.loop-number.number + 1 - 1 ≡ c.loop-number.number = omega arith in
    let first : 1 ≤ c.loop-number.number = omega arith in
    let last : c.loop-number.number ≤ 54 = omega arith in
    let noted = c.note_waits.ensures.noted in
    let mark = g.T.Ticker.mark in
    let state = g.T.Ticker.state in
    let steps = takes_more mark c.args.game.now (state c.args.ticker.now) (state c.loop-number.ticker) (state c.wait_for-due.new.ticker) (desk_steps c.args.desk) (desk_steps c.loop-number.desk) (desk_steps c.note_waits.new.self)
    c.loop-number.number c.loop-number.missed c.wait_for-due.result.1 first last before.steps
    (subst (λ t. (state c.wait_for-due.new.ticker).waited ≡ known_then (state c.loop-number.ticker).waited (record { tick = t; lapsed = c.wait_for-due.result.1; paced = (state c.loop-number.ticker).paced } ∷ [])) tick c.wait_for-due.ensures.waited)
    c.wait_for-due.ensures.paced c.wait_for-due.ensures.cause
    (noted.steps ∙ ap (λ l. l ++ WaitsNoted (state c.wait_for-due.new.ticker).waited ∷ []) (c.clock_tick.ensures.steps ∙ ap (λ t. desk_steps c.loop-number.desk ++ steps_at mark c.args.game.now t) tick)
    ∙ append_assoc (desk_steps c.loop-number.desk) (steps_at mark c.args.game.now c.loop-number.number) (WaitsNoted (state c.wait_for-due.new.ticker).waited ∷ [])) in
    let one = one_at_most c.wait_for-due.result.1 in
    let count = c.from-missed.ensures in
    let few = before.few in
    record {
      calls = noted.calls ∙ c.clock_tick.ensures.calls ∙ (λ i. before.calls i ++ calls_at c.args.game.now (tick i)) ∙ tick_done c.args.game.now c.loop-number.number first last ∙ ap (λ k. flat_map (calls_at c.args.game.now) (take k ticks)) (sym same);
      turns = subst (λ l. MakesCalls l c.args.desk c.note_waits.new.self) ((λ i. flat_map (calls_at c.args.game.now) (take (c.loop-number.number - 1) ticks) ++ calls_at c.args.game.now (tick i)) ∙ tick_done c.args.game.now c.loop-number.number first last ∙ ap (λ k. flat_map (calls_at c.args.game.now) (take k ticks)) (sym same))
          (makes_still _ c.args.desk c.clock_tick.new.desk c.note_waits.new.self (makes_both _ _ c.args.desk c.loop-number.desk c.clock_tick.new.desk before.turns c.clock_tick.ensures.turns) noted);
      boards = noted.boards ∙ c.clock_tick.ensures.boards ∙ before.boards;
      same = (noted.same.0 ∙ c.clock_tick.ensures.same.0 ∙ before.same.0, noted.same.1 ∙ c.clock_tick.ensures.same.1 ∙ before.same.1);
      few = omega (arith, one, count, few);
      steps = subst (λ k. TakesSteps mark c.args.game.now (moment (state c.args.ticker.now) (desk_steps c.args.desk)) (moment (state c.wait_for-due.new.ticker) (desk_steps c.note_waits.new.self)) k (c.loop-number.missed + c.from-missed.result)) (sym same)
          (subst (λ k. TakesSteps mark c.args.game.now (moment (state c.args.ticker.now) (desk_steps c.args.desk)) (moment (state c.wait_for-due.new.ticker) (desk_steps c.note_waits.new.self)) c.loop-number.number (c.loop-number.missed + k)) (sym count) steps);
    }

pub returns-clause-calls : goal.returns-clause-calls
returns-clause-calls g c = let last : c.loop-number.number - 1 ≡ 54 = omega arith in c.loop-number.invariant.calls ∙ ap (λ k. flat_map (calls_at c.args.game.now) (take k ticks)) last

pub returns-clause-steps : goal.returns-clause-steps
returns-clause-steps g c = takes_all _ _ _ _ _ _ _ _ c.loop-number.invariant.steps (omega arith)

pub returns-clause-turns : goal.returns-clause-turns
returns-clause-turns g c =
    let last : c.loop-number.number - 1 ≡ 54 = omega arith in
    subst (λ k. MakesCalls (flat_map (calls_at c.args.game.now) (take k ticks)) c.args.desk c.loop-number.desk) last c.loop-number.invariant.turns

pub returns-clause-made : goal.returns-clause-made
returns-clause-made g c good low = c.loop-number.desk.listed.each good low ∙ ap (λ calls. calls_of_good calls good) (returns-clause-calls g c)

pub returns-clause-whole : goal.returns-clause-whole
returns-clause-whole g c = returns-clause-made g c

pub returns-clause-waits : goal.returns-clause-waits
returns-clause-waits g c = (returns-clause-steps g c).0

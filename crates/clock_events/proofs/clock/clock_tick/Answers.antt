use Rattle.std.proofs.Common.{rules, ◌≡◌, ℕ, ◌≤◌, ◌-◌, ◌++◌, [], ◌∷◌, Some, map, take, slice_get, subst, sym, ap, ◌∙◌, arith, append_assoc, append-nil, flat_map}
use Rattle.std.proofs.lemmas.List.{map-append}
use Rattle.clock_events.specs.{Call, desk_calls, desk_entries, desk_steps, calls_at, ticks, Step, CallMade, DueTaken, MakesCalls}
use Rattle.std.proofs.lemmas.Option.{slice_get_within}
use Rattle.clock_events.proofs.ClockTurns.{makes_more, makes_none, makes_still}
use Rattle.clock_events.proofs.MadeCalls.{AreMade, made_after, made_count, made_length}
use Rattle.clock_events.proofs.TickCalls.{all_taken, call_is_due, few_so_far, one_more, so_far, some_to_come, tick_done}
use Rattle.clock_events.proofs.clock.clock_tick.Goals as goal

-- a call as a step
abbrev step : ℕ × Call → Step
step call = CallMade call.0 call.1

pub loop-good-init : goal.loop-good-init
loop-good-init g c = record {
  within = omega arith;
  calls = c.take_due.ensures.taken.calls ∙ sym (append-nil (desk_calls c.args.desk.now));
  steps = c.take_due.ensures.taken.steps;
  turns = makes_still [] c.args.desk.now c.args.desk.now c.take_due.new.self (makes_none c.args.desk.now) c.take_due.ensures.taken;
  boards = c.take_due.ensures.taken.boards;
  same = c.take_due.ensures.taken.same;
}

pub clock_call-requires-clause-call : goal.clock_call-requires-clause-call
clock_call-requires-clause-call g c =
    let number = c.get-number.ensures in
    let due = c.schedule_law.ensures.fit c.args.tick (omega (arith, number)) (omega (arith, number)) in
    (call_is_due (calls_at c.args.game.now c.args.tick) c.args.tick c.loop-good.n c.in-Some.good c.in-Some.call due (sym c.schedule.ensures ∙ c.in-Some.is)).1

pub clock_call-requires-clause-left : goal.clock_call-requires-clause-left
clock_call-requires-clause-left g c =
    let number = c.get-number.ensures in
    let first : 1 ≤ c.args.tick = omega (arith, number) in
    let last : c.args.tick ≤ 54 = omega (arith, number) in
    let due = c.schedule_law.ensures.fit c.args.tick first last in
    let low = (call_is_due (calls_at c.args.game.now c.args.tick) c.args.tick c.loop-good.n c.in-Some.good c.in-Some.call due (sym c.schedule.ensures ∙ c.in-Some.is)).0 in
    let made = made_after (flat_map (calls_at c.args.game.now) (take (c.args.tick - 1) ticks)) (take c.loop-good.n (calls_at c.args.game.now c.args.tick)) c.args.desk.now c.loop-good.desk c.requires.before c.loop-good.invariant.calls in
    let counted = made_length (so_far c.args.game.now c.args.tick c.loop-good.n first last) (desk_entries c.loop-good.desk) made c.in-Some.good low in
    let few = few_so_far c.args.game.now c.args.tick c.loop-good.n first last c.in-Some.good in
    let most = c.schedule_law.ensures.most c.in-Some.good in
    omega (arith, counted, few, most)

pub clock_call-requires-clause-all_left : goal.clock_call-requires-clause-all_left
clock_call-requires-clause-all_left g c =
    let number = c.get-number.ensures in
    let first : 1 ≤ c.args.tick = omega (arith, number) in
    let last : c.args.tick ≤ 54 = omega (arith, number) in
    let within = slice_get_within (calls_at c.args.game.now c.args.tick) c.loop-good.n (c.in-Some.good, c.in-Some.call) (sym c.schedule.ensures ∙ c.in-Some.is) in
    let made = made_after (flat_map (calls_at c.args.game.now) (take (c.args.tick - 1) ticks)) (take c.loop-good.n (calls_at c.args.game.now c.args.tick)) c.args.desk.now c.loop-good.desk c.requires.before c.loop-good.invariant.calls in
    let counted = made_count (so_far c.args.game.now c.args.tick c.loop-good.n first last) (desk_entries c.loop-good.desk) made c.loop-good.desk.kept.goods in
    let some = some_to_come c.args.game.now c.args.tick c.loop-good.n first last within in
    let whole = c.schedule_law.ensures.whole in
    omega (arith, counted, some, whole)

pub overflow_add-n : goal.overflow_add-n
overflow_add-n g c =
    let number = c.get-number.ensures in
    let few = c.schedule_law.ensures.few c.args.tick (omega (arith, number)) (omega (arith, number)) in
    let within = c.loop-good.invariant.within in
    let n : c.loop-good.n ≤ 20 = omega (arith, few, within) in
    search rules

pub loop-good-smaller : goal.loop-good-smaller
loop-good-smaller g c =
    let within = slice_get_within (calls_at c.args.game.now c.args.tick) c.loop-good.n (c.in-Some.good, c.in-Some.call) (sym c.schedule.ensures ∙ c.in-Some.is) in
    omega (arith, within)

pub loop-good-preserved : goal.loop-good-preserved
loop-good-preserved g c =
    let calls = calls_at c.args.game.now c.args.tick in
    let at : slice_get calls c.loop-good.n ≡ Some (c.in-Some.good, c.in-Some.call) = sym c.schedule.ensures ∙ c.in-Some.is in
    let within = slice_get_within calls c.loop-good.n (c.in-Some.good, c.in-Some.call) at in
    let known = c.clock_call.ensures.answered in
    let before = desk_calls c.args.desk.now in
    let number = c.get-number.ensures in
    let due = c.schedule_law.ensures.fit c.args.tick (omega (arith, number)) (omega (arith, number)) in
    let low = (call_is_due calls c.args.tick c.loop-good.n c.in-Some.good c.in-Some.call due at).0 in
    record {
      within = omega (arith, within);
      calls = known.adds.calls ∙ ap (λ l. l ++ (c.in-Some.good, c.in-Some.call) ∷ []) c.loop-good.invariant.calls
          ∙ append_assoc before (take c.loop-good.n calls) ((c.in-Some.good, c.in-Some.call) ∷ []) ∙ ap (λ l. before ++ l) (one_more calls c.loop-good.n (c.in-Some.good, c.in-Some.call) at);
      steps = known.adds.steps ∙ ap (λ l. l ++ CallMade c.in-Some.good c.in-Some.call ∷ []) c.loop-good.invariant.steps
          ∙ append_assoc (desk_steps c.args.desk.now) (DueTaken g.T.Ticker.mark c.args.tick ∷ map step (take c.loop-good.n calls)) (CallMade c.in-Some.good c.in-Some.call ∷ [])
          ∙ ap (λ l. (desk_steps c.args.desk.now) ++ DueTaken g.T.Ticker.mark c.args.tick ∷ l) (sym (map-append step (take c.loop-good.n calls) ((c.in-Some.good, c.in-Some.call) ∷ []))
          ∙ ap (map step) (one_more calls c.loop-good.n (c.in-Some.good, c.in-Some.call) at));
      turns = subst (λ l. MakesCalls l c.args.desk.now c.clock_call.new.self) (one_more calls c.loop-good.n (c.in-Some.good, c.in-Some.call) at)
          (makes_more (take c.loop-good.n calls) c.in-Some.good c.in-Some.call _ _ c.args.desk.now c.loop-good.desk c.clock_call.new.self low c.loop-good.invariant.turns known);
      boards = known.boards ∙ c.loop-good.invariant.boards;
      same = (known.same.0 ∙ c.loop-good.invariant.same.0, known.same.1 ∙ c.loop-good.invariant.same.1);
    }

pub returns-clause-calls : goal.returns-clause-calls
returns-clause-calls g c =
    let all = all_taken (calls_at c.args.game.now c.args.tick) c.loop-good.n (sym c.schedule.ensures ∙ c.in_default.is) in
    c.loop-good.invariant.calls ∙ ap (λ l. desk_calls c.args.desk.now ++ l) all

pub returns-clause-steps : goal.returns-clause-steps
returns-clause-steps g c =
    let all = all_taken (calls_at c.args.game.now c.args.tick) c.loop-good.n (sym c.schedule.ensures ∙ c.in_default.is) in
    c.loop-good.invariant.steps ∙ ap (λ l. (desk_steps c.args.desk.now) ++ DueTaken g.T.Ticker.mark c.args.tick ∷ map step l) all

pub returns-clause-turns : goal.returns-clause-turns
returns-clause-turns g c =
    let all = all_taken (calls_at c.args.game.now c.args.tick) c.loop-good.n (sym c.schedule.ensures ∙ c.in_default.is) in
    subst (λ l. MakesCalls l c.args.desk.now c.loop-good.desk) all c.loop-good.invariant.turns

pub returns-clause-made : goal.returns-clause-made
returns-clause-made g c =
    let number = c.get-number.ensures in
    let first : 1 ≤ c.args.tick = omega (arith, number) in
    let last : c.args.tick ≤ 54 = omega (arith, number) in
    let before = flat_map (calls_at c.args.game.now) (take (c.args.tick - 1) ticks) in
    subst (λ calls. AreMade calls (desk_entries c.loop-good.desk)) (tick_done c.args.game.now c.args.tick first last)
    (made_after before (calls_at c.args.game.now c.args.tick) c.args.desk.now c.loop-good.desk c.requires.before (returns-clause-calls g c))

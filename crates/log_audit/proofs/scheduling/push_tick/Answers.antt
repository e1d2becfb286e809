use Rattle.std.proofs.Common.{◌≡◌, ℕ, Some, slice_get, sym, ap, ◌∙◌, arith, take, ◌++◌, Result, Ok, Err, OnErr}
use Rattle.std.proofs.lemmas.Option.{slice_get_within}
use Rattle.game_text.specs.Schedule.{calls_at}
use Rattle.clock_events.proofs.TickCalls.{all_taken}
use Rattle.log_audit.specs.Auditing.{calls_for}
use Rattle.log_audit.proofs.Scheduled.{calls_more}
use Rattle.log_audit.proofs.scheduling.push_tick.Goals as goal

pub loop-next-preserved : goal.loop-next-preserved
loop-next-preserved c =
    let all = calls_at c.args.game.now c.args.tick in let v = c.loop-next.invariant in
    let at : slice_get all c.loop-next.n ≡ Some c.in-Some.next = sym c.schedule.ensures ∙ c.in-Some.is in
    record {
      within = omega (arith, slice_get_within all c.loop-next.n c.in-Some.next at);
      so_far = c.in_ok-push_for.ensures.added ∙ calls_more c.args.good all c.loop-next.n c.in-Some.next c.args.calls.now.items c.loop-next.calls.items at v.so_far;
    }

-- what holds anyway holds after an error
anyway : {T E P : Type 0} (r : Result T E) → P → OnErr r P
anyway (Ok x) fact = tt
anyway (Err e) fact = fact

pub returns-in_err-push_for-clause-first : goal.returns-in_err-push_for-clause-first
returns-in_err-push_for-clause-first c =
    let all = calls_at c.args.game.now c.args.tick in
    let first : (n : ℕ) × (c.push_for.new.calls.items ≡ c.args.calls.now.items ++ calls_for c.args.good (take n all)) = (c.loop-next.n, c.in_err-push_for.ensures.kept ∙ c.loop-next.invariant.so_far) in
    anyway c.from_residual.result first

pub returns-clause-added : goal.returns-clause-added
returns-clause-added c =
    let all = calls_at c.args.game.now c.args.tick in
    c.loop-next.invariant.so_far ∙ ap (λ l. c.args.calls.now.items ++ calls_for c.args.good l) (all_taken all c.loop-next.n (sym c.schedule.ensures ∙ c.in_default.is))

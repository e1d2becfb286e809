use Rattle.std.proofs.Common.{◌≡◌, ◌+◌, ◌-◌, ◌++◌, ℕ, List, take, sym, ap, ◌∙◌, arith, flat_map}
use Rattle.log_audit.specs.{Call, calls_at, ticks, calls_for}
use Rattle.clock_events.proofs.TickCalls.{tick_done}
use Rattle.log_audit.proofs.Scheduled.{calls_for-append}
use Rattle.log_audit.proofs.scheduling.due_calls.Goals as goal

pub loop-number-preserved : goal.loop-number-preserved
loop-number-preserved c =
    let game = c.args.game.now in let n = c.loop-number.number in let good = c.args.good in let inside = c.loop-number-test.true in
    let back : (n + 1) - 1 ≡ n = omega arith in
    let before : List (ℕ × Call) = flat_map (calls_at game) (take n ticks) in
    let done : before ++ calls_at game (n + 1) ≡ flat_map (calls_at game) (take (n + 1) ticks) =
    ap (λ (k : ℕ). flat_map (calls_at game) (take k ticks) ++ calls_at game (n + 1)) (sym back) ∙ tick_done game (n + 1) (omega arith) (omega (arith, inside)) in
    c.in_ok-push_tick.ensures.added
    ∙ ((λ i. c.loop-number.invariant i ++ calls_for good (calls_at game (c.tick_after.ensures i)))
    ∙ (sym (calls_for-append good before (calls_at game (n + 1))) ∙ ap (calls_for good) done))

use Rattle.std.proofs.Common.{rules, sym, ap, ◌∙◌, subst, ◌≤◌, ℕ, List, drop, length, arith}
use Rattle.std.proofs.lemmas.List.{drop_all}
use Rattle.script_run.specs.{Call, GameFile, calls_at, clocked, SeenGame, HasClockRoom}
use Rattle.script_run.proofs.game.table.Table.clock_calls.Goals as goal

pub clock_call-requires-clause-tick : goal.clock_call-requires-clause-tick
clock_call-requires-clause-tick c = c.loop-n.invariant.ticks

pub clock_call-requires-clause-room : goal.clock_call-requires-clause-room
clock_call-requires-clause-room c =
    subst (λ (g : GameFile). HasClockRoom g c.loop-n.self.state (drop c.loop-n.n (calls_at g c.args.tick))) (sym c.loop-n.invariant.is) c.loop-n.invariant.room

pub returns-clause-state : goal.returns-clause-state
returns-clause-state c =
    let low : 1 ≤ c.args.tick = search rules in
    let high : c.args.tick ≤ 54 = search rules in
    let game = c.args.self.now.game in
    let few : length (calls_at game c.args.tick) ≤ 20 =
    subst (λ (g : GameFile). length (calls_at g c.args.tick) ≤ 20) (c.game.ensures ∙ ap (λ (v : SeenGame). v.game) c.self.view_is) (c.schedule_law.ensures.few c.args.tick low high) in
    ap (λ (l : List (ℕ × Call)). clocked game l c.loop-n.self.state) (sym (drop_all c.loop-n.n (calls_at game c.args.tick) (omega arith)))
    ∙ c.loop-n.invariant.same

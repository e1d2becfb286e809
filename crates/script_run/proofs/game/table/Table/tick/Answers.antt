use Rattle.std.proofs.Common.{rules, ℕ, ◌≤◌, sym, subst}
use Rattle.script_run.specs.{GameFile, calls_at, tick_calls_of, GameState, AreCounted, HasClockRoom}
use Rattle.script_run.proofs.Tables.{counted_tick, tick_room}
use Rattle.script_run.proofs.game.table.Table.tick.Goals as goal

pub invariant_of-self : goal.invariant_of-self
invariant_of-self c =
    let t = c.self.inside in
    let e = c.in-Some.ensures in
    subst (λ (s : GameFile × GameState). AreCounted s.0 s.1 t.calls t.readings)
    (sym (λ i. (e.game i, record { pasts = e.pasts i; cash = e.cash i; ticks = e.tick.2 i })))
    (counted_tick t.open.game t.open.state t.calls t.readings c.in-Some.tick c.self.invariant e.tick.0 e.tick.1)

pub clock_calls-requires-clause-room : goal.clock_calls-requires-clause-room
clock_calls-requires-clause-room c =
    let t = c.self.inside in
    let e = c.in-Some.ensures in
    let low : 1 ≤ c.in-Some.tick = search rules in
    let high : c.in-Some.tick ≤ 54 = search rules in
    let once : (good : ℕ) → tick_calls_of t.open.game c.in-Some.tick good ≤ 1 =
    λ good. subst (λ (g : GameFile). tick_calls_of g c.in-Some.tick good ≤ 1) c.game.ensures (c.schedule_law.ensures.once c.in-Some.tick good low high) in
    subst (λ (s : GameFile × GameState). HasClockRoom s.0 s.1 (calls_at s.0 c.in-Some.tick))
    (sym (λ i. (e.game i, record { pasts = e.pasts i; cash = e.cash i; ticks = e.tick.2 i })))
    (tick_room t.open.game t.open.state t.calls t.readings c.in-Some.tick c.self.invariant e.tick.0 e.tick.1 once)

use Rattle.std.proofs.Common.{rules, ◌≡◌, ℕ, ◌+◌, ◌<◌, ◌≤◌, List, drop, length, sym, ap, ◌∙◌, subst}
use Rattle.script_run.specs.{Call, GameFile, clock, cap, entries_of, part, cash_cap, calls_at, GameState, past_at, called, clocked, SeenGame, AreCounted, HasClockRoom}
use Rattle.script_run.proofs.Counted.{by}
use Rattle.script_run.proofs.Tables.{ClockStep, clock_step, none_left}
use Rattle.script_run.proofs.game.table.Table.clock_call.Goals as goal

step : (c : goal.After-call-arg-in-Some-1) → ClockStep (record { game = c.self.inside.open.game; state = c.self.inside.open.state }) c.self.inside.calls c.self.inside.readings c.args.tick c.args.n (c.in-Some.good, c.in-Some.call)
step c =
    let t = c.self.inside in
    let low : 1 ≤ c.args.tick = search rules in
    let high : c.args.tick ≤ 54 = search rules in
    let there : c.in-Some.good ≤ 27 = search rules in
    clock_step t.open.game c.game-game.result.now t.open.state t.calls t.readings c.args.tick c.args.n c.in-Some.good c.in-Some.call c.game-game.ensures c.self.invariant
    (c.schedule_law.ensures.fit c.args.tick low high) c.schedule_law.ensures.whole (sym c.schedule.ensures ∙ c.in-Some.is) there
    (subst (λ (s : SeenGame). HasClockRoom s.game s.state (drop c.args.n (calls_at s.game c.args.tick))) (sym c.self.view_is) c.requires.room)

-- the same after the call
stepped : (c : goal.After-call) → ClockStep (record { game = c.self.inside.open.game; state = c.self.inside.open.state }) c.self.inside.calls c.self.inside.readings c.args.tick c.args.n (c.in-Some.good, c.in-Some.call)
stepped c =
    let t = c.self.inside in
    let low : 1 ≤ c.args.tick = search rules in
    let high : c.args.tick ≤ 54 = search rules in
    let there : c.in-Some.good ≤ 27 = search rules in
    clock_step t.open.game c.game-game.result.now t.open.state t.calls t.readings c.args.tick c.args.n c.in-Some.good c.in-Some.call c.game-game.ensures c.self.invariant
    (c.schedule_law.ensures.fit c.args.tick low high) c.schedule_law.ensures.whole (sym c.schedule.ensures ∙ c.in-Some.is) there
    (subst (λ (s : SeenGame). HasClockRoom s.game s.state (drop c.args.n (calls_at s.game c.args.tick))) (sym c.self.view_is) c.requires.room)

pub call-requires-clause-fit : goal.call-requires-clause-fit
call-requires-clause-fit c = (step c).fit

pub call-requires-clause-room : goal.call-requires-clause-room
call-requires-clause-room c = subst (λ (n : ℕ). entries_of (past_at c.self.inside.open.state.pasts c.in-Some.good) n < cap n) (sym c.clock.ensures) (step c).room

pub call-requires-clause-cash_room : goal.call-requires-clause-cash_room
call-requires-clause-cash_room c = subst (λ (n : ℕ). length (part by c.self.inside.open.state.cash n) < cash_cap n) (sym c.clock.ensures) (step c).cash_room

state : (c : goal.After-call) → c.call.new.self.state ≡ called c.self.inside.open.game clock c.in-Some.good c.in-Some.call c.self.inside.open.state
state c = c.call.ensures.state ∙ ap (λ (n : ℕ). called c.self.inside.open.game n c.in-Some.good c.in-Some.call c.self.inside.open.state) c.clock.ensures

pub invariant_of-self : goal.invariant_of-self
invariant_of-self c =
    subst (λ (s : GameFile × GameState). AreCounted s.0 s.1 c.self.inside.calls c.self.inside.readings) (sym (λ i. (c.call.ensures.game i, state c i))) (stepped c).counted

pub returns-in-Some-clause-room : goal.returns-in-Some-clause-room
returns-in-Some-clause-room c =
    subst (λ (v : SeenGame). HasClockRoom v.game c.call.new.self.state (drop (c.args.n + 1) (calls_at v.game c.args.tick))) c.self.view_is
    (subst (λ (s : GameState). HasClockRoom c.self.inside.open.game s (drop (c.args.n + 1) (calls_at c.self.inside.open.game c.args.tick))) (sym (state c)) (stepped c).next)

pub returns-in-Some-clause-state : goal.returns-in-Some-clause-state
returns-in-Some-clause-state c =
    subst (λ (v : SeenGame). clocked v.game (drop (c.args.n + 1) (calls_at v.game c.args.tick)) c.call.new.self.state ≡ clocked v.game (drop c.args.n (calls_at v.game c.args.tick)) v.state) c.self.view_is
    (ap (clocked c.self.inside.open.game (drop (c.args.n + 1) (calls_at c.self.inside.open.game c.args.tick))) (state c) ∙ (stepped c).same)

pub returns-in-None-clause-room : goal.returns-in-None-clause-room
returns-in-None-clause-room c =
    subst (HasClockRoom c.args.self.now.game c.args.self.now.state)
    (none_left c.args.self.now.game c.game-game.result.now c.args.tick c.args.n c.schedule.result (c.game-game.ensures ∙ ap (λ (v : SeenGame). v.game) c.self.view_is) c.schedule.ensures c.in-None.is) c.requires.room

pub returns-in-None-clause-state : goal.returns-in-None-clause-state
returns-in-None-clause-state c =
    ap (λ (l : List (ℕ × Call)). clocked c.args.self.now.game l c.args.self.now.state)
    (sym (none_left c.args.self.now.game c.game-game.result.now c.args.tick c.args.n c.schedule.result (c.game-game.ensures ∙ ap (λ (v : SeenGame). v.game) c.self.view_is) c.schedule.ensures c.in-None.is))

use Rattle.std.proofs.Common.{rules, ◌≡◌, ℕ, ◌<◌, ◌≤◌, length, sym, ap, ◌∙◌, subst, arith}
use Rattle.script_run.specs.{GameFile, part, cash_cap, GameState, call_turn, called, SeenGame, AreCounted, count_at}
use Rattle.script_run.proofs.Counted.{by}
use Rattle.script_run.proofs.Tables.{call_room, counted_call, answered_call}
use Rattle.script_run.proofs.game.table.Table.call.Goals as goal

pub call-position-requires-clause-cash_room : goal.call-position-requires-clause-cash_room
call-position-requires-clause-cash_room c =
    let t = c.self.inside in
    let few : count_at t.calls c.args.agent c.args.good < 1024 = omega (arith, c.count.ensures, c.if-count-ge-AGENT_CALLS.false) in
    let low : c.args.agent ≤ 7 = search rules in
    let there : c.args.good ≤ 27 = search rules in
    subst (λ (n : ℕ). length (part by t.open.state.cash n) < cash_cap n) (sym c.caller.ensures)
    (call_room t.open.game t.open.state t.calls t.readings c.args.agent c.args.good c.self.invariant low there few).1

pub invariant_of-self : goal.invariant_of-self
invariant_of-self c =
    let t = c.self.inside in
    let few : count_at t.calls c.args.agent c.args.good < 1024 = omega (arith, c.count.ensures, c.if-count-ge-AGENT_CALLS.false) in
    let low : c.args.agent ≤ 7 = search rules in
    let there : c.args.good ≤ 27 = search rules in
    let next = counted_call t.open.game t.open.state t.calls c.add.new.self t.readings c.args.agent c.args.good c.args.call.now c.self.invariant low there few c.add.ensures in
    let state : c.call-position.new.self.state ≡ called t.open.game c.args.agent c.args.good c.args.call.now t.open.state =
    c.call-position.ensures.state ∙ ap (λ (n : ℕ). called t.open.game n c.args.good c.args.call.now t.open.state) c.caller.ensures in
    subst (λ (seen : GameFile × GameState). AreCounted seen.0 seen.1 c.add.new.self t.readings) (sym (λ i. (c.call-position.ensures.game i, state i))) next

pub returns-clause-answered : goal.returns-clause-answered
returns-clause-answered c =
    let t = c.self.inside in
    let low : c.args.agent ≤ 7 = search rules in
    let there : c.args.good ≤ 27 = search rules in
    let few : count_at t.calls c.args.agent c.args.good < 1024 = omega (arith, c.count.ensures, c.if-count-ge-AGENT_CALLS.false) in
    let e = c.call-position.ensures in
    answered_call t.open.game t.open.state c.call-position.new.self.state c.args.agent c.args.good c.caller.result c.call-position.result.0 c.args.call.now c.call-position.result.1
    (subst (λ (n : ℕ). n < 1024) (c.self.invariant.calls c.args.agent c.args.good low there) few) c.caller.ensures e.position e.reply e.state
    ∙ ap (λ (v : SeenGame). call_turn v.game c.args.agent c.args.good c.args.call.now v.state) c.self.view_is

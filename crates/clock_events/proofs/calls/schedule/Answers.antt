use Rattle.std.proofs.Common.{rules, ◌≡◌, ◌≢◌, ◌≤◌, ◌/◌, ◌%◌, length, ◌-◌, ◌∙◌, slice_get}
use Rattle.game_text.specs.Schedule as spec
use Rattle.clock_events.proofs.CallLists.{hotel_call_at}
use Rattle.clock_events.proofs.calls.schedule.Goals as goal

pub returns-then-number-eq0 : goal.returns-then-number-eq0
returns-then-number-eq0 c =
    let early : c.args.tick ≢ 54 = search rules in
    let count : length c.args.game.now.flights ≡ 8 = search rules in
    let past : 8 ≤ c.args.n = search rules in
    let sixth : c.args.tick % 6 ≡ 0 = search rules in
    let turn : c.from-then-number-eq0.result ≡ c.args.tick / 6 = search rules in
    let called : c.hotel_call.result ≡ slice_get (spec.hotel_calls c.args.game.now.order c.from-then-number-eq0.result) (c.args.n - 8) = search rules in
    called ∙ hotel_call_at c.args.game.now c.args.tick c.args.n c.from-then-number-eq0.result early count past sixth turn

use Rattle.std.proofs.Common.{[]}
use Rattle.std.proofs.lemmas.Result.{err_from_is_err_and}
use Rattle.script_run.specs.GameScripts.{judge_game_line}
use Rattle.script_run.proofs.ScriptReading.{goes_on}
use Rattle.script_run.proofs.PlayedGames.{fails}
use Rattle.script_run.proofs.game.playing.play_lines.Goals as goal

pub returns-in_err-step : goal.returns-in_err-step
returns-in_err-step c =
    let p = err_from_is_err_and c.from_residual.result c.from_residual.ensures.1 in
    let playing = c.loop-line.invariant in
    rw (p.1, p.2) (fails c.args.game.now c.args.script.now c.loop-line.rest.now c.in-Some.line.now c.in-Some.after.now c.loop-line.number c.loop-line.run c.step.new.self c.in_err-step.field-0.0 playing
    c.in-Some.ensures.parts (c.in_err-step.ensures.steps c.args.game.now playing.lines [] playing.ran))

pub loop-line-preserved : goal.loop-line-preserved
loop-line-preserved c =
    let playing = c.loop-line.invariant in
    let stepped = c.in_ok-step.ensures.steps c.args.game.now playing.lines [] playing.ran in
    record {
      lines = _;
      ran = stepped.2;
      read = goes_on judge_game_line playing.lines c.args.script.now c.loop-line.rest.now c.in-Some.line.now c.in-Some.after.now c.loop-line.number stepped.0 playing.read c.in-Some.ensures.parts c.in-Some.ensures.len stepped.1;
    }

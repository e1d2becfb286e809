use Rattle.std.proofs.lemmas.Result.{err_from_is_err_and}
use Rattle.script_run.specs.HotelScripts.{judge_hotel_line}
use Rattle.script_run.proofs.ScriptReading.{goes_on}
use Rattle.script_run.proofs.Running.{fails}
use Rattle.script_run.proofs.hotel.script.run_lines.Goals as goal

pub returns-in_err-step : goal.returns-in_err-step
returns-in_err-step c =
    let p = err_from_is_err_and c.from_residual-in_err-step.result c.from_residual-in_err-step.ensures.1 in
    let running = c.loop-line.invariant in
    rw (p.1, p.2) (fails c.args.script.now c.loop-line.rest.now c.in-Some.line.now c.in-Some.after.now c.loop-line.run c.step.new.self c.in_err-step.field-0.0 running c.in-Some.ensures.parts
    (c.in_err-step.ensures running.lines running.ran))

pub loop-line-preserved : goal.loop-line-preserved
loop-line-preserved c =
    let running = c.loop-line.invariant in
    let stepped = c.in_ok-step.ensures running.lines running.ran in
    record {
      lines = _;
      number = _;
      ran = stepped.2;
      read = goes_on judge_hotel_line running.lines c.args.script.now c.loop-line.rest.now c.in-Some.line.now c.in-Some.after.now running.number stepped.0 running.read c.in-Some.ensures.parts c.in-Some.ensures.len stepped.1;
    }

pub step-requires : goal.step-requires
step-requires c = (c.loop-line.invariant.lines, c.loop-line.invariant.ran)

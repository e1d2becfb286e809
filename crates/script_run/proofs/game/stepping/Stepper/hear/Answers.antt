use Rattle.std.proofs.Common.{arith, refl}
use Rattle.std.proofs.lemmas.Result.{err_from_is_err_and}
use Rattle.text_forms.proofs.BlockSteps.{cut_whole}
use Rattle.script_run.proofs.LineParts.{cut_part, one_part_only}
use Rattle.script_run.proofs.SteppedLines.{hears_all, hears_bad, hears_more}
use Rattle.script_run.proofs.game.stepping.Stepper.hear.Goals as goal

pub loop-part-preserved : goal.loop-part-preserved
loop-part-preserved c =
    let was = c.loop-part.invariant in
    let rest = c.loop-part.rest.now in
    let part = c.in-Some.part.now in
    let after = c.in-Some.after.now in
    let length = c.in-Some.ensures.len in
    let ended = c.in_ok-end_line.ensures in
    record {
      hears = hears_more c.args.self.now c.loop-part.self _ c.args.piece.now rest part was.hears refl refl c.join.ensures (cut_part rest part after c.in-Some.ensures.parts)
          after (cut_whole rest part after c.in-Some.ensures.parts) c.end_line.new.self ended.line;
      number = omega (arith, was.number, length, ended.number);
      room = omega (arith, was.room, length, ended.len, ended.capacity);
      capacity = omega (arith, was.capacity, ended.capacity);
    }

pub returns-in_err-end_line-clause-lines : goal.returns-in_err-end_line-clause-lines
returns-in_err-end_line-clause-lines c game given written s =
    let p = err_from_is_err_and c.from_residual.result c.from_residual.ensures.1 in
    let rest = c.loop-part.rest.now in
    let part = c.in-Some.part.now in
    let after = c.in-Some.after.now in
    rw (p.1, p.2)
    (hears_bad c.args.self.now c.loop-part.self _ c.args.piece.now rest part c.loop-part.invariant.hears refl refl c.join.ensures (cut_part rest part after c.in-Some.ensures.parts)
    after (cut_whole rest part after c.in-Some.ensures.parts) c.end_line.new.self c.in_err-end_line.field-0.0 c.in_err-end_line.ensures.line game given written s)

pub returns-clause-lines : goal.returns-clause-lines
returns-clause-lines c game given written s =
    let rest = c.loop-part.rest.now in
    hears_all c.args.self.now c.loop-part.self _ c.args.piece.now rest rest c.loop-part.invariant.hears refl refl c.join-2.ensures
    (one_part_only rest c.in_default.ensures.whole) refl game given written s

use Rattle.std.proofs.Common.{◌-◌, arith}
use Rattle.text_forms.proofs.BlockSteps.{none_taken, more_taken, nothing_taken, all_taken, is_shorter, no_line, left_out}
use Rattle.text_forms.proofs.lines.take_lines.Goals as goal

pub loop-due-init : goal.loop-due-init
loop-due-init c = none_taken c.args.skips_comments c.args.text.now c.args.count

pub returns-in_default-clause-lines : goal.returns-in_default-clause-lines
returns-in_default-clause-lines c =
    nothing_taken c.args.skips_comments c.args.text.now c.args.count c.loop-due.rest.now c.loop-due.due c.loop-due.invariant c.loop-due-test.true
    (λ number. no_line c.args.skips_comments number (c.loop-due.due - 1) c.loop-due.rest.now c.in_default.ensures.whole)

pub returns-then-is_skipped-clause-lines : goal.returns-then-is_skipped-clause-lines
returns-then-is_skipped-clause-lines c =
    nothing_taken c.args.skips_comments c.args.text.now c.args.count c.loop-due.rest.now c.loop-due.due c.loop-due.invariant c.loop-due-test.true
    (λ number. left_out c.args.skips_comments number (c.loop-due.due - 1) c.loop-due.rest.now c.in-Some.line.now c.in-Some.after.now c.in-Some.ensures.parts c.if-is_skipped.ensures)

pub loop-due-preserved : goal.loop-due-preserved
loop-due-preserved c = more_taken c.args.skips_comments c.args.text.now c.args.count c.loop-due.rest.now c.loop-due.due c.in-Some.line.now c.in-Some.after.now c.loop-due.invariant c.loop-due-test.true c.in-Some.ensures.parts c.if-is_skipped.ensures

pub slice_bounds-result-count : goal.slice_bounds-result-count
slice_bounds-result-count c =
    let shorter = is_shorter c.args.skips_comments c.args.text.now c.args.count c.loop-due.rest.now c.loop-due.due c.loop-due.invariant in
    let few = c.loop-due.invariant.few in
    omega (arith, shorter, few)

pub returns-clause-lines : goal.returns-clause-lines
returns-clause-lines c = all_taken c.args.skips_comments c.args.text.now c.args.count c.loop-due.rest.now c.loop-due.due c.loop-due.invariant (omega (arith, c.loop-due-test.false))

pub returns-clause-small : goal.returns-clause-small
returns-clause-small c =
    let shorter = is_shorter c.args.skips_comments c.args.text.now c.args.count c.loop-due.rest.now c.loop-due.due c.loop-due.invariant in
    let done = c.loop-due-test.false in
    omega (arith, shorter, done)

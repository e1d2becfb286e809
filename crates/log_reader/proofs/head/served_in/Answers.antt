use Rattle.std.proofs.Common.{sym}
use Rattle.log_reader.specs.LogReading.{served_in}
use Rattle.log_reader.proofs.PartCases.{links_in, ends_in, no_links, no_ends, no_missed, served_is}
use Rattle.log_reader.proofs.Refusals.{was_read, is_read, line_on, fault_on}
use Rattle.log_reader.proofs.head.served_in.Goals as goal

pub returns-in_err-verdicts : goal.returns-in_err-verdicts
returns-in_err-verdicts c =
    fault_on _ c.from_residual.result c.in_err-verdicts.field-0.0 (links_in c.args.lines) (served_in c.args.lines) c.from_residual.ensures.1 c.in_err-verdicts.ensures (no_links c.args.lines)

pub returns-in_err-ends : goal.returns-in_err-ends
returns-in_err-ends c =
    let v = c.in_ok-verdicts in
    let linked = was_read (links_in c.args.lines) (v.verdicts.items, v.left) v.ensures in
    fault_on _ c.from_residual-in_err-ends.result c.in_err-ends.field-0.0 (ends_in v.left) (served_in c.args.lines) c.from_residual-in_err-ends.ensures.1 c.in_err-ends.ensures (no_ends c.args.lines (v.verdicts.items, v.left) linked)

pub returns-in_err-missed : goal.returns-in_err-missed
returns-in_err-missed c =
    let v = c.in_ok-verdicts in
    let e = c.in_ok-ends in
    let linked = was_read (links_in c.args.lines) (v.verdicts.items, v.left) v.ensures in
    let ended = was_read (ends_in v.left) (e.ends.items, e.left) e.ensures in
    line_on _ c.from_residual-in_err-missed.result c.in_err-missed.field-0.0 (served_in c.args.lines) c.from_residual-in_err-missed.ensures.1
    (no_missed c.args.lines (v.verdicts.items, v.left) linked (e.ends.items, e.left) ended c.in_err-missed.field-0.0 (sym c.in_err-missed.ensures))

pub returns : goal.returns
returns c =
    let v = c.in_ok-verdicts in
    let e = c.in_ok-ends in
    let m = c.in_ok-missed in
    let linked = was_read (links_in c.args.lines) (v.verdicts.items, v.left) v.ensures in
    let ended = was_read (ends_in v.left) (e.ends.items, e.left) e.ensures in
    is_read (served_in c.args.lines) _ (served_is c.args.lines (v.verdicts.items, v.left) linked (e.ends.items, e.left) ended (m.missed, m.left) (sym m.ensures))

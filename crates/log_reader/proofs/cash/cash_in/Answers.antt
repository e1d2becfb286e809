use Rattle.std.proofs.Common.{sym}
use Rattle.log_reader.specs.LogReading.{cash_in}
use Rattle.log_reader.proofs.PartCases.{no_cash, cash_is}
use Rattle.log_reader.proofs.Refusals.{line_on}
use Rattle.log_reader.proofs.cash.cash_in.Goals as goal

pub returns-in_err-count : goal.returns-in_err-count
returns-in_err-count c =
    let bad = c.in_err-count.field-0.0 in
    line_on _ c.from_residual.result bad (cash_in c.args.lines) c.from_residual.ensures.1 (no_cash c.args.lines bad (sym c.in_err-count.ensures.same))

pub returns : goal.returns
returns c =
    let w = c.in_ok-count in
    rw (cash_is c.args.lines (w.count, w.left) (sym w.ensures.same)) c.read_all.ensures

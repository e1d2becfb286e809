use Rattle.std.proofs.Common.{sym}
use Rattle.text_forms.specs.Steps.{repeat}
use Rattle.log_reader.specs.LogReading.{head_in, history_in, cash_in, score_in, log_in}
use Rattle.log_reader.proofs.LogTaking.{log_is}
use Rattle.log_reader.proofs.LogCases.{no_head, no_histories, no_cash, no_sheet, no_scores, no_end, more_lines, whole_log}
use Rattle.log_reader.proofs.Refusals.{is_read, line_on, fault_on}
use Rattle.log_reader.proofs.reading.log_in.Goals as goal

pub returns-in_err-head : goal.returns-in_err-head
returns-in_err-head c =
    rw (← c.new.ensures) (fault_on _ c.from_residual.result c.in_err-head.field-0.0 (head_in c.new.result) (log_in c.new.result) c.from_residual.ensures.1 c.in_err-head.ensures (no_head c.new.result))

pub returns-in_err-histories : goal.returns-in_err-histories
returns-in_err-histories c =
    rw (← c.new.ensures) (fault_on _ c.from_residual-in_err-histories.result c.in_err-histories.field-0.0 (repeat 28 0 history_in c.in_ok-head.left) (log_in c.new.result) c.from_residual-in_err-histories.ensures.1 c.in_err-histories.ensures
    (no_histories c.new.result c.in_ok-head.ensures))

pub returns-in_err-cash : goal.returns-in_err-cash
returns-in_err-cash c =
    rw (← c.new.ensures) (fault_on _ c.from_residual-in_err-cash.result c.in_err-cash.field-0.0 (cash_in c.in_ok-histories.left) (log_in c.new.result) c.from_residual-in_err-cash.ensures.1 c.in_err-cash.ensures
    (no_cash c.new.result c.in_ok-head.ensures c.in_ok-histories.ensures))

pub returns-in_err-left : goal.returns-in_err-left
returns-in_err-left c =
    let bad = c.in_err-left.field-0.0 in
    rw (← c.new.ensures) (line_on _ c.from_residual-in_err-left.result bad (log_in c.new.result) c.from_residual-in_err-left.ensures.1
    (no_sheet c.new.result c.in_ok-head.ensures c.in_ok-histories.ensures c.in_ok-cash.ensures bad (sym c.in_err-left.ensures)))

pub returns-in_err-scores : goal.returns-in_err-scores
returns-in_err-scores c =
    rw (← c.new.ensures) (fault_on _ c.from_residual-in_err-scores.result c.in_err-scores.field-0.0 (repeat 8 0 score_in c.in_ok-left.left) (log_in c.new.result) c.from_residual-in_err-scores.ensures.1 c.in_err-scores.ensures
    (no_scores c.new.result c.in_ok-head.ensures c.in_ok-histories.ensures c.in_ok-cash.ensures c.in_ok-left.ensures))

pub returns-in_err-left-2 : goal.returns-in_err-left-2
returns-in_err-left-2 c =
    let bad = c.in_err-left-2.field-0.0 in
    rw (← c.new.ensures) (line_on _ c.from_residual-in_err-left-2.result bad (log_in c.new.result) c.from_residual-in_err-left-2.ensures.1
    (no_end c.new.result c.in_ok-head.ensures c.in_ok-histories.ensures c.in_ok-cash.ensures c.in_ok-left.ensures c.in_ok-scores.ensures bad (sym c.in_err-left-2.ensures)))

pub returns-in_err-finish : goal.returns-in_err-finish
returns-in_err-finish c =
    let bad = c.in_err-finish.field-0.0 in
    rw (← c.new.ensures) (line_on _ c.from_residual-in_err-finish.result bad (log_in c.new.result) c.from_residual-in_err-finish.ensures.1
    (more_lines c.new.result c.in_ok-head.ensures c.in_ok-histories.ensures c.in_ok-cash.ensures c.in_ok-left.ensures c.in_ok-scores.ensures c.in_ok-left-2.ensures bad (sym c.in_err-finish.ensures)))

pub invariant_of-result : goal.invariant_of-result
invariant_of-result c =
    let whole = whole_log c.new.result c.in_ok-head.ensures c.in_ok-histories.ensures c.in_ok-cash.ensures c.in_ok-left.ensures c.in_ok-scores.ensures c.in_ok-left-2.ensures _ c.in_ok-finish.ensures in
    (log_is c.args.text.now _ (rw (← c.new.ensures) whole)).range

pub returns : goal.returns
returns c =
    let whole = whole_log c.new.result c.in_ok-head.ensures c.in_ok-histories.ensures c.in_ok-cash.ensures c.in_ok-left.ensures c.in_ok-scores.ensures c.in_ok-left-2.ensures _ c.in_ok-finish.ensures in
    rw (← c.new.ensures) (is_read (log_in c.new.result) _ whole)

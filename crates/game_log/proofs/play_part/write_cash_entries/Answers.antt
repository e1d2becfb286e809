use Rattle.std.proofs.Common.{◌<◌, length, refl, arith}
use Rattle.log_text.specs.LogText.{cash_entry_line}
use Rattle.game_log.proofs.Writing.{gathered_next, failed_next, item_at}
use Rattle.game_log.proofs.play_part.write_cash_entries.Goals as goal

pub returns-in_err-write_cash_entry : goal.returns-in_err-write_cash_entry
returns-in_err-write_cash_entry g c =
    let within : c.loop-position.position < length c.args.cash.now = omega arith in
    let item = item_at c.args.cash.now c.loop-position.position within in
    failed_next cash_entry_line c.args.cash.now c.loop-position.position item.0 _ _ _ _ _ _ _ c.from_residual.result
    within item.2 refl c.loop-position.invariant (c.in_err-write_cash_entry.ensures item.0 item.1) c.from_residual.ensures.0

pub loop-position-preserved : goal.loop-position-preserved
loop-position-preserved g c =
    let within : c.loop-position.position < length c.args.cash.now = omega arith in
    let item = item_at c.args.cash.now c.loop-position.position within in
    gathered_next cash_entry_line c.args.cash.now c.loop-position.position item.0 _ _ _ _ _ _ _ within item.2 refl c.loop-position.invariant (c.in_ok-write_cash_entry.ensures item.0 item.1)

use Rattle.std.proofs.Common.{◌<◌, length, refl, arith}
use Rattle.log_text.specs.LogText.{entry_text}
use Rattle.game_log.proofs.Writing.{gathered_next, failed_next, item_at}
use Rattle.game_log.proofs.play_part.write_entries.Goals as goal

pub returns-in_err-write_entry : goal.returns-in_err-write_entry
returns-in_err-write_entry g c =
    let within : c.loop-position.position < length c.args.auction.now.history = omega arith in
    let item = item_at c.args.auction.now.history c.loop-position.position within in
    failed_next entry_text c.args.auction.now.history c.loop-position.position item.0 _ _ _ _ _ _ _ c.from_residual.result
    within item.2 refl c.loop-position.invariant (c.in_err-write_entry.ensures item.0 item.1) c.from_residual.ensures.0

pub loop-position-preserved : goal.loop-position-preserved
loop-position-preserved g c =
    let within : c.loop-position.position < length c.args.auction.now.history = omega arith in
    let item = item_at c.args.auction.now.history c.loop-position.position within in
    gathered_next entry_text c.args.auction.now.history c.loop-position.position item.0 _ _ _ _ _ _ _ within item.2 refl c.loop-position.invariant (c.in_ok-write_entry.ensures item.0 item.1)

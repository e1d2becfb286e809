use Rattle.std.proofs.Common.{◌∙◌, length, refl, ap, flat_map}
use Rattle.log_text.specs.LogText.{cash_line, cash_entry_line}
use Rattle.game_log.proofs.Writing.{gathers_both, gathers_part}
use Rattle.game_log.proofs.play_part.write_cash.Goals as goal

pub returns-in-Ok : goal.returns-in-Ok
returns-in-Ok g c =
    let cash = c.args.cash.now in
    let line = c.as_slice.ensures.value ∙ c.cash_line.ensures ∙ ap cash_line c.board-count.ensures.count in
    gathers_both _ _ (cash_line (length cash)) (flat_map cash_entry_line cash) _ _ _ _ _ _ c.write_cash_entries.result line refl c.in-Ok.ensures c.write_cash_entries.ensures

pub returns-in-Err : goal.returns-in-Err
returns-in-Err g c =
    let cash = c.args.cash.now in
    let line = c.as_slice.ensures.value ∙ c.cash_line.ensures ∙ ap cash_line c.board-count.ensures.count in
    gathers_part _ (cash_line (length cash)) (flat_map cash_entry_line cash) _ _ _ line c.in-Err.ensures

use Rattle.std.proofs.Common.{refl}
use Rattle.game_log.specs.Prelude.{head_of, first_lines, histories_of, histories_text}
use Rattle.game_log.proofs.Writing.{gathers_both, gathers_part}
use Rattle.game_log.proofs.play_part.write_lines.Goals as goal

pub returns-in-Ok : goal.returns-in-Ok
returns-in-Ok g c =
    let first = first_lines (head_of c.args.head.now) in
    let histories = histories_text (histories_of c.args.closed.now) c.args.closed.now.cash in
    gathers_both _ _ first histories _ _ _ _ _ _ c.write_histories.result refl refl c.in-Ok.ensures c.write_histories.ensures

pub returns-in-Err : goal.returns-in-Err
returns-in-Err g c =
    gathers_part _ (first_lines (head_of c.args.head.now)) (histories_text (histories_of c.args.closed.now) c.args.closed.now.cash) _ _ _ refl c.in-Err.ensures

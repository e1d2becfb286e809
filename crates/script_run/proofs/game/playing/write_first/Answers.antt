use Rattle.std.proofs.Common.{refl}
use Rattle.script_run.specs.Prelude.{play_part, Play}
use Rattle.game_log.proofs.Writing.{writes_both}
use Rattle.script_run.proofs.game.playing.write_first.Goals as goal

pub returns-in-Ok : goal.returns-in-Ok
returns-in-Ok g c =
    let played = c.args.played.now in
    writes_both _ _ played.replies.items (play_part Play played.closed) _ _ _ c.write_play_part.result c.as_slice.ensures.value refl
    c.in-Ok.ensures c.write_play_part.ensures.text

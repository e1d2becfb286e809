use Rattle.game_log.specs.Prelude.{head_of, play_part}
use Rattle.game_log.proofs.Writing.{writes_gathered, fails_gathered}
use Rattle.game_log.proofs.play_part.write_play_part.Goals as goal

pub returns-in-Ok-clause-text : goal.returns-in-Ok-clause-text
returns-in-Ok-clause-text g c =
    writes_gathered (play_part (head_of c.args.head.now) c.args.closed.now) _ _ _ _ _ c.write.result c.new-gathered.ensures c.in-Ok.ensures c.write.ensures.text

pub returns-in-Err-clause-text : goal.returns-in-Err-clause-text
returns-in-Err-clause-text g c =
    fails_gathered (play_part (head_of c.args.head.now) c.args.closed.now) _ _ _ c.new-gathered.ensures c.in-Err.ensures

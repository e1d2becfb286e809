use Rattle.std.proofs.Common.{rules, []}
use Rattle.script_run.proofs.game.playing.play_to_end.Goals as goal

pub returns-in-Ok : goal.returns-in-Ok
returns-in-Ok c = let ran = c.in-Ok.ensures in (ran.0, record { within = search rules; good = ran.1 }, c.end.ensures ran.0 [] ran.2)

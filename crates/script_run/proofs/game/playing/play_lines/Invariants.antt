use Rattle.std.proofs.Common.{length}
use Rattle.script_run.proofs.PlayedGames.{IsPlaying}
use Rattle.script_run.proofs.game.playing.play_lines.Given as goal

abbrev pub invariant-loop-line : goal.invariant-loop-line
invariant-loop-line l = IsPlaying l.game l.script l.rest l.number l.run

abbrev pub decreases-loop-line : goal.decreases-loop-line
decreases-loop-line l = length l.rest

use Rattle.log_text.specs.LogText.{end_line}
use Rattle.game_log.specs.Gathering.{GathersWhole}
use Rattle.game_log.proofs.Writing.{texts_before}
use Rattle.game_log.proofs.head_part.write_ends.Given as goal

abbrev pub invariant-loop-end : goal.invariant-loop-end
invariant-loop-end g l = GathersWhole (texts_before end_line l.ends l.end-index) l.fn.gathered l.gathered (g.K.Sink.state l.fn.sink) (g.K.Sink.state l.sink)

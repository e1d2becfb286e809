use Rattle.std.specs.List.{enumerate_from}
use Rattle.log_text.specs.LogText.{link_line}
use Rattle.game_log.specs.Gathering.{GathersWhole}
use Rattle.game_log.proofs.Writing.{texts_before}
use Rattle.game_log.proofs.head_part.write_links.Given as goal

abbrev pub invariant-loop-place : goal.invariant-loop-place
invariant-loop-place g l = GathersWhole (texts_before link_line (enumerate_from 0 l.verdicts) l.place) l.fn.gathered l.gathered (g.K.Sink.state l.fn.sink) (g.K.Sink.state l.sink)

use Rattle.log_text.specs.LogText.{entry_text}
use Rattle.game_log.specs.Gathering.{GathersWhole}
use Rattle.game_log.proofs.Writing.{texts_before}
use Rattle.game_log.proofs.play_part.write_entries.Given as goal

abbrev pub invariant-loop-position : goal.invariant-loop-position
invariant-loop-position g l = GathersWhole (texts_before entry_text l.auction.history l.position) l.fn.gathered l.gathered (g.K.Sink.state l.fn.sink) (g.K.Sink.state l.sink)

use Rattle.log_text.proofs.InOrder.{kept_text}
use Rattle.game_log.specs.Gathering.{GathersWhole}
use Rattle.game_log.proofs.Writing.{texts_before}
use Rattle.game_log.proofs.play_part.write_auctions.Given as goal

abbrev pub invariant-loop-auction : goal.invariant-loop-auction
invariant-loop-auction g l = GathersWhole (texts_before kept_text l.auctions l.auction-index) l.fn.gathered l.gathered (g.K.Sink.state l.fn.sink) (g.K.Sink.state l.sink)

-- A seat that is put away may go to another thread, since its badge may.
use denote.RattleType.{RattleType}
use denote.Param.Send.{IsSend}
use Rattle.atomic_table.proofs.badge.Badge.TheSendSync.{the_send}
use Rattle.turn_lock.specs.contracts.own_seat.OwnSeat.{the_row}

pub send : (V : RattleType) → IsSend (the_row V)
send V = record { owned = λ d vs. ((λ vss. (tt, ((the_send V).owned d.badge vss.0, tt))), tt); leaving = λ k f vs. (tt, tt) }

-- A `&` to it gives nothing that ties it to a thread.
use denote.RattleType.{RattleType}
use denote.Param.Send.{IsSync, part_keyless}
use Rattle.turn_lock.specs.contracts.own_seat.OwnSeat.{the_row}
use Rattle.turn_lock.proofs.own_seat.OwnSeat.TheSendSync.Send.{send}

pub sync : (V : RattleType) → IsSync (the_row V)
sync V = record { shared = λ d place offset life share. part_keyless (the_row V) (send V) share d place offset }

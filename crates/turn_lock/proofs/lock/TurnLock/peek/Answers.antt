use Rattle.std.proofs.Common.{rules}
use Rattle.turn_lock.proofs.TurnSteps.{peeks}
use Rattle.turn_lock.proofs.lock.TurnLock.peek.Goals as goal

pub load-word-requires : goal.load-word-requires
load-word-requires g c = (search rules, search rules, peeks _ _ _ _ _ _ _ _ _ (search rules))

use Rattle.std.proofs.Common.{rules}
use Rattle.turn_lock.proofs.TurnSteps.{looks}
use Rattle.turn_lock.proofs.lock.TurnLock.wait.Goals as goal

pub load-found-requires : goal.load-found-requires
load-found-requires g c = (search rules, search rules, looks _ _ _ _ _ _ _ _ _ (search rules) (search rules) (search rules) (search rules))

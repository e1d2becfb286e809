use Rattle.std.proofs.Common.{◌≡◌, ℕ, ◌<◌, List, []}
use Rattle.std.specs.Global.{Vec}
use Rattle.tac_base.specs.declared.calls.Board.{Board}
use Rattle.link_audit.specs.Ahead.{calls_left, subject_of}
use Rattle.link_audit.proofs.leftovers.first_left.Given as goal

-- the agent has nothing left at the goods before the number
abbrev pub invariant-loop-number : goal.invariant-loop-number
invariant-loop-number l = (boards : List (Vec Board)) (good : ℕ) → good < l.number → calls_left (subject_of l.log boards l.agent) l.places good ≡ []

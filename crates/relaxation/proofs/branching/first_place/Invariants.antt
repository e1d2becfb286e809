use Rattle.std.proofs.Common.{◌<◌, IfSome}
use Rattle.relaxation.proofs.branching.first_place.Given as goal

abbrev pub invariant-loop-place : goal.invariant-loop-place
invariant-loop-place l = IfSome l.found (λ place. place < 32)

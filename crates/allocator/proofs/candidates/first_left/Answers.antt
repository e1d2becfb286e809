use Rattle.std.proofs.Common.{arith}
use Rattle.std.proofs.lemmas.Option.{slice_get_within}
use Rattle.packages.specs.Listing.{packages}
use Rattle.packages.proofs.Decoded.{length-packages}
use Rattle.allocator.proofs.candidates.first_left.Goals as goal

pub returns-clause-out : goal.returns-clause-out
returns-clause-out c = λ n p h. c.loop-n.invariant n p (omega (arith, slice_get_within packages n p h, length-packages)) h

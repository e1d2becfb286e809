use Rattle.std.proofs.Common.{refl, arith}
use Rattle.log_audit.proofs.Naming.{none_named}
use Rattle.log_audit.proofs.places.Places.new.Goals as goal

pub returns : goal.returns
returns c = let filled = c.in_ok-resize.ensures in none_named 231168 c.resize.new.self.items (omega (arith, filled.len, c.resize.new.self.ok.0)) (λ k d lt. filled.by_index.1 k d refl (omega arith) lt)

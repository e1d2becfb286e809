use Rattle.std.proofs.Common.{arith}
use Rattle.log_reader.proofs.histories.LogHistory.len.Goals as goal

pub overflow_cast-result : goal.overflow_cast-result
overflow_cast-result c = record { fits = omega (arith, c.len.ensures, c.self.inside.entries.ok.0, c.self.invariant.few) }

pub returns-clause-few : goal.returns-clause-few
returns-clause-few c = omega (arith, c.len.ensures, c.self.inside.entries.ok.0, c.self.invariant.few)

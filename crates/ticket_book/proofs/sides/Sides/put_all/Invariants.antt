use Rattle.std.proofs.Common.{◌++◌, take}
use Rattle.ticket_book.specs.Sides.{both, HaveSame}
use Rattle.ticket_book.proofs.sides.Sides.put_all.Given as goal

abbrev pub invariant-loop-unit : goal.invariant-loop-unit
invariant-loop-unit l = HaveSame (both l.self) (both l.fn.self ++ take l.unit-index l.units)

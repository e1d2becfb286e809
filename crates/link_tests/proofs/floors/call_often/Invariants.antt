use Rattle.std.proofs.Common.{◌≡◌}
use Rattle.floor.specs.Desks.{desk_ids, desk_caller}
use Rattle.link_tests.proofs.floors.call_often.Given as goal

abbrev pub invariant-loop : goal.invariant-loop
invariant-loop g l = record {
  ids : desk_ids l.desk ≡ desk_ids l.initial.desk;
  caller : desk_caller l.desk ≡ desk_caller l.initial.desk;
}

use Rattle.std.proofs.Common.{◌≡◌, length}
use Rattle.relaxation.specs.Tables.{IsPut}
use Rattle.relaxation.proofs.worth_table.put.Given as goal

abbrev pub invariant-loop-client : goal.invariant-loop-client
invariant-loop-client l = record {
  long : length l.dollars ≡ 3144;
  put : IsPut l.account.clients l.number l.choice l.initial.dollars l.client l.dollars;
}

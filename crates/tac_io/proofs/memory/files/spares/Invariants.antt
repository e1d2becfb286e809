use Rattle.std.proofs.Common.{◌≡◌, All, vec_len}
use Rattle.tac_io.specs.FileList.{IsSpare}
use Rattle.tac_io.proofs.memory.files.spares.Given as goal

abbrev pub invariant-loop : goal.invariant-loop
invariant-loop l = record {
  count : vec_len l.spares ≡ l.counter;
  each : All IsSpare l.spares.items;
}

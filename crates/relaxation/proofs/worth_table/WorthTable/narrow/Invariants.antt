use Rattle.std.proofs.Common.{◌≡◌, length}
use Rattle.packages.specs.Features.{feature_of}
use Rattle.relaxation.proofs.TableLaws.{KeepsSoFar, TakesSoFar}
use Rattle.relaxation.proofs.worth_table.WorthTable.narrow.Given as goal

abbrev pub invariant-loop-number : goal.invariant-loop-number
invariant-loop-number l = record {
  long : length l.self.dollars ≡ 3144;
  keeps : KeepsSoFar (feature_of l.feature) l.client l.value l.number l.initial.self.dollars l.self.dollars;
  takes : TakesSoFar (feature_of l.feature) l.client l.value l.number l.self.dollars;
}

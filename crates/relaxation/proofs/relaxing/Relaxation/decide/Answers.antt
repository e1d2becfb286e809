use Rattle.std.proofs.Common.{◌/◌, ◌%◌, sym, subst, arith}
use Rattle.relaxation.specs.declared.worth_table.WorthTable.{WorthTable}
use Rattle.relaxation.specs.Tables.{IsNarrowedSomewhere}
use Rattle.relaxation.proofs.relaxing.Relaxation.decide.Goals as goal

pub returns-clause-decided : goal.returns-clause-decided
returns-clause-decided c = λ h.
    let place = c.in-Some.place in
    let decided : IsNarrowedSomewhere c.args.self.now.worths.dollars c.narrow.new.self.dollars = record {
      client = place / 4;
      feature = place % 4;
      value = c.best_value-value.result;
      of_client = omega (arith, c.in-Some.ensures);
      of_feature = omega arith;
      of_value = c.best_value-value.ensures;
      narrowed = c.narrow.ensures;
    } in
    subst (λ (w : WorthTable). IsNarrowedSomewhere c.args.self.now.worths.dollars w.dollars) (sym c.repair.ensures) decided

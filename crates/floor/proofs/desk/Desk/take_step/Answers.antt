use Rattle.std.proofs.Common.{refl, ap, ◌∙◌}
use Rattle.floor.specs.{desk_steps, calls_of_steps}
use Rattle.floor.proofs.CallLists.{calls_of_steps-other, listed_as}
use Rattle.floor.proofs.desk.Desk.take_step.Goals as goal

pub invariant_of-self : goal.invariant_of-self
invariant_of-self g c = let d = c.args.self.now in record {
  kept = d.kept;
  in_order = d.in_order;
  listed = listed_as d.listed refl (ap calls_of_steps c.with-self.ensures ∙ calls_of_steps-other (desk_steps d) g.step c.requires.1);
}

pub returns-clause-taken : goal.returns-clause-taken
returns-clause-taken g c = let d = c.args.self.now in record {
  steps = c.with-self.ensures;
  calls = ap calls_of_steps c.with-self.ensures ∙ calls_of_steps-other (desk_steps d) g.step c.requires.1;
  entries = refl;
  cash = refl;
  seen = refl;
  boards = refl;
  same = (refl, refl);
}

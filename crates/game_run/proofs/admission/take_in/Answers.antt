use Rattle.std.proofs.Common.{◌∙◌, ap, refl, Some, arith, slice_set}
use Rattle.game_run.specs.declared.arrivals.Greeting.TheVariants.{Seated, Unseated}
use Rattle.game_run.proofs.admission.take_in.Goals as goal

pub returns-in-Seated-clause-taken : goal.returns-in-Seated-clause-taken
returns-in-Seated-clause-taken g c = record {
  greeting = Seated c.in-Seated.agent c.in-Seated.lines;
  greets = c.in-Seated.ensures;
  adds = (
    c.push_reserved.ensures.items,
    c.push_reserved-in-Seated.ensures.items,
    ap (λ i. slice_set c.args.arrivals.now.lines.items i (Some c.in-Seated.lines)) (c.from.ensures ∙ c.get.ensures.value),
    omega (arith, c.get.ensures.value, c.get.ensures.range),
    refl,
  );
}

pub returns-in-Unseated-clause-taken : goal.returns-in-Unseated-clause-taken
returns-in-Unseated-clause-taken g c = record {
  greeting = Unseated c.in-Unseated.verdict c.in-Unseated.link;
  greets = c.in-Unseated.ensures;
  adds = (c.push_reserved-in-Unseated.ensures.items, c.push_reserved-in-Unseated-2.ensures.items, refl, refl);
}

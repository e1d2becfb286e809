use Rattle.floor.proofs.step_list.StepList.with_call.Given as goal

abbrev pub ghost-with : goal.ghost-with
ghost-with g a = g.step

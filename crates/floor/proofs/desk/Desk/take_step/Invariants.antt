use Rattle.floor.proofs.desk.Desk.take_step.Given as goal

abbrev pub ghost-with : goal.ghost-with
ghost-with g a = g.step

use Rattle.script_run.proofs.LawfulGames.{lawful_script}
use Rattle.script_run.proofs.law.script_law.Goals as goal

pub returns : goal.returns
returns c = lawful_script c.args.game.now c.schedule_law.ensures.fit c.schedule_law.ensures.most

use Rattle.std.proofs.Common.{subst}
use Rattle.game_text.specs.Games.{IsGame}
use Rattle.clock_events.proofs.ScheduleLaws as laws
use Rattle.clock_events.proofs.laws.schedule_law.Goals as goal

pub returns : goal.returns
returns c =
    let is = subst IsGame c.game.view_is c.game.invariant in
    record {
      once = λ tick good first last. laws.once c.args.game.now is tick first last good;
      fit = λ tick first last. laws.fit c.args.game.now is tick first last;
      few = λ tick first last. laws.few c.args.game.now is tick first last;
      whole = laws.whole c.args.game.now is;
      most = laws.most c.args.game.now is;
    }

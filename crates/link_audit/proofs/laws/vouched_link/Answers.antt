use Rattle.game_run.specs.Hosted.{hosted_game}
use Rattle.link_audit.proofs.FarEnds.{vouched_from}
use Rattle.link_audit.proofs.OneLines.{no_end}
use Rattle.link_audit.proofs.laws.vouched_link.Goals as goal

pub returns : goal.returns
returns g c = λ dialect game port log agent asked said lines link whole.
    vouched_from (hosted_game game (g.D.Dialect.form dialect) port) (λ reply. no_end ((g.D.Dialect.form dialect).text reply) (lines reply)) log agent asked said link whole

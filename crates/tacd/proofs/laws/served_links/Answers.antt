use Rattle.tacd.specs.Finishing.{hosted_by}
use Rattle.tacd.proofs.ServedLinks.{link_of_log}
use Rattle.tacd.proofs.laws.served_links.Goals as goal

pub returns : goal.returns
returns g c = λ service game links links' end is sheet agent asked said s. link_of_log g.L.Link.state (hosted_by service game) links links' end is sheet agent asked said s

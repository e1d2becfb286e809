use Rattle.tacd.proofs.ServedLinks.{vouched_by_links}
use Rattle.tacd.proofs.laws.vouched_services.Goals as goal

pub returns : goal.returns
returns g c = λ service before after answer serves well. vouched_by_links g.L.Link.state service before after answer well serves

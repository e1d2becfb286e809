use Rattle.std.proofs.Common.{ℕ, List, [], Option, ap, ◌∙◌, unwrap_or}
use Rattle.std.proofs.lemmas.Option.{unwrap_or-slice_get}
use Rattle.tourney.specs.Standings.{teams}
use Rattle.tourney.proofs.printing.word_at.Goals as goal

pub returns-in-None : goal.returns-in-None
returns-in-None c = λ played stands. ap (λ (word : Option (List ℕ)). unwrap_or word []) (c.in-None.ensures played stands) ∙ unwrap_or-slice_get (teams played) c.args.team []

use Rattle.std.proofs.Common.{List, ap, sym, ◌∙◌}
use Rattle.std.specs.List.{list_any}
use Rattle.line_protocol.specs.declared.admission.Verdict.{Verdict}
use Rattle.line_protocol.specs.declared.head.LogHead.{LogHead}
use Rattle.tourney.specs.Prelude.{head_of, gives_seat}
use Rattle.tourney.specs.Standings as standings
use Rattle.tourney.proofs.Seats.{given}
use Rattle.tourney.proofs.counting.counts.Goals as goal

pub returns-in-Serve : goal.returns-in-Serve
returns-in-Serve c =
    c.has_seat.ensures ∙ (ap (λ (vs : List Verdict). list_any (gives_seat c.args.agent) vs) c.deref.ensures.value
    ∙ (sym (given c.args.agent c.in-Serve.verdicts.items) ∙ ap (λ (h : LogHead). standings.counts (head_of h) c.args.agent) (sym c.in-Serve.is)))

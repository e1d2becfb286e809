use Rattle.std.proofs.Common.{◌∙◌, sym}
use Rattle.game_run.proofs.FirstLines.{turned_away, no_seat_changed}
use Rattle.game_run.proofs.admission.greet.Goals as goal

pub returns-in-None : goal.returns-in-None
returns-in-None g c =
    let none = sym c.seat.ensures ∙ c.in-None.is in (
      c.first_verdict-verdict.ensures.seats ∙ no_seat_changed _ _ none,
      turned_away g.L.Link.state _ _ _ c.first_verdict-verdict.new.lines _ none
          (rw c.new-lines.ensures.link at c.first_verdict-verdict.ensures.read) c.turn_away-link.ensures,
    )

use Rattle.std.proofs.Common.{map, sym, subst, option_map}
use Rattle.tac_io.specs.Lines.{link_of}
use Rattle.game_run.specs.SeatedLinks.{AreFilled, AreLinksOf}
use Rattle.game_run.proofs.LinksBack.{filled_alike, same_kinds}
use Rattle.game_run.proofs.run.leave.Goals as goal

pub in_order-requires-clause-filled : goal.in_order-requires-clause-filled
in_order-requires-clause-filled g c =
    let lines = c.args.arrivals.lines.items in
    subst (λ agent_seats. AreFilled agent_seats c.args.arrivals.holders.items) (sym c.without_sessions-agent_seats.ensures)
    (filled_alike lines (map (λ o. option_map (λ l. link_of l) o) lines) c.args.arrivals.holders.items (same_kinds (λ l. link_of l) lines) c.requires.filled)

pub returns : goal.returns
returns g c = subst (λ agent_seats. AreLinksOf agent_seats c.args.arrivals.holders.items c.in_order.result.items) c.without_sessions-agent_seats.ensures c.in_order.ensures

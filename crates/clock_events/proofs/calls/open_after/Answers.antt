use Rattle.std.proofs.Common.{rules, ◌==◌, not, take, filter, ap, ◌∙◌}
use Rattle.std.specs.List.{list_any}
use Rattle.arrayvec.proofs.ArrayVecLemmas.{filter-from_retain}
use Rattle.clock_events.specs.Prelude.{open_after}
use Rattle.clock_events.proofs.calls.open_after.Goals as goal

pub returns : goal.returns
unfolding open_after
returns c =
    filter-from_retain _ (λ good. not (list_any (λ closed. closed == good) (take c.args.turn c.args.order.now))) _ (λ x b f' y called. search rules) _ _ c.retain.ensures.filtered
    ∙ ap (filter (λ good. not (list_any (λ closed. closed == good) (take c.args.turn c.args.order.now)))) (c.from-open.ensures.0 ∙ c.hotels.ensures)

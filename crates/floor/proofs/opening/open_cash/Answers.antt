use Rattle.std.proofs.Common.{◌∙◌, sym, arith}
use Rattle.turn_lock.proofs.Places.{place_below}
use Rattle.floor.proofs.FreshPasses.{cash_calls_are}
use Rattle.floor.proofs.opening.open_cash.Goals as goal

pub returns-clause-passes : goal.returns-clause-passes
returns-clause-passes c =
    let passes = c.in_ok-lock.passes in let begun = c.in_ok-lock.ensures.passes in
    (sym passes.ok.0 ∙ begun.0, λ i p at. let b = begun.1 i p at in (b.0, b.1, b.2 ∙ cash_calls_are i (omega (arith, place_below passes.items i p at, begun.0, passes.ok.0)), b.3, b.4, b.5))

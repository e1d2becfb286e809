use Rattle.std.proofs.Common.{◌∷◌, [], ◌++◌, map, length, sym, ap, ◌∙◌, subst, arith}
use Rattle.std.proofs.lemmas.List.{length-map}
use Rattle.floor.specs.{lock_id, cap, AreFresh}
use Rattle.turn_lock.proofs.Places.{place_below}
use Rattle.floor.proofs.FreshPasses.{calls_are, fresh_dealt}
use Rattle.floor.proofs.Tables.{length-with_each}
use Rattle.floor.proofs.opening.open.Goals as goal

pub returns-clause-dealt : goal.returns-clause-dealt
returns-clause-dealt c ids fresh =
    let passes = c.in_ok-lock.passes in let lock = c.in_ok-lock.lock in let begun = c.in_ok-lock.ensures.passes in
    subst (λ l. AreFresh (ids ++ lock_id lock ∷ []) cap l) (sym c.in_ok-deal.ensures)
    (fresh_dealt ids (lock_id lock) cap (map (λ hand. hand.items) c.args.hands.now.items) passes.items fresh (omega (arith, length-map c.args.hands.now.items (λ hand. hand.items), c.requires, begun.0, passes.ok.0))
    (λ i p at. let b = begun.1 i p at in (b.0, b.1, b.2 ∙ calls_are i (omega (arith, place_below passes.items i p at, begun.0, passes.ok.0)), b.3, b.4, b.5)))

pub returns-clause-nine : goal.returns-clause-nine
returns-clause-nine c =
    sym (length-map c.deal.new.hands.items (λ hand. hand.items)) ∙ (ap length c.in_ok-deal.ensures ∙ (length-with_each _ _ ∙ (length-map c.args.hands.now.items (λ hand. hand.items) ∙ c.requires)))

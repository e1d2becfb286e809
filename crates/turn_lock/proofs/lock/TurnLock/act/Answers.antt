use Rattle.std.proofs.Common.{rules, ◌≡◌, [], Some, sym, ap, ◌∙◌}
use Rattle.atomic_table.specs.Table.{rest}
use Rattle.turn_lock.proofs.TurnSteps.{publishes, in_hand}
use Rattle.turn_lock.proofs.lock.TurnLock.act.Goals as goal

-- the state that was acted on is the one that the seat held
pub swap-requires : goal.swap-requires
swap-requires g c =
    let kept = g.S.Kept in let held = c.requires.held in let before = c.slot_mut-state.result.now in
    let same : held.0 ≡ before = in_hand _ _ held.0 before held.1 c.slot_mut-state.ensures.value in
    let nothing_else : rest c.args.seat.now.me.1 ≡ [] = ap rest held.1 in
    let entry = c.act-reply.ensures.entry in let b = c.board-board.ensures in (
      search rules,
      search rules,
      publishes kept.setup kept.history _ _ _ _ _ _ _ _ before c.act-reply.new.self entry.0 _ c.board-board.result nothing_else c.requires.live.0
          (held.2 ∙ ap (λ x. Some (kept.setup x, kept.history x)) same) c.act-reply.ensures.setup entry.1 (entry.2 ∙ sym c.requires.live.1)
          b.legal b.board b.count b.small c.pack.ensures,
    )

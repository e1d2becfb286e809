use Rattle.std.proofs.Common.{rules, ◌≡◌, ℕ, [], ◌∷◌, sym, ap, ◌∙◌, subst, List, slice_index, Some, Result, IfOk}
use Rattle.tac_base.specs.declared.numbers.OutOfRange.{OutOfRange}
use Rattle.atomic_table.specs.Table.{opening}
use Rattle.turn_lock.specs.{Turning, own_at_first, fresh_pass}
use Rattle.turn_lock.specs.Passes.{start_of}
use Rattle.turn_lock.proofs.Places.{each_snoc}
use Rattle.turn_lock.proofs.TurnSteps.{begins}
use Rattle.turn_lock.proofs.lock.TurnLock.begin.Goals as goal

pub new-requires : goal.new-requires
new-requires g c =
    let kept = g.S.Kept in let z = c.of-key.result.value in let b = c.board.ensures in
    let one : c.push_reserved.new.self.items ≡ c.args.state ∷ [] = search rules in
    subst (λ (xs : List g.row.S.Denot). Turning kept.setup kept.history kept.legal kept.board kept.caller_of z (opening (0 ∷ c.pack-word.result ∷ []) xs (own_at_first z))) (sym one)
    (begins kept.setup kept.history kept.legal kept.board kept.caller_of z c.args.state c.pack-word.result c.board.result (search rules) c.requires.empty b.legal b.board b.count b.small c.pack-word.ensures)

pub loop-i-preserved : goal.loop-i-preserved
loop-i-preserved g c =
    let v = c.loop-i.invariant in let pass = c.split_off-pass.result in let split = c.split_off-pass.ensures in let table = split.own.0 in record {
      table = table ∙ v.table;
      origin = search rules;
      made = search rules;
      returned = search rules;
      count = search rules;
      room = search rules;
      each = each_snoc c.loop-i.passes.items c.push_reserved-in-loop-i.new.self.items pass
          (λ k q. (q.seat.table_id ≡ c.split_off-pass.new.self.table.shared.table_id) × (q.caller ≡ k) × (q.left ≡ slice_index c.args.limits.now k) × (q.seat.me.0 ≡ fresh_pass (Some (start_of c.split_off-pass.new.self)) k))
          (search rules)
          (λ k q e. let o = v.each k q e in (o.0 ∙ ap (λ t. t.shared.table_id) (sym table), o.1, o.2, o.3 ∙ ap (λ t. fresh_pass (Some t.shared.key.value) k) (sym table))) (
            split.pass.0 ∙ ap (λ t. t.shared.table_id) (sym table),
            split.pass.1 ∙ (subst (λ (r : Result ℕ OutOfRange). IfOk r (λ caller. caller ≡ c.loop-i.i)) c.unwrap-caller.ensures c.new-in-loop-i.ensures.value ∙ sym v.count),
            split.pass.2 ∙ ap (λ (k : ℕ). slice_index c.args.limits.now k) (sym v.count),
            split.pass.3 ∙ (λ j. fresh_pass {G = g.row.S-Setup.Denot} {E = g.row.S-Entry.Denot} ((v.origin ∙ ap (λ t. Some t.shared.key.value) (sym table)) j) ((v.made ∙ sym v.count) j)),
          );
    }

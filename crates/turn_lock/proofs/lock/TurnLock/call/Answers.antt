use Rattle.std.proofs.Common.{◌≡◌, ℕ, ◌+◌, List, length, ap, sym, ◌∙◌, subst, arith, ◌∷◌, [], length-append}
use Rattle.turn_lock.specs.Part.{part}
use Rattle.turn_lock.specs.Passes.{caller_of, start_of}
use Rattle.turn_lock.proofs.TurnSteps.{whole_turn, in_hand}
use Rattle.turn_lock.proofs.lock.TurnLock.call.Goals as goal

pub invariant_of-pass : goal.invariant_of-pass
invariant_of-pass g c =
    let took = c.wait.ensures.took in let acted = c.act-answer.ensures.entry in let pass = c.args.pass.now in let kept = g.S.Kept in
    let after = whole_turn kept.setup kept.history kept.legal kept.board kept.caller_of c.args.self.now.table.shared.key.value pass.seat.me.0 _ _ _ _ took.state acted.0 _ acted.2 _
    c.draw-ticket.ensures.view took.is acted.3 acted.4 (acted.5 ∙ sym pass.live.1) took.mine acted.8 acted.9 in record {
      live = (ap (λ m. m.0.live) after ∙ pass.live.0, ap (λ m. m.0.caller) after ∙ pass.live.1);
      at_rest = (ap (λ m. m.0.waits) after, ap (λ m. m.0.held) after, ap (λ m. m.1) after);
      capped =
          let cap = pass.capped in let left = c.requires.left in
          let longer : length c.act-answer.new.seat.me.0.mine ≡ length pass.seat.me.0.mine + 1 =
          ap (λ m. length m.0.mine) after ∙ length-append pass.seat.me.0.mine ((c.act-answer.result.0, acted.2) ∷ []) in
          omega arith;
    }

pub returns-clause-entry : goal.returns-clause-entry
returns-clause-entry g c =
    let took = c.wait.ensures.took in let acted = c.act-answer.ensures.entry in let pass = c.args.pass.now in let kept = g.S.Kept in
    let after = whole_turn kept.setup kept.history kept.legal kept.board kept.caller_of c.args.self.now.table.shared.key.value pass.seat.me.0 _ _ _ _ took.state acted.0 _ acted.2 _
    c.draw-ticket.ensures.view took.is acted.3 acted.4 (acted.5 ∙ sym pass.live.1) took.mine acted.8 acted.9 in
    let drew = c.draw-ticket.ensures.view in let same : took.state ≡ acted.0 = in_hand _ [] took.state acted.0 (ap (λ m. m.1) took.is) acted.3 in
    let start = start_of c.args.self.now in
    let setup : kept.setup acted.0 ≡ kept.setup start = ap kept.setup (sym same) ∙ took.kept start (ap (λ m. m.0.start) drew ∙ ap (λ l. l.start) c.requires.own) in (
      acted.2,
      acted.5,
      acted.6,
      acted.7,
      ap (λ m. m.0.mine) after,
      record {
        before = kept.history acted.0;
        count = sym acted.8;
        own = ap (λ x. part kept.caller_of (kept.history x) (caller_of pass)) (sym same)
            ∙ (ap (λ (k : ℕ). part kept.caller_of (kept.history took.state) k) (sym pass.live.1 ∙ sym (ap (λ m. m.0.caller) drew)) ∙ (took.mine ∙ ap (λ m. m.0.mine) drew));
        lawful = subst (λ (t : g.row.S-Setup.Denot × List g.row.S-Entry.Denot). kept.legal t.0 t.1) (λ i. (setup i, acted.4 i)) acted.10;
      },
    )

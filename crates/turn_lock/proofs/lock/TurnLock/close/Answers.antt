use Rattle.std.proofs.Common.{◌≡◌, ℕ, ◌≤◌, List, [], length, subst, ap, sym, ◌∙◌}
use Rattle.turn_lock.specs.declared.view.View.{View}
use Rattle.turn_lock.specs.Part.{part}
use Rattle.turn_lock.specs.TurnRule.{own_view, AreKnown}
use Rattle.turn_lock.proofs.Places.{only_of}
use Rattle.turn_lock.proofs.TurnSteps.{closes}
use Rattle.turn_lock.proofs.lock.TurnLock.close.Goals as goal

pub into_seat-requires : goal.into_seat-requires
into_seat-requires g c = only_of _ c.args.self.its_own.2

pub returns : goal.returns
returns g c =
    let V : Type 0 = View g.row.S.Denot g.row.S-Setup.Denot g.row.S-Entry.Denot in
    let taken = c.into_seat.ensures in let state = c.take-state.result in let kept = g.S.Kept in
    let same : own_view c.args.self.own.badge.views ≡ c.into_seat.result.me.0 = ap (λ (l : List V). own_view l) taken.2 in
    let end = closes kept.setup kept.history kept.legal kept.board kept.caller_of c.args.self.table.shared.key.value _ c.into_seat.result.me.0 _ _ state
    (taken.1 ∙ c.args.self.its_own.1) (subst (λ (v : V). length v.returned ≡ v.passes) same c.requires.all_back)
    c.close_with-closed.ensures.values.2 c.take-state.ensures.value in
    record {
      setup = end.0;
      legal = end.1;
      known = subst (λ (v : V). AreKnown (kept.board (kept.setup state)) kept.caller_of (kept.history state) v.returned) (sym same) end.2;
      nobody_else = subst (λ (v : V). (c' : ℕ) → v.passes ≤ c' → part kept.caller_of (kept.history state) c' ≡ []) (sym same) end.3;
    }

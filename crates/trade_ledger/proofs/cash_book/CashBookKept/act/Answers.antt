use Rattle.std.proofs.Common.{rules, ◌<◌, List, [], ◌∷◌, ◌++◌, length, sym, subst, arith, vec_capacity}
use Rattle.turn_lock.specs.Part.{part}
use Rattle.trade_ledger.specs.declared.cash_calls.CashEntry.{CashEntry}
use Rattle.trade_ledger.specs.{cash_cap, IsWithin, IsCashSound}
use Rattle.trade_ledger.proofs.CashSteps.{few_entries, room_for, within_all, sound_snoc}
use Rattle.trade_ledger.proofs.cash_book.CashBookKept.act.Goals as goal

pub settle-reply-requires : goal.settle-reply-requires
settle-reply-requires c party lt =
    let history = c.self.inside.entries.items in let sound = c.self.invariant in
    subst (IsWithin 600000000000000) (sym (sound.totals party lt)) (within_all (length history) _ (few_entries history sound.called sound.capped) (sound.small party lt))

pub push_reserved-requires : goal.push_reserved-requires
push_reserved-requires c =
    let entries = c.self.inside.entries in let sound = c.self.invariant in
    let e : CashEntry = record { caller = c.args.caller; call = c.args.call.now; reply = c.settle-reply.result } in
    let room : length (part (λ (x : CashEntry). x.caller) entries.items c.args.caller) < cash_cap c.args.caller =
    subst (λ (h : List CashEntry). length (part (λ (x : CashEntry). x.caller) h c.args.caller) < cash_cap c.args.caller) (sym c.self.view_is) c.requires.room in
    omega (arith, room_for entries.items e sound.called (search rules) sound.capped room, entries.ok.0, sound.room)

pub invariant_of-self : goal.invariant_of-self
invariant_of-self c =
    let entries = c.self.inside.entries in let settled = c.settle-reply.ensures in
    let e : CashEntry = record { caller = c.args.caller; call = c.args.call.now; reply = c.settle-reply.result } in
    let room : length (part (λ (x : CashEntry). x.caller) entries.items c.args.caller) < cash_cap c.args.caller =
    subst (λ (h : List CashEntry). length (part (λ (x : CashEntry). x.caller) h c.args.caller) < cash_cap c.args.caller) (sym c.self.view_is) c.requires.room in
    subst (λ (h : List CashEntry). IsCashSound h c.settle-reply.new.totals (vec_capacity c.push_reserved.new.self)) (sym c.push_reserved.ensures.items)
    (subst (IsCashSound (entries.items ++ e ∷ []) c.settle-reply.new.totals) (sym c.push_reserved.ensures.capacity)
    (sound_snoc entries.items c.self.inside.totals c.settle-reply.new.totals _ e c.self.invariant (search rules) room c.requires.fit settled.reply settled.totals settled.small settled.ranged))

pub returns-clause-legal : goal.returns-clause-legal
returns-clause-legal c = (invariant_of-self c).legal

use Rattle.std.proofs.Common.{◌≡◌, ◌∙◌, sym, ap, rules, SFits, w64, unsigned_abs}
use Rattle.std.proofs.lemmas.Int.{to_z-of_z}
use Rattle.tac_base.proofs.Faults.{next_fault}
use Rattle.tac_base.proofs.bids.BidDraft.fault_with.Goals as goal

pub returns-clause-value : goal.returns-clause-value
returns-clause-value c =
    let fits : SFits w64 c.args.units = search rules in
    let size : c.unsigned_abs.result ≡ unsigned_abs c.args.units = c.unsigned_abs.ensures.value ∙ ap unsigned_abs (to_z-of_z w64 c.args.units fits) in
    rw (← c.self.view_is) (c.fault_at.ensures ∙ sym (next_fault c.self.inside.list.items c.args.units c.args.price c.len.result c.self.inside.used c.unsigned_abs.result c.self.invariant.0 c.len.ensures.value c.self.invariant.1 size))

use Rattle.std.proofs.Common.{◌≡◌, ℕ, take, Some, Option, Bor, slice_get, inl, inr, sym, ap, ◌∙◌, subst, arith, option_copied}
use Rattle.std.proofs.lemmas.Option.{slice_get_within}
use Rattle.log_audit.specs.Prelude.{Call, IsShown}
use Rattle.tac_base.specs.declared.calls.Entry.{Entry as StoredEntry}
use Rattle.log_audit.proofs.Scheduled.{next_due, made_more, made_same}
use Rattle.log_audit.proofs.scheduling.makes.Goals as goal

pub returns-in-None : goal.returns-in-None
returns-in-None c =
    let history = c.args.history.now in let due = c.args.due.now in let n = c.loop-position.position in let shown : StoredEntry = c.unwrap.result.now in let v = c.loop-position.invariant in
    let is : IsShown history n (Some shown) = subst (λ (o : Option (Bor StoredEntry)). IsShown history n (option_copied o)) c.unwrap.ensures c.entry.ensures.shown in
    let no = c.in-None.ensures in
    ((λ t. absurd cc), (λ same. absurd (no.1 (next_due history due n c.loop-position.made is.0 is.1 v.so_far (sym is.2.caller ∙ no.0) v.within same ∙ ap (λ (x : Call). Some x) (sym is.2.call)))))

pub loop-position-preserved : goal.loop-position-preserved
loop-position-preserved c =
    let history = c.args.history.now in let due = c.args.due.now in let n = c.loop-position.position in let made = c.loop-position.made in let shown : StoredEntry = c.unwrap.result.now in let v = c.loop-position.invariant in
    let is : IsShown history n (Some shown) = subst (λ (o : Option (Bor StoredEntry)). IsShown history n (option_copied o)) c.unwrap.ensures c.entry.ensures.shown in
    let within = v.within in
    elim c.in-Some.ensures [
      | inl own ↦ (let next : slice_get due made ≡ Some is.0.call = own.1 ∙ ap (λ (x : Call). Some x) is.2.call in let count = own.2 in record {
        within = omega (arith, slice_get_within due made is.0.call next, count);
        so_far = made_more history due n made is.0 is.1 v.so_far (sym is.2.caller ∙ own.0) next ∙ ap (λ (k : ℕ). take k due) (sym count);
      })
      | inr other ↦ (let count = other.1 in record {
        within = omega (arith, within, count);
        so_far = made_same history due n made is.0 is.1 v.so_far (λ same. other.0 (is.2.caller ∙ same)) ∙ ap (λ (k : ℕ). take k due) (sym count);
      })
    ]

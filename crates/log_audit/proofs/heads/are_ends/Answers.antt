use Rattle.std.proofs.Common.{◌≡◌, ◌<◌, ℕ, List, Bool, true, false, map, take, get_or, Some, slice_get, inl, inr, sym, ap, ◌∙◌, subst, arith, lt-ltb, nat_lt}
use Rattle.std.proofs.lemmas.List.{length-map}
use Rattle.std.proofs.lemmas.Option.{slice_get_within}
use Rattle.line_protocol.specs.declared.admission.Cause.{Cause}
use Rattle.log_text.specs.SoundLog.{seatings}
use Rattle.log_audit.proofs.Seated.{agent_is, seated_next, seated_more, seated_same}
use Rattle.log_audit.proofs.heads.are_ends.Goals as goal

pub returns-in-None : goal.returns-in-None
returns-in-None c =
    let low = c.loop-agent-test.true in let k = c.loop-agent.agent-index in let v = c.loop-agent.invariant in
    let is = agent_is c.all-agent-items.result k c.agent-item.result c.all-agent-items.ensures low c.agent-item.is in
    let here : get_or c.all-agent-items.result k c.agent-item.result ≡ k = sym c.agent-item.is ∙ is in
    let xs : List ℕ = map (λ (end : ℕ × Cause). end.0) c.args.ends.now in
    let has : ℕ → Bool = λ a. nat_lt 0 (seatings c.args.verdicts.now a) in
    let no = c.in-None.ensures in
    let passes : has k ≡ true = lt-ltb 0 (seatings c.args.verdicts.now k) (subst (λ (a : ℕ). 0 < seatings c.args.verdicts.now a) here no.0) in
    let within = v.within in
    ((λ t. absurd cc), (λ same. absurd (no.1 (seated_next has xs c.loop-agent.ended k low passes (omega (arith, within, length-map c.args.ends.now (λ (end : ℕ × Cause). end.0))) v.so_far same ∙ ap (λ (a : ℕ). Some a) (sym here)))))

pub loop-agent-preserved : goal.loop-agent-preserved
loop-agent-preserved c =
    let low = c.loop-agent-test.true in let k = c.loop-agent.agent-index in let v = c.loop-agent.invariant in let ended = c.loop-agent.ended in
    let is = agent_is c.all-agent-items.result k c.agent-item.result c.all-agent-items.ensures low c.agent-item.is in
    let here : get_or c.all-agent-items.result k c.agent-item.result ≡ k = sym c.agent-item.is ∙ is in
    let xs : List ℕ = map (λ (end : ℕ × Cause). end.0) c.args.ends.now in
    let has : ℕ → Bool = λ a. nat_lt 0 (seatings c.args.verdicts.now a) in
    let long = length-map c.args.ends.now (λ (end : ℕ × Cause). end.0) in
    let within = v.within in
    elim c.in-Some.ensures [
      | inl own ↦ (let next : slice_get xs ended ≡ Some k = own.1 ∙ ap (λ (a : ℕ). Some a) here in let count = own.2 in
          let passes : has k ≡ true = lt-ltb 0 (seatings c.args.verdicts.now k) (subst (λ (a : ℕ). 0 < seatings c.args.verdicts.now a) here own.0) in
          record { within = omega (arith, slice_get_within xs ended k next, count, long); so_far = ap (λ (n : ℕ). take n xs) count ∙ seated_more has k low passes xs ended next v.so_far })
      | inr other ↦ (let count = other.1 in
          let fails : has k ≡ false = ap (nat_lt 0) (sym (ap (seatings c.args.verdicts.now) here) ∙ other.0) in
          record { within = omega (arith, within, count); so_far = ap (λ (n : ℕ). take n xs) count ∙ seated_same has k low fails xs ended v.so_far })
    ]

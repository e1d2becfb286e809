use Rattle.std.proofs.Common.{◌≡◌, ℕ, ◌+◌, ◌<◌, List, length, get_or, ap, sym, ◌∙◌, arith}
use Rattle.std.specs.List.{enumerate_from}
use Rattle.std.proofs.lemmas.List.FromFn.{length-enumerate_from, get_or-enumerate_from}
use Rattle.line_protocol.specs.declared.admission.Verdict.{Verdict}
use Rattle.log_text.specs.LogText.{link_line}
use Rattle.game_log.proofs.Writing.{gathered_next, gathered_all, failed_next}
use Rattle.game_log.proofs.head_part.write_links.Goals as goal

-- a verdict and its place
numbered : (verdicts : List Verdict) (i : ℕ) (verdict : Verdict) → i < length verdicts → verdict ≡ get_or verdicts i verdict → get_or (enumerate_from 0 verdicts) i (i, verdict) ≡ (i, verdict)
numbered verdicts i verdict lt is =
    let place : 0 + i ≡ i = omega arith in
    get_or-enumerate_from 0 verdicts i (i, verdict) lt ∙ ap {B = ℕ × Verdict} (λ (k : ℕ). (k, get_or verdicts i verdict)) place ∙ ap {B = ℕ × Verdict} (λ (v : Verdict). (i, v)) (sym is)

pub returns-in_err-add : goal.returns-in_err-add
returns-in_err-add g c =
    let verdicts = c.args.verdicts.now in
    let place = c.loop-place.place in
    let verdict = c.index-verdicts-place.result in
    failed_next link_line (enumerate_from 0 verdicts) place (place, verdict) _ _ _ _ _ _ _ c.from_residual.result
    (omega (arith, length-enumerate_from 0 verdicts)) (numbered verdicts place verdict (omega arith) c.index-verdicts-place.is)
    (c.as_slice.ensures.value ∙ c.link_line.ensures) c.loop-place.invariant c.in_err-add.ensures c.from_residual.ensures.0

pub loop-place-preserved : goal.loop-place-preserved
loop-place-preserved g c =
    let verdicts = c.args.verdicts.now in
    let place = c.loop-place.place in
    let verdict = c.index-verdicts-place.result in
    gathered_next link_line (enumerate_from 0 verdicts) place (place, verdict) _ _ _ _ _ _ _
    (omega (arith, length-enumerate_from 0 verdicts)) (numbered verdicts place verdict (omega arith) c.index-verdicts-place.is)
    (c.as_slice.ensures.value ∙ c.link_line.ensures) c.loop-place.invariant c.in_ok-add.ensures

pub returns : goal.returns
returns g c = gathered_all link_line (enumerate_from 0 c.args.verdicts.now) c.loop-place.place _ _ _ _ (omega (arith, length-enumerate_from 0 c.args.verdicts.now)) c.loop-place.invariant

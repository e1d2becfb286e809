use Rattle.std.proofs.Common.{◌≡◌, ◌++◌, [], ◌∷◌, ◌-◌, ◌+◌, cond, not, sym, ap, ◌∙◌, arith}
use Rattle.text_forms.specs.Steps.{repeat}
use Rattle.text_forms.proofs.Repeats.{with_front}
use Rattle.log_reader.proofs.Refusals.{was_read, is_read, fault_on}
use Rattle.log_reader.proofs.Sequences.{at_start, one_more, one_bad, all_read}
use Rattle.log_reader.proofs.parts.read_all.Goals as goal

pub loop-number-init : goal.loop-number-init
loop-number-init g c = at_start c.new-values.result.items c.args.count (λ n. repeat n 0 (g.P.LogPart.gives c.args.part.now) c.args.lines) c.new-values.ensures.items

pub returns-in_err-value : goal.returns-in_err-value
returns-in_err-value g c =
    let l = c.loop-number in
    let step = g.P.LogPart.gives c.args.part.now in
    fault_on _ c.from_residual.result c.in_err-value.field-0.0 (step l.number l.left) (repeat c.args.count 0 step c.args.lines) c.from_residual.ensures.1 c.in_err-value.ensures
    (λ bad h. sym l.invariant ∙ one_bad step l.values.items c.args.count l.number l.left bad (omega arith) h)

pub loop-number-preserved : goal.loop-number-preserved
loop-number-preserved g c =
    let l = c.loop-number in
    let step = g.P.LogPart.gives c.args.part.now in
    let w = c.in_ok-value in
    let more = l.values.items ++ (w.value ∷ []) in
    let pushed : c.push.new.self.items ≡ more = c.push.ensures.items ∙ ap (λ b. cond b more l.values.items) (c.is_err.ensures.negation ∙ ap not c.if-is_err.false) in
    ap (λ values. with_front values (repeat (c.args.count - (l.number + 1)) (l.number + 1) step w.after)) pushed
    ∙ one_more step l.values.items c.args.count l.number l.left w.value w.after (omega arith) (was_read (step l.number l.left) (w.value, w.after) w.ensures) ∙ l.invariant

pub returns : goal.returns
returns g c =
    let l = c.loop-number in
    let step = g.P.LogPart.gives c.args.part.now in
    is_read (repeat c.args.count 0 step c.args.lines) (l.values.items, l.left) (sym l.invariant ∙ all_read step l.values.items c.args.count l.number l.left (omega arith))

use Rattle.std.proofs.Common.{◌≡◌, ◌++◌, [], ◌∷◌, ◌-◌, ◌+◌, cond, not, sym, ap, ◌∙◌, arith}
use Rattle.log_reader.specs.LogReading.{as_long_as}
use Rattle.text_forms.proofs.Repeats.{with_front}
use Rattle.log_reader.proofs.Refusals.{was_read, is_read, line_on, fault_on}
use Rattle.log_reader.proofs.Sequences.{at_start, goes_on, goes_wrong, stops, full, one_over}
use Rattle.log_reader.proofs.parts.read_while.Goals as goal

pub loop-number-init : goal.loop-number-init
loop-number-init g c = at_start c.new-values.result.items c.args.most (λ n. as_long_as c.args.word.now (g.P.LogPart.gives c.args.part.now) n 0 c.args.lines) c.new-values.ensures.items

pub returns-then-not-begins : goal.returns-then-not-begins
returns-then-not-begins g c =
    let l = c.loop-number in
    let step = g.P.LogPart.gives c.args.part.now in
    is_read (as_long_as c.args.word.now step c.args.most 0 c.args.lines) (l.values.items, l.left)
    (sym l.invariant ∙ stops step l.values.items c.args.word.now c.args.most l.number l.left (omega arith) (sym c.begins.ensures ∙ c.if-not-begins.true))

pub returns-in_err-value : goal.returns-in_err-value
returns-in_err-value g c =
    let l = c.loop-number in
    let step = g.P.LogPart.gives c.args.part.now in
    fault_on _ c.from_residual.result c.in_err-value.field-0.0 (step l.number l.left) (as_long_as c.args.word.now step c.args.most 0 c.args.lines) c.from_residual.ensures.1 c.in_err-value.ensures
    (λ bad h. sym l.invariant ∙ goes_wrong step l.values.items c.args.word.now c.args.most l.number l.left bad (omega arith) (sym c.begins.ensures ∙ c.if-not-begins.false) h)

pub loop-number-preserved : goal.loop-number-preserved
loop-number-preserved g c =
    let l = c.loop-number in
    let step = g.P.LogPart.gives c.args.part.now in
    let w = c.in_ok-value in
    let more = l.values.items ++ (w.value ∷ []) in
    let pushed : c.push.new.self.items ≡ more = c.push.ensures.items ∙ ap (λ b. cond b more l.values.items) (c.is_err.ensures.negation ∙ ap not c.if-is_err.false) in
    ap (λ values. with_front values (as_long_as c.args.word.now step (c.args.most - (l.number + 1)) (l.number + 1) w.after)) pushed
    ∙ goes_on step l.values.items c.args.word.now c.args.most l.number l.left w.value w.after (omega arith) (sym c.begins.ensures ∙ c.if-not-begins.false) (was_read (step l.number l.left) (w.value, w.after) w.ensures) ∙ l.invariant

pub returns-in_err-left : goal.returns-in_err-left
returns-in_err-left g c =
    let l = c.loop-number in
    let step = g.P.LogPart.gives c.args.part.now in
    line_on _ c.from_residual-in_err-left.result c.in_err-left.field-0.0 (as_long_as c.args.word.now step c.args.most 0 c.args.lines) c.from_residual-in_err-left.ensures.1
    (sym l.invariant ∙ one_over step l.values.items c.args.word.now c.args.most l.number l.left c.in_err-left.field-0.0 (omega arith) (sym c.in_err-left.ensures))

pub returns : goal.returns
returns g c =
    let l = c.loop-number in
    let step = g.P.LogPart.gives c.args.part.now in
    is_read (as_long_as c.args.word.now step c.args.most 0 c.args.lines) (l.values.items, c.in_ok-left.left)
    (sym l.invariant ∙ full step l.values.items c.args.word.now c.args.most l.number l.left c.in_ok-left.left (omega arith) (sym c.in_ok-left.ensures))

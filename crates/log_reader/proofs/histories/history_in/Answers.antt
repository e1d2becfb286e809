use Rattle.std.proofs.Common.{◌≡◌, ◌++◌, ◌∷◌, [], length-append, sym, ◌∙◌, arith}
use Rattle.log_reader.specs.LogReading.{entry_in, history_in}
use Rattle.log_reader.proofs.HistoryCases.{no_count, history_is, if_done}
use Rattle.log_reader.proofs.Refusals.{is_read, line_on}
use Rattle.log_reader.proofs.Sequences.{one_more, one_bad, all_read}
use Rattle.log_reader.proofs.histories.history_in.Goals as goal

pub returns-in_err-count : goal.returns-in_err-count
returns-in_err-count c =
    let bad = c.in_err-count.field-0.0 in
    line_on _ c.from_residual.result bad (history_in c.args.good c.args.lines) c.from_residual.ensures.1 (no_count c.args.good c.args.lines bad (sym c.in_err-count.ensures.same))

pub returns-in_err-entry : goal.returns-in_err-entry
returns-in_err-entry c =
    let bad = c.in_err-entry.field-0.0 in
    let w = c.in_ok-count in
    let l = c.loop-i in
    line_on _ c.from_residual-in_err-entry.result bad (history_in c.args.good c.args.lines) c.from_residual-in_err-entry.ensures.1
    (history_is c.args.good c.args.lines w.count w.left _ (sym w.ensures.same) (sym l.invariant.same ∙ one_bad (λ _. entry_in c.args.good) l.history w.count l._i l.left bad (omega arith) (sym c.in_err-entry.ensures)))

pub loop-i-preserved : goal.loop-i-preserved
loop-i-preserved c =
    let l = c.loop-i in
    let w = c.in_ok-entry in
    let count = l.invariant.count in
    let pushed : c.push.new.self ≡ l.history ++ w.entry ∷ [] = if_done c.push.result (sym c.is_err.ensures.value ∙ c.if-is_err.false) c.push.ensures.pushed in
    record {
      same = rw pushed (one_more (λ _. entry_in c.args.good) l.history c.in_ok-count.count l._i l.left w.entry w.after (omega arith) (sym w.ensures) ∙ l.invariant.same);
      count = rw pushed (simp length-append (omega (arith, count)));
    }

pub returns : goal.returns
returns c =
    let w = c.in_ok-count in
    let l = c.loop-i in
    is_read (history_in c.args.good c.args.lines) (l.history, l.left)
    (history_is c.args.good c.args.lines w.count w.left _ (sym w.ensures.same) (sym l.invariant.same ∙ all_read (λ _. entry_in c.args.good) l.history w.count l._i l.left (omega arith)))

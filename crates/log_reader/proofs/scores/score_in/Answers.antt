use Rattle.std.proofs.Common.{rules, sym, SFits, w64}
use Rattle.std.proofs.lemmas.Int.{to_z-of_z}
use Rattle.bound_cert.specs.Views.{tree_of}
use Rattle.log_reader.specs.LogReading.{cert_in, score_in}
use Rattle.log_reader.proofs.PartCases.{no_score, no_packages, no_cert, score_is}
use Rattle.log_reader.proofs.Refusals.{was_read, is_read, line_on, fault_on}
use Rattle.log_reader.proofs.scores.score_in.Goals as goal

pub returns-in_err-best : goal.returns-in_err-best
returns-in_err-best c =
    let bad = c.in_err-best.field-0.0 in
    line_on _ c.from_residual.result bad (score_in c.args.agent c.args.lines) c.from_residual.ensures.1 (no_score c.args.agent c.args.lines bad (sym c.in_err-best.ensures))

pub returns-in_err-allocation : goal.returns-in_err-allocation
returns-in_err-allocation c =
    let s = c.in_ok-best in
    let bad = c.in_err-allocation.field-0.0 in
    line_on _ c.from_residual-in_err-allocation.result bad (score_in c.args.agent c.args.lines) c.from_residual-in_err-allocation.ensures.1
    (no_packages c.args.agent c.args.lines ((s.best, s.cash, s.short, s.score), s.left) (sym s.ensures) bad (sym c.in_err-allocation.ensures))

pub returns-in_err-cert : goal.returns-in_err-cert
returns-in_err-cert c =
    let s = c.in_ok-best in
    let p = c.in_ok-allocation in
    fault_on _ c.from_residual-in_err-cert.result c.in_err-cert.field-0.0 (cert_in c.args.agent p.left) (score_in c.args.agent c.args.lines) c.from_residual-in_err-cert.ensures.1 c.in_err-cert.ensures
    (no_cert c.args.agent c.args.lines ((s.best, s.cash, s.short, s.score), s.left) (sym s.ensures) (p.allocation, p.left) (sym p.ensures))

pub returns : goal.returns
returns c =
    let s = c.in_ok-best in
    let p = c.in_ok-allocation in
    let t = c.in_ok-cert in
    let cert = was_read (cert_in c.args.agent p.left) (tree_of t.cert.root, t.left) t.ensures in
    let read = score_is c.args.agent c.args.lines ((s.best, s.cash, s.short, s.score), s.left) (sym s.ensures) (p.allocation, p.left) (sym p.ensures) (tree_of t.cert.root, t.left) cert in
    let cash : SFits w64 s.cash = search rules in
    let score : SFits w64 s.score = search rules in
    rw (to_z-of_z w64 s.cash cash, to_z-of_z w64 s.score score) (is_read (score_in c.args.agent c.args.lines) _ read)

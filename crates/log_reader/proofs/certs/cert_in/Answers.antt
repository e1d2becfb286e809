use Rattle.std.proofs.Common.{◌≡◌, Ok, Err, sym, ap, ◌∙◌}
use Rattle.bound_cert.specs.Reading.{cert_of}
use Rattle.bound_cert.specs.Views.{tree_of}
use Rattle.log_reader.specs.{cert_by, cert_in, or_log_fault}
use Rattle.log_reader.proofs.CertCases.{no_line, no_count, counted, no_block, block_bad, block_read}
use Rattle.log_reader.proofs.Refusals.{was_read, is_read, line_on, fault_on}
use Rattle.log_reader.proofs.certs.cert_in.Goals as goal

pub returns-in_err-line : goal.returns-in_err-line
returns-in_err-line c =
    let bad = c.in_err-line.field-0.0 in
    line_on _ c.from_residual.result bad (cert_in c.args.agent c.args.lines) c.from_residual.ensures.1 (no_line c.args.agent c.args.lines bad (sym c.in_err-line.ensures.value))

pub returns-in_err-count : goal.returns-in_err-count
returns-in_err-count c =
    let bad = c.in_err-count.field-0.0 in
    let w = c.in_ok-line in
    line_on _ c.from_residual-in_err-count.result bad (cert_in c.args.agent c.args.lines) c.from_residual-in_err-count.ensures.1
    (no_count c.args.agent c.args.lines w.line w.left bad (sym w.ensures.value) (counted c.args.agent c.number-number.result c.bytes.result.now w.line c.count_of.result (Err bad) c.number-number.ensures c.bytes.ensures c.count_of.ensures c.in_err-count.ensures))

pub returns-in-None : goal.returns-in-None
returns-in-None c =
    let w = c.in_ok-line in
    let counts = counted c.args.agent c.number-number.result c.bytes.result.now w.line c.count_of.result (Ok c.in_ok-count.count) c.number-number.ensures c.bytes.ensures c.count_of.ensures c.in_ok-count.ensures in
    rw c.number-number.ensures (ap or_log_fault (no_block c.args.agent c.args.lines w.line w.left c.in_ok-count.count (sym w.ensures.value) counts c.in-None.ensures))

pub returns-in_err-cert-in-Some : goal.returns-in_err-cert-in-Some
returns-in_err-cert-in-Some c =
    let w = c.in_ok-line in
    let counts = counted c.args.agent c.number-number.result c.bytes.result.now w.line c.count_of.result (Ok c.in_ok-count.count) c.number-number.ensures c.bytes.ensures c.count_of.ensures c.in_ok-count.ensures in
    let block = c.in-Some.block.now in
    fault_on _ c.from_residual-in_err-cert-in-Some.result c.in_err-cert-in-Some.field-0.0 (cert_by c.number-number.result (cert_of block)) (cert_in c.args.agent c.args.lines) c.from_residual-in_err-cert-in-Some.ensures.1
    c.in_err-cert-in-Some.ensures
    (λ bad e. block_bad c.args.agent c.args.lines w.line w.left c.in_ok-count.count (sym w.ensures.value) counts (block, c.in-Some.after) bad c.in-Some.ensures (ap (λ n. cert_by n (cert_of block)) (sym c.number-number.ensures) ∙ e))

pub returns-in_ok-cert-in-Some : goal.returns-in_ok-cert-in-Some
returns-in_ok-cert-in-Some c =
    let w = c.in_ok-line in
    let counts = counted c.args.agent c.number-number.result c.bytes.result.now w.line c.count_of.result (Ok c.in_ok-count.count) c.number-number.ensures c.bytes.ensures c.count_of.ensures c.in_ok-count.ensures in
    let block = c.in-Some.block.now in
    let tree = tree_of c.in_ok-cert-in-Some.cert.root in
    let read : cert_by w.line.number (cert_of block) ≡ Ok tree = ap (λ n. cert_by n (cert_of block)) (sym c.number-number.ensures) ∙ was_read (cert_by c.number-number.result (cert_of block)) tree c.in_ok-cert-in-Some.ensures in
    is_read (cert_in c.args.agent c.args.lines) (tree, c.in-Some.after)
    (block_read c.args.agent c.args.lines w.line w.left c.in_ok-count.count (sym w.ensures.value) counts (block, c.in-Some.after) tree c.in-Some.ensures read)

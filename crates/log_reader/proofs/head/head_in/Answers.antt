use Rattle.std.proofs.Common.{Bool, Ok, sym, ap}
use Rattle.line_protocol.specs.Heads.{Play}
use Rattle.log_reader.specs.LogReading.{served_in, head_by, head_in}
use Rattle.log_reader.proofs.PartCases.{no_title, no_kind, head_is}
use Rattle.log_reader.proofs.Refusals.{is_read, line_on}
use Rattle.log_reader.proofs.head.head_in.Goals as goal

pub returns-in_err-left : goal.returns-in_err-left
returns-in_err-left c =
    let bad = c.in_err-left.field-0.0 in
    line_on _ c.from_residual.result bad (head_in c.args.lines) c.from_residual.ensures.1 (no_title c.args.lines bad (sym c.in_err-left.ensures))

pub returns-in_err-served : goal.returns-in_err-served
returns-in_err-served c =
    let bad = c.in_err-served.field-0.0 in
    line_on _ c.from_residual-in_err-served.result bad (head_in c.args.lines) c.from_residual-in_err-served.ensures.1 (no_kind c.args.lines (tt, c.in_ok-left.left) (sym c.in_ok-left.ensures) bad (sym c.in_err-served.ensures))

pub returns-then-served : goal.returns-then-served
returns-then-served c =
    let kind = c.in_ok-served in
    let read = head_is c.args.lines (tt, c.in_ok-left.left) (sym c.in_ok-left.ensures) (kind.served, kind.left) (served_in kind.left) (sym kind.ensures) (ap (λ (b : Bool). head_by b kind.left) c.if-served.true) in
    rw read c.served_in.ensures

pub returns-else-served : goal.returns-else-served
returns-else-served c =
    let kind = c.in_ok-served in
    is_read (head_in c.args.lines) (Play, kind.left)
    (head_is c.args.lines (tt, c.in_ok-left.left) (sym c.in_ok-left.ensures) (kind.served, kind.left) (Ok (Play, kind.left)) (sym kind.ensures) (ap (λ (b : Bool). head_by b kind.left) c.if-served.false))

use Rattle.std.proofs.Common.{ℕ, sym, arith, take, length, length-set}
use Rattle.std.proofs.lemmas.Result.{err_from_is_err_and}
use Rattle.text_forms.proofs.Repeats.{ends, reads_one, reads_all}
use Rattle.log_reader.specs.{package_of, line_by}
use Rattle.log_reader.proofs.scores.packages_in.Goals as goal

pub returns-in_err-package : goal.returns-in_err-package
returns-in_err-package c =
    let l = c.loop-client in
    let p = err_from_is_err_and c.from_residual.result c.from_residual.ensures.1 in
    let count = l.invariant.count in
    rw (p.1, p.2) (sym (ends (λ (client : ℕ). line_by (package_of c.args.agent client)) (take l.client l.packages) (length l.packages) l.client l.left c.in_err-package.field-0.0 _ (omega (arith, count)) c.in_err-package.ensures l.invariant.left))

pub loop-client-preserved : goal.loop-client-preserved
loop-client-preserved c =
    let l = c.loop-client in
    let w = c.in_ok-package in
    let count = l.invariant.count in
    record {
      count = rw length-set count;
      left = rw c.from.ensures (reads_one (λ (client : ℕ). line_by (package_of c.args.agent client)) l.packages l.client l.left w.package w.after _ (omega (arith, count)) w.ensures l.invariant.left);
    }

pub returns : goal.returns
returns c =
    let l = c.loop-client in
    let count = l.invariant.count in
    sym (reads_all (λ (client : ℕ). line_by (package_of c.args.agent client)) l.packages l.client l.left _ (omega (arith, count)) l.invariant.left)

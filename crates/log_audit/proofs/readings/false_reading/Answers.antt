use Rattle.std.proofs.Common.{◌≡◌, length, take, slice_get, Some, refl, subst, below_more, arith}
use Rattle.std.proofs.lemmas.Option.{slice_get_read, slice_get_within}
use Rattle.trade_ledger.specs.declared.cash_calls.CashEntry.{CashEntry}
use Rattle.log_audit.specs.Flaws.{IsTrueReading}
use Rattle.log_audit.proofs.Positions.{same_at}
use Rattle.log_audit.proofs.Totals.{totals_more, small_more}
use Rattle.log_audit.proofs.readings.false_reading.Goals as goal

pub loop-position-preserved : goal.loop-position-preserved
loop-position-preserved c =
    let v = c.loop-position.invariant in let n = c.loop-position.position in let e : CashEntry = c.index-cash-position.result in let cash = c.args.cash.now in
    let at : slice_get cash n ≡ Some e = slice_get_read cash (length cash) n e refl c.loop-position-test.true c.index-cash-position.is in
    let answer = (c.reads_total.ensures.answer (take n cash) v.totals).0 c.if-not-reads_total.false in
    record {
      right = below_more _ _ v.right (λ x there. subst (λ (y : CashEntry). IsTrueReading (take n cash) y y.call) (same_at cash n e x at there) answer);
      totals = totals_more cash n e at _ _ v.totals c.reads_total.ensures.totals;
      small = small_more cash n e at v.small c.reads_total.ensures.small;
    }

pub returns : goal.returns
returns c = λ n e at. let inside = slice_get_within c.args.cash.now n e at in let past = c.loop-position-test.false in c.loop-position.invariant.right n (omega (arith, inside, past)) e at

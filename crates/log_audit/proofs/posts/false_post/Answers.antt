use Rattle.std.proofs.Common.{◌≡◌, List, length, take, get_or, slice_get, Some, refl, sym, ap, ◌∙◌, subst, arith, below_more}
use Rattle.std.proofs.lemmas.Option.{slice_get_read, slice_get_within}
use Rattle.log_audit.specs.{CashEntry, logged_history, IsDuePost, AreNamed}
use Rattle.log_audit.proofs.Positions.{take_at, same_at}
use Rattle.log_audit.proofs.posts.false_post.Goals as goal

pub overflow_cast-result : goal.overflow_cast-result
overflow_cast-result c =
    let few = c.cash-entry-items.ensures.whole.few_cash in let inside = c.loop-position-test.true in let long = ap (λ (l : List CashEntry). length l) c.cash-entry-items.ensures.value in
    record { fits = omega (arith, few, inside, long) }

pub returns-then-not-is_due-clause-lowest : goal.returns-then-not-is_due-clause-lowest
returns-then-not-is_due-clause-lowest c =
    let v = c.loop-position.invariant in let n = c.loop-position.position in let e : CashEntry = c.entry-item.result in let cash = c.args.log.now.cash in
    let is : e ≡ get_or cash n e = c.entry-item.is ∙ ap (λ (l : List CashEntry). get_or l n e) c.cash-entry-items.ensures.value in
    let inside = c.loop-position-test.true in
    let at : slice_get cash n ≡ Some e = slice_get_read cash (length cash) n e refl (omega (arith, inside, ap (λ (l : List CashEntry). length l) c.cash-entry-items.ensures.value)) is in
    ((λ free. let yes = (c.is_due.ensures.answer (take n cash) v.named).1 (free e at) in let no = c.if-not-is_due.true in absurd cc), v.due)

pub loop-position-preserved : goal.loop-position-preserved
loop-position-preserved c =
    let v = c.loop-position.invariant in let n = c.loop-position.position in let e : CashEntry = c.entry-item.result in let cash = c.args.log.now.cash in
    let is : e ≡ get_or cash n e = c.entry-item.is ∙ ap (λ (l : List CashEntry). get_or l n e) c.cash-entry-items.ensures.value in
    let inside = c.loop-position-test.true in
    let at : slice_get cash n ≡ Some e = slice_get_read cash (length cash) n e refl (omega (arith, inside, ap (λ (l : List CashEntry). length l) c.cash-entry-items.ensures.value)) is in
    let answer = (c.is_due.ensures.answer (take n cash) v.named).0 c.if-not-is_due.false in
    record {
      due = below_more _ _ v.due (λ x there. subst (λ (y : CashEntry). IsDuePost (logged_history c.args.log.now) (take n cash) y.caller y.call) (same_at cash n e x at there) answer);
      named = subst (λ (h : List CashEntry). AreNamed h c.is_due.new.places) (sym (take_at cash n e at)) (c.is_due.ensures.named (take n cash) v.named c.if-not-is_due.false);
    }

pub returns-clause-lowest : goal.returns-clause-lowest
returns-clause-lowest c = λ n e at.
    let inside = slice_get_within c.args.log.now.cash n e at in let past = c.loop-position-test.false in
    c.loop-position.invariant.due n (omega (arith, inside, past, ap (λ (l : List CashEntry). length l) c.cash-entry-items.ensures.value)) e at

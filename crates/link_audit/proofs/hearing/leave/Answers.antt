use Rattle.std.proofs.Common.{Bool, refl, sym, subst}
use Rattle.link_audit.specs.{subject_of, DiffersAfter}
use Rattle.link_audit.proofs.hearing.leave.Goals as goal

pub returns-in-None-clause-left : goal.returns-in-None-clause-left
returns-in-None-clause-left c = λ boards. (c.if-more.false, (c.first_left.ensures.none boards).0 c.in-None.is)

pub returns-in-None-clause-how : goal.returns-in-None-clause-how
returns-in-None-clause-how c = λ boards. (refl, c.if-more.false, (c.first_left.ensures.none boards).0 c.in-None.is)

pub returns-in-Some-clause-left : goal.returns-in-Some-clause-left
returns-in-Some-clause-left c = λ boards more over. let none = (c.first_left.ensures.none boards).1 over in let some = c.in-Some.is in absurd cc

pub returns-in-Some-clause-how : goal.returns-in-Some-clause-how
returns-in-Some-clause-how c = λ boards.
    subst (λ (b : Bool). DiffersAfter (subject_of c.args.log.now boards c.args.agent) c.args.places.now c.args.lines c.in-Some.left b) (sym c.if-more.false)
    (c.in-Some.ensures.lowest boards)

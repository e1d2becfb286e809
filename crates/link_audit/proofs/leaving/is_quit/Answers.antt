use Rattle.link_audit.specs.{Dialect}
use Rattle.link_audit.proofs.Quitting.{long_stays, quits_so}
use Rattle.link_audit.proofs.leaving.is_quit.Goals as goal

pub returns-then-line : goal.returns-then-line
returns-then-line g c =
    let dialect : Dialect = g.D.Dialect.form c.args.dialect.now in
    ((λ never. absurd cc), (λ is. absurd (long_stays dialect c.args.line.now c.if-line.true is)))

pub returns : goal.returns
returns g c =
    let dialect : Dialect = g.D.Dialect.form c.args.dialect.now in
    let so = quits_so dialect c.args.line.now c.in_ok-asked.asked c.if-line.false c.in_ok-asked.ensures.may c.in_ok-asked.ensures.only in
    ((λ is. so.0 (c.is_leaving.ensures.0 is)), (λ is. c.is_leaving.ensures.1 (so.1 is)))

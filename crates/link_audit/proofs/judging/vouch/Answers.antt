use Rattle.link_audit.proofs.Judged.{judged, unjudged}
use Rattle.link_audit.proofs.judging.vouch.Goals as goal

pub returns-then-has_cause_for : goal.returns-then-has_cause_for
returns-then-has_cause_for g c =
    let found = c.in_ok-found.found in
    let j = judged c.args.game.now (g.D.Dialect.form c.args.dialect.now) c.args.log.now c.args.asked.now c.args.said.now found.ending c.in_ok-found.ensures.ending found.vouching c.in_ok-found.ensures.lines (c.has_cause_for.ensures.0 c.if-has_cause_for.true) in
    record { yes = j.yes; whole = j.whole; numbers = j.numbers; difference = j.difference }

pub returns-else-has_cause_for : goal.returns-else-has_cause_for
returns-else-has_cause_for g c =
    let found = c.in_ok-found.found in
    let j = unjudged c.args.game.now (g.D.Dialect.form c.args.dialect.now) c.args.log.now c.args.asked.now c.args.said.now found.ending c.in_ok-found.ensures.ending found.vouching c.in_ok-found.ensures.lines
    (λ has. let is = c.has_cause_for.ensures.1 has in absurd cc) in
    record { yes = j.yes; whole = j.whole; numbers = j.numbers; difference = j.difference }

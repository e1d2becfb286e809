use Rattle.std.proofs.Common.{ℕ, List, [], sym, subst}
use Rattle.link_audit.specs.{TooLong, LineGot, Dialect, MayBeReadAs, FitsReply, IsAsked, IsStep, subject_of}
use Rattle.link_audit.proofs.Steps.{step_of, long_taken, long_stuck, long_line, read_step}
use Rattle.link_audit.proofs.stepping.step_line.Goals as goal

pub returns-then-line : goal.returns-then-line
returns-then-line g c =
    let s = subject_of c.args.log.now c.args.boards.now c.args.agent in let from = c.args.places.now in
    let dialect : Dialect = g.D.Dialect.form c.args.dialect.now in
    let may_answer = MayBeReadAs (g.D.Dialect.form c.args.dialect.now).may_answer c.args.heard in
    subst (λ (l : LineGot × List ℕ). IsStep (IsAsked dialect c.args.heard l) (FitsReply (g.D.Dialect.form c.args.dialect.now) c.args.heard c.args.reply.now) s from from c.step_if.result)
    (sym (long_line dialect c.args.heard c.args.reply.now c.args.line.now c.if-line.true))
    (step_of s from (IsAsked dialect c.args.heard (TooLong, [])) (FitsReply (g.D.Dialect.form c.args.dialect.now) c.args.heard c.args.reply.now) from c.fits.result c.step_if.result
    (λ is. long_taken s from (FitsReply (g.D.Dialect.form c.args.dialect.now) c.args.heard c.args.reply.now) may_answer (c.fits.ensures.0 is))
    (λ is. long_stuck s from (FitsReply (g.D.Dialect.form c.args.dialect.now) c.args.heard c.args.reply.now) may_answer (λ fit. absurd (let both = c.fits.ensures.1 fit in cc)))
    c.step_if.ensures)

pub returns : goal.returns
returns g c =
    let s = subject_of c.args.log.now c.args.boards.now c.args.agent in
    read_step (g.D.Dialect.form c.args.dialect.now) c.args.heard c.args.reply.now c.args.line.now s c.args.places.now c.step_asked.new.places c.step_asked.result
    c.in_ok-asked.asked c.if-line.false c.in_ok-asked.ensures.may c.in_ok-asked.ensures.only c.step_asked.ensures

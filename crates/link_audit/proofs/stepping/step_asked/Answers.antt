use Rattle.std.proofs.Common.{◌≡◌, Err, sym, subst, Result}
use Rattle.link_audit.specs.{Request, RequestFault, Asks, FitsReply, IsStep, subject_of}
use Rattle.link_audit.proofs.Steps.{step_of, fault_taken, fault_stuck}
use Rattle.link_audit.proofs.stepping.step_asked.Goals as goal

pub returns-in-Err : goal.returns-in-Err
returns-in-Err g c =
    let s = subject_of c.args.log.now c.args.boards.now c.args.agent in let from = c.args.places.now in let fault = c.in-Err.fault in
    subst (λ (a : Result Request RequestFault). IsStep (λ item. item ≡ Asks a) (FitsReply (g.D.Dialect.form c.args.dialect.now) c.args.heard c.args.reply.now) s from from c.step_if.result) (sym c.in-Err.is)
    (step_of s from (λ item. item ≡ Asks (Err fault)) (FitsReply (g.D.Dialect.form c.args.dialect.now) c.args.heard c.args.reply.now) from c.fits.result c.step_if.result
    (λ is. fault_taken s from (FitsReply (g.D.Dialect.form c.args.dialect.now) c.args.heard c.args.reply.now) fault (c.fits.ensures.0 is))
    (λ is. fault_stuck s from (FitsReply (g.D.Dialect.form c.args.dialect.now) c.args.heard c.args.reply.now) fault (λ fit. absurd (let both = c.fits.ensures.1 fit in cc)))
    c.step_if.ensures)

use Rattle.std.proofs.Common.{◌≡◌, ◌↔◌, ℕ, List, Contains, IsTrue, sym, ap, ◌∙◌, subst}
use Rattle.line_protocol.specs.Heads.{head_of}
use Rattle.link_audit.specs.{Cause, MayEndBy, logged_ends}
use Rattle.link_audit.proofs.causes.has_cause.Goals as goal

pub returns-in-Serve : goal.returns-in-Serve
returns-in-Serve c =
    let ends : logged_ends c.args.log.now.head ≡ c.in-Serve.ends.items = ap logged_ends (sym c.head.ensures.value ∙ ap head_of c.in-Serve.is) in
    subst (λ (l : List (ℕ × Cause)). IsTrue c.has_end.result ↔ ((cause : Cause) × Contains l (c.args.agent, cause) × MayEndBy cause c.args.ending.now c.args.asked.now))
    (c.deref.ensures.value ∙ sym ends) c.has_end.ensures

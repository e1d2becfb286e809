use Rattle.std.proofs.Common.{arith, Some, None}
use Rattle.log_audit.specs.declared.findings.Flaw.TheVariants as flaws
use Rattle.log_audit.specs.Auditing.{place_at}
use Rattle.log_audit.proofs.Parting.{longer, none_before, post_found, posts_free, unposted_found, unposted_free}
use Rattle.log_audit.proofs.auditing.post_flaw.Goals as goal

pub false_post-requires-clause-none : goal.false_post-requires-clause-none
false_post-requires-clause-none c = λ good position low few. c.in_ok-places.ensures (place_at good position)

pub returns-in-Some : goal.returns-in-Some
returns-in-Some c = λ game. longer game c.args.log.now 3 4 5 (flaws.Post c.in-Some.position) (omega arith) (post_found game c.args.log.now c.in-Some.position c.in-Some.ensures.lowest)

pub returns-in-Some-unposted : goal.returns-in-Some-unposted
returns-in-Some-unposted c = λ game.
    none_before game c.args.log.now 3 4 5 (Some (flaws.Unposted _ _)) (posts_free game c.args.log.now c.in_default.ensures.lowest) (omega arith) (unposted_found game c.args.log.now _ _ c.in-Some-unposted.ensures)

pub returns : goal.returns
returns c = λ game. none_before game c.args.log.now 3 4 5 None (posts_free game c.args.log.now c.in_default.ensures.lowest) (omega arith) (unposted_free game c.args.log.now c.in-None.ensures)

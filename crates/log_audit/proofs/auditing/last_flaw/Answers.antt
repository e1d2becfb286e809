use Rattle.std.proofs.Common.{arith, Some, None}
use Rattle.log_audit.specs.declared.findings.Flaw.TheVariants as flaws
use Rattle.log_audit.proofs.Parting.{longer, none_before, score_found, scores_free, head_found, head_free}
use Rattle.log_audit.proofs.auditing.last_flaw.Goals as goal

pub returns-in-Some : goal.returns-in-Some
returns-in-Some c = let game = c.args.game.now in let log = c.args.log.now in longer game log 5 6 7 (flaws.Score c.in-Some.agent) (omega arith) (score_found game log c.in-Some.agent c.in-Some.ensures)

pub returns-then-is_sound_head : goal.returns-then-is_sound_head
returns-then-is_sound_head c =
    let game = c.args.game.now in let log = c.args.log.now in
    none_before game log 5 6 7 None (scores_free game log c.in_default.ensures) (omega arith) (head_free game log (c.is_sound_head.ensures.0 c.if-is_sound_head.true))

pub returns-else-is_sound_head : goal.returns-else-is_sound_head
returns-else-is_sound_head c =
    let game = c.args.game.now in let log = c.args.log.now in
    none_before game log 5 6 7 (Some flaws.Head) (scores_free game log c.in_default.ensures) (omega arith)
    (head_found game log (λ sound. let yes = c.is_sound_head.ensures.1 sound in let no = c.if-is_sound_head.false in absurd cc))

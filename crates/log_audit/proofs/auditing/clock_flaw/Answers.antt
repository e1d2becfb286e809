use Rattle.std.proofs.Common.{subst}
use Rattle.log_text.specs.SoundLog.{logged_history}
use Rattle.log_audit.specs.{IsOnSchedule, IsLowestBelow}
use Rattle.log_audit.proofs.Parting.{clock_found, clock_free}
use Rattle.log_audit.proofs.auditing.clock_flaw.Goals as goal

pub returns-in-Some : goal.returns-in-Some
returns-in-Some c =
    let game = c.args.game.now in let log = c.args.log.now in
    clock_found game log c.in-Some.good (subst (IsLowestBelow 28 (λ good. IsOnSchedule game good (logged_history log good))) c.in-Some.is c.in_ok-lowest.ensures)

pub returns-in-None : goal.returns-in-None
returns-in-None c =
    let game = c.args.game.now in let log = c.args.log.now in
    clock_free game log (subst (IsLowestBelow 28 (λ good. IsOnSchedule game good (logged_history log good))) c.in-None.is c.in_ok-lowest.ensures)

use Rattle.log_audit.proofs.Soundness.{sound_from_free, free_from_sound}
use Rattle.log_audit.proofs.law.no_flaw.Goals as goal

pub returns : goal.returns
returns c = λ game log logged. (free_from_sound game log logged, sound_from_free game log logged)

use Rattle.tac_commands.proofs.WrittenLogs.{read_again, says_sound, one_log}
use Rattle.tac_commands.proofs.written_logs.written_log_law.Goals as goal

pub returns-clause-read : goal.returns-clause-read
returns-clause-read c = read_again

pub returns-clause-audited : goal.returns-clause-audited
returns-clause-audited c = λ game log before text ends. says_sound game log ends.sound

pub returns-clause-one : goal.returns-clause-one
returns-clause-one c = one_log c.one_game.ensures

use Rattle.tac_commands.specs.{in_pairs, bytes_of_words}
use Rattle.tac_commands.proofs.TableRuns.{ends_reported, ends_written}
use Rattle.tac_commands.proofs.table_command.table_files.Goals as goal

pub returns-in-Ok : goal.returns-in-Ok
returns-in-Ok g c = ends_written _ _ _ _ _ _ _ c.write_standings.result c.in-Ok.ensures.all c.write_standings.ensures

pub returns-in-Err-Unsound : goal.returns-in-Err-Unsound
returns-in-Err-Unsound g c =
    ends_reported (in_pairs (bytes_of_words c.args.names.now)) (g.F.Files.state c.args.files.now) (g.F.Files.state c.add_pairs.new.files) c.in-Err-Unsound.pair _ _ c.write_unsound.result (rw c.in-Err-Unsound.field-0-is at c.in-Err-Unsound.ensures.fault) (rw c.in-Err-Unsound.field-0-is at c.write_unsound.ensures)

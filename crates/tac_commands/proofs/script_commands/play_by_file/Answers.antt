use Rattle.std.proofs.Common.{ℕ, List, subst, sym}
use Rattle.tac_io.specs.Reading.{IsFile}
use Rattle.tac_commands.proofs.RanScripts.{played}
use Rattle.tac_commands.proofs.script_commands.play_by_file.Goals as goal

pub returns-in-Ok : goal.returns-in-Ok
returns-in-Ok g c =
    let files = g.F.Files.state c.args.files.now in
    let name = c.args.name.now in
    rw c.script_end.ensures (
    played files (g.F.Files.state c.read_bytes.new.files) name c.as_slice.result.now _ _ (subst (λ (bytes : List ℕ). IsFile files.content name bytes) (sym c.as_slice.ensures.value) c.in-Ok.ensures.whole)
    c.in-Ok.ensures.names c.in-Ok.ensures.quiet c.args.game.now c.script_law.ensures c.play.result c.play.ensures
    )

use Rattle.std.proofs.Common.{ℕ, ap, subst, inr, Err}
use Rattle.tac_io.specs.Reading.{IsTooLong}
use Rattle.game_text.specs.declared.fault.GameFault.TheVariants.{TooLong}
use Rattle.tac_commands.proofs.LongFiles.{has_long_fault}
use Rattle.tac_commands.proofs.reading.read_bytes.Goals as goal

pub returns-in-Err-TooLong-clause-unread : goal.returns-in-Err-TooLong-clause-unread
returns-in-Err-TooLong-clause-unread g c =
    let content = (g.F.Files.state c.args.files.now).content in
    let name = c.args.name.now in
    let long = c.in-Err-TooLong.ensures.long (ap Err c.in-Err-TooLong.field-0-is) in
    inr (inr (
      TooLong,
      c.refusal.ensures,
      has_long_fault content c.args.kind name (subst (λ (n : ℕ). IsTooLong content name n) c.most_bytes.ensures long),
      rw c.in-Err-TooLong.field-0-is at c.in-Err-TooLong.ensures.cause,
    ))

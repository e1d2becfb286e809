use Rattle.std.proofs.Common.{ℕ, List, ap, length, arith}
use Rattle.log_text.proofs.SheetsAgain.{shown_of}
use Rattle.game_log.proofs.sheet_part.write_sheet_part.Goals as goal

pub returns-in-Ok-write_all-clause-known : goal.returns-in-Ok-write_all-clause-known
returns-in-Ok-write_all-clause-known g c =
    let long = ap (λ (bytes : List ℕ). length bytes) c.in-Ok.ensures in
    shown_of c.args.sheet.now (omega (arith, long, c.in-Ok.text.ok.0, c.in-Ok.text.small)) c.sheet_known.ensures.count c.sheet_known.ensures.scores

use Rattle.std.proofs.Common.{w64, rules}
use Rattle.std.proofs.lemmas.Int.{to_z-of_z}
use mir.Val.{SFits}
use Rattle.link_audit.proofs.Posting.{reading_of}
use Rattle.link_audit.proofs.cash.amount_read.Goals as goal

pub returns-in-Cash : goal.returns-in-Cash
returns-in-Cash c =
    let fits : SFits w64 c.in-Cash.dollars = search rules in
    rw (to_z-of_z w64 c.in-Cash.dollars fits) (reading_of c.args.entry.now c.requires c.in-Cash.dollars c.in-Cash.is)

use Rattle.std.proofs.Common.{sym}
use Rattle.text_forms.proofs.Parts.{cut_at, uncut}
use Rattle.text_forms.proofs.words.cut.Goals as goal

pub returns-in-None-clause-whole : goal.returns-in-None-clause-whole
returns-in-None-clause-whole c = uncut c.args.separator c.args.bytes.now (sym c.in-None.ensures.value)

pub returns-in-Some-clause-parts : goal.returns-in-Some-clause-parts
returns-in-Some-clause-parts c = cut_at c.args.separator c.args.bytes.now c.in-Some.i (sym c.in-Some.ensures.value)

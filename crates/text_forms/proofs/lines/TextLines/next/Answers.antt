use Rattle.std.proofs.Common.{◌∙◌}
use Rattle.text_forms.proofs.Stepping.{next_is}
use Rattle.text_forms.proofs.lines.TextLines.next.Goals as goal

pub returns-in-Some : goal.returns-in-Some
returns-in-Some c = next_is c.self.inside.skips_comments c.past_comments-number.result.0 c.past_comments-number.result.1.now c.in-Some.line.now c.in-Some.after.now c.args.self c.in-Some.ensures.parts c.past_comments-number.ensures.kept (c.past_comments-number.ensures.same ∙ c.self.view_is)

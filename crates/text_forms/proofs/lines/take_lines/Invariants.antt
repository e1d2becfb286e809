use Rattle.text_forms.proofs.BlockSteps.{AreTaken}
use Rattle.text_forms.proofs.lines.take_lines.Given as goal

abbrev pub invariant-loop-due : goal.invariant-loop-due
invariant-loop-due l = AreTaken l.skips_comments l.text l.count l.rest l.due

abbrev pub decreases-loop-due : goal.decreases-loop-due
decreases-loop-due l = l.due

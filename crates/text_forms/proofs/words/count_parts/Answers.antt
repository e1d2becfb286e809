use Rattle.std.proofs.Common.{sym, ◌∙◌, ap, ◌+◌, ◌==◌}
use Rattle.std.proofs.lemmas.List.Splits.{length-slice_split}
use Rattle.text_forms.proofs.words.count_parts.Goals as goal

pub returns : goal.returns
returns c = ap (λ n. n + 1) c.count.ensures.value ∙ sym (length-slice_split (λ b. b == c.args.separator) c.args.bytes.now)

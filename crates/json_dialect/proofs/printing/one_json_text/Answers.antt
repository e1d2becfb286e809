use Rattle.json_dialect.proofs.ReadBack.{meant_apart}
use Rattle.json_dialect.proofs.printing.one_json_text.Goals as goal

pub returns : goal.returns
returns c = meant_apart

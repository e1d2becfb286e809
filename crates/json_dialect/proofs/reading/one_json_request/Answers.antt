use Rattle.json_dialect.proofs.PlainObjects.{plain_object}
use Rattle.json_dialect.proofs.reading.one_json_request.Goals as goal

pub returns : goal.returns
returns c = plain_object

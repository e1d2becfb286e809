use Rattle.line_protocol.proofs.RequestLaws.{request_if}
use Rattle.line_protocol.proofs.requests.read_request.Goals as goal

pub returns-clause-found : goal.returns-clause-found
returns-clause-found c = request_if c.args.line.now c.request_of.result c.request_of.ensures

use Rattle.line_protocol.proofs.RequestLaws.{formed, no_form, request_is, request_again}
use Rattle.line_protocol.proofs.requests.one_request.Goals as goal

pub returns : goal.returns
returns c = record { formed = formed; syntax = no_form; found = request_is; only = request_again }

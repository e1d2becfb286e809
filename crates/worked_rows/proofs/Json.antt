-- Requests in JSON, and what is read of them.
use Rattle.std.proofs.Common.{◌≡◌, [], ◌∷◌, Ok, Err, refl, pos, codes}
use Rattle.serde_json.specs.Read.{read}
use Rattle.serde_json.proofs.OnLiterals.{serde_json_on_literals}
use Rattle.line_protocol.specs.declared.asking.Request.TheVariants as requests
use Rattle.line_protocol.specs.declared.asking.RequestFault.TheVariants as faults
use Rattle.tac_base.specs.declared.bids.BidFault.TheVariants as bids
use Rattle.json_dialect.specs.JsonRequests.{asked_by_value}

forms_of_a_request : (asked_by_value (read (codes "{\"do\":\"bid\",\"auction\":0,\"points\":[[1,300]]}")) ≡ Ok (requests.Bid 0 (record { units = pos 1; price = 300 } ∷ [])))
    × (asked_by_value (read (codes "{\"do\":\"cash\",\"do\":\"quit\"}")) ≡ Ok requests.Quit)
    × (asked_by_value (read (codes "{\"do\":\"cash\",\"x\":1}")) ≡ Err faults.Syntax)
    × (asked_by_value (read (codes "{\"do\":\"own\",\"auction\":1.0}")) ≡ Err faults.Syntax)
unfolding serde_json_on_literals
forms_of_a_request = (refl, refl, refl, refl)

keys_in_any_order_and_faults : (asked_by_value (read (codes "{\"do\":\"cash\"}")) ≡ Ok requests.Cash)
    × (asked_by_value (read (codes "{\"auction\":0,\"do\":\"quote\"}")) ≡ Ok (requests.Quote 0))
    × (asked_by_value (read (codes "{\"do\":\"own\",\"auction\":28}")) ≡ Err faults.NoSuchAuction)
    × (asked_by_value (read (codes "{\"do\":\"bid\",\"auction\":28,\"points\":[]}")) ≡ Err faults.NoSuchAuction)
    × (asked_by_value (read (codes "{\"do\":\"bid\",\"auction\":0,\"points\":[]}")) ≡ Err (faults.Bid bids.Syntax))
    × (asked_by_value (read (codes "{\"do\":\"bid\",\"auction\":0,\"points\":[1,300]}")) ≡ Err (faults.Bid bids.Syntax))
    × (asked_by_value (read (codes "{\"do\":\"bid\",\"auction\":0,\"points\":[[1,100000]]}")) ≡ Err (faults.Bid bids.Syntax))
unfolding serde_json_on_literals
keys_in_any_order_and_faults = (refl, refl, refl, refl, refl, refl, refl)

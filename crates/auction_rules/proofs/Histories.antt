-- What the entry of the rules has of its call, and what one more entry changes.
use Rattle.std.proofs.Common.{◌≡◌, ℕ, List, ◌∷◌, refl, Option, Some, None}
use Rattle.auction_rules.specs.{Call, Reply, Entry, refusal, entry_of, entry_by, IsLawful}
use Rattle.auction_rules.specs.Setup.{Setup}

entry_by_caller : (setup : Setup) (past : List Entry) (caller : ℕ) (call : Call) (r : Option Reply) → (entry_by setup past caller call r).caller ≡ caller
entry_by_caller setup past caller call None = refl
entry_by_caller setup past caller call (Some reply) = refl

entry_by_call : (setup : Setup) (past : List Entry) (caller : ℕ) (call : Call) (r : Option Reply) → (entry_by setup past caller call r).call ≡ call
entry_by_call setup past caller call None = refl
entry_by_call setup past caller call (Some reply) = refl

pub entry_caller : (setup : Setup) (past : List Entry) (caller : ℕ) (call : Call) → (entry_of setup past caller call).caller ≡ caller
entry_caller setup past caller call = entry_by_caller setup past caller call (refusal setup.rules past caller call)

pub entry_call : (setup : Setup) (past : List Entry) (caller : ℕ) (call : Call) → (entry_of setup past caller call).call ≡ call
entry_call setup past caller call = entry_by_call setup past caller call (refusal setup.rules past caller call)

-- a legal past stays legal with the entry of the rules
pub lawful_more : (setup : Setup) (past : List Entry) (caller : ℕ) (call : Call) → IsLawful setup past → IsLawful setup (entry_of setup past caller call ∷ past)
lawful_more setup past caller call lawful = (rw (entry_caller setup past caller call, entry_call setup past caller call), lawful)

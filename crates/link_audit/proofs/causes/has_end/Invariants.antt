use Rattle.std.proofs.Common.{◌≡◌, ◌<◌, ℕ, slice_index_or}
use Rattle.link_audit.specs.{Cause, MayEndBy}
use Rattle.link_audit.proofs.causes.has_end.Given as goal

-- none of the ends before this place is the agent's for such a cause
abbrev pub invariant-loop-place : goal.invariant-loop-place
invariant-loop-place l = (k : ℕ) (cause : Cause) → k < l.place → slice_index_or l.ends k (l.agent, cause) ≡ (l.agent, cause) → MayEndBy cause l.ending l.asked → ⊥

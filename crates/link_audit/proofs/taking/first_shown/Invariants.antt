use Rattle.std.proofs.Common.{◌≡◌, ℕ, ◌<◌, ◌≤◌, Some, slice_get}
use Rattle.link_audit.specs.{Board, Quote, FitsReply}
use Rattle.link_audit.proofs.taking.first_shown.Given as goal

-- no board before this count has the line
abbrev pub invariant-loop-count : goal.invariant-loop-count
invariant-loop-count g l = (k : ℕ) (board : Board) → l.from ≤ k → k < l.count → slice_get l.shown k ≡ Some board → FitsReply (g.D.Dialect.form l.dialect) l.heard l.reply (Quote board) → ⊥

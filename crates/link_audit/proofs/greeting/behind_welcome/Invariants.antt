use Rattle.std.proofs.Common.{◌≡◌, ◌<◌, ◌≤◌, ◌∷◌, ◌++◌, length, take, codes, decimal}
use Rattle.game_text.specs.OneAgent.{lines_of_agent}
use Rattle.link_audit.specs.{whole_lines, replies_at}
use Rattle.link_audit.proofs.greeting.behind_welcome.Given as goal

-- the first lines came, and then these
abbrev pub invariant-loop-n : goal.invariant-loop-n
invariant-loop-n l = record {
  came : whole_lines l.said ≡ ((codes "welcome " ++ decimal l.agent) ∷ take l.n (lines_of_agent l.game l.agent)) ++ replies_at l.said l.to;
  within : l.to ≤ length l.said;
  nine : 0 < l.n → length (lines_of_agent l.game l.agent) ≡ 9;
}

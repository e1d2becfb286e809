use Rattle.std.proofs.Common.{◌≡◌, ◌++◌, codes, replicate}
use Rattle.text_forms.specs.Lines.{text_of}
use Rattle.draw_maker.proofs.scripts.push_ticks.Given as goal

-- the ticks so far
abbrev pub invariant-loop-i : goal.invariant-loop-i
invariant-loop-i l = l.out.items ≡ l.fn.out.items ++ text_of (replicate l._i (codes "tick"))

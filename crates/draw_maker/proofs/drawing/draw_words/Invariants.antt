use Rattle.std.proofs.Common.{◌≡◌, ◌-◌, ◌++◌, take, length}
use Rattle.draw_maker.specs.Words.{next_words, after}
use Rattle.draw_maker.proofs.drawing.draw_words.Given as goal

-- the words so far and those that are left to draw are all of them
abbrev pub invariant-loop-i : goal.invariant-loop-i
invariant-loop-i g l = record {
  count : length l.drawn ≡ g.row.N;
  words : take l.i l.drawn ++ next_words (g.row.N - l.i) l.generator ≡ next_words g.row.N l.fn.generator;
  left : after (g.row.N - l.i) l.generator ≡ after g.row.N l.fn.generator;
}

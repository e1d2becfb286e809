use Rattle.std.proofs.Common.{◌≡◌, ◌-◌, ◌%◌, ◌++◌, take, length, map}
use Rattle.draw_maker.specs.Words.{next_words, after}
use Rattle.draw_maker.proofs.drawing.draw_below.Given as goal

-- the numbers so far and those of the words that are left to draw are all of them
abbrev pub invariant-loop-i : goal.invariant-loop-i
invariant-loop-i g l = record {
  count : length l.numbers ≡ g.row.N;
  words : take l.i l.numbers ++ map (λ word. word % l.limit) (next_words (g.row.N - l.i) l.generator) ≡ map (λ word. word % l.limit) (next_words g.row.N l.fn.generator);
  left : after (g.row.N - l.i) l.generator ≡ after g.row.N l.fn.generator;
}

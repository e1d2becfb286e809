use Rattle.std.proofs.Common.{◌≡◌, ◌-◌, ◌*◌, ◌++◌, take, length, map}
use Rattle.draw_maker.specs.Words.{next_words, after, parts}
use Rattle.draw_maker.proofs.drawing.draw_each.Given as goal

-- the values so far and those that are left to draw are all of them
abbrev pub invariant-loop-value : goal.invariant-loop-value
invariant-loop-value g l =
    let size = g.T.Drawn.size in
    let count = length l.fn.values in
    let left = count - l.value-index in
    record {
      values : take l.value-index l.values ++ map g.T.Drawn.made (parts left size (next_words (left * size) l.generator)) ≡ map g.T.Drawn.made (parts count size (next_words (count * size) l.fn.generator));
      words : after (left * size) l.generator ≡ after (count * size) l.fn.generator;
    }

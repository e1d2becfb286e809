use Rattle.std.proofs.Common.{◌-◌, ◌*◌, ℕ, List, length, map, ap, arith}
use Rattle.draw_maker.specs.Words.{next_words, parts}
use Rattle.draw_maker.proofs.DrawnWords.{value_more, after_part, front_whole, no_parts, after_no_part}
use Rattle.draw_maker.proofs.drawing.draw_each.Goals as goal

pub loop-value-preserved : goal.loop-value-preserved
loop-value-preserved g c =
    let count = length c.args.values.now in
    let i = c.loop-value.value-index in
    let words = c.loop-value.generator in
    let due = map g.T.Drawn.made (parts count g.T.Drawn.size (next_words (count * g.T.Drawn.size) c.args.generator.now)) in
    record {
      values = value_more g.T.Drawn.made c.loop-value.values count i g.T.Drawn.size c.draw.result words c.draw.new.generator due (omega arith) (omega arith) c.draw.ensures.value c.draw.ensures.left c.loop-value.invariant.values;
      words = after_part count i g.T.Drawn.size words c.draw.new.generator _ (omega arith) c.draw.ensures.left c.loop-value.invariant.words;
    }

pub returns-clause-value : goal.returns-clause-value
returns-clause-value g c =
    let count = length c.args.values.now in
    let i = c.loop-value.value-index in
    let size = g.T.Drawn.size in
    let none = ap (λ (ps : List (List ℕ)). map g.T.Drawn.made ps) (no_parts count i size (next_words ((count - i) * size) c.loop-value.generator) (omega arith)) in
    let due = map g.T.Drawn.made (parts count size (next_words (count * size) c.args.generator.now)) in
    front_whole c.loop-value.values count i _ due c.loop-value.auto.values (omega arith) none c.loop-value.invariant.values

pub returns-clause-left : goal.returns-clause-left
returns-clause-left g c = after_no_part (length c.args.values.now) c.loop-value.value-index g.T.Drawn.size c.loop-value.generator _ (omega arith) c.loop-value.invariant.words

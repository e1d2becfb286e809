use Rattle.std.proofs.Common.{ℕ, ◌%◌, List, map, ap, arith, length-set}
use Rattle.draw_maker.proofs.DrawnWords.{number_more, after_word, front_whole, no_words, after_none}
use Rattle.draw_maker.proofs.drawing.draw_below.Goals as goal

pub loop-i-preserved : goal.loop-i-preserved
loop-i-preserved g c =
    let number = ap (λ (n : ℕ). c.next_word.result % n) c.from.ensures in
    record {
      count = rw length-set c.loop-i.invariant.count;
      words = number_more (λ w. w % c.args.limit) c.loop-i.numbers g.row.N c.loop-i.i c.next_word.result _ c.loop-i.generator c.next_word.new.self _ (omega arith) (omega arith) c.next_word.ensures number c.loop-i.invariant.words;
      left = after_word g.row.N c.loop-i.i c.next_word.result c.loop-i.generator c.next_word.new.self _ (omega arith) c.next_word.ensures c.loop-i.invariant.left;
    }

pub returns-clause-value : goal.returns-clause-value
returns-clause-value g c =
    let none = ap (λ (ws : List ℕ). map (λ (w : ℕ). w % c.args.limit) ws) (no_words g.row.N c.loop-i.i c.loop-i.generator (omega arith)) in
    front_whole c.loop-i.numbers g.row.N c.loop-i.i _ _ c.loop-i.invariant.count (omega arith) none c.loop-i.invariant.words

pub returns-clause-left : goal.returns-clause-left
returns-clause-left g c = after_none g.row.N c.loop-i.i c.loop-i.generator _ (omega arith) c.loop-i.invariant.left

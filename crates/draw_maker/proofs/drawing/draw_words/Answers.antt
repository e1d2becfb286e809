use Rattle.std.proofs.Common.{arith, length-set}
use Rattle.draw_maker.proofs.DrawnWords.{front_more, word_first, after_word, front_whole, no_words, after_none}
use Rattle.draw_maker.proofs.drawing.draw_words.Goals as goal

pub loop-i-preserved : goal.loop-i-preserved
loop-i-preserved g c =
    let first = word_first g.row.N c.loop-i.i c.next_word.result c.loop-i.generator c.next_word.new.self (omega arith) c.next_word.ensures in
    record {
      count = rw length-set c.loop-i.invariant.count;
      words = front_more c.loop-i.drawn c.loop-i.i c.next_word.result _ _ _ (omega arith) first c.loop-i.invariant.words;
      left = after_word g.row.N c.loop-i.i c.next_word.result c.loop-i.generator c.next_word.new.self _ (omega arith) c.next_word.ensures c.loop-i.invariant.left;
    }

pub returns-clause-value : goal.returns-clause-value
returns-clause-value g c = front_whole c.loop-i.drawn g.row.N c.loop-i.i _ _ c.loop-i.invariant.count (omega arith) (no_words g.row.N c.loop-i.i c.loop-i.generator (omega arith)) c.loop-i.invariant.words

pub returns-clause-left : goal.returns-clause-left
returns-clause-left g c = after_none g.row.N c.loop-i.i c.loop-i.generator _ (omega arith) c.loop-i.invariant.left

use Rattle.std.proofs.Common.{sym, subst}
use Rattle.tac_base.specs.Clients.{IsClient}
use Rattle.draw_maker.specs.Words.{next_words}
use Rattle.draw_maker.proofs.DrawnWords.{length-words}
use Rattle.draw_maker.proofs.ClientRanges.{client_range}
use Rattle.draw_maker.proofs.DrawnGames.{client_drawn, after_two}
use Rattle.draw_maker.proofs.clients.ClientDrawn.draw.Goals as goal

pub invariant_of-result : goal.invariant_of-result
invariant_of-result c =
    let words = c.args.generator.now in
    let is = client_drawn words c.draw_words.new.generator c.draw_words.result c.trip_of-arrive.result c.draw_below.result c.draw_words.ensures.value c.draw_words.ensures.left c.trip_of-arrive.ensures c.draw_below.ensures.value in
    subst IsClient (sym is) (client_range (next_words 5 words) (length-words 5 words))

pub returns-clause-value : goal.returns-clause-value
returns-clause-value c = client_drawn c.args.generator.now c.draw_words.new.generator c.draw_words.result c.trip_of-arrive.result c.draw_below.result c.draw_words.ensures.value c.draw_words.ensures.left c.trip_of-arrive.ensures c.draw_below.ensures.value

pub returns-clause-left : goal.returns-clause-left
returns-clause-left c = after_two 3 c.args.generator.now c.draw_words.new.generator c.draw_below.new.generator c.draw_words.ensures.left c.draw_below.ensures.left

use Rattle.std.proofs.Common.{sym, subst}
use Rattle.game_text.specs.Flights.{IsFlight}
use Rattle.draw_maker.specs.Words.{next_words}
use Rattle.draw_maker.proofs.DrawnWords.{length-words}
use Rattle.draw_maker.proofs.WordRanges.{words_range}
use Rattle.draw_maker.proofs.GameRanges.{flight_range}
use Rattle.draw_maker.proofs.DrawnGames.{flight_drawn, after_two}
use Rattle.draw_maker.proofs.flights.FlightLineDrawn.draw.Goals as goal

pub invariant_of-result : goal.invariant_of-result
invariant_of-result c =
    let words = c.args.generator.now in
    let is = flight_drawn words c.draw_words.new.generator c.draw_words.result c.draw_words-2.result c.draw_words.ensures.value c.draw_words.ensures.left c.draw_words-2.ensures.value in
    subst IsFlight (sym is) (flight_range (next_words 55 words) (record { count = length-words 55 words; range = words_range 55 words }))

pub returns-clause-value : goal.returns-clause-value
returns-clause-value c = flight_drawn c.args.generator.now c.draw_words.new.generator c.draw_words.result c.draw_words-2.result c.draw_words.ensures.value c.draw_words.ensures.left c.draw_words-2.ensures.value

pub returns-clause-left : goal.returns-clause-left
returns-clause-left c = after_two 53 c.args.generator.now c.draw_words.new.generator c.draw_words-2.new.generator c.draw_words.ensures.left c.draw_words-2.ensures.left

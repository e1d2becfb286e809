use Rattle.std.proofs.Common.{sym}
use Rattle.game_text.proofs.AgentLaws.{agents_took}
use Rattle.game_text.proofs.HotelNightLaws.{nights_took}
use Rattle.game_text.proofs.GameLaws.{header_kept, seats_kept, flights_kept, order_kept}
use Rattle.game_text.proofs.games.game_in.Goals as goal

pub invariant_of-result : goal.invariant_of-result
invariant_of-result c =
    let version = header_kept c.args.lines (c.in_ok-version.version, c.in_ok-version.left) (sym c.in_ok-version.ensures) in
    let flights = flights_kept c.in_ok-words.left (c.repeat.new.values, c.in_ok-left.left) c.in_ok-left.ensures in
    record {
      version_low = version.0;
      version_high = version.1;
      words = seats_kept c.in_ok-version.left (c.in_ok-words.words, c.in_ok-words.left) (sym c.in_ok-words.ensures);
      flight_count = flights.count;
      flights = flights.each;
      order = order_kept c.in_ok-left.left (c.in_ok-order.order, c.in_ok-order.left) (sym c.in_ok-order.ensures);
      nights = (nights_took c.in_ok-version.version version.0 version.1 c.in_ok-order.left (c.in_ok-rooms.field-0-0, c.in_ok-rooms.left) (sym c.in_ok-rooms.ensures)).1;
      agents = (agents_took c.in_ok-rooms.left (c.in_ok-endow.field-0-0, c.in_ok-endow.left) (sym c.in_ok-endow.ensures)).1;
    }

use Rattle.std.proofs.Common.{◌≡◌, ◌<◌, length, ap, arith}
use Rattle.hotel_book.specs.{won, last_price, winner_trade}
use Rattle.hotel_book.proofs.Offers.{trades_more}
use Rattle.hotel_book.proofs.closing.fill.Goals as goal

pub loop-agent-preserved : goal.loop-agent-preserved
loop-agent-preserved c =
    let eight : length c.all-agent-items.result ≡ 8 = ap length c.all-agent-items.ensures in
    let within : c.loop-agent.agent-index < length c.all-agent-items.result = omega (arith, eight, c.loop-agent-test.true) in
    record {
      trades = trades_more (winner_trade c.args.good (last_price c.args.ranking.now.rooms c.args.ranking.now.units) (won c.args.ranking.now.rooms c.args.ranking.now.units)) c.all-agent-items.result c.loop-agent.agent-index c.agent-item.result c.loop-agent.fills c.push_trade.new.fills c.trade_of.result
          within c.trade_of.ensures c.loop-agent.invariant.trades c.push_trade.ensures.trades;
      few = omega (arith, c.push_trade.ensures.few, c.loop-agent.invariant.few);
    }

use Rattle.std.proofs.Common.{◌≡◌, ◌+◌, List, take, sym, ◌∙◌, subst, arith, reverse}
use Rattle.link_audit.specs.{Board, setup_of, AreRow}
use Rattle.auction_rules.specs.Board as boards
use Rattle.auction_rules.specs.History.{Entry}
use Rattle.link_audit.proofs.Prefixes.{row_more}
use Rattle.link_audit.proofs.table.row_of.Goals as goal

pub loop-position-preserved : goal.loop-position-preserved
loop-position-preserved c =
    let v = c.loop-position.invariant in let game = c.args.game.now in let good = c.args.good in let history : List Entry = c.args.history.now in let n = c.loop-position.position in
    let setup : c.play_next.new.auction.setup ≡ setup_of good game = c.play_next.ensures.setup ∙ v.setup in
    let pushed = c.push_reserved-in-loop-position.ensures in let count = v.count in let room = v.room in
    let board : Board = c.board-in-loop-position.result in
    let is : board ≡ boards.board (setup_of good game).rules (reverse (take (n + 1) history)) =
    c.board-in-loop-position.ensures.board ∙ (λ i. boards.board (setup i).rules (reverse (c.play_next.ensures.history i))) in
    record {
      setup = setup;
      history_is = c.play_next.ensures.history;
      row_is = subst (AreRow game good history (n + 1)) (sym pushed.items) (row_more game good history n c.loop-position.row.items board v.row_is is);
      count = omega (arith, pushed.len, count);
      room = omega (arith, pushed.capacity, room);
    }

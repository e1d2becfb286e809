use Rattle.std.proofs.Common.{◌≡◌, ◌≤◌, ◌*◌, ◌++◌, drop, length}
use Rattle.auction_rules.specs.BookPairs.{ticket_trades, ticket_gone}
use Rattle.ticket_book.specs.Sides.{both}
use Rattle.ticket_book.proofs.Matched.{untaken}
use Rattle.ticket_book.proofs.sides.Sides.match_units.Given as goal

-- what traded so far, and what the units that are left will trade, is all
abbrev pub invariant-loop-unit : goal.invariant-loop-unit
invariant-loop-unit l = record {
  trades : l.fills ++ ticket_trades l.good (both l.self) (drop l.unit-index l.arriving) ≡ ticket_trades l.good (both l.fn.self) l.arriving;
  gone : l.gone.items ++ ticket_gone (both l.self) (drop l.unit-index l.arriving) ≡ ticket_gone (both l.fn.self) l.arriving;
  standing : untaken (both l.self) (drop l.unit-index l.arriving) ≡ untaken (both l.fn.self) l.arriving;
  fills_few : length l.fills ≤ l.unit-index;
  gone_few : length l.gone.items ≤ 2 * l.unit-index;
}

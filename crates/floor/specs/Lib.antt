pub mod Prelude
pub mod Steps
pub mod Keeping
pub mod Rows
pub mod Dealing
pub mod Desks
pub mod Floors
pub mod Answers
pub mod ClosedBoards
pub mod Closing
pub use Rattle.floor.specs.ClosedBoards.{board_of}
pub use Rattle.floor.specs.Closing.{AreGivenBack, AreSeenBoards, IsBorneOut, IsGivenBack, TakesLawfulBids}
pub use Rattle.floor.specs.Dealing.{AreDealt, AreFresh, IsFresh, MakeDesk}
pub use Rattle.floor.specs.Desks.{IsNewDesk, boards_of, desk_caller, desk_cash, desk_entries, desk_ids, desk_steps, setup_at}
pub use Rattle.floor.specs.Keeping.{AddsByTurns, AddsCash, AreGoodsInOrder, AreListed, IsDeskKept, IsInOrder, calls_of_good, count_entries, count_readings, goods_of}
pub use Rattle.floor.specs.Prelude.{AreFreshPasses, AreKnown, AreNotes, AuctionHistory, Bid, Board, CALLERS, Call, Cash, CashEntry, Done, Entry, GOODS, Ghosts, HoldSame, IsFreshPass, IsLawful, IsLegalCash, Legal, LockId, Matched, Nets, Pass, Points, Post, Read, Returned, Setup, Taken, admitted_trades, all_goods, bought, caller_of, cap, cash_cap, cash_reply_of, cash_total, clock, due_post, due_posts, due_to, entry_by, entry_of, house, is_post, lock_id, lock_of, made_by, nets, noted_by, part, passes_of, post_for, posts_of, refusal, returned_by, returned_to, seen_by, setup_of, sold, start_of, turns_left}
pub use Rattle.floor.specs.Rows.{with_each}
pub use Rattle.floor.specs.Steps.{CallMade, DueTaken, Step, WaitsNoted, call_of_step, calls_of_steps}

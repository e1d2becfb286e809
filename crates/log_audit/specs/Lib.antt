pub mod Prelude
pub mod Flaws
pub mod Auditing
pub mod Replays
pub mod Parts
pub use Rattle.log_audit.specs.Flaws.{ComesBefore, HasDuePost, HasDueScore, HasFairEntry, HasPost, HasTrueReading, IsDuePost, IsEarned, IsFair, IsFirstFlaw, IsFound, IsFreeOf, IsLower, IsOnSchedule, IsTrueReading, is_posted, place_of, turn_of}
pub use Rattle.log_audit.specs.Auditing.{AreCounts, AreNamed, AreTotals, HasNamedEntry, KeepsSchedule, IsLowest, IsLowestBelow, IsLowestPlace, IsRuled, IsStruck, IsStruckIfFair, calls_for, nets_by, place_at, KeepsEnds}
pub use Rattle.log_audit.specs.Replays.{AreNets, AreReplayed, AreReplays, AreUnfair, IsReplay, IsReplayed, IsUnfair}
pub use Rattle.log_audit.specs.Parts.{HasNoneFrom, IsFirstFrom, IsFirstOf}
pub use Rattle.log_audit.specs.Prelude.{AreHistories, AuctionHistory, CASH_ENTRIES, Call, Cash, CashCall, CashEntry, CashReply, Done, GameFile, IsDueScore, IsFitCash, IsLawful, IsLegalCash, IsLogged, IsLoggedCash, IsLoggedCashEntry, IsLoggedScore, IsShown, IsSound, IsSoundHead, IsWithin, Legal, LoggedGame, Matched, Nets, Post, Read, Reply, Setup, Shows, Trade, agents, all_goods, auctions_in, cap, cash_reply_of, cash_total, clock, clock_calls, clock_calls_in, due_post, due_to, entries_of, entry_by, entry_of, gain_of, is_post, is_post_at, logged_history, nets, post_for, posts_of, reply_of, seatings, settlement_of, setup_of, stored, ticks, trades_of}
unfoldable pub use Rattle.log_audit.specs.Prelude.{calls_at}

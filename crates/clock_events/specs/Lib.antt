pub mod Prelude
pub mod Laws
pub mod Clocking
pub mod MadeCalls
pub mod Steps
pub mod ClockTurns
pub use Rattle.clock_events.specs.MadeCalls.{HasMade, MakesCalls}
pub use Rattle.clock_events.specs.Prelude.{AllBetween, Bid, Call, CallMade, CashEntry, Close, Desk, DueTaken, Entry, FlightTerms, GameFile, IsBetween, IsCallAnswered, IsClockCall, IsGame, IsNewDesk, IsOrder, IsSameDesk, IsStepTaken, Own, Publish, Rose, Step, TickWait, TickerState, Update, WaitsNoted, Withdraw, boards_of, calls_of_good, clock_calls, closed_last, desk_caller, desk_calls, desk_cash, desk_entries, desk_ids, desk_steps, due_post, entries_at, floor_ids, hotel_calls, hotel_nights, is_distinct, known_then, schedule, ticks, update_of}
unfoldable pub use Rattle.clock_events.specs.Prelude.{calls_at, open_after}

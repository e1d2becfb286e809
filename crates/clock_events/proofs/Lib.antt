pub mod CallLists
pub mod GoodCounts
pub mod ScheduleLaws
pub mod MadeCalls
pub mod TickCalls
pub mod Waits
pub mod NewDesks
pub mod ClockTurns

-- The names of crates below that this crate cites, passed on from one place.
pub use Rattle.tac_base.specs.declared.calls.Call.{Call}
pub use Rattle.tac_base.specs.declared.calls.Call.TheVariants.{Bid, Close, Own, Publish, Update, Withdraw}
pub use Rattle.tac_base.specs.declared.limits.TheConstants.{GOODS, UPDATE_TICKS}
pub use Rattle.text_forms.specs.Rows.{AllBetween, IsBetween}
pub use Rattle.game_text.specs.ClosingOrders.{IsOrder, is_distinct}
pub use Rattle.game_text.specs.Flights.{FlightTerms}
pub use Rattle.game_text.specs.Games.{GameFile, IsGame}
pub use Rattle.game_text.specs.Schedule.{clock_calls, closed_last, hotel_calls, hotel_nights, schedule, ticks, update_of}
unfoldable pub use Rattle.game_text.specs.Schedule.{calls_at, open_after}
pub use Rattle.auction_rules.specs.History.{Entry}
pub use Rattle.trade_ledger.specs.Posts.{due_post}
pub use Rattle.trade_ledger.specs.declared.cash_calls.CashEntry.{CashEntry}
pub use Rattle.floor.specs.Answers.{IsCallAnswered, IsClockCall, IsSameDesk, IsStepTaken}
pub use Rattle.floor.specs.Desks.{IsNewDesk, boards_of, desk_caller, desk_calls, desk_cash, desk_entries, desk_ids, desk_steps, entries_at}
pub use Rattle.floor.specs.Floors.{floor_ids}
pub use Rattle.floor.specs.Keeping.{calls_of_good}
pub use Rattle.floor.specs.Steps.{CallMade, DueTaken, Step, WaitsNoted}
pub use Rattle.floor.specs.declared.desk.Desk.{Desk}
pub use Rattle.tac_io.specs.Counts.{Rose}
pub use Rattle.tac_io.specs.Known.{known_then}
pub use Rattle.tac_io.specs.States.{TickWait, TickerState}

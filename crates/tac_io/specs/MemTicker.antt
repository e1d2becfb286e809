-- A ticker in memory, as its contracts see it.
use Rattle.std.specs.Prelude.{ℕ, List, Option}
use Rattle.tac_io.specs.Calls.{Calls}
use Rattle.tac_io.specs.States.{TickWait}
use Rattle.tac_io.specs.declared.memory.ticker.MemTicker.{MemTicker}

-- the pace, if one was set
abbrev pub ticker_pace : MemTicker → Option ℕ
ticker_pace s = s.pace

-- the waits for ticks, in order, each with whether it lapsed and the pace at that moment
abbrev pub ticker_waited : MemTicker → List TickWait
ticker_waited s = s.waited.items

-- its waits, and the count of its faults
abbrev pub ticker_calls : MemTicker → Calls
ticker_calls s = s.faults

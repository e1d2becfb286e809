-- A hotel that is run by the lines of a script.
use Rattle.std.specs.Prelude.{◌≡◌, ℕ, ◌+◌, ⊤, List, [], ◌∷◌, ◌++◌, length, reverse, Result, Ok, Err}
use Rattle.script_run.specs.Prelude.{Call, entry_of, AuctionHistory}
use Rattle.script_run.specs.declared.hotel.lines.HotelLine.{HotelLine}
use Rattle.script_run.specs.declared.hotel.run.HotelRun.{HotelRun}
use Rattle.script_run.specs.declared.fault.ScriptFault.{ScriptFault}
use Rattle.script_run.specs.declared.fault.ScriptFault.TheVariants.{Line, TooLong, Failed, Memory}
use Rattle.script_run.specs.declared.fault.ScriptReason.{ScriptReason}
use Rattle.script_run.specs.ScriptLines.{script_reason_number}
use Rattle.script_run.specs.HotelScripts.{judge_hotel_line, one_hotel, script_past, hotel_out}
use Rattle.script_run.specs.LineCounts.{AreLineCounts}

-- an auction with one more entry, that of a call
abbrev pub hotel_called : AuctionHistory → ℕ × Call → AuctionHistory
hotel_called before call = record { setup = before.setup; history = before.history ++ entry_of before.setup (reverse before.history) call.0 call.1 ∷ [] }

-- the run has come to the end of these lines, the last line first
pub record HasRunHotel (lines : List HotelLine) (run : HotelRun) : Type 0 where
  pub setup : run.auction.setup ≡ one_hotel
  pub history : run.auction.history ≡ reverse (script_past lines)
  pub counted : AreLineCounts lines run.counts
  pub text : run.text.items ≡ hotel_out lines

abbrev pub RunsHotel : HotelRun → Type 0
RunsHotel run = (lines : List HotelLine) × HasRunHotel lines run

-- a line after others was run, or is bad, or memory was refused for its text
abbrev pub RunsHotelLine : List HotelLine → List ℕ → HotelRun → Result (Unit {0}) ScriptFault → Type 0
RunsHotelLine lines line run (Ok done) = (asked : HotelLine) × (judge_hotel_line lines line ≡ Ok asked) × HasRunHotel (asked ∷ lines) run
RunsHotelLine lines line run (Err (Line number reason)) = (why : ScriptReason) × (number ≡ length lines + 1) × (reason ≡ script_reason_number why) × (judge_hotel_line lines line ≡ Err why)
RunsHotelLine lines line run (Err TooLong) = ⊥
RunsHotelLine lines line run (Err Failed) = ⊥
RunsHotelLine lines line run (Err Memory) = ⊤

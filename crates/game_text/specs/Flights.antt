-- The line of a flight.
use Rattle.std.specs.Prelude.{◌≡◌, ℕ, ◌≤◌, ◌==◌, if◌then◌else◌, List, ◌∷◌, true, ℤ, pos, negsuc, ◌≤ℤ◌, unsigned_abs, length, Result, Ok, Err, map, replicate, codes, slice_index_or, drop}
use Rattle.tac_base.specs.declared.limits.TheConstants.{FLIGHT_DRAWS}
use Rattle.text_forms.specs.declared.lines.Reason.{Reason}
use Rattle.text_forms.specs.declared.lines.Reason.TheVariants.{NotDue}
use Rattle.text_forms.specs.declared.rows.Column.{Column}
use Rattle.text_forms.specs.declared.rows.Digits.TheVariants.{Ten}
use Rattle.text_forms.specs.Rows.{within, row, row_text, AllBetween}
use Rattle.text_forms.specs.Steps.{◌>>=◌}

-- what a game file fixes for a flight
pub record FlightTerms : Type 0 where
  -- the first price, 250 to 400 dollars
  pub first : ℕ
  -- the bound of the price's changes, -10 to 30
  pub bound : ℤ
  -- a draw for each update, in the order of ticks 1 to 53
  pub draws : List ℕ

-- terms in the ranges of the game
pub record IsFlight (flight : FlightTerms) : Type 0 where
  pub first_low : 250 ≤ flight.first
  pub first_high : flight.first ≤ 400
  pub bound_low : negsuc 9 ≤ℤ flight.bound
  pub bound_high : flight.bound ≤ℤ pos 30
  pub count : length flight.draws ≡ FLIGHT_DRAWS
  pub draws : AllBetween 0 4294967295 flight.draws

-- a column of all numbers of 32 bits
abbrev pub any : Column
any = within 0 4294967295

-- the column of a bound, -10 to 30
abbrev pub bound_column : Column
bound_column = record { signed = true; digits = Ten; low = negsuc 9; high = pos 30 }

-- the good, the first price, the bound and the draws
abbrev pub flight_columns : List Column
flight_columns = any ∷ within 250 400 ∷ bound_column ∷ replicate FLIGHT_DRAWS any

-- the flight in a row with this good
abbrev pub flight_from : ℕ → List ℤ → Result FlightTerms Reason
flight_from good numbers =
    if unsigned_abs (slice_index_or numbers 0 (pos 0)) == good
    then Ok (record { first = unsigned_abs (slice_index_or numbers 1 (pos 0)); bound = slice_index_or numbers 2 (pos 0); draws = map unsigned_abs (drop 3 numbers) })
    else Err NotDue

-- the flight in a line with this good, or the first reason that applies
unfoldable pub flight_of : ℕ → List ℕ → Result FlightTerms Reason
flight_of good line = row (codes "flight") flight_columns line >>= flight_from good

-- the line of a flight
abbrev pub flight_numbers : ℕ → FlightTerms → List ℤ
flight_numbers good flight = pos good ∷ pos flight.first ∷ flight.bound ∷ map pos flight.draws

abbrev pub flight_text : ℕ → FlightTerms → List ℕ
flight_text good flight = row_text (codes "flight") (flight_numbers good flight)

-- How the lines of a sheet are read.
use Rattle.std.specs.Prelude.{ℕ, ◌==◌, ◌&&◌, true, if◌then◌else◌, List, [], ◌∷◌, ℤ, pos, negsuc, Option, Some, None, codes, replicate, slice_index_or, bytes_eq}
use Rattle.log_reader.specs.Prelude.{BEST_TOTAL, Column, Eighteen, within, Package, is_package}
use Rattle.packages.specs.declared.travel_packages.Package.TheVariants as packages
use Rattle.line_protocol.specs.ReplyForms.{◌>>=◌}
use Rattle.log_text.specs.SheetText.{package_line}
use Rattle.log_reader.specs.HeadForms.{read_numbers, number_at}

-- dollars of at most 18 digits, with a sign
abbrev pub amount_column : Column
amount_column = record { signed = true; digits = Eighteen; low = negsuc 999999999999999998; high = pos 999999999999999999 }

abbrev pub any_column : Column
any_column = within 0 4294967295

abbrev pub score_columns : List Column
score_columns = within 0 7 ∷ within 0 BEST_TOTAL ∷ amount_column ∷ any_column ∷ amount_column ∷ []

-- the best total, the cash, the number of tickets short and the score, from the line of an agent
unfoldable pub read_score : ℕ → List ℕ → Option (ℕ × ℤ × ℕ × ℤ)
read_score agent line =
    read_numbers (codes "score") score_columns line
    >>= λ numbers. if number_at numbers 0 == agent
    then Some (number_at numbers 1, slice_index_or numbers 2 (pos 0), number_at numbers 3, slice_index_or numbers 4 (pos 0))
    else None

-- ---- packages

abbrev pub trip_columns : List Column
trip_columns = replicate 8 (within 0 255)

-- the trip of the numbers of a row
abbrev pub trip_in : List ℤ → Package
trip_in numbers = packages.Trip (number_at numbers 2) (number_at numbers 3) (number_at numbers 4) (number_at numbers 5 ∷ number_at numbers 6 ∷ number_at numbers 7 ∷ [])

-- a trip, if it is one of the packages
abbrev pub checked : Package → Option Package
checked trip = if is_package trip then Some trip else None

-- the trip from the line of an agent's client
abbrev pub read_trip : ℕ → ℕ → List ℕ → Option Package
read_trip agent client line =
    read_numbers (codes "package") trip_columns line
    >>= λ numbers. if (number_at numbers 0 == agent) && (number_at numbers 1 == client) then checked (trip_in numbers) else None

-- the package from the line of an agent's client
unfoldable pub package_of : ℕ → ℕ → List ℕ → Option Package
package_of agent client line = if bytes_eq line (package_line agent client packages.None) then Some packages.None else read_trip agent client line

-- ---- certificates

abbrev pub count_columns : List Column
count_columns = within 0 7 ∷ any_column ∷ []

-- the number of lines of an agent's certificate, from the line before them
unfoldable pub read_count : ℕ → List ℕ → Option ℕ
read_count agent line =
    read_numbers (codes "cert") count_columns line
    >>= λ numbers. if number_at numbers 0 == agent then Some (number_at numbers 1) else None

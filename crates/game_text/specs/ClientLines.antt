-- The line of a client.
use Rattle.std.specs.Prelude.{ℕ, ◌==◌, ◌&&◌, not, nat_lt, if◌then◌else◌, List, ◌∷◌, ℤ, pos, unsigned_abs, Result, Ok, Err, map, replicate, codes, slice_index_or, drop}
use Rattle.tac_base.specs.Clients.{Preferences}
use Rattle.text_forms.specs.declared.lines.Reason.{Reason}
use Rattle.text_forms.specs.declared.lines.Reason.TheVariants.{OutOfRange, NotDue}
use Rattle.text_forms.specs.declared.rows.Column.{Column}
use Rattle.text_forms.specs.Rows.{within, row, row_text}
use Rattle.text_forms.specs.Steps.{◌>>=◌}

-- the agent, the client, the days, the premium and the values
abbrev pub client_columns : List Column
client_columns = within 0 4294967295 ∷ within 0 4294967295 ∷ within 1 4 ∷ within 2 5 ∷ within 50 150 ∷ replicate 3 (within 0 200)

-- a number of a row
abbrev pub natural_at : List ℤ → ℕ → ℕ
natural_at numbers i = unsigned_abs (slice_index_or numbers i (pos 0))

-- the client in a row with this agent and number; it departs after it arrives
abbrev pub client_from : ℕ → ℕ → List ℤ → Result Preferences Reason
client_from agent client numbers =
    if not (nat_lt (natural_at numbers 2) (natural_at numbers 3)) then Err OutOfRange
    else if not (natural_at numbers 0 == agent && natural_at numbers 1 == client) then Err NotDue
    else Ok (record { arrive = natural_at numbers 2; depart = natural_at numbers 3; premium = natural_at numbers 4; values = map unsigned_abs (drop 5 numbers) })

-- the client in a line with this agent and number, or the first reason that applies
unfoldable pub client_of : ℕ → ℕ → List ℕ → Result Preferences Reason
client_of agent client line = row (codes "client") client_columns line >>= client_from agent client

-- the line of a client
abbrev pub client_numbers : ℕ → ℕ → Preferences → List ℤ
client_numbers agent client wants = pos agent ∷ pos client ∷ pos wants.arrive ∷ pos wants.depart ∷ pos wants.premium ∷ map pos wants.values

-- the line of an agent's client
abbrev pub client_text : ℕ → ℕ → Preferences → List ℕ
client_text agent client wants = row_text (codes "client") (client_numbers agent client wants)

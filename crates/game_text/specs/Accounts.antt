-- The account file: an agent's clients and its holdings of the 28 goods.
use Rattle.std.specs.Prelude.{◌≡◌, ℕ, nat_lt, if◌then◌else◌, List, [], ◌∷◌, ◌++◌, ℤ, pos, neg_ℤ, ◌≤ℤ◌, true, Result, Ok, Err, length, codes, drop, replicate, All}
use Rattle.tac_base.specs.Clients.{Preferences}
use Rattle.tac_base.specs.declared.limits.TheConstants.{GOODS, HOLDING, TEXT_BYTES}
use Rattle.text_forms.specs.declared.lines.BadLine.{BadLine}
use Rattle.text_forms.specs.declared.lines.Reason.{Reason}
use Rattle.text_forms.specs.declared.rows.Column.{Column}
use Rattle.text_forms.specs.declared.rows.Digits.TheVariants.{Ten}
use Rattle.text_forms.specs.Words.{parts_of}
use Rattle.text_forms.specs.Lines.{Remaining, lines_from, nothing_left, AreLinesLeft}
use Rattle.text_forms.specs.Rows.{row, row_text}
use Rattle.text_forms.specs.Steps.{◌>>=◌, read_by, repeat, lines_of_parts, one_line}
use Rattle.game_text.specs.declared.fault.GameFault.{GameFault}
use Rattle.game_text.specs.declared.fault.GameFault.TheVariants.{TooLong}
use Rattle.game_text.specs.ClientLines.{client_columns, client_from, client_numbers}
use Rattle.game_text.specs.AgentLines.{AreClients}
use Rattle.game_text.specs.Headers.{nothing_from, read_end_line}
use Rattle.game_text.specs.Faults.{or_game_fault}

-- an agent's clients, and its holdings of the 28 goods in order
pub record AccountFile : Type 0 where
  pub clients : List Preferences
  pub holdings : List ℤ

-- a holding is in -200000..200000
abbrev pub IsHolding : ℤ → Type 0
IsHolding held = (neg_ℤ HOLDING ≤ℤ held) × (held ≤ℤ HOLDING)

-- an account in its ranges
pub record IsAccount (account : AccountFile) : Type 0 where
  pub clients : AreClients account.clients
  pub count : length account.holdings ≡ GOODS
  pub holdings : All IsHolding account.holdings

-- ---- the lines of an account

-- the first line
unfoldable pub title_of : List ℕ → Result (Unit {0}) Reason
title_of line = row (codes "account") [] line >>= nothing_from

-- the line of the holdings
abbrev pub hold_column : Column
hold_column = record { signed = true; digits = Ten; low = neg_ℤ HOLDING; high = HOLDING }

unfoldable pub hold_of : List ℕ → Result (List ℤ) Reason
hold_of line = row (codes "hold") (replicate GOODS hold_column) line

abbrev pub hold_text : List ℤ → List ℕ
hold_text holdings = row_text (codes "hold") holdings

-- the line of a client: as for agent 0 in a game file, but without the agent's number
abbrev pub owned_columns : List Column
owned_columns = drop 1 client_columns

abbrev pub owned_from : ℕ → List ℤ → Result Preferences Reason
owned_from client numbers = client_from 0 client (pos 0 ∷ numbers)

unfoldable pub owned_of : ℕ → List ℕ → Result Preferences Reason
owned_of client line = row (codes "client") owned_columns line >>= owned_from client

abbrev pub owned_text : ℕ → Preferences → List ℕ
owned_text client wants = row_text (codes "client") (drop 1 (client_numbers 0 client wants))

-- the canonical lines
abbrev pub account_lines : AccountFile → List (List ℕ)
account_lines account =
    codes "account" ∷ hold_text account.holdings ∷ []
    ++ (lines_of_parts (one_line owned_text) 0 account.clients
    ++ codes "end" ∷ [])

-- a text of an account: its lines that are neither empty nor comments are the canonical ones, each with its line end
abbrev pub IsAccountText : AccountFile → List ℕ → Type 0
IsAccountText account text = AreLinesLeft (account_lines account) (lines_from true 1 (parts_of 10 text))

-- ---- the first bad line

abbrev pub owned_part : ℕ → Remaining → Result (Preferences × Remaining) BadLine
owned_part client left = read_by (owned_of client) left

-- the account in the lines of a text, each line read by its form in turn
unfoldable pub account_in : Remaining → Result AccountFile BadLine
account_in left = do
  title ← read_by title_of left
  holdings ← read_by hold_of title.1
  clients ← repeat 8 0 owned_part holdings.1
  end ← read_by read_end_line clients.1
  done ← nothing_left end.1
  Ok (record { clients = clients.0; holdings = holdings.0 })

-- the account in a text, or why the text is refused
unfoldable pub account_of : List ℕ → Result AccountFile GameFault
account_of text = if nat_lt TEXT_BYTES (length text) then Err TooLong else or_game_fault (account_in (lines_from true 1 (parts_of 10 text)))

-- What a link requests: an item for each of its lines.
use Rattle.std.specs.Prelude.{⊤, ℕ, List, Result}
use Rattle.std.specs.List.{AllZip}
use Rattle.line_protocol.specs.declared.asking.Request.{Request}
use Rattle.line_protocol.specs.declared.asking.RequestFault.{RequestFault}
use Rattle.tac_io.specs.declared.line_got.LineGot.{LineGot}
use Rattle.tac_io.specs.declared.line_got.LineGot.TheVariants.{Line, TooLong}

-- what a line requests
pub data Item : Type 0 where
  -- a request, or the fault of a line that is none
  Asks : (asked : Result Request RequestFault) → Item
  -- a line of more than 512 bytes
  Overlong : Item

-- A line has the item that it may be read as; a line that is too long has its own.
abbrev pub IsItem : (List ℕ → Result Request RequestFault → Type 0) → LineGot × List ℕ → Item → Type 0
IsItem may_answer (Line, line) (Asks asked) = may_answer line asked
IsItem may_answer (TooLong, line) Overlong = ⊤
IsItem may_answer got item = ⊥

-- The lines have these items, one each, in order.
-- Row: ended_by_quit (worked_rows/proofs/LoggedLinks.antt)
abbrev pub AreItems : (List ℕ → Result Request RequestFault → Type 0) → List (LineGot × List ℕ) → List Item → Type 0
AreItems may_answer lines items = AllZip (IsItem may_answer) lines items

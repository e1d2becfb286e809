-- What a sink took of a text, between two of its states.
use Rattle.std.specs.Prelude.{◌≡◌, ℕ, List}
use Rattle.tac_io.specs.Counts.{Rose}
use Rattle.tac_io.specs.States.{SinkState}
use Rattle.tac_io.specs.Known.{known_then, failed_at, TakesSome}

-- The sink took the whole text, and no write failed.
abbrev pub TookWhole : SinkState → SinkState → List ℕ → Type 0
TookWhole sink sink' text = (sink'.taken ≡ known_then sink.taken text) × (sink'.faults ≡ sink.faults) × (sink'.failures ≡ sink.failures)

-- One write failed, and nothing was written after it: of the text a proper prefix was taken, which may be empty.
-- Row: text_is_written_with_its_code_or_cut (worked_rows/proofs/CommandLines.antt)
abbrev pub TookPart : SinkState → SinkState → List ℕ → Type 0
TookPart sink sink' text = TakesSome sink.taken sink'.taken text × Rose sink.faults sink'.faults × (sink'.failures ≡ failed_at sink'.taken sink.failures)

-- A link's lines, as their clauses show them.
use Rattle.std.specs.Prelude.{◌≡◌, ℕ, Option}
use Rattle.tac_io.specs.HeldBytes.{Held, LinkPlace}
use Rattle.tac_io.specs.States.{LinkState}
use Rattle.tac_io.specs.declared.line_got.LineGot.{LineGot}
use Rattle.tac_io.specs.declared.lines.Lines.{Lines}

-- the link
abbrev pub link_of : {L : Type 0} → Lines L → L
link_of s = s.link

-- the last line, and the bytes that were taken and that no line has yet
abbrev pub held_of : {L : Type 0} → Lines L → Held
held_of s = s.buffer

-- how many bytes were taken from the link
abbrev pub count_of : {L : Type 0} → Lines L → ℕ
count_of s = s.taken

-- the last answer, if there was one
abbrev pub last_of : {L : Type 0} → Lines L → Option LineGot
last_of s = s.last

-- how far the link was read, which is in this state
abbrev pub link_place : {L : Type 0} → (L → LinkState) → Lines L → LinkPlace
link_place state s = record { held = held_of s; count = count_of s; link = state (link_of s) }

-- nothing was read, and the last line is the same
abbrev pub KeepsPlace : {L : Type 0} → Lines L → Lines L → Type 0
KeepsPlace before after = (held_of after ≡ held_of before) × (count_of after ≡ count_of before) × (last_of after ≡ last_of before)

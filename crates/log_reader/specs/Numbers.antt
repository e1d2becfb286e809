-- The numbers of a log's lines, and when a line is one too many.
use Rattle.std.specs.Prelude.{ℕ, ◌+◌, ◌≤◌, ⊤, if◌then◌else◌, List, Result, Ok}
use Rattle.std.specs.List.{AllByRecursion}
use Rattle.log_reader.specs.Prelude.{TEXT_BYTES, BadLine, Remaining, CertFault}
use Rattle.bound_cert.specs.declared.faults.CertFault.TheVariants as certs
use Rattle.log_reader.specs.LogReading.{begins, refused_line}

-- the greatest number that a line of a log may have, or what stands after its last line end
abbrev pub last_number : ℕ
last_number = TEXT_BYTES + 1

-- no number is greater
pub record AreLow (left : Remaining) : Type 0 where
  pub lines : AllByRecursion (λ line. line.number ≤ last_number) left.lines
  pub last : left.last ≤ last_number

-- a certificate is refused at a line of no greater number
abbrev pub IsLowFault : CertFault → Type 0
IsLowFault (certs.Line line reason) = line ≤ last_number
IsLowFault certs.TooLong = ⊤
IsLowFault certs.Memory = ⊤

-- the lines that are left, if the next one does not begin with a word
abbrev pub nothing_begins : List ℕ → Remaining → Result Remaining BadLine
nothing_begins word left = if begins word left then refused_line left else Ok left

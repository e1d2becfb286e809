-- Why the text of a log is refused.
use Rattle.std.specs.Prelude.{◌≡◌, ℕ, ◌+◌, ◌==◌, ⊤, if◌then◌else◌, Result, Ok, Err}
use Rattle.log_reader.specs.Prelude.{BadLine, CertFault}
use Rattle.bound_cert.specs.declared.faults.CertFault.TheVariants as certs
use Rattle.log_reader.specs.declared.fault.LogFault.{LogFault}
use Rattle.log_reader.specs.declared.fault.LogFault.TheVariants.{Line, TooLong, Memory}

-- the fault of a bad line: it gives only the line's number
abbrev pub log_fault : BadLine → LogFault
log_fault bad = Line bad.line

-- The fault of a log whose certificate, after the line of this number, has a fault. If the certificate ends too early or too late, that
-- line is the bad one.
abbrev pub fault_by : ℕ → CertFault → LogFault
fault_by number (certs.Line line reason) = if reason == 7 then Line number else Line (number + line)
fault_by number certs.TooLong = Line number
fault_by number certs.Memory = Memory

-- a bad line as the fault of a log
abbrev pub or_log_fault : {A : Type 0} → Result A BadLine → Result A LogFault
or_log_fault (Ok x) = Ok x
or_log_fault (Err bad) = Err (log_fault bad)

-- reading refuses the text with this fault, unless a memory allocation failed
abbrev pub IsLogRefusal : {A : Type 0} → LogFault → Result A LogFault → Type 0
IsLogRefusal (Line line) read = read ≡ Err (Line line)
IsLogRefusal TooLong read = read ≡ Err TooLong
IsLogRefusal Memory read = ⊤

-- what was returned, through a view, is what reading gives, unless a memory allocation failed
abbrev pub IsLogReading : {A B : Type 0} → (A → B) → Result A LogFault → Result B LogFault → Type 0
IsLogReading view (Ok x) read = read ≡ Ok (view x)
IsLogReading view (Err fault) read = IsLogRefusal fault read

-- The refusals of a certificate's text.
use Rattle.std.specs.Prelude.{◌≡◌, Result, Ok, Err}
use Rattle.bound_cert.specs.Prelude.{BadLine, reason_number}
use Rattle.bound_cert.specs.declared.faults.CertFault.{CertFault}
use Rattle.bound_cert.specs.declared.faults.CertFault.TheVariants.{Line, TooLong, Memory}

-- a bad line with its reason as a number
abbrev pub cert_fault : BadLine → CertFault
cert_fault bad = Line bad.line (reason_number bad.reason)

-- a bad line as a refusal
abbrev pub or_cert_fault : {A : Type 0} → Result A BadLine → Result A CertFault
or_cert_fault (Ok x) = Ok x
or_cert_fault (Err bad) = Err (cert_fault bad)

-- reading was refused with this fault, or the fault is that a memory allocation failed
abbrev pub IsCertRefusal : {A : Type 0} → CertFault → Result A CertFault → Type 0
IsCertRefusal (Line line reason) read = read ≡ Err (Line line reason)
IsCertRefusal TooLong read = read ≡ Err TooLong
IsCertRefusal Memory read = Unit {0}

-- the result, as a view shows it, is what reading gives, unless a memory allocation failed
abbrev pub IsCertReading : {A B : Type 0} → (A → B) → Result A CertFault → Result B CertFault → Type 0
IsCertReading view (Ok x) read = read ≡ Ok (view x)
IsCertReading view (Err fault) read = IsCertRefusal fault read

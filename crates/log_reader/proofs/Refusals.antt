-- A part that is refused refuses the whole.
use Rattle.std.proofs.Common.{◌≡◌, ℕ, Result, Ok, Err, refl, sym, ap, subst, IsErrAnd}
use Rattle.text_forms.specs.declared.lines.BadLine.{BadLine}
use Rattle.log_reader.specs.declared.fault.LogFault.{LogFault}
use Rattle.log_reader.specs.declared.fault.LogFault.TheVariants as faults
use Rattle.log_reader.specs.Faults.{log_fault, or_log_fault, IsLogRefusal, IsLogReading}

-- what was read and not refused
pub was_read : {A : Type 0} (read : Result A BadLine) (x : A) → or_log_fault read ≡ Ok x → read ≡ Ok x
was_read (Ok y) x h = cc
was_read (Err bad) x h = absurd cc

-- what is read is not refused
pub is_read : {A : Type 0} (read : Result A BadLine) (x : A) → read ≡ Ok x → or_log_fault read ≡ Ok x
is_read read x h = rw h refl

is_refused : {A : Type 0} (read : Result A BadLine) (bad : BadLine) → read ≡ Err bad → IsLogRefusal (log_fault bad) (or_log_fault read)
is_refused read bad h = rw h refl

-- if the one is refused, so is the other
pub refused_on : {X Y : Type 0} (fault : LogFault) (a : Result X BadLine) (b : Result Y BadLine) → ((bad : BadLine) → a ≡ Err bad → b ≡ Err bad) → IsLogRefusal fault (or_log_fault a) → IsLogRefusal fault (or_log_fault b)
refused_on (faults.Line line) (Ok x) b h f = absurd cc
refused_on (faults.Line line) (Err bad) b h f = let same : bad.line ≡ line = cc in rw (h bad refl) (ap (λ (n : ℕ). Err (faults.Line n)) same)
refused_on faults.TooLong (Ok x) b h f = absurd cc
refused_on faults.TooLong (Err bad) b h f = absurd cc
refused_on faults.Memory a b h f = tt

-- a refusal that is passed on
handed_on : {A B : Type 0} (view : A → B) (given : Result A LogFault) (fault : LogFault) (read : Result B LogFault) → IsErrAnd given (λ f. f ≡ fault) → IsLogRefusal fault read → IsLogReading view given read
handed_on view (Ok x) fault read h refusal = absurd h
handed_on view (Err f) fault read h refusal = subst (λ (e : LogFault). IsLogRefusal e read) (sym h) refusal

-- a bad line that is passed on
pub line_on : {A B : Type 0} (view : A → B) (given : Result A LogFault) (bad : BadLine) (read : Result B BadLine) → IsErrAnd given (λ f. f ≡ log_fault bad) → read ≡ Err bad → IsLogReading view given (or_log_fault read)
line_on view given bad read h e = handed_on view given (log_fault bad) (or_log_fault read) h (is_refused read bad e)

-- the refusal of a part that is passed on
pub fault_on : {A B X : Type 0} (view : A → B) (given : Result A LogFault) (fault : LogFault) (part : Result X BadLine) (read : Result B BadLine) → IsErrAnd given (λ f. f ≡ fault) → IsLogRefusal fault (or_log_fault part) →
    ((bad : BadLine) → part ≡ Err bad → read ≡ Err bad) → IsLogReading view given (or_log_fault read)
fault_on view given fault part read h refusal through = handed_on view given fault (or_log_fault read) h (refused_on fault part read through refusal)

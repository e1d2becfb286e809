-- What is read of a whole text.
use Rattle.std.proofs.Common.{◌≡◌, ℕ, ◌<◌, ◌≤◌, ltb, true, false, List, length, Result, Ok, Err, refl, sym, subst, arith, IfOk}
use Rattle.std.proofs.lemmas.Bool.Decides.{nat_tests}
use Rattle.log_reader.specs.{TEXT_BYTES, parts_of, lines_from, log_in, or_log_fault, IsLogReading}
use Rattle.log_text.specs.LoggedGames.{LoggedGame, IsLogged, logged_text}
use Rattle.log_reader.specs.declared.fault.LogFault.{LogFault}
use Rattle.log_reader.specs.declared.fault.LogFault.TheVariants as faults
use Rattle.log_reader.specs.Logs.{log_of}
use Rattle.log_reader.proofs.LogTaking.{log_is}
use Rattle.log_reader.proofs.SheetGiving.{log_given}
use Rattle.log_reader.proofs.Refusals.{was_read, is_read}

pub long_text : (text : List ℕ) → TEXT_BYTES < length text → log_of text ≡ Err faults.TooLong
unfolding log_of
long_text text long = let test : ltb TEXT_BYTES (length text) ≡ true = grind (arith, nat_tests) in rw test refl

short_text : (text : List ℕ) → length text ≤ TEXT_BYTES → log_of text ≡ or_log_fault (log_in (lines_from false 1 (parts_of 10 text)))
unfolding log_of
short_text text short = let test : ltb TEXT_BYTES (length text) ≡ false = grind (arith, nat_tests) in rw test refl

pub short_reading : (text : List ℕ) (result : Result LoggedGame LogFault) → length text ≤ TEXT_BYTES → IsLogReading (λ log. log) result (or_log_fault (log_in (lines_from false 1 (parts_of 10 text)))) → IsLogReading (λ log. log) result (log_of text)
short_reading text result short read = subst (IsLogReading (λ log. log) result) (sym (short_text text short)) read

-- the text is the one of the log that was read
pub found_if : (text : List ℕ) (result : Result LoggedGame LogFault) → IsLogReading (λ log. log) result (or_log_fault (log_in (lines_from false 1 (parts_of 10 text)))) → IfOk result (λ log. (text ≡ logged_text log) × IsLogged log)
found_if text (Ok log) read = let is = log_is text log (was_read (log_in (lines_from false 1 (parts_of 10 text))) log read) in (is.same, is.range)
found_if text (Err fault) read = tt

-- the text of a log is read as that log
pub only_log : (text : List ℕ) (log : LoggedGame) → IsLogged log → length text ≤ TEXT_BYTES → text ≡ logged_text log → log_of text ≡ Ok log
only_log text log is short same =
    let few : length (logged_text log) ≤ TEXT_BYTES = subst (λ (t : List ℕ). length t ≤ TEXT_BYTES) same short in
    subst (λ (t : List ℕ). log_of t ≡ Ok log) (sym same) (subst (λ (r : Result LoggedGame LogFault). r ≡ Ok log) (sym (short_text (logged_text log) few)) (is_read (log_in (lines_from false 1 (parts_of 10 (logged_text log)))) log (log_given log is few)))

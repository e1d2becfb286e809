-- Reading a certificate of a log, case by case.
use Rattle.std.proofs.Common.{◌≡◌, ℕ, ◌+◌, Bool, true, false, cond, eqb, List, Option, Some, None, Result, Ok, Err, refl, sym}
use Rattle.log_reader.specs.{TextEnd, BadLine, NumberedLine, Remaining, due_of, at_line, block_of, Tree, CertFault, IsCertRefusal, cert_of, formed, read_count, cert_by, cert_in, fault_by, or_log_fault, IsLogRefusal}
use Rattle.bound_cert.specs.declared.faults.CertFault.TheVariants as certs

-- ---- the certificate of a block

by_reason : (b : Bool) (number line : ℕ) → IsLogRefusal (cond b (fault_by number certs.TooLong) (fault_by (number + line) certs.TooLong))
    (or_log_fault {A = Tree} (cond b (Err (record { line = number; reason = TextEnd })) (Err (record { line = number + line; reason = TextEnd }))))
by_reason true number line = refl
by_reason false number line = refl

-- a certificate that is refused refuses the log
pub cert_refused : (number : ℕ) (fault : CertFault) (read : Result Tree CertFault) → IsCertRefusal fault read → IsLogRefusal (fault_by number fault) (or_log_fault (cert_by number read))
cert_refused number (certs.Line line reason) read h = rw h (by_reason (eqb reason 7) number line)
cert_refused number certs.TooLong read h = rw h refl
cert_refused number certs.Memory read h = tt

-- ---- the line before it

pub no_line : (agent : ℕ) (left : Remaining) (bad : BadLine) → due_of left ≡ Err bad → cert_in agent left ≡ Err bad
unfolding cert_in
no_line agent left bad h = rw h refl

pub no_count : (agent : ℕ) (left : Remaining) (line : NumberedLine) (after : Remaining) (bad : BadLine) → due_of left ≡ Ok (line, after) → at_line line.number (formed (read_count agent line.bytes)) ≡ Err bad → cert_in agent left ≡ Err bad
unfolding cert_in
no_count agent left line after bad h e = rw (h, e) refl

-- the number of lines that was read
pub counted : (agent number : ℕ) (bytes : List ℕ) (line : NumberedLine) (read : Option ℕ) (result : Result ℕ BadLine) → number ≡ line.number → bytes ≡ line.bytes → read ≡ read_count agent bytes → result ≡ at_line number (formed read) →
    at_line line.number (formed (read_count agent line.bytes)) ≡ result
counted agent number bytes line read result n b r h = rw (← n, ← b, ← r) (sym h)

module _ (agent : ℕ) (left : Remaining) (line : NumberedLine) (after : Remaining) (count : ℕ) (due : due_of left ≡ Ok (line, after)) (counts : at_line line.number (formed (read_count agent line.bytes)) ≡ Ok count) where
  pub no_block : block_of count after ≡ None → cert_in agent left ≡ Err (record { line = line.number; reason = TextEnd })
  unfolding cert_in
  no_block h = rw (due, counts, h) refl

  pub block_bad : (block : List ℕ × Remaining) (bad : BadLine) → block_of count after ≡ Some block → cert_by line.number (cert_of block.0) ≡ Err bad → cert_in agent left ≡ Err bad
  unfolding cert_in
  block_bad block bad h e = rw (due, counts, h, e) refl

  pub block_read : (block : List ℕ × Remaining) (tree : Tree) → block_of count after ≡ Some block → cert_by line.number (cert_of block.0) ≡ Ok tree → cert_in agent left ≡ Ok (tree, block.1)
  unfolding cert_in
  block_read block tree h e = rw (due, counts, h, e) refl

-- The first bad line of certificates.
use Rattle.std.proofs.Common.{◌≡◌, ℕ, ◌≤◌, ◌↔◌, false, List, length, Ok, Err, refl, sym, ap, ◌∙◌}
use Rattle.reading_laws.specs.{TEXT_BYTES, CertFault, root_in, cert_of, Tree, IsFirstBadLine}
use Rattle.bound_cert.specs.declared.faults.CertFault.TheVariants.{Line, TooLong, Memory}
use Rattle.bound_cert.proofs.RootCases.{short_text}
use Rattle.bound_cert.proofs.TreeTexts.{root_printed}
use Rattle.bound_cert.proofs.TreesAgain.{spelling_again}
use Rattle.reading_laws.specs.Certificates.{IsCertificateText, IsRefusedAt}
use Rattle.reading_laws.proofs.Steady.{any_line, Never}
use Rattle.reading_laws.proofs.Law.{left_of, is_first, is_refused}
use Rattle.reading_laws.proofs.CertificateSteps.{IsFaultAt, root_closes}

found : (text : List ℕ) (tree : Tree) → root_in (left_of false text) ≡ Ok tree → IsCertificateText text
found text tree e = let printed = root_printed text tree e in (tree, printed.fits, printed.same)

only : (text : List ℕ) → IsCertificateText text → (tree : Tree) × (root_in (left_of false text) ≡ Ok tree)
only text is = (is.0, ap (λ (t : List ℕ). root_in (left_of false t)) is.2 ∙ spelling_again is.0 is.1)

one_place : (fault : CertFault) (m n : ℕ) → IsFaultAt fault m → IsFaultAt fault n → m ≡ n
one_place (Line line reason) m n a b = sym a ∙ b
one_place TooLong m n a b = absurd a
one_place Memory m n a b = absurd a

shown : (text : List ℕ) (line : ℕ) (fault : CertFault) → cert_of text ≡ Err fault → IsFaultAt fault line → IsRefusedAt text line
shown text line (Line at reason) e is = (reason, e ∙ ap (λ (n : ℕ). Err (Line n reason)) is)
shown text line TooLong e is = absurd is
shown text line Memory e is = absurd is

pub certificate_law : (text : List ℕ) (line : ℕ) → length text ≤ TEXT_BYTES → IsRefusedAt text line ↔ IsFirstBadLine IsCertificateText text line
certificate_law text line short = (
  λ r. is_first IsFaultAt any_line Never false root_in IsCertificateText found only root_closes one_place text (λ fault w. w.place.refused) line (Line line r.0) (sym (short_text text short) ∙ r.1) refl,
  λ is. let r = is_refused IsFaultAt any_line Never false root_in IsCertificateText found only root_closes text line (λ fault w. absurd w.place.refused) is in shown text line r.0 (short_text text short ∙ r.1) r.2,
)

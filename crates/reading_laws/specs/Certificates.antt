-- The texts of certificates, and when a text is refused as one at a line.
use Rattle.std.specs.Prelude.{◌≡◌, ℕ, List, Err}
use Rattle.bound_cert.specs.declared.faults.CertFault.TheVariants.{Line}
use Rattle.reading_laws.specs.Prelude.{cert_of, cert_text, Tree, IsCertificate}

-- the text of some certificate
abbrev pub IsCertificateText : List ℕ → Type 0
IsCertificateText text = (tree : Tree) × IsCertificate tree × (text ≡ cert_text tree)

-- a text is refused at this line, for some reason
abbrev pub IsRefusedAt : List ℕ → ℕ → Type 0
IsRefusedAt text line = (reason : ℕ) × (cert_of text ≡ Err (Line line reason))

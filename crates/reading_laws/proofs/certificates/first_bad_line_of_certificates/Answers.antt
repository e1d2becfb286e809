use Rattle.reading_laws.proofs.CertificateLaw.{certificate_law}
use Rattle.reading_laws.proofs.certificates.first_bad_line_of_certificates.Goals as goal

-- src/certificates.rt:8:1
pub returns : goal.returns
returns c = certificate_law

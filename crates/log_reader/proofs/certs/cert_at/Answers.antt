use Rattle.std.proofs.Common.{sym, subst}
use Rattle.bound_cert.specs.Reading.{cert_of}
use Rattle.log_reader.specs.{cert_by, or_log_fault, IsLogRefusal}
use Rattle.log_reader.specs.declared.fault.LogFault.{LogFault}
use Rattle.log_reader.proofs.CertCases.{cert_refused}
use Rattle.log_reader.proofs.LowNumbers.{cert_low}
use Rattle.log_reader.proofs.certs.cert_at.Goals as goal

pub fault_at-requires : goal.fault_at-requires
fault_at-requires c = record { number = c.requires; line = cert_low c.args.block.now c.in-Err.fault c.in-Err.ensures.exact }

pub returns-in-Err : goal.returns-in-Err
returns-in-Err c =
    let read = cert_of c.args.block.now in
    subst (λ (e : LogFault). IsLogRefusal e (or_log_fault (cert_by c.args.number read))) (sym c.fault_at.ensures) (cert_refused c.args.number c.in-Err.fault read c.in-Err.ensures.exact)

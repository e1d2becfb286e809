-- The texts of logs, and when a text is refused as one at a line.
use Rattle.std.specs.Prelude.{◌≡◌, ◌+◌, ◌<◌, ◌≤◌, ◌==◌, ◌⊎◌, ℕ, List, [], ◌∷◌, ◌++◌, Err, flat_map, if◌then◌else◌, length, take, All}
use Rattle.reading_laws.specs.Prelude.{AGENTS, TEXT_BYTES, CertFault, cert_of, cert_text, Tree, cert_line, LoggedGame, IsLogged, logged_text, log_of}
use Rattle.bound_cert.specs.declared.faults.CertFault.TheVariants as certs
use Rattle.log_reader.specs.declared.fault.LogFault.TheVariants.{Line}
use Rattle.reading_laws.specs.FirstBadLine.{lines_with_ends, IsFirstBadLine}

-- a certificate whose text may be read
abbrev pub HasShortText : Tree → Type 0
HasShortText tree = length (cert_text tree) ≤ TEXT_BYTES

-- the text of some log, of which each certificate may be read
abbrev pub IsLogText : List ℕ → Type 0
IsLogText text = (log : LoggedGame) × IsLogged log × All (λ scored. HasShortText scored.tree) log.scores × (text ≡ logged_text log)

-- a text is refused as a log at this line
abbrev pub IsRefusedLogAt : List ℕ → ℕ → Type 0
IsRefusedLogAt text line = log_of text ≡ Err (Line line)

-- ---- the exception

-- A log has these lines, each with its line end, before the line that says how long the certificate of this agent is.
pub record IsCertificateDue (before : List (List ℕ)) (agent : ℕ) : Type 0 where
  pub other : List ℕ
  pub is : IsLogText other
  pub count : ℕ
  pub after : List (List ℕ)
  pub lines : lines_with_ends other ≡ before ++ (cert_line agent count ++ 10 ∷ []) ∷ after

-- The bad line of lines that are refused as a certificate, where the line before them has this number: that line, if the certificate ends too early
-- or too late, which is reason 7, or is too long to be read; otherwise the line that is refused, which is counted from there.
abbrev pub bad_line_after : ℕ → CertFault → ℕ
bad_line_after number (certs.Line line reason) = if reason == 7 then number else number + line
bad_line_after number fault = number

-- After the line of this number these are left, each with its line end but the last, and so many of them are no certificate: there are too few, and
-- that line is bad; or they are refused as a certificate.
abbrev pub IsBadAfter : ℕ → List (List ℕ) → ℕ → ℕ → Type 0
IsBadAfter number after count line =
    ((length after ≤ count) × (line ≡ number))
    ⊎ ((count < length after) × ((fault : CertFault) × (cert_of (flat_map (λ bytes. bytes) (take count after)) ≡ Err fault) × (line ≡ bad_line_after number fault)))

-- The exception of certificates: a line says how long a certificate is, where that of its agent is due; so many lines after it are none; and for
-- this the given line is the bad one.
pub record IsBadCertificateLine (text : List ℕ) (line : ℕ) : Type 0 where
  pub before : List (List ℕ)
  pub agent : ℕ
  pub known : agent < AGENTS
  pub count : ℕ
  pub few : count ≤ 4294967295
  pub after : List (List ℕ)
  pub lines : lines_with_ends text ≡ before ++ (cert_line agent count ++ 10 ∷ []) ∷ after
  pub due : IsCertificateDue before agent
  pub bad : IsBadAfter (length before + 1) after count line

-- the line at which a text is refused: the one by the exception, or the first bad line if the exception gives no other
abbrev pub IsBadLogLine : List ℕ → ℕ → Type 0
IsBadLogLine text line = IsBadCertificateLine text line ⊎ (IsFirstBadLine IsLogText text line × ((other : ℕ) → IsBadCertificateLine text other → other ≡ line))

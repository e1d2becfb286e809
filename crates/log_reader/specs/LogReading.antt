-- How a log is read, line by line.
use Rattle.std.specs.Prelude.{ℕ, zero, suc, ◌+◌, ◌==◌, Bool, true, false, if◌then◌else◌, List, [], ◌∷◌, Option, Some, None, Result, Ok, Err, codes, bytes_eq}
use Rattle.log_reader.specs.Prelude.{AGENTS, ENTRY_TRADES, GOODS, LOG_LINKS, TEXT_BYTES, CashEntry, TextEnd, BadLine, words_of, NumberedLine, Remaining, due_of, at_line, block_of, nothing_left, Tree, CertFault, cert_of, Scored, Head, Play, Serve}
use Rattle.auction_rules.specs.History.{Entry}
use Rattle.text_forms.specs.Steps.{◌>>=◌, read_by, repeat}
use Rattle.bound_cert.specs.declared.faults.CertFault.TheVariants as certs
use Rattle.log_text.specs.LoggedGames.{LoggedGame}
use Rattle.log_reader.specs.HeadForms.{formed, is_text, read_link, read_end, read_missed}
use Rattle.log_reader.specs.EntryForms.{first_is, auction_of, trade_of, read_entry, read_cash_line, cash_entry_of}
use Rattle.log_reader.specs.SheetForms.{read_score, package_of, read_count}

-- the next line, by its form
abbrev pub line_by : {A : Type 0} → (List ℕ → Option A) → Remaining → Result (A × Remaining) BadLine
line_by form left = read_by (λ line. formed (form line)) left

-- ---- lines as long as they begin with a word

abbrev pub begins_in : List ℕ → List NumberedLine → Bool
begins_in word [] = false
begins_in word (line ∷ lines) = first_is word (words_of line.bytes)

abbrev pub begins : List ℕ → Remaining → Bool
begins word left = begins_in word left.lines

-- refuses the next line, which is one too many
abbrev pub refused_line : {A : Type 0} → Remaining → Result A BadLine
refused_line left = due_of left >>= λ line. Err (record { line = line.0.number; reason = TextEnd })

-- parts that are numbered from a number, as long as the next line begins with a word; at most this many are allowed
unfoldable pub as_long_as : {A : Type 0} → List ℕ → (ℕ → Remaining → Result (A × Remaining) BadLine) → ℕ → ℕ → Remaining → Result (List A × Remaining) BadLine
as_long_as word step zero from left = if begins word left then refused_line left else Ok ([], left)
as_long_as word step (suc room) from left =
    if begins word left then (do
      first ← step from left
      others ← as_long_as word step room (from + 1) first.1
      Ok (first.0 ∷ others.0, others.1))
    else Ok ([], left)

-- ---- the head

abbrev pub is_served : List ℕ → Option Bool
is_served line = if bytes_eq line (codes "play") then Some false else if bytes_eq line (codes "serve") then Some true else None

abbrev pub served_in : Remaining → Result (Head × Remaining) BadLine
served_in left = do
  links ← as_long_as (codes "link") (λ place. line_by (read_link place)) LOG_LINKS 0 left
  ends ← as_long_as (codes "end") (λ _. line_by read_end) TEXT_BYTES 0 links.1
  missed ← line_by read_missed ends.1
  Ok (Serve links.0 ends.0 missed.0, missed.1)

abbrev pub head_by : Bool → Remaining → Result (Head × Remaining) BadLine
head_by false left = Ok (Play, left)
head_by true left = served_in left

unfoldable pub head_in : Remaining → Result (Head × Remaining) BadLine
head_in left = do
  title ← line_by (is_text (codes "taclog 1")) left
  served ← line_by is_served title.1
  head_by served.0 served.1

-- ---- the histories

unfoldable pub entry_in : ℕ → Remaining → Result (Entry × Remaining) BadLine
entry_in good left = do
  line ← line_by read_entry left
  trades ← as_long_as (codes "trade") (λ _. line_by (trade_of good)) ENTRY_TRADES 0 line.1
  Ok (record { caller = line.0.0; call = line.0.1; reply = line.0.2; trades = trades.0 }, trades.1)

unfoldable pub history_in : ℕ → Remaining → Result (List Entry × Remaining) BadLine
history_in good left = do
  count ← line_by (auction_of good) left
  repeat count.0 0 (λ _. entry_in good) count.1

unfoldable pub cash_in : Remaining → Result (List CashEntry × Remaining) BadLine
cash_in left = do
  count ← line_by read_cash_line left
  repeat count.0 0 (λ _. line_by cash_entry_of) count.1

-- ---- the sheet

-- The certificate in the block after the line of this number. If the block ends too early or too late, that line
-- is the bad one.
abbrev pub cert_by : ℕ → Result Tree CertFault → Result Tree BadLine
cert_by number (Ok tree) = Ok tree
cert_by number (Err (certs.Line line reason)) =
    if reason == 7 then Err (record { line = number; reason = TextEnd }) else Err (record { line = number + line; reason = TextEnd })
cert_by number (Err certs.TooLong) = Err (record { line = number; reason = TextEnd })
cert_by number (Err certs.Memory) = Err (record { line = number; reason = TextEnd })

-- the certificate of the lines of a block, if enough lines are left
abbrev pub block_by : ℕ → Option (List ℕ × Remaining) → Result (Tree × Remaining) BadLine
block_by number None = Err (record { line = number; reason = TextEnd })
block_by number (Some block) = cert_by number (cert_of block.0) >>= λ tree. Ok (tree, block.1)

-- the certificate of an agent: its number of lines, and that many lines
unfoldable pub cert_in : ℕ → Remaining → Result (Tree × Remaining) BadLine
cert_in agent left = do
  line ← due_of left
  count ← at_line line.0.number (formed (read_count agent line.0.bytes))
  block_by line.0.number (block_of count line.1)

unfoldable pub score_in : ℕ → Remaining → Result (Scored × Remaining) BadLine
score_in agent left = do
  score ← line_by (read_score agent) left
  packages ← repeat 8 0 (λ client. line_by (package_of agent client)) score.1
  cert ← cert_in agent packages.1
  Ok (record { best = score.0.0; cash = score.0.1; short = score.0.2; score = score.0.3; allocation = packages.0; tree = cert.0 }, cert.1)

-- ---- the log

-- the log of the lines of a text, or the first bad line
unfoldable pub log_in : Remaining → Result LoggedGame BadLine
log_in left = do
  head ← head_in left
  histories ← repeat GOODS 0 history_in head.1
  cash ← cash_in histories.1
  sheet ← line_by (is_text (codes "sheet")) cash.1
  scores ← repeat AGENTS 0 score_in sheet.1
  end ← line_by (is_text (codes "end")) scores.1
  done ← nothing_left end.1
  Ok (record { head = head.0; histories = histories.0; cash = cash.0; scores = scores.0 })

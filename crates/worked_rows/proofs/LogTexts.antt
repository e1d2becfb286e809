-- Texts that are no logs, and the first line at which each goes wrong.
use Rattle.std.proofs.Common.{◌≡◌, ℕ, false, List, [], Result, Err, refl, codes}
use Rattle.tac_base.specs.Numerals.{numeral}
use Rattle.text_forms.specs.declared.lines.Reason.{Reason}
use Rattle.text_forms.specs.declared.lines.Reason.TheVariants.{Spelling, TextEnd}
use Rattle.text_forms.specs.declared.lines.BadLine.{BadLine}
use Rattle.text_forms.specs.Words.{parts_of}
use Rattle.text_forms.specs.Rows.{row}
use Rattle.text_forms.specs.Lines.{lines_from}
use Rattle.text_forms.specs.Steps.{repeat}
use Rattle.log_text.specs.LoggedGames.{LoggedGame}
use Rattle.log_reader.specs.EntryForms.{auction_of, read_entry}
use Rattle.log_reader.specs.LogReading.{head_in, entry_in, history_in, log_in}

-- what is read of a text
abbrev read : List ℕ → Result LoggedGame BadLine
read text = log_in (lines_from false 1 (parts_of 10 text))

abbrev bad : ℕ → Reason → Result LoggedGame BadLine
bad line reason = Err (record { line = line; reason = reason })

-- no line, too many entries, since a history has at most 8256, a trade where an entry is due, and a line that has no line end
texts_that_are_no_logs : (read [] ≡ bad 1 TextEnd)
    × (read (codes "taclog 1\nplay\nauction 0 8257\n") ≡ bad 3 Spelling)
    × (read (codes "taclog 1\nplay\nauction 0 1\ntrade 0 1 1 60\n") ≡ bad 4 Spelling)
    × (read (codes "taclog 1\nplay\nauction 0 0") ≡ bad 3 TextEnd)
unfolding log_in head_in repeat history_in entry_in auction_of read_entry row numeral
texts_that_are_no_logs = (refl, refl, refl, refl)

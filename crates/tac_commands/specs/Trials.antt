-- The summary of a made game that was played by a made script.
use Rattle.std.specs.Prelude.{ℕ, List, ◌++◌, decimal, codes}
use Rattle.tac_commands.specs.Prelude.{text_of, lines_of_parts, one_line, Scored, PlayCount}
use Rattle.game_log.specs.SheetText.{score_line}
use Rattle.tac_commands.specs.NumberedLines.{counted}

-- trial SEED COUNT
abbrev pub trial_line : ℕ → ℕ → List ℕ
trial_line seed count = codes "trial " ++ decimal seed ++ codes " " ++ decimal count ++ codes "\n"

-- the counts of entries and trades, and the scores of the eight agents, one per line
abbrev pub trial_text : ℕ → ℕ → PlayCount → List Scored → List ℕ
trial_text seed count played sheet =
    trial_line seed count
    ++ counted (codes "entries") played.entries
    ++ counted (codes "trades") played.trades
    ++ text_of (lines_of_parts (one_line score_line) 0 sheet)
    ++ codes "end\n"

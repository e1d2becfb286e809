-- What the bytes of a link give when they are cut into lines. The limits of a line and of a link are our own rules.
use Rattle.std.specs.Prelude.{zero, suc, ℕ, ◌==◌, ◌++◌, List, [], ◌∷◌, length, nat_le, if◌then◌else◌}
use Rattle.tac_base.specs.declared.limits.TheConstants.{LINE_BYTES}
use Rattle.tac_io.specs.declared.line_got.LineGot.{LineGot}
use Rattle.tac_io.specs.declared.line_got.LineGot.TheVariants.{Line, TooLong, End, Budget}

-- A line of at most 512 bytes is given without its line end; a longer one is only reported to be too long.
-- Row: longest_line (worked_rows/proofs/Links.antt)
abbrev pub ended_line : List ℕ → LineGot × List ℕ
ended_line line = if nat_le (length line) LINE_BYTES then (Line, line) else (TooLong, [])

-- What the bytes give, one answer after the other. `line` has the bytes since the last line end, and at most `room` of `bytes` may be
-- taken. The bytes are cut at each byte 10. The list ends with `Budget` if `room` is used up, which is tested first, or else with
-- `End`: the bytes give no further line, and those without a line end are dropped. It never has `Failed`, which no bytes can show.
-- Row: lines_have_ends_and_fit_the_budget (worked_rows/proofs/Links.antt)
abbrev pub all_answers : List ℕ → ℕ → List ℕ → List (LineGot × List ℕ)
all_answers line zero bytes = (Budget, []) ∷ []
all_answers line (suc room) [] = (End, []) ∷ []
all_answers line (suc room) (byte ∷ bytes) =
    if byte == 10 then ended_line line ∷ all_answers [] room bytes else all_answers (line ++ byte ∷ []) room bytes

-- The refusals of a game file and of an account file.
use Rattle.std.specs.Prelude.{Result, Ok, Err}
use Rattle.text_forms.specs.declared.lines.BadLine.{BadLine}
use Rattle.text_forms.specs.Lines.{reason_number}
use Rattle.game_text.specs.declared.fault.GameFault.{GameFault}
use Rattle.game_text.specs.declared.fault.GameFault.TheVariants.{Line}

-- a bad line with its reason as a number
abbrev pub game_fault : BadLine → GameFault
game_fault bad = Line bad.line (reason_number bad.reason)

-- a bad line as a refusal
abbrev pub or_game_fault : {A : Type 0} → Result A BadLine → Result A GameFault
or_game_fault (Ok x) = Ok x
or_game_fault (Err bad) = Err (game_fault bad)

-- The numbers of the codes that the program ends with, and the code and the text of an outcome.
use Rattle.std.specs.Prelude.{ℕ, List}
use Rattle.tac_commands.specs.declared.code.Code.{Code}
use Rattle.tac_commands.specs.declared.code.Code.TheVariants.{Success, Usage, GameRefused, ReadFault, WriteFault, LinkFault, ClockFault, Memory, TextRefused, Unsound}
use Rattle.tac_commands.specs.Outcomes.{Outcome, exit_of}

abbrev pub code_number : Code → ℕ
code_number Success = 0
code_number Usage = 1
code_number GameRefused = 2
code_number ReadFault = 3
code_number WriteFault = 4
code_number LinkFault = 5
code_number ClockFault = 6
code_number Memory = 7
code_number TextRefused = 8
code_number Unsound = 9

abbrev pub code_of : Outcome → ℕ
code_of outcome = (exit_of outcome).0

abbrev pub exit_text : Outcome → List ℕ
exit_text outcome = (exit_of outcome).1

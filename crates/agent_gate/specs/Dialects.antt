-- The form of an agent's lines, such as words or JSON, as far as a session depends on it.
use Rattle.std.specs.Prelude.{ℕ, List, Result}
use Rattle.line_protocol.specs.declared.asking.Request.{Request}
use Rattle.line_protocol.specs.declared.asking.RequestFault.{RequestFault}
use Rattle.line_protocol.specs.declared.saying.Said.{Said}

-- a form of lines
pub record Dialect : Type 1 where
  -- what a line may be read as: a request, or the fault of a line that is none
  pub may_answer : List ℕ → Result Request RequestFault → Type 0
  -- the line of each reply, without its line end
  pub text : Said → List ℕ

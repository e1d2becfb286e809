-- A piece of a script is answered.
use Rattle.std.proofs.Common.{◌≡◌, ℕ, List, [], ◌++◌, sym, ap, ◌∙◌, subst, append-nil, Result, Ok, Err, MatchResult}
use Rattle.script_run.specs.{parts_of, SinkState, GameFile, TookWhole, TookPart, Heard, heard_from, replies, Answered, HasAnswered, IsStepping, StopsAtLine, stopped_by}
use Rattle.game_log.proofs.Writing.{then_some, then_whole}
use Rattle.script_run.specs.declared.fault.ScriptFault.{ScriptFault}
use Rattle.script_run.specs.declared.fault.ScriptFault.TheVariants as scripts
use Rattle.script_run.specs.declared.game.lines.GameLine.{GameLine}
use Rattle.script_run.specs.declared.game.stepping.Stepper.{Stepper}
use Rattle.script_run.proofs.Hearing.{heard_rest}

-- all replies are written once no text is left
pub all_written : (game : GameFile) (given written : List ℕ) (stepper : Stepper) → stepper.run.text.items ≡ [] → (s : IsStepping game given written stepper) → written ≡ replies game s.lines
all_written game given written stepper none s =
    sym (append-nil written) ∙ (ap (λ (l : List ℕ). written ++ l) (sym none) ∙ s.ran.text)

-- what was heard of the bytes that were played
pub heard_in : (game : GameFile) (given written : List ℕ) (stepper : Stepper) (s : IsStepping game given written stepper) → heard_from [] (parts_of 10 given) ≡ (s.lines, Ok s.rest)
heard_in game given written stepper s =
    ap (λ (l : List ℕ). heard_from [] (parts_of 10 l)) (sym (append-nil given)) ∙ (s.heard []
    ∙ (ap (λ (l : List ℕ). heard_from s.lines (parts_of 10 l)) (append-nil s.rest) ∙ heard_rest s.lines s.rest s.no_end))

module _ (game : GameFile) (given piece : List ℕ) (start sink sink' : SinkState) (before : Stepper) (has : HasAnswered game given start before sink) (text : List ℕ) where
  -- the lines of a piece were good, and the replies to them were written
  pub answers_all : (after : Stepper) → after.run.text.items ≡ [] → IsStepping game (given ++ piece) (has.written ++ text) after → TookWhole sink sink' text → HasAnswered game (given ++ piece) start after sink'
  answers_all after none s took = record {
    written = has.written ++ text;
    stepping = s;
    all = all_written game (given ++ piece) (has.written ++ text) after none s;
    took = then_whole has.written text start sink sink' has.took took;
  }

  -- a line was bad, and the replies to the lines before it were written
  pub answers_bad : (heard after : Stepper) (fault : ScriptFault) → heard.run.text.items ≡ text → StopsAtLine game (given ++ piece) has.written heard fault → TookWhole sink sink' text →
      Answered game (given ++ piece) start after sink' (Err (stopped_by fault))
  answers_bad heard after (scripts.Line line reason) is stop took = (
    stop.0,
    ap (λ (l : List ℕ). heard_from [] (parts_of 10 l)) (sym (append-nil (given ++ piece))) ∙ stop.1 [],
    subst (TookWhole start sink') (ap (λ (l : List ℕ). has.written ++ l) (sym is) ∙ stop.2) (then_whole has.written text start sink sink' has.took took),
  )
  answers_bad heard after scripts.TooLong is stop took = absurd stop
  answers_bad heard after scripts.Failed is stop took = absurd stop
  answers_bad heard after scripts.Memory is stop took = absurd stop

  -- a write failed
  pub answers_part : (heard : Stepper) (result : Result (Unit {0}) ScriptFault) → heard.run.text.items ≡ text →
      MatchResult result (λ _. IsStepping game (given ++ piece) has.written heard) (StopsAtLine game (given ++ piece) has.written heard) → TookPart sink sink' text →
      TookPart start sink' (replies game (heard_from [] (parts_of 10 (given ++ piece))).0)
  answers_part heard result is lines took = subst (TookPart start sink') (by_result result lines) (then_some has.written text start sink sink' has.took took)
    where
      all : (lines : List GameLine) → has.written ++ heard.run.text.items ≡ replies game lines → (heard_from [] (parts_of 10 (given ++ piece))).0 ≡ lines →
          has.written ++ text ≡ replies game (heard_from [] (parts_of 10 (given ++ piece))).0
      all lines due same = ap (λ (l : List ℕ). has.written ++ l) (sym is) ∙ (due ∙ ap (replies game) (sym same))

      of_fault : (fault : ScriptFault) → StopsAtLine game (given ++ piece) has.written heard fault → has.written ++ text ≡ replies game (heard_from [] (parts_of 10 (given ++ piece))).0
      of_fault (scripts.Line line reason) stop =
          all stop.0 stop.2 (ap (λ (h : Heard). h.0) (ap (λ (l : List ℕ). heard_from [] (parts_of 10 l)) (sym (append-nil (given ++ piece))) ∙ stop.1 []))
      of_fault scripts.TooLong stop = absurd stop
      of_fault scripts.Failed stop = absurd stop
      of_fault scripts.Memory stop = absurd stop

      by_result : (r : Result (Unit {0}) ScriptFault) → MatchResult r (λ _. IsStepping game (given ++ piece) has.written heard) (StopsAtLine game (given ++ piece) has.written heard) →
          has.written ++ text ≡ replies game (heard_from [] (parts_of 10 (given ++ piece))).0
      by_result (Ok done) s = all s.lines s.ran.text (ap (λ (h : Heard). h.0) (heard_in game (given ++ piece) has.written heard s))
      by_result (Err fault) stop = of_fault fault stop

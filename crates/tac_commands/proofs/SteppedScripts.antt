-- How a command ends that played a game line by line.
use Rattle.std.proofs.Common.{◌≡◌, ℕ, true, false, List, [], ◌∷◌, ◌++◌, refl, sym, ap, ◌∙◌, subst, inl, inr, Option, Some, None, ◌⊎◌, IfSome, IsSome, Result, Ok, Err}
use Rattle.tac_commands.specs.{FilesState, SinkState, known_then, then_known, GameFile, TookPart, TookWhole, StepFault, GameLine, closed_game, first_out, game_script, IsLawfulGame, replies, IsFirstOut, IsPlayOut, HasReadCause, Gave, StepsGame, Tells, TellsFault, TellsGame, IsUnwritten, IsPlayText, StepAllows, step_steps, EndsSteps, step_end, Content, IsScriptOutcome, IsGiven, Outcome, Done, Stopped}
use Rattle.tac_io.proofs.KnownPieces.{then_known-nothing}
use Rattle.script_run.specs.declared.fault.StepFault.TheVariants.{Line, TooLong, Unread, Unwritten, Memory}
use Rattle.script_run.specs.HeardScripts.{heard_lines, Reading, Standing, Whole, BadAt, Overlong, BrokenOff, Open, script_standing}
use Rattle.script_run.proofs.StoodScripts.{whole_is}
use Rattle.tac_commands.specs.declared.refusals.Refusal.{Refusal}
use Rattle.tac_commands.specs.declared.refusals.Refusal.TheVariants as refusals
use Rattle.tac_commands.specs.Outcomes as outcomes
use Rattle.tac_commands.specs.Runs.{Runs}
use Rattle.tac_commands.proofs.OneThreadCash.{cash_of_script}
use Rattle.tac_commands.proofs.SoundLogs.{played_soundly}
use Rattle.tac_commands.proofs.Unambiguous.{same_value}

-- what is written in place of the rest
abbrev refusal_by : StepFault → Refusal
refusal_by (Line line reason) = refusals.TextLine line reason
refusal_by TooLong = refusals.TextTooLong
refusal_by Unread = refusals.ReadFault
refusal_by Unwritten = refusals.Memory
refusal_by Memory = refusals.Memory

-- the first bytes of a selected file, and what is left of it
given_is : (content : Content) (name given : List ℕ) (selected left : Option (List ℕ)) → IfSome content (λ files. IsSome (files name) × (selected ≡ files name)) → selected ≡ then_known given left →
    IsGiven content name given left
given_is None name given selected left found gave = tt
given_is (Some files) name given selected left found gave = by_left left refl (sym found.1 ∙ gave)
  where
    by_left : (l : Option (List ℕ)) → left ≡ l → files name ≡ then_known given l → (rest : List ℕ) × (files name ≡ Some (given ++ rest)) × (left ≡ Some rest)
    by_left None same is = let some : false ≡ true = subst (λ (o : Option (List ℕ)). IsSome o) is found.0 in absurd cc
    by_left (Some rest) same is = (rest, is, same)

module _ (game : GameFile) (law : (script : List ℕ) (lines : List GameLine) → game_script script ≡ Ok lines → IsLawfulGame game (closed_game game lines))
    (files between files' : FilesState) (name : List ℕ) (sink sink' : SinkState) (found : IfSome files.content (λ told. IsSome (told name) × (between.left ≡ told name)))
    (selected : between.names ≡ known_then files.names (name ∷ [])) (quiet : between.faults ≡ files.faults) (kept : files'.names ≡ between.names) where
  abbrev IsEnd : Result (Unit {0}) StepFault → Type 0
  IsEnd result = EndsSteps (step_steps game name) files files' sink sink' (step_end result)

  module _ (given : List ℕ) (reading : Reading) (gave : Gave given reading between files') where
    -- the script was heard, and this outcome answers it
    heard : (outcome : Outcome) (stands : Standing) → script_standing given reading ≡ stands → IsScriptOutcome (replies game) (StepAllows game) (heard_lines given) stands outcome → Runs (step_steps game name) files files' outcome
    heard outcome stands is answer = (
      inr (
        given,
        reading,
        given_is files.content name given between.left files'.left found gave.0,
        gave.1,
        subst (λ (n : ℕ). HasReadCause (script_standing given reading) n files'.faults) quiet gave.2,
        subst (λ (s : Standing). IsScriptOutcome (replies game) (StepAllows game) (heard_lines given) s outcome) (sym is) answer,
      ),
      kept ∙ selected,
    )

    -- ---- a script that was heard whole

    module _ (whole : script_standing given reading ≡ Whole) where
      lines_are : (lines : List GameLine) → game_script given ≡ Ok lines → lines ≡ heard_lines given
      lines_are lines good = same_value (game_script given) lines (heard_lines given) good (whole_is given reading whole).good

      played_run : (text : List ℕ) → IsPlayOut game given text → Runs (step_steps game name) files files' (Done text)
      played_run text out = heard (Done text) Whole whole (
        subst (λ (lines : List GameLine). IsPlayText game lines text) (lines_are out.lines out.good.good)
            (out.sheet, out.scores, out.due, played_soundly game out.lines out.sheet text (law given out.lines out.good.good) out.scores out.shown out.due),
        cash_of_script game (heard_lines given),
      )

      first_run : (text : List ℕ) → IsFirstOut game given text → Runs (step_steps game name) files files' (Stopped text refusals.Memory)
      first_run text out = heard (Stopped text refusals.Memory) Whole whole (
        subst (λ (lines : List GameLine). text ≡ first_out game lines) (lines_are out.lines out.good.good) out.due,
        cash_of_script game (heard_lines given),
      )

      unwritten : (text : List ℕ) → IsFirstOut game given text ⊎ IsPlayOut game given text → TookPart sink sink' text → IsEnd (Err Unwritten)
      unwritten text (inl first) some = inr (inl (text, refusals.Memory, first_run text first, some))
      unwritten text (inr played) some = inl (text, inl (played_run text played), some)

      whole_end : (result : Result (Unit {0}) StepFault) → TellsGame game given sink sink' result → IsEnd result
      whole_end (Ok done) reports = inl (reports.0, played_run reports.0 reports.1, reports.2)
      whole_end (Err Unwritten) reports = unwritten reports.0 reports.1 reports.2
      whole_end (Err Memory) reports = inr (inl (reports.0, refusals.Memory, first_run reports.0 reports.1, (refl, reports.2)))
      whole_end result reports = absurd reports

    -- ---- a script that was not

    fault_end : (fault : StepFault) (text : List ℕ) (result : Result (Unit {0}) StepFault) → Runs (step_steps game name) files files' (Stopped text (refusal_by fault)) → TellsFault text fault sink sink' result → IsEnd result
    fault_end fault text (Ok done) run reports = absurd reports
    fault_end fault text (Err Unwritten) run reports = inr (inl (text, refusal_by fault, run, reports))
    fault_end fault text result run reports = inr (inl (text, refusal_by fault, run, (ap refusal_by reports.0, reports.1)))

    unread_end : (text : List ℕ) (result : Result (Unit {0}) StepFault) → Runs (step_steps game name) files files' (outcomes.Unread text) → (result ≡ Err Unread) × TookWhole sink sink' text → IsEnd result
    unread_end text result run reports = rw reports.0 (inr (inr (text, run, refl, reports.1)))

    open_end : (text : List ℕ) (result : Result (Unit {0}) StepFault) → Runs (step_steps game name) files files' (outcomes.Unwritten text) → IsUnwritten text sink sink' result → IsEnd result
    open_end text (Err Unwritten) run reports = inl (text, inr (inr run), reports)
    open_end text result run reports = absurd reports

    by_standing : (stands : Standing) → script_standing given reading ≡ stands → (result : Result (Unit {0}) StepFault) → Tells game given stands sink sink' result → IsEnd result
    by_standing Whole is result reports = whole_end is result reports
    by_standing (BadAt line reason) is result reports =
        fault_end (Line line reason) (replies game (heard_lines given)) result (heard (Stopped (replies game (heard_lines given)) (refusals.TextLine line reason)) (BadAt line reason) is refl) reports
    by_standing Overlong is result reports =
        fault_end TooLong (replies game (heard_lines given)) result (heard (Stopped (replies game (heard_lines given)) refusals.TextTooLong) Overlong is refl) reports
    by_standing BrokenOff is result reports =
        unread_end (replies game (heard_lines given)) result (heard (outcomes.Unread (replies game (heard_lines given))) BrokenOff is refl) reports
    by_standing Open is result reports =
        open_end (replies game (heard_lines given)) result (heard (outcomes.Unwritten (replies game (heard_lines given))) Open is refl) reports

  -- memory was refused before anything was read
  unheard : (result : Result (Unit {0}) StepFault) → result ≡ Err Memory → files' ≡ between → sink' ≡ sink → IsEnd result
  unheard result is same_files same =
      let whole : between.left ≡ then_known [] files'.left = ap (λ (s : FilesState). s.left) (sym same_files) ∙ sym (then_known-nothing files'.left) in
      rw is (inl ((inl (inr (refl, given_is files.content name [] between.left files'.left found whole, ap (λ (s : FilesState). s.faults) same_files ∙ quiet)), kept ∙ selected), same))

  pub stepped : (result : Result (Unit {0}) StepFault) → StepsGame game between files' sink sink' result → IsEnd result
  stepped result (inl memory) = unheard result memory.0 memory.1 memory.2
  stepped result (inr steps) = by_standing steps.0 steps.1 steps.2 (script_standing steps.0 steps.1) refl result steps.3

-- How a command ends whose files were read, or not.
use Rattle.std.proofs.Common.{◌≡◌, ℕ, List, [], ◌∷◌, refl, ap, ◌∙◌, subst, inl, inr, ◌⊎◌}
use Rattle.tac_commands.specs.{Rose, FilesState, SinkState, known_then, HasReadCause, Value, Content, IsFileRead, IsNotRead, HasFault, IsGiven, IsScriptHeard, IsUnheard, Outcome}
use Rattle.script_run.specs.HeardScripts.{script_standing}
use Rattle.tac_commands.specs.declared.ends.End.{End}
use Rattle.tac_commands.specs.declared.file_kinds.FileKind.{FileKind}
use Rattle.tac_commands.specs.declared.refusals.Refusal.{Refusal}
use Rattle.tac_commands.specs.Runs.{Runs, with_name}
use Rattle.tac_commands.specs.Steps.{NamedFile, Steps, Reads, Judges, Hears, EndsWith}
use Rattle.tac_commands.specs.Ends.{Ends, EndsSteps}
use Rattle.tac_commands.proofs.Endings.{weaker}

-- a run sees of the files that it begins with what they hold, the names that were selected, and the count of faults
module _ (last : FilesState) (outcome : Outcome) where
  still_not_read : (files files' : FilesState) (kind : FileKind) (name : List ℕ) (refusal : Refusal) → files'.content ≡ files.content → files'.faults ≡ files.faults →
      IsNotRead files' last kind name refusal → IsNotRead files last kind name refusal
  still_not_read files files' kind name refusal same quiet (inl fault) = inl (fault.0, subst (λ (n : ℕ). Rose n last.faults) quiet fault.1)
  still_not_read files files' kind name refusal same quiet (inr (inl memory)) = inr (inl (memory.0, memory.1 ∙ quiet))
  still_not_read files files' kind name refusal same quiet (inr (inr bad)) =
      inr (inr (bad.0, bad.1, subst (λ (c : Content). HasFault c kind name bad.0) same bad.2, bad.3 ∙ quiet))

  pub runs_from : (steps : Steps) (files files' : FilesState) → files'.content ≡ files.content → files'.names ≡ files.names → files'.faults ≡ files.faults →
      Runs steps files' last outcome → Runs steps files last outcome
  runs_from (Reads file next) files files' same selected quiet (inl read) = inl (
    read.0,
    subst (λ (c : Content). IsFileRead c file.kind file.name read.0) same read.1,
    runs_from (next read.0) (with_name files file.name) (with_name files' file.name) same (ap (λ names. known_then names (file.name ∷ [])) selected) quiet read.2,
  )
  runs_from (Reads file next) files files' same selected quiet (inr stop) = inr (
    stop.0,
    stop.1,
    still_not_read files files' file.kind file.name stop.0 same quiet stop.2,
    stop.3 ∙ ap (λ names. known_then names (file.name ∷ [])) selected,
  )
  runs_from (Judges IsRight IsDue next) files files' same selected quiet (inl run) = inl (run.0, runs_from next files files' same selected quiet run.1)
  runs_from (Judges IsRight IsDue next) files files' same selected quiet (inr stop) = inr (stop.0, (stop.1.0 ∙ selected, stop.1.1 ∙ quiet))
  runs_from (Hears name replies allows) files files' same selected quiet run =
      (still_heard run.0, run.1 ∙ ap (λ names. known_then names (name ∷ [])) selected)
    where
      still_heard : IsUnheard files' last name outcome ⊎ IsScriptHeard replies allows files' last name outcome → IsUnheard files last name outcome ⊎ IsScriptHeard replies allows files last name outcome
      still_heard (inl (inl fault)) = inl (inl (fault.0, fault.1, subst (λ (n : ℕ). Rose n last.faults) quiet fault.2))
      still_heard (inl (inr memory)) = inl (inr (memory.0, subst (λ (c : Content). IsGiven c name [] last.left) same memory.1, memory.2 ∙ quiet))
      still_heard (inr heard) = inr (
        heard.0,
        heard.1,
        subst (λ (c : Content). IsGiven c name heard.0 last.left) same heard.2,
        heard.3,
        subst (λ (n : ℕ). HasReadCause (script_standing heard.0 heard.1) n last.faults) quiet heard.4,
        heard.5,
      )
  runs_from (EndsWith allows) files files' same selected quiet run = (run.0, (run.1.0 ∙ selected, run.1.1 ∙ quiet))

module _ (files between : FilesState) (file : NamedFile) (next : Value file.kind → Steps) (value : Value file.kind) (is : IsFileRead files.content file.kind file.name value)
    (same : between.content ≡ files.content) (selected : between.names ≡ known_then files.names (file.name ∷ [])) (quiet : between.faults ≡ files.faults) where
  -- a run that goes on from here is one from before the file was read
  pub runs_on : (files' : FilesState) (outcome : Outcome) → Runs (next value) between files' outcome → Runs (Reads file next) files files' outcome
  runs_on files' outcome run = inl (value, is, runs_from files' outcome (next value) (with_name files file.name) between same selected quiet run)

  -- a file was read before others
  pub ends_later : (files' : FilesState) (sink sink' : SinkState) (end : End) → EndsSteps (next value) between files' sink sink' end → EndsSteps (Reads file next) files files' sink sink' end
  ends_later files' sink sink' end ended = weaker (Runs (next value) between files') (Runs (Reads file next) files files') sink sink' end (runs_on files') ended

-- no file is read any more
pub ends_alone : (files : FilesState) (allows : Outcome → Type 0) (sink sink' : SinkState) (end : End) → Ends allows sink sink' end → EndsSteps (EndsWith allows) files files sink sink' end
ends_alone files allows sink sink' end ended = weaker allows (Runs (EndsWith allows) files files) sink sink' end (λ outcome allowed. (allowed, (refl, refl))) (inl ended)

-- A game that was played line by line was answered at once.
use Rattle.std.proofs.Common.{◌≡◌, ℕ, Bool, true, false, List, [], ◌∷◌, ◌++◌, ◌≤◌, length, take, sym, ap, ◌∙◌, subst, inl, inr, Option, Some, None, ◌==◌, IfSome, IsSome, MatchBool, Result, Ok}
use Rattle.std.proofs.lemmas.List.{append_cancel_right}
use Rattle.std.proofs.lemmas.Option.{same_Some}
use Rattle.tac_commands.specs.{FilesState, SinkState, known_then, then_known, GameFile, game_of, TookWhole, TookPart, StepFault, IsPrompt, StepsGame, IsQuiet, BatchCommand, Step, Finishes, Content, IsFileRead, HearsPromptly, StepsPromptly, IsPromptBatch}
use Rattle.script_run.specs.Stepping.{TookMore}
use Rattle.script_run.proofs.SteppedGames.{prompt_kept, prompt_nothing, took_none}
use Rattle.tac_commands.specs.declared.ends.End.{End}
use Rattle.tac_commands.specs.declared.ends.End.TheVariants as ends
use Rattle.tac_commands.specs.declared.file_kinds.FileKind.TheVariants.{Game}
use Rattle.tac_commands.proofs.Unambiguous.{same_file, same_value}

-- ---- a script

-- the same bytes were given if the same are left
same_given : (given other rest : List ℕ) (left : Option (List ℕ)) → left ≡ Some rest → Some (given ++ rest) ≡ then_known other left → given ≡ other
same_given given other rest left is same =
    append_cancel_right given other rest (same_Some (given ++ rest) (other ++ rest) (same ∙ ap (then_known other) is))

module _ (game : GameFile) (files between files' : FilesState) (name : List ℕ) (sink sink' : SinkState) where
  pub hears_promptly : (result : Result (Unit {0}) StepFault) (content : Content) → IfSome content (λ told. IsSome (told name) × (between.left ≡ told name)) → StepsGame game between files' sink sink' result →
      IfSome content (λ told. (given rest : List ℕ) → told name ≡ Some (given ++ rest) → files'.left ≡ Some rest → IsQuiet files.faults files'.faults → IsPrompt game given sink sink')
  hears_promptly result None found steps = tt
  hears_promptly result (Some told) found steps = λ given rest is left quiet. by_steps steps given rest (sym (found.1 ∙ is)) left
    where
      by_steps : StepsGame game between files' sink sink' result → (given rest : List ℕ) → Some (given ++ rest) ≡ between.left → files'.left ≡ Some rest → IsPrompt game given sink sink'
      by_steps (inl memory) given rest is left =
          let none : given ≡ [] = same_given given [] rest files'.left left (is ∙ (ap (λ (s : FilesState). s.left) (sym memory.1) ∙ (left ∙ ap (then_known []) (sym left)))) in
          subst (λ (g : List ℕ). IsPrompt game g sink sink') (sym none) (subst (λ (s : SinkState). IsPrompt game [] sink s) (sym memory.2) (prompt_nothing game sink))
      by_steps (inr heard) given rest is left =
          let same : given ≡ heard.0 = same_given given heard.0 rest files'.left left (is ∙ heard.2.0) in
          subst (λ (g : List ℕ). IsPrompt game g sink sink') (sym same) heard.4

-- ---- a game and a script

module _ (files between files' : FilesState) (name script : List ℕ) (sink sink' : SinkState) where
  -- no script is selected after a game that was not read
  not_selected : (names : Option (List (List ℕ))) → IfSome names (λ selected. (selected ≡ []) × (length name ≤ 1024) × (length script ≤ 1024)) → files'.names ≡ known_then names (name ∷ []) → files'.names ≡ Some (name ∷ script ∷ []) → ⊥
  not_selected None none after both = let is : ◌≡◌ {A = Option (List (List ℕ))} None (Some (name ∷ script ∷ [])) = sym after ∙ both in absurd cc
  not_selected (Some names) none after both =
      let is : Some (names ++ name ∷ []) ≡ Some (name ∷ script ∷ []) = sym after ∙ both in
      let one : Some (name ∷ []) ≡ Some (name ∷ script ∷ []) = subst (λ (l : List (List ℕ)). Some (l ++ name ∷ []) ≡ Some (name ∷ script ∷ [])) none.0 is in
      absurd cc

  abbrev Promptly : (List ℕ → Option (List ℕ)) → GameFile → ℕ → Type 0
  Promptly told game before = (given rest : List ℕ) → told script ≡ Some (given ++ rest) → files'.left ≡ Some rest → IsQuiet before files'.faults → IsPrompt game given sink sink'

  abbrev SteppedPromptly : Content → Type 0
  SteppedPromptly content = IfSome content (λ told. (bytes : List ℕ) (game : GameFile) → told name ≡ Some bytes → game_of bytes ≡ Ok game → files'.names ≡ Some (name ∷ script ∷ []) →
      IfSome files.content (λ told. Promptly told game files.faults))

  of_file : (read : GameFile) (content : Content) → IsFileRead content Game name read → IfSome files.content (λ told. Promptly told read files.faults) → SteppedPromptly content
  of_file read None is promptly = tt
  of_file read (Some told) is promptly = λ bytes game file holds both.
      let same : read ≡ game = same_value (game_of bytes) read game (subst (λ (l : List ℕ). game_of l ≡ Ok read) (same_file (told name) is.0 bytes is.1 file) is.2) holds in
      subst (λ (g : GameFile). IfSome files.content (λ told. Promptly told g files.faults)) same promptly

  -- the game that was read is that of the file
  pub steps_promptly : (read : GameFile) → IsFileRead files.content Game name read → between.content ≡ files.content → between.faults ≡ files.faults → HearsPromptly read script between files' sink sink' →
      StepsPromptly name script files files' sink sink'
  steps_promptly read is same quiet promptly =
      of_file read files.content is
      (subst (λ (n : ℕ). IfSome files.content (λ told. Promptly told read n)) quiet (subst (λ (c : Content). IfSome c (λ told. Promptly told read between.faults)) same promptly))

  -- where the game was not read, no script was selected
  pub unread_promptly : IfSome files.names (λ selected. (selected ≡ []) × (length name ≤ 1024) × (length script ≤ 1024)) → files'.names ≡ known_then files.names (name ∷ []) → StepsPromptly name script files files' sink sink'
  unread_promptly none after = by_content files.content
    where
      by_content : (content : Content) → SteppedPromptly content
      by_content None = tt
      by_content (Some told) = λ bytes game file holds both. absurd (not_selected files.names none after both)

-- ---- what is written after it

part_more : (sink sink' : SinkState) (text : List ℕ) → TookPart sink sink' text → TookMore sink sink'
part_more sink sink' text part = (take part.0.count text, part.0.taken)

told_more : (b : Bool) (sink sink' : SinkState) (text : List ℕ) (P : Type 0) → MatchBool b (TookPart sink sink' text) (P × TookWhole sink sink' text) → TookMore sink sink'
told_more true sink sink' text P told = part_more sink sink' text told
told_more false sink sink' text P told = (text, told.1.0)

-- a command that is finished takes nothing back
finished_more : (end : End) (sink sink' : SinkState) (code : ℕ) → Finishes end sink sink' code → TookMore sink sink'
finished_more (ends.Refused refusal) sink sink' code finished = told_more (code == 4) sink sink' _ _ finished
finished_more end sink sink' code finished = subst (λ (s : SinkState). TookMore sink s) (sym finished.1) (took_none sink)

module _ (files files' : FilesState) (sink sink' sink'' : SinkState) (more : TookMore sink' sink'') where
  heard_kept : (game : GameFile) (script : List ℕ) (content : Content) →
      IfSome content (λ told. (given rest : List ℕ) → told script ≡ Some (given ++ rest) → files'.left ≡ Some rest → IsQuiet files.faults files'.faults → IsPrompt game given sink sink') →
      IfSome content (λ told. (given rest : List ℕ) → told script ≡ Some (given ++ rest) → files'.left ≡ Some rest → IsQuiet files.faults files'.faults → IsPrompt game given sink sink'')
  heard_kept game script None promptly = tt
  heard_kept game script (Some told) promptly = λ given rest is left quiet. prompt_kept game given sink sink' sink'' (promptly given rest is left quiet) more

  abbrev Stepped : Content → List ℕ → List ℕ → SinkState → Type 0
  Stepped content name script last = IfSome content (λ told. (bytes : List ℕ) (game : GameFile) → told name ≡ Some bytes → game_of bytes ≡ Ok game → files'.names ≡ Some (name ∷ script ∷ []) →
      HearsPromptly game script files files' sink last)

  steps_kept : (content : Content) (name script : List ℕ) → Stepped content name script sink' → Stepped content name script sink''
  steps_kept None name script promptly = tt
  steps_kept (Some told) name script promptly = λ bytes game file holds both. heard_kept game script files.content (promptly bytes game file holds both)

  batch_kept : (command : BatchCommand) → IsPromptBatch command files files' sink sink' → IsPromptBatch command files files' sink sink''
  batch_kept (Step name script) promptly = steps_kept files.content name script promptly
  batch_kept command promptly = tt

pub prompt_command : (command : BatchCommand) (files files' : FilesState) (sink sink' sink'' : SinkState) (end : End) (code : ℕ) → IsPromptBatch command files files' sink sink' → Finishes end sink' sink'' code →
    IsPromptBatch command files files' sink sink''
prompt_command command files files' sink sink' sink'' end code promptly finished = batch_kept files files' sink sink' sink'' (finished_more end sink' sink'' code finished) command promptly

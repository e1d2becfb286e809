-- What a run says of the code: each cause by one recursion over the steps.
use Rattle.std.proofs.Common.{◌≡◌, ◌≢◌, ℕ, List, refl, sym, ap, ◌∙◌, subst, inl, inr, arith, Option, Some, None, ◌⊎◌, Ok, Err, IfSome}
use Rattle.tac_commands.specs.{Rose, FilesState, GameFault, GameLine as ScriptLine, Value, read_as, refusal_of, refused_code, Content, IsFileRead, IsNotRead, HasFault, Outcome, Unsound, Refused, refusal_end, code_of, IsQuiet, Holds, HasBad, HasRefused, AreGood, HasUnsound, EndsAt, EndsAtAudit, SelectsFiles}
use Rattle.game_text.specs.declared.fault.GameFault.TheVariants.{Line, TooLong}
use Rattle.tac_commands.specs.declared.file_kinds.FileKind.{FileKind}
use Rattle.tac_commands.specs.declared.file_kinds.FileKind.TheVariants.{Game, GameScript}
use Rattle.tac_commands.specs.declared.refusals.Refusal.{Refusal}
use Rattle.tac_commands.specs.declared.refusals.Refusal.TheVariants.{Memory}
use Rattle.tac_commands.specs.Runs.{Runs, StopsAt, with_name}
use Rattle.tac_commands.specs.Steps.{NamedFile, Steps, Reads, Judges, Hears, EndsWith, file as named}
use Rattle.tac_commands.proofs.HeardFiles.{HeardSo, StopsSo, heard_so}
use Rattle.tac_commands.proofs.Unambiguous.{not_both, same_file, same_value}
use Rattle.tac_commands.proofs.OwnCodes.{EndsWithin, IsLastCode}

-- ---- one file

-- a refused file's code is 2 or 8
kind_code : (kind : FileKind) → (refused_code kind ≡ 2) ⊎ (refused_code kind ≡ 8)
kind_code Game = inl refl
kind_code kind = inr refl

fault_code : (kind : FileKind) (fault : GameFault) → (refusal_end (refusal_of kind fault)).0 ≡ refused_code kind
fault_code Game (Line line reason) = refl
fault_code Game TooLong = refl
fault_code kind (Line line reason) = refl
fault_code kind TooLong = refl

stopped : (files files' : FilesState) (kind : FileKind) (name : List ℕ) (refusal : Refusal) (outcome : Outcome) → outcome ≡ Refused refusal → IsNotRead files files' kind name refusal →
    StopsSo files files' kind name (code_of outcome)
stopped files files' kind name refusal outcome is (inl fault) = inl (ap code_of is ∙ ap (λ r. (refusal_end r).0) fault.0, fault.1)
stopped files files' kind name refusal outcome is (inr (inl memory)) = inr (inl (ap code_of is ∙ ap (λ r. (refusal_end r).0) memory.0, memory.1))
stopped files files' kind name refusal outcome is (inr (inr bad)) =
    inr (inr (ap code_of is ∙ ap (λ r. (refusal_end r).0) bad.1 ∙ fault_code kind bad.0, (bad.0, bad.2), bad.3))

-- what is written in place of a file has no code of the links or the ticker
pub no_link_refusal : (files files' : FilesState) (kind : FileKind) (name : List ℕ) (refusal : Refusal) → IsNotRead files files' kind name refusal →
    ((refusal_end refusal).0 ≢ 5) × ((refusal_end refusal).0 ≢ 6)
no_link_refusal files files' kind name refusal not_read = by_cause (stopped files files' kind name refusal (Refused refusal) refl not_read)
  where
    by_cause : StopsSo files files' kind name (refusal_end refusal).0 → ((refusal_end refusal).0 ≢ 5) × ((refusal_end refusal).0 ≢ 6)
    by_cause (inl fault) = let is = fault.0 in (λ five. omega (arith, is, five), λ six. omega (arith, is, six))
    by_cause (inr (inl memory)) = let is = memory.0 in (λ five. omega (arith, is, five), λ six. omega (arith, is, six))
    by_cause (inr (inr bad)) = let is = bad.0 in let either = kind_code kind in (λ five. grind (arith, is, either, five), λ six. grind (arith, is, either, six))

pub quiet_did_not_rise : (before now : ℕ) → IsQuiet before now → Rose before now → ⊥
quiet_did_not_rise before now quiet rose = absurd (omega (arith, quiet.same, quiet.below, rose.rises))

-- a file that was read is good, and one with a fault is bad
good : (files : List ℕ → Option (List ℕ)) (file : NamedFile) (value : Value file.kind) → IsFileRead (Some files) file.kind file.name value → Holds (Some files) file value
good files file value is = record { bytes = is.0; known = is.1; good = is.2 }

bad : (files : List ℕ → Option (List ℕ)) (file : NamedFile) (fault : GameFault) → HasFault (Some files) file.kind file.name fault → HasBad (Some files) file
bad files file fault is = record { bytes = is.0; known = is.1; fault = fault; bad = is.2 }

read_not_bad : (content : Content) (file : NamedFile) (value : Value file.kind) → IsFileRead content file.kind file.name value → HasBad content file → ⊥
read_not_bad None file value is bad = let known = bad.known in absurd (cc)
read_not_bad (Some files) file value is bad =
    not_both (read_as file.kind bad.bytes) value bad.fault
    (subst (λ (f : List ℕ). read_as file.kind f ≡ Ok value) (same_file (files file.name) is.0 bad.bytes is.1 bad.known) is.2) bad.bad

good_no_fault : (content : Content) (file : NamedFile) (value : Value file.kind) (fault : GameFault) → Holds content file value → HasFault content file.kind file.name fault → ⊥
good_no_fault None file value fault good is = let known = good.known in absurd (cc)
good_no_fault (Some files) file value fault good is =
    not_both (read_as file.kind good.bytes) value fault good.good
    (subst (λ (f : List ℕ). read_as file.kind f ≡ Err fault) (same_file (files file.name) is.0 good.bytes is.1 good.known) is.2)

-- what a file holds is what was read of it
same_read : (content : Content) (file : NamedFile) (value read : Value file.kind) → Holds content file value → IsFileRead content file.kind file.name read → read ≡ value
same_read None file value read good is = let known = good.known in absurd (cc)
same_read (Some files) file value read good is =
    same_value (read_as file.kind good.bytes) read value
    (subst (λ (f : List ℕ). read_as file.kind f ≡ Ok read) (same_file (files file.name) is.0 good.bytes is.1 good.known) is.2) good.good

-- ---- one audit

-- why the run stopped at an audit, with its code
abbrev StoppedSo : Type 0 → ℕ → Type 0
StoppedSo IsRight code = ((code ≡ 9) × (IsRight → ⊥)) ⊎ (code ≡ 7)

audit_stopped : (IsRight : Type 0) (IsDue : List ℕ → Type 0) (outcome : Outcome) → StopsAt IsRight IsDue outcome → StoppedSo IsRight (code_of outcome)
audit_stopped IsRight IsDue (Unsound text) stop = inl (refl, stop.0)
audit_stopped IsRight IsDue (Refused Memory) stop = inr refl
audit_stopped IsRight IsDue outcome stop = absurd stop

-- ---- all steps

module _ (files' : FilesState) (outcome : Outcome) where
  -- 3 is the code of a read that failed
  abbrev pub IsExplained : FilesState → Type 0
  IsExplained files = ((code_of outcome ≡ 3) × Rose files.faults files'.faults) ⊎ ((code_of outcome ≢ 3) × (files'.faults ≡ files.faults))

  explained_at : (files : FilesState) (kind : FileKind) (name : List ℕ) → StopsSo files files' kind name (code_of outcome) → IsExplained files
  explained_at files kind name (inl fault) = inl fault
  explained_at files kind name (inr (inl memory)) = let seven = memory.0 in inr (λ three. omega (arith, seven, three), memory.1)
  explained_at files kind name (inr (inr refused)) = let is = refused.0 in let either = kind_code kind in inr (λ three. grind (arith, is, either, three), refused.2)

  explained_at_audit : (files : FilesState) (IsRight : Type 0) → StoppedSo IsRight (code_of outcome) → files'.faults ≡ files.faults → IsExplained files
  explained_at_audit files IsRight (inl unsound) same = let nine = unsound.0 in inr (λ three. omega (arith, nine, three), same)
  explained_at_audit files IsRight (inr seven) same = inr (λ three. omega (arith, seven, three), same)

  -- a refused file's code
  abbrev pub IsRefusing : ℕ → Type 0
  IsRefusing code = (code ≡ 2) ⊎ (code ≡ 8)

  here_refused : (known : Content) (code : ℕ) (file : NamedFile) (next : Value file.kind → Steps) (fault : GameFault) → refused_code file.kind ≡ code → HasFault known file.kind file.name fault →
      IfSome known (λ _. HasRefused known code (Reads file next))
  here_refused None code file next fault is has = tt
  here_refused (Some given) code file next fault is has = inl (is, bad given file fault has)

  refused_at : (files : FilesState) (code : ℕ) (file : NamedFile) (next : Value file.kind → Steps) → IsRefusing code → code_of outcome ≡ code → StopsSo files files' file.kind file.name (code_of outcome) →
      IfSome files.content (λ _. HasRefused files.content code (Reads file next))
  refused_at files code file next refusing is (inl fault) = let three = fault.0 in absurd (grind (arith, refusing, is, three))
  refused_at files code file next refusing is (inr (inl memory)) = let seven = memory.0 in absurd (grind (arith, refusing, is, seven))
  refused_at files code file next refusing is (inr (inr refused)) = here_refused files.content code file next refused.1.0 (sym refused.0 ∙ is) refused.1.1

  here_bad : (known : Content) (code : ℕ) (name : List ℕ) (replies : List ScriptLine → List ℕ) (allows : List ScriptLine → Outcome → Type 0) (fault : GameFault) → code ≡ 8 → HasFault known GameScript name fault →
      IfSome known (λ _. HasRefused known code (Hears name replies allows))
  here_bad None code name replies allows fault is has = tt
  here_bad (Some given) code name replies allows fault is has = (is, bad given (named GameScript name) fault has)

  script_refused : (files : FilesState) (code : ℕ) (name : List ℕ) (replies : List ScriptLine → List ℕ) (allows : List ScriptLine → Outcome → Type 0) → IsRefusing code → code_of outcome ≡ code →
      StopsSo files files' GameScript name (code_of outcome) → IfSome files.content (λ _. HasRefused files.content code (Hears name replies allows))
  script_refused files code name replies allows refusing is (inl fault) = let three = fault.0 in absurd (grind (arith, refusing, is, three))
  script_refused files code name replies allows refusing is (inr (inl memory)) = let seven = memory.0 in absurd (grind (arith, refusing, is, seven))
  script_refused files code name replies allows refusing is (inr (inr refused)) = here_bad files.content code name replies allows refused.1.0 (sym is ∙ refused.0) refused.1.1

  audit_refuses_none : (code : ℕ) (IsRight : Type 0) → IsRefusing code → code_of outcome ≡ code → StoppedSo IsRight (code_of outcome) → ⊥
  audit_refuses_none code IsRight refusing is (inl unsound) = let nine = unsound.0 in grind (arith, refusing, is, nine)
  audit_refuses_none code IsRight refusing is (inr seven) = grind (arith, refusing, is, seven)

  -- a later file is refused if this one was read
  later_refused : (known : Content) (code : ℕ) (file : NamedFile) (next : Value file.kind → Steps) (value : Value file.kind) → IsFileRead known file.kind file.name value →
      IfSome known (λ _. HasRefused known code (next value)) → IfSome known (λ _. HasRefused known code (Reads file next))
  later_refused None code file next value is refused = tt
  later_refused (Some given) code file next value is refused = inr (value, good given file value is, refused)

  -- the same after a log that is sound
  behind_sound : (known : Content) (P Q : Type 0) → (P → Q) → IfSome known (λ _. P) → IfSome known (λ _. Q)
  behind_sound None P Q f p = tt
  behind_sound (Some given) P Q f p = f p

  -- a code is due, or that of memory, or of a failed write
  abbrev pub IsCodeDue : ℕ → Type 0
  IsCodeDue code = (code_of outcome ≡ code) ⊎ (code_of outcome ≡ 7) ⊎ (code_of outcome ≡ 4)

  -- it always comes then
  due_at : (files : FilesState) (code : ℕ) (file : NamedFile) → refused_code file.kind ≡ code → IsQuiet files.faults files'.faults → StopsSo files files' file.kind file.name (code_of outcome) → IsCodeDue code
  due_at files code file is quiet (inl fault) = absurd (quiet_did_not_rise files.faults files'.faults quiet fault.1)
  due_at files code file is quiet (inr (inl memory)) = inr (inl memory.0)
  due_at files code file is quiet (inr (inr refused)) = inl (refused.0 ∙ is)

  -- a file that is good is not refused, but memory may be refused for it
  good_at : (files : FilesState) (file : NamedFile) (value : Value file.kind) → Holds files.content file value → IsQuiet files.faults files'.faults → StopsSo files files' file.kind file.name (code_of outcome) → code_of outcome ≡ 7
  good_at files file value good quiet (inl fault) = absurd (quiet_did_not_rise files.faults files'.faults quiet fault.1)
  good_at files file value good quiet (inr (inl memory)) = memory.0
  good_at files file value good quiet (inr (inr refused)) = absurd (good_no_fault files.content file value refused.1.0 good refused.1.1)

  -- a log that is sound stops no run, but memory may be refused for the audit
  sound_at : (IsRight : Type 0) → IsRight → StoppedSo IsRight (code_of outcome) → code_of outcome ≡ 7
  sound_at IsRight sound (inl unsound) = absurd (unsound.1 sound)
  sound_at IsRight sound (inr seven) = seven

  pub refused_due : (code : ℕ) (steps : Steps) (files : FilesState) → IsQuiet files.faults files'.faults → HasRefused files.content code steps → Runs steps files files' outcome → IsCodeDue code
  refused_due code (Reads file next) files quiet (inl here) (inl read) = absurd (read_not_bad files.content file read.0 read.1 here.1)
  refused_due code (Reads file next) files quiet (inl here) (inr stop) =
      due_at files code file here.0 quiet (stopped files files' file.kind file.name stop.0 outcome stop.1 stop.2)
  refused_due code (Reads file next) files quiet (inr later) (inl read) =
      refused_due code (next later.0) (with_name files file.name) quiet later.2
      (subst (λ (v : Value file.kind). Runs (next v) (with_name files file.name) files' outcome) (same_read files.content file later.0 read.0 later.1 read.1) read.2)
  refused_due code (Reads file next) files quiet (inr later) (inr stop) =
      inr (inl (good_at files file later.0 later.1 quiet (stopped files files' file.kind file.name stop.0 outcome stop.1 stop.2)))
  refused_due code (Judges IsRight IsDue next) files quiet refused (inl run) = refused_due code next files quiet refused.1 run.1
  refused_due code (Judges IsRight IsDue next) files quiet refused (inr stop) = inr (inl (sound_at IsRight refused.0 (audit_stopped IsRight IsDue outcome stop.0)))
  refused_due code (Hears name replies allows) files quiet refused run = heard_due (heard_so replies allows files files' name outcome run.0)
    where
      heard_due : HeardSo files files' allows name outcome → IsCodeDue code
      heard_due (inl stop) = due_at files code (named GameScript name) (sym refused.0) quiet stop
      heard_due (inr (inl four)) = inr (inr four.0)
      heard_due (inr (inr whole)) = absurd (read_not_bad files.content (named GameScript name) whole.lines whole.read refused.1)
  refused_due code (EndsWith allows) files quiet refused run = absurd refused

  -- ---- a log that is not sound

  unsound_at : (IsRight : Type 0) → StoppedSo IsRight (code_of outcome) → (code_of outcome ≡ 9) ⊎ (code_of outcome ≡ 7)
  unsound_at IsRight (inl unsound) = inl unsound.0
  unsound_at IsRight (inr seven) = inr seven

  pub unsound_due : (steps : Steps) (files : FilesState) → IsQuiet files.faults files'.faults → HasUnsound files.content steps → Runs steps files files' outcome →
      (code_of outcome ≡ 9) ⊎ (code_of outcome ≡ 7)
  unsound_due (Reads file next) files quiet unsound (inl read) =
      unsound_due (next unsound.0) (with_name files file.name) quiet unsound.2
      (subst (λ (v : Value file.kind). Runs (next v) (with_name files file.name) files' outcome) (same_read files.content file unsound.0 read.0 unsound.1 read.1) read.2)
  unsound_due (Reads file next) files quiet unsound (inr stop) =
      inr (good_at files file unsound.0 unsound.1 quiet (stopped files files' file.kind file.name stop.0 outcome stop.1 stop.2))
  unsound_due (Judges IsRight IsDue next) files quiet (inl not_sound) (inl run) = absurd (not_sound run.0)
  unsound_due (Judges IsRight IsDue next) files quiet (inr later) (inl run) = unsound_due next files quiet later.1 run.1
  unsound_due (Judges IsRight IsDue next) files quiet unsound (inr stop) = unsound_at IsRight (audit_stopped IsRight IsDue outcome stop.0)
  unsound_due (Hears name replies allows) files quiet unsound run = absurd unsound
  unsound_due (EndsWith allows) files quiet unsound run = absurd unsound

  no_unsound_file : (files : FilesState) (file : NamedFile) → code_of outcome ≡ 9 → StopsSo files files' file.kind file.name (code_of outcome) → ⊥
  no_unsound_file files file is (inl fault) = let three = fault.0 in omega (arith, is, three)
  no_unsound_file files file is (inr (inl memory)) = let seven = memory.0 in omega (arith, is, seven)
  no_unsound_file files file is (inr (inr refused)) = let same = refused.0 in let either = kind_code file.kind in grind (arith, is, same, either)

  unsound_here : (IsRight : Type 0) → code_of outcome ≡ 9 → StoppedSo IsRight (code_of outcome) → IsRight → ⊥
  unsound_here IsRight is (inl unsound) = unsound.1
  unsound_here IsRight is (inr seven) = absurd (omega (arith, is, seven))

  later_unsound : (known : Content) (file : NamedFile) (next : Value file.kind → Steps) (value : Value file.kind) → IsFileRead known file.kind file.name value →
      IfSome known (λ _. HasUnsound known (next value)) → IfSome known (λ _. HasUnsound known (Reads file next))
  later_unsound None file next value is unsound = tt
  later_unsound (Some given) file next value is unsound = (value, good given file value is, unsound)

  here_unsound : (known : Content) (IsRight : Type 0) (IsDue : List ℕ → Type 0) (next : Steps) → (IsRight → ⊥) → IfSome known (λ _. HasUnsound known (Judges IsRight IsDue next))
  here_unsound None IsRight IsDue next not_sound = tt
  here_unsound (Some given) IsRight IsDue next not_sound = inl not_sound

  -- ---- by the codes of the last step

  module _ (Own : ℕ → Type 0) (last : (code : ℕ) → Own code → IsLastCode code) where
    pub read_explained : (steps : Steps) → EndsWithin Own steps → (files : FilesState) → Runs steps files files' outcome → IsExplained files
    read_explained (Reads file next) own files (inl read) = read_explained (next read.0) (own read.0) (with_name files file.name) read.2
    read_explained (Reads file next) own files (inr stop) = explained_at files file.kind file.name (stopped files files' file.kind file.name stop.0 outcome stop.1 stop.2)
    read_explained (Judges IsRight IsDue next) own files (inl run) = read_explained next own files run.1
    read_explained (Judges IsRight IsDue next) own files (inr stop) = explained_at_audit files IsRight (audit_stopped IsRight IsDue outcome stop.0) stop.1.1
    read_explained (Hears name replies allows) own files run = heard_told (heard_so replies allows files files' name outcome run.0)
      where
        heard_told : HeardSo files files' allows name outcome → IsExplained files
        heard_told (inl stop) = explained_at files GameScript name stop
        heard_told (inr (inl four)) = let is = four.0 in inr (λ three. omega (arith, is, three), four.1)
        heard_told (inr (inr whole)) = inr ((last (code_of outcome) (own whole.lines outcome whole.allowed)).no_fault, whole.quiet)
    read_explained (EndsWith allows) own files run = inr ((last (code_of outcome) (own outcome run.0)).no_fault, run.1.1)

    own_refuses_none : (code : ℕ) → IsRefusing code → Own (code_of outcome) → code_of outcome ≡ code → ⊥
    own_refuses_none code (inl two) own is = (last (code_of outcome) own).no_game (is ∙ two)
    own_refuses_none code (inr eight) own is = (last (code_of outcome) own).no_text (is ∙ eight)

    -- the code of a refused file comes only if a file that is read is refused
    pub refused_only : (code : ℕ) → IsRefusing code → (steps : Steps) → EndsWithin Own steps → (files : FilesState) → Runs steps files files' outcome → code_of outcome ≡ code →
        IfSome files.content (λ _. HasRefused files.content code steps)
    refused_only code refusing (Reads file next) own files (inl read) is =
        later_refused files.content code file next read.0 read.1 (refused_only code refusing (next read.0) (own read.0) (with_name files file.name) read.2 is)
    refused_only code refusing (Reads file next) own files (inr stop) is =
        refused_at files code file next refusing is (stopped files files' file.kind file.name stop.0 outcome stop.1 stop.2)
    refused_only code refusing (Judges IsRight IsDue next) own files (inl run) is =
        behind_sound files.content (HasRefused files.content code next) (IsRight × HasRefused files.content code next) (λ refused. (run.0, refused)) (refused_only code refusing next own files run.1 is)
    refused_only code refusing (Judges IsRight IsDue next) own files (inr stop) is = absurd (audit_refuses_none code IsRight refusing is (audit_stopped IsRight IsDue outcome stop.0))
    refused_only code refusing (Hears name replies allows) own files run is = heard_refused (heard_so replies allows files files' name outcome run.0)
      where
        heard_refused : HeardSo files files' allows name outcome → IfSome files.content (λ _. HasRefused files.content code (Hears name replies allows))
        heard_refused (inl stop) = script_refused files code name replies allows refusing is stop
        heard_refused (inr (inl four)) = let same = four.0 in absurd (grind (arith, refusing, is, same))
        heard_refused (inr (inr whole)) = absurd (own_refuses_none code refusing (own whole.lines outcome whole.allowed) is)
    refused_only code refusing (EndsWith allows) own files run is = absurd (own_refuses_none code refusing (own outcome run.0) is)

    -- that of an unsound log only if such a log is audited
    pub unsound_only : (steps : Steps) → EndsWithin Own steps → (files : FilesState) → Runs steps files files' outcome → code_of outcome ≡ 9 →
        IfSome files.content (λ _. HasUnsound files.content steps)
    unsound_only (Reads file next) own files (inl read) is =
        later_unsound files.content file next read.0 read.1 (unsound_only (next read.0) (own read.0) (with_name files file.name) read.2 is)
    unsound_only (Reads file next) own files (inr stop) is = absurd (no_unsound_file files file is (stopped files files' file.kind file.name stop.0 outcome stop.1 stop.2))
    unsound_only (Judges IsRight IsDue next) own files (inl run) is =
        behind_sound files.content (HasUnsound files.content next) (HasUnsound files.content (Judges IsRight IsDue next)) (λ unsound. inr (run.0, unsound)) (unsound_only next own files run.1 is)
    unsound_only (Judges IsRight IsDue next) own files (inr stop) is =
        here_unsound files.content IsRight IsDue next (unsound_here IsRight is (audit_stopped IsRight IsDue outcome stop.0))
    unsound_only (Hears name replies allows) own files run is = absurd (heard_sound (heard_so replies allows files files' name outcome run.0))
      where
        heard_sound : HeardSo files files' allows name outcome → ⊥
        heard_sound (inl stop) = no_unsound_file files (named GameScript name) is stop
        heard_sound (inr (inl four)) = let same = four.0 in omega (arith, is, same)
        heard_sound (inr (inr whole)) = (last (code_of outcome) (own whole.lines outcome whole.allowed)).no_unsound is
    unsound_only (EndsWith allows) own files run is = absurd ((last (code_of outcome) (own outcome run.0)).no_unsound is)

    -- if all files that are read are good, the code is one of the last step, or that of memory, or of a failed write, or a log is not sound
    abbrev IsReadyEnd : Content → Steps → Type 0
    IsReadyEnd content steps = Own (code_of outcome) ⊎ (code_of outcome ≡ 7) ⊎ (code_of outcome ≡ 4) ⊎ ((code_of outcome ≡ 9) × HasUnsound content steps)

    ready_later : (content : Content) (file : NamedFile) (next : Value file.kind → Steps) (value : Value file.kind) → Holds content file value → IsReadyEnd content (next value) → IsReadyEnd content (Reads file next)
    ready_later content file next value good (inl own) = inl own
    ready_later content file next value good (inr (inl seven)) = inr (inl seven)
    ready_later content file next value good (inr (inr (inl four))) = inr (inr (inl four))
    ready_later content file next value good (inr (inr (inr unsound))) = inr (inr (inr (unsound.0, (value, good, unsound.1))))

    ready_behind : (content : Content) (IsRight : Type 0) (IsDue : List ℕ → Type 0) (next : Steps) → IsRight → IsReadyEnd content next → IsReadyEnd content (Judges IsRight IsDue next)
    ready_behind content IsRight IsDue next sound (inl own) = inl own
    ready_behind content IsRight IsDue next sound (inr (inl seven)) = inr (inl seven)
    ready_behind content IsRight IsDue next sound (inr (inr (inl four))) = inr (inr (inl four))
    ready_behind content IsRight IsDue next sound (inr (inr (inr unsound))) = inr (inr (inr (unsound.0, inr (sound, unsound.1))))

    ready_at_audit : (content : Content) (IsRight : Type 0) (IsDue : List ℕ → Type 0) (next : Steps) → StoppedSo IsRight (code_of outcome) → IsReadyEnd content (Judges IsRight IsDue next)
    ready_at_audit content IsRight IsDue next (inl unsound) = inr (inr (inr (unsound.0, inl unsound.1)))
    ready_at_audit content IsRight IsDue next (inr seven) = inr (inl seven)

    pub ready : (steps : Steps) → EndsWithin Own steps → (files : FilesState) → IsQuiet files.faults files'.faults → AreGood files.content steps → Runs steps files files' outcome → IsReadyEnd files.content steps
    ready (Reads file next) own files quiet are_good (inl read) =
        ready_later files.content file next are_good.0 are_good.1 (ready (next are_good.0) (own are_good.0) (with_name files file.name) quiet are_good.2
        (subst (λ (v : Value file.kind). Runs (next v) (with_name files file.name) files' outcome) (same_read files.content file are_good.0 read.0 are_good.1 read.1) read.2))
    ready (Reads file next) own files quiet are_good (inr stop) =
        inr (inl (good_at files file are_good.0 are_good.1 quiet (stopped files files' file.kind file.name stop.0 outcome stop.1 stop.2)))
    ready (Judges IsRight IsDue next) own files quiet are_good (inl run) =
        ready_behind files.content IsRight IsDue next run.0 (ready next own files quiet (are_good run.0) run.1)
    ready (Judges IsRight IsDue next) own files quiet are_good (inr stop) = ready_at_audit files.content IsRight IsDue next (audit_stopped IsRight IsDue outcome stop.0)
    ready (Hears name replies allows) own files quiet are_good run = heard_ready (heard_so replies allows files files' name outcome run.0)
      where
        heard_ready : HeardSo files files' allows name outcome → IsReadyEnd files.content (Hears name replies allows)
        heard_ready (inl stop) = inr (inl (good_at files (named GameScript name) are_good.0 are_good.1 quiet stop))
        heard_ready (inr (inl four)) = inr (inr (inl four.0))
        heard_ready (inr (inr whole)) = inl (own whole.lines outcome whole.allowed)
    ready (EndsWith allows) own files quiet are_good run = inl (own outcome run.0)

    -- ---- all codes

    -- the codes of files and audits, and of a failed write
    abbrev pub IsEarlyCode : ℕ → Type 0
    IsEarlyCode code = (code ≡ 2) ⊎ (code ≡ 3) ⊎ (code ≡ 7) ⊎ (code ≡ 8) ⊎ (code ≡ 9) ⊎ (code ≡ 4)

    file_code_at : (files : FilesState) (kind : FileKind) (name : List ℕ) → StopsSo files files' kind name (code_of outcome) → IsEarlyCode (code_of outcome)
    file_code_at files kind name (inl fault) = inr (inl fault.0)
    file_code_at files kind name (inr (inl memory)) = inr (inr (inl memory.0))
    file_code_at files kind name (inr (inr refused)) = by_kind (kind_code kind)
      where
        by_kind : (refused_code kind ≡ 2) ⊎ (refused_code kind ≡ 8) → IsEarlyCode (code_of outcome)
        by_kind (inl two) = inl (refused.0 ∙ two)
        by_kind (inr eight) = inr (inr (inr (inl (refused.0 ∙ eight))))

    audit_code : (IsRight : Type 0) → StoppedSo IsRight (code_of outcome) → IsEarlyCode (code_of outcome)
    audit_code IsRight (inl unsound) = inr (inr (inr (inr (inl unsound.0))))
    audit_code IsRight (inr seven) = inr (inr (inl seven))

    -- the code is one of the last step, or of a file or an audit
    pub codes : (steps : Steps) → EndsWithin Own steps → (files : FilesState) → Runs steps files files' outcome → Own (code_of outcome) ⊎ IsEarlyCode (code_of outcome)
    codes (Reads file next) own files (inl read) = codes (next read.0) (own read.0) (with_name files file.name) read.2
    codes (Reads file next) own files (inr stop) = inr (file_code_at files file.kind file.name (stopped files files' file.kind file.name stop.0 outcome stop.1 stop.2))
    codes (Judges IsRight IsDue next) own files (inl run) = codes next own files run.1
    codes (Judges IsRight IsDue next) own files (inr stop) = inr (audit_code IsRight (audit_stopped IsRight IsDue outcome stop.0))
    codes (Hears name replies allows) own files run = heard_code (heard_so replies allows files files' name outcome run.0)
      where
        heard_code : HeardSo files files' allows name outcome → Own (code_of outcome) ⊎ IsEarlyCode (code_of outcome)
        heard_code (inl stop) = inr (file_code_at files GameScript name stop)
        heard_code (inr (inl four)) = inr (inr (inr (inr (inr (inr four.0)))))
        heard_code (inr (inr whole)) = inl (own whole.lines outcome whole.allowed)
    codes (EndsWith allows) own files run = inl (own outcome run.0)

    -- ---- the files that were selected

    module _ (code : ℕ) (known : (code ≡ 4) ⊎ (code ≡ code_of outcome)) where
      ends_at : (files : FilesState) (kind : FileKind) (name : List ℕ) → StopsSo files files' kind name (code_of outcome) → (code ≡ 4) ⊎ (code ≡ code_of outcome) → EndsAt kind code
      ends_at files kind name stop (inl four) = inr (inl four)
      ends_at files kind name (inl fault) (inr same) = inl (same ∙ fault.0)
      ends_at files kind name (inr (inl memory)) (inr same) = inr (inr (inl (same ∙ memory.0)))
      ends_at files kind name (inr (inr refused)) (inr same) = inr (inr (inr (same ∙ refused.0)))

      ends_at_audit : (IsRight : Type 0) → StoppedSo IsRight (code_of outcome) → (code ≡ 4) ⊎ (code ≡ code_of outcome) → EndsAtAudit code
      ends_at_audit IsRight stop (inl four) = inl four
      ends_at_audit IsRight (inl unsound) (inr same) = inr (inr (same ∙ unsound.0))
      ends_at_audit IsRight (inr seven) (inr same) = inr (inl (same ∙ seven))

      not_code : (due : ℕ) → (code_of outcome ≡ due → ⊥) → 4 ≢ due → (code ≡ 4) ⊎ (code ≡ code_of outcome) → code ≢ due
      not_code due not not_four (inl four) is = not_four (sym four ∙ is)
      not_code due not not_four (inr same) is = not (sym same ∙ is)

      pub selects : (steps : Steps) → EndsWithin Own steps → (files : FilesState) → Runs steps files files' outcome → SelectsFiles steps files files' code
      selects (Reads file next) own files (inl read) = inr (read.0, read.1, selects (next read.0) (own read.0) (with_name files file.name) read.2)
      selects (Reads file next) own files (inr stop) =
          inl (stop.3, ends_at files file.kind file.name (stopped files files' file.kind file.name stop.0 outcome stop.1 stop.2) known)
      selects (Judges IsRight IsDue next) own files (inl run) = inr (run.0, selects next own files run.1)
      selects (Judges IsRight IsDue next) own files (inr stop) = inl (stop.1.0, ends_at_audit IsRight (audit_stopped IsRight IsDue outcome stop.0) known)
      selects (Hears name replies allows) own files run =
          let none = heard_code (heard_so replies allows files files' name outcome run.0) in (
            run.1,
            not_code 2 none.0 (omega arith) known,
            not_code 9 none.1 (omega arith) known,
          )
        where
          heard_code : HeardSo files files' allows name outcome → (code_of outcome ≡ 2 → ⊥) × (code_of outcome ≡ 9 → ⊥)
          heard_code (inl (inl fault)) = let three = fault.0 in (λ two. omega (arith, three, two), λ nine. omega (arith, three, nine))
          heard_code (inl (inr (inl memory))) = let seven = memory.0 in (λ two. omega (arith, seven, two), λ nine. omega (arith, seven, nine))
          heard_code (inl (inr (inr refused))) = let eight = refused.0 in (λ two. omega (arith, eight, two), λ nine. omega (arith, eight, nine))
          heard_code (inr (inl four)) = let is = four.0 in (λ two. omega (arith, is, two), λ nine. omega (arith, is, nine))
          heard_code (inr (inr whole)) = let none = last (code_of outcome) (own whole.lines outcome whole.allowed) in (none.no_game, none.no_unsound)
      selects (EndsWith allows) own files run =
          let none = last (code_of outcome) (own outcome run.0) in (
            run.1.0,
            not_code 2 none.no_game (omega arith) known,
            not_code 3 none.no_fault (omega arith) known,
            not_code 8 none.no_text (omega arith) known,
            not_code 9 none.no_unsound (omega arith) known,
          )

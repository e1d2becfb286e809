-- A script that was heard, or not, and why the run ended so.
use Rattle.std.proofs.Common.{◌≡◌, ℕ, ◌≤◌, Bool, true, false, List, [], ◌++◌, length, length-append, refl, ap, ◌∙◌, subst, inl, inr, arith, append-nil, Option, Some, None, ◌⊎◌, nat_lt, Err}
use Rattle.std.proofs.lemmas.Bool.Decides.{nat_tests}
use Rattle.tac_commands.specs.{TEXT_BYTES, Rose, IsFile, FilesState, IsAtEnd, GameFault, GameLine as ScriptLine, HasReadCause, StopsThere, read_as, refused_code, Content, HasFault, IsFileRead, IsScriptOutcome, IsGiven, IsScriptHeard, IsUnheard, Outcome, code_of}
use Rattle.game_text.specs.declared.fault.GameFault.TheVariants.{Line, TooLong}
use Rattle.script_run.specs.HeardScripts.{heard_lines, Reading, AtEnd, Standing, Whole, BadAt, Overlong, BrokenOff, Open, script_standing}
use Rattle.script_run.proofs.StoodScripts.{bad_is, overlong_is, whole_is}
use Rattle.tac_commands.specs.declared.file_kinds.FileKind.{FileKind}
use Rattle.tac_commands.specs.declared.file_kinds.FileKind.TheVariants.{GameScript}
use Rattle.tac_commands.proofs.LongFiles.{bad_script, good_script, long_file}

-- why the run stopped at a file, with its code
abbrev pub StopsSo : FilesState → FilesState → FileKind → List ℕ → ℕ → Type 0
StopsSo files files' kind name code =
    ((code ≡ 3) × Rose files.faults files'.faults)
    ⊎ ((code ≡ 7) × (files'.faults ≡ files.faults))
    ⊎ ((code ≡ refused_code kind) × ((fault : GameFault) × HasFault files.content kind name fault) × (files'.faults ≡ files.faults))

-- the script is there and good, and what is due after its lines was the outcome
pub record HeardWhole (files files' : FilesState) (allows : List ScriptLine → Outcome → Type 0) (name : List ℕ) (outcome : Outcome) : Type 0 where
  pub lines : List ScriptLine
  pub read : IsFileRead files.content GameScript name lines
  pub allowed : allows lines outcome
  pub quiet : files'.faults ≡ files.faults

-- why a run ended that hears a script: it stopped at the script; or a write of the replies failed; or the script was heard whole
abbrev pub HeardSo : FilesState → FilesState → (List ScriptLine → Outcome → Type 0) → List ℕ → Outcome → Type 0
HeardSo files files' allows name outcome =
    StopsSo files files' GameScript name (code_of outcome)
    ⊎ ((code_of outcome ≡ 4) × (files'.faults ≡ files.faults))
    ⊎ HeardWhole files files' allows name outcome

-- ---- the bytes of the script

-- a script that was read to its end gave all its bytes
given_whole : (content : Content) (name given : List ℕ) (left : Option (List ℕ)) → IsGiven content name given left → IsAtEnd left → IsFile content name given
given_whole None name given left is end = tt
given_whole (Some files) name given left is end =
    let none : is.0 ≡ [] = subst IsAtEnd is.2 end in
    is.1 ∙ ap (λ (rest : List ℕ). Some (given ++ rest)) none ∙ ap (λ (l : List ℕ). Some l) (append-nil given)

-- some bytes come behind those that were given, none at the end
given_file : (content : Content) (name given : List ℕ) (reading : Reading) (left : Option (List ℕ)) → IsGiven content name given left → StopsThere reading left →
    (rest : List ℕ) × IsFile content name (given ++ rest) × (reading ≡ AtEnd → rest ≡ [])
given_file None name given reading left is stops = ([], tt, λ read. refl)
given_file (Some files) name given reading left is stops = (is.0, is.1, λ read. subst IsAtEnd is.2 (subst (λ (r : Reading). StopsThere r left) read stops))

bad_bytes : (given rest : List ℕ) (reading : Reading) (line reason : ℕ) → script_standing given reading ≡ BadAt line reason → (reading ≡ AtEnd → rest ≡ []) → (fault : GameFault) × (read_as GameScript (given ++ rest) ≡ Err fault)
bad_bytes given rest reading line reason is all = by_test (nat_lt TEXT_BYTES (length (given ++ rest))) refl
  where
    by_test : (b : Bool) → nat_lt TEXT_BYTES (length (given ++ rest)) ≡ b → (fault : GameFault) × (read_as GameScript (given ++ rest) ≡ Err fault)
    by_test true test = (TooLong, long_file GameScript (given ++ rest) (grind (arith, nat_tests)))
    by_test false test =
        let short : length (given ++ rest) ≤ TEXT_BYTES = grind (arith, nat_tests) in
        (Line line reason, bad_script (given ++ rest) line reason short (bad_is given rest reading line reason is all short))

long_bytes : (given rest : List ℕ) (reading : Reading) → script_standing given reading ≡ Overlong → read_as GameScript (given ++ rest) ≡ Err TooLong
long_bytes given rest reading is = let long = overlong_is given reading is in long_file GameScript (given ++ rest) (omega (arith, long, length-append given rest))

-- ---- why the run ended

module _ (replies : List ScriptLine → List ℕ) (allows : List ScriptLine → Outcome → Type 0) (files files' : FilesState) (name : List ℕ) (outcome : Outcome) where
  unheard_so : IsUnheard files files' name outcome → HeardSo files files' allows name outcome
  unheard_so (inl fault) = inl (inl (ap code_of fault.0, fault.2))
  unheard_so (inr memory) = inl (inr (inl (ap code_of memory.0, memory.2)))

  module _ (given : List ℕ) (reading : Reading) (is : IsGiven files.content name given files'.left) (stops : StopsThere reading files'.left) where
    by_standing : (stands : Standing) → script_standing given reading ≡ stands → HasReadCause stands files.faults files'.faults → IsScriptOutcome replies allows (heard_lines given) stands outcome →
        HeardSo files files' allows name outcome
    by_standing Whole so cause answer =
        let whole = whole_is given reading so in
        let file : IsFile files.content name given = given_whole files.content name given files'.left is (subst (λ (r : Reading). StopsThere r files'.left) whole.read stops) in
        inr (inr (record { lines = heard_lines given; read = (given, file, good_script given (heard_lines given) whole.within whole.good); allowed = answer; quiet = cause }))
    by_standing (BadAt line reason) so cause answer =
        let file = given_file files.content name given reading files'.left is stops in
        let bad = bad_bytes given file.0 reading line reason so file.2 in
        inl (inr (inr (ap code_of answer, (bad.0, (given ++ file.0, file.1, bad.1)), cause)))
    by_standing Overlong so cause answer =
        let file = given_file files.content name given reading files'.left is stops in
        inl (inr (inr (ap code_of answer, (TooLong, (given ++ file.0, file.1, long_bytes given file.0 reading so)), cause)))
    by_standing BrokenOff so cause answer = inl (inl (ap code_of answer, cause))
    by_standing Open so cause answer = inr (inl (ap code_of answer, cause))

  pub heard_so : IsUnheard files files' name outcome ⊎ IsScriptHeard replies allows files files' name outcome → HeardSo files files' allows name outcome
  heard_so (inl unheard) = unheard_so unheard
  heard_so (inr heard) = by_standing heard.0 heard.1 heard.2 heard.3 (script_standing heard.0 heard.1) refl heard.4 heard.5

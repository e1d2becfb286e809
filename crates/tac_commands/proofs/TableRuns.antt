-- How a table goes on from a pair to the next, and how it ends at one.
use Rattle.std.proofs.Common.{◌≡◌, ℕ, ◌+◌, ◌*◌, ◌<◌, ◌≤◌, map, drop, get_or, List, [], ◌∷◌, ◌++◌, length, refl, sym, ap, ◌∙◌, subst, inl, inr, arith, Option, Some, None, Ok, Err, Result, All, IsErrAnd, IfErr, IfSome, length-append}
use Rattle.std.proofs.lemmas.List.Elements.{All-get_or}
use Rattle.tac_commands.specs.{FilesState, SinkState, known_then, GameFile, LoggedGame, IsSound, IsPrinted, Kept, AreStandingsOf, WritesDue, table_steps, in_pairs, IsFileRead, IsNotRead, unsound_text, Outcome, Unsound, Refused, EndsAtPair, TableGoesOn, IsAdded, outcome_of}
use Rattle.tac_commands.specs.declared.file_kinds.FileKind.TheVariants.{Game, Log}
use Rattle.tac_commands.specs.declared.refusals.Refusal.{Refusal}
use Rattle.tac_commands.specs.declared.table_command.TableFault.{TableFault}
use Rattle.tac_commands.specs.declared.table_command.TableFault.TheVariants as faults
use Rattle.tac_commands.specs.declared.ends.End.{End}
use Rattle.tac_commands.specs.Ends.{Ends, EndsSteps}
use Rattle.tac_commands.specs.Runs.{Runs, StopsAt, with_name}
use Rattle.tac_commands.specs.Steps.{Steps, Reads, Judges, file}
use Rattle.tac_commands.proofs.Endings.{weaker}
use Rattle.tac_commands.proofs.Pairs.{named_at, none_left}
use Rattle.tac_commands.proofs.ReadFiles.{runs_from, runs_on}

-- what a table does at a pair once it has the game
abbrev after_game : List (GameFile × LoggedGame) → List (List ℕ × List ℕ) → List ℕ → GameFile → Steps
after_game played later log_name game = Reads (file Log log_name) (λ log. Judges (IsSound game log) (λ text. text ≡ unsound_text (length played)) (table_steps (played ++ (game, log) ∷ []) later))

module _ (files between files' : FilesState) (game_name log_name : List ℕ) (pair : ℕ) (game : GameFile) (is_game : IsFileRead files.content Game game_name game)
    (same : between.content ≡ files.content) (selected : between.names ≡ known_then files.names (game_name ∷ [])) (quiet : between.faults ≡ files.faults)
    (also_selected : files'.names ≡ known_then between.names (log_name ∷ [])) where
  goes : (played : List (GameFile × LoggedGame)) (later : List (List ℕ × List ℕ)) (outcome : Outcome) → Runs (after_game played later log_name game) between files' outcome →
      Runs (table_steps played ((game_name, log_name) ∷ later)) files files' outcome
  goes played later outcome run = runs_on files between (file Game game_name) (after_game played later log_name) game is_game same selected quiet files' outcome run

  -- a log was not read
  pub no_log : (refusal : Refusal) → IsNotRead between files' Log log_name refusal → EndsAtPair files files' pair game_name log_name (faults.Refused refusal)
  no_log refusal unread = λ played later is. goes played later (Refused refusal) (inr (refusal, refl, unread, also_selected))

  -- the audit of a log ended the table
  pub not_added : (log : LoggedGame) (fault : TableFault) → IsFileRead between.content Log log_name log → files'.faults ≡ between.faults →
      StopsAt (IsSound game log) (λ text. text ≡ unsound_text pair) (outcome_of fault) → EndsAtPair files files' pair game_name log_name fault
  not_added log fault is_log also_quiet stops = λ played later is.
      goes played later (outcome_of fault)
      (inl (log, is_log, inr (subst (λ (n : ℕ). StopsAt (IsSound game log) (λ text. text ≡ unsound_text n) (outcome_of fault)) (sym is) stops, (also_selected, also_quiet))))

  pub fault_of : {A : Type 0} (log : LoggedGame) (result : Result A TableFault) → IsFileRead between.content Log log_name log → files'.faults ≡ between.faults →
      IfErr result (λ fault. StopsAt (IsSound game log) (λ text. text ≡ unsound_text pair) (outcome_of fault)) → IfErr result (EndsAtPair files files' pair game_name log_name)
  fault_of log (Ok after) is_log also_quiet stops = tt
  fault_of log (Err fault) is_log also_quiet stops = not_added log fault is_log also_quiet stops

module _ (all later : List (List ℕ × List ℕ)) (game_name log_name : List ℕ) (count : ℕ) (files files' files'' : FilesState) (standings : Kept)
    (goes_on : TableGoesOn all ((game_name, log_name) ∷ later) count files files' standings) where
  -- a pair was added
  pub one_more : (after : Kept) → IsAdded files'.content game_name log_name standings after → files''.content ≡ files'.content →
      files''.names ≡ known_then (known_then files'.names (game_name ∷ [])) (log_name ∷ []) → files''.faults ≡ files'.faults → TableGoesOn all later (count + 1) files files'' after
  one_more after added same selected quiet = record {
    played = goes_on.played ++ (added.game, added.log) ∷ [];
    count_is = length-append goes_on.played ((added.game, added.log) ∷ []) ∙ ap (λ (n : ℕ). n + 1) goes_on.count_is;
    stands = added.added goes_on.played goes_on.stands;
    goes_on = λ last outcome run. goes_on.goes_on last outcome (inl (
      added.game,
      added.is_game,
      inl (
        added.log,
        added.is_log,
        inl (
          added.sound,
          runs_from last outcome (table_steps (goes_on.played ++ (added.game, added.log) ∷ []) later) (with_name (with_name files' game_name) log_name) files'' same selected quiet run,
        ),
      ),
    ));
  }

  -- a table that ends at the pair ends so over all
  pub ends_here : (fault : TableFault) → EndsAtPair files' files'' count game_name log_name fault → Runs (table_steps [] all) files files'' (outcome_of fault)
  ends_here fault ends = goes_on.goes_on files'' (outcome_of fault) (ends goes_on.played later goes_on.count_is)

-- the same at the names that were taken from a list of words
module _ {A : Type 0} (f : A → List ℕ) (words : List A) (i : ℕ) (first second : A) (game log : List ℕ) (files files' files'' : FilesState) (standings : Kept)
    (inside : 2 * i + 1 < length words) (is_first : first ≡ get_or words (2 * i) first) (is_second : second ≡ get_or words (2 * i + 1) second) (game_is : game ≡ f first) (log_is : log ≡ f second)
    (goes_on : TableGoesOn (in_pairs (map f words)) (drop i (in_pairs (map f words))) i files files' standings) where
  here : TableGoesOn (in_pairs (map f words)) ((game, log) ∷ drop (i + 1) (in_pairs (map f words))) i files files' standings
  here =
      subst (λ (left : List (List ℕ × List ℕ)). TableGoesOn (in_pairs (map f words)) left i files files' standings)
      (named_at f words i first second game log inside is_first is_second game_is log_is) goes_on

  pub ends_all : {T : Type 0} (result : Result T TableFault) (fault : TableFault) → IsErrAnd result (λ given. given ≡ fault) → EndsAtPair files' files'' i game log fault →
      IfErr result (λ given. Runs (table_steps [] (in_pairs (map f words))) files files'' (outcome_of given))
  ends_all (Ok value) fault given ends = absurd given
  ends_all (Err given) fault is ends =
      subst (λ (x : TableFault). Runs (table_steps [] (in_pairs (map f words))) files files'' (outcome_of x)) (sym is)
      (ends_here (in_pairs (map f words)) (drop (i + 1) (in_pairs (map f words))) game log i files files' files'' standings here fault ends)

  pub goes_all : (after : Kept) → IsAdded files'.content game log standings after → files''.content ≡ files'.content →
      files''.names ≡ known_then (known_then files'.names (game ∷ [])) (log ∷ []) → files''.faults ≡ files'.faults →
      TableGoesOn (in_pairs (map f words)) (drop (i + 1) (in_pairs (map f words))) (i + 1) files files'' after
  goes_all after added same selected quiet =
      one_more (in_pairs (map f words)) (drop (i + 1) (in_pairs (map f words))) game log i files files' files'' standings here after added same selected quiet

-- after the last pair
pub all_done : {A : Type 0} (f : A → List ℕ) (words : List A) (i half : ℕ) (files files' : FilesState) (standings : Kept) → i ≡ half → length words ≤ 2 * half + 1 →
    TableGoesOn (in_pairs (map f words)) (drop i (in_pairs (map f words))) i files files' standings → TableGoesOn (in_pairs (map f words)) [] half files files' standings
all_done f words i half files files' standings is within goes_on =
    subst (λ (left : List (List ℕ × List ℕ)). TableGoesOn (in_pairs (map f words)) left half files files' standings) (none_left f words half within)
    (subst (λ (n : ℕ). TableGoesOn (in_pairs (map f words)) (drop n (in_pairs (map f words))) n files files' standings) is goes_on)

-- the standings of all pairs were written, or not
pub ends_written : (all : List (List ℕ × List ℕ)) (count : ℕ) (files files' : FilesState) (standings : Kept) (sink sink' : SinkState) (end : End) → TableGoesOn all [] count files files' standings →
    ((played : List (GameFile × LoggedGame)) → AreStandingsOf standings played → Ends (WritesDue (IsPrinted played [])) sink sink' end) → EndsSteps (table_steps [] all) files files' sink sink' end
ends_written all count files files' standings sink sink' end goes_on written =
    weaker (WritesDue (IsPrinted goes_on.played [])) (Runs (table_steps [] all) files files') sink sink' end
    (λ outcome allowed. goes_on.goes_on files' outcome (allowed, (refl, refl))) (inl (written goes_on.played goes_on.stands))

-- that a log is not sound was written, or not
pub ends_reported : (all : List (List ℕ × List ℕ)) (files files' : FilesState) (pair : ℕ) (sink sink' : SinkState) (end : End) →
    Runs (table_steps [] all) files files' (Unsound (unsound_text pair)) → Ends (λ outcome. outcome ≡ Unsound (unsound_text pair)) sink sink' end → EndsSteps (table_steps [] all) files files' sink sink' end
ends_reported all files files' pair sink sink' end run ended =
    weaker (λ outcome. outcome ≡ Unsound (unsound_text pair)) (Runs (table_steps [] all) files files') sink sink' end
    (λ outcome is. subst (λ (o : Outcome). Runs (table_steps [] all) files files' o) (sym is) run) (inl ended)

-- the names of two more files were selected
pub two_more : (names names' : Option (List (List ℕ))) (first second : List ℕ) (count : ℕ) (P : Type 0) → IfSome names (λ given. (length given ≡ 2 * count) × P) →
    names' ≡ known_then (known_then names (first ∷ [])) (second ∷ []) → IfSome names' (λ given. (length given ≡ 2 * (count + 1)) × P)
two_more None names' first second count P is selected = rw selected tt
two_more (Some given) names' first second count P is selected =
    let both : length ((given ++ first ∷ []) ++ second ∷ []) ≡ length given + 1 + 1 = length-append (given ++ first ∷ []) (second ∷ []) ∙ ap (λ (n : ℕ). n + 1) (length-append given (first ∷ [])) in
    let before = is.0 in
    rw selected (both ∙ omega (arith, before), is.1)

-- the files of the next pair may be selected: where the names are told, the words are short, and there are few enough of them
pub may_select : {A : Type 0} (f : A → List ℕ) (size : A → ℕ) (size_is : (word : A) → size word ≡ length (f word)) (words : List A) (i : ℕ) (first second : A) (game log : List ℕ) (names : Option (List (List ℕ))) →
    length words ≤ 128 → 2 * i + 1 < length words → first ≡ get_or words (2 * i) first → second ≡ get_or words (2 * i + 1) second → game ≡ f first → log ≡ f second →
    IfSome names (λ given. (length given ≡ 2 * i) × All (λ word. size word ≤ 1024) words) →
    IfSome names (λ given. (length given + 1 < 128) × (length game ≤ 1024) × (length log ≤ 1024))
may_select f size size_is words i first second game log None few inside is_first is_second game_is log_is told = tt
may_select {A} f size size_is words i first second game log (Some given) few inside is_first is_second game_is log_is told =
    let count = told.0 in (
      omega (arith, count, few, inside),
      short first game (2 * i) (omega (arith, inside)) is_first game_is,
      short second log (2 * i + 1) inside is_second log_is,
    )
  where
    short : (word : A) (name : List ℕ) (k : ℕ) → k < length words → word ≡ get_or words k word → name ≡ f word → length name ≤ 1024
    short word name k within is name_is =
        let few : size word ≤ 1024 = subst (λ (w : A). size w ≤ 1024) (sym is) (All-get_or (λ word. size word ≤ 1024) words k word within told.1) in
        subst (λ (n : List ℕ). length n ≤ 1024) (sym name_is) (subst (λ (n : ℕ). n ≤ 1024) (size_is word) few)

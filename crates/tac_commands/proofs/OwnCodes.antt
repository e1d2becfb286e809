-- The codes with which a command ends at its last step. Each command has a line here that lists its codes; every cause follows.
use Rattle.std.proofs.Common.{◌≡◌, ℕ, List, [], ◌∷◌, ◌++◌, refl, inl, inr, arith, ◌⊎◌}
use Rattle.tac_commands.specs.{GameFile, LoggedGame, GameLine as ScriptLine, WritesDue, WritesInParts, WritesOrStops, IsServiceEnd, table_steps, batch_steps, steps_of, BatchCommand, Hotel, Show, Upgrade, Make, Solve, Worth, Play, Step, Trial, Audit, Vouch, Table, Command, Batch, Serve, Value, Outcome, Done, Lapsed, Stopped, Refused, code_of}
use Rattle.tac_commands.specs.declared.refusals.Refusal.TheVariants.{LinkFault, Memory}
use Rattle.tac_commands.specs.Steps.{Steps, Reads, Judges, Hears, EndsWith}

-- the codes of what the last step allows, whatever the files hold
abbrev pub EndsWithin : (ℕ → Type 0) → Steps → Type 0
EndsWithin Own (Reads file next) = (value : Value file.kind) → EndsWithin Own (next value)
EndsWithin Own (Judges IsRight IsDue next) = EndsWithin Own next
EndsWithin Own (Hears name replies allows) = (lines : List ScriptLine) (outcome : Outcome) → allows lines outcome → Own (code_of outcome)
EndsWithin Own (EndsWith allows) = (outcome : Outcome) → allows outcome → Own (code_of outcome)

-- for a text that is written
abbrev pub IsWritten : ℕ → Type 0
IsWritten code = (code ≡ 0) ⊎ (code ≡ 7)

writes : (IsDue : List ℕ → Type 0) (outcome : Outcome) → WritesDue IsDue outcome → IsWritten (code_of outcome)
writes IsDue (Done text) allowed = inl refl
writes IsDue (Refused Memory) allowed = inr refl
writes IsDue outcome allowed = absurd allowed

or_stops : (IsDue IsFirst : List ℕ → Type 0) (outcome : Outcome) → WritesOrStops IsDue IsFirst outcome → IsWritten (code_of outcome)
or_stops IsDue IsFirst (Done text) allowed = inl refl
or_stops IsDue IsFirst (Stopped text Memory) allowed = inr refl
or_stops IsDue IsFirst outcome allowed = absurd allowed

in_parts : (IsDue IsFirst : List ℕ → Type 0) (outcome : Outcome) → WritesInParts IsDue IsFirst outcome → IsWritten (code_of outcome)
in_parts IsDue IsFirst (Refused Memory) allowed = inr refl
in_parts IsDue IsFirst outcome allowed = or_stops IsDue IsFirst outcome allowed

table_code : (pairs : List (List ℕ × List ℕ)) (played : List (GameFile × LoggedGame)) → EndsWithin IsWritten (table_steps played pairs)
table_code [] played = λ outcome allowed. writes _ outcome allowed
table_code (pair ∷ pairs) played = λ game log. table_code pairs (played ++ (game, log) ∷ [])

-- for a command that needs no links
batch_code : (command : BatchCommand) → EndsWithin IsWritten (batch_steps command)
batch_code (Hotel script) = λ lines outcome allowed. writes _ outcome allowed
batch_code (Show name) = λ game outcome allowed. writes _ outcome allowed
batch_code (Upgrade name) = λ game outcome allowed. writes _ outcome allowed
batch_code (Make seed) = λ outcome allowed. writes _ outcome allowed
batch_code (Solve name) = λ account outcome allowed. writes _ outcome allowed
batch_code (Worth name) = λ account outcome allowed. writes _ outcome allowed
batch_code (Play name script) = λ game lines outcome allowed. in_parts _ _ outcome allowed.0
batch_code (Step name script) = λ game lines outcome allowed. or_stops _ _ outcome allowed.0
batch_code (Trial seed count) = λ outcome allowed. writes _ outcome allowed
batch_code (Audit name log_name) = λ game log outcome allowed. writes _ outcome allowed
batch_code (Vouch name log_name asked_name said_name form) = λ game log asked said outcome allowed. writes _ outcome allowed
batch_code (Table pairs) = table_code pairs []

-- for any command
abbrev pub OwnCode : Command → ℕ → Type 0
OwnCode (Batch command) code = IsWritten code
OwnCode (Serve asked) code = (code ≡ 0) ⊎ (code ≡ 5) ⊎ (code ≡ 6) ⊎ (code ≡ 7)

service : (outcome : Outcome) → IsServiceEnd outcome → (code_of outcome ≡ 0) ⊎ (code_of outcome ≡ 5) ⊎ (code_of outcome ≡ 6) ⊎ (code_of outcome ≡ 7)
service (Done text) allowed = inl refl
service (Refused LinkFault) allowed = inr (inl refl)
service (Lapsed text) allowed = inr (inr (inl refl))
service (Stopped text Memory) allowed = inr (inr (inr refl))
service (Refused Memory) allowed = inr (inr (inr refl))
service outcome allowed = absurd allowed

pub own_code : (command : Command) → EndsWithin (OwnCode command) (steps_of command)
own_code (Batch command) = batch_code command
own_code (Serve asked) = λ value outcome allowed. service outcome allowed

-- none of these is a code of a file, of a log that is not sound, or of words that are no command
pub record IsLastCode (code : ℕ) : Type 0 where
  pub no_usage : code ≡ 1 → ⊥
  pub no_game : code ≡ 2 → ⊥
  pub no_fault : code ≡ 3 → ⊥
  pub no_text : code ≡ 8 → ⊥
  pub no_unsound : code ≡ 9 → ⊥

pub last_code : (command : Command) (code : ℕ) → OwnCode command code → IsLastCode code
last_code (Batch command) code own = record {
  no_usage = λ is. grind (arith, own, is);
  no_game = λ is. grind (arith, own, is);
  no_fault = λ is. grind (arith, own, is);
  no_text = λ is. grind (arith, own, is);
  no_unsound = λ is. grind (arith, own, is);
}
last_code (Serve asked) code own = record {
  no_usage = λ is. grind (arith, own, is);
  no_game = λ is. grind (arith, own, is);
  no_fault = λ is. grind (arith, own, is);
  no_text = λ is. grind (arith, own, is);
  no_unsound = λ is. grind (arith, own, is);
}

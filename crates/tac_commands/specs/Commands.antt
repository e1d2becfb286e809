-- What the words of a command line request.
use Rattle.std.specs.Prelude.{◌≡◌, ℕ, ◌+◌, ◌%◌, ◌^◌, ◌==◌, ◌&&◌, nat_lt, nat_le, List, [], ◌∷◌, length, Option, Some, None, MatchOption, if◌then◌else◌, codes, option_map, bytes_eq}
use Rattle.tac_commands.specs.Prelude.{FILE_NAMES, MADE_REQUESTS, below, numeral}
use Rattle.tac_commands.specs.declared.services.Form.{Form}
use Rattle.tac_commands.specs.declared.services.Form.TheVariants.{Lines, Json}
use Rattle.tac_commands.specs.declared.services.Service.{Service as ServiceAsked}
use Rattle.tac_commands.specs.declared.words.BatchCommand.{BatchCommand as BatchAsked}
use Rattle.tac_commands.specs.declared.words.BatchCommand.TheVariants as batch
use Rattle.tac_commands.specs.Services.{Service, bytes_of_words, service_of}

-- a command that needs no links, with its words
pub data BatchCommand : Type 0 where
  Hotel : (script : List ℕ) → BatchCommand
  Show : (game : List ℕ) → BatchCommand
  Upgrade : (game : List ℕ) → BatchCommand
  Make : (seed : ℕ) → BatchCommand
  Solve : (account : List ℕ) → BatchCommand
  Worth : (account : List ℕ) → BatchCommand
  Play : (game : List ℕ) → (script : List ℕ) → BatchCommand
  Step : (game : List ℕ) → (script : List ℕ) → BatchCommand
  Trial : (seed : ℕ) → (count : ℕ) → BatchCommand
  Audit : (game : List ℕ) → (log : List ℕ) → BatchCommand
  Vouch : (game : List ℕ) → (log : List ℕ) → (asked : List ℕ) → (said : List ℕ) → (form : Form) → BatchCommand
  Table : (pairs : List (List ℕ × List ℕ)) → BatchCommand

-- any command of `tac`
pub data Command : Type 0 where
  Batch : (command : BatchCommand) → Command
  Serve : (service : Service) → Command

-- ---- the words of a command that needs no links

-- a command of one word after its own; a seed is a numeral of at most 20 digits, below 2^64
abbrev pub batch_with : List ℕ → List ℕ → Option BatchCommand
batch_with word argument =
    if bytes_eq word (codes "hotel") then Some (Hotel argument)
    else if bytes_eq word (codes "show") then Some (Show argument)
    else if bytes_eq word (codes "upgrade") then Some (Upgrade argument)
    else if bytes_eq word (codes "solve") then Some (Solve argument)
    else if bytes_eq word (codes "worth") then Some (Worth argument)
    else if bytes_eq word (codes "make") then option_map Make (below (2 ^ 64) (numeral 20 argument))
    else None

-- a trial has a seed like a made game, and a count within the limit of a made script
abbrev pub trial_of : Option ℕ → Option ℕ → Option BatchCommand
trial_of (Some seed) (Some count) = Some (Trial seed count)
trial_of seed count = None

-- a command of two words after its own
abbrev pub batch_with_two : List ℕ → List ℕ → List ℕ → Option BatchCommand
batch_with_two word first second =
    if bytes_eq word (codes "play") then Some (Play first second)
    else if bytes_eq word (codes "step") then Some (Step first second)
    else if bytes_eq word (codes "audit") then Some (Audit first second)
    else if bytes_eq word (codes "trial") then trial_of (below (2 ^ 64) (numeral 20 first)) (below (MADE_REQUESTS + 1) (numeral 5 second))
    else None

-- the audit of a log by a link, in a form of lines, is a command of four words after its own
abbrev pub vouch_with : List ℕ → List ℕ → List ℕ → List ℕ → List ℕ → Form → Option BatchCommand
vouch_with word game log asked said form = if bytes_eq word (codes "vouch") then Some (Vouch game log asked said form) else None

-- a command, by the number of words after its own
abbrev pub batch_by_count : List ℕ → List (List ℕ) → Option BatchCommand
batch_by_count word (argument ∷ []) = batch_with word argument
batch_by_count word (first ∷ second ∷ []) = batch_with_two word first second
batch_by_count word (game ∷ log ∷ asked ∷ said ∷ []) = vouch_with word game log asked said Lines
batch_by_count word (game ∷ log ∷ asked ∷ said ∷ form ∷ []) = if bytes_eq form (codes "json") then vouch_with word game log asked said Json else None
batch_by_count word words = None

-- words in pairs; a single one at the end is dropped
abbrev pub in_pairs : List (List ℕ) → List (List ℕ × List ℕ)
in_pairs (game ∷ log ∷ words) = (game, log) ∷ in_pairs words
in_pairs words = []

-- a table has a game and its log for each of 1 to 64 games
abbrev pub table_of : List (List ℕ) → Option BatchCommand
table_of words = if nat_lt 0 (length words) && nat_le (length words) FILE_NAMES && (length words % 2 == 0) then Some (Table (in_pairs words)) else None

abbrev pub batch_of : List (List ℕ) → Option BatchCommand
batch_of [] = None
batch_of (word ∷ words) = if bytes_eq word (codes "table") then table_of words else batch_by_count word words

-- ---- the words of any command

-- a service, if the words request one, or else a command that needs no links
abbrev pub service_or_batch : Option Service → Option BatchCommand → Option Command
service_or_batch (Some service) batch = Some (Serve service)
service_or_batch None batch = option_map Batch batch

abbrev pub command_of : List (List ℕ) → Option Command
command_of words = service_or_batch (service_of words) (batch_of words)

-- ---- as the code has it

-- the code found what the words request, as it is in memory; or they request nothing, and it found nothing
abbrev pub IsRequested : {A B : Type 0} → Option B → (A → B) → Option A → Type 0
IsRequested requested seen found = MatchOption found (requested ≡ None) (λ it. requested ≡ Some (seen it))

-- the service, with its name as it is in memory
abbrev pub seen_service : ServiceAsked → Service
seen_service service = record { game = service.game.now; port = service.port; pace = service.pace; form = service.form }

-- the command, with its words as they are in memory
abbrev pub seen_batch : BatchAsked → BatchCommand
seen_batch (batch.Hotel script) = Hotel script.now
seen_batch (batch.Show game) = Show game.now
seen_batch (batch.Upgrade game) = Upgrade game.now
seen_batch (batch.Make seed) = Make seed
seen_batch (batch.Solve account) = Solve account.now
seen_batch (batch.Worth account) = Worth account.now
seen_batch (batch.Play game script) = Play game.now script.now
seen_batch (batch.Step game script) = Step game.now script.now
seen_batch (batch.Trial seed count) = Trial seed count
seen_batch (batch.Audit game log) = Audit game.now log.now
seen_batch (batch.Vouch game log asked said form) = Vouch game.now log.now asked.now said.now form
seen_batch (batch.Table names) = Table (in_pairs (bytes_of_words names.now))

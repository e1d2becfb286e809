-- The words of a command within their limits.
use Rattle.std.specs.Prelude.{◌≤◌, ⊤, length, string_len, All}
use Rattle.tac_base.specs.declared.limits.TheConstants.{FILE_NAMES, MADE_REQUESTS, NAME_BYTES}
use Rattle.tac_commands.specs.declared.words.BatchCommand.{BatchCommand as BatchAsked}
use Rattle.tac_commands.specs.declared.words.BatchCommand.TheVariants as batch

-- each name has at most 1024 bytes
abbrev pub IsShortBatch : BatchAsked → Type 0
IsShortBatch (batch.Hotel script) = length script.now ≤ NAME_BYTES
IsShortBatch (batch.Show game) = length game.now ≤ NAME_BYTES
IsShortBatch (batch.Upgrade game) = length game.now ≤ NAME_BYTES
IsShortBatch (batch.Make seed) = ⊤
IsShortBatch (batch.Solve account) = length account.now ≤ NAME_BYTES
IsShortBatch (batch.Worth account) = length account.now ≤ NAME_BYTES
IsShortBatch (batch.Play game script) = (length game.now ≤ NAME_BYTES) × (length script.now ≤ NAME_BYTES)
IsShortBatch (batch.Step game script) = (length game.now ≤ NAME_BYTES) × (length script.now ≤ NAME_BYTES)
IsShortBatch (batch.Trial seed count) = ⊤
IsShortBatch (batch.Audit game log) = (length game.now ≤ NAME_BYTES) × (length log.now ≤ NAME_BYTES)
IsShortBatch (batch.Vouch game log asked said form) =
    (length game.now ≤ NAME_BYTES) × (length log.now ≤ NAME_BYTES) × (length asked.now ≤ NAME_BYTES) × (length said.now ≤ NAME_BYTES)
IsShortBatch (batch.Table names) = All (λ name. string_len name ≤ NAME_BYTES) names.now

-- a made script and a table are within their limits of requests and names
abbrev pub IsWithinBatch : BatchAsked → Type 0
IsWithinBatch (batch.Trial seed count) = count ≤ MADE_REQUESTS
IsWithinBatch (batch.Table names) = length names.now ≤ FILE_NAMES
IsWithinBatch command = ⊤

-- What was read from a link, and what it was sent, between two of its states.
use Rattle.std.specs.Prelude.{◌≡◌, ℕ, List, Result, MatchResult}
use Rattle.tac_io.specs.Counts.{Rose}
use Rattle.tac_io.specs.States.{LinkState}
use Rattle.tac_io.specs.Known.{known_then, then_known, failed_at, TakesSome}

-- The link gave these bytes: they were the first of those that it still had to give.
abbrev pub GaveBytes : List ℕ → LinkState → LinkState → Type 0
GaveBytes bytes before after = (after.taken ≡ known_then before.taken bytes) × (before.left ≡ then_known bytes after.left)

-- No read failed.
abbrev pub NoReadFails : LinkState → LinkState → Type 0
NoReadFails before after = (after.reads ≡ before.reads) × (after.read_failures ≡ before.read_failures)

-- One read failed, and no byte was taken after it.
abbrev pub LastReadFails : LinkState → LinkState → Type 0
LastReadFails before after = Rose before.reads after.reads × (after.read_failures ≡ failed_at after.taken before.read_failures)

-- No write failed.
abbrev pub NoWriteFails : LinkState → LinkState → Type 0
NoWriteFails before after = (after.writes ≡ before.writes) × (after.write_failures ≡ before.write_failures)

-- One write failed, and no byte was sent after it.
abbrev pub LastWriteFails : LinkState → LinkState → Type 0
LastWriteFails before after = Rose before.writes after.writes × (after.write_failures ≡ failed_at after.sent before.write_failures)

-- the call failed exactly if a write failed, and nothing was sent after that write
abbrev pub FailsByWrite : {T E : Type 0} → LinkState → LinkState → Result T E → Type 0
FailsByWrite before after result = MatchResult result (λ _. NoWriteFails before after) (λ _. LastWriteFails before after)

-- Nothing was sent, and no write failed.
abbrev pub SendsNothing : LinkState → LinkState → Type 0
SendsNothing before after = (after.sent ≡ before.sent) × NoWriteFails before after

-- nothing was taken from the link, and no read failed
abbrev pub ReadsNothing : LinkState → LinkState → Type 0
ReadsNothing before after = (after.taken ≡ before.taken) × (after.left ≡ before.left) × NoReadFails before after

-- All bytes were sent; or the last write failed, and a proper prefix of them was sent, which may be empty. Nothing was read.
abbrev pub OnlySends : {T E : Type 0} → LinkState → LinkState → List ℕ → Result T E → Type 0
OnlySends before after bytes result =
    MatchResult result (λ _. after.sent ≡ known_then before.sent bytes) (λ _. TakesSome before.sent after.sent bytes)
    × FailsByWrite before after result
    × ReadsNothing before after

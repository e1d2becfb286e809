-- A link in memory, as its contracts see it.
use Rattle.std.specs.Prelude.{◌≡◌, ◌+◌, ◌<◌, ◌⊎◌, ◌↔◌, ◌++◌, ◌∷◌, [], ℕ, List, Result, Some, IsErr, IfOk, OnErr, take, drop, min, max, length}
use Rattle.tac_io.specs.Calls.{Calls, IsNextToFail, after_call}
use Rattle.tac_io.specs.Counts.{HasCause}
use Rattle.tac_io.specs.States.{LinkState}
use Rattle.tac_io.specs.declared.memory.link.MemLink.{MemLink}

-- the bytes that were read from it
abbrev pub link_taken : MemLink → List ℕ
link_taken s = take s.at s.bytes.items

-- the bytes that are left to read
abbrev pub link_left : MemLink → List ℕ
link_left s = drop s.at s.bytes.items

-- the most bytes that a read gives
abbrev pub link_most : MemLink → ℕ
link_most s = s.most_at_once

-- the bytes that it was sent
abbrev pub link_sent : MemLink → List ℕ
link_sent s = s.sent.items

-- how many more bytes it has room for
abbrev pub link_room : MemLink → ℕ
link_room s = s.room

-- its reads, and the count of their faults
abbrev pub link_reads : MemLink → Calls
link_reads s = s.reads

-- its writes, and the count of their faults
abbrev pub link_writes : MemLink → Calls
link_writes s = s.writes

-- how many bytes had been taken at each read that failed
abbrev pub link_read_failures : MemLink → List ℕ
link_read_failures s = s.read_failures.places

-- how many bytes it had been sent at each write that failed
abbrev pub link_write_failures : MemLink → List ℕ
link_write_failures s = s.write_failures.places

-- what is known of it
abbrev pub link_state : MemLink → LinkState
link_state s = record {
  taken = Some (link_taken s);
  left = Some (link_left s);
  sent = Some (link_sent s);
  reads = (link_reads s).faults;
  writes = (link_writes s).faults;
  read_failures = Some (link_read_failures s);
  write_failures = Some (link_write_failures s);
}

-- how many bytes the next read gives to a buffer of this length
abbrev pub link_share : MemLink → ℕ → ℕ
link_share s room = min room (min (max 1 (link_most s)) (length (link_left s)))

-- A read gave the next bytes, none only at the end. A failed read gave none, and its position was recorded. The read was counted; nothing
-- else changed.
abbrev pub ReadsNext : {E : Type 0} → MemLink → MemLink → Result ℕ E → List ℕ → Type 0
ReadsNext before after result into =
    IfOk result (λ n. (link_left before ≡ take n into ++ link_left after) × (link_taken after ≡ link_taken before ++ take n into))
    × IfOk result (λ n. n ≡ 0 → link_left before ≡ [])
    × OnErr result ((link_left after ≡ link_left before) × (link_taken after ≡ link_taken before))
    × IfOk result (λ _. link_read_failures after ≡ link_read_failures before)
    × OnErr result (link_read_failures after ≡ link_read_failures before ++ length (link_taken before) ∷ [])
    × (link_most after ≡ link_most before)
    × (link_sent after ≡ link_sent before)
    × (link_room after ≡ link_room before)
    × (link_reads after ≡ after_call (link_reads before) result)
    × (link_writes after ≡ link_writes before)
    × (link_write_failures after ≡ link_write_failures before)
    × HasCause (link_reads before).faults (link_reads after).faults result

-- A write took the first bytes of the piece, as many as there was room for. It failed if it was to fail, or if no room was left; then it
-- took none, and its position was recorded. The write was counted, and nothing else changed.
abbrev pub WritesNext : {E : Type 0} → MemLink → MemLink → Result ℕ E → List ℕ → Type 0
WritesNext before after result piece =
    (IsErr result ↔ (IsNextToFail (link_writes before) ⊎ (link_room before ≡ 0)))
    × IfOk result (λ n. (0 < n) × (n ≡ min (length piece) (link_room before)))
    × IfOk result (λ n. (link_sent after ≡ link_sent before ++ take n piece) × (link_room after + n ≡ link_room before))
    × OnErr result ((link_sent after ≡ link_sent before) × (link_room after ≡ link_room before))
    × IfOk result (λ _. link_write_failures after ≡ link_write_failures before)
    × OnErr result (link_write_failures after ≡ link_write_failures before ++ length (link_sent before) ∷ [])
    × (link_taken after ≡ link_taken before)
    × (link_left after ≡ link_left before)
    × (link_most after ≡ link_most before)
    × (link_reads after ≡ link_reads before)
    × (link_read_failures after ≡ link_read_failures before)
    × (link_writes after ≡ after_call (link_writes before) result)
    × HasCause (link_writes before).faults (link_writes after).faults result

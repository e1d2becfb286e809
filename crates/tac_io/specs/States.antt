-- The states of the objects of the outside, as far as contracts see them. A field that is an `Option` is `None` where the object does
-- not show it, as for the system's own files, links and clock.
use Rattle.std.specs.Prelude.{ℕ, ◌<◌, ◌≤◌, List, length, Bool, Option, IfSome}
use Rattle.tac_base.specs.declared.limits.TheConstants.{FILE_NAMES, NAME_BYTES}

-- the state of a link
pub record LinkState : Type 0 where
  -- the bytes that were read from the link so far
  pub taken : Option (List ℕ)
  -- the bytes from its peer that are still to be read
  pub left : Option (List ℕ)
  -- the bytes that it was sent so far
  pub sent : Option (List ℕ)
  -- the number of reads that failed; a failed read takes no byte
  pub reads : ℕ
  -- the number of writes that failed; a failed write sends no byte
  pub writes : ℕ
  -- of each read that failed, in order: how many bytes had been read before it
  pub read_failures : Option (List ℕ)
  -- of each write that failed, in order: how many bytes had been sent before it
  pub write_failures : Option (List ℕ)

-- the state of a sink, such as standard output
pub record SinkState : Type 0 where
  -- the bytes that it took so far
  pub taken : Option (List ℕ)
  -- the number of writes that failed; a failed write takes no byte
  pub faults : ℕ
  -- of each write that failed, in order: how many bytes had been taken before it
  pub failures : Option (List ℕ)

-- the state of the files
pub record FilesState : Type 0 where
  -- the bytes of the file of each name, or that there is no such file
  pub content : Option (List ℕ → Option (List ℕ))
  -- the names that were selected so far, in order
  pub names : Option (List (List ℕ))
  -- whether a file is selected
  pub selected : Bool
  -- the bytes of the selected file that are still to be read
  pub left : Option (List ℕ)
  -- the number of calls of `select` and `read` that failed
  pub faults : ℕ

-- if the names are known, one more file may be selected, and its name is short enough
abbrev pub MaySelect : FilesState → List ℕ → Type 0
MaySelect files name = IfSome files.names (λ names. (length names < FILE_NAMES) × (length name ≤ NAME_BYTES))

-- the state of the links, of which new ones arrive
pub record LinksState (L : Type 0) : Type 0 where
  -- whether the port was opened
  pub listens : Bool
  -- the ports that it was asked to open so far, in order
  pub ports : Option (List ℕ)
  -- the links that are still to come, in order
  pub pending : Option (List L)
  -- the number of failed calls to open the port or to take a link
  pub faults : ℕ

-- a wait for a tick
pub record TickWait : Type 0 where
  -- the tick that was waited for, 1 to 54
  pub tick : ℕ
  -- whether the wait lapsed: the clock could not be read
  pub lapsed : Bool
  -- the pace when the wait began, if it is known and one was set
  pub paced : Option (Option ℕ)

-- the state of the ticker, which waits for ticks
pub record TickerState : Type 0 where
  -- the pace in milliseconds from tick to tick, if it is known and one was set
  pub paced : Option (Option ℕ)
  -- the waits so far, in order
  pub waited : Option (List TickWait)
  -- the number of waits that lapsed; a tick that comes late under load is not counted
  pub faults : ℕ

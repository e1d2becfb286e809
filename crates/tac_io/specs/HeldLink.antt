-- A link in memory that gives one line at a time, as its contracts see it.
use Rattle.std.specs.Prelude.{◌≡◌, ℕ, Bool, MatchBool, Some, max, min, option_map, Option}
use Rattle.tac_io.specs.Calls.{one_call_more}
use Rattle.tac_io.specs.LineText.{line_length}
use Rattle.tac_io.specs.Looks.{SawEnough, SawFewer}
use Rattle.tac_io.specs.MemLink.{link_left, link_reads, link_share}
use Rattle.tac_io.specs.declared.memory.held_link.HeldLink.{HeldLink}
use Rattle.tac_io.specs.declared.memory.held_link.Hold.{Hold}
use Rattle.tac_io.specs.declared.memory.link.MemLink.{MemLink}

-- the link whose bytes it gives
abbrev pub held_link : {C : Type 0} → HeldLink C → MemLink
held_link s = s.link

-- which read is held up, and until when, if one is
abbrev pub held_hold : {C : Type 0} → HeldLink C → Option (Hold C)
held_hold s = s.hold

-- the most looks of a read that is held up
abbrev pub held_turns : {C : Type 0} → HeldLink C → ℕ
held_turns s = s.turns

-- the next read is the one that is held up
abbrev pub IsNextHeld : {C : Type 0} → HeldLink C → Type 0
IsNextHeld {C = C} s = option_map (λ (hold : Hold C). hold.read) (held_hold s) ≡ Some (one_call_more (link_reads (held_link s)).made)

-- how many bytes the next read gives to a buffer of this length: as many as its link gives, and at most the next line
abbrev pub held_share : {C : Type 0} → HeldLink C → ℕ → ℕ
held_share s room = link_share (held_link s) (min room (max 1 (line_length (link_left (held_link s)))))

-- The next read was held up: it looked until it saw enough lines, or for all its looks; `answers` says which. Only the count changed.
pub record Waits {C : Type 0} (shows : C → ℕ → C → Type 0) (before : HeldLink C) (after : Option (Hold C)) (answers : Bool) : Type 0 where
  pub hold : Hold C
  pub other : C
  pub held : held_hold before ≡ Some hold
  pub next : hold.read ≡ one_call_more (link_reads (held_link before)).made
  pub kept : after ≡ Some (record hold { other = other })
  pub saw : MatchBool answers
      (SawEnough shows hold.other other hold.lines (held_turns before))
      (SawFewer shows hold.other other hold.lines (held_turns before))

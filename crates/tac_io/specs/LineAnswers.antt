-- What a link gives, line by line.
use Rattle.std.specs.Prelude.{◌≡◌, ℕ, ◌+◌, ◌≤◌, ◌<◌, ◌⊎◌, List, ◌++◌, Bool, true, false, length, None, Some, Option}
use Rattle.tac_base.specs.declared.limits.TheConstants.{LINE_BYTES, LINK_BYTES}
use Rattle.tac_io.specs.HeldBytes.{Held, LinkPlace}
use Rattle.tac_io.specs.LineText.{has_end, BeginsWithLine}
use Rattle.tac_io.specs.LinkCalls.{GaveBytes, LastReadFails, NoReadFails}
use Rattle.tac_io.specs.States.{LinkState}
use Rattle.tac_io.specs.Known.{IsAtEnd}
use Rattle.tac_io.specs.declared.line_got.LineGot.{LineGot}
use Rattle.tac_io.specs.declared.line_got.LineGot.TheVariants.{Line, TooLong, End, Failed, Budget}

-- What comes next in these bytes. `held` is what follows it, `at_end` whether the link is at its end, and `count` how many of
-- the link's bytes were taken. No two of the answers fit the same bytes, except for a fault and the end.
abbrev pub IsNext : LineGot → List ℕ → Held → Type 0 → ℕ → Type 0
IsNext Line bytes held at_end count = BeginsWithLine bytes held.line held.unread × (length held.line ≤ LINE_BYTES)
IsNext TooLong bytes held at_end count = (line : List ℕ) × BeginsWithLine bytes line held.unread × (LINE_BYTES < length line)
IsNext End bytes held at_end count = (has_end bytes ≡ false) × (count < LINK_BYTES) × at_end
IsNext Failed bytes held at_end count = (has_end bytes ≡ false) × (count < LINK_BYTES)
IsNext Budget bytes held at_end count = (has_end bytes ≡ false) × (count ≡ LINK_BYTES)

-- What comes next in the bytes that were held and, after them, those that the call took, `more`.
pub record Answers (before after : LinkPlace) (got : LineGot) : Type 0 where
  pub more : List ℕ
  pub gave : GaveBytes more before.link after.link
  pub counted : after.count ≡ before.count + length more
  pub next : IsNext got (before.held.unread ++ more) after.held (IsAtEnd after.link.left) after.count

-- The answer is `Failed` exactly if a read failed, and nothing was taken after that.
abbrev pub HasLineCause : LinkState → LinkState → LineGot → Type 0
HasLineCause before after Failed = LastReadFails before after
HasLineCause before after Line = NoReadFails before after
HasLineCause before after TooLong = NoReadFails before after
HasLineCause before after End = NoReadFails before after
HasLineCause before after Budget = NoReadFails before after

-- the bytes that were taken so far determine the next answer
abbrev pub IsDecided : List ℕ → ℕ → Type 0
IsDecided unread count = (has_end unread ≡ true) ⊎ (count ≡ LINK_BYTES)

-- whether another answer can follow this one, or the start
abbrev pub goes_on : Option LineGot → Bool
goes_on None = true
goes_on (Some Line) = true
goes_on (Some TooLong) = true
goes_on (Some End) = false
goes_on (Some Failed) = false
goes_on (Some Budget) = false

-- a line, or one that is too long, whether its beginning was dropped or not
abbrev pub IsKind : LineGot → Bool → ℕ → Type 0
IsKind Line long length = (long ≡ false) × (length ≤ LINE_BYTES)
IsKind TooLong long length = (long ≡ true) ⊎ (LINE_BYTES < length)
IsKind End long length = ⊥
IsKind Failed long length = ⊥
IsKind Budget long length = ⊥

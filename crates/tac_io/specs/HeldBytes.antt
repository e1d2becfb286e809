-- What the buffer of a link's lines holds.
use Rattle.std.specs.Prelude.{◌≡◌, ℕ, List, ◌++◌, ◌≤◌, length, Result, MatchResult}
use Rattle.tac_io.specs.LinkCalls.{GaveBytes}
use Rattle.tac_io.specs.States.{LinkState}
use Rattle.tac_io.specs.Known.{IsAtEnd}

-- the last line, and the bytes that no line has yet
pub record Held : Type 0 where
  pub line : List ℕ
  pub unread : List ℕ

-- how far a link was read: what its lines hold, how many bytes were taken of it, and the link
pub record LinkPlace : Type 0 where
  pub held : Held
  pub count : ℕ
  pub link : LinkState

-- A read put n more bytes behind those that are held, took them from the link and no others, and gave none only at the end.
pub record Gives (bytes bytes' : List ℕ) (before after : LinkState) (n : ℕ) : Type 0 where
  pub more : List ℕ
  pub held : bytes' ≡ bytes ++ more
  pub count : length more ≡ n
  pub gave : GaveBytes more before after
  pub end : n ≡ 0 → IsAtEnd before.left

-- A read gave at most this many bytes, or failed and changed nothing.
abbrev pub ReadsMore : {E : Type 0} → List ℕ → List ℕ → LinkState → LinkState → ℕ → Result ℕ E → Type 0
ReadsMore bytes bytes' before after most result = MatchResult result
    (λ n. (n ≤ most) × (length bytes' ≤ 1024) × Gives bytes bytes' before after n)
    (λ _. (bytes' ≡ bytes) × (after.taken ≡ before.taken) × (after.left ≡ before.left))

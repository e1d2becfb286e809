-- What a wait for lines saw. A look at a count of lines shows one number; shows before n after: a look may show n, and leave after.
use Rattle.std.specs.List.{FoldsTo}
use Rattle.std.specs.Prelude.{◌≡◌, ◌<◌, ◌≤◌, ℕ, List, All, length}

-- It made as many looks as it may, and each saw fewer lines.
pub record SawFewer {C : Type 0} (shows : C → ℕ → C → Type 0) (before after : C) (lines turns : ℕ) : Type 0 where
  pub seen : List ℕ
  pub looks : FoldsTo shows before seen after
  pub all : length seen ≡ turns
  pub fewer : All (λ n. n < lines) seen

-- Its last look saw at least as many lines, and each look before it saw fewer.
pub record SawEnough {C : Type 0} (shows : C → ℕ → C → Type 0) (before after : C) (lines turns : ℕ) : Type 0 where
  pub made : ℕ
  pub between : C
  pub last : ℕ
  pub first : SawFewer shows before between lines made
  pub within : made < turns
  pub look : shows between last after
  pub enough : lines ≤ last

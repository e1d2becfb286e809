-- What a turn shows of the history at its time.
use Rattle.std.specs.Prelude.{◌≡◌, ℕ, List, [], ◌∷◌, ◌++◌, length}
use Rattle.turn_lock.specs.Part.{part}

module _ {G E : Type 0} (legal : G → List E → Type 0) (caller_of : E → ℕ) where
  -- an entry continues the entries before it: they are as many as its position says, those of the caller among them are what the
  -- caller had made, and with the entry at their end they are a legal history
  pub record ContinuesHistory (setup : G) (caller : ℕ) (made : List (ℕ × E)) (position : ℕ) (entry : E) : Type 0 where
    pub before : List E
    pub count : length before ≡ position
    pub own : part caller_of before caller ≡ made
    pub lawful : legal setup (before ++ entry ∷ [])

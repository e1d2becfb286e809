-- A caller's part of a history.
use Rattle.std.specs.Prelude.{ℕ, ◌==◌, List, filter}
use Rattle.std.specs.List.{enumerate_from}

module _ {E : Type 0} where
  -- the entries of a caller, each in a pair with its position, if the first entry is at position n
  abbrev pub part_from : (E → ℕ) → ℕ → ℕ → List E → List (ℕ × E)
  part_from caller_of caller n history = filter (λ p. caller_of p.1 == caller) (enumerate_from n history)

  -- a caller's part of a history: its entries, the oldest first, each in a pair with its position
  -- Row: turns_make_the_agents_part (worked_rows/proofs/Sessions.antt)
  abbrev pub part : (E → ℕ) → List E → ℕ → List (ℕ × E)
  part caller_of history caller = part_from caller_of caller 0 history

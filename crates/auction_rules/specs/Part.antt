-- A caller's part of a history.
use Rattle.std.specs.Prelude.{ℕ, ◌==◌, List, filter}
use Rattle.std.specs.List.{enumerate_from}
use Rattle.auction_rules.specs.History.{Entry}

-- the entries of a caller in a history, oldest first, each in a pair with its position
abbrev pub callers_part : List Entry → ℕ → List (ℕ × Entry)
callers_part history caller = filter (λ p. p.1.caller == caller) (enumerate_from 0 history)

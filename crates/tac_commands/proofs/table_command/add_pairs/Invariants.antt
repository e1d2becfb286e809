use Rattle.std.proofs.Common.{◌≡◌, ◌≤◌, ◌*◌, List, ℕ, drop, length, string_len, All, IfSome}
use Rattle.tac_commands.specs.{in_pairs, TableGoesOn, bytes_of_words}
use Rattle.tac_commands.proofs.table_command.add_pairs.Given as goal

abbrev pub invariant-loop-pair : goal.invariant-loop-pair
invariant-loop-pair g l =
    let pairs : List (List ℕ × List ℕ) = in_pairs (bytes_of_words l.names) in
    TableGoesOn pairs (drop l.pair pairs) l.pair (g.F.Files.state l.fn.files) (g.F.Files.state l.files) l.standings
    × (l.standings.games ≡ l.pair)
    × IfSome (g.F.Files.state l.files).names (λ selected. (length selected ≡ 2 * l.pair) × All (λ name. string_len name ≤ 1024) l.names)

-- The text of a best allocation with a certificate.
use Rattle.std.specs.Prelude.{◌≡◌, ℕ, List}
use Rattle.allocator.specs.Prelude.{AccountFile, Package, Tree}
use Rattle.bound_cert.specs.Solutions.{IsSolution}
use Rattle.allocator.specs.SolvedTexts.{solved_text}

-- the text of some solution
abbrev pub IsSolvedText : AccountFile → List ℕ → Type 0
IsSolvedText account text = (total : ℕ) × (allocation : List Package) × (tree : Tree) × IsSolution account total allocation tree × (text ≡ solved_text total allocation tree)

-- Links in memory, as their contracts see them.
use Rattle.std.specs.Prelude.{ℕ, List, Bool, option_to_list}
use Rattle.tac_io.specs.Calls.{Calls}
use Rattle.tac_io.specs.declared.memory.links.MemLinks.{MemLinks}

-- whether they listen
abbrev pub links_listens : {L : Type 0} → MemLinks L → Bool
links_listens s = s.listens

-- the port that `listen` was called with, if any
abbrev pub links_ports : {L : Type 0} → MemLinks L → List ℕ
links_ports s = option_to_list s.port

-- the links that are left to give, in order
abbrev pub links_pending : {L : Type 0} → MemLinks L → List L
links_pending s = s.links.items

-- the calls of `listen` and `next`, and the count of faults
abbrev pub links_calls : {L : Type 0} → MemLinks L → Calls
links_calls s = s.faults

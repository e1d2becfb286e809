-- What the parties hold of one good.
use Rattle.std.specs.Prelude.{ℕ, ◌≤◌, ◌⊎◌, ℤ, pos, ◌+ℤ◌, unsigned_abs, List, map, fold, slice_index_or}
use Rattle.trade_ledger.specs.Prelude.{Trade, house, parties, net_units}

-- what each party holds after trades: what it held before, and its net units
abbrev pub held_after : List ℤ → List Trade → List ℤ
held_after held trades = map (λ party. slice_index_or held party (pos 0) +ℤ net_units trades party) parties

-- all holdings together
abbrev pub sum_held : List ℤ → ℤ
sum_held held = fold ◌+ℤ◌ (pos 0) held

-- a holding does not leave -1,000,000 to 1,000,000: it ends there, or no farther from 0 than before
abbrev pub Stays : ℤ → ℤ → Type 0
Stays before after = (unsigned_abs after ≤ 1000000) ⊎ (unsigned_abs after ≤ unsigned_abs before)

-- trades take no party's holding out of its range
abbrev pub NoneLeaves : List ℤ → List Trade → Type 0
NoneLeaves held trades = (party : ℕ) → party ≤ house → Stays (slice_index_or held party (pos 0)) (slice_index_or (held_after held trades) party (pos 0))

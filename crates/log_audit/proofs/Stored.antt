-- Who has an entry in a stored history.
use Rattle.std.proofs.Common.{◌≡◌, ℕ, ◌||◌, List, [], ◌∷◌, refl, ap, ◌==◌}
use Rattle.std.specs.List.{list_any}
use Rattle.tac_base.specs.declared.calls.Entry.{Entry as StoredEntry}
use Rattle.log_audit.specs.Prelude.{Trade, stored}
use Rattle.auction_rules.specs.History.{Entry}

pub stored_any : (agent : ℕ) (entries : List StoredEntry) (trades : List Trade) → list_any (λ (e : Entry). e.caller == agent) (stored entries trades) ≡ list_any (λ (e : StoredEntry). e.caller == agent) entries
stored_any agent [] trades = refl
stored_any agent (e ∷ entries) trades = ap (λ b. (e.caller == agent) || b) (stored_any agent entries trades)

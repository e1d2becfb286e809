-- Accounts with a different holding of one good are accounts.
use Rattle.std.proofs.Common.{ℕ, ◌<◌, ℤ, pos, length, ◌∙◌, sym, subst, length-set}
use Rattle.std.proofs.lemmas.List.Elements.{All-set}
use Rattle.game_text.specs.Accounts.{AccountFile, IsAccount, IsHolding}
use Rattle.good_worth.specs.Worth.{with_holding, held}

pub in_account : (account : AccountFile) → IsAccount account → (good : ℕ) → good < 28 → good < length account.holdings
in_account account is good lt = subst (λ (n : ℕ). good < n) (sym is.count) lt

pub held_in : (account : AccountFile) → IsAccount account → (good : ℕ) → good < 28 → IsHolding (held account good)
held_in account is good lt = is.holdings good (pos 0) (in_account account is good lt)

pub changed_is : (account : AccountFile) (good : ℕ) (h : ℤ) → IsAccount account → IsHolding h → IsAccount (with_holding account good h)
changed_is account good h is small = record {
  clients = is.clients;
  count = length-set account.holdings good h ∙ is.count;
  holdings = All-set IsHolding account.holdings good h small is.holdings;
}

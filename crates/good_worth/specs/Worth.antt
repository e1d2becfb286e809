-- What one unit more of a good adds to the best total of an account, and what one unit less takes from it, in dollars.
use Rattle.std.specs.Prelude.{ℕ, ◌+◌, ℤ, pos, ◌+ℤ◌, ◌-ℤ◌, neg_ℤ, set, slice_index_or}
use Rattle.std.specs.Int.{int_min, int_max}
use Rattle.tac_base.specs.declared.limits.TheConstants.{HOLDING}
use Rattle.game_text.specs.Accounts.{AccountFile}
use Rattle.packages.specs.BestTotal.{IsBest}

-- the account with another holding of a good
abbrev pub with_holding : AccountFile → ℕ → ℤ → AccountFile
with_holding account good held = record { clients = account.clients; holdings = set account.holdings good held }

abbrev pub held : AccountFile → ℕ → ℤ
held account good = slice_index_or account.holdings good (pos 0)

-- one unit more, but no more than an account may hold
abbrev pub one_more : ℤ → ℤ
one_more held = int_min (held +ℤ pos 1) HOLDING

-- one unit less, but no shorter than an account may be
abbrev pub one_less : ℤ → ℤ
one_less held = int_max (held -ℤ pos 1) (neg_ℤ HOLDING)

abbrev pub more : AccountFile → ℕ → AccountFile
more account good = with_holding account good (one_more (held account good))

abbrev pub less : AccountFile → ℕ → AccountFile
less account good = with_holding account good (one_less (held account good))

-- the best total is this much greater with one unit more of a good
pub record IsUp (account : AccountFile) (good dollars : ℕ) : Type 0 where
  pub before : ℕ
  pub is_before : IsBest account before
  pub is_after : IsBest (more account good) (before + dollars)

-- the best total is this much less with one unit less of a good
pub record IsDown (account : AccountFile) (good dollars : ℕ) : Type 0 where
  pub after : ℕ
  pub is_before : IsBest account (after + dollars)
  pub is_after : IsBest (less account good) after

-- What a call has done, if it follows the rules.
use Rattle.std.specs.Prelude.{◌≡◌, ℕ, List, ◌∷◌}
use Rattle.auction_rules.specs.Prelude.{Trade, Call, Reply}
use Rattle.auction_rules.specs.Setup.{Setup}
use Rattle.auction_rules.specs.History.{Entry}
use Rattle.auction_rules.specs.BookRules.{entry_of, reply_of, trades_of}

module _ (setup : Setup) where
  -- A call of the caller, made after the past, followed the rules: its reply and its trades are theirs, and `Stands` holds of the past
  -- with the entry of the call in front.
  pub record Follows (past : List Entry) (caller : ℕ) (call : Call) (reply : Reply) (trades : List Trade) (Stands : List Entry → Type 0) : Type 0 where
    pub replied : reply ≡ reply_of setup past caller call
    pub traded : trades ≡ trades_of setup past caller call
    pub stands : Stands (entry_of setup past caller call ∷ past)

-- A closed auction stays closed and trades no more.
use Rattle.std.proofs.Common.{◌≡◌, ℕ, false, true, List, [], refl, ap, Option, Some, None}
use Rattle.auction_rules.specs.{Call, Reply, Closed, Entry, is_own, is_closed, refusal, entry_by, trades_of}
use Rattle.tac_base.specs.declared.calls.Call.TheVariants.{Bid, Withdraw, Own as OwnCall, Update, Publish, Close}
use Rattle.auction_rules.specs.Setup.{Setup}
use Rattle.auction_rules.proofs.Steps.{entry_refused}
use Rattle.auction_rules.proofs.Idle.{own_trades}

own_nothing : (setup : Setup) (past : List Entry) (caller : ℕ) (refused : Option Reply) → (entry_by setup past caller OwnCall refused).trades ≡ []
own_nothing setup past caller (Some reply) = refl
own_nothing setup past caller None = own_trades setup.rules setup.good past caller

-- after the close no call trades anything
pub no_trades_after_close : (setup : Setup) (past : List Entry) (caller : ℕ) (call : Call) → is_closed past ≡ true → trades_of setup past caller call ≡ []
no_trades_after_close setup past caller call closed = by_call call
  where
    refused : (other : Call) → is_own other ≡ false → trades_of setup past caller other ≡ []
    refused other no_question = ap (λ (e : Entry). e.trades) (entry_refused setup past caller other Closed (rw (no_question, closed) refl))

    by_call : (some : Call) → trades_of setup past caller some ≡ []
    by_call OwnCall = own_nothing setup past caller (refusal setup.rules past caller OwnCall)
    by_call (Bid points) = refused (Bid points) refl
    by_call Withdraw = refused Withdraw refl
    by_call (Update tick draw) = refused (Update tick draw) refl
    by_call Publish = refused Publish refl
    by_call Close = refused Close refl

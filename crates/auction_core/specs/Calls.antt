-- The calls that a caller can make in an auction.
use Rattle.std.specs.Prelude.{⊤, ◌≤◌}
use Rattle.auction_core.specs.Prelude.{UPDATE_TICKS, Call}
use Rattle.tac_base.specs.declared.calls.Call.TheVariants.{Bid, Withdraw, Own, Update, Publish, Close}

-- an update is of one of the ticks 1..53; any caller may make every other call
abbrev pub IsFit : Call → Type 0
IsFit (Bid points) = ⊤
IsFit Withdraw = ⊤
IsFit Own = ⊤
IsFit (Update tick draw) = tick ≤ UPDATE_TICKS
IsFit Publish = ⊤
IsFit Close = ⊤

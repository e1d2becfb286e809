use Rattle.std.proofs.Common.{◌+◌, ◌<◌, [], length, take, get_or, arith}
use Rattle.std.proofs.lemmas.List.Sums.{sum_by_more}
use Rattle.std.proofs.lemmas.List.Concat.{length-flat_map}
use Rattle.std.proofs.lemmas.Option.{slice_get-get_or}
use Rattle.tac_base.specs.declared.calls.Call.TheVariants as calls
use Rattle.tac_base.specs.declared.calls.Reply.TheVariants as replies
use Rattle.auction_rules.specs.History.{Entry}
use Rattle.script_run.proofs.game.play_count.trades_in.Goals as goal

-- any entry, for places past the end
no_entry : Entry
no_entry = record { caller = 0; call = calls.Own; reply = replies.Done; trades = [] }

pub loop-position-preserved : goal.loop-position-preserved
loop-position-preserved c =
    let history = c.args.auction.now.history in
    let n = c.loop-position.position in
    let inside : n < length history = omega (arith, c.len-position-end.ensures.value) in
    let count = c.trades_at.ensures (get_or history n no_entry) (slice_get-get_or history n no_entry inside) in
    let more = sum_by_more (λ (e : Entry). length e.trades) history n no_entry inside in
    let old = length-flat_map (λ (e : Entry). e.trades) (take n history) in
    let new = length-flat_map (λ (e : Entry). e.trades) (take (n + 1) history) in
    let same = c.from-trades.ensures in
    let small = c.trades_at.type_inv in
    (omega (arith, c.loop-position.invariant.0, count, more, old, new, same), omega (arith, c.loop-position.invariant.1, same, small))

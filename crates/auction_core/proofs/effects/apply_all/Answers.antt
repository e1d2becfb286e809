use Rattle.std.proofs.Common.{take, sym, ap, ◌∙◌, List, ℤ, ◌∷◌, [], ◌≡◌, length, arith}
use Rattle.std.proofs.Math.Seq.{take-length}
use Rattle.trade_ledger.specs.Holdings.{held_after}
use Rattle.auction_core.proofs.Holding.{held_start, held_more, none_leaves, trades_more, traded_so_far}
use Rattle.auction_core.proofs.effects.apply_all.Goals as goal

pub loop-trade-init : goal.loop-trade-init
loop-trade-init c = held_start c.args.held.now c.requires.nine

pub apply-requires : goal.apply-requires
apply-requires c =
    let trades = c.args.trades.now in let i = c.loop-trade.trade-index in let t = c.trade-item.result in
    none_leaves c.loop-trade.held c.args.held.now (take i trades) t c.requires.small c.loop-trade.invariant (traded_so_far trades i 400000 t c.loop-trade-test.true c.trade-item.is c.requires.few)

pub loop-trade-preserved : goal.loop-trade-preserved
loop-trade-preserved c =
    let trades = c.args.trades.now in let i = c.loop-trade.trade-index in let t = c.trade-item.result in
    c.apply.ensures.held
    ∙ (ap (λ (h : List ℤ). held_after h (t ∷ [])) c.loop-trade.invariant
    ∙ (held_more c.args.held.now (take i trades) (t ∷ []) ∙ ap (held_after c.args.held.now) (sym (trades_more trades i t c.loop-trade-test.true c.trade-item.is))))

pub returns : goal.returns
returns c =
    let trades = c.args.trades.now in
    let all : take c.loop-trade.trade-index trades ≡ trades = let end : c.loop-trade.trade-index ≡ length trades = omega arith in ap (λ n. take n trades) end ∙ take-length trades in
    c.loop-trade.invariant ∙ ap (held_after c.args.held.now) all

use Rattle.std.proofs.Common.{ℕ, [], ◌∷◌, ◌++◌, length, sym, ap, ◌∙◌, arith}
use Rattle.std.proofs.lemmas.List.FromFn.{length-map-range_with_len, map-range_with_len_more}
use Rattle.auction_core.specs.Setups.{setup_of}
use Rattle.script_run.proofs.OpenGames.{begun}
use Rattle.script_run.proofs.game.open_game.all_auctions.Goals as goal

pub push_reserved-requires : goal.push_reserved-requires
push_reserved-requires c =
    omega (arith, ap length c.loop-number.invariant.0, length-map-range_with_len (begun c.args.game.now) 0 c.loop-number.number, c.loop-number.auctions.ok.0, c.loop-number.invariant.1)

pub loop-number-preserved : goal.loop-number-preserved
loop-number-preserved c =
    let setup = c.in_ok-auction.ensures.setup ∙ ap (λ (good : ℕ). setup_of good c.args.game.now) c.good_of.ensures in
    let history = c.in_ok-auction.ensures.history in
    let capacity = c.push_reserved.ensures.capacity in (
      c.push_reserved.ensures.items
          ∙ ((λ i. c.loop-number.invariant.0 i ++ record { setup = setup i; history = history i } ∷ [])
          ∙ sym (map-range_with_len_more (begun c.args.game.now) 0 c.loop-number.number c.loop-number.number (omega arith))),
      omega (arith, c.loop-number.invariant.1, capacity),
    )

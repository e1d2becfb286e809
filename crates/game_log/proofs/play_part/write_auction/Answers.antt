use Rattle.std.proofs.Common.{◌∙◌, ℕ, length, refl, ap, flat_map}
use Rattle.log_text.specs.LogText.{auction_line, entry_text}
use Rattle.game_log.proofs.Writing.{gathers_both, gathers_part}
use Rattle.game_log.proofs.play_part.write_auction.Goals as goal

pub returns-in-Ok : goal.returns-in-Ok
returns-in-Ok g c =
    let auction = c.args.auction.now in
    let line = c.as_slice.ensures.value ∙ c.auction_line-line.ensures.value
    ∙ ap (λ (good : ℕ). auction_line good c.len.result) c.good.ensures ∙ ap (auction_line auction.setup.good) c.len.ensures.value in
    gathers_both _ _ (auction_line auction.setup.good (length auction.history)) (flat_map entry_text auction.history) _ _ _ _ _ _ c.write_entries.result
    line refl c.in-Ok.ensures c.write_entries.ensures

pub returns-in-Err : goal.returns-in-Err
returns-in-Err g c =
    let auction = c.args.auction.now in
    let line = c.as_slice.ensures.value ∙ c.auction_line-line.ensures.value
    ∙ ap (λ (good : ℕ). auction_line good c.len.result) c.good.ensures ∙ ap (auction_line auction.setup.good) c.len.ensures.value in
    gathers_part _ (auction_line auction.setup.good (length auction.history)) (flat_map entry_text auction.history) _ _ _ line c.in-Err.ensures

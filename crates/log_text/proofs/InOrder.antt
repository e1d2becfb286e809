-- The auctions of a game stand in the order of their goods.
use Rattle.std.proofs.Common.{◌≡◌, ℕ, zero, suc, ◌+◌, List, [], ◌∷◌, ◌++◌, length, map, refl, sym, ap, ◌∙◌, flat_map}
use Rattle.std.specs.List.{enumerate_from}
use Rattle.std.proofs.lemmas.List.{length-map}
use Rattle.std.proofs.lemmas.List.Concat.{flat_map-cons}
use Rattle.log_text.specs.{Entry, AuctionHistory, ClosedGame, all_goods, auction_text, cash_text, histories_of, histories_text}

-- the text of an auction of a game
abbrev pub kept_text : AuctionHistory → List ℕ
kept_text auction = auction_text auction.setup.good auction.history

-- this many numbers from a number
abbrev numbers_from : ℕ → ℕ → List ℕ
numbers_from from zero = []
numbers_from from (suc count) = from ∷ numbers_from (from + 1) count

from_number : (from : ℕ) (auctions : List AuctionHistory) → map (λ auction. auction.setup.good) auctions ≡ numbers_from from (length auctions) →
    flat_map kept_text auctions ≡ flat_map (λ auction. auction_text auction.0 auction.1) (enumerate_from from (map (λ auction. auction.history) auctions))
from_number from [] goods = refl
from_number from (auction ∷ auctions) goods =
    let good : auction.setup.good ≡ from = cc in
    let others : map (λ a. a.setup.good) auctions ≡ numbers_from (from + 1) (length auctions) = cc in
    flat_map-cons kept_text auction auctions
    ∙ (λ i. auction_text (good i) auction.history ++ from_number (from + 1) auctions others i)
    ∙ sym (flat_map-cons (λ (a : ℕ × List Entry). auction_text a.0 a.1) (from, auction.history) (enumerate_from (from + 1) (map (λ a. a.history) auctions)))

-- the histories of a game, each with its own good
pub in_order : (game : ClosedGame) → map (λ auction. auction.setup.good) game.auctions ≡ all_goods → flat_map kept_text game.auctions ++ cash_text game.cash ≡ histories_text (histories_of game) game.cash
in_order game goods =
    let count : length game.auctions ≡ 28 = sym (length-map game.auctions (λ (a : AuctionHistory). a.setup.good)) ∙ ap length goods in
    ap (λ (t : List ℕ). t ++ cash_text game.cash) (from_number 0 game.auctions (goods ∙ ap (numbers_from 0) (sym count)))

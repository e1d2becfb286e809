-- The counts of a game's histories are those of its pasts.
use Rattle.std.proofs.Common.{◌≡◌, ℕ, ◌+◌, List, [], ◌∷◌, length, map, reverse, refl, sym, ap, ◌∙◌, arith, sum_by}
use Rattle.std.specs.List.{enumerate_from}
use Rattle.std.proofs.lemmas.List.{reverse-append, length-reverse}
use Rattle.std.proofs.lemmas.List.Sums.{sum_by-cons, sum_by_push}
use Rattle.std.proofs.lemmas.List.Concat.{length-flat_map}
use Rattle.script_run.specs.{GameFile, Entry, all_trades, AuctionHistory, ClosedGame, GameState, auction_with, closed_of, count_in}
use Rattle.script_run.specs.declared.game.play_count.PlayCount.{PlayCount}

sum_reversed : {X : Type 0} (f : X → ℕ) (xs : List X) → sum_by f (reverse xs) ≡ sum_by f xs
sum_reversed f [] = refl
sum_reversed f (x ∷ xs) =
    ap (sum_by f) (reverse-append (x ∷ []) xs) ∙ (sum_by_push f (reverse xs) x
    ∙ (let ih = sum_reversed f xs in let more = sum_by-cons f x xs in omega (arith, ih, more)))

trades_reversed : (past : List Entry) → length (all_trades (reverse past)) ≡ length (all_trades past)
trades_reversed past =
    length-flat_map (λ (e : Entry). e.trades) (reverse past)
    ∙ (sum_reversed (λ (e : Entry). length e.trades) past
    ∙ sym (length-flat_map (λ (e : Entry). e.trades) past))

-- a count of each auction's history that does not depend on its order
count_from : (game : GameFile) (count : List Entry → ℕ) → ((past : List Entry) → count (reverse past) ≡ count past) → (good : ℕ) (pasts : List (List Entry)) →
    sum_by (λ (a : AuctionHistory). count a.history) (map (auction_with game) (enumerate_from good pasts)) ≡ sum_by count pasts
count_from game count same good [] = refl
count_from game count same good (past ∷ pasts) =
    sum_by-cons (λ (a : AuctionHistory). count a.history) (auction_with game (good, past)) (map (auction_with game) (enumerate_from (good + 1) pasts))
    ∙ (let ih = count_from game count same (good + 1) pasts in
    let first = same past in
    let more = sum_by-cons count past pasts in
    omega (arith, ih, first, more))

-- the count of a game whose calls are over
abbrev pub counted : ClosedGame → PlayCount
counted closed = record { entries = sum_by (λ (a : AuctionHistory). length a.history) closed.auctions; trades = sum_by (λ (a : AuctionHistory). length (all_trades a.history)) closed.auctions }

pub count_closed : (game : GameFile) (state : GameState) → counted (closed_of game state) ≡ count_in state
count_closed game state = λ i. record {
  entries = count_from game length length-reverse 0 state.pasts i;
  trades = count_from game (λ (past : List Entry). length (all_trades past)) trades_reversed 0 state.pasts i;
}

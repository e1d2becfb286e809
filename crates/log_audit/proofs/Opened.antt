-- The auctions of a log, in the order of their goods.
use Rattle.std.proofs.Common.{◌≡◌, ℕ, zero, suc, ◌+◌, List, [], ◌∷◌, length, map, refl, ap, ◌∙◌, arith, Some, slice_get}
use Rattle.std.specs.List.{enumerate_from}
use Rattle.auction_rules.specs.History.{Entry}
use Rattle.log_audit.specs.Prelude.{AuctionHistory, setup_of, all_goods, GameFile, LoggedGame, auctions_in}

abbrev opened : GameFile → ℕ → List (List Entry) → List AuctionHistory
opened game n histories = map (λ p. record { setup = setup_of p.0 game; history = p.1 }) (enumerate_from n histories)

abbrev numbers : ℕ → ℕ → List ℕ
numbers n zero = []
numbers n (suc k) = n ∷ numbers (n + 1) k

goods_from : (game : GameFile) (n : ℕ) (histories : List (List Entry)) → map (λ (a : AuctionHistory). a.setup.good) (opened game n histories) ≡ numbers n (length histories)
goods_from game n [] = refl
goods_from game n (h ∷ histories) = ap (λ (l : List ℕ). n ∷ l) (goods_from game (n + 1) histories)

-- the auctions of 28 histories are those of the goods in order
pub goods_of : (game : GameFile) (log : LoggedGame) → length log.histories ≡ 28 → map (λ (a : AuctionHistory). a.setup.good) (auctions_in game log) ≡ all_goods
goods_of game log goods = goods_from game 0 log.histories ∙ ap (numbers 0) goods

opened_at : (game : GameFile) (n k : ℕ) (histories : List (List Entry)) (history : List Entry) → slice_get histories k ≡ Some history → slice_get (opened game n histories) k ≡ Some (record { setup = setup_of (n + k) game; history = history })
opened_at game n k [] history at = absurd cc
opened_at game n zero (h ∷ histories) history at =
    let same : h ≡ history = cc in let here : n ≡ n + 0 = omega arith in λ i. Some (record { setup = setup_of (here i) game; history = same i })
opened_at game n (suc k) (h ∷ histories) history at =
    let next : (n + 1) + k ≡ n + suc k = omega arith in opened_at game (n + 1) k histories history at ∙ ap (λ (g : ℕ). Some (record { setup = setup_of g game; history = history })) next

-- the auction of a good
pub auction_at : (game : GameFile) (log : LoggedGame) (good : ℕ) (history : List Entry) → slice_get log.histories good ≡ Some history → slice_get (auctions_in game log) good ≡ Some (record { setup = setup_of good game; history = history })
auction_at game log good history at = let here : 0 + good ≡ good = omega arith in opened_at game 0 good log.histories history at ∙ ap (λ (g : ℕ). Some (record { setup = setup_of g game; history = history })) here

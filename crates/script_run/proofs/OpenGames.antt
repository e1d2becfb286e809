-- The auctions of a game that is played, each known by its good.
use Rattle.std.proofs.Common.{◌≡◌, ℕ, ◌+◌, ◌<◌, ◌≤◌, List, [], ◌∷◌, ◌++◌, length, map, reverse, get_or, set, drop, refl, sym, ap, ◌∙◌, subst, arith}
use Rattle.std.proofs.lemmas.List.{length-map, map-set, reverse-reverse, get_or-map, reverse-append, length-reverse}
use Rattle.std.proofs.Math.Seq.{map-set_same}
use Rattle.std.proofs.lemmas.List.FromFn.{get_or-map-range_with_len}
use Rattle.std.specs.List.{enumerate_from, range_with_len}
use Rattle.script_run.specs.{Call, GameFile, Setup, Entry, board, entry_of, entries_of, part, CashEntry, due_post, setup_of, AuctionHistory, all_goods, past_at, called, auction_with, closed_of, pasts_of, setups_of, all_setups, state_of}
use Rattle.auction_core.proofs.Counting.{by, length-part}
use Rattle.script_run.proofs.Counted.{entries_of-reverse}

-- the auction of a good before the first call
abbrev pub begun : GameFile → ℕ → AuctionHistory
begun game good = record { setup = setup_of good game; history = [] }

pub count_of_auctions : (game : GameFile) (auctions : List AuctionHistory) → setups_of auctions ≡ all_setups game → length auctions ≡ 28
count_of_auctions game auctions is = sym (length-map auctions (λ (a : AuctionHistory). a.setup)) ∙ ap length is

-- an auction that was found at the place of its good
pub record IsFound (auctions : List AuctionHistory) (good : ℕ) (a : AuctionHistory) : Type 0 where
  pub low : good ≤ 27
  pub inside : good < length auctions
  pub here : a ≡ get_or auctions good a

pub found : (game : GameFile) (auctions : List AuctionHistory) (place number good : ℕ) (a : AuctionHistory) → setups_of auctions ≡ all_setups game →
    place ≡ number → number ≡ good → number ≤ 27 → a ≡ get_or auctions place a → IsFound auctions good a
found game auctions place number good a is at by le here =
    let count = count_of_auctions game auctions is in
    record {
      low = omega arith;
      inside = omega arith;
      here = subst (λ (n : ℕ). a ≡ get_or auctions n a) (at ∙ by) here;
    }

-- the setup of an auction is that of its good
pub one_setup : (game : GameFile) (auctions : List AuctionHistory) (good : ℕ) (a : AuctionHistory) → setups_of auctions ≡ all_setups game → good ≤ 27 →
    a ≡ get_or auctions good a → a.setup ≡ setup_of good game
one_setup game auctions good a is le here =
    let count = count_of_auctions game auctions is in
    ap (λ (x : AuctionHistory). x.setup) here
    ∙ (sym (get_or-map (λ (x : AuctionHistory). x.setup) auctions good a a.setup (omega arith))
    ∙ (ap (λ (l : List Setup). get_or l good a.setup) is
    ∙ get_or-map-range_with_len (λ (g : ℕ). setup_of g game) 0 28 good good a.setup (omega arith) (omega arith)))

-- the past of an auction is that of its good
pub one_past : (auctions : List AuctionHistory) (good : ℕ) (a : AuctionHistory) → good < length auctions → a ≡ get_or auctions good a →
    past_at (pasts_of auctions) good ≡ reverse a.history
one_past auctions good a inside here =
    get_or-map (λ (x : AuctionHistory). reverse x.history) auctions good a [] inside ∙ ap (λ (x : AuctionHistory). reverse x.history) (sym here)

pub position_is : (auctions : List AuctionHistory) (good : ℕ) (a : AuctionHistory) → good < length auctions → a ≡ get_or auctions good a →
    length a.history ≡ length (past_at (pasts_of auctions) good)
position_is auctions good a inside here = sym (length-reverse a.history) ∙ ap length (sym (one_past auctions good a inside here))

-- the setups stay the same when one auction changes
pub same_setups : (auctions : List AuctionHistory) (good : ℕ) (a b : AuctionHistory) → a ≡ get_or auctions good a → b.setup ≡ a.setup →
    setups_of (set auctions good b) ≡ setups_of auctions
same_setups auctions good a b here same = map-set_same (λ (x : AuctionHistory). x.setup) auctions good b a (same ∙ ap (λ (x : AuctionHistory). x.setup) here)

reverse_more : (history : List Entry) (e : Entry) → reverse (history ++ e ∷ []) ≡ e ∷ reverse history
reverse_more history e = reverse-append history (e ∷ [])

-- a call in one auction, and its post, make the state after the call
pub called_is : (game : GameFile) (auctions : List AuctionHistory) (cash cash' : List CashEntry) (ticks good caller : ℕ) (call : Call) (a b : AuctionHistory) →
    setups_of auctions ≡ all_setups game → good ≤ 27 → a ≡ get_or auctions good a →
    b.history ≡ a.history ++ entry_of a.setup (reverse a.history) caller call ∷ [] →
    cash' ≡ cash ++ due_post good (length a.history) (entry_of a.setup (reverse a.history) caller call) →
    state_of (set auctions good b) cash' ticks ≡ called game caller good call (state_of auctions cash ticks)
called_is game auctions cash cash' ticks good caller call a b is le here more posted =
    let count = count_of_auctions game auctions is in
    let s : a.setup ≡ setup_of good game = one_setup game auctions good a is le here in
    let p : reverse a.history ≡ past_at (pasts_of auctions) good = sym (one_past auctions good a (omega arith) here) in
    let e : Entry = entry_of a.setup (reverse a.history) caller call in
    let pasts : pasts_of (set auctions good b) ≡ set (pasts_of auctions) good (e ∷ reverse a.history) =
    map-set (λ (x : AuctionHistory). reverse x.history) auctions good b
    ∙ ap (λ (h : List Entry). set (pasts_of auctions) good h) (ap reverse more ∙ reverse_more a.history e) in
    let paid : cash' ≡ cash ++ due_post good (length (reverse a.history)) e =
    posted ∙ ap (λ (n : ℕ). cash ++ due_post good n e) (sym (length-reverse a.history)) in
    (λ i. record { pasts = pasts i; cash = paid i; ticks = ticks })
    ∙ (λ i. record {
      pasts = set (pasts_of auctions) good (entry_of (s i) (p i) caller call ∷ p i);
      cash = cash ++ due_post good (length (p i)) (entry_of (s i) (p i) caller call);
      ticks = ticks;
    })

-- a caller with entries left of a good has them left in the auction
pub room_there : (auctions : List AuctionHistory) (good : ℕ) (a : AuctionHistory) (caller most : ℕ) → IsFound auctions good a →
    entries_of (past_at (pasts_of auctions) good) caller < most → length (part by a.history caller) < most
room_there auctions good a caller most is room =
    let past : entries_of (past_at (pasts_of auctions) good) caller ≡ entries_of (reverse a.history) caller =
    ap (λ (h : List Entry). entries_of h caller) (one_past auctions good a is.inside is.here) in
    omega (arith, room, past, length-part a.history caller, entries_of-reverse a.history caller)

-- a closed game as contracts see it, from the auctions that it keeps
pub closed_from : (game : GameFile) (n : ℕ) (auctions : List AuctionHistory) → setups_of auctions ≡ map (λ (good : ℕ). setup_of good game) (range_with_len n (length auctions)) →
    map (auction_with game) (enumerate_from n (pasts_of auctions)) ≡ auctions
closed_from game n [] is = refl
closed_from game n (a ∷ auctions) is =
    let first : a.setup ≡ setup_of n game = ap (λ (l : List Setup). get_or l 0 a.setup) is in
    let others : setups_of auctions ≡ map (λ (good : ℕ). setup_of good game) (range_with_len (n + 1) (length auctions)) = ap (drop 1) is in
    (λ i. record { setup = sym first i; history = reverse-reverse a.history i } ∷ closed_from game (n + 1) auctions others i)

pub closed_is : (game : GameFile) (auctions : List AuctionHistory) (cash : List CashEntry) (ticks : ℕ) → setups_of auctions ≡ all_setups game →
    closed_of game (state_of auctions cash ticks) ≡ record { auctions = auctions; cash = cash }
closed_is game auctions cash ticks is =
    let count = count_of_auctions game auctions is in
    let there : setups_of auctions ≡ map (λ (good : ℕ). setup_of good game) (range_with_len 0 (length auctions)) =
    is ∙ ap (λ (n : ℕ). map (λ (good : ℕ). setup_of good game) (range_with_len 0 n)) (sym count) in
    λ i. record { auctions = closed_from game 0 auctions there i; cash = cash }

-- the goods of the auctions are all goods in order
pub goods_are : (game : GameFile) (auctions : List AuctionHistory) → setups_of auctions ≡ all_setups game → map (λ (a : AuctionHistory). a.setup.good) auctions ≡ all_goods
goods_are game auctions is = goods_of auctions ∙ ap (map (λ (s : Setup). s.good)) is
  where
    goods_of : (xs : List AuctionHistory) → map (λ (a : AuctionHistory). a.setup.good) xs ≡ map (λ (s : Setup). s.good) (setups_of xs)
    goods_of [] = refl
    goods_of (x ∷ xs) = ap (λ (l : List ℕ). x.setup.good ∷ l) (goods_of xs)

-- what is shown of an auction is the board of its good
pub board_is : (game : GameFile) (auctions : List AuctionHistory) (good : ℕ) (a : AuctionHistory) → setups_of auctions ≡ all_setups game → IsFound auctions good a →
    board a.setup.rules (reverse a.history) ≡ board (setup_of good game).rules (past_at (pasts_of auctions) good)
board_is game auctions good a all is =
    let s = one_setup game auctions good a all is.low is.here in let p = sym (one_past auctions good a is.inside is.here) in
    (λ i. board (s i).rules (p i))

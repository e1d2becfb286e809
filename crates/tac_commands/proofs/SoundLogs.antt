-- The log of a legal game is sound.
use Rattle.std.proofs.Common.{◌≡◌, ℕ, ◌+◌, Bool, true, false, cond, List, [], ◌∷◌, ◌++◌, length, map, get_or, drop, refl, sym, ap, ◌∙◌, subst, append_assoc, ◌==◌, filter}
use Rattle.std.specs.List.{enumerate_from, range_with_len}
use Rattle.std.proofs.lemmas.List.{length-map}
use Rattle.tac_commands.specs.{Call, clock, GameFile, Setup, AuctionHistory, ClosedGame, all_goods, setup_of, settlement_of, Scored, IsSheet, first_lines, histories_of, histories_text, play_part, sheet_part, logged_text, auctions_in, IsSoundHead, IsSound, IsShowable, IsSheetOf, GameLine, closed_game, play_out, IsLawfulGame, replies, log_of_game, EndsInSoundLog}
use Rattle.auction_rules.specs.History.{Entry}
use Rattle.turn_lock.specs.Part.{part_from}
use Rattle.line_protocol.specs.Heads.{Head, Play}
use Rattle.game_log.proofs.ShortLogs.{short_log}
use Rattle.tac_commands.proofs.RangedLogs.{ranged_log}

-- its text is that of the two parts
pub text_is : (head : Head) (closed : ClosedGame) (sheet : List Scored) → play_part head closed ++ sheet_part sheet ≡ logged_text (log_of_game head closed sheet)
text_is head closed sheet = append_assoc (first_lines head) (histories_text (histories_of closed) closed.cash) (sheet_part sheet)

-- the calls of a caller's part are those of its entries
calls_from : (caller n : ℕ) (history : List Entry) →
    map (λ (p : ℕ × Entry). p.1.call) (part_from (λ e. e.caller) caller n history) ≡ map (λ (e : Entry). e.call) (filter (λ e. e.caller == caller) history)
calls_from caller n [] = refl
calls_from caller n (e ∷ history) = by_test (e.caller == caller) (calls_from caller (n + 1) history)
  where
    by_test : (b : Bool) → map (λ (p : ℕ × Entry). p.1.call) (part_from (λ x. x.caller) caller (n + 1) history) ≡ map (λ (x : Entry). x.call) (filter (λ x. x.caller == caller) history)
        → map (λ (p : ℕ × Entry). p.1.call) (cond b ((n, e) ∷ part_from (λ x. x.caller) caller (n + 1) history) (part_from (λ x. x.caller) caller (n + 1) history))
        ≡ map (λ (x : Entry). x.call) (cond b (e ∷ filter (λ x. x.caller == caller) history) (filter (λ x. x.caller == caller) history))
    by_test true rest = ap (λ (l : List Call). e.call ∷ l) rest
    by_test false rest = rest

-- the auctions that are found again are those of the game
auctions_from : (game : GameFile) (n : ℕ) (auctions : List AuctionHistory) → map (λ (a : AuctionHistory). a.setup) auctions ≡ map (λ (good : ℕ). setup_of good game) (range_with_len n (length auctions)) →
    map (λ (p : ℕ × List Entry). record { setup = setup_of p.0 game; history = p.1 }) (enumerate_from n (map (λ (a : AuctionHistory). a.history) auctions)) ≡ auctions
auctions_from game n [] is = refl
auctions_from game n (a ∷ auctions) is =
    let first : a.setup ≡ setup_of n game = ap (λ (l : List Setup). get_or l 0 a.setup) is in
    let others : map (λ (x : AuctionHistory). x.setup) auctions ≡ map (λ (good : ℕ). setup_of good game) (range_with_len (n + 1) (length auctions)) = ap (drop 1) is in
    λ i. record { setup = sym first i; history = a.history } ∷ auctions_from game (n + 1) auctions others i

pub auctions_again : (game : GameFile) (head : Head) (closed : ClosedGame) (sheet : List Scored) → map (λ (a : AuctionHistory). a.setup) closed.auctions ≡ map (λ (good : ℕ). setup_of good game) all_goods →
    auctions_in game (log_of_game head closed sheet) ≡ closed.auctions
auctions_again game head closed sheet is =
    let count : length closed.auctions ≡ 28 = sym (length-map closed.auctions (λ (a : AuctionHistory). a.setup)) ∙ ap length is in
    auctions_from game 0 closed.auctions (is ∙ ap (λ (n : ℕ). map (λ (good : ℕ). setup_of good game) (range_with_len 0 n)) (sym count))

-- with a sheet of the game, and a head that goes with it
pub sound_log : (game : GameFile) (head : Head) (closed : ClosedGame) (sheet : List Scored) → IsLawfulGame game closed → IsSheetOf game closed sheet → IsSoundHead (log_of_game head closed sheet) head →
    IsSound game (log_of_game head closed sheet)
sound_log game head closed sheet lawful scores sound = record {
  legal = lawful.legal;
  scheduled = λ good low. sym (calls_from clock 0 (get_or (histories_of closed) good [])) ∙ lawful.scheduled good low;
  cash = lawful.cash;
  matched = lawful.matched;
  scores = subst (λ (auctions : List AuctionHistory). IsSheet game (settlement_of auctions) sheet) (sym (auctions_again game head closed sheet lawful.setups)) scores;
  head = sound;
}

-- a text that ends in the log of a lawful game, with a sheet of it
pub ends_soundly : (game : GameFile) (head : Head) (closed : ClosedGame) (sheet : List Scored) (before text : List ℕ) → IsLawfulGame game closed → IsSheetOf game closed sheet → IsSoundHead (log_of_game head closed sheet) head →
    IsShowable game head closed → text ≡ before ++ logged_text (log_of_game head closed sheet) → EndsInSoundLog game (log_of_game head closed sheet) before text
ends_soundly game head closed sheet before text lawful scores sound shown due =
    let ranged = ranged_log game head closed sheet shown lawful scores sound in
    record { due = due; sound = sound_log game head closed sheet lawful scores sound; ranged = ranged; logged = short_log (log_of_game head closed sheet) ranged }

-- the text of a game by the lines of a script ends in such a log
pub played_soundly : (game : GameFile) (lines : List GameLine) (sheet : List Scored) (text : List ℕ) → IsLawfulGame game (closed_game game lines) → IsSheetOf game (closed_game game lines) sheet →
    IsShowable game Play (closed_game game lines) → text ≡ play_out game lines sheet → EndsInSoundLog game (log_of_game Play (closed_game game lines) sheet) (replies game lines) text
played_soundly game lines sheet text lawful scores shown due =
    let closed : ClosedGame = closed_game game lines in
    ends_soundly game Play closed sheet (replies game lines) text lawful scores tt shown
    (due ∙ (append_assoc (replies game lines) (play_part Play closed) (sheet_part sheet) ∙ ap (λ (t : List ℕ). replies game lines ++ t) (text_is Play closed sheet)))

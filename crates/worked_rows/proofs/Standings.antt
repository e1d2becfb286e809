-- The standings of one game twice and of three games, and averages in lowest terms.
use Rattle.std.proofs.Common.{◌≡◌, ℕ, List, [], ◌∷◌, map, ℤ, pos, negsuc, refl, arith, codes, false}
use Rattle.std.proofs.lemmas.Nat.Gcd.{IsGcd-from_mod, IsGcd-from_zero}
use Rattle.bound_cert.specs.Trees.{leaf}
use Rattle.settlement.specs.Sheets.{Scored}
use Rattle.game_text.specs.Games.{GameFile}
use Rattle.line_protocol.specs.Heads.{Head, Play, Serve}
use Rattle.line_protocol.specs.declared.admission.Verdict.TheVariants.{Seated, Lost}
use Rattle.log_text.specs.LoggedGames.{LoggedGame}
use Rattle.game_text.specs.SeatWords.{numbered_seats}
use Rattle.tourney.specs.Standings.{teams, game_count, total, rank}
use Rattle.tourney.specs.Rows.{IsAverage}

scored : ℤ → Scored
scored score = record { best = 0; cash = pos 0; short = 0; score = score; allocation = []; tree = leaf [] }

game_of : List (List ℕ) → GameFile
game_of words = record { version = 1; words = words; flights = []; order = []; rooms = []; live = false; endow = []; clients = [] }

log_of : Head → List ℤ → LoggedGame
log_of head scores = record { head = head; histories = []; cash = []; scores = map scored scores }

-- a game in which three agents traded, and one in which nobody did
traded : GameFile × LoggedGame
traded = (game_of numbered_seats, log_of Play (pos 440 ∷ negsuc 279 ∷ negsuc 59 ∷ pos 0 ∷ pos 0 ∷ pos 0 ∷ pos 0 ∷ pos 0 ∷ []))

quiet_one : GameFile × LoggedGame
quiet_one = (game_of numbered_seats, log_of Play (pos 0 ∷ pos 0 ∷ pos 0 ∷ pos 0 ∷ pos 0 ∷ pos 0 ∷ pos 0 ∷ pos 0 ∷ []))

-- a game over links in which agents 2 and 0 have a seat, and `seat0` is agent 2's
served : GameFile × LoggedGame
served = (game_of (codes "a" ∷ codes "b" ∷ codes "seat0" ∷ codes "d" ∷ codes "e" ∷ codes "f" ∷ codes "g" ∷ codes "h" ∷ []), log_of (Serve (Seated 2 ∷ Lost ∷ Seated 0 ∷ []) [] 0) (pos 7 ∷ pos 9 ∷ pos 20 ∷ pos 0 ∷ pos 0 ∷ pos 0 ∷ pos 0 ∷ pos 0 ∷ []))

-- ---- the same game twice

twice : List (GameFile × LoggedGame)
twice = traded ∷ traded ∷ []

standings_of_one_game_twice : (teams twice ≡ numbered_seats)
    × (total twice (codes "seat0") ≡ pos 880) × (total twice (codes "seat1") ≡ negsuc 559) × (total twice (codes "seat2") ≡ negsuc 119) × (game_count twice (codes "seat7") ≡ 2)
    × (rank twice (codes "seat0") ≡ 1) × (rank twice (codes "seat1") ≡ 8) × (rank twice (codes "seat2") ≡ 7) × (rank twice (codes "seat3") ≡ 2) × (rank twice (codes "seat7") ≡ 2)
unfolding twice traded game_of log_of scored
standings_of_one_game_twice = (refl, refl, refl, refl, refl, refl, refl, refl, refl, refl)

-- ---- a game, and two in which nobody traded

thrice : List (GameFile × LoggedGame)
thrice = traded ∷ quiet_one ∷ quiet_one ∷ []

standings_of_three_games : (game_count thrice (codes "seat0") ≡ 3) × (total thrice (codes "seat0") ≡ pos 440) × (total thrice (codes "seat1") ≡ negsuc 279) × (total thrice (codes "seat2") ≡ negsuc 59)
unfolding thrice traded quiet_one game_of log_of scored
standings_of_three_games = (refl, refl, refl, refl)

-- ---- seats

-- agents without a seat do not count, and a team may have another agent's place in another game
standings_over_links : (teams (served ∷ traded ∷ []) ≡ codes "a" ∷ numbered_seats)
    × (game_count (served ∷ traded ∷ []) (codes "seat0") ≡ 2) × (total (served ∷ traded ∷ []) (codes "seat0") ≡ pos 460)
    × (game_count (served ∷ traded ∷ []) (codes "a") ≡ 1) × (game_count (served ∷ traded ∷ []) (codes "b") ≡ 0)
unfolding served traded game_of log_of scored
standings_over_links = (refl, refl, refl, refl, refl)

averages_in_lowest_terms : IsAverage (negsuc 559) 2 (negsuc 279) 1 × IsAverage (pos 440) 3 (pos 440) 3 × IsAverage (pos 0) 3 (pos 0) 1
averages_in_lowest_terms = (
  record { same = refl; positive = omega arith; lowest = IsGcd-from_mod 280 1 1 (IsGcd-from_zero 1 0 refl) },
  record { same = refl; positive = omega arith; lowest = IsGcd-from_mod 440 3 1 (IsGcd-from_mod 3 2 1 (IsGcd-from_mod 2 1 1 (IsGcd-from_zero 1 0 refl))) },
  record { same = refl; positive = omega arith; lowest = IsGcd-from_mod 0 1 1 (IsGcd-from_zero 1 0 refl) },
)

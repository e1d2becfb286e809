-- The standings of games, each given by its file and its log. A team is a seat's word.
use Rattle.std.specs.Prelude.{ℕ, ◌+◌, not, nat_lt, List, [], ◌∷◌, Bool, true, ℤ, pos, ◌+ℤ◌, ◌*ℤ◌, int_lt, map, filter, fold, count_by, slice_index_or, flat_map, bytes_eq}
use Rattle.tourney.specs.Prelude.{agents, GameFile, Head, Play, Serve, LoggedGame, seatings}

-- whether an agent counts in a game: each does if a script was played; otherwise those that were given their seat do
abbrev pub counts : Head → ℕ → Bool
counts Play agent = true
counts (Serve verdicts ends missed) agent = nat_lt 0 (seatings verdicts agent)

-- the word of an agent's seat, and the agent's score
abbrev pub result_of : GameFile × LoggedGame → ℕ → List ℕ × ℤ
result_of played agent = (slice_index_or played.0.words agent [], slice_index_or (map (λ scored. scored.score) played.1.scores) agent (pos 0))

-- the results of a game, of each agent that counts in it
abbrev pub results_of : GameFile × LoggedGame → List (List ℕ × ℤ)
results_of played = map (result_of played) (filter (counts played.1.head) agents)

-- the results of all games
abbrev pub results : List (GameFile × LoggedGame) → List (List ℕ × ℤ)
results played = flat_map results_of played

-- each word once, in the order in which they first appear
abbrev pub firsts : List (List ℕ) → List (List ℕ)
firsts [] = []
firsts (word ∷ words) = word ∷ filter (λ other. not (bytes_eq word other)) (firsts words)

-- the teams of results, in the order in which they first appear
abbrev pub teams_in : List (List ℕ × ℤ) → List (List ℕ)
teams_in results = firsts (map (λ result. result.0) results)

-- the results of a team
abbrev pub results_with : List ℕ → List (List ℕ × ℤ) → List (List ℕ × ℤ)
results_with word results = filter (λ result. bytes_eq word result.0) results

-- the number of games in which a team counts
abbrev pub games_in : List (List ℕ × ℤ) → List ℕ → ℕ
games_in results word = count_by (λ result. bytes_eq word result.0) results

-- the sum of a team's scores
abbrev pub total_in : List (List ℕ × ℤ) → List ℕ → ℤ
total_in results word = fold ◌+ℤ◌ (pos 0) (map (λ result. result.1) (results_with word results))

-- ---- over games

abbrev pub teams : List (GameFile × LoggedGame) → List (List ℕ)
teams played = teams_in (results played)

abbrev pub game_count : List (GameFile × LoggedGame) → List ℕ → ℕ
game_count played word = games_in (results played) word

abbrev pub total : List (GameFile × LoggedGame) → List ℕ → ℤ
total played word = total_in (results played) word

-- whether one total over this many games has a greater average than another: n / d is above m / e if m * d is below n * e
abbrev pub is_above : ℤ → ℕ → ℤ → ℕ → Bool
is_above total games other_total other_games = int_lt (other_total *ℤ pos games) (total *ℤ pos other_games)

-- whether the first team's average is greater than the second's
abbrev pub is_ahead : List (GameFile × LoggedGame) → List ℕ → List ℕ → Bool
is_ahead played word other = is_above (total played word) (game_count played word) (total played other) (game_count played other)

-- 1 plus the number of teams with a greater average
abbrev pub rank : List (GameFile × LoggedGame) → List ℕ → ℕ
rank played word = 1 + count_by (λ other. is_ahead played other word) (teams played)

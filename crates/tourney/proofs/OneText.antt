-- The standings of games have one list of rows, and so one text.
use Rattle.std.proofs.Common.{◌≡◌, ℕ, ◌+◌, ◌<◌, ◌≤◌, List, [], ◌∷◌, ◌++◌, true, map, cond, length, get_or, ℤ, sym, ap, ◌∙◌, subst, arith, bytes_eq}
use Rattle.std.specs.List.{list_any}
use Rattle.std.proofs.lemmas.List.{same_lists}
use Rattle.std.proofs.lemmas.List.Sums.{sum_by-cons}
use Rattle.std.proofs.lemmas.List.Folds.{list_any_at}
use Rattle.std.proofs.lemmas.Option.{slice_get-get_or}
use Rattle.tourney.specs.{GameFile, LoggedGame, IsAverage, IsRow, AreRows, IsPrinted, standings_text}
use Rattle.tourney.specs.declared.rows.TeamRow.{TeamRow}
use Rattle.tourney.specs.Standings.{results, teams, game_count, total, games_in, teams_in}
use Rattle.tourney.proofs.Words.{itself, cases, second_passes}
use Rattle.tourney.proofs.Firsts.{firsts_any}
use Rattle.tourney.proofs.Tallied.{Results}
use Rattle.tourney.proofs.OneAverage.{one_average}

abbrev words_of : Results → List (List ℕ)
words_of rs = map (λ (result : List ℕ × ℤ). result.0) rs

-- a word that appeared has a game
some_game : (rs : Results) (word : List ℕ) → list_any (bytes_eq word) (words_of rs) ≡ true → 1 ≤ games_in rs word
some_game [] word met = absurd cc
some_game (r ∷ rs) word met =
    subst (λ (n : ℕ). 1 ≤ n) (sym (sum_by-cons (λ (result : List ℕ × ℤ). cond (bytes_eq word result.0) 1 0) r rs)) (cases (bytes_eq word r.0)
    (λ e. rw e (first (games_in rs word)))
    (λ n. rw n (later (games_in rs word) (some_game rs word (second_passes (bytes_eq word r.0) (list_any (bytes_eq word) (words_of rs)) met n)))))
  where
    first : (n : ℕ) → 1 ≤ 1 + n
    first n = omega arith

    later : (n : ℕ) → 1 ≤ n → 1 ≤ 0 + n
    later n some = omega (arith, some)

team_plays : (rs : Results) (place : ℕ) → place < length (teams_in rs) → 1 ≤ games_in rs (get_or (teams_in rs) place [])
team_plays rs place inside =
    let word = get_or (teams_in rs) place [] in
    some_game rs word (sym (firsts_any word (words_of rs)) ∙ list_any_at (bytes_eq word) (teams_in rs) place [] inside (itself word))

abbrev made : ℕ → ℕ → ℤ → ℤ → ℕ → ℕ → TeamRow
made team games total over under rank = record { team = team; games = games; total = total; over = over; under = under; rank = rank }

one_row : (played : List (GameFile × LoggedGame)) (place : ℕ) (word : List ℕ) (row other : TeamRow) → 1 ≤ game_count played word → IsRow played place word row → IsRow played place word other → row ≡ other
one_row played place word row other some first second =
    let total : row.total ≡ other.total = first.total ∙ sym second.total in
    let games : row.games ≡ other.games = first.games ∙ sym second.games in
    let average : IsAverage row.total row.games other.over other.under = subst (λ (n : ℕ). IsAverage row.total n other.over other.under) (sym games) (subst (λ (z : ℤ). IsAverage z other.games other.over other.under) (sym total) second.average) in
    let same = one_average row.total row.over other.over row.games row.under other.under (subst (λ (n : ℕ). 1 ≤ n) (sym first.games) some) first.average average in
    λ i. made ((first.team ∙ sym second.team) i) (games i) (total i) (same.0 i) (same.1 i) ((first.rank ∙ sym second.rank) i)

pub one_list : (played : List (GameFile × LoggedGame)) (rows others : List TeamRow) → AreRows played rows → AreRows played others → rows ≡ others
one_list played rows others first second =
    same_lists rows others (first.count ∙ sym second.count) (λ place row inside.
    let there : place < length (teams played) = subst (λ (n : ℕ). place < n) first.count inside in
    let also : place < length others = subst (λ (n : ℕ). place < n) (sym second.count) there in
    one_row played place (get_or (teams played) place []) (get_or rows place row) (get_or others place row) (team_plays (results played) place there)
    (first.each place (get_or rows place row) (slice_get-get_or rows place row inside))
    (second.each place (get_or others place row) (slice_get-get_or others place row also)))

pub one_text : (played : List (GameFile × LoggedGame)) (old text other : List ℕ) → IsPrinted played old text → IsPrinted played old other → text ≡ other
one_text played old text other first second =
    first.is ∙ ap (λ (rows : List TeamRow). old ++ standings_text played rows) (one_list played first.rows second.rows first.are second.are) ∙ sym second.is

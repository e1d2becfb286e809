-- The prefixes of a legal history, and their boards.
use Rattle.std.proofs.Common.{◌≡◌, ℕ, zero, suc, ◌+◌, ◌<◌, ◌≤◌, List, [], ◌∷◌, ◌++◌, length, map, take, Some, refl, sym, ap, ◌∙◌, subst, arith, inl, inr, length-take, reverse, slice_get, slice_index_or, length-append}
use Rattle.std.specs.Global.{Vec}
use Rattle.std.proofs.lemmas.List.{length-reverse, length-map}
use Rattle.std.proofs.lemmas.Option.{slice_get_within}
use Rattle.std.proofs.lemmas.Bool.Decides.{leb_tells}
use Rattle.link_audit.specs.{Board, AUCTION_ENTRIES, GameFile, Legal, entry_of, entries_of, cap, setup_of, board_of, LoggedGame, logged_history, AreBoards, AreRow, IsTable}
use Rattle.auction_rules.specs.History.{Entry}
use Rattle.auction_rules.specs.Setup.{Setup}
use Rattle.log_audit.proofs.Fairness.{ruled, fair_from_legal}
use Rattle.log_audit.proofs.Positions.{take_at}

-- the entry that the rules give after a prefix of a legal history is the next one
pub next_prefix : (setup : Setup) (history : List Entry) (n : ℕ) (e : Entry) → Legal setup history → slice_get history n ≡ Some e
    → take n history ++ entry_of setup (reverse (take n history)) e.caller e.call ∷ [] ≡ take (n + 1) history
next_prefix setup history n e legal at =
    let fair = fair_from_legal setup history legal n e at in
    ap (λ (x : Entry). take n history ++ x ∷ []) (sym (ruled setup (reverse (take n history)) e fair.reply fair.trades)) ∙ sym (take_at history n e at)

-- its caller has an entry left
pub room_next : (setup : Setup) (history : List Entry) (n : ℕ) (e : Entry) → Legal setup history → slice_get history n ≡ Some e → entries_of (take n history) e.caller ≤ cap e.caller → entries_of (take n history) e.caller < cap e.caller
room_next setup history n e legal at most = let apart = (fair_from_legal setup history legal n e at).room in omega (arith, most, apart)

module _ {A : Type 0} where
  get_before : (xs ys : List A) (k : ℕ) → k < length xs → slice_get (xs ++ ys) k ≡ slice_get xs k
  get_before [] ys k inside = absurd (omega (arith, inside))
  get_before (x ∷ xs) ys zero inside = refl
  get_before (x ∷ xs) ys (suc k) inside = get_before xs ys k (omega (arith, inside))

  get_last : (xs : List A) (y : A) (k : ℕ) → k ≡ length xs → slice_get (xs ++ y ∷ []) k ≡ Some y
  get_last [] y zero is = refl
  get_last [] y (suc k) is = absurd (omega (arith, is))
  get_last (x ∷ xs) y zero is = absurd (omega (arith, is))
  get_last (x ∷ xs) y (suc k) is = get_last xs y k (omega (arith, is))

  -- one more, of which each is known
  pub each_more : (f : ℕ → A) (xs : List A) (x : A) (n : ℕ) → length xs ≡ n → ((k : ℕ) → k < n → slice_get xs k ≡ Some (f k)) → x ≡ f n → (k : ℕ) → k < n + 1 → slice_get (xs ++ x ∷ []) k ≡ Some (f k)
  each_more f xs x n long each is k below = elim (leb_tells (k + 1) n) [
    | inl low ↦ (let inside = low.1 in get_before xs (x ∷ []) k (omega (arith, inside, long)) ∙ each k (omega (arith, inside)))
    | inr high ↦ (let past = high.1 in let last : k ≡ n = omega (arith, past, below) in get_last xs x k (last ∙ sym long) ∙ (ap (λ (y : A). Some y) is ∙ ap (λ (m : ℕ). Some (f m)) (sym last)))
  ]

module _ (game : GameFile) (good : ℕ) (history : List Entry) where
  abbrev board_at : ℕ → Board
  board_at count = board_of (record { setup = setup_of good game; history = history }) (take count history)

  pub row_more : (n : ℕ) (row : List Board) (board : Board) → AreRow game good history n row → board ≡ board_of (record { setup = setup_of good game; history = history }) (take (n + 1) history) → AreRow game good history (n + 1) (row ++ board ∷ [])
  row_more n row board are is = record {
    long = (let long = are.long in omega (arith, long, length-append row (board ∷ [])));
    each = λ count few. each_more board_at row board (n + 1) are.long (λ k below. are.each k (omega (arith, below))) is count (omega (arith, few));
  }

  pub board_counts : (count : ℕ) → count ≤ length history → (board_of (record { setup = setup_of good game; history = history }) (take count history)).count ≡ count
  board_counts count few = omega (arith, length-reverse (take count history), length-take count history, few)

-- ---- all rows

pub record AreRows (game : GameFile) (log : LoggedGame) (number : ℕ) (rows : List (List Board)) : Type 0 where
  pub long : length rows ≡ number
  pub each : (good : ℕ) → good < number → AreRow game good (logged_history log good) (length (logged_history log good)) (slice_index_or rows good [])

index_before : (xs ys : List (List Board)) (k : ℕ) → k < length xs → slice_index_or (xs ++ ys) k [] ≡ slice_index_or xs k []
index_before [] ys k inside = absurd (omega (arith, inside))
index_before (x ∷ xs) ys zero inside = refl
index_before (x ∷ xs) ys (suc k) inside = index_before xs ys k (omega (arith, inside))

index_last : (xs : List (List Board)) (y : List Board) (k : ℕ) → k ≡ length xs → slice_index_or (xs ++ y ∷ []) k [] ≡ y
index_last [] y zero is = refl
index_last [] y (suc k) is = absurd (omega (arith, is))
index_last (x ∷ xs) y zero is = absurd (omega (arith, is))
index_last (x ∷ xs) y (suc k) is = index_last xs y k (omega (arith, is))

pub rows_more : (game : GameFile) (log : LoggedGame) (number : ℕ) (rows : List (List Board)) (row : List Board) → AreRows game log number rows
    → AreRow game number (logged_history log number) (length (logged_history log number)) row → AreRows game log (number + 1) (rows ++ row ∷ [])
rows_more game log number rows row are new = record {
  long = (let long = are.long in omega (arith, long, length-append rows (row ∷ [])));
  each = λ good below. elim (leb_tells (good + 1) number) [
    | inl low ↦
        (let inside = low.1 in let long = are.long in
        subst (AreRow game good (logged_history log good) (length (logged_history log good))) (sym (index_before rows (row ∷ []) good (omega (arith, inside, long)))) (are.each good (omega (arith, inside))))
    | inr high ↦
        (let past = high.1 in let last : number ≡ good = omega (arith, past, below) in
        subst (λ (k : ℕ). AreRow game k (logged_history log k) (length (logged_history log k)) (slice_index_or (rows ++ row ∷ []) k [])) last
        (subst (AreRow game number (logged_history log number) (length (logged_history log number))) (sym (index_last rows row number (sym are.long))) new))
  ];
}

pub boards_of_rows : (game : GameFile) (log : LoggedGame) (rows : List (List Board)) → AreRows game log 28 rows → AreBoards game log rows
boards_of_rows game log rows are = record { long = λ good low. (are.each good low).long; each = λ good count low few. (are.each good low).each count few }

pub table_of_rows : (game : GameFile) (log : LoggedGame) (boards : List (Vec Board)) → AreRows game log 28 (map (λ row. row.items) boards) → ((good : ℕ) → good < 28 → length (logged_history log good) ≤ AUCTION_ENTRIES)
    → IsTable boards
table_of_rows game log boards are few = record {
  goods = (let long = are.long in omega (arith, long, length-map boards (λ (row : Vec Board). row.items)));
  few = λ good low. (let long = (are.each good low).long in let most = few good low in omega (arith, long, most));
  counts = λ good count board low at. (
      let row = are.each good low in
      let history = logged_history log good in
      let inside = slice_get_within (slice_index_or (map (λ (r : Vec Board). r.items) boards) good []) count board at in
      let long = row.long in
      let short : count ≤ length history = omega (arith, inside, long) in
      let due : Board = board_of (record { setup = setup_of good game; history = history }) (take count history) in
      let same : board ≡ due = (let both : Some board ≡ Some due = sym at ∙ row.each count short in cc) in
      ap (λ (b : Board). b.count) same ∙ board_counts game good history count short);
}

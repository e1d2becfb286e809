-- Each word once, in the order in which they first appear.
use Rattle.std.proofs.Common.{◌≡◌, ℕ, List, [], ◌∷◌, ◌++◌, true, false, not, filter, ◌||◌, refl, ap, ◌∙◌, bytes_eq, append-nil}
use Rattle.std.specs.List.{list_any, IsDistinct, AllByRecursion}
use Rattle.std.proofs.lemmas.List.Elements.{filter-append}
use Rattle.std.proofs.lemmas.Map.Keys.{IsDistinct-cons, IsDistinct-head, IsDistinct-tail}
use Rattle.tourney.specs.Standings.{firsts}
use Rattle.tourney.proofs.Words.{turned, apart, cases, first_fails, second_fails, first_passes}

-- the words that differ from one
abbrev others : List ℕ → List (List ℕ) → List (List ℕ)
others word words = filter (λ other. not (bytes_eq word other)) words

-- other words stay where a word is taken away
any_others : (w x : List ℕ) → bytes_eq x w ≡ false → (words : List (List ℕ)) → list_any (bytes_eq w) (others x words) ≡ list_any (bytes_eq w) words
any_others w x ne [] = refl
any_others w x ne (y ∷ ys) = cases (bytes_eq x y) (λ e. rw e (rw (turned y w false (apart x y w e ne)) (any_others w x ne ys))) (λ n. rw n (ap (λ b. bytes_eq w y || b) (any_others w x ne ys)))

-- a word is among the first ones exactly if it is among all
pub firsts_any : (w : List ℕ) (words : List (List ℕ)) → list_any (bytes_eq w) (firsts words) ≡ list_any (bytes_eq w) words
firsts_any w [] = refl
firsts_any w (x ∷ xs) = cases (bytes_eq w x) (λ e. rw e refl) (λ n. rw n (any_others w x (turned w x false n) (firsts xs) ∙ firsts_any w xs))

others_end : (x w : List ℕ) (words : List (List ℕ)) → bytes_eq x w ≡ true → others x (words ++ w ∷ []) ≡ others x words
others_end x w words e = filter-append (λ other. not (bytes_eq x other)) words (w ∷ []) ∙ rw e (append-nil (others x words))

others_more : (x w : List ℕ) (words : List (List ℕ)) → bytes_eq x w ≡ false → others x (words ++ w ∷ []) ≡ others x words ++ w ∷ []
others_more x w words n = filter-append (λ other. not (bytes_eq x other)) words (w ∷ []) ∙ rw n refl

-- a new word comes last
pub firsts_new : (w : List ℕ) (words : List (List ℕ)) → list_any (bytes_eq w) words ≡ false → firsts (words ++ w ∷ []) ≡ firsts words ++ w ∷ []
firsts_new w [] none = refl
firsts_new w (x ∷ xs) none =
    let differs = first_fails (bytes_eq w x) (list_any (bytes_eq w) xs) none in
    ap (λ (ws : List (List ℕ)). x ∷ others x ws) (firsts_new w xs (second_fails (bytes_eq w x) (list_any (bytes_eq w) xs) none)) ∙ ap (λ (ws : List (List ℕ)). x ∷ ws) (others_more x w (firsts xs) (turned w x false differs))

-- a word that appeared before changes nothing
pub firsts_known : (w : List ℕ) (words : List (List ℕ)) → list_any (bytes_eq w) words ≡ true → firsts (words ++ w ∷ []) ≡ firsts words
firsts_known w [] some = absurd cc
firsts_known w (x ∷ xs) some = cases (list_any (bytes_eq w) xs)
    (λ later. ap (λ (ws : List (List ℕ)). x ∷ others x ws) (firsts_known w xs later))
    (λ new. ap (λ (ws : List (List ℕ)). x ∷ others x ws) (firsts_new w xs new) ∙ ap (λ (ws : List (List ℕ)). x ∷ ws) (others_end x w (firsts xs) (turned w x true (first_passes (bytes_eq w x) (list_any (bytes_eq w) xs) some new))))

all_apart : (x : List ℕ) (words : List (List ℕ)) → AllByRecursion (λ y. bytes_eq x y ≡ false) (others x words)
all_apart x [] = tt
all_apart x (y ∷ ys) = cases (bytes_eq x y) (λ e. rw e (all_apart x ys)) (λ n. rw n (n, all_apart x ys))

still_apart : (w x : List ℕ) (words : List (List ℕ)) → AllByRecursion (λ y. bytes_eq w y ≡ false) words → AllByRecursion (λ y. bytes_eq w y ≡ false) (others x words)
still_apart w x [] all = tt
still_apart w x (y ∷ ys) all = cases (bytes_eq x y) (λ e. rw e (still_apart w x ys all.1)) (λ n. rw n (all.0, still_apart w x ys all.1))

others_distinct : (x : List ℕ) (words : List (List ℕ)) → IsDistinct bytes_eq words → IsDistinct bytes_eq (others x words)
others_distinct x [] d = d
others_distinct x (y ∷ ys) d = cases (bytes_eq x y)
    (λ e. rw e (others_distinct x ys (IsDistinct-tail bytes_eq y ys d)))
    (λ n. rw n (IsDistinct-cons bytes_eq y (others x ys) (still_apart y x ys (IsDistinct-head bytes_eq y ys d)) (others_distinct x ys (IsDistinct-tail bytes_eq y ys d))))

pub firsts_distinct : (words : List (List ℕ)) → IsDistinct bytes_eq (firsts words)
unfolding IsDistinct
firsts_distinct [] = tt
firsts_distinct (x ∷ xs) = IsDistinct-cons bytes_eq x (others x (firsts xs)) (all_apart x (firsts xs)) (others_distinct x (firsts xs) (firsts_distinct xs))

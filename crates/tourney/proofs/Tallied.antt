-- The tally of a team with one result more.
use Rattle.std.proofs.Common.{◌≡◌, ℕ, ◌+◌, List, [], ◌∷◌, ◌++◌, Bool, true, false, map, fold, cond, refl, ap, ◌∙◌, ℤ, pos, ◌+ℤ◌, arith, bytes_eq, append-nil}
use Rattle.std.specs.List.{list_any}
use Rattle.std.proofs.lemmas.List.{map-append}
use Rattle.std.proofs.lemmas.List.Elements.{filter-append}
use Rattle.std.proofs.lemmas.List.Sums.{sum_by_push, fold_push}
use Rattle.tourney.specs.declared.tallies.Tally.{Tally}
use Rattle.tourney.specs.{games_in, total_in, results_with, tally_of, with_score, no_tally}
use Rattle.tourney.proofs.Words.{itself, turned, cases, second_fails, no_clash}

abbrev pub Results : Type 0
Results = List (List ℕ × ℤ)

abbrev total_over : Results → ℤ
total_over results = fold ◌+ℤ◌ (pos 0) (map (λ (result : List ℕ × ℤ). result.1) results)

with_more : (rs : Results) (r : List ℕ × ℤ) (word : List ℕ) → results_with word (rs ++ r ∷ []) ≡ results_with word rs ++ (cond (bytes_eq word r.0) (r ∷ []) [])
with_more rs r word = filter-append (λ (result : List ℕ × ℤ). bytes_eq word result.0) rs (r ∷ [])

games_more : (rs : Results) (r : List ℕ × ℤ) (word : List ℕ) → games_in (rs ++ r ∷ []) word ≡ games_in rs word + cond (bytes_eq word r.0) 1 0
games_more rs r word = sum_by_push (λ (result : List ℕ × ℤ). cond (bytes_eq word result.0) 1 0) rs r

total_push : (rs : Results) (r : List ℕ × ℤ) → total_over (rs ++ r ∷ []) ≡ total_over rs +ℤ r.1
total_push rs r = ap (fold ◌+ℤ◌ (pos 0)) (map-append (λ (result : List ℕ × ℤ). result.1) rs (r ∷ [])) ∙ fold_push ◌+ℤ◌ (pos 0) (map (λ (result : List ℕ × ℤ). result.1) rs) r.1

abbrev made : ℕ → ℤ → Tally
made games total = record { games = games; total = total }

-- the team of the result has a game and a score more
pub tally_more : (rs : Results) (r : List ℕ × ℤ) → tally_of (rs ++ r ∷ []) r.0 ≡ with_score (tally_of rs r.0) r.1
tally_more rs r =
    let own : bytes_eq r.0 r.0 ≡ true = itself r.0 in
    let games : games_in (rs ++ r ∷ []) r.0 ≡ games_in rs r.0 + 1 = games_more rs r r.0 ∙ ap (λ (b : Bool). games_in rs r.0 + cond b 1 0) own in
    let results : results_with r.0 (rs ++ r ∷ []) ≡ results_with r.0 rs ++ r ∷ [] = with_more rs r r.0 ∙ ap (λ (b : Bool). results_with r.0 rs ++ cond b (r ∷ []) []) own in
    let total : total_in (rs ++ r ∷ []) r.0 ≡ total_in rs r.0 +ℤ r.1 = ap total_over results ∙ total_push (results_with r.0 rs) r in
    λ i. made (games i) (total i)

-- the other teams have what they had
pub tally_other : (rs : Results) (r : List ℕ × ℤ) (word : List ℕ) → bytes_eq r.0 word ≡ false → tally_of (rs ++ r ∷ []) word ≡ tally_of rs word
tally_other rs r word n =
    let not_own : bytes_eq word r.0 ≡ false = turned r.0 word false n in
    let games : games_in (rs ++ r ∷ []) word ≡ games_in rs word + 0 = games_more rs r word ∙ ap (λ (b : Bool). games_in rs word + cond b 1 0) not_own in
    let results : results_with word (rs ++ r ∷ []) ≡ results_with word rs ++ [] = with_more rs r word ∙ ap (λ (b : Bool). results_with word rs ++ cond b (r ∷ []) []) not_own in
    let total : total_in (rs ++ r ∷ []) word ≡ total_in rs word = ap total_over (results ∙ append-nil (results_with word rs)) in
    λ i. made ((games ∙ plus_none (games_in rs word)) i) (total i)
  where
    plus_none : (n : ℕ) → n + 0 ≡ n
    plus_none n = omega arith

-- a word that did not appear has no tally
pub tally_none : (rs : Results) (word : List ℕ) → list_any (bytes_eq word) (map (λ (result : List ℕ × ℤ). result.0) rs) ≡ false → tally_of rs word ≡ no_tally
tally_none [] word none = refl
tally_none (r ∷ rs) word none = cases (bytes_eq word r.0) (λ e. absurd (no_clash (bytes_eq word r.0) (list_any (bytes_eq word) (map (λ (result : List ℕ × ℤ). result.0) rs)) e none)) (λ n. rw n (tally_none rs word (second_fails (bytes_eq word r.0) (list_any (bytes_eq word) (map (λ (result : List ℕ × ℤ). result.0) rs)) none)))

-- Tallies with one result more.
use Rattle.std.proofs.Common.{◌≡◌, ℕ, ◌+◌, List, [], ◌∷◌, ◌++◌, Bool, true, false, map, filter, cond, refl, sym, ap, ◌∙◌, ℤ, Option, Some, None, subst, append_assoc, ◌<◌, ◌≤◌, length, take, get_or, flat_map, unwrap_or, bytes_eq, append-nil, take_all}
use Rattle.std.specs.List.{list_any, IsDistinct, AllByRecursion}
use Rattle.std.specs.Map.{lookup}
use Rattle.std.proofs.lemmas.Grind.{flat_map-append}
use Rattle.std.proofs.lemmas.List.{map-append, take_more}
use Rattle.std.proofs.lemmas.List.Concat.{flat_map-cons}
use Rattle.std.proofs.lemmas.List.Sums.{fold-append}
use Rattle.std.proofs.lemmas.Map.Keys.{IsDistinct-head, IsDistinct-tail}
use Rattle.indexmap.specs.IndexMap.{insert_entry}
use Rattle.tourney.specs.{agents, GameFile, LoggedGame, counts, result_of, results_of, results, firsts, teams_in, tally_of, tallies_of, tally_at, no_tally, with_score, with_result, with_results, result_if_counts}
use Rattle.tourney.specs.declared.tallies.Tally.{Tally}
use Rattle.tourney.proofs.Words.{same, cases, first_fails, second_fails, second_passes, no_clash}
use Rattle.tourney.proofs.Firsts.{firsts_any, firsts_new, firsts_known, firsts_distinct}
use Rattle.tourney.proofs.Tallied.{Results, tally_more, tally_other, tally_none}

abbrev paired : (List ℕ → Tally) → List (List ℕ) → List (List ℕ × Tally)
paired f words = map (λ word. (word, f word)) words

-- where two functions agree on all words that differ from one, and the words do
agree : (f g : List ℕ → Tally) (w : List ℕ) → ((v : List ℕ) → bytes_eq w v ≡ false → g v ≡ f v) → (words : List (List ℕ)) → AllByRecursion (λ y. bytes_eq w y ≡ false) words → paired f words ≡ paired g words
agree f g w other [] all = refl
agree f g w other (x ∷ xs) all = λ i. (x, sym (other x all.0) i) ∷ agree f g w other xs all.1 i

-- a word that is there has its tally changed in its place
insert_known : (f g : List ℕ → Tally) (w : List ℕ) → ((v : List ℕ) → bytes_eq w v ≡ false → g v ≡ f v) → (words : List (List ℕ)) → IsDistinct bytes_eq words → list_any (bytes_eq w) words ≡ true →
    insert_entry bytes_eq (paired f words) w (g w) ≡ paired g words
insert_known f g w other [] d some = absurd cc
insert_known f g w other (x ∷ xs) d some = cases (bytes_eq w x)
    (λ e. rw e (λ i. (x, g (same w x e i)) ∷ agree f g w other xs (subst (λ (v : List ℕ). AllByRecursion (λ y. bytes_eq v y ≡ false) xs) (sym (same w x e)) (IsDistinct-head bytes_eq x xs d)) i))
    (λ n. rw n (λ i. (x, sym (other x n) i) ∷ insert_known f g w other xs (IsDistinct-tail bytes_eq x xs d) (second_passes (bytes_eq w x) (list_any (bytes_eq w) xs) some n) i))

-- a new word goes last
insert_new : (f g : List ℕ → Tally) (w : List ℕ) → ((v : List ℕ) → bytes_eq w v ≡ false → g v ≡ f v) → (words : List (List ℕ)) → list_any (bytes_eq w) words ≡ false →
    insert_entry bytes_eq (paired f words) w (g w) ≡ paired g (words ++ w ∷ [])
insert_new f g w other [] none = refl
insert_new f g w other (x ∷ xs) none =
    let differs = first_fails (bytes_eq w x) (list_any (bytes_eq w) xs) none in
    let step : insert_entry bytes_eq (paired f (x ∷ xs)) w (g w) ≡ (x, f x) ∷ insert_entry bytes_eq (paired f xs) w (g w) = ap (λ (b : Bool). cond b ((x, g w) ∷ paired f xs) ((x, f x) ∷ insert_entry bytes_eq (paired f xs) w (g w))) differs in
    step ∙ (λ i. (x, sym (other x differs) i) ∷ insert_new f g w other xs (second_fails (bytes_eq w x) (list_any (bytes_eq w) xs) none) i)

lookup_known : (f : List ℕ → Tally) (w : List ℕ) (words : List (List ℕ)) → list_any (bytes_eq w) words ≡ true → lookup (bytes_eq w) (paired f words) ≡ Some (f w)
lookup_known f w [] some = absurd cc
lookup_known f w (x ∷ xs) some = cases (bytes_eq w x) (λ e. rw e (ap (λ (v : List ℕ). Some (f v)) (sym (same w x e)))) (λ n. rw n (lookup_known f w xs (second_passes (bytes_eq w x) (list_any (bytes_eq w) xs) some n)))

lookup_new : (f : List ℕ → Tally) (w : List ℕ) (words : List (List ℕ)) → list_any (bytes_eq w) words ≡ false → lookup (bytes_eq w) (paired f words) ≡ None
lookup_new f w [] none = refl
lookup_new f w (x ∷ xs) none = cases (bytes_eq w x) (λ e. absurd (no_clash (bytes_eq w x) (list_any (bytes_eq w) xs) e none)) (λ n. rw n (lookup_new f w xs (second_fails (bytes_eq w x) (list_any (bytes_eq w) xs) none)))

abbrev words_of : Results → List (List ℕ)
words_of rs = map (λ (result : List ℕ × ℤ). result.0) rs

-- the tally that is found is the team's
pub tally_found : (rs : Results) (w : List ℕ) → tally_at (tallies_of rs) w ≡ tally_of rs w
tally_found rs w = cases (list_any (bytes_eq w) (words_of rs))
    (λ some. ap (λ (t : Option Tally). unwrap_or t no_tally) (lookup_known (tally_of rs) w (teams_in rs) (firsts_any w (words_of rs) ∙ some)))
    (λ none. ap (λ (t : Option Tally). unwrap_or t no_tally) (lookup_new (tally_of rs) w (teams_in rs) (firsts_any w (words_of rs) ∙ none)) ∙ sym (tally_none rs w none))

-- one result more
pub one_more : (rs : Results) (r : List ℕ × ℤ) → with_result (tallies_of rs) r ≡ tallies_of (rs ++ r ∷ [])
one_more rs r =
    let g : List ℕ → Tally = tally_of (rs ++ r ∷ []) in
    let tally : with_score (tally_at (tallies_of rs) r.0) r.1 ≡ g r.0 = ap (λ (t : Tally). with_score t r.1) (tally_found rs r.0) ∙ sym (tally_more rs r) in
    let words : words_of (rs ++ r ∷ []) ≡ words_of rs ++ r.0 ∷ [] = map-append (λ (result : List ℕ × ℤ). result.0) rs (r ∷ []) in
    ap (insert_entry bytes_eq (tallies_of rs) r.0) tally ∙ cases (list_any (bytes_eq r.0) (words_of rs))
    (λ some. insert_known (tally_of rs) g r.0 (tally_other rs r) (teams_in rs) (firsts_distinct (words_of rs)) (firsts_any r.0 (words_of rs) ∙ some)
    ∙ ap (paired g) (sym (ap firsts words ∙ firsts_known r.0 (words_of rs) some)))
    (λ none. insert_new (tally_of rs) g r.0 (tally_other rs r) (teams_in rs) (firsts_any r.0 (words_of rs) ∙ none)
    ∙ ap (paired g) (sym (ap firsts words ∙ firsts_new r.0 (words_of rs) none)))

-- several results more
pub all_more : (rs more : Results) → with_results (tallies_of rs) more ≡ tallies_of (rs ++ more)
all_more rs [] = sym (ap tallies_of (append-nil rs))
all_more rs (r ∷ more) = ap (λ (es : List (List ℕ × Tally)). with_results es more) (one_more rs r) ∙ all_more (rs ++ r ∷ []) more ∙ ap tallies_of (append_assoc rs (r ∷ []) more)

-- the results of a game, agent by agent
pub by_agents : (played : GameFile × LoggedGame) (all : List ℕ) → flat_map (result_if_counts played) all ≡ map (result_of played) (filter (counts played.1.head) all)
by_agents played [] = refl
by_agents played (agent ∷ all) = flat_map-cons (result_if_counts played) agent all ∙ cases (counts played.1.head agent) (λ e. rw e (ap (λ (rs : Results). result_of played agent ∷ rs) (by_agents played all))) (λ n. rw n (by_agents played all))

-- the tallies with one game more
pub game_more : (earlier : List (GameFile × LoggedGame)) (played : GameFile × LoggedGame) (old new : List (List ℕ × Tally)) → old ≡ tallies_of (results earlier) → new ≡ with_results old (flat_map (result_if_counts played) agents) →
    new ≡ tallies_of (results (earlier ++ played ∷ []))
game_more earlier played old new before after =
    after ∙ (λ i. with_results (before i) (by_agents played agents i)) ∙ all_more (results earlier) (results_of played)
    ∙ ap tallies_of (sym (flat_map-append results_of earlier (played ∷ []) ∙ ap (λ (rs : Results). results earlier ++ rs) (append-nil (results_of played))))

-- one agent more
pub agents_more : (played : GameFile × LoggedGame) (all : List ℕ) (i agent : ℕ) (old mid new : List (List ℕ × Tally)) → i < length all → agent ≡ get_or all i agent → mid ≡ with_results old (flat_map (result_if_counts played) (take i all)) → new ≡ with_results mid (result_if_counts played agent) →
    new ≡ with_results old (flat_map (result_if_counts played) (take (i + 1) all))
agents_more played all i agent old mid new lt is before after =
    let f : ℕ → Results = result_if_counts played in
    let split : flat_map f (take (i + 1) all) ≡ flat_map f (take i all) ++ f agent =
    ap (flat_map f) (take_more all i agent lt ∙ ap (λ (x : ℕ). take i all ++ x ∷ []) (sym is)) ∙ flat_map-append f (take i all) (agent ∷ []) ∙ ap (λ (rs : Results). flat_map f (take i all) ++ rs) (append-nil (f agent)) in
    after ∙ ap (λ (es : List (List ℕ × Tally)). with_results es (f agent)) before ∙ sym (fold-append with_result old (flat_map f (take i all)) (f agent)) ∙ ap (with_results old) (sym split)

pub all_agents : (items : List ℕ) (i : ℕ) → items ≡ agents → length items ≤ i → take i items ≡ agents
all_agents items i is all = take_all i items all ∙ is

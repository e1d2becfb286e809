-- The ranges of tallies, result by result.
use Rattle.std.proofs.Common.{◌≡◌, ℕ, zero, suc, ◌+◌, ◌*◌, ◌<◌, ◌≤◌, List, [], ◌∷◌, Bool, true, false, not, ◌&&◌, ◌++◌, cond, count_by, take, slice_get, length, get_or, ℤ, ◌+ℤ◌, unsigned_abs, refl, sym, ap, ◌∙◌, subst, arith, Option, Some, None, IfSome, All, unwrap_or, bytes_eq}
use Rattle.std.specs.List.{list_any}
use Rattle.std.specs.Map.{lookup, values_of}
use Rattle.std.proofs.lemmas.Option.{get_or_from_slice_get, slice_get_within}
use Rattle.std.proofs.lemmas.List.{take_more}
use Rattle.std.proofs.lemmas.List.Sums.{sum_by_push}
use Rattle.std.proofs.lemmas.Int.{ints}
use Rattle.std.proofs.lemmas.List.Elements.{All-nil, All-cons, All-head, All-tail, All-weaker, All-map}
use Rattle.std.proofs.lemmas.List.Folds.{list_any_at}
use Rattle.std.proofs.lemmas.Map.Entries.{All-lookup}
use Rattle.indexmap.specs.IndexMap.{insert_entry}
use Rattle.tourney.specs.{GameFile, are_distinct, LoggedGame, counts, result_of, tally_at, no_tally, with_score, with_result, with_results, result_if_counts, most_score, IsTally, AreTallies}
use Rattle.tourney.specs.declared.tallies.Tally.{Tally}
use Rattle.tourney.proofs.Words.{same, turned, cases}

abbrev Entries : Type 0
Entries = List (List ℕ × Tally)

-- ---- one entry more

pub length_insert : (es : Entries) (w : List ℕ) (t : Tally) → length (insert_entry bytes_eq es w t) ≤ length es + 1
length_insert [] w t = omega arith
length_insert (e ∷ es) w t = cases (bytes_eq w e.0) (λ y. rw y (omega arith)) (λ n. rw n (more (length es) (length (insert_entry bytes_eq es w t)) (length_insert es w t)))
  where
    more : (a b : ℕ) → b ≤ a + 1 → suc b ≤ suc a + 1
    more a b h = omega arith

pub all_insert : (P : Tally → Type 0) (es : Entries) (w : List ℕ) (t : Tally) → P t → All (λ e. P e.1) es → All (λ e. P e.1) (insert_entry bytes_eq es w t)
all_insert P [] w t p all = All-cons (λ (e : List ℕ × Tally). P e.1) (w, t) [] p (All-nil (λ (e : List ℕ × Tally). P e.1))
all_insert P (e ∷ es) w t p all = cases (bytes_eq w e.0)
    (λ y. rw y (All-cons (λ (x : List ℕ × Tally). P x.1) (e.0, t) es p (All-tail (λ (x : List ℕ × Tally). P x.1) e es all)))
    (λ n. rw n (All-cons (λ (x : List ℕ × Tally). P x.1) e (insert_entry bytes_eq es w t) (All-head (λ (x : List ℕ × Tally). P x.1) e es all) (all_insert P es w t p (All-tail (λ (x : List ℕ × Tally). P x.1) e es all))))

lookup_other : (es : Entries) (w v : List ℕ) (t : Tally) → bytes_eq v w ≡ false → lookup (bytes_eq v) (insert_entry bytes_eq es w t) ≡ lookup (bytes_eq v) es
lookup_other [] w v t n = rw n refl
lookup_other (e ∷ es) w v t n = cases (bytes_eq w e.0)
    (λ y. let passed : bytes_eq v e.0 ≡ false = subst (λ (x : List ℕ). bytes_eq v x ≡ false) (same w e.0 y) n in rw y (rw passed refl))
    (λ m. rw m (cases (bytes_eq v e.0) (λ y. rw y refl) (λ k. rw k (lookup_other es w v t n))))

-- the tally of another team stays
pub tally_other : (es : Entries) (w v : List ℕ) (t : Tally) → bytes_eq v w ≡ false → tally_at (insert_entry bytes_eq es w t) v ≡ tally_at es v
tally_other es w v t n = ap (λ (o : Option Tally). unwrap_or o no_tally) (lookup_other es w v t n)

-- what holds of each tally and of none holds of the one that is found
pub found : (P : Tally → Type 0) (es : Entries) (w : List ℕ) → P no_tally → All (λ e. P e.1) es → P (tally_at es w)
found P es w none all = by (lookup (bytes_eq w) es) (All-lookup P (bytes_eq w) es all)
  where
    by : (o : Option Tally) → IfSome o P → P (unwrap_or o no_tally)
    by (Some t) p = p
    by None p = none

-- ---- ranges

abs_sum : (a b : ℤ) → unsigned_abs (a +ℤ b) ≤ unsigned_abs a + unsigned_abs b
abs_sum a b = omega (arith, ints)

pub small_at : (most : ℕ) (es : Entries) (w : List ℕ) → All (λ e. IsTally most e.1) es → unsigned_abs (tally_at es w).total ≤ (tally_at es w).games * most_score
small_at most es w all = found (λ (t : Tally). unsigned_abs t.total ≤ t.games * most_score) es w (omega arith) (All-weaker (λ (e : List ℕ × Tally). IsTally most e.1) (λ (e : List ℕ × Tally). unsigned_abs e.1.total ≤ e.1.games * most_score) (λ e is. is.small) es all)

pub games_at : (most : ℕ) (es : Entries) (w : List ℕ) → All (λ e. IsTally most e.1) es → (tally_at es w).games ≤ most
games_at most es w all = found (λ (t : Tally). t.games ≤ most) es w (omega arith) (All-weaker (λ (e : List ℕ × Tally). IsTally most e.1) (λ (e : List ℕ × Tally). e.1.games ≤ most) (λ e is. is.few) es all)

pub more_allowed : (most more : ℕ) (es : Entries) → most ≤ more → All (λ e. IsTally most e.1) es → All (λ e. IsTally more e.1) es
more_allowed most more es le all = All-weaker (λ (e : List ℕ × Tally). IsTally most e.1) (λ (e : List ℕ × Tally). IsTally more e.1) (λ e is. record { some = is.some; few = omega (arith, is.few, le); small = is.small }) es all

scored : (t : Tally) (score : ℤ) (games : ℕ) → t.games ≤ games → unsigned_abs t.total ≤ t.games * most_score → unsigned_abs score ≤ most_score → IsTally (games + 1) (with_score t score)
scored t score games few small least = record {
  some = omega arith;
  few = omega (arith, few);
  small = omega (arith, abs_sum t.total score, small, least);
}

-- ---- the words of a game differ

pub words_apart : (words : List (List ℕ)) → are_distinct words ≡ true → (i j : ℕ) → i < j → j < length words → bytes_eq (get_or words i []) (get_or words j []) ≡ false
words_apart [] d i j lt inside = absurd (omega (arith, inside))
words_apart (w ∷ ws) d i zero lt inside = absurd (omega (arith, lt))
words_apart (w ∷ ws) d zero (suc j) lt inside =
    cases (bytes_eq (get_or ws j []) w)
    (λ e. absurd (clash (list_any (λ other. bytes_eq other w) ws) (are_distinct ws) d (list_any_at (λ other. bytes_eq other w) ws j [] (omega (arith, inside)) e)))
    (λ n. turned (get_or ws j []) w false n)
  where
    clash : (a b : Bool) → (not a && b) ≡ true → a ≡ true → ⊥
    clash true b h e = absurd cc
    clash false b h e = absurd cc
words_apart (w ∷ ws) d (suc i) (suc j) lt inside = words_apart ws (later (list_any (λ other. bytes_eq other w) ws) (are_distinct ws) d) i j (omega (arith, lt)) (omega (arith, inside))
  where
    later : (a b : Bool) → (not a && b) ≡ true → b ≡ true
    later true b h = absurd cc
    later false b h = h

-- ---- after the first agents of a game, of which there were so many before

pub record IsCounted (played : GameFile × LoggedGame) (games count : ℕ) (es : Entries) : Type 0 where
  pub few : length es ≤ 8 * games + count
  pub each : All (λ e. IsTally (games + 1) e.1) es
  pub room : (agent : ℕ) → count ≤ agent → agent < 8 → (tally_at es (result_of played agent).0).games ≤ games

pub none_counted : (played : GameFile × LoggedGame) (games : ℕ) (es : Entries) → AreTallies es games → IsCounted played games 0 es
none_counted played games es are = record {
  few = omega (arith, are.few);
  each = more_allowed games (games + 1) es (omega arith) are.each;
  room = λ agent from lt. games_at games es (result_of played agent).0 are.each;
}

agent_scored : (played : GameFile × LoggedGame) (games agent : ℕ) (es : Entries) → length played.0.words ≡ 8 → are_distinct played.0.words ≡ true → agent < 8 → unsigned_abs (result_of played agent).1 ≤ most_score →
    IsCounted played games agent es → IsCounted played games (agent + 1) (with_result es (result_of played agent))
agent_scored played games agent es eight differ lt least is =
    let word = (result_of played agent).0 in
    let tally : Tally = with_score (tally_at es word) (result_of played agent).1 in
    let ranged : IsTally (games + 1) tally = scored (tally_at es word) (result_of played agent).1 games (is.room agent (omega arith) lt) (small_at (games + 1) es word is.each) least in
    record {
      few = omega (arith, length_insert es word tally, is.few);
      each = all_insert (IsTally (games + 1)) es word tally ranged is.each;
      room = λ next from below.
          let differs : bytes_eq word (result_of played next).0 ≡ false = words_apart played.0.words differ agent next (omega (arith, from)) (omega (arith, below, eight)) in
          subst (λ (t : Tally). t.games ≤ games) (sym (tally_other es word (result_of played next).0 tally (turned word (result_of played next).0 false differs))) (is.room next (omega (arith, from)) below);
    }

pub agent_counted : (played : GameFile × LoggedGame) (games agent : ℕ) (es : Entries) → length played.0.words ≡ 8 → are_distinct played.0.words ≡ true → agent < 8 → unsigned_abs (result_of played agent).1 ≤ most_score →
    IsCounted played games agent es → IsCounted played games (agent + 1) (with_results es (result_if_counts played agent))
agent_counted played games agent es eight differ lt least is = cases (counts played.1.head agent)
    (λ e. rw e (agent_scored played games agent es eight differ lt least is))
    (λ n. rw n (record { few = omega (arith, is.few); each = is.each; room = λ next from below. is.room next (omega (arith, from)) below }))

-- ---- by places

pub in_range : (most : ℕ) (es : Entries) (place : ℕ) (t : Tally) → slice_get (values_of es) place ≡ Some t → All (λ e. IsTally most e.1) es → IsTally most t
in_range most es place t at all =
    subst (IsTally most) (get_or_from_slice_get (values_of es) place t t at) (All-map (IsTally most) (λ (e : List ℕ × Tally). e.1) es all place t (slice_get_within (values_of es) place t at))

-- one tally more is counted where it passes
pub count_more : (test : Tally → Bool) (ts : List Tally) (place : ℕ) (t : Tally) (b : Bool) → slice_get ts place ≡ Some t → test t ≡ b → count_by test (take (place + 1) ts) ≡ count_by test (take place ts) + cond b 1 0
count_more test ts place t b at passes =
    ap (count_by test) (take_more ts place t (slice_get_within ts place t at) ∙ ap (λ (x : Tally). take place ts ++ x ∷ []) (get_or_from_slice_get ts place t t at))
    ∙ sum_by_push (λ (x : Tally). cond (test x) 1 0) (take place ts) t ∙ ap (λ (c : Bool). count_by test (take place ts) + cond c 1 0) passes

pub all_ranged : (es : Entries) (games : ℕ) → AreTallies es games → games ≤ 64 → All (λ e. IsTally 64 e.1) es
all_ranged es games are few = more_allowed games 64 es few are.each

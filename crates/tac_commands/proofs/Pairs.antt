-- Words in pairs.
use Rattle.std.proofs.Common.{◌≡◌, ℕ, zero, suc, ◌+◌, ◌*◌, ◌<◌, ◌≤◌, List, [], ◌∷◌, length, map, drop, get_or, refl, sym, subst, arith, Some, drop_of_length-le, slice_get}
use Rattle.std.proofs.lemmas.List.{length-map}
use Rattle.std.proofs.lemmas.Option.{slice_get_read}
use Rattle.tac_commands.specs.Commands.{in_pairs}

-- there are at most half as many pairs as words
pub pairs_within : (words : List (List ℕ)) → 2 * length (in_pairs words) ≤ length words
pairs_within [] = omega arith
pairs_within (word ∷ []) = omega arith
pairs_within (game ∷ log ∷ words) = let rest = pairs_within words in omega (arith, rest)

-- the pair at an index is that of the words at twice the index and after that
at_twice : {A : Type 0} (f : A → List ℕ) (words : List A) (i k : ℕ) (game log : A) → k ≡ 2 * i → slice_get words k ≡ Some game → slice_get words (suc k) ≡ Some log →
    drop i (in_pairs (map f words)) ≡ (f game, f log) ∷ drop (suc i) (in_pairs (map f words))
at_twice f [] i k game log twice is_game is_log = absurd (cc)
at_twice f (word ∷ []) i zero game log twice is_game is_log = absurd (cc)
at_twice f (word ∷ []) i (suc k) game log twice is_game is_log = absurd (cc)
at_twice f (a ∷ b ∷ words) zero zero game log twice is_game is_log = cc
at_twice f (a ∷ b ∷ words) zero (suc k) game log twice is_game is_log = absurd (omega (arith, twice))
at_twice f (a ∷ b ∷ words) (suc i) zero game log twice is_game is_log = absurd (omega (arith, twice))
at_twice f (a ∷ b ∷ words) (suc i) (suc zero) game log twice is_game is_log = absurd (omega (arith, twice))
at_twice f (a ∷ b ∷ words) (suc i) (suc (suc k)) game log twice is_game is_log = at_twice f words i k game log (omega (arith, twice)) is_game is_log

pub pair_at : {A : Type 0} (f : A → List ℕ) (words : List A) (i : ℕ) (game log : A) → slice_get words (2 * i) ≡ Some game → slice_get words (2 * i + 1) ≡ Some log →
    drop i (in_pairs (map f words)) ≡ (f game, f log) ∷ drop (i + 1) (in_pairs (map f words))
pair_at f words i game log is_game is_log =
    let next : 2 * i + 1 ≡ suc (2 * i) = omega arith in
    let one : suc i ≡ i + 1 = omega arith in
    subst (λ (k : ℕ). drop i (in_pairs (map f words)) ≡ (f game, f log) ∷ drop k (in_pairs (map f words))) one
    (at_twice f words i (2 * i) game log refl is_game (subst (λ (k : ℕ). slice_get words k ≡ Some log) next is_log))

-- so it is with the names that were taken from there
pub named_at : {A : Type 0} (f : A → List ℕ) (words : List A) (i : ℕ) (first second : A) (game log : List ℕ) → 2 * i + 1 < length words → first ≡ get_or words (2 * i) first →
    second ≡ get_or words (2 * i + 1) second → game ≡ f first → log ≡ f second → drop i (in_pairs (map f words)) ≡ (game, log) ∷ drop (i + 1) (in_pairs (map f words))
named_at f words i first second game log inside is_first is_second game_is log_is =
    let left : List (List ℕ × List ℕ) = drop i (in_pairs (map f words)) in
    let later : List (List ℕ × List ℕ) = drop (i + 1) (in_pairs (map f words)) in
    let is_game : slice_get words (2 * i) ≡ Some first = slice_get_read words (length words) (2 * i) first refl (omega (arith, inside)) is_first in
    let is_log : slice_get words (2 * i + 1) ≡ Some second = slice_get_read words (length words) (2 * i + 1) second refl inside is_second in
    subst (λ (x : List ℕ). left ≡ (x, log) ∷ later) (sym game_is) (subst (λ (y : List ℕ). left ≡ (f first, y) ∷ later) (sym log_is) (pair_at f words i first second is_game is_log))

-- after half of the words no pair is left
pub none_left : {A : Type 0} (f : A → List ℕ) (words : List A) (half : ℕ) → length words ≤ 2 * half + 1 → drop half (in_pairs (map f words)) ≡ []
none_left f words half within =
    let few = pairs_within (map f words) in
    let same = length-map words f in
    drop_of_length-le (in_pairs (map f words)) (omega (arith, few, same, within))

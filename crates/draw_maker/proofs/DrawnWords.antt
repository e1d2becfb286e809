-- Words that are drawn in several steps are those that are drawn in one.
use Rattle.std.proofs.Common.{◌≡◌, ℕ, zero, suc, ◌+◌, ◌-◌, ◌*◌, ◌≤◌, ◌<◌, List, [], ◌∷◌, ◌++◌, length, map, take, drop, refl, sym, ap, ◌∙◌, append_assoc, arith, slice_index, set, append-nil, take_all}
use Rattle.std.proofs.lemmas.List.{take_more_set}
use Rattle.rand_core.specs.Steps.{first_words}
use Rattle.rand_pcg.specs.Lcg.{Lcg}
use Rattle.rand_pcg.specs.Pcg.{pcg32}
use Rattle.draw_maker.specs.Words.{next_words, after, parts}

suc_first : (m n : ℕ) → suc m + n ≡ suc (m + n)
suc_first m n = omega arith

zero_first : (n : ℕ) → 0 + n ≡ n
zero_first n = omega arith

pub after-add : (m n : ℕ) (words : Lcg) → after (m + n) words ≡ after n (after m words)
unfolding after
after-add zero n words = ap (λ (k : ℕ). after k words) (zero_first n)
after-add (suc m) n words = ap (λ (k : ℕ). after k words) (suc_first m n) ∙ after-add m n (pcg32 words).1

pub take-words : (m n : ℕ) (words : Lcg) → take m (next_words (m + n) words) ≡ next_words m words
unfolding first_words
take-words zero n words = refl
take-words (suc m) n words =
    ap (λ (k : ℕ). take (suc m) (next_words k words)) (suc_first m n)
    ∙ ap (λ (others : List ℕ). (pcg32 words).0 ∷ others) (take-words m n (pcg32 words).1)

pub drop-words : (m n : ℕ) (words : Lcg) → drop m (next_words (m + n) words) ≡ next_words n (after m words)
unfolding first_words after
drop-words zero n words = ap (λ (k : ℕ). next_words k words) (zero_first n)
drop-words (suc m) n words = ap (λ (k : ℕ). drop (suc m) (next_words k words)) (suc_first m n) ∙ drop-words m n (pcg32 words).1

pub length-words : (n : ℕ) (words : Lcg) → length (next_words n words) ≡ n
unfolding first_words
length-words zero words = refl
length-words (suc n) words = ap suc (length-words n (pcg32 words).1)

-- two words, and then the others
pub two_before : (n : ℕ) (words : Lcg) → next_words (suc (suc n)) words ≡ slice_index (next_words 2 words) 0 ∷ slice_index (next_words 2 words) 1 ∷ next_words n (after 2 words)
unfolding first_words after
two_before n words = refl

-- ---- a loop that draws

-- a list that is written from the front
pub front_more : {A : Type 0} (xs : List A) (i : ℕ) (x : A) (left now due : List A) → i < length xs → now ≡ x ∷ left → take i xs ++ now ≡ due → take (i + 1) (set xs i x) ++ left ≡ due
front_more xs i x left now due inside is so_far = rw (take_more_set xs i x inside, append_assoc) (ap (λ (l : List _). take i xs ++ l) (sym is) ∙ so_far)

less : (n i : ℕ) → i < n → n - i ≡ suc (n - (i + 1))
less n i below = omega arith

pub word_first : (n i word : ℕ) (old new : Lcg) → i < n → (word, new) ≡ pcg32 old → next_words (n - i) old ≡ word ∷ next_words (n - (i + 1)) new
unfolding first_words
word_first n i word old new below is =
    ap (λ (k : ℕ). next_words k old) (less n i below)
    ∙ ap (λ (p : ℕ × Lcg). p.0 ∷ next_words (n - (i + 1)) p.1) (sym is)

pub after_word : (n i word : ℕ) (old new due : Lcg) → i < n → (word, new) ≡ pcg32 old → after (n - i) old ≡ due → after (n - (i + 1)) new ≡ due
unfolding after
after_word n i word old new due below is so_far =
    ap (λ (p : ℕ × Lcg). after (n - (i + 1)) p.1) is ∙ sym (ap (λ (k : ℕ). after k old) (less n i below)) ∙ so_far

-- a number is made of each word
pub number_more : (made : ℕ → ℕ) (numbers : List ℕ) (n i word number : ℕ) (old new : Lcg) (due : List ℕ) → i < length numbers → i < n → (word, new) ≡ pcg32 old → number ≡ made word
    → take i numbers ++ map made (next_words (n - i) old) ≡ due → take (i + 1) (set numbers i number) ++ map made (next_words (n - (i + 1)) new) ≡ due
number_more made numbers n i word number old new due inside below is number-is so_far =
    front_more numbers i number (map made (next_words (n - (i + 1)) new)) (map made (next_words (n - i) old)) due inside
    (ap (λ (ws : List ℕ). map made ws) (word_first n i word old new below is) ∙ ap (λ (m : ℕ). m ∷ map made (next_words (n - (i + 1)) new)) (sym number-is))
    so_far

-- ---- parts of the words

pub parts_first : (count size m : ℕ) (words : Lcg) → parts (suc count) size (next_words (size + m) words) ≡ next_words size words ∷ parts count size (next_words m (after size words))
unfolding parts
parts_first count size m words =
    ap (λ (part : List ℕ). part ∷ parts count size (drop size (next_words (size + m) words))) (take-words size m words)
    ∙ ap (λ (others : List ℕ). next_words size words ∷ parts count size others) (drop-words size m words)

-- words past the parts tell nothing
pub parts_within : (count size m : ℕ) (words : Lcg) → count * size ≤ m → parts count size (next_words m words) ≡ parts count size (next_words (count * size) words)
unfolding parts
parts_within zero size m words enough = refl
parts_within (suc count) size m words enough =
    let whole : m ≡ size + (m - size) = omega arith in
    let exact : suc count * size ≡ size + count * size = omega arith in
    ap (λ (k : ℕ). parts (suc count) size (next_words k words)) whole
    ∙ parts_first count size (m - size) words
    ∙ ap (λ (others : List (List ℕ)). next_words size words ∷ others) (parts_within count size (m - size) (after size words) (omega arith))
    ∙ sym (ap (λ (k : ℕ). parts (suc count) size (next_words k words)) exact ∙ parts_first count size (count * size) words)

product_less : (n i size : ℕ) → i < n → (n - i) * size ≡ size + (n - (i + 1)) * size
product_less n i size below = ap (λ (k : ℕ). k * size) (less n i below) ∙ omega arith

pub part_first : (n i size : ℕ) (old : Lcg) → i < n → parts (n - i) size (next_words ((n - i) * size) old) ≡ next_words size old ∷ parts (n - (i + 1)) size (next_words ((n - (i + 1)) * size) (after size old))
part_first n i size old below =
    ap (λ (k : ℕ). parts (n - i) size (next_words k old)) (product_less n i size below)
    ∙ ap (λ (k : ℕ). parts k size (next_words (size + (n - (i + 1)) * size) old)) (less n i below)
    ∙ parts_first (n - (i + 1)) size ((n - (i + 1)) * size) old

pub after_part : (n i size : ℕ) (old new due : Lcg) → i < n → new ≡ after size old → after ((n - i) * size) old ≡ due → after ((n - (i + 1)) * size) new ≡ due
after_part n i size old new due below new-is so_far =
    ap (λ (w : Lcg). after ((n - (i + 1)) * size) w) new-is ∙ sym (after-add size ((n - (i + 1)) * size) old) ∙ sym (ap (λ (k : ℕ). after k old) (product_less n i size below)) ∙ so_far

-- a value is made of each part
pub value_more : {A : Type 0} (made : List ℕ → A) (values : List A) (n i size : ℕ) (value : A) (old new : Lcg) (due : List A) → i < length values → i < n → value ≡ made (next_words size old) → new ≡ after size old
    → take i values ++ map made (parts (n - i) size (next_words ((n - i) * size) old)) ≡ due → take (i + 1) (set values i value) ++ map made (parts (n - (i + 1)) size (next_words ((n - (i + 1)) * size) new)) ≡ due
value_more made values n i size value old new due inside below value-is new-is so_far =
    let left = n - (i + 1) in
    let others = λ (w : Lcg). map made (parts left size (next_words (left * size) w)) in
    front_more values i value (others new) (map made (parts (n - i) size (next_words ((n - i) * size) old))) due inside
    (ap (λ (ps : List (List ℕ)). map made ps) (part_first n i size old below) ∙ ap (λ (v : _). v ∷ others (after size old)) (sym value-is) ∙ ap (λ (w : Lcg). value ∷ others w) (sym new-is))
    so_far

-- ---- a loop that has drawn all

none_left : (n i : ℕ) → n ≤ i → n - i ≡ 0
none_left n i past = omega arith

-- a list that is written to its end
pub front_whole : {A : Type 0} (xs : List A) (n i : ℕ) (now due : List A) → length xs ≡ n → n ≤ i → now ≡ [] → take i xs ++ now ≡ due → xs ≡ due
front_whole xs n i now due count past none so_far =
    sym (ap (λ (l : List _). take i xs ++ l) none ∙ append-nil (take i xs) ∙ take_all i xs (omega arith)) ∙ so_far

pub no_words : (n i : ℕ) (words : Lcg) → n ≤ i → next_words (n - i) words ≡ []
unfolding first_words
no_words n i words past = ap (λ (k : ℕ). next_words k words) (none_left n i past)

pub after_none : (n i : ℕ) (words due : Lcg) → n ≤ i → after (n - i) words ≡ due → words ≡ due
unfolding after
after_none n i words due past so_far = sym (ap (λ (k : ℕ). after k words) (none_left n i past)) ∙ so_far

pub no_parts : (n i size : ℕ) (items : List ℕ) → n ≤ i → parts (n - i) size items ≡ []
unfolding parts
no_parts n i size items past = ap (λ (k : ℕ). parts k size items) (none_left n i past)

pub after_no_part : (n i size : ℕ) (words due : Lcg) → n ≤ i → after ((n - i) * size) words ≡ due → words ≡ due
unfolding after
after_no_part n i size words due past so_far = sym (ap (λ (k : ℕ). after (k * size) words) (none_left n i past) ∙ ap (λ (k : ℕ). after k words) (let e : 0 * size ≡ 0 = omega arith in e)) ∙ so_far

-- Each word has 32 bits, and so has each word of a part.
use Rattle.std.proofs.Common.{◌≡◌, ℕ, zero, suc, ◌-◌, ◌*◌, ◌/◌, ◌%◌, ◌^◌, ◌≤◌, ◌<◌, List, length, take, drop, refl, ap, lit<, arith, w32, All, div-le_self, mod-lt, length-take-le, length-drop}
use Rattle.std.specs.Int.{rotate_right}
use Rattle.std.proofs.lemmas.Nat.{or_of_32}
use Rattle.std.proofs.lemmas.List.Elements.{All-nil, All-cons, All-take, All-drop}
use Rattle.rand_core.specs.Steps.{first_words}
use Rattle.rand_pcg.specs.Lcg.{Lcg}
use Rattle.rand_pcg.specs.Pcg.{pcg32}
use Rattle.text_forms.specs.Rows.{IsBetween, AllBetween}
use Rattle.draw_maker.specs.Words.{next_words, parts}

rotated_below : (n by : ℕ) → n < 2 ^ 32 → rotate_right w32 n by < 2 ^ 32
rotated_below n by below =
    let shifted = div-le_self n (2 ^ (by % 32)) in
    or_of_32 (n / 2 ^ (by % 32)) (n * 2 ^ ((32 - by % 32) % 32) % 2 ^ 32) (omega (arith, shifted)) (mod-lt (n * 2 ^ ((32 - by % 32) % 32)) (lit< tt))

word_below : (words : Lcg) → (pcg32 words).0 < 2 ^ 32
word_below words = rotated_below _ _ (mod-lt _ (lit< tt))

pub words_range : (n : ℕ) (words : Lcg) → AllBetween 0 4294967295 (next_words n words)
unfolding first_words
words_range zero words = All-nil (IsBetween 0 4294967295)
words_range (suc n) words = All-cons (IsBetween 0 4294967295) (pcg32 words).0 _ (let below = word_below words in (omega arith, omega arith)) (words_range n (pcg32 words).1)

-- a part of this many words
pub record IsPart (size : ℕ) (part : List ℕ) : Type 0 where
  pub count : length part ≡ size
  pub range : AllBetween 0 4294967295 part

pub length-parts : (count size : ℕ) (items : List ℕ) → length (parts count size items) ≡ count
unfolding parts
length-parts zero size items = refl
length-parts (suc count) size items = ap suc (length-parts count size (drop size items))

pub parts_range : (count size : ℕ) (items : List ℕ) → count * size ≤ length items → AllBetween 0 4294967295 items → All (IsPart size) (parts count size items)
unfolding parts
parts_range zero size items enough range = All-nil (IsPart size)
parts_range (suc count) size items enough range =
    All-cons (IsPart size) (take size items) _ (record { count = length-take-le size items (omega arith); range = All-take (IsBetween 0 4294967295) size items range }) (parts_range count size (drop size items) (omega (arith, length-drop size items)) (All-drop (IsBetween 0 4294967295) size items range))

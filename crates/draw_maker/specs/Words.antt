-- The words that a generator gives.
use Rattle.std.specs.Prelude.{ℕ, zero, suc, List, [], ◌∷◌, take, drop}
use Rattle.rand_core.specs.Steps.{first_words}
use Rattle.rand_pcg.specs.Lcg.{Lcg, started, increment_of}
use Rattle.rand_pcg.specs.Pcg.{multiplier_64, pcg32}

-- the generator with a seed, on a stream
abbrev pub generator : ℕ → ℕ → Lcg
generator seed stream = started 64 multiplier_64 seed (increment_of 64 stream)

-- its next words, each of 32 bits
abbrev pub next_words : ℕ → Lcg → List ℕ
next_words count words = first_words pcg32 count words

-- the generator after it gave this many words
unfoldable pub after : ℕ → Lcg → Lcg
after zero words = words
after (suc count) words = after count (pcg32 words).1

-- consecutive parts of a list: `count` of them, each of `size` items
unfoldable pub parts : {A : Type 0} → ℕ → ℕ → List A → List (List A)
parts zero size items = []
parts (suc count) size items = take size items ∷ parts count size (drop size items)

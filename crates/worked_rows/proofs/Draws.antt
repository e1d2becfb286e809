-- Words of the generator, swaps, and made scripts.
use Rattle.std.proofs.Common.{◌≡◌, ℕ, [], ◌∷◌, ◌++◌, refl, codes}
use Rattle.std.specs.Fmt.{digits}
use Rattle.std.specs.List.{repeat}
use Rattle.rand_core.specs.Steps.{first_words}
use Rattle.draw_maker.specs.Words.{generator, next_words, after}
use Rattle.draw_maker.specs.ClosingOrders.{made_order}
use Rattle.draw_maker.specs.Scripts.{made_script}

first_words_of_42 : next_words 4 (generator 42 54) ≡ 2707161783 ∷ 2068313097 ∷ 3122475824 ∷ 2211639955 ∷ []
unfolding first_words
first_words_of_42 = refl

-- each place swaps its item with itself, or with the first place, so that the first item ends at the last place
own_place_keeps_order_and_the_first_turns_it : (made_order (7 ∷ 6 ∷ 5 ∷ 4 ∷ 3 ∷ 2 ∷ 1 ∷ []) ≡ 8 ∷ 9 ∷ 10 ∷ 11 ∷ 12 ∷ 13 ∷ 14 ∷ 15 ∷ [])
    × (made_order (8 ∷ 7 ∷ 6 ∷ 5 ∷ 4 ∷ 3 ∷ 2 ∷ []) ≡ 9 ∷ 10 ∷ 11 ∷ 12 ∷ 13 ∷ 14 ∷ 15 ∷ 8 ∷ [])
own_place_keeps_order_and_the_first_turns_it = (refl, refl)

-- the second of two requests comes after half of the ticks
scripts_of_no_and_two_requests : ((seed : ℕ) → made_script seed 0 ≡ [])
    × (made_script 7 2 ≡ codes "3 bid 27 ((-1 46))\n" ++ (repeat 27 (codes "tick\n") ++ codes "3 bid 24 ((-1 178))\n"))
unfolding made_script first_words after digits
scripts_of_no_and_two_requests = ((λ seed. refl), refl)

-- The last two of the nine desks of a floor.
use Rattle.std.proofs.Common.{◌≡◌, ℕ, List, [], ◌∷◌, ◌++◌, length, map, replicate, sym, ap, ◌∙◌, arith, subst, append_assoc, length-append}
use mathlib.Core.Option.{some}
use lib.ListN.{get_elem?}
use Rattle.std.proofs.lemmas.List.{length-map}
use Rattle.clock_events.specs.Prelude.{Desk, desk_ids, IsNewDesk, floor_ids}
use Rattle.floor.specs.declared.floor.Floor.{Floor}
use Rattle.floor.proofs.Tables.{at_middle}

module _ (floor : Floor) (desks others : List Desk) (last : Desk)
    (are_new : (i : ℕ) (d : Desk) → get_elem? desks i ≡ some d → IsNewDesk (floor_ids floor) i d) (nine : map (λ d. desk_ids d) desks ≡ replicate 9 (floor_ids floor)) (popped : desks ≡ others ++ last ∷ []) where
  pub last_is_new : IsNewDesk (floor_ids floor) 8 last
  last_is_new =
      let count = sym (length-map desks (λ d. desk_ids d)) ∙ ap length nine in
      let parts = ap length popped ∙ length-append others (last ∷ []) in
      let place : length others ≡ 8 = omega (arith, count, parts) in
      subst (λ i. IsNewDesk (floor_ids floor) i last) place (are_new (length others) last (ap (λ ds. get_elem? ds (length others)) popped ∙ at_middle others [] last))

  pub one_before_is_new : (first : List Desk) (agent : Desk) → others ≡ first ++ agent ∷ [] → desk_ids agent ≡ floor_ids floor
  one_before_is_new first agent again =
      let whole : desks ≡ first ++ agent ∷ last ∷ [] = popped ∙ ap (λ ds. ds ++ last ∷ []) again ∙ append_assoc first (agent ∷ []) (last ∷ []) in
      (are_new (length first) agent (ap (λ ds. get_elem? ds (length first)) whole ∙ at_middle first (last ∷ []) agent)).ids

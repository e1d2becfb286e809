use Rattle.std.proofs.Common.{◌≡◌, ℕ, ◌+◌, [], ◌∷◌, ◌++◌, map, length, refl, sym, ap, ◌∙◌, subst, arith, append-nil, length-append, option_to_list, All, append_assoc}
use Rattle.std.specs.Vec.Iter.{into_iter_items}
use Rattle.std.proofs.lemmas.List.{length-map, nil_from_length, map_push}
use Rattle.std.proofs.lemmas.List.Elements.{All-push}
use lib.ListN.{get_elem?}
use Rattle.floor.specs.declared.desk.Desk.{Desk}
use Rattle.floor.specs.{desk_steps, calls_of_steps}
use Rattle.floor.proofs.Tables.{at_next}
use Rattle.floor.proofs.CallLists.{listed_as}
use Rattle.floor.proofs.opening.seat.Goals as goal

pub invariant_of-desk : goal.invariant_of-desk
invariant_of-desk c =
    let v = c.loop-cash.invariant in let desks = c.loop-cash.desks.items in let hand = c.unwrap-hand.result in let cash = c.in-Some.cash in
    let hands_are = v.dealt ∙ ap (λ l. map (λ d. d.passes) desks ++ l) (c.next-in-loop-cash.ensures.items ∙ ap (λ o. option_to_list o ++ into_iter_items c.next-in-loop-cash.new.self) c.unwrap-hand.ensures) in
    let passes_are = v.rest ∙ ap (λ l. map (λ d. d.cash) desks ++ l) c.in-Some.ensures.steps.0 in
    let fit = c.requires.fit (length desks) hand cash
    (ap (λ (k : ℕ). get_elem? c.args.hands.items k) (sym (length-map desks (λ d. d.passes))) ∙ at_next _ _ _ _ hands_are)
    (ap (λ (k : ℕ). get_elem? c.args.passes.items k) (sym (length-map desks (λ d. d.cash))) ∙ at_next _ _ _ _ passes_are) in record { kept = fit.0; in_order = fit.1; listed = listed_as fit.2 refl (ap calls_of_steps c.new.ensures) }

pub loop-cash-preserved : goal.loop-cash-preserved
loop-cash-preserved c =
    let v = c.loop-cash.invariant in let desks = c.loop-cash.desks.items in let added = c.in_ok-add.ensures.added in
    let hands_are = v.dealt ∙ ap (λ l. map (λ d. d.passes) desks ++ l) (c.next-in-loop-cash.ensures.items ∙ ap (λ o. option_to_list o ++ into_iter_items c.next-in-loop-cash.new.self) c.unwrap-hand.ensures) in
    let passes_are = v.rest ∙ ap (λ l. map (λ d. d.cash) desks ++ l) c.in-Some.ensures.steps.0 in
    record {
      dealt = hands_are ∙ sym (ap (λ l. map (λ d. d.passes) l ++ into_iter_items c.next-in-loop-cash.new.self) added
          ∙ (ap (λ l. l ++ into_iter_items c.next-in-loop-cash.new.self) (map_push (λ d. d.passes) desks _) ∙ append_assoc (map (λ d. d.passes) desks) (c.unwrap-hand.result ∷ []) (into_iter_items c.next-in-loop-cash.new.self)));
      rest = passes_are ∙ sym (ap (λ l. map (λ d. d.cash) l ++ into_iter_items c.next.new.self) added
          ∙ (ap (λ l. l ++ into_iter_items c.next.new.self) (map_push (λ d. d.cash) desks _) ∙ append_assoc (map (λ d. d.cash) desks) (c.in-Some.cash ∷ []) (into_iter_items c.next.new.self)));
      steps = subst (All (λ (d : Desk). desk_steps d ≡ [])) (sym added) (All-push (λ (d : Desk). desk_steps d ≡ []) desks _ v.steps c.new.ensures);
    }

pub returns-clause-hands : goal.returns-clause-hands
returns-clause-hands c =
    let v = c.loop-cash.invariant in let desks = c.loop-cash.desks.items in
    let none : into_iter_items c.loop-cash.cash-iterator ≡ [] = let z = c.in-None.ensures.steps.0 in nil_from_length _ (sym c.loop-cash.cash-iterator.rest.ok.0 ∙ z) in
    let passes_are : c.args.passes.items ≡ map (λ d. d.cash) desks = v.rest ∙ (ap (λ l. map (λ d. d.cash) desks ++ l) none ∙ append-nil (map (λ d. d.cash) desks)) in
    let same : length (map (λ d. d.passes) desks) + length (into_iter_items c.loop-cash.hands) ≡ length (map (λ d. d.passes) desks) =
    sym (ap length v.dealt ∙ length-append (map (λ d. d.passes) desks) (into_iter_items c.loop-cash.hands)) ∙ (c.requires.lengths ∙ (ap length passes_are ∙ (length-map desks (λ d. d.cash) ∙ sym (length-map desks (λ d. d.passes))))) in
    let no_hand : into_iter_items c.loop-cash.hands ≡ [] = nil_from_length _ (omega arith) in
    sym (v.dealt ∙ (ap (λ l. map (λ d. d.passes) desks ++ l) no_hand ∙ append-nil (map (λ d. d.passes) desks)))

pub returns-clause-passes : goal.returns-clause-passes
returns-clause-passes c =
    let v = c.loop-cash.invariant in let desks = c.loop-cash.desks.items in
    let none : into_iter_items c.loop-cash.cash-iterator ≡ [] = let z = c.in-None.ensures.steps.0 in nil_from_length _ (sym c.loop-cash.cash-iterator.rest.ok.0 ∙ z) in
    sym (v.rest ∙ (ap (λ l. map (λ d. d.cash) desks ++ l) none ∙ append-nil (map (λ d. d.cash) desks)))

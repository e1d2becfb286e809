use Rattle.std.proofs.Common.{rules, ◌≡◌, [], ◌∷◌, ◌++◌, sym, ap, ◌∙◌, subst}
use Rattle.std.specs.Option.{option_to_list}
use Rattle.std.specs.Vec.Iter.{into_iter_items}
use Rattle.std.specs.List.Sorted.{IsPermutation}
use Rattle.std.proofs.lemmas.List.{nil_from_length}
use Rattle.std.proofs.lemmas.List.Sorted.{IsPermutation-refl}
use Rattle.floor.specs.declared.desk.Desk.{Desk}
use Rattle.floor.specs.Desks.{desk_ids, desk_caller}
use Rattle.link_tests.proofs.PutBack.{put_back}
use Rattle.link_tests.proofs.floors.bid_at_once.Goals as goal

pub close-requires : goal.close-requires
close-requires g c =
    let told = c.in_ok-floor.ensures.desks in let v = c.loop-desk.invariant in let a = c.unwrap-first.result in let b = c.unwrap-second.result in
    let a' : Desk = c.join-first.result.0 in let b' : Desk = c.join-first.result.1 in
    let left : into_iter_items c.loop-desk.desk-iterator ≡ [] = let z = c.in-None.ensures.steps.0 in nil_from_length _ (sym c.loop-desk.desk-iterator.rest.ok.0 ∙ z) in
    let whole = sym c.into_iter-others.ensures.rest ∙ (c.next.ensures.items ∙ ap (λ o. option_to_list o ++ into_iter_items c.next.new.self) c.unwrap-first.ensures)
    ∙ ap (λ l. a ∷ l) (c.next-2.ensures.items ∙ ap (λ o. option_to_list o ++ into_iter_items c.next-2.new.self) c.unwrap-second.ensures) in
    let rest : into_iter_items c.into_iter-desk-iterator.result ≡ into_iter_items c.next-2.new.self = search rules in
    let ids_a : desk_ids a' ≡ desk_ids a = search rules in let ids_b : desk_ids b' ≡ desk_ids b = search rules in
    let caller_a : desk_caller a' ≡ desk_caller a = search rules in let caller_b : desk_caller b' ≡ desk_caller b = search rules in (
      put_back (λ d. desk_ids d) _ _ _ _ _ _ _ _ a b a' b' v.ids left c.new-all.ensures.items c.in_ok-hand_back.ensures c.in_ok-hand_back-2.ensures rest whole ids_a ids_b ∙ told.0,
      subst (IsPermutation _)
          (sym (put_back (λ d. desk_caller d) _ _ _ _ _ _ _ _ a b a' b' v.callers left c.new-all.ensures.items c.in_ok-hand_back.ensures c.in_ok-hand_back-2.ensures rest whole caller_a caller_b ∙ told.1))
          (IsPermutation-refl _),
    )

use Rattle.std.proofs.Common.{◌≡◌, List, ◌∷◌, ◌++◌, sym, ap, ◌∙◌, option_to_list}
use Rattle.std.specs.Vec.Iter.{into_iter_items}
use lib.ListN.{get_elem?}
use Rattle.floor.specs.Floors.{floor_ids}
use Rattle.floor.specs.Desks.{IsNewDesk}
use Rattle.floor.specs.declared.desk.Desk.{Desk}
use Rattle.link_tests.proofs.desks.begin_three.Goals as goal

pub returns-clause-first : goal.returns-clause-first
returns-clause-first c =
    let one = sym c.into_iter-desks.ensures.rest ∙ (c.next.ensures.items ∙ ap (λ o. option_to_list o ++ into_iter_items c.next.new.self) c.unwrap-first.ensures) in
    let fresh : IsNewDesk (floor_ids c.in_ok-floor.floor) 0 c.unwrap-first.result = c.in_ok-floor.ensures.new_desks 0 c.unwrap-first.result (ap (λ l. get_elem? l 0) one) in
    (fresh.ids, fresh.caller)

pub returns-clause-no_calls : goal.returns-clause-no_calls
returns-clause-no_calls c =
    let one = sym c.into_iter-desks.ensures.rest ∙ (c.next.ensures.items ∙ ap (λ o. option_to_list o ++ into_iter_items c.next.new.self) c.unwrap-first.ensures) in
    let fresh : IsNewDesk (floor_ids c.in_ok-floor.floor) 0 c.unwrap-first.result = c.in_ok-floor.ensures.new_desks 0 c.unwrap-first.result (ap (λ l. get_elem? l 0) one) in
    (fresh.entries, fresh.cash)

pub returns-clause-second : goal.returns-clause-second
returns-clause-second c =
    let one = sym c.into_iter-desks.ensures.rest ∙ (c.next.ensures.items ∙ ap (λ o. option_to_list o ++ into_iter_items c.next.new.self) c.unwrap-first.ensures) in
    let two = one ∙ ap (λ (l : List Desk). c.unwrap-first.result ∷ l) (c.next-2.ensures.items ∙ ap (λ o. option_to_list o ++ into_iter_items c.next-2.new.self) c.unwrap-second.ensures) in
    let fresh : IsNewDesk (floor_ids c.in_ok-floor.floor) 1 c.unwrap-second.result = c.in_ok-floor.ensures.new_desks 1 c.unwrap-second.result (ap (λ l. get_elem? l 1) two) in
    (fresh.ids, fresh.caller)

pub returns-clause-third : goal.returns-clause-third
returns-clause-third c =
    let one = sym c.into_iter-desks.ensures.rest ∙ (c.next.ensures.items ∙ ap (λ o. option_to_list o ++ into_iter_items c.next.new.self) c.unwrap-first.ensures) in
    let two = one ∙ ap (λ (l : List Desk). c.unwrap-first.result ∷ l) (c.next-2.ensures.items ∙ ap (λ o. option_to_list o ++ into_iter_items c.next-2.new.self) c.unwrap-second.ensures) in
    let three = two ∙ ap (λ (l : List Desk). c.unwrap-first.result ∷ c.unwrap-second.result ∷ l) (c.next-3.ensures.items ∙ ap (λ o. option_to_list o ++ into_iter_items c.next-3.new.self) c.unwrap-third.ensures) in
    let fresh : IsNewDesk (floor_ids c.in_ok-floor.floor) 2 c.unwrap-third.result = c.in_ok-floor.ensures.new_desks 2 c.unwrap-third.result (ap (λ l. get_elem? l 2) three) in
    (fresh.ids, fresh.caller)

use Rattle.std.proofs.Common.{rules, ◌≡◌, ℕ, ◌<◌, [], ◌∷◌, ◌++◌, map, length, get_or, refl, sym, ap, ◌∙◌, arith, append-nil, length-append, append_assoc}
use Rattle.std.proofs.lemmas.List.{length-map, nil_from_length, map_push}
use Rattle.std.specs.Vec.Iter.{into_iter_items}
use Rattle.turn_lock.specs.Passes.{lock_of, lock_id, start_of, passes_of, returned_to, returned_by}
use Rattle.floor.specs.Rows.{with_each}
use Rattle.floor.proofs.Rows.{map_set_same, same_at}
use Rattle.floor.proofs.Tables.{with_none, length-with_each, row_more, shorter, get_next}
use Rattle.floor.proofs.closing.return_passes.Goals as goal

pub loop-pass-init : goal.loop-pass-init
loop-pass-init c = record { count = refl; rest = search rules; ids = refl; starts = refl; passes = refl; returned = sym (with_none _) }

pub index_mut-requires : goal.index_mut-requires
index_mut-requires c =
    let v = c.loop-pass.invariant in
    let whole : c.args.passes.items ≡ c.loop-pass.yielded ++ c.in-Some.pass ∷ into_iter_items c.next.new.self = v.rest ∙ ap (λ l. c.loop-pass.yielded ++ l) c.in-Some.ensures.steps.0 in
    let long : length c.args.passes.items ≡ length c.loop-pass.locks.items =
    sym (length-map c.args.passes.items (λ p. lock_of p)) ∙ (ap length (c.requires ∙ sym v.ids) ∙ length-map c.loop-pass.locks.items (λ lock. lock_id lock)) in
    omega (arith, shorter _ _ _ _ whole, v.count, c.loop-pass.locks.ok.0)

pub take_back-requires-clause-own : goal.take_back-requires-clause-own
take_back-requires-clause-own c κs =
    let v = c.loop-pass.invariant in let pass = c.in-Some.pass in
    let whole : c.args.passes.items ≡ c.loop-pass.yielded ++ pass ∷ into_iter_items c.next.new.self = v.rest ∙ ap (λ l. c.loop-pass.yielded ++ l) c.in-Some.ensures.steps.0 in
    same_at (λ p. lock_of p) (λ lock. lock_id lock) c.args.passes.items c.loop-pass.locks.items c.loop-pass.good pass c.index_mut.result.now (c.requires ∙ sym v.ids)
    (omega (arith, shorter _ _ _ _ whole, v.count)) (get_next _ _ _ _ whole ∙ ap (λ (j : ℕ). get_or c.args.passes.items j pass) (sym v.count)) c.index_mut.ensures.value

pub loop-pass-preserved : goal.loop-pass-preserved
loop-pass-preserved c =
    let v = c.loop-pass.invariant in let pass = c.in-Some.pass in let locks = c.loop-pass.locks.items in let k : ℕ = c.loop-pass.good in let lock = c.index_mut.result.now in let lock' = c.take_back.new.self in
    let whole : c.args.passes.items ≡ c.loop-pass.yielded ++ pass ∷ into_iter_items c.next.new.self = v.rest ∙ ap (λ l. c.loop-pass.yielded ++ l) c.in-Some.ensures.steps.0 in
    let long : length c.args.passes.items ≡ length locks =
    sym (length-map c.args.passes.items (λ p. lock_of p)) ∙ (ap length (c.requires ∙ sym v.ids) ∙ length-map locks (λ l. lock_id l)) in
    let inside : k < length locks = omega (arith, shorter _ _ _ _ whole, v.count) in
    let same = c.take_back.ensures.same in let at = c.index_mut.ensures.value in
    let rows = map (λ l. returned_to l) c.args.locks.now.items in
    let wide : length locks ≡ length rows = sym (length-map locks (λ l. returned_to l)) ∙ (ap length v.returned ∙ length-with_each rows (map (λ p. returned_by p) c.loop-pass.yielded)) in
    record {
      count = omega (arith, v.count, length-append c.loop-pass.yielded (pass ∷ []));
      rest = whole ∙ sym (append_assoc c.loop-pass.yielded (pass ∷ []) (into_iter_items c.next.new.self));
      ids = map_set_same (λ l. lock_id l) locks k lock lock' inside at same.0 ∙ v.ids;
      starts = map_set_same (λ l. start_of l) locks k lock lock' inside at same.1 ∙ v.starts;
      passes = map_set_same (λ l. passes_of l) locks k lock lock' inside at same.2 ∙ v.passes;
      returned = row_more (λ l. returned_to l) locks rows (map (λ p. returned_by p) c.loop-pass.yielded) k lock lock' (returned_by pass) v.returned
          (v.count ∙ sym (length-map c.loop-pass.yielded (λ p. returned_by p))) (omega (arith, v.count, length-map c.loop-pass.yielded (λ p. returned_by p), inside, wide)) at c.take_back.ensures.returned
          ∙ ap (λ l. with_each rows l) (sym (map_push (λ p. returned_by p) c.loop-pass.yielded pass));
    }

pub returns-clause-returned : goal.returns-clause-returned
returns-clause-returned c =
    let v = c.loop-pass.invariant in
    let none : into_iter_items c.loop-pass.pass-iterator ≡ [] = let z = c.in-None.ensures.steps.0 in nil_from_length _ (sym c.loop-pass.pass-iterator.rest.ok.0 ∙ z) in
    let all : c.loop-pass.yielded ≡ c.args.passes.items = sym (v.rest ∙ (ap (λ l. c.loop-pass.yielded ++ l) none ∙ append-nil c.loop-pass.yielded)) in
    v.returned ∙ ap (λ l. with_each (map (λ lock. returned_to lock) c.args.locks.now.items) (map (λ p. returned_by p) l)) all

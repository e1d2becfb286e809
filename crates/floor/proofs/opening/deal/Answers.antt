use Rattle.std.proofs.Common.{rules, ◌≡◌, [], ◌∷◌, ◌++◌, map, length, refl, sym, ap, ◌∙◌, arith, append-nil, length-append, append_assoc}
use Rattle.std.proofs.lemmas.List.{length-map, nil_from_length}
use Rattle.std.specs.Vec.Iter.{into_iter_items}
use Rattle.floor.specs.Rows.{with_each}
use Rattle.floor.proofs.Tables.{with_none, length-with_each, row_more, shorter}
use Rattle.floor.proofs.opening.deal.Goals as goal

pub loop-pass-init : goal.loop-pass-init
loop-pass-init c = record { count = refl; rest = search rules; dealt = sym (with_none _) }

pub index_mut-requires : goal.index_mut-requires
index_mut-requires c =
    let v = c.loop-pass.invariant in let rows = map (λ hand. hand.items) c.args.hands.now.items in
    let whole : c.args.passes.items ≡ c.loop-pass.yielded ++ c.in-Some.pass ∷ into_iter_items c.next.new.self = v.rest ∙ ap (λ l. c.loop-pass.yielded ++ l) c.in-Some.ensures.steps.0 in
    let long : length c.loop-pass.hands.items ≡ length c.args.hands.now.items =
    sym (length-map c.loop-pass.hands.items (λ hand. hand.items)) ∙ (ap length v.dealt ∙ (length-with_each rows c.loop-pass.yielded ∙ length-map c.args.hands.now.items (λ hand. hand.items))) in
    omega (arith, shorter _ _ _ _ whole, c.requires, v.count, c.loop-pass.hands.ok.0)

pub loop-pass-preserved : goal.loop-pass-preserved
loop-pass-preserved c =
    let v = c.loop-pass.invariant in let rows = map (λ hand. hand.items) c.args.hands.now.items in
    let whole : c.args.passes.items ≡ c.loop-pass.yielded ++ c.in-Some.pass ∷ into_iter_items c.next.new.self = v.rest ∙ ap (λ l. c.loop-pass.yielded ++ l) c.in-Some.ensures.steps.0 in
    record {
      count = omega (arith, v.count, length-append c.loop-pass.yielded (c.in-Some.pass ∷ []));
      rest = whole ∙ sym (append_assoc c.loop-pass.yielded (c.in-Some.pass ∷ []) (into_iter_items c.next.new.self));
      dealt = row_more (λ hand. hand.items) c.loop-pass.hands.items rows c.loop-pass.yielded c.loop-pass.caller c.index_mut.result.now c.add.new.list c.in-Some.pass v.dealt v.count
          (omega (arith, shorter _ _ _ _ whole, c.requires, length-map c.args.hands.now.items (λ hand. hand.items))) c.index_mut.ensures.value c.in_ok-add.ensures.added;
    }

pub returns : goal.returns
returns c =
    let v = c.loop-pass.invariant in
    let none : into_iter_items c.loop-pass.pass-iterator ≡ [] = let z = c.in-None.ensures.steps.0 in nil_from_length _ (sym c.loop-pass.pass-iterator.rest.ok.0 ∙ z) in
    let all : c.loop-pass.yielded ≡ c.args.passes.items = sym (v.rest ∙ (ap (λ l. c.loop-pass.yielded ++ l) none ∙ append-nil c.loop-pass.yielded)) in
    v.dealt ∙ ap (λ l. with_each (map (λ hand. hand.items) c.args.hands.now.items) l) all

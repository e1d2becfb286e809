use Rattle.std.proofs.Common.{◌≡◌, [], ◌∷◌, ◌++◌, length, sym, ap, ◌∙◌, arith, append-nil, length-append, append_assoc}
use Rattle.std.proofs.lemmas.List.{nil_from_length}
use Rattle.std.specs.Vec.Iter.{into_iter_items}
use lib.ListN.{get_elem?}
use Rattle.turn_lock.specs.Passes.{start_of, passes_of, returned_to}
use Rattle.floor.specs.Closing.{IsGivenBack}
use Rattle.floor.proofs.Tables.{shorter, at_next, pairs_more}
use Rattle.floor.proofs.closing.close_all.Goals as goal

pub close-requires-clause-all_back : goal.close-requires-clause-all_back
close-requires-clause-all_back c κs =
    let whole = c.loop-lock.invariant.rest ∙ ap (λ l. c.loop-lock.yielded ++ l) c.in-Some.ensures.steps.0 in
    c.requires.all_back (length c.loop-lock.yielded) c.in-Some.lock (at_next _ _ _ _ whole)

pub push_reserved-requires : goal.push_reserved-requires
push_reserved-requires c =
    let v = c.loop-lock.invariant in let whole = v.rest ∙ ap (λ l. c.loop-lock.yielded ++ l) c.in-Some.ensures.steps.0 in
    omega (arith, shorter _ _ _ _ whole, v.long, v.room, c.requires.room.1, c.loop-lock.room.ok.0)

pub loop-lock-preserved : goal.loop-lock-preserved
loop-lock-preserved c =
    let v = c.loop-lock.invariant in let lock = c.in-Some.lock in let closed = c.close.ensures in
    let whole : c.args.locks.items ≡ c.loop-lock.yielded ++ lock ∷ into_iter_items c.next.new.self = v.rest ∙ ap (λ l. c.loop-lock.yielded ++ l) c.in-Some.ensures.steps.0 in
    let items = c.push_reserved.ensures.items in
    record {
      rest = whole ∙ sym (append_assoc c.loop-lock.yielded (lock ∷ []) (into_iter_items c.next.new.self));
      long = ap length items ∙ omega (arith, length-append c.loop-lock.room.items (c.close.result ∷ []), length-append c.loop-lock.yielded (lock ∷ []), v.long);
      room = c.push_reserved.ensures.capacity ∙ v.room;
      given_back = λ good l a at_l at_a. pairs_more (λ x y. IsGivenBack (start_of x) (passes_of x) (returned_to x) y) c.loop-lock.yielded c.loop-lock.room.items lock c.close.result v.long v.given_back
          (record { setup = closed.setup; legal = closed.legal; known = closed.known; nobody_else = closed.nobody_else }) good l a at_l (sym (ap (λ m. get_elem? m good) items) ∙ at_a);
    }

pub returns-clause-length : goal.returns-clause-length
returns-clause-length c =
    let v = c.loop-lock.invariant in
    let none : into_iter_items c.loop-lock.lock-iterator ≡ [] = let z = c.in-None.ensures.steps.0 in nil_from_length _ (sym c.loop-lock.lock-iterator.rest.ok.0 ∙ z) in
    v.long ∙ ap length (sym (v.rest ∙ (ap (λ l. c.loop-lock.yielded ++ l) none ∙ append-nil c.loop-lock.yielded)))

pub returns-clause-given_back : goal.returns-clause-given_back
returns-clause-given_back c good lock auction at_lock at_auction =
    let v = c.loop-lock.invariant in
    let none : into_iter_items c.loop-lock.lock-iterator ≡ [] = let z = c.in-None.ensures.steps.0 in nil_from_length _ (sym c.loop-lock.lock-iterator.rest.ok.0 ∙ z) in
    let all : c.args.locks.items ≡ c.loop-lock.yielded = v.rest ∙ (ap (λ l. c.loop-lock.yielded ++ l) none ∙ append-nil c.loop-lock.yielded) in
    v.given_back good lock auction (ap (λ l. get_elem? l good) (sym all) ∙ at_lock) at_auction

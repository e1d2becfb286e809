use Rattle.std.proofs.Common.{◌≡◌, ◌++◌, ℕ, ◌<◌, ◌≤◌, List, [], ◌∷◌, map, length, get_or, set, refl, sym, ap, ◌∙◌, subst, arith}
use Rattle.std.proofs.lemmas.List.{length-map}
use Rattle.floor.specs.Prelude.{Board, lock_of, lock_id, caller_of, turns_left, made_by, noted_by, seen_by}
use Rattle.floor.proofs.Rows.{map_get, map_set, map_set_same, same_at}
use Rattle.floor.proofs.Desks.{kept_as}
use Rattle.floor.proofs.Orders.{orders_board, order_as}
use Rattle.floor.proofs.CallLists.{listed_as}
use Rattle.floor.proofs.desk.Desk.quote.Goals as goal

pub peek-requires-clause-own : goal.peek-requires-clause-own
peek-requires-clause-own c κs =
    let ps = c.args.self.now.passes.items in let kept = c.args.self.now.kept in
    same_at (λ p. lock_of p) (λ l. lock_id l) ps c.args.floor.now.auctions.items c.place-place.result _ _ (ap (λ t. t.0) c.requires.own)
    (omega (arith, length-map ps (λ p. made_by p), kept.goods, c.place-place.ensures.range)) c.index_mut.ensures.value c.index.ensures

pub invariant_of-self : goal.invariant_of-self
invariant_of-self c =
    let d = c.args.self.now in let ps = d.passes.items in let k : ℕ = c.place-place.result in let p = c.index_mut.result.now in let p' = c.peek.new.pass in let at = c.index_mut.ensures.value in let own = c.peek.ensures.own in
    let board = c.peek.result in let long : length ps ≡ 28 = sym (length-map ps (λ q. made_by q)) ∙ d.kept.goods in let inside' : k < 28 = omega (arith, c.place-place.ensures.range) in
    let inside : k < length ps = omega arith in record {
      kept = kept_as d.kept refl (map_set_same (λ q. caller_of q) ps k p p' inside at own.1) (map_set_same (λ q. turns_left q) ps k p p' inside at own.2) (map_set_same (λ q. made_by q) ps k p p' inside at own.3) refl refl refl;
      in_order = order_as
          (orders_board (map (λ q. made_by q) ps) (map (λ q. noted_by q) ps) (map (λ q. seen_by q) ps) (length-map ps (λ q. seen_by q) ∙ long) k inside' d.in_order (length-map ps (λ q. noted_by q) ∙ long) board.count board
          (subst (λ (n : ℕ). n ≤ board.count) (sym (map_get (λ q. seen_by q) ps k p 0 inside at)) c.peek.ensures.seen.0))
          (map_set_same (λ q. made_by q) ps k p p' inside at own.3)
          (map_set (λ q. noted_by q) ps k p' _ (c.peek.ensures.note ∙ ap (λ (l : List (ℕ × Board)). l ++ (board.count, board) ∷ []) (sym (map_get (λ q. noted_by q) ps k p [] inside at))))
          (map_set (λ q. seen_by q) ps k p' board.count c.peek.ensures.seen.1);
      listed = listed_as d.listed (map_set_same (λ q. made_by q) ps k p p' inside at own.3) refl;
    }

pub returns-clause-seen : goal.returns-clause-seen
returns-clause-seen c =
    let d = c.args.self.now in let ps = d.passes.items in let k : ℕ = c.place-place.result in let p = c.index_mut.result.now in let p' = c.peek.new.pass in let at = c.index_mut.ensures.value in let own = c.peek.ensures.own in
    let board = c.peek.result in let is = c.place-place.ensures.value in
    let inside : k < length ps = omega (arith, length-map ps (λ q. made_by q), d.kept.goods, c.place-place.ensures.range) in record {
      boards = map_set (λ q. noted_by q) ps k p' _ (c.peek.ensures.note ∙ ap (λ (l : List (ℕ × Board)). l ++ (board.count, board) ∷ []) (sym (map_get (λ q. noted_by q) ps k p [] inside at)))
          ∙ ap (λ (j : ℕ). set (map (λ q. noted_by q) ps) j (get_or (map (λ q. noted_by q) ps) j [] ++ (board.count, board) ∷ [])) is;
      seen_before = subst (λ (n : ℕ). n ≤ board.count) (sym (map_get (λ q. seen_by q) ps k p 0 inside at) ∙ ap (λ (j : ℕ). get_or (map (λ q. seen_by q) ps) j 0) is) c.peek.ensures.seen.0;
      seen = map_set (λ q. seen_by q) ps k p' board.count c.peek.ensures.seen.1 ∙ ap (λ (j : ℕ). set (map (λ q. seen_by q) ps) j board.count) is;
      entries = map_set_same (λ q. made_by q) ps k p p' inside at own.3;
      steps = refl;
      calls = refl;
      cash = refl;
      same = ((λ i. (map_set_same (λ q. lock_of q) ps k p p' inside at own.0 i, lock_of d.cash)), refl);
    }

use Rattle.std.proofs.Common.{◌≡◌, ◌++◌, ℕ, ◌+◌, ◌<◌, ◌≤◌, List, [], ◌∷◌, map, length, reverse, slice_get, get_or, set, sym, ap, ◌∙◌, subst, refl, arith, option_and_then, option_map}
use Rattle.std.proofs.lemmas.List.{length-map, get_or-replicate}
use Rattle.floor.specs.{AuctionHistory, Entry, entry_of, part, LockId, lock_of, lock_id, start_of, caller_of, turns_left, made_by, noted_by, seen_by, desk_steps, calls_of_steps}
use Rattle.floor.proofs.Rows.{map_get, map_at, map_set, map_set_same, same_at}
use Rattle.floor.proofs.Desks.{kept_more, kept_as}
use Rattle.floor.proofs.Orders.{orders_entry, order_as}
use Rattle.floor.proofs.CallLists.{calls_of_steps-call, listed_more, listed_as}
use Rattle.floor.proofs.BornOut.{last_is_ruled}
use Rattle.floor.proofs.desk.Desk.call.Goals as goal

pub call-position-requires-clause-own : goal.call-position-requires-clause-own
call-position-requires-clause-own g c κs within =
    let ps = c.args.self.now.passes.items in let kept = c.args.self.now.kept in
    same_at (λ p. lock_of p) (λ l. lock_id l) ps c.args.floor.now.auctions.items c.place-place.result _ _ (ap (λ t. t.0) c.requires.own)
    (omega (arith, length-map ps (λ p. made_by p), kept.goods, c.place-place.ensures.range)) c.index_mut.ensures.value c.index-lock.ensures

pub invariant_of-self : goal.invariant_of-self
invariant_of-self g c =
    let d = c.args.self.now in let ps = d.passes.items in let good : ℕ = c.args.good in let k : ℕ = c.place-place.result in let is : k ≡ good = c.place-place.ensures.value in
    let p = c.index_mut.result.now in let p' = c.call-position.new.pass in let at = c.index_mut.ensures.value in
    let own = c.call-position.ensures.own in let entry = c.call-position.ensures.entry in let e : Entry = entry.0 in let position : ℕ = c.call-position.result.0 in
    let long : length ps ≡ 28 = sym (length-map ps (λ q. made_by q)) ∙ d.kept.goods in let inside : k < length ps = omega (arith, c.place-place.ensures.range) in
    let caller : caller_of p ≡ caller_of d.cash = sym (map_get (λ q. caller_of q) ps k p 0 inside at) ∙ (ap (λ (l : List ℕ). get_or l k 0) d.kept.own ∙ get_or-replicate 28 k (caller_of d.cash) 0 (omega (arith, c.place-place.ensures.range))) in
    let posted = c.post.ensures.posted e entry.3 (entry.1 ∙ caller) in
    let left : turns_left p' + 1 ≡ get_or (map (λ q. turns_left q) ps) good 0 = own.2 ∙ (sym (map_get (λ q. turns_left q) ps k p 0 inside at) ∙ ap (λ (j : ℕ). get_or (map (λ q. turns_left q) ps) j 0) is) in
    let entries = map_set (λ q. made_by q) ps k p' _ (entry.4 ∙ ap (λ (l : List (ℕ × Entry)). l ++ (position, e) ∷ []) (sym (map_get (λ q. made_by q) ps k p [] inside at)))
    ∙ ap (λ (j : ℕ). set (map (λ q. made_by q) ps) j (get_or (map (λ q. made_by q) ps) j [] ++ (position, e) ∷ [])) is in
    let more = kept_more d.kept good (turns_left p') position posted.0.0 (turns_left c.post.new.pass) e (omega (arith, c.place-place.ensures.range)) (length-map ps (λ q. turns_left q) ∙ long) left posted.1 in
    record {
      kept = kept_as more
          c.post.ensures.own.1
          (map_set_same (λ q. caller_of q) ps k p p' inside at own.1)
          (map_set (λ q. turns_left q) ps k p' (turns_left p') refl ∙ ap (λ (j : ℕ). set (map (λ q. turns_left q) ps) j (turns_left p')) is)
          entries
          refl
          posted.0.1
          refl;
      in_order = order_as
          (orders_entry (map (λ q. made_by q) ps) (map (λ q. noted_by q) ps) (map (λ q. seen_by q) ps) (length-map ps (λ q. seen_by q) ∙ long) good (omega (arith, c.place-place.ensures.range)) d.in_order position e
          (subst (λ (n : ℕ). n ≤ position) (sym (map_get (λ q. seen_by q) ps k p 0 inside at) ∙ ap (λ (j : ℕ). get_or (map (λ q. seen_by q) ps) j 0) is) c.call-position.ensures.seen.0))
          entries
          (map_set_same (λ q. noted_by q) ps k p p' inside at own.3)
          (map_set (λ q. seen_by q) ps k p' (position + 1) c.call-position.ensures.seen.1 ∙ ap (λ (j : ℕ). set (map (λ q. seen_by q) ps) j (position + 1)) is);
      listed = listed_as (listed_more d.listed good c.args.call.now position e (omega (arith, c.place-place.ensures.range)) d.kept.goods entry.2) entries (ap calls_of_steps c.with_call-self.ensures ∙ calls_of_steps-call (desk_steps d) c.args.good c.args.call.now);
    }

pub returns : goal.returns
returns g c =
    let d = c.args.self.now in let ps = d.passes.items in let good : ℕ = c.args.good in let k : ℕ = c.place-place.result in let is : k ≡ good = c.place-place.ensures.value in
    let p = c.index_mut.result.now in let p' = c.call-position.new.pass in let at = c.index_mut.ensures.value in
    let own = c.call-position.ensures.own in let entry = c.call-position.ensures.entry in let e : Entry = entry.0 in let position : ℕ = c.call-position.result.0 in
    let long : length ps ≡ 28 = sym (length-map ps (λ q. made_by q)) ∙ d.kept.goods in let inside : k < length ps = omega (arith, c.place-place.ensures.range) in
    let caller : caller_of p ≡ caller_of d.cash = sym (map_get (λ q. caller_of q) ps k p 0 inside at) ∙ (ap (λ (l : List ℕ). get_or l k 0) d.kept.own ∙ get_or-replicate 28 k (caller_of d.cash) 0 (omega (arith, c.place-place.ensures.range))) in
    let posted = c.post.ensures.posted e entry.3 (entry.1 ∙ caller) in
    let turn = entry.5 in let locks = c.args.floor.now.auctions.items in let lock = c.index-lock.result.now in let start : AuctionHistory = start_of lock in
    let wide : k < length locks = omega (arith, length-map locks (λ l. lock_id l), length-map ps (λ q. lock_of q), ap length (ap (λ t. t.0) c.requires.own), inside) in
    record {
      answered = record {
        entry = e;
        made = record {
          caller = entry.1 ∙ caller;
          call = entry.2;
          reply = ap (λ s. s.reply) entry.3;
          setup = start.setup;
          setup_is = ap (λ l. option_and_then (λ id. option_map (λ s. s.setup) id.start) (slice_get l good)) (ap (λ t. t.0) c.requires.own)
              ∙ ap (option_and_then (λ (id : LockId AuctionHistory). option_map (λ s. s.setup) id.start)) (ap (slice_get (map (λ l. lock_id l) locks)) (sym is) ∙ map_at (λ l. lock_id l) locks k lock wide c.index-lock.ensures);
          earlier = turn.before;
          count = turn.count;
          own = ap (part (λ (x : Entry). x.caller) turn.before) (sym caller) ∙ (turn.own ∙ (sym (map_get (λ q. made_by q) ps k p [] inside at) ∙ ap (λ (j : ℕ). get_or (map (λ q. made_by q) ps) j []) is));
          legal = turn.lawful;
          ruled = last_is_ruled start.setup turn.before e turn.lawful ∙ (λ i. entry_of start.setup (reverse turn.before) ((entry.1 ∙ caller) i) (entry.2 i));
        };
        adds = record {
          entries = map_set (λ q. made_by q) ps k p' _ (entry.4 ∙ ap (λ (l : List (ℕ × Entry)). l ++ (position, e) ∷ []) (sym (map_get (λ q. made_by q) ps k p [] inside at)))
              ∙ ap (λ (j : ℕ). set (map (λ q. made_by q) ps) j (get_or (map (λ q. made_by q) ps) j [] ++ (position, e) ∷ [])) is;
          steps = c.with_call-self.ensures;
          calls = ap calls_of_steps c.with_call-self.ensures ∙ calls_of_steps-call (desk_steps d) c.args.good c.args.call.now;
          posts = posted.0;
          seen_before = subst (λ (n : ℕ). n ≤ position) (sym (map_get (λ q. seen_by q) ps k p 0 inside at) ∙ ap (λ (j : ℕ). get_or (map (λ q. seen_by q) ps) j 0) is) c.call-position.ensures.seen.0;
          seen = map_set (λ q. seen_by q) ps k p' (position + 1) c.call-position.ensures.seen.1 ∙ ap (λ (j : ℕ). set (map (λ q. seen_by q) ps) j (position + 1)) is;
        };
        boards = map_set_same (λ q. noted_by q) ps k p p' inside at own.3;
        same = ((λ i. (map_set_same (λ q. lock_of q) ps k p p' inside at own.0 i, c.post.ensures.own.0 i)), c.post.ensures.own.1);
      };
    }

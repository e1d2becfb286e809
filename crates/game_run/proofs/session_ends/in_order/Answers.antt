use Rattle.std.proofs.Common.{◌≡◌, ◌∷◌, ◌++◌, ◌∙◌, [], ap, sym, subst, arith, length, append-nil, length-append, slice_get, append_assoc}
use Rattle.std.proofs.lemmas.List.{nil_from_length}
use Rattle.std.specs.Vec.Iter.{into_iter_items}
use Rattle.game_run.specs.SeatedLinks.{AreFilled, AreLinksOf, IsLinkOf}
use Rattle.game_run.proofs.LinksBack.{zip_more, was_there_before, link_of_first}
use Rattle.game_run.proofs.session_ends.in_order.Goals as goal

pub link_at-link-requires : goal.link_at-link-requires
link_at-link-requires g c = (subst (AreFilled c.loop-holder.agent_seats.items) c.in-Some.ensures.steps.0 c.loop-holder.invariant.filled).0

pub push_reserved-requires : goal.push_reserved-requires
push_reserved-requires g c =
    let v = c.loop-holder.invariant in
    let whole : c.args.holders.items ≡ c.loop-holder.yielded ++ c.in-Some.holder ∷ into_iter_items c.next.new.self = v.rest ∙ ap (λ l. c.loop-holder.yielded ++ l) c.in-Some.ensures.steps.0 in
    omega (arith, ap length whole ∙ length-append c.loop-holder.yielded (c.in-Some.holder ∷ into_iter_items c.next.new.self), v.count, v.room, c.args.holders.ok.0)

pub loop-holder-preserved : goal.loop-holder-preserved
loop-holder-preserved g c =
    let v = c.loop-holder.invariant in
    let whole : c.args.holders.items ≡ c.loop-holder.yielded ++ c.in-Some.holder ∷ into_iter_items c.next.new.self = v.rest ∙ ap (λ l. c.loop-holder.yielded ++ l) c.in-Some.ensures.steps.0 in
    record {
      rest = whole ∙ sym (append_assoc c.loop-holder.yielded (c.in-Some.holder ∷ []) (into_iter_items c.next.new.self));
      filled = subst (λ agent_seats. AreFilled agent_seats (into_iter_items c.next.new.self)) (sym c.link_at-link.ensures.rest) (subst (AreFilled c.loop-holder.agent_seats.items) c.in-Some.ensures.steps.0 v.filled).1;
      given = subst (λ links. AreLinksOf c.args.agent_seats.items (c.loop-holder.yielded ++ c.in-Some.holder ∷ []) links) (sym c.push_reserved.ensures.items)
          (zip_more (IsLinkOf c.args.agent_seats.items) c.loop-holder.yielded c.loop-holder.links.items c.in-Some.holder c.link_at-link.result v.given
          (link_of_first c.args.agent_seats.items c.loop-holder.agent_seats.items c.in-Some.holder c.link_at-link.result v.same c.link_at-link.ensures.link));
      same = λ agent link at. v.same agent link (was_there_before c.loop-holder.agent_seats.items c.in-Some.holder agent link (ap (λ l. slice_get l agent) (sym c.link_at-link.ensures.rest) ∙ at));
      count = omega (arith, c.push_reserved.ensures.len, v.count, length-append c.loop-holder.yielded (c.in-Some.holder ∷ []));
      room = omega (arith, v.room, c.push_reserved.ensures.capacity);
    }

pub returns : goal.returns
returns g c =
    let v = c.loop-holder.invariant in
    let none : into_iter_items c.loop-holder.holder-iterator ≡ [] = let z = c.in-None.ensures.steps.0 in nil_from_length _ (sym c.loop-holder.holder-iterator.rest.ok.0 ∙ z) in
    let all : c.loop-holder.yielded ≡ c.args.holders.items = sym (v.rest ∙ (ap (λ l. c.loop-holder.yielded ++ l) none ∙ append-nil c.loop-holder.yielded)) in
    subst (λ holders. AreLinksOf c.args.agent_seats.items holders c.loop-holder.links.items) all v.given

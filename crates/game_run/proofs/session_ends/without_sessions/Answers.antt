use Rattle.std.proofs.Common.{◌≡◌, ◌∷◌, ◌++◌, ◌∙◌, [], ap, sym, arith, length, map, length-append, append_assoc, option_map}
use Rattle.std.proofs.lemmas.List.{map_push}
use Rattle.std.specs.Vec.Iter.{into_iter_items}
use Rattle.tac_io.specs.Lines.{link_of}
use Rattle.game_run.proofs.session_ends.without_sessions.Goals as goal

pub push_reserved-requires : goal.push_reserved-requires
push_reserved-requires g c =
    let v = c.loop-lines.invariant in
    let whole : c.args.seated.items ≡ c.loop-lines.yielded ++ c.in-Some.lines ∷ into_iter_items c.next.new.self = v.rest ∙ ap (λ l. c.loop-lines.yielded ++ l) c.in-Some.ensures.steps.0 in
    omega (arith, ap length whole ∙ length-append c.loop-lines.yielded (c.in-Some.lines ∷ into_iter_items c.next.new.self), v.count, v.room, c.args.seated.ok.0)

pub loop-lines-preserved : goal.loop-lines-preserved
loop-lines-preserved g c =
    let v = c.loop-lines.invariant in
    let whole : c.args.seated.items ≡ c.loop-lines.yielded ++ c.in-Some.lines ∷ into_iter_items c.next.new.self = v.rest ∙ ap (λ l. c.loop-lines.yielded ++ l) c.in-Some.ensures.steps.0 in
    record {
      rest = whole ∙ sym (append_assoc c.loop-lines.yielded (c.in-Some.lines ∷ []) (into_iter_items c.next.new.self));
      given = c.push_reserved.ensures.items ∙ (ap (λ l. l ++ c.link_in.result ∷ []) v.given ∙ (ap (λ o. map (option_map link_of) c.loop-lines.yielded ++ o ∷ []) c.link_in.ensures ∙ sym (map_push (option_map link_of) c.loop-lines.yielded c.in-Some.lines)));
      count = omega (arith, c.push_reserved.ensures.len, v.count, length-append c.loop-lines.yielded (c.in-Some.lines ∷ []));
      room = omega (arith, v.room, c.push_reserved.ensures.capacity);
    }

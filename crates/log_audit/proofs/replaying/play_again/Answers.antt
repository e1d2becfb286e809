use Rattle.std.proofs.Common.{◌≡◌, ℕ, List, [], ◌∷◌, ◌++◌, length, take, map, sym, ap, ◌∙◌, subst, arith, below_more, length-take-le}
use Rattle.std.proofs.lemmas.List.{length-map}
use Rattle.std.proofs.lemmas.Option.{slice_get_within}
use Rattle.auction_rules.specs.History.{Entry}
use Rattle.log_audit.specs.{Setup, setup_of, HasFairEntry, IsStruck, nets_by}
use Rattle.log_audit.proofs.Positions.{take_at, all_taken}
use Rattle.log_audit.proofs.replaying.play_again.Goals as goal

pub returns-in-None : goal.returns-in-None
returns-in-None c =
    let v = c.loop-position.invariant in let history = c.args.history.now in
    let here : length c.loop-position.auction.history ≡ c.loop-position.position =
    ap (λ (h : List Entry). length h) v.history_is ∙ length-take-le c.loop-position.position history (let inside = c.loop-position-test.true in omega (arith, inside, c.len-position-end.ensures.value)) in
    record { unfair = (let P : Setup × ℕ → Type 0 = λ q. HasFairEntry q.0 history q.1 → ⊥ in subst P (λ i. (v.setup i, here i)) c.in-None.ensures.struck); first = v.fair }

pub loop-position-preserved : goal.loop-position-preserved
loop-position-preserved c =
    let v = c.loop-position.invariant in let history = c.args.history.now in let n = c.loop-position.position in
    let here : length c.loop-position.auction.history ≡ n =
    ap (λ (h : List Entry). length h) v.history_is ∙ length-take-le n history (let inside = c.loop-position-test.true in omega (arith, inside, c.len-position-end.ensures.value)) in
    let struck : IsStruck (setup_of c.args.good c.args.game.now) history n c.strike_next.new.auction.history c.strike_next.new.counts c.in-Some.struck =
    (let P : Setup × ℕ → Type 0 = λ q. IsStruck q.0 history q.1 c.strike_next.new.auction.history c.strike_next.new.counts c.in-Some.struck in subst P (λ i. (v.setup i, here i)) c.in-Some.ensures.struck) in
    let pushed = c.push_reserved.ensures in let room = v.room in let count = v.count in
    record {
      setup = c.strike_next.ensures.setup ∙ v.setup;
      history_is = struck.after_is;
      counted = struck.counted;
      nets_are = pushed.items ∙ (ap (λ l. l ++ c.in-Some.struck ∷ []) v.nets_are ∙ sym (take_at (map nets_by history) n c.in-Some.struck struck.nets_are));
      count = omega (arith, pushed.len, count);
      room = omega (arith, pushed.capacity, room);
      fair = below_more _ _ v.fair struck.fair;
    }

pub returns : goal.returns
returns c =
    let v = c.loop-position.invariant in let history = c.args.history.now in let n = c.loop-position.position in
    let past = c.loop-position-test.false in let long = c.len-position-end.ensures.value in
    let whole : take n history ≡ history = all_taken history n (omega (arith, past, long)) in
    record {
      auction_is = λ i. record { setup = v.setup i; history = (v.history_is ∙ whole) i };
      nets_are = v.nets_are ∙ all_taken (map nets_by history) n (omega (arith, past, long, length-map history nets_by));
      fair = λ k e at. let inside = slice_get_within history k e at in v.fair k (omega (arith, inside, past, long)) e at;
    }

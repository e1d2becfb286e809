use Rattle.std.proofs.Common.{◌≡◌, ℕ, [], ◌∷◌, ◌++◌, map, replicate, ap, ◌∙◌, arith}
use Rattle.std.proofs.lemmas.List.{map_push, replicate_more}
use Rattle.floor.proofs.opening.empty_hands.Goals as goal

pub loop-preserved : goal.loop-preserved
loop-preserved c = record {
  bound = omega (arith, c.loop-test.true);
  empty = ap (map (λ hand. hand.items)) c.in-Ok.ensures.added ∙ (map_push (λ hand. hand.items) c.loop.hands.items c.new.result ∙ ((λ k. c.loop.invariant.empty k ++ c.new.ensures.items k ∷ []) ∙ replicate_more c.loop.counter []));
}

pub returns : goal.returns
returns c = let n : ℕ = c.loop.counter in let is : n ≡ 9 = omega (arith, c.loop-test.false, c.loop.invariant.bound) in c.loop.invariant.empty ∙ ap (λ (k : ℕ). replicate k []) is

use Rattle.std.proofs.Common.{◌≡◌, ◌≢◌, ℕ, get_or, map, ap, ◌∙◌, sym, arith}
use Rattle.std.proofs.lemmas.List.{length-map}
use Rattle.turn_lock.specs.Passes.{turns_left, made_by}
use Rattle.floor.proofs.Rows.{map_get}
use Rattle.floor.proofs.Desks.{agent_room}
use Rattle.floor.proofs.desk.Desk.ask.Goals as goal

pub call-position-requires-clause-cash_left : goal.call-position-requires-clause-cash_left
call-position-requires-clause-cash_left g c =
    let ps = c.args.self.now.passes.items in let kept = c.args.self.now.kept in let good : ℕ = c.args.good in let k : ℕ = c.place.result in
    let left : turns_left c.index.result.now ≡ get_or (map (λ q. turns_left q) ps) good 0 =
    sym (map_get (λ q. turns_left q) ps k c.index.result.now 0 (omega (arith, length-map ps (λ q. made_by q), kept.goods, c.place.ensures.range)) c.index.ensures)
    ∙ ap (λ (j : ℕ). get_or (map (λ q. turns_left q) ps) j 0) c.place.ensures.value in
    let some : c.left.result ≢ 0 = c.if-left-eq0.false in
    agent_room kept c.requires.agent good (omega (arith, c.place.ensures.value, c.place.ensures.range))
    (omega (arith, kept.capped good (omega (arith, c.place.ensures.value, c.place.ensures.range)), left, c.left.ensures, some))

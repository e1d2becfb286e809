use Rattle.std.proofs.Common.{rules, ◌<◌, ◌^◌, sym, subst}
use Rattle.std.specs.Prelude.{⊤}
use Rattle.std.specs.List.{AllByRecursion}
use Rattle.std.proofs.lemmas.Iterator.{cases_from_all, YieldsList-from_slice}
use Rattle.line_protocol.specs.declared.head.LogHead.{LogHead}
use Rattle.game_log.specs.Prelude.{head_of, IsVerdict, IsEnd, IsHead}
use Rattle.game_log.proofs.AllTrue.{all_true}
use Rattle.game_log.proofs.known.head_known.Goals as goal

pub returns-in-Serve-clause-numbers : goal.returns-in-Serve-clause-numbers
returns-in-Serve-clause-numbers c =
    let verdicts = c.deref.result.now in
    let ends = c.deref-in-Serve.result.now in
    let seats = all_true IsVerdict _ verdicts _ (cases_from_all _ _ _ IsVerdict (λ _. ⊤) c.all.ensures.ran (YieldsList-from_slice verdicts (search rules)) (λ x q k. search rules) (λ x q k. tt)) c.if-prove.false in
    let agents = all_true IsEnd _ ends _ (cases_from_all _ _ _ IsEnd (λ _. ⊤) c.all-in-Serve.ensures.ran (YieldsList-from_slice ends (search rules)) (λ x q k. search rules) (λ x q k. tt)) c.if-prove-2.false in
    let missed : c.in-Serve.missed < 2 ^ 64 = search rules in
    subst (λ (h : LogHead). IsHead (head_of h)) (sym c.in-Serve.is)
    (subst (AllByRecursion IsVerdict) c.deref.ensures.value seats, subst (AllByRecursion IsEnd) c.deref-in-Serve.ensures.value agents, missed)

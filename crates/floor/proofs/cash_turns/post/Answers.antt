use Rattle.std.proofs.Common.{◌≡◌, List, [], ◌∷◌, ◌++◌, map, length, ap, sym, ◌∙◌, arith, append-nil}
use Rattle.floor.specs.Prelude.{Post, Done, CashEntry, due_post, nets, made_by}
use Rattle.floor.proofs.Posts.{no_post, one_post}
use Rattle.floor.proofs.CashReplies.{post_is_done}
use Rattle.floor.proofs.cash_turns.post.Goals as goal

pub returns-then-struck-eq0-clause-posted : goal.returns-then-struck-eq0-clause-posted
returns-then-struck-eq0-clause-posted g c e is mine =
    let none = no_post e.trades (record { caller = e.caller; call = Post c.args.good c.args.position (record { dollars = nets e.trades }); reply = Done }) (ap (λ s. s.trades) is ∙ c.if-struck-eq0.true) in
    let made = made_by c.args.pass.now in
    ((0, sym (append-nil made) ∙ ap (λ (l : List CashEntry). made ++ map (λ x. (0, x)) l) (sym none)), let long : length (due_post c.args.good c.args.position e) ≡ 0 = ap length none in omega arith)

pub returns-clause-posted : goal.returns-clause-posted
returns-clause-posted g c e is mine =
    let made = made_by c.args.pass.now in let call = c.call.ensures.entry in
    let post : CashEntry = record { caller = e.caller; call = Post c.args.good c.args.position (record { dollars = nets e.trades }); reply = Done } in
    let one = one_post e.trades post (λ none. c.if-struck-eq0.false (sym (ap (λ s. s.trades) is) ∙ none)) in
    let asked : call.0.call ≡ post.call = call.2 ∙ ap (λ s. Post c.args.good c.args.position s.nets) (sym is) in
    let same : call.0 ≡ post = λ k. record { caller = (call.1 ∙ sym mine) k; call = asked k; reply = post_is_done call.5.before call.0 _ _ _ call.5.lawful asked k } in (
      (c.call.result.0, call.4 ∙ ap (λ (l : List CashEntry). made ++ map (λ x. (c.call.result.0, x)) l) (ap (λ (x : CashEntry). x ∷ []) same ∙ sym one)),
      let long : length (due_post c.args.good c.args.position e) ≡ 1 = ap length one in let left = c.call.ensures.own.2 in omega arith,
    )

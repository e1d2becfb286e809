use Rattle.std.proofs.Common.{ap}
use Rattle.script_run.specs.Prelude.{Post, Struck}
use Rattle.script_run.proofs.CashMore.{cash_more, no_posts, posted_is}
use Rattle.script_run.proofs.game.open_game.post.Goals as goal

pub returns-then-struck-eq0 : goal.returns-then-struck-eq0
returns-then-struck-eq0 c e mine is =
    no_posts c.args.cash.now c.args.good c.args.position c.args.struck.now.trades e c.if-struck-eq0.true (ap (λ (s : Struck). s.trades) is)

pub returns : goal.returns
returns c e mine is =
    let made = c.act.ensures.entry in
    posted_is c.args.cash.now c.act.new.self c.args.caller c.args.good c.args.position c.args.struck.now.trades c.args.struck.now.nets e c.if-struck-eq0.false
    (cash_more c.args.cash.now c.act.new.self c.args.caller (Post c.args.good c.args.position c.args.struck.now.nets) made.0 c.act.ensures.legal made.1 made.2 made.3)
    mine (ap (λ (s : Struck). s.nets.dollars) is) (ap (λ (s : Struck). s.trades) is)

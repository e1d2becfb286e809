use Rattle.std.proofs.Common.{◌≡◌, ◌++◌, [], ◌∷◌, List, reverse, ap, ◌∙◌, subst, OnOk, flat_map}
use Rattle.script_run.specs.{Reply, Trade, Entry, entry_of, Struck, asked}
use Rattle.script_run.specs.Replies as replies
use Rattle.game_log.specs.LogText as log
use Rattle.script_run.proofs.Running.{newest_trades}
use Rattle.script_run.proofs.hotel.run.call.Goals as goal

pub returns-clause-text : goal.returns-clause-text
returns-clause-text c =
    let before = c.args.auction.now in
    let e : Entry = entry_of before.setup (reverse before.history) (asked c.args.line.now).0 (asked c.args.line.now).1 in
    let same : entry_of before.setup (reverse before.history) c.caller.result c.call.result ≡ e = λ i. entry_of before.setup (reverse before.history) (c.caller.ensures i) (c.call.ensures.value i) in
    let traded : c.trades_of.result.now ≡ e.trades =
    newest_trades before.history c.act-struck.new.self.history e c.args.position c.trades_of.result.now (c.act-struck.ensures.appended ∙ ap (λ (x : Entry). before.history ++ x ∷ []) same) c.requires.place c.trades_of.ensures in
    let replied : c.act-struck.result.reply ≡ e.reply = ap (λ (s : Struck). s.reply) c.act-struck.ensures.struck ∙ ap (λ (x : Entry). x.reply) same in
    subst (λ (answered : Reply × List Trade). OnOk c.push_entry.result (c.push_entry.new.text.items ≡ c.args.text.now.items ++ (replies.positioned_reply_line c.args.position answered.0 ++ flat_map log.trade_line answered.1)))
    (λ i. (replied i, traded i)) c.push_entry.ensures

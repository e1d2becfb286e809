use Rattle.std.proofs.Common.{◌≡◌, List, map, Some, slice_get, refl, sym, ap, ◌∙◌, subst, arith, reverse}
use Rattle.auction_rules.specs.History.{Entry}
use Rattle.log_audit.specs.Prelude.{nets as nets_of, entry_of}
use Rattle.auction_core.specs.declared.entries.Struck.{Struck}
use Rattle.auction_core.proofs.Counting.{length-part}
use Rattle.log_audit.proofs.Struck.{newest_trades}
use Rattle.log_audit.proofs.replaying.strike.Goals as goal
use Rattle.log_audit.proofs.replaying.strike.Goals.{else-same_reply-via-then-same_reply+else-same_trades, else-same_reply-via-else-same_reply}

pub act-struck-requires-clause-room : goal.act-struck-requires-clause-room
act-struck-requires-clause-room c = omega (arith, length-part c.args.auction.now.history c.args.entry.now.caller, c.requires.room)

pub returns-then-same_trades-clause-same : goal.returns-then-same_trades-clause-same
returns-then-same_trades-clause-same c =
    let history = c.args.auction.now.history in let entry = c.args.entry.now in
    let e : Entry = entry_of c.args.auction.now.setup (reverse history) entry.caller entry.call in
    let newest : c.trades_of.result.now ≡ e.trades =
    newest_trades history e c.len-position.result c.trades_of.result.now c.len-position.ensures.value
    (subst (λ (h : List Entry). slice_get (map (λ (x : Entry). x.trades) h) c.len-position.result ≡ Some c.trades_of.result.now) c.act-struck.ensures.appended c.trades_of.ensures) in
    let replied = sym (c.same_reply.ensures.0 c.if-same_reply.true) ∙ ap (λ (s : Struck). s.reply) c.act-struck.ensures.struck in
    let traded = sym (c.same_trades.ensures.0 c.if-same_trades.true) ∙ newest in
    (λ some. (replied, traded), λ ruled. refl)

pub returns-then-same_trades-clause-nets : goal.returns-then-same_trades-clause-nets
returns-then-same_trades-clause-nets c =
    ap (λ (s : Struck). s.nets.dollars) c.act-struck.ensures.struck ∙ ap nets_of (sym ((returns-then-same_trades-clause-same c).0 refl).1)

pub returns-else-same_reply-clause-same : goal.returns-else-same_reply-clause-same
returns-else-same_reply-clause-same c =
    let history = c.args.auction.now.history in let entry = c.args.entry.now in
    let e : Entry = entry_of c.args.auction.now.setup (reverse history) entry.caller entry.call in (
      λ some. absurd cc,
      λ ruled. elim c.else-same_reply.branch [
        | else-same_reply-via-then-same_reply+else-same_trades w ↦
            (let newest : w.trades_of.result.now ≡ e.trades =
            newest_trades history e c.len-position.result w.trades_of.result.now c.len-position.ensures.value
            (subst (λ (h : List Entry). slice_get (map (λ (x : Entry). x.trades) h) c.len-position.result ≡ Some w.trades_of.result.now) c.act-struck.ensures.appended w.trades_of.ensures) in
            let yes = w.same_trades.ensures.1 (newest ∙ sym ruled.1) in let no = w.if-same_trades.false in absurd cc)
        | else-same_reply-via-else-same_reply w ↦
            (let yes = c.same_reply.ensures.1 (ap (λ (s : Struck). s.reply) c.act-struck.ensures.struck ∙ sym ruled.0) in let no = w.if-same_reply.false in absurd cc)
      ],
    )

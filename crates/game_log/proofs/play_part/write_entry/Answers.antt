use Rattle.std.proofs.Common.{◌≡◌, ◌∙◌, ℕ, List, ap, sym, map, Some, option_map, slice_get, flat_map}
use Rattle.std.proofs.lemmas.Option.{same_Some, slice_get-map}
use Rattle.tac_base.specs.declared.calls.Entry.{Entry as StoredEntry}
use Rattle.tac_base.specs.declared.calls.Call.{Call}
use Rattle.tac_base.specs.declared.calls.Reply.{Reply}
use Rattle.tac_base.specs.declared.calls.Trade.{Trade}
use Rattle.auction_rules.specs.History.{Entry}
use Rattle.auction_core.specs.Stored.{IsShown}
use Rattle.log_text.specs.LogText.{entry_line, trade_line}
use Rattle.game_log.proofs.Writing.{gathers_both, gathers_part}
use Rattle.game_log.proofs.play_part.write_entry.Goals as goal

-- the line of what is shown of an entry is the entry's
shown_line : (history : List Entry) (position : ℕ) (e : Entry) (shown : StoredEntry) → slice_get history position ≡ Some e → IsShown history position (Some shown) → entry_line shown.caller shown.call shown.reply ≡ entry_line e.caller e.call e.reply
shown_line history position e shown found shows =
    let same = same_Some shows.0 e (sym shows.1 ∙ found) in
    ap (λ (caller : ℕ). entry_line caller shown.call shown.reply) shows.2.caller
    ∙ ap (λ (call : Call). entry_line shows.0.caller call shown.reply) shows.2.call
    ∙ ap (λ (reply : Reply). entry_line shows.0.caller shows.0.call reply) shows.2.reply
    ∙ ap (λ (x : Entry). entry_line x.caller x.call x.reply) same

shown_trades : (history : List Entry) (position : ℕ) (e : Entry) (trades : List Trade) → slice_get history position ≡ Some e → slice_get (map (λ x. x.trades) history) position ≡ Some trades → trades ≡ e.trades
shown_trades history position e trades found shown =
    same_Some trades e.trades (sym shown ∙ slice_get-map (λ (x : Entry). x.trades) history position ∙ ap (option_map (λ (x : Entry). x.trades)) found)

pub returns-in-Ok : goal.returns-in-Ok
returns-in-Ok g c e found =
    let history = c.args.auction.now.history in
    let line = c.as_slice.ensures.value ∙ c.entry_line-line.ensures ∙ shown_line history c.args.position e c.in-Some.entry.now found c.in-Some.ensures in
    gathers_both _ _ (entry_line e.caller e.call e.reply) (flat_map trade_line e.trades) _ _ _ _ _ _ c.write_trades.result
    line (ap (flat_map trade_line) (shown_trades history c.args.position e c.trades_of.result.now found c.trades_of.ensures)) c.in-Ok.ensures c.write_trades.ensures

pub returns-in-Err : goal.returns-in-Err
returns-in-Err g c e found =
    let history = c.args.auction.now.history in
    let line = c.as_slice.ensures.value ∙ c.entry_line-line.ensures ∙ shown_line history c.args.position e c.in-Some.entry.now found c.in-Some.ensures in
    gathers_part _ (entry_line e.caller e.call e.reply) (flat_map trade_line e.trades) _ _ _ line c.in-Err.ensures

use Rattle.std.proofs.Common.{sym, ap, ◌∙◌, ◌==◌}
use Rattle.std.specs.List.{list_any}
use Rattle.tac_base.specs.declared.calls.Entry.{Entry as StoredEntry}
use Rattle.auction_rules.specs.History.{Entry}
use Rattle.log_audit.proofs.Stored.{stored_any}
use Rattle.log_audit.proofs.heads.is_in.Goals as goal

pub returns : goal.returns
returns c =
    let h = c.history.inside in
    c.has_entry.ensures ∙ (ap (list_any (λ (e : StoredEntry). e.caller == c.args.agent)) c.deref.ensures.value
    ∙ (sym (stored_any c.args.agent h.entries.items h.trades.items) ∙ ap (list_any (λ (e : Entry). e.caller == c.args.agent)) c.history.view_is))

use Rattle.std.proofs.Common.{◌≡◌, sym, ◌∙◌}
use Rattle.trade_ledger.specs.declared.cash_calls.CashReply.TheVariants.{Done, Cash}
use Rattle.floor.proofs.CashReplies.{reading_is_cash}
use Rattle.floor.proofs.cash_turns.read.Goals as goal

pub unreachable-requires : goal.unreachable-requires
unreachable-requires g c =
    let entry = c.call.ensures.entry in let cash = reading_is_cash entry.5.before entry.0 c.args.agent entry.5.lawful entry.2 in
    let never : Cash cash.0 ≡ Done = sym cash.1 ∙ (entry.3 ∙ c.in_default-Done.is-1) in absurd cc

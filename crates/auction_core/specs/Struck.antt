-- What a caller is answered of its entry.
use Rattle.std.specs.Prelude.{length}
use Rattle.auction_rules.specs.History.{Entry}
use Rattle.auction_rules.specs.Effects.{nets}
use Rattle.auction_core.specs.declared.entries.Struck.{Struck}

-- the reply of an entry, and the nets and the number of its trades
abbrev pub struck_of : Entry → Struck
struck_of e = record { reply = e.reply; nets = record { dollars = nets e.trades }; trades = length e.trades }

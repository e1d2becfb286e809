use Rattle.std.proofs.Common.{rules, ◌≡◌, ℕ, ◌<◌, ◌≤◌, List, [], ◌∷◌, ◌++◌, ℤ, length, reverse, sym, ap, ◌∙◌, subst, arith, vec_capacity}
use Rattle.tac_base.specs.declared.calls.Entry.{Entry as StoredEntry}
use Rattle.auction_core.specs.{Trade, nets, Follows, cap, IsLawful, entry_of, traded, part, held_after, AuctionHistory, IsAuctionSound, Stands, stored, entry_behind, struck_of, AreInRange}
use Rattle.auction_rules.specs.History.{Entry}
use Rattle.auction_rules.proofs.Histories.{entry_caller, entry_call}
use Rattle.auction_core.proofs.LawsHold.{Laws, laws_hold}
use Rattle.auction_core.proofs.Counting.{by}
use Rattle.auction_core.proofs.Telling.{call_ranged}
use Rattle.auction_core.proofs.Keeping.{few_stored, position_is, entries_fit, trades_fit, sound_more, history_more, few_by_call, small_holdings, struck_is}
use Rattle.auction_core.proofs.auction.AuctionKept.act.Goals as goal

pub overflow_cast-at : goal.overflow_cast-at
overflow_cast-at c =
    let a = c.self.inside in
    record { fits = omega (arith, c.len-at.ensures, a.entries.ok.0, few_stored a.terms a.book a.held a.entries.items a.trades.items c.self.invariant.kept) }

pub apply_all-requires-clause-small : goal.apply_all-requires-clause-small
apply_all-requires-clause-small c =
    let a = c.self.inside in small_holdings a.terms a.book a.held (stored a.entries.items a.trades.items) c.self.invariant.kept

pub apply_all-requires-clause-few : goal.apply_all-requires-clause-few
apply_all-requires-clause-few c =
    let a = c.self.inside in
    subst (λ (ts : List Trade). traded ts ≤ 400000) (sym c.as_slice-trades.ensures.value)
    (few_by_call a.terms a.book c.act-reply.new.self a.held (stored a.entries.items a.trades.items) c.act-reply.new.fills c.self.invariant.kept c.act-reply.ensures.units)

pub store-requires-clause-entry_room : goal.store-requires-clause-entry_room
store-requires-clause-entry_room c =
    let a = c.self.inside in
    let is : c.args.caller ≤ 8 = search rules in
    let room : length (part by (stored a.entries.items a.trades.items) c.args.caller) < cap c.args.caller =
    subst (λ (h : AuctionHistory). length (part by h.history c.args.caller) < cap c.args.caller) (sym c.self.view_is) c.requires.room in
    omega (
      arith,
      entries_fit a.terms a.book c.act-reply.new.self a.held a.entries.items a.trades.items _ _ c.args.caller c.args.call.now c.act-reply.result c.act-reply.new.fills c.self.invariant is room,
      a.entries.ok.0,
      c.self.invariant.entry_room,
    )

pub store-requires-clause-trade_room : goal.store-requires-clause-trade_room
store-requires-clause-trade_room c =
    let a = c.self.inside in
    let is : c.args.caller ≤ 8 = search rules in
    let room : length (part by (stored a.entries.items a.trades.items) c.args.caller) < cap c.args.caller =
    subst (λ (h : AuctionHistory). length (part by h.history c.args.caller) < cap c.args.caller) (sym c.self.view_is) c.requires.room in
    let fit = trades_fit a.terms a.book c.act-reply.new.self a.held a.entries.items a.trades.items _ _ c.args.caller c.args.call.now c.act-reply.result c.act-reply.new.fills c.self.invariant is room c.act-reply.ensures.units in
    omega (arith, fit, a.trades.ok.0, c.self.invariant.trade_room, ap (λ (ts : List Trade). length ts) c.as_slice-trades.ensures.value)

pub store-requires-clause-numbered : goal.store-requires-clause-numbered
store-requires-clause-numbered c =
    let a = c.self.inside in
    let is : c.args.caller ≤ 8 = search rules in
    let room : length (part by (stored a.entries.items a.trades.items) c.args.caller) < cap c.args.caller =
    subst (λ (h : AuctionHistory). length (part by h.history c.args.caller) < cap c.args.caller) (sym c.self.view_is) c.requires.room in
    let fit = trades_fit a.terms a.book c.act-reply.new.self a.held a.entries.items a.trades.items _ _ c.args.caller c.args.call.now c.act-reply.result c.act-reply.new.fills c.self.invariant is room c.act-reply.ensures.units in
    omega (arith, fit, a.trades.ok.0)

-- what the call left, and what was stored of it
follows : (c : goal.After-store) →
    Follows c.self.inside.terms (reverse (stored c.self.inside.entries.items c.self.inside.trades.items)) c.args.caller c.args.call.now c.act-reply.result c.act-reply.new.fills
    (Stands c.act-reply.new.self c.self.inside.terms)
follows c =
    let a = c.self.inside in
    let here : c.len-at.result ≡ length a.entries.items = omega (arith, c.len-at.ensures, a.entries.ok.0) in
    c.act-reply.ensures.follows a.terms (reverse (stored a.entries.items a.trades.items)) c.self.invariant.kept.stands c.self.invariant.kept.held (position_is a.entries.items a.trades.items c.len-at.result here)

entries_are : (c : goal.After-store) →
    c.store.new.entries.items ≡ c.self.inside.entries.items ++ entry_behind c.self.inside.trades.items c.args.caller c.args.call.now c.act-reply.result c.act-reply.new.fills ∷ []
entries_are c =
    c.store.ensures.entries
    ∙ (λ i. c.self.inside.entries.items ++ entry_behind c.self.inside.trades.items c.args.caller (c.copy-call.ensures.value i) c.act-reply.result (c.as_slice-trades.ensures.value i) ∷ [])

trades_are : (c : goal.After-store) → c.store.new.trades.items ≡ c.self.inside.trades.items ++ c.act-reply.new.fills
trades_are c = c.store.ensures.trades ∙ ap (λ (ts : List Trade). c.self.inside.trades.items ++ ts) c.as_slice-trades.ensures.value

pub invariant_of-self : goal.invariant_of-self
invariant_of-self c =
    let a = c.self.inside in
    let is : c.args.caller ≤ 8 = search rules in
    let room : length (part by (stored a.entries.items a.trades.items) c.args.caller) < cap c.args.caller =
    subst (λ (h : AuctionHistory). length (part by h.history c.args.caller) < cap c.args.caller) (sym c.self.view_is) c.requires.room in
    let few : length c.act-reply.new.fills ≤ 128 = omega (arith, ap length c.as_slice-trades.ensures.value, c.as_slice-trades.ensures.few) in
    let held_is : c.apply_all.new.held ≡ held_after a.held c.act-reply.new.fills = c.apply_all.ensures ∙ ap (held_after a.held) c.as_slice-trades.ensures.value in
    subst (λ (kept : List ℤ × List StoredEntry × List Trade × ℕ × ℕ). IsAuctionSound a.terms c.act-reply.new.self kept.0 kept.1 kept.2 kept.3 kept.4)
    (sym (λ i. (held_is i, entries_are c i, trades_are c i, c.store.ensures.entry_capacity i, c.store.ensures.trade_capacity i)))
    (sound_more a.terms a.book c.act-reply.new.self a.held a.entries.items a.trades.items (vec_capacity a.entries) (vec_capacity a.trades) c.args.caller c.args.call.now c.act-reply.result c.act-reply.new.fills c.self.invariant is room
    (follows c) c.act-reply.ensures.units few c.act-reply.ensures.short (call_ranged c.args.call.now c.copy-call.ensures.range c.requires.fit) c.copy.ensures.range)

pub returns-clause-legal : goal.returns-clause-legal
returns-clause-legal c = (invariant_of-self c).kept.legal

pub returns-clause-appended : goal.returns-clause-appended
returns-clause-appended c =
    let a = c.self.inside in
    let is : c.args.caller ≤ 8 = search rules in
    let room : length (part by (stored a.entries.items a.trades.items) c.args.caller) < cap c.args.caller =
    subst (λ (h : AuctionHistory). length (part by h.history c.args.caller) < cap c.args.caller) (sym c.self.view_is) c.requires.room in
    (λ i. stored (entries_are c i) (trades_are c i))
    ∙ (history_more a.terms a.book c.act-reply.new.self a.held a.entries.items a.trades.items (vec_capacity a.entries) (vec_capacity a.trades) c.args.caller c.args.call.now c.act-reply.result c.act-reply.new.fills c.self.invariant is room (follows c)
    ∙ ap (λ (h : AuctionHistory). h.history ++ entry_of h.setup (reverse h.history) c.args.caller c.args.call.now ∷ []) c.self.view_is)

pub returns-clause-struck : goal.returns-clause-struck
returns-clause-struck c =
    let a = c.self.inside in
    sym (struck_is a.terms (reverse (stored a.entries.items a.trades.items)) c.args.caller c.args.call.now c.act-reply.result c.copy.result c.act-reply.new.fills c.nets.result.dollars (length c.as_slice-trades.result.now)
    (Stands c.act-reply.new.self a.terms) (follows c) c.copy.ensures.value (c.nets.ensures ∙ ap nets c.as_slice-trades.ensures.value) (ap (λ (ts : List Trade). length ts) c.as_slice-trades.ensures.value))
    ∙ ap (λ (h : AuctionHistory). struck_of (entry_of h.setup (reverse h.history) c.args.caller c.args.call.now)) c.self.view_is

pub returns-clause-entry : goal.returns-clause-entry
returns-clause-entry c =
    let now = c.args.self.now in
    let past : List Entry = reverse now.history in
    (entry_of now.setup past c.args.caller c.args.call.now, returns-clause-appended c, entry_caller now.setup past c.args.caller c.args.call.now, entry_call now.setup past c.args.caller c.args.call.now, sym (returns-clause-struck c))

-- the laws of the auctions
the_laws : (c : goal.After-store) → Laws c.args.self.now (record { setup = c.self.inside.terms; history = stored c.store.new.entries.items c.store.new.trades.items })
the_laws c =
    let le : c.args.caller ≤ 8 = search rules in
    laws_hold c.args.self.now (record { setup = c.self.inside.terms; history = stored c.store.new.entries.items c.store.new.trades.items }) c.args.caller c.args.call.now
    (subst (λ (h : AuctionHistory). AreInRange h.setup.rules) c.self.view_is c.self.invariant.kept.ranged)
    (subst (λ (h : AuctionHistory). IsLawful h.setup (reverse h.history)) c.self.view_is c.self.invariant.kept.legal.lawful)
    le (ap (λ (h : AuctionHistory). h.setup) c.self.view_is) (returns-clause-appended c)

pub returns-clause-quote : goal.returns-clause-quote
returns-clause-quote c = (the_laws c).quote

pub returns-clause-closed : goal.returns-clause-closed
returns-clause-closed c = (the_laws c).closed

pub returns-clause-sells : goal.returns-clause-sells
returns-clause-sells c = (the_laws c).sells

pub returns-clause-sum : goal.returns-clause-sum
returns-clause-sum c = (the_laws c).sum

pub returns-clause-parties : goal.returns-clause-parties
returns-clause-parties c = (the_laws c).parties

pub returns-clause-price : goal.returns-clause-price
returns-clause-price c = (the_laws c).price

pub returns-clause-paid : goal.returns-clause-paid
returns-clause-paid c = (the_laws c).paid

pub returns-clause-uncrossed : goal.returns-clause-uncrossed
returns-clause-uncrossed c = (the_laws c).uncrossed

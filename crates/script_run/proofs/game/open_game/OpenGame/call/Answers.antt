use Rattle.std.proofs.Common.{◌≡◌, ℕ, ◌<◌, List, ◌++◌, length, reverse, set, sym, ap, ◌∙◌, subst}
use Rattle.script_run.specs.{Setup, Entry, cap, entries_of, entry_of, Struck, due_post, setup_of, past_at, called, SeenGame, setups_of, state_of}
use Rattle.auction_rules.proofs.Histories.{entry_caller}
use Rattle.script_run.proofs.OpenGames.{IsFound, found, room_there, one_past, one_setup, position_is, same_setups, called_is}
use Rattle.script_run.proofs.game.open_game.OpenGame.call.Goals as goal

pub act-struck-requires-clause-room : goal.act-struck-requires-clause-room
act-struck-requires-clause-room c =
    let is = found c.self.inside.game.now c.self.inside.auctions.items c.from.result c.get.result c.args.good c.index_mut-auction.result.now
    c.self.invariant.setups c.from.ensures c.get.ensures.value c.get.ensures.range c.index_mut-auction.ensures.value in
    room_there c.self.inside.auctions.items c.args.good c.index_mut-auction.result.now c.args.caller (cap c.args.caller) is
    (subst (λ (v : SeenGame). entries_of (past_at v.state.pasts c.args.good) c.args.caller < cap c.args.caller) (sym c.self.view_is) c.requires.room)

is : (c : goal.After-post) → IsFound c.self.inside.auctions.items c.args.good c.index_mut-auction.result.now
is c = found c.self.inside.game.now c.self.inside.auctions.items c.from.result c.get.result c.args.good c.index_mut-auction.result.now
    c.self.invariant.setups c.from.ensures c.get.ensures.value c.get.ensures.range c.index_mut-auction.ensures.value

place : (c : goal.After-post) → c.from.result ≡ c.args.good
place c = c.from.ensures ∙ c.get.ensures.value

past : (c : goal.After-post) → past_at c.args.self.now.state.pasts c.args.good ≡ reverse c.index_mut-auction.result.now.history
past c = ap (λ (v : SeenGame). past_at v.state.pasts c.args.good) (sym c.self.view_is)
    ∙ one_past c.self.inside.auctions.items c.args.good c.index_mut-auction.result.now (is c).inside (is c).here

setup : (c : goal.After-post) → c.index_mut-auction.result.now.setup ≡ setup_of c.args.good c.args.self.now.game
setup c = one_setup c.self.inside.game.now c.self.inside.auctions.items c.args.good c.index_mut-auction.result.now c.self.invariant.setups (is c).low (is c).here
    ∙ ap (λ (v : SeenGame). setup_of c.args.good v.game) c.self.view_is

pub invariant_of-self : goal.invariant_of-self
invariant_of-self c = record {
  setups = ap (λ (n : ℕ). setups_of (set c.self.inside.auctions.items n c.act-struck.new.self)) (place c)
      ∙ (same_setups c.self.inside.auctions.items c.args.good c.index_mut-auction.result.now c.act-struck.new.self (is c).here c.act-struck.ensures.setup ∙ c.self.invariant.setups);
  few = c.self.invariant.few;
}

abbrev entry : (c : goal.After-post) → Entry
entry c = entry_of c.index_mut-auction.result.now.setup (reverse c.index_mut-auction.result.now.history) c.args.caller c.args.call.now

posted : (c : goal.After-post) → c.post.new.cash ≡ c.self.inside.cash ++ due_post c.args.good (length c.index_mut-auction.result.now.history) (entry c)
posted c =
    c.post.ensures (entry c) (entry_caller c.index_mut-auction.result.now.setup (reverse c.index_mut-auction.result.now.history) c.args.caller c.args.call.now) c.act-struck.ensures.struck
    ∙ ap (λ (n : ℕ). c.self.inside.cash ++ due_post c.args.good n (entry c)) c.len-position.ensures.value

pub returns-clause-state : goal.returns-clause-state
returns-clause-state c =
    ap (λ (n : ℕ). state_of (set c.self.inside.auctions.items n c.act-struck.new.self) c.post.new.cash c.self.inside.ticks) (place c)
    ∙ (called_is c.self.inside.game.now c.self.inside.auctions.items c.self.inside.cash c.post.new.cash c.self.inside.ticks c.args.good c.args.caller c.args.call.now
    c.index_mut-auction.result.now c.act-struck.new.self c.self.invariant.setups (is c).low (is c).here c.act-struck.ensures.appended (posted c)
    ∙ ap (λ (v : SeenGame). called v.game c.args.caller c.args.good c.args.call.now v.state) c.self.view_is)

pub returns-clause-position : goal.returns-clause-position
returns-clause-position c =
    c.len-position.ensures.value
    ∙ (position_is c.self.inside.auctions.items c.args.good c.index_mut-auction.result.now (is c).inside (is c).here
    ∙ ap (λ (v : SeenGame). length (past_at v.state.pasts c.args.good)) c.self.view_is)

pub returns-clause-reply : goal.returns-clause-reply
returns-clause-reply c =
    ap (λ (s : Struck). s.reply) c.act-struck.ensures.struck
    ∙ (ap (λ (s : Setup). (entry_of s (reverse c.index_mut-auction.result.now.history) c.args.caller c.args.call.now).reply) (setup c)
    ∙ ap (λ (p : List Entry). (entry_of (setup_of c.args.good c.args.self.now.game) p c.args.caller c.args.call.now).reply) (sym (past c)))

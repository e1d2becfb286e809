-- The invariant of an auction, with one entry more.
use Rattle.std.proofs.Common.{Bool, true, false, cond, ◌==◌, ◌≡◌, ℕ, ◌+◌, ◌<◌, ◌≤◌, List, [], ◌∷◌, ◌++◌, length, reverse, get_or, refl, sym, ap, ◌∙◌, subst, arith, length-append, Option, Some, None, ℤ, pos, ◌+ℤ◌, ◌≤ℤ◌, All}
use Rattle.std.proofs.lemmas.Int.{ints}
use Rattle.std.proofs.lemmas.List.{reverse-append, length-map, length-reverse}
use Rattle.std.proofs.lemmas.List.Sums.{sum_by-append}
use Rattle.auction_core.specs.{Call, Reply, Trade, clock, IsCall, IsTrade, HasSmallNumbers, Setup, nets, net_units, all_trades, holding, refusal, entry_by, entry_of, reply_of, trades_of, entries_of, cap, Follows, traded, Spends, IsShort, part, IsWithin, held_after, IsHolding, IsEntry, IsToldInRange, Stands, units_left, held_by, entry_with, stored, entry_behind, struck_of, IsAuctionKept, IsAuctionSound}
use Rattle.tac_base.specs.declared.calls.Entry.{Entry as StoredEntry}
use Rattle.auction_rules.specs.History.{Entry}
use Rattle.std.specs.List.{AllByRecursion}
use Rattle.auction_core.proofs.Dealing.{IsDealt, all_dealt}
use Rattle.auction_core.proofs.Telling.{AreBids, reply_ranged, told_in_range}
use Rattle.auction_rules.proofs.Lists.{all-append}
use Rattle.auction_rules.proofs.Trading.{length_le}
use Rattle.trade_ledger.proofs.Trading.{get_or-nine, nine_numbers}
use Rattle.auction_core.specs.declared.book.Book.{Book}
use Rattle.auction_core.proofs.Answering.{held_is}
use Rattle.auction_core.proofs.Counting.{by, length-part, called_snoc, capped_snoc, few_entries, room_for}
use Rattle.auction_core.proofs.Holding.{net_units-append, net_units_within}
use Rattle.auction_core.proofs.Chains.{stored_more, stores_more}

-- how many units of the good the party holds at first
abbrev endowment : Setup → ℕ → ℤ
endowment setup party = cond (party == 8) (pos 0) (get_or setup.endow party (pos 0))

-- the entry of the rules, field by field
entry_by_is : (setup : Setup) (past : List Entry) (caller : ℕ) (call : Call) (r : Option Reply) →
    entry_by setup past caller call r ≡ record { caller = caller; call = call; reply = (entry_by setup past caller call r).reply; trades = (entry_by setup past caller call r).trades }
entry_by_is setup past caller call None = refl
entry_by_is setup past caller call (Some reply) = refl

pub entry_is : (setup : Setup) (past : List Entry) (caller : ℕ) (call : Call) →
    entry_of setup past caller call ≡ record { caller = caller; call = call; reply = reply_of setup past caller call; trades = trades_of setup past caller call }
entry_is setup past caller call = entry_by_is setup past caller call (refusal setup.rules past caller call)

-- the holdings after an entry
pub held_next : (setup : Setup) (past : List Entry) (e : Entry) → held_after (held_by setup past) e.trades ≡ held_by setup (e ∷ past)
held_next setup past e =
    nine_numbers (holding setup (e ∷ past)) (held_after (held_by setup past) e.trades) refl
    (λ party lt. get_or-nine (λ k. get_or (held_by setup past) k (pos 0) +ℤ net_units e.trades k) party (omega arith)
    ∙ (ap (λ (z : ℤ). z +ℤ net_units e.trades party) (get_or-nine (holding setup past) party (omega arith))
    ∙ (regroup (endowment setup party) (net_units (all_trades past) party) (net_units e.trades party)
    ∙ ap (λ (z : ℤ). endowment setup party +ℤ z) (sym (net_units-append e.trades (all_trades past) party)))))
  where
    regroup : (a b c : ℤ) → (a +ℤ b) +ℤ c ≡ a +ℤ (c +ℤ b)
    regroup a b c = omega (arith, ints)

-- ---- room

-- no more units are traded than the entries allow
pub few_traded : (setup : Setup) (book : Book) (held : List ℤ) (history : List Entry) → IsAuctionKept setup book held history → traded (all_trades (reverse history)) ≤ 132224
few_traded setup book held history keeps = let few = keeps.few in omega (arith, few, few_entries history keeps.legal.called keeps.legal.capped)

-- the holdings of the agents stay in their range
pub in_range : (setup : Setup) (book : Book) (held : List ℤ) (history : List Entry) (party : ℕ) → IsAuctionKept setup book held history → IsHolding (holding setup (reverse history) party)
in_range setup book held history party keeps =
    sum (endowment setup party) (net_units (all_trades (reverse history)) party) (at_first (party == 8))
    (net_units_within (all_trades (reverse history)) party 132224 (few_traded setup book held history keeps))
  where
    sum : (a b : ℤ) → (pos 0 ≤ℤ a) × (a ≤ℤ pos 16) → IsWithin 132224 b → IsHolding (a +ℤ b)
    sum a b h k = (omega (arith, ints, h.0, k.0), omega (arith, ints, h.1, k.1))

    at_first : (b : Bool) → (pos 0 ≤ℤ cond b (pos 0) (get_or setup.endow party (pos 0))) × (cond b (pos 0) (get_or setup.endow party (pos 0)) ≤ℤ pos 16)
    at_first true = (omega (arith, ints), omega (arith, ints))
    at_first false = keeps.endowed party

-- ---- what a log can show

-- each bid of the past is within its limits
past_bids : (good : ℕ) (history : List Entry) → AllByRecursion (IsEntry good) history → AreBids (reverse history)
past_bids good [] h = tt
past_bids good (e ∷ history) h = subst AreBids (sym (reverse-append (e ∷ []) history)) (all-append (λ x. IsCall x.call) (reverse history) (e ∷ []) (past_bids good history h.1) (h.0.call, tt))

-- one entry more
pub kept_more : (setup : Setup) (book book' : Book) (held : List ℤ) (history : List Entry) (e : Entry) (call : Call) → IsAuctionKept setup book held history → e.caller ≤ clock →
    entries_of history e.caller < cap e.caller → e ≡ entry_of setup (reverse history) e.caller e.call → Stands book' setup (e ∷ reverse history) →
    Spends (units_left book + 16) (units_left book') e.trades → length e.trades ≤ 128 → All IsShort e.trades → IsCall e.call → HasSmallNumbers e.reply →
    IsAuctionKept setup book' (held_after held e.trades) (history ++ e ∷ [])
kept_more setup book book' held history e call keeps is room rule stands spends few short called numbers =
    let past : reverse (history ++ e ∷ []) ≡ e ∷ reverse history = reverse-append history (e ∷ []) in
    record {
      ranged = keeps.ranged;
      endowed = keeps.endowed;
      legal = record {
        lawful = rw past (rule, keeps.legal.lawful);
        called = called_snoc history e keeps.legal.called is;
        capped = capped_snoc history e keeps.legal.capped room;
      };
      stands = rw past stands;
      held = ap (λ (h : List ℤ). held_after h e.trades) keeps.held ∙ (held_next setup (reverse history) e ∙ ap (held_by setup) (sym past));
      few = rw past (let old = keeps.few in let spent = spends.few in omega (arith, old, spent, sum_by-append (λ (t : Trade). t.units) e.trades (all_trades (reverse history)), length-append history (e ∷ [])));
      loggable = all-append (IsEntry setup.good) history (e ∷ []) keeps.loggable (
        record {
          caller = is;
          call = called;
          reply = reply_ranged e.reply numbers told;
          few = few;
          trades = λ k d inside. trade_is (get_or e.trades k d) (short k d inside) (dealt k d inside);
        },
        tt,
      );
      told = all-append (λ x. IsToldInRange x.reply) history (e ∷ []) keeps.told (told, tt);
    }
  where
    told : IsToldInRange e.reply
    told = rw rule (told_in_range (reverse history) (past_bids setup.good history keeps.loggable) e.caller setup e.call (in_range setup book held history e.caller keeps))

    dealt : All (IsDealt setup.good) e.trades
    dealt = rw rule (all_dealt setup (reverse history) e.caller e.call is)

    trade_is : (t : Trade) → IsShort t → IsDealt setup.good t → IsTrade setup.good t
    trade_is t few is = record { good_is = is.good_is; buyer = is.buyer; seller = is.seller; some = few.some; few = few.few; price = few.priced }

pub few_stored : (setup : Setup) (book : Book) (held : List ℤ) (entries : List StoredEntry) (trades : List Trade) → IsAuctionKept setup book held (stored entries trades) → length entries ≤ 8256
few_stored setup book held entries trades keeps =
    omega (arith, few_entries (stored entries trades) keeps.legal.called keeps.legal.capped, length-map entries (entry_with trades))

-- the position of the next entry
pub position_is : (entries : List StoredEntry) (trades : List Trade) (n : ℕ) → n ≡ length entries → n ≡ length (reverse (stored entries trades))
position_is entries trades n is = omega (arith, is, length-map entries (entry_with trades), length-reverse (stored entries trades))

-- ---- a call that follows the rules

module _ (setup : Setup) (book book' : Book) (held : List ℤ) (entries : List StoredEntry) (trades : List Trade) (entry_room trade_room caller : ℕ) (call : Call) (reply : Reply) (more : List Trade) where
  abbrev past : List Entry
  past = reverse (stored entries trades)

  abbrev new : Entry
  new = record { caller = caller; call = call; reply = reply; trades = more }

  -- its entry is the one of the rules
  pub new_is : Follows setup past caller call reply more (Stands book' setup) → new ≡ entry_of setup past caller call
  new_is follows = (λ i. record { caller = caller; call = call; reply = follows.replied i; trades = follows.traded i }) ∙ sym (entry_is setup past caller call)

  module _ (sound : IsAuctionSound setup book held entries trades entry_room trade_room) (is : caller ≤ clock) (room : length (part by (stored entries trades) caller) < cap caller) where
    mine : entries_of (stored entries trades) caller < cap caller
    mine = omega (arith, room, length-part (stored entries trades) caller)

    pub entries_fit : length entries < 8256
    entries_fit =
        let keeps = sound.kept in
        omega (arith, room_for (stored entries trades) new keeps.legal.called is keeps.legal.capped mine, length-map entries (entry_with trades))

    pub trades_fit : Spends (units_left book + 16) (units_left book') more → length trades + length more ≤ 132224
    trades_fit spends =
        let few = sound.kept.few in let some = sound.stored.some in let spent = spends.few in
        omega (arith, few, some, spent, length_le more spends.some, entries_fit, length-map entries (entry_with trades))

    pub sound_more : Follows setup past caller call reply more (Stands book' setup) → Spends (units_left book + 16) (units_left book') more → length more ≤ 128 → All IsShort more →
        IsCall call → HasSmallNumbers reply → IsAuctionSound setup book' (held_after held more) (entries ++ entry_behind trades caller call reply more ∷ []) (trades ++ more) entry_room trade_room
    sound_more follows spends few short called numbers =
        let is_new = new_is follows in
        record {
          kept = subst (IsAuctionKept setup book' (held_after held more)) (sym (stored_more entries trades more caller call reply sound.stored))
              (kept_more setup book book' held (stored entries trades) new call sound.kept is mine is_new (subst (λ (e : Entry). Stands book' setup (e ∷ past)) (sym is_new) follows.stands) spends few short called numbers);
          stored = stores_more entries trades more caller call reply sound.stored spends.some;
          entry_room = sound.entry_room;
          trade_room = sound.trade_room;
        }

    pub history_more : Follows setup past caller call reply more (Stands book' setup) →
        stored (entries ++ entry_behind trades caller call reply more ∷ []) (trades ++ more) ≡ stored entries trades ++ entry_of setup past caller call ∷ []
    history_more follows = stored_more entries trades more caller call reply sound.stored ∙ ap (λ (e : Entry). stored entries trades ++ e ∷ []) (new_is follows)

-- few units are traded by one call
pub few_by_call : (setup : Setup) (book book' : Book) (held : List ℤ) (history : List Entry) (more : List Trade) → IsAuctionKept setup book held history → Spends (units_left book + 16) (units_left book') more → traded more ≤ 400000
few_by_call setup book book' held history more keeps spends =
    let few = keeps.few in let spent = spends.few in omega (arith, few, spent, few_entries history keeps.legal.called keeps.legal.capped)

-- no holding is large
pub small_holdings : (setup : Setup) (book : Book) (held : List ℤ) (history : List Entry) → IsAuctionKept setup book held history → (party : ℕ) → party ≤ 8 → IsWithin 400000 (get_or held party (pos 0))
small_holdings setup book held history keeps party le =
    let range = in_range setup book held history party keeps in
    let is = held_is setup (reverse history) held party le keeps.held in
    (omega (arith, ints, range.0, is), omega (arith, ints, range.1, is))

-- the answer of an entry that follows the rules
pub struck_is : (setup : Setup) (past : List Entry) (caller : ℕ) (call : Call) (reply told : Reply) (more : List Trade) (gains : List ℤ) (count : ℕ) (StandsAfter : List Entry → Type 0) →
    Follows setup past caller call reply more StandsAfter → told ≡ reply → gains ≡ nets more → count ≡ length more →
    struck_of (entry_of setup past caller call) ≡ record { reply = told; nets = record { dollars = gains }; trades = count }
struck_is setup before caller call reply told more gains count StandsAfter follows same gained counted =
    let traded_is = follows.traded in
    sym (λ i. record {
      reply = (same ∙ follows.replied) i;
      nets = record { dollars = (gained ∙ ap nets traded_is) i };
      trades = (counted ∙ ap (λ (ts : List Trade). length ts) traded_is) i;
    })

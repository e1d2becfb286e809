-- The rules over the units that stand before a call, and the rules over a past, give the same entries; so the same histories are legal.
use Rattle.std.proofs.Common.{◌≡◌, ℕ, ◌≤◌, Bool, true, false, cond, List, [], ◌∷◌, length, refl, sym, ap, ◌∙◌, subst, arith, Option, Some, None, ◌&&◌, ◌||◌, ◌==◌, if◌then◌else◌, reverse}
use Rattle.std.specs.List.{AllByRecursion}
use mathlib.Core.List.{reverse_aux}
use Rattle.std.proofs.lemmas.Bool.Decides.{nat_tests}
use Rattle.auction_rules.specs.{Point, Trade, Call, Reply, Closed, WrongCall, clock, Entry, is_admission, is_bid, is_close, is_closed, arriving, stand, ask, refusal, call_refusal, is_wrong_place, trades_by, close_reply, admitted_reply, entry_by, entry_of, IsLawful, current_bids, placed_bids, by_position, holding}
use Rattle.auction_rules.specs.BookHotels.{published}
use Rattle.auction_rules.specs.Ask.{publishes, published_price}
use Rattle.auction_rules.specs.BookRules.{Legal}
use Rattle.auction_rules.specs.Refusals.{other_refusal, first_refusal}
use Rattle.auction_rules.specs.Standing.{standing_units}
use Rattle.auction_rules.specs.Legal.{call_trades, closing_reply, call_reply, entry_due, AreDueEntries, IsLegalHistory}
use Rattle.tac_base.specs.declared.calls.Reply.TheVariants.{Sold, Own}
use Rattle.tac_base.specs.declared.calls.Call.TheVariants.{Bid, Withdraw, Own as OwnCall, Update, Publish, Close}
use Rattle.auction_rules.specs.declared.units.BidUnit.{BidUnit}
use Rattle.auction_rules.specs.declared.rules.Rules.{Rules}
use Rattle.auction_rules.specs.declared.rules.Rules.TheVariants.{Flight as FlightRules, Hotel as HotelRules, Tickets as TicketRules}
use Rattle.auction_rules.specs.Setup.{Setup}
use Rattle.auction_rules.proofs.SameStanding.{standing_same}
use Rattle.auction_rules.proofs.SamePairs.{trades_same}
use Rattle.auction_rules.proofs.SameSales.{sales_same}
use Rattle.auction_rules.proofs.SameBids.{is_agents, ByAgents, current_same, points_same}
use Rattle.auction_rules.proofs.SameHotels.{AllBuy, winning_same, sold_same, closing_same, admitted_none, hotel_buys}

pub published_same : (rooms : ℕ) (live : Bool) (past : List Entry) → published_price rooms live past ≡ published rooms live past
published_same rooms live [] = refl
published_same rooms live (e ∷ past) = λ i.
    cond (is_admission e.reply && publishes e.call) (ask rooms (standing_same (HotelRules rooms live) past i))
    (cond (is_admission e.reply && (is_bid e.call && live)) (ask rooms (standing_same (HotelRules rooms live) (e ∷ past) i)) (published_same rooms live past i))

-- in a hotel all standing units buy
abbrev HotelBuys : Rules → List Entry → Type 0
HotelBuys rules past = (rooms : ℕ) (live : Bool) → rules ≡ HotelRules rooms live → AllBuy (stand rules past)

buys_if_lawful : (setup : Setup) (past : List Entry) → IsLawful setup past → HotelBuys setup.rules past
buys_if_lawful setup past lawful rooms live is =
    let hotel : IsLawful (record { good = setup.good; rules = HotelRules rooms live; endow = setup.endow }) past =
    subst (λ (r : Rules). IsLawful (record { good = setup.good; rules = r; endow = setup.endow }) past) is lawful in
    subst (λ (r : Rules). AllBuy (stand r past)) (sym is) (subst AllBuy (standing_same (HotelRules rooms live) past) (hotel_buys setup.good rooms live setup.endow past hotel))

-- the current bids are the last bids in the order of their positions
abbrev IsOrdered : List Entry → Type 0
IsOrdered past = current_bids past ≡ by_position (placed_bids past) (length past)

call_refusal_same : (rules : Rules) (past : List Entry) (caller : ℕ) (call : Call) → HotelBuys rules past → other_refusal rules past (stand rules past) caller call ≡ call_refusal rules past caller call
call_refusal_same (FlightRules first bound) past caller (Bid points) buys = refl
call_refusal_same (FlightRules first bound) past caller Withdraw buys = refl
call_refusal_same (FlightRules first bound) past caller OwnCall buys = refl
call_refusal_same (FlightRules first bound) past caller (Update tick draw) buys = refl
call_refusal_same (FlightRules first bound) past caller Publish buys = refl
call_refusal_same (FlightRules first bound) past caller Close buys = refl
call_refusal_same (HotelRules rooms live) past caller (Bid points) buys = rw (winning_same rooms (stand (HotelRules rooms live) past) caller (buys rooms live refl), published_same rooms live past) refl
call_refusal_same (HotelRules rooms live) past caller Withdraw buys = refl
call_refusal_same (HotelRules rooms live) past caller OwnCall buys = refl
call_refusal_same (HotelRules rooms live) past caller (Update tick draw) buys = refl
call_refusal_same (HotelRules rooms live) past caller Publish buys = refl
call_refusal_same (HotelRules rooms live) past caller Close buys = refl
call_refusal_same TicketRules past caller (Bid points) buys = refl
call_refusal_same TicketRules past caller Withdraw buys = refl
call_refusal_same TicketRules past caller OwnCall buys = refl
call_refusal_same TicketRules past caller (Update tick draw) buys = refl
call_refusal_same TicketRules past caller Publish buys = refl
call_refusal_same TicketRules past caller Close buys = refl

refusal_same : (rules : Rules) (past : List Entry) (caller : ℕ) (call : Call) → HotelBuys rules past → first_refusal rules past (stand rules past) caller call ≡ refusal rules past caller call
refusal_same rules past caller call buys = rw (call_refusal_same rules past caller call buys) refl

trades_are : (rules : Rules) (good : ℕ) (past : List Entry) (caller : ℕ) (call : Call) → HotelBuys rules past → IsOrdered past → (is_agents call ≡ true → caller ≤ 7) →
    call_trades rules good past (stand rules past) caller call ≡ trades_by rules good past caller call
trades_are (FlightRules first bound) good past caller call buys ordered agent = sales_same first bound good past caller call (λ points is. agent (ap is_agents is)) ordered
trades_are (HotelRules rooms live) good past caller call buys ordered agent = ap (λ (trades : List Trade). if is_close call then trades else []) (closing_same good rooms (stand (HotelRules rooms live) past) (buys rooms live refl))
trades_are TicketRules good past caller call buys ordered agent = trades_same good (stand TicketRules past) (arriving (length past) caller call)

close_is : (rules : Rules) (past : List Entry) → HotelBuys rules past → closing_reply rules (stand rules past) ≡ close_reply rules past
close_is (FlightRules first bound) past buys = refl
close_is (HotelRules rooms live) past buys =
    ap (λ (n : ℕ). Sold n (ask rooms (stand (HotelRules rooms live) past))) (sold_same rooms (stand (HotelRules rooms live) past) (buys rooms live refl))
close_is TicketRules past buys = refl

reply_is : (setup : Setup) (past : List Entry) (caller : ℕ) (call : Call) (trades : List Trade) → HotelBuys setup.rules past → IsOrdered past → (is_agents call ≡ true → caller ≤ 7) → trades ≡ trades_by setup.rules setup.good past caller call →
    call_reply setup past (stand setup.rules past) caller call trades ≡ admitted_reply setup past caller call
reply_is setup past caller (Bid points) trades buys ordered agent same = rw same refl
reply_is setup past caller Withdraw trades buys ordered agent same = refl
reply_is setup past caller OwnCall trades buys ordered agent same = ap (λ (points : List Point). Own (holding setup past caller) points) (points_same past (stand setup.rules past) caller (agent refl) ordered)
reply_is setup past caller (Update tick draw) trades buys ordered agent same = refl
reply_is setup past caller Publish trades buys ordered agent same = refl
reply_is setup past caller Close trades buys ordered agent same = close_is setup.rules past buys

-- the clock's calls of this kind are refused
alone : (caller : ℕ) (a c p : Bool) (rest : Option Reply) → caller ≤ clock → (caller == clock) ≡ c → cond a (Some Closed) (cond (c || p) (Some WrongCall) rest) ≡ None → caller ≤ 7
alone caller true c p rest le differs h = absurd cc
alone caller false true p rest le same h = absurd cc
alone caller false false p rest le differs h = grind (arith, nat_tests)

agents_alone : (rules : Rules) (past : List Entry) (caller : ℕ) (call : Call) → caller ≤ clock → refusal rules past caller call ≡ None → is_agents call ≡ true → caller ≤ 7
agents_alone rules past caller (Bid points) le none is =
    alone caller (is_closed past) (caller == clock) (is_wrong_place rules (Bid points)) (call_refusal rules past caller (Bid points)) le refl none
agents_alone rules past caller Withdraw le none is = alone caller (is_closed past) (caller == clock) (is_wrong_place rules Withdraw) (call_refusal rules past caller Withdraw) le refl none
agents_alone rules past caller OwnCall le none is = alone caller false (caller == clock) (is_wrong_place rules OwnCall) (call_refusal rules past caller OwnCall) le refl none
agents_alone rules past caller (Update tick draw) le none is = absurd cc
agents_alone rules past caller Publish le none is = absurd cc
agents_alone rules past caller Close le none is = absurd cc

by_agents : (setup : Setup) (past : List Entry) → AllByRecursion (λ e. e.caller ≤ clock) past → IsLawful setup past → ByAgents past
by_agents setup [] called lawful = tt
by_agents setup (e ∷ past) called lawful =
    (λ admitted agent. agents_alone setup.rules past e.caller e.call called.0 (admitted_none setup past e lawful.0 admitted) agent, by_agents setup past called.1 lawful.1)

-- the entry of a call: refused, or admitted with its trades
abbrev given : Setup → List Entry → List BidUnit → ℕ → Call → Option Reply → Entry
given setup past standing caller call (Some refused) = record { caller = caller; call = call; reply = refused; trades = [] }
given setup past standing caller call None =
    let trades = call_trades setup.rules setup.good past standing caller call in
    record { caller = caller; call = call; reply = call_reply setup past standing caller call trades; trades = trades }

given_due : (setup : Setup) (past : List Entry) (standing : List BidUnit) (caller : ℕ) (call : Call) (r : Option Reply) →
    let trades = call_trades setup.rules setup.good past standing caller call in
    elim r as (λ _. Entry) [
      | Some refused ↦ record { caller = caller; call = call; reply = refused; trades = [] }
      | None ↦ record { caller = caller; call = call; reply = call_reply setup past standing caller call trades; trades = trades }
    ] ≡ given setup past standing caller call r
given_due setup past standing caller call (Some refused) = refl
given_due setup past standing caller call None = refl

entry_by_same : (setup : Setup) (past : List Entry) (caller : ℕ) (call : Call) (r : Option Reply) → HotelBuys setup.rules past → IsOrdered past → caller ≤ clock → refusal setup.rules past caller call ≡ r →
    given setup past (stand setup.rules past) caller call r ≡ entry_by setup past caller call r
entry_by_same setup past caller call (Some reply) buys ordered le is = refl
entry_by_same setup past caller call None buys ordered le is =
    let agent : is_agents call ≡ true → caller ≤ 7 = agents_alone setup.rules past caller call le is in
    let same = trades_are setup.rules setup.good past caller call buys ordered agent in
    λ i. record { caller = caller; call = call; reply = reply_is setup past caller call (call_trades setup.rules setup.good past (stand setup.rules past) caller call) buys ordered agent same i; trades = same i }

pub entry_same : (setup : Setup) (past : List Entry) (caller : ℕ) (call : Call) → caller ≤ clock → AllByRecursion (λ e. e.caller ≤ clock) past → IsLawful setup past → entry_due setup past caller call ≡ entry_of setup past caller call
entry_same setup past caller call le called lawful =
    given_due setup past (standing_units setup.rules past) caller call (first_refusal setup.rules past (standing_units setup.rules past) caller call)
    ∙ ap (λ (units : List BidUnit). given setup past units caller call (first_refusal setup.rules past units caller call)) (standing_same setup.rules past)
    ∙ ap (given setup past (stand setup.rules past) caller call) (refusal_same setup.rules past caller call (buys_if_lawful setup past lawful))
    ∙ entry_by_same setup past caller call (refusal setup.rules past caller call) (buys_if_lawful setup past lawful) (current_same past (by_agents setup past called lawful)) le refl

pub entries_due : (setup : Setup) (past : List Entry) → AllByRecursion (λ e. e.caller ≤ clock) past → IsLawful setup past → AreDueEntries setup past
entries_due setup [] called lawful = tt
entries_due setup (e ∷ past) called lawful = (lawful.0 ∙ sym (entry_same setup past e.caller e.call called.0 called.1 lawful.1), entries_due setup past called.1 lawful.1)

pub lawful_by_book : (setup : Setup) (past : List Entry) → AllByRecursion (λ e. e.caller ≤ clock) past → AreDueEntries setup past → IsLawful setup past
lawful_by_book setup [] called lawful = tt
lawful_by_book setup (e ∷ past) called lawful =
    let before = lawful_by_book setup past called.1 lawful.1 in (lawful.0 ∙ entry_same setup past e.caller e.call called.0 called.1 before, before)

reversed_onto : (P : Entry → Type 0) (history back : List Entry) → AllByRecursion P history → AllByRecursion P back → AllByRecursion P (reverse_aux history back)
reversed_onto P [] back h k = k
reversed_onto P (e ∷ history) back h k = reversed_onto P history (e ∷ back) h.1 (h.0, k)

reversed : (P : Entry → Type 0) (history : List Entry) → AllByRecursion P history → AllByRecursion P (reverse history)
reversed P history h = reversed_onto P history [] h tt

-- the same histories are legal
pub legal_history : (setup : Setup) (history : List Entry) → Legal setup history → IsLegalHistory setup history
legal_history setup history legal = record {
  lawful = entries_due setup (reverse history) (reversed (λ e. e.caller ≤ clock) history legal.called) legal.lawful;
  called = legal.called;
  capped = legal.capped;
}

pub legal_by_book : (setup : Setup) (history : List Entry) → IsLegalHistory setup history → Legal setup history
legal_by_book setup history legal = record {
  lawful = lawful_by_book setup (reverse history) (reversed (λ e. e.caller ≤ clock) history legal.called) legal.lawful;
  called = legal.called;
  capped = legal.capped;
}

-- One call of a book: what has to be shown so that it follows the rules.
use Rattle.std.proofs.Common.{◌≡◌, ℕ, Bool, true, false, List, [], ◌∷◌, refl, sym, ap, ◌∙◌, subst, Option, Some, None, IfSome, if◌then◌else◌, not, ◌&&◌, ◌||◌, nat_lt}
use Rattle.auction_rules.specs.{Point, Trade, Call, Reply, Closed, WrongCall, NoBid, Sell, SelfCross, BelowQuote, Entry, is_admission, is_own, is_closed, need, quote_to_beat, offered, is_wrong_caller, is_wrong_place, sells, crosses_itself, has_standing, bid_refusal, call_refusal, refusal, entry_of, admitted_reply, admitted_trades}
use Rattle.tac_base.specs.declared.calls.Call.TheVariants.{Bid, Withdraw, Own as OwnCall, Update, Publish, Close}
use Rattle.auction_rules.specs.Setup.{Setup}
use Rattle.auction_rules.specs.declared.rules.Rules.{Rules}
use Rattle.auction_rules.specs.declared.rules.Rules.TheVariants.{Flight as FlightRules, Hotel as HotelRules, Tickets as TicketRules}
use Rattle.auction_rules.specs.Follows.{Follows}

-- the entry of a refused call
abbrev pub refused_entry : ℕ → Call → Reply → Entry
refused_entry caller call reply = record { caller = caller; call = call; reply = reply; trades = [] }

pub entry_refused : (setup : Setup) (past : List Entry) (caller : ℕ) (call : Call) (reply : Reply) → refusal setup.rules past caller call ≡ Some reply →
    entry_of setup past caller call ≡ refused_entry caller call reply
entry_refused setup past caller call reply h = rw h

-- the entry of an admitted one
pub entry_admitted : (setup : Setup) (past : List Entry) (caller : ℕ) (call : Call) → refusal setup.rules past caller call ≡ None →
    entry_of setup past caller call ≡ record { caller = caller; call = call; reply = admitted_reply setup past caller call; trades = admitted_trades setup past caller call }
entry_admitted setup past caller call h = rw h

-- a call follows the rules if its entry is theirs
pub follows : (setup : Setup) (past : List Entry) (caller : ℕ) (call : Call) (e : Entry) (reply : Reply) (trades : List Trade) (Stands : List Entry → Type 0) →
    entry_of setup past caller call ≡ e → reply ≡ e.reply → trades ≡ e.trades → Stands (e ∷ past) → Follows setup past caller call reply trades Stands
follows setup past caller call e reply trades Stands entry replied traded stands = record {
  replied = replied ∙ ap (λ (x : Entry). x.reply) (sym entry);
  traded = traded ∙ ap (λ (x : Entry). x.trades) (sym entry);
  stands = subst (λ (x : Entry). Stands (x ∷ past)) (sym entry) stands;
}

-- ---- what refuses a call is a refusal

abbrev Refuses : Option Reply → Type 0
Refuses r = IfSome r (λ reply. is_admission reply ≡ false)

either : (b : Bool) (r s : Option Reply) → Refuses r → Refuses s → Refuses (if b then r else s)
either true r s h k = h
either false r s h k = k

bid_refuses : (rules : Rules) (past : List Entry) (caller : ℕ) (points : List Point) → Refuses (bid_refusal rules past caller points)
bid_refuses (FlightRules first bound) past caller points = either (sells points) (Some Sell) None refl tt
bid_refuses (HotelRules rooms live) past caller points =
    either (sells points) (Some Sell) _ refl
    (either (nat_lt (offered points (quote_to_beat rooms live past)) (need rooms live past caller))
    (Some (BelowQuote (need rooms live past caller) (quote_to_beat rooms live past) (offered points (quote_to_beat rooms live past)))) None refl tt)
bid_refuses TicketRules past caller points = either (crosses_itself points) (Some SelfCross) None refl tt

call_refuses : (rules : Rules) (past : List Entry) (caller : ℕ) (call : Call) → Refuses (call_refusal rules past caller call)
call_refuses rules past caller (Bid points) = bid_refuses rules past caller points
call_refuses rules past caller Withdraw = either (has_standing rules past caller) None (Some NoBid) tt refl
call_refuses rules past caller OwnCall = tt
call_refuses rules past caller (Update tick draw) = tt
call_refuses rules past caller Publish = tt
call_refuses rules past caller Close = tt

some_refuses : (rules : Rules) (past : List Entry) (caller : ℕ) (call : Call) → Refuses (refusal rules past caller call)
some_refuses rules past caller call =
    either (not (is_own call) && is_closed past) (Some Closed) _ refl
    (either (is_wrong_caller caller call || is_wrong_place rules call) (Some WrongCall) (call_refusal rules past caller call) refl
    (call_refuses rules past caller call))

pub refusal_refuses : (rules : Rules) (past : List Entry) (caller : ℕ) (call : Call) (reply : Reply) → refusal rules past caller call ≡ Some reply → is_admission reply ≡ false
refusal_refuses rules past caller call reply h = subst Refuses h (some_refuses rules past caller call)

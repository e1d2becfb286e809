-- An entry that is refused, or that is an agent's reading, changes nothing of what stands.
use Rattle.std.proofs.Common.{◌≡◌, ℕ, ◌≤◌, Bool, true, false, cond, List, [], ◌∷◌, refl, ap, Some, None, sym, subst, not, ◌&&◌, ◌||◌, ◌==◌, ℤ, if◌then◌else◌}
use Rattle.std.specs.Prelude.{⊤}
use Rattle.std.proofs.lemmas.Bool.{and_right}
use Rattle.auction_rules.specs.{Point, Trade, Call, Reply, Entry, is_admission, is_own, is_closed, last_bid, last_bids, units_of_bids, price, published, gone_by, left_standing, gone, stand, standing_points_of, holding, is_wrong_caller, is_wrong_place, refusal, trades_by, admitted_trades, admitted_reply, entry_of}
use Rattle.tac_base.specs.declared.calls.Call.TheVariants.{Bid, Withdraw, Own as OwnCall, Update, Publish, Close}
use Rattle.tac_base.specs.declared.calls.Reply.TheVariants.{Own, Closed, WrongCall}
use Rattle.auction_rules.specs.declared.units.BidUnit.{BidUnit}
use Rattle.auction_rules.specs.Setup.{Setup}
use Rattle.auction_rules.specs.declared.rules.Rules.{Rules}
use Rattle.auction_rules.specs.declared.rules.Rules.TheVariants.{Flight as FlightRules, Hotel as HotelRules, Tickets as TicketRules}
use Rattle.auction_rules.specs.Follows.{Follows}
use Rattle.auction_rules.proofs.Agents.{not_clock}
use Rattle.auction_rules.proofs.Steps.{refused_entry, entry_refused, refusal_refuses, follows, entry_admitted}

-- an entry that is refused or of `Own`
abbrev pub IsIdle : Entry → Type 0
IsIdle e = (is_admission e.reply && not (is_own e.call)) ≡ false

pub idle_refused : (e : Entry) → is_admission e.reply ≡ false → IsIdle e
idle_refused e h = rw h refl

pub either_same : {A : Type 0} (b : Bool) (x : A) → cond b x x ≡ x
either_same true x = refl
either_same false x = refl

and_true : (b : Bool) → (b && true) ≡ false → b ≡ false
and_true true h = cc
and_true false h = refl

nothing : (b : Bool) → cond {A = List BidUnit} b [] [] ≡ []
nothing true = refl
nothing false = refl

-- ---- the parts of an idle entry's past, call by call

module _ (caller : ℕ) (reply : Reply) (trades : List Trade) (past : List Entry) where
  abbrev entry : Call → Entry
  entry call = record { caller = caller; call = call; reply = reply; trades = trades }

  last_same : (call : Call) (agent : ℕ) → IsIdle (entry call) → last_bid agent (entry call ∷ past) ≡ last_bid agent past
  last_same OwnCall agent h = either_same (is_admission reply && (caller == agent)) (last_bid agent past)
  last_same (Bid points) agent h = rw (and_true (is_admission reply) h) refl
  last_same Withdraw agent h = rw (and_true (is_admission reply) h) refl
  last_same (Update tick draw) agent h = rw (and_true (is_admission reply) h) refl
  last_same Publish agent h = rw (and_true (is_admission reply) h) refl
  last_same Close agent h = rw (and_true (is_admission reply) h) refl

  closed_same : (call : Call) → IsIdle (entry call) → is_closed (entry call ∷ past) ≡ is_closed past
  closed_same OwnCall h = rw (and_right (is_admission reply) false refl) refl
  closed_same (Bid points) h = rw (and_true (is_admission reply) h) refl
  closed_same Withdraw h = rw (and_true (is_admission reply) h) refl
  closed_same (Update tick draw) h = rw (and_true (is_admission reply) h) refl
  closed_same Publish h = rw (and_true (is_admission reply) h) refl
  closed_same Close h = rw (and_true (is_admission reply) h) refl

  price_same : (first : ℕ) (bound : ℤ) (call : Call) → IsIdle (entry call) → price first bound (entry call ∷ past) ≡ price first bound past
  price_same first bound OwnCall h = either_same (is_admission reply) (price first bound past)
  price_same first bound (Bid points) h = rw (and_true (is_admission reply) h) refl
  price_same first bound Withdraw h = rw (and_true (is_admission reply) h) refl
  price_same first bound (Update tick draw) h = rw (and_true (is_admission reply) h) refl
  price_same first bound Publish h = rw (and_true (is_admission reply) h) refl
  price_same first bound Close h = rw (and_true (is_admission reply) h) refl

  published_same : (rooms : ℕ) (live : Bool) (call : Call) → IsIdle (entry call) → published rooms live (entry call ∷ past) ≡ published rooms live past
  published_same rooms live OwnCall h = rw (and_right (is_admission reply) false refl) refl
  published_same rooms live (Bid points) h = rw (and_true (is_admission reply) h) refl
  published_same rooms live Withdraw h = rw (and_true (is_admission reply) h) refl
  published_same rooms live (Update tick draw) h = rw (and_true (is_admission reply) h) refl
  published_same rooms live Publish h = rw (and_true (is_admission reply) h) refl
  published_same rooms live Close h = rw (and_true (is_admission reply) h) refl

  own_takes : (rules : Rules) (units : List BidUnit) → gone_by rules past units caller OwnCall ≡ []
  own_takes (FlightRules first bound) units = refl
  own_takes (HotelRules rooms live) units = refl
  own_takes TicketRules units = refl

  gone_same : (rules : Rules) (call : Call) → IsIdle (entry call) → gone rules (entry call ∷ past) ≡ gone rules past
  gone_same rules OwnCall h = rw (own_takes rules (left_standing past (gone rules past)), nothing (is_admission reply)) refl
  gone_same rules (Bid points) h = rw (and_true (is_admission reply) h) refl
  gone_same rules Withdraw h = rw (and_true (is_admission reply) h) refl
  gone_same rules (Update tick draw) h = rw (and_true (is_admission reply) h) refl
  gone_same rules Publish h = rw (and_true (is_admission reply) h) refl
  gone_same rules Close h = rw (and_true (is_admission reply) h) refl

-- ---- what an idle entry leaves as it was

module _ (past : List Entry) (e : Entry) (idle : IsIdle e) where
  pub idle_last : (agent : ℕ) → last_bid agent (e ∷ past) ≡ last_bid agent past
  idle_last agent = last_same e.caller e.reply e.trades past e.call agent idle

  pub idle_bids : last_bids (e ∷ past) ≡ last_bids past
  idle_bids = rw (idle_last 0, idle_last 1, idle_last 2, idle_last 3, idle_last 4, idle_last 5, idle_last 6, idle_last 7) refl

  pub idle_closed : is_closed (e ∷ past) ≡ is_closed past
  idle_closed = closed_same e.caller e.reply e.trades past e.call idle

  pub idle_price : (first : ℕ) (bound : ℤ) → price first bound (e ∷ past) ≡ price first bound past
  idle_price first bound = price_same e.caller e.reply e.trades past first bound e.call idle

  pub idle_published : (rooms : ℕ) (live : Bool) → published rooms live (e ∷ past) ≡ published rooms live past
  idle_published rooms live = published_same e.caller e.reply e.trades past rooms live e.call idle

  pub idle_stand : (rules : Rules) → stand rules (e ∷ past) ≡ stand rules past
  idle_stand rules = rw (idle_closed, ap units_of_bids idle_bids, gone_same e.caller e.reply e.trades past rules e.call idle) refl

-- ---- the answer to a reading

place_of_own : (rules : Rules) → is_wrong_place rules OwnCall ≡ false
place_of_own (FlightRules first bound) = refl
place_of_own (HotelRules rooms live) = refl
place_of_own TicketRules = refl

pub own_admitted : (rules : Rules) (past : List Entry) (agent : ℕ) → agent ≤ 7 → refusal rules past agent OwnCall ≡ None
own_admitted rules past agent le = rw (not_clock agent le, place_of_own rules) refl

pub own_idle : (setup : Setup) (past : List Entry) (agent : ℕ) → agent ≤ 7 → IsIdle (entry_of setup past agent OwnCall)
own_idle setup past agent le = rw (own_admitted setup.rules past agent le) refl

pub own_trades : (rules : Rules) (good : ℕ) (past : List Entry) (agent : ℕ) → trades_by rules good past agent OwnCall ≡ []
own_trades (FlightRules first bound) good past agent = refl
own_trades (HotelRules rooms live) good past agent = refl
own_trades TicketRules good past agent = refl

-- the answer to an agent's reading follows the rules
pub own_follows : (setup : Setup) (past : List Entry) (agent : ℕ) (held : ℤ) (points : List Point) (Stands : List Entry → Type 0) → agent ≤ 7 →
    held ≡ holding setup past agent → points ≡ standing_points_of setup.rules past agent → Stands (entry_of setup past agent OwnCall ∷ past) →
    Follows setup past agent OwnCall (Own held points) [] Stands
own_follows setup past agent held points Stands le holds leaves stands =
    let e : Entry = record { caller = agent; call = OwnCall; reply = admitted_reply setup past agent OwnCall; trades = admitted_trades setup past agent OwnCall } in
    let is : entry_of setup past agent OwnCall ≡ e = entry_admitted setup past agent OwnCall (own_admitted setup.rules past agent le) in
    follows setup past agent OwnCall e (Own held points) [] Stands is (λ i. Own (holds i) (leaves i)) (sym (own_trades setup.rules setup.good past agent))
    (subst (λ (x : Entry). Stands (x ∷ past)) is stands)

-- ---- a call that the auction does not have, or that its caller may not make

flight_place : (first first' : ℕ) (bound bound' : ℤ) (call : Call) → is_wrong_place (FlightRules first bound) call ≡ is_wrong_place (FlightRules first' bound') call
flight_place first first' bound bound' (Bid points) = refl
flight_place first first' bound bound' Withdraw = refl
flight_place first first' bound bound' OwnCall = refl
flight_place first first' bound bound' (Update tick draw) = refl
flight_place first first' bound bound' Publish = refl
flight_place first first' bound bound' Close = refl

hotel_place : (rooms rooms' : ℕ) (live live' : Bool) (call : Call) → is_wrong_place (HotelRules rooms live) call ≡ is_wrong_place (HotelRules rooms' live') call
hotel_place rooms rooms' live live' (Bid points) = refl
hotel_place rooms rooms' live live' Withdraw = refl
hotel_place rooms rooms' live live' OwnCall = refl
hotel_place rooms rooms' live live' (Update tick draw) = refl
hotel_place rooms rooms' live live' Publish = refl
hotel_place rooms rooms' live live' Close = refl

-- whether two rules are of the same kind of auction
abbrev pub SameKind : Rules → Rules → Type 0
SameKind (FlightRules first bound) (FlightRules first' bound') = ⊤
SameKind (HotelRules rooms live) (HotelRules rooms' live') = ⊤
SameKind TicketRules TicketRules = ⊤
SameKind rules rules' = ⊥

same_place : (rules rules' : Rules) (call : Call) → SameKind rules rules' → is_wrong_place rules call ≡ is_wrong_place rules' call
same_place (FlightRules first bound) (FlightRules first' bound') call h = flight_place first first' bound bound' call
same_place (HotelRules rooms live) (HotelRules rooms' live') call h = hotel_place rooms rooms' live live' call
same_place TicketRules TicketRules call h = refl
same_place (FlightRules first bound) (HotelRules rooms live) call h = absurd h
same_place (FlightRules first bound) TicketRules call h = absurd h
same_place (HotelRules rooms live) (FlightRules first bound) call h = absurd h
same_place (HotelRules rooms live) TicketRules call h = absurd h
same_place TicketRules (FlightRules first bound) call h = absurd h
same_place TicketRules (HotelRules rooms live) call h = absurd h

-- such a call follows the rules if the book stands for the past with its refusal
pub wrong_follows : (setup : Setup) (past : List Entry) (caller : ℕ) (call : Call) (kind : Rules) (closed : Bool) (reply : Reply) (Stands : List Entry → Type 0) →
    SameKind setup.rules kind → (is_wrong_caller caller call || is_wrong_place kind call) ≡ true → closed ≡ is_closed past →
    reply ≡ (if not (is_own call) && closed then Closed else WrongCall) →
    ((e : Entry) → IsIdle e → Stands (e ∷ past)) → Follows setup past caller call reply [] Stands
wrong_follows setup past caller call kind closed reply Stands same wrong closed_is replied stands =
    follows setup past caller call (refused_entry caller call reply) reply [] Stands (entry_refused setup past caller call reply refused) refl refl
    (stands (refused_entry caller call reply) (idle_refused (refused_entry caller call reply) (refusal_refuses setup.rules past caller call reply refused)))
  where
    either_some : (b : Bool) → cond b (Some Closed) (Some WrongCall) ≡ Some (cond b Closed WrongCall)
    either_some true = refl
    either_some false = refl

    refused : refusal setup.rules past caller call ≡ Some reply
    refused = rw (same_place setup.rules kind call same, wrong, ← closed_is, replied) (either_some (not (is_own call) && closed))

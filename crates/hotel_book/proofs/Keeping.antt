-- What one more entry changes in a hotel's book.
use Rattle.std.proofs.Common.{◌≡◌, ℕ, ◌≤◌, Bool, true, false, List, [], ◌∷◌, length, min, refl, sym, ap, ◌∙◌, set, subst, arith, Option, Some, None, if◌then◌else◌, not, ◌&&◌, ◌||◌}
use Rattle.hotel_book.specs.Prelude.{Point, Trade, Reply, Taken, Sold, Done, Closed, WrongCall, Placed, BidUnit, clock, Setup, Rules, Hotel as HotelRules, Entry, is_closed, last_bid, last_bids, bid_units, units_of_bids, is_own, stand, ask, published, winning, refusal, is_wrong_caller, is_wrong_place, Follows}
use Rattle.tac_base.specs.declared.calls.Call.{Call}
use Rattle.tac_base.specs.declared.calls.Call.TheVariants.{Bid, Publish, Close}
use Rattle.auction_rules.specs.BookHotels.{sold_units, closing_trades}
use Rattle.auction_rules.proofs.HotelUnits.{open_stand, sells_what_stands}
use Rattle.auction_rules.proofs.Steps.{refused_entry, entry_refused, entry_admitted, refusal_refuses, follows}
use Rattle.auction_rules.proofs.Agents.{agents_set, not_clock}
use Rattle.auction_rules.proofs.Idle.{IsIdle, idle_refused, idle_bids, idle_published, idle_closed, wrong_follows}
use Rattle.hotel_book.specs.Book.{HotelBook, hotel_book, HotelStandsFor, standing, with_bid, book_refusal, winner_trades}

-- ---- what stands

-- the units of the bids stand in an open hotel, and none in a closed one
pub stands_is : (setup : Setup) (past : List Entry) (book : HotelBook) → HotelStandsFor book setup past → stand setup.rules past ≡ standing book.bids book.closed
stands_is setup past book stood =
    ap (λ (rules : Rules). stand rules past) stood.rules ∙ by_state (is_closed past) refl
    ∙ sym (ap (λ (b : HotelBook). standing b.bids b.closed) stood.kept)
  where
    by_state : (b : Bool) → is_closed past ≡ b → stand (HotelRules book.rooms book.live) past ≡ standing (last_bids past) (is_closed past)
    by_state true h = rw h refl
    by_state false h = open_stand book.rooms book.live past h ∙ ap (standing (last_bids past)) (sym h)

-- ---- the refusal of a bid

refusal_is : (rooms : ℕ) (live : Bool) (past : List Entry) (agent : ℕ) (points : List Point) → agent ≤ 7 →
    refusal (HotelRules rooms live) past agent (Bid points) ≡ book_refusal (winning rooms (stand (HotelRules rooms live) past) agent) (published rooms live past) (is_closed past) points
refusal_is rooms live past agent points le = by_state (is_closed past) refl
  where
    by_state : (b : Bool) → is_closed past ≡ b → refusal (HotelRules rooms live) past agent (Bid points) ≡ book_refusal (winning rooms (stand (HotelRules rooms live) past) agent) (published rooms live past) b points
    by_state true h = rw h
    by_state false h = let agents_bid = not_clock agent le in rw (h, agents_bid)

-- what the rules refuse, by what the book keeps and the units that the agent would win
refused_by : (setup : Setup) (past : List Entry) (book : HotelBook) (agent won : ℕ) (points : List Point) → HotelStandsFor book setup past → agent ≤ 7 → won ≡ winning book.rooms (stand (HotelRules book.rooms book.live) past) agent →
    refusal setup.rules past agent (Bid points) ≡ book_refusal won book.published book.closed points
refused_by setup past book agent won points stood le wins =
    ap (λ (rules : Rules). refusal rules past agent (Bid points)) stood.rules ∙ refusal_is book.rooms book.live past agent points le
    ∙ ap (λ (n : ℕ). book_refusal n (published book.rooms book.live past) (is_closed past) points) (sym wins)
    ∙ sym (ap (λ (b : HotelBook). book_refusal won b.published b.closed points) stood.kept)

pub is_open : (won price : ℕ) (closed : Bool) (points : List Point) → book_refusal won price closed points ≡ None → closed ≡ false
is_open won price true points h = absurd cc
is_open won price false points h = refl

-- ---- the calls

-- an idle entry changes nothing that a hotel keeps
pub idle_keeps : (book : HotelBook) (setup : Setup) (past : List Entry) (e : Entry) → IsIdle e → HotelStandsFor book setup past → HotelStandsFor book setup (e ∷ past)
idle_keeps book setup past e idle stood = record { rules = stood.rules; kept = stood.kept ∙ sym same }
  where
    same : hotel_book setup.good book.rooms book.live (e ∷ past) ≡ hotel_book setup.good book.rooms book.live past
    same = rw (idle_bids past e idle, idle_published past e idle book.rooms book.live, idle_closed past e idle) refl

follows_refused : (setup : Setup) (past : List Entry) (caller : ℕ) (call : Call) (book : HotelBook) (reply : Reply) (trades : List Trade) →
    HotelStandsFor book setup past → refusal setup.rules past caller call ≡ Some reply → trades ≡ [] → Follows setup past caller call reply trades (HotelStandsFor book setup)
follows_refused setup past caller call book reply trades stood refused none =
    follows setup past caller call (refused_entry caller call reply) reply trades (HotelStandsFor book setup) (entry_refused setup past caller call reply refused) refl none
    (idle_keeps book setup past (refused_entry caller call reply) (idle_refused (refused_entry caller call reply) (refusal_refuses setup.rules past caller call reply refused)) stood)

-- a call that hotels do not have, or that its caller may not make
pub follows_wrong : (setup : Setup) (past : List Entry) (caller : ℕ) (call : Call) (book : HotelBook) (reply : Reply) → HotelStandsFor book setup past →
    (is_wrong_caller caller call || is_wrong_place (HotelRules book.rooms book.live) call) ≡ true → reply ≡ (if not (is_own call) && book.closed then Closed else WrongCall) →
    Follows setup past caller call reply [] (HotelStandsFor book setup)
follows_wrong setup past caller call book reply stood wrong replied =
    wrong_follows setup past caller call (HotelRules book.rooms book.live) book.closed reply (HotelStandsFor book setup) (rw stood.rules tt) wrong (ap (λ (b : HotelBook). b.closed) stood.kept) replied
    (λ e idle. idle_keeps book setup past e idle stood)

-- a bid that the book refuses
pub follows_refused_bid : (setup : Setup) (past : List Entry) (agent won : ℕ) (points : List Point) (book : HotelBook) (reply : Reply) (trades : List Trade) → agent ≤ 7 →
    HotelStandsFor book setup past → won ≡ winning book.rooms (stand (HotelRules book.rooms book.live) past) agent → book_refusal won book.published book.closed points ≡ Some reply → trades ≡ [] →
    Follows setup past agent (Bid points) reply trades (HotelStandsFor book setup)
follows_refused_bid setup past agent won points book reply trades le stood wins refused none =
    follows_refused setup past agent (Bid points) book reply trades stood (refused_by setup past book agent won points stood le wins ∙ refused) none

-- an admitted bid
abbrev taken_entry : ℕ → List Point → Entry
taken_entry agent points = record { caller = agent; call = Bid points; reply = Taken 0 0; trades = [] }

published_by_bid : (rooms : ℕ) (live : Bool) (agent : ℕ) (points : List Point) (past : List Entry) → is_closed past ≡ false →
    published rooms live (taken_entry agent points ∷ past) ≡ (if live then ask rooms (bid_units (taken_entry agent points ∷ past)) else published rooms live past)
published_by_bid rooms true agent points past h = ap (ask rooms) (open_stand rooms true (taken_entry agent points ∷ past) h)
published_by_bid rooms false agent points past h = refl

-- a book by its parts, and two of the same rules are equal if the rest is
abbrev pub book_of : ℕ → Bool → ℕ → List (Option Placed) → ℕ → Bool → HotelBook
book_of rooms live good bids price closed = record { good = good; rooms = rooms; live = live; bids = bids; published = price; closed = closed }

same_books : (rooms : ℕ) (live : Bool) (good good' : ℕ) (bids bids' : List (Option Placed)) (price price' : ℕ) (closed closed' : Bool) →
    good ≡ good' → bids ≡ bids' → price ≡ price' → closed ≡ closed' → book_of rooms live good bids price closed ≡ book_of rooms live good' bids' price' closed'
same_books rooms live good good' bids bids' price price' closed closed' g b p c = rw (g, b, p, c)

pub follows_taken : (setup : Setup) (past : List Entry) (at agent won : ℕ) (points : List Point) (book book' : HotelBook) (trades : List Trade) →
    agent ≤ 7 → at ≡ length past → HotelStandsFor book setup past → won ≡ winning book.rooms (stand (HotelRules book.rooms book.live) past) agent → book_refusal won book.published book.closed points ≡ None →
    book' ≡ with_bid book (record { agent = agent; position = at; points = points }) → trades ≡ [] →
    Follows setup past agent (Bid points) (Taken 0 0) trades (HotelStandsFor book' setup)
follows_taken setup past at agent won points book book' trades le here stood wins taken placed none =
    follows setup past agent (Bid points) (taken_entry agent points) (Taken 0 0) trades (HotelStandsFor book' setup)
    (entry_admitted setup past agent (Bid points) (refused_by setup past book agent won points stood le wins ∙ taken) ∙ rw stood.rules) refl none
    (subst (λ (b : HotelBook). HotelStandsFor b setup (taken_entry agent points ∷ past)) (sym placed)
    (record { rules = stood.rules; kept = same_books book.rooms book.live _ _ _ _ _ _ _ _ good now quote closed }))
  where
    bids : List (Option Placed)
    bids = set book.bids agent (Some (record { agent = agent; position = at; points = points }))

    good : book.good ≡ setup.good
    good = ap (λ (b : HotelBook). b.good) stood.kept

    closed : book.closed ≡ is_closed past
    closed = ap (λ (b : HotelBook). b.closed) stood.kept

    was : book.published ≡ published book.rooms book.live past
    was = ap (λ (b : HotelBook). b.published) stood.kept

    now : bids ≡ last_bids (taken_entry agent points ∷ past)
    now = rw (here, ap (λ (b : HotelBook). b.bids) stood.kept)
        (sym (agents_set agent (Some (record { agent = agent; position = length past; points = points })) (λ (a : ℕ). last_bid a past) le))

    still_open : is_closed past ≡ false
    still_open = sym closed ∙ is_open won book.published book.closed points taken

    quote : (if book.live then ask book.rooms (units_of_bids bids) else book.published) ≡ published book.rooms book.live (taken_entry agent points ∷ past)
    quote = rw (now, was) (sym (published_by_bid book.rooms book.live agent points past still_open))

-- an admitted publication
pub follows_published : (setup : Setup) (past : List Entry) (book : HotelBook) (price : ℕ) →
    HotelStandsFor book setup past → book.closed ≡ false → price ≡ ask book.rooms (stand setup.rules past) →
    Follows setup past clock Publish Done [] (HotelStandsFor (record book { published = price }) setup)
follows_published setup past book price stood not_closed priced =
    follows setup past clock Publish (record { caller = clock; call = Publish; reply = Done; trades = [] }) Done [] (HotelStandsFor (record book { published = price }) setup)
    (rw (stood.rules, still_open)) refl refl
    (record { rules = stood.rules; kept = same_books book.rooms book.live _ _ _ _ _ _ _ _ good bids asked closed })
  where
    good : book.good ≡ setup.good
    good = ap (λ (b : HotelBook). b.good) stood.kept

    bids : book.bids ≡ last_bids past
    bids = ap (λ (b : HotelBook). b.bids) stood.kept

    closed : book.closed ≡ is_closed past
    closed = ap (λ (b : HotelBook). b.closed) stood.kept

    still_open : is_closed past ≡ false
    still_open = sym closed ∙ not_closed

    asked : price ≡ ask book.rooms (stand (HotelRules book.rooms book.live) past)
    asked = priced ∙ ap (λ (rules : Rules). ask book.rooms (stand rules past)) stood.rules

-- the trades of a closing, by what each agent wins
trades_are : (good rooms price : ℕ) (won : ℕ → ℕ) (units : List BidUnit) → price ≡ ask rooms units → ((agent : ℕ) → agent ≤ 7 → won agent ≡ winning rooms units agent) →
    winner_trades good price won ≡ closing_trades good rooms units
trades_are good rooms price won units priced wins =
    rw (priced, wins 0 (omega arith), wins 1 (omega arith), wins 2 (omega arith), wins 3 (omega arith), wins 4 (omega arith), wins 5 (omega arith), wins 6 (omega arith), wins 7 (omega arith)) refl

-- an admitted closing
pub follows_closed : (setup : Setup) (past : List Entry) (book : HotelBook) (sold price : ℕ) (won : ℕ → ℕ) (trades : List Trade) →
    HotelStandsFor book setup past → book.closed ≡ false →
    sold ≡ min book.rooms (length (stand setup.rules past)) → price ≡ ask book.rooms (stand setup.rules past) →
    ((agent : ℕ) → agent ≤ 7 → won agent ≡ winning book.rooms (stand setup.rules past) agent) → trades ≡ winner_trades book.good price won →
    Follows setup past clock Close (Sold sold price) trades (HotelStandsFor (record book { published = price; closed = true }) setup)
follows_closed setup past book sold price won trades stood not_closed counted priced wins traded =
    follows setup past clock Close (record { caller = clock; call = Close; reply = Sold sold price; trades = trades }) (Sold sold price) trades (HotelStandsFor (record book { published = price; closed = true }) setup)
    (rw (stood.rules, still_open, counts, asked, sold_is) refl) refl refl
    (record { rules = stood.rules; kept = same_books book.rooms book.live _ _ _ _ _ _ true true good bids asked refl })
  where
    units : List BidUnit
    units = stand (HotelRules book.rooms book.live) past

    here : stand setup.rules past ≡ units
    here = ap (λ (rules : Rules). stand rules past) stood.rules

    good : book.good ≡ setup.good
    good = ap (λ (b : HotelBook). b.good) stood.kept

    bids : book.bids ≡ last_bids past
    bids = ap (λ (b : HotelBook). b.bids) stood.kept

    still_open : is_closed past ≡ false
    still_open = sym (ap (λ (b : HotelBook). b.closed) stood.kept) ∙ not_closed

    asked : price ≡ ask book.rooms units
    asked = priced ∙ ap (ask book.rooms) here

    counts : sold ≡ sold_units book.rooms units
    counts = counted ∙ ap (λ (us : List BidUnit). min book.rooms (length us)) here ∙ sym (sells_what_stands book.rooms book.live past)

    sold_is : trades ≡ closing_trades setup.good book.rooms units
    sold_is =
        traded ∙ trades_are book.good book.rooms price won units asked (λ agent le. wins agent le ∙ ap (λ (us : List BidUnit). winning book.rooms us agent) here)
        ∙ ap (λ (g : ℕ). closing_trades g book.rooms units) good

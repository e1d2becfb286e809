-- The calls of a flight follow the rules.
use Rattle.std.proofs.Common.{◌≡◌, ℕ, ◌≤◌, Bool, true, false, List, [], ◌∷◌, ◌++◌, length, map, refl, sym, ap, ◌∙◌, subst, arith, Some, None, ℤ, ◌||◌, ◌==◌, ◌≢◌, filter, sum_by, if◌then◌else◌, not, ◌&&◌, pos}
use Rattle.std.specs.List.{AllByRecursion, list_any}
use Rattle.std.proofs.lemmas.Bool.Decides.{nat_tests}
use Rattle.flight_auction.specs.Prelude.{Point, Trade, Call, Bid, Withdraw, Update, Close, Taken, Done, Closed, WrongCall, NoBid, Sell, size_of, clock, house, bought, sold, sales_by, Setup, Rules, Flight as FlightRules, Entry, is_own, is_closed, price, next_price, standing_points_of, refusal, sells, has_standing, is_wrong_caller, is_wrong_place, entry_of, admitted_trades, Follows, StandingPoint, owned_by, sale, standing_points}
use Rattle.tac_base.specs.declared.calls.Reply.{Reply}
use Rattle.auction_rules.proofs.Idle.{IsIdle, idle_refused, idle_price, idle_closed, wrong_follows}
use Rattle.auction_rules.proofs.Agents.{not_clock}
use Rattle.auction_rules.proofs.Steps.{refused_entry, entry_refused, entry_admitted, refusal_refuses, follows}
use Rattle.flight_auction.specs.Book.{is_points_agent, agents_points, others_than, reaches, sales, unsold, FlightBook, FlightStandsFor}
use Rattle.flight_auction.proofs.Changes.{update_entry, update_left, update_trades, bid_entry, bid_left, bid_trades, withdraw_entry, withdraw_left, closed_left, idle_left}
use Rattle.flight_auction.proofs.Owning.{own_points, has_standing_is}

-- a book by its parts, and two that are equal if their parts are
abbrev pub book_of : ℕ → ℤ → ℕ → List StandingPoint → Bool → FlightBook
book_of good bound price standing closed = record { good = good; bound = bound; price = price; standing = standing; closed = closed }

same_books : (bound : ℤ) (good good' price price' : ℕ) (standing standing' : List StandingPoint) (closed closed' : Bool) →
    good ≡ good' → price ≡ price' → standing ≡ standing' → closed ≡ closed' → book_of good bound price standing closed ≡ book_of good' bound price' standing' closed'
same_books bound good good' price price' standing standing' closed closed' g p s c = rw (g, p, s, c) refl

-- an agent sells nothing if the house sells all
none_sold : (agent : ℕ) (trades : List Trade) → agent ≤ 7 → AllByRecursion (λ (t : Trade). t.seller ≡ house) trades → sold trades agent ≡ 0
none_sold agent trades le h = ap (sum_by (λ (t : Trade). t.units)) (no_sales trades h)
  where
    no_sales : (ts : List Trade) → AllByRecursion (λ (t : Trade). t.seller ≡ house) ts → sales_by ts agent ≡ []
    no_sales [] k = refl
    no_sales (t ∷ ts) k = let other : (t.seller == agent) ≡ false = grind (arith, nat_tests, k.0) in rw (other, no_sales ts k.1) refl

house_sells : (good price : ℕ) (standing : List StandingPoint) → AllByRecursion (λ (t : Trade). t.seller ≡ house) (sales good price standing)
house_sells good price standing = each (filter (reaches price) standing)
  where
    each : (points : List StandingPoint) → AllByRecursion (λ (t : Trade). t.seller ≡ house) (map (sale good price) points)
    each [] = tt
    each (p ∷ ps) = (refl, each ps)

-- ---- what a book that stands for a past has of it

module _ (setup : Setup) (past : List Entry) (book : FlightBook) (stood : FlightStandsFor book setup past) where
  good_is : book.good ≡ setup.good
  good_is = ap (λ (b : FlightBook). b.good) stood.kept

  price_is : book.price ≡ price stood.first book.bound past
  price_is = ap (λ (b : FlightBook). b.price) stood.kept

  standing_is : book.standing ≡ standing_points (FlightRules stood.first book.bound) past
  standing_is = ap (λ (b : FlightBook). b.standing) stood.kept

  closed_is : book.closed ≡ is_closed past
  closed_is = ap (λ (b : FlightBook). b.closed) stood.kept

  still_open : book.closed ≡ false → is_closed past ≡ false
  still_open h = sym closed_is ∙ h

  -- an idle entry changes nothing that a flight keeps
  pub idle_keeps : (e : Entry) → IsIdle e → FlightStandsFor book setup (e ∷ past)
  idle_keeps e idle = record {
    first = stood.first;
    rules = stood.rules;
    kept = same_books book.bound _ _ _ _ _ _ _ _ good_is (price_is ∙ sym (idle_price past e idle stood.first book.bound)) (standing_is ∙ sym (idle_left (FlightRules stood.first book.bound) past e idle)) (closed_is ∙ sym (idle_closed past e idle));
  }

  follows_refused : (caller : ℕ) (call : Call) (reply : Reply) (trades : List Trade) → refusal setup.rules past caller call ≡ Some reply → trades ≡ [] →
      Follows setup past caller call reply trades (FlightStandsFor book setup)
  follows_refused caller call reply trades refused none =
      follows setup past caller call (refused_entry caller call reply) reply trades (FlightStandsFor book setup) (entry_refused setup past caller call reply refused) refl none
      (idle_keeps (refused_entry caller call reply) (idle_refused (refused_entry caller call reply) (refusal_refuses setup.rules past caller call reply refused)))

  -- a call on a closed flight
  pub follows_on_closed : (caller : ℕ) (call : Call) (trades : List Trade) → is_own call ≡ false → book.closed ≡ true → trades ≡ [] → Follows setup past caller call Closed trades (FlightStandsFor book setup)
  follows_on_closed caller call trades not_own closed none =
      let h : is_closed past ≡ true = sym closed_is ∙ closed in follows_refused caller call Closed trades (rw (not_own, h) refl) none

  -- a call that flights do not have, or that its caller may not make
  pub follows_wrong : (caller : ℕ) (call : Call) (reply : Reply) → (is_wrong_caller caller call || is_wrong_place (FlightRules 300 (pos 0)) call) ≡ true →
      reply ≡ (if not (is_own call) && book.closed then Closed else WrongCall) → Follows setup past caller call reply [] (FlightStandsFor book setup)
  follows_wrong caller call reply wrong replied =
      wrong_follows setup past caller call (FlightRules 300 (pos 0)) book.closed reply (FlightStandsFor book setup) (rw stood.rules tt) wrong closed_is replied idle_keeps

  -- ---- a bid

  refusal_of_bid : (agent : ℕ) (points : List Point) → agent ≤ 7 → book.closed ≡ false → refusal setup.rules past agent (Bid points) ≡ (if sells points then Some Sell else None)
  refusal_of_bid agent points le open_now =
      let h = still_open open_now in let agents_call = not_clock agent le in rw (stood.rules, h, agents_call) refl

  pub follows_seller : (agent : ℕ) (points : List Point) (trades : List Trade) → agent ≤ 7 → book.closed ≡ false → sells points ≡ true → trades ≡ [] →
      Follows setup past agent (Bid points) Sell trades (FlightStandsFor book setup)
  follows_seller agent points trades le open_now selling none =
      follows_refused agent (Bid points) Sell trades (refusal_of_bid agent points le open_now ∙ rw selling refl) none

  pub follows_taken : (at agent : ℕ) (points : List Point) (standing : List StandingPoint) (buys : ℕ) (trades : List Trade) →
      at ≡ length past → agent ≤ 7 → book.closed ≡ false → sells points ≡ false → AllByRecursion (λ (p : Point). size_of p ≢ 0) points →
      standing ≡ unsold book.price (others_than agent book.standing ++ owned_by agent points) →
      trades ≡ sales book.good book.price (others_than agent book.standing ++ owned_by agent points) → buys ≡ bought trades agent →
      Follows setup past agent (Bid points) (Taken buys 0) trades (FlightStandsFor (record book { standing = standing }) setup)
  follows_taken at agent points standing buys trades here le open_now buying full left_is trades_is buys_is =
      follows setup past agent (Bid points) (bid_entry agent points buys trades) (Taken buys 0) trades (FlightStandsFor (record book { standing = standing }) setup)
      entry refl refl
      (record {
        first = stood.first;
        rules = stood.rules;
        kept = same_books book.bound _ _ _ _ _ _ _ _ good_is price_is now closed_is;
      })
    where
      now : standing ≡ standing_points (FlightRules stood.first book.bound) (bid_entry agent points buys trades ∷ past)
      now = left_is ∙ rw (price_is, standing_is) (sym (bid_left stood.first book.bound past agent points buys trades le (still_open open_now) full))

      traded : trades ≡ admitted_trades setup past agent (Bid points)
      traded = trades_is ∙ rw (good_is, price_is, standing_is, stood.rules) (sym (bid_trades setup.good (price stood.first book.bound past) (FlightRules stood.first book.bound) past agent points full))

      sold_by_house : AllByRecursion (λ (t : Trade). t.seller ≡ house) trades
      sold_by_house = subst (AllByRecursion (λ (t : Trade). t.seller ≡ house)) (sym trades_is) (house_sells book.good book.price (others_than agent book.standing ++ owned_by agent points))

      entry : entry_of setup past agent (Bid points) ≡ bid_entry agent points buys trades
      entry =
          entry_admitted setup past agent (Bid points) (refusal_of_bid agent points le open_now ∙ rw buying refl)
          ∙ rw (← traded) (rw (buys_is, none_sold agent trades le sold_by_house) refl)

  -- ---- a withdrawal

  refusal_of_withdrawal : (agent : ℕ) → agent ≤ 7 → book.closed ≡ false → refusal setup.rules past agent Withdraw ≡ (if list_any (is_points_agent agent) book.standing then None else Some NoBid)
  refusal_of_withdrawal agent le open_now =
      ap (λ (rules : Rules). refusal rules past agent Withdraw) stood.rules
      ∙ by_tests (is_closed past) (agent == clock) (has_standing (FlightRules stood.first book.bound) past agent) (still_open open_now) (not_clock agent le)
      ∙ ap (λ (b : Bool). if b then None else Some NoBid)
      (has_standing_is (FlightRules stood.first book.bound) past agent le (still_open open_now) ∙ ap (list_any (is_points_agent agent)) (sym standing_is))
    where
      by_tests : (closed clocks stands : Bool) → closed ≡ false → clocks ≡ false →
          (if closed then Some Closed else if clocks || false then Some WrongCall else if stands then None else Some NoBid) ≡ (if stands then None else Some NoBid)
      by_tests closed clocks stands h k = rw (h, k) refl

  pub follows_without_bid : (agent : ℕ) → agent ≤ 7 → book.closed ≡ false → list_any (is_points_agent agent) book.standing ≡ false → Follows setup past agent Withdraw NoBid [] (FlightStandsFor book setup)
  follows_without_bid agent le open_now nothing =
      follows_refused agent Withdraw NoBid [] (refusal_of_withdrawal agent le open_now ∙ ap (λ (b : Bool). if b then None else Some NoBid) nothing) refl

  pub follows_withdrawn : (agent : ℕ) (standing : List StandingPoint) → agent ≤ 7 → book.closed ≡ false → list_any (is_points_agent agent) book.standing ≡ true → standing ≡ others_than agent book.standing →
      Follows setup past agent Withdraw Done [] (FlightStandsFor (record book { standing = standing }) setup)
  follows_withdrawn agent standing le open_now something left_is =
      follows setup past agent Withdraw (withdraw_entry agent) Done [] (FlightStandsFor (record book { standing = standing }) setup)
      (entry_admitted setup past agent Withdraw (refusal_of_withdrawal agent le open_now ∙ ap (λ (b : Bool). if b then None else Some NoBid) something) ∙ rw stood.rules refl) refl refl
      (record {
        first = stood.first;
        rules = stood.rules;
        kept = same_books book.bound _ _ _ _ _ _ _ _ good_is price_is now closed_is;
      })
    where
      now : standing ≡ standing_points (FlightRules stood.first book.bound) (withdraw_entry agent ∷ past)
      now = left_is ∙ rw standing_is (sym (withdraw_left stood.first book.bound past agent le (still_open open_now)))

  -- ---- an update

  pub follows_updated : (tick draw new : ℕ) (standing : List StandingPoint) (trades : List Trade) → book.closed ≡ false → new ≡ next_price book.price book.bound tick draw →
      standing ≡ unsold new book.standing → trades ≡ sales book.good new book.standing →
      Follows setup past clock (Update tick draw) Done trades (FlightStandsFor (record book { price = new; standing = standing }) setup)
  follows_updated tick draw new standing trades open_now new_is left_is trades_is =
      follows setup past clock (Update tick draw) (update_entry tick draw trades) Done trades (FlightStandsFor (record book { price = new; standing = standing }) setup)
      (entry_admitted setup past clock (Update tick draw) admitted ∙ rw (← traded) refl) refl refl
      (record {
        first = stood.first;
        rules = stood.rules;
        kept = same_books book.bound _ _ _ _ _ _ _ _ good_is price_now now closed_is;
      })
    where
      h : is_closed past ≡ false
      h = still_open open_now

      admitted : refusal setup.rules past clock (Update tick draw) ≡ None
      admitted = rw (stood.rules, h) refl

      price_now : new ≡ next_price (price stood.first book.bound past) book.bound tick draw
      price_now = new_is ∙ ap (λ (p : ℕ). next_price p book.bound tick draw) price_is

      now : standing ≡ standing_points (FlightRules stood.first book.bound) (update_entry tick draw trades ∷ past)
      now = left_is ∙ rw (price_now, standing_is) (sym (update_left stood.first book.bound past tick draw trades h))

      traded : trades ≡ admitted_trades setup past clock (Update tick draw)
      traded =
          trades_is ∙ rw (good_is, price_now, standing_is, stood.rules)
          (sym (update_trades setup.good (next_price (price stood.first book.bound past) book.bound tick draw) (FlightRules stood.first book.bound) past))

  -- ---- a closing

  pub follows_closed : (standing : List StandingPoint) (trades : List Trade) → book.closed ≡ false → standing ≡ [] → trades ≡ [] →
      Follows setup past clock Close Done trades (FlightStandsFor (record book { standing = standing; closed = true }) setup)
  follows_closed standing trades open_now nothing none =
      follows setup past clock Close (close_entry) Done trades (FlightStandsFor (record book { standing = standing; closed = true }) setup)
      (entry_admitted setup past clock Close admitted ∙ rw stood.rules refl) refl none
      (record {
        first = stood.first;
        rules = stood.rules;
        kept = same_books book.bound _ _ _ _ _ _ _ _ good_is price_is (nothing ∙ sym (closed_left (FlightRules stood.first book.bound) (close_entry ∷ past) refl)) refl;
      })
    where
      h : is_closed past ≡ false
      h = still_open open_now

      close_entry : Entry
      close_entry = record { caller = clock; call = Close; reply = Done; trades = [] }

      admitted : refusal setup.rules past clock Close ≡ None
      admitted = rw (stood.rules, h) refl

  -- ---- what an agent has

  pub owns : (agent : ℕ) → agent ≤ 7 → agents_points agent book.standing ≡ standing_points_of setup.rules past agent
  owns agent le = rw (standing_is, stood.rules) (own_points (FlightRules stood.first book.bound) past agent le)

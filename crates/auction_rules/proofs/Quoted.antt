-- A hotel's published price does not fall.
use Rattle.std.proofs.Common.{◌≡◌, ℕ, ◌≤◌, Bool, true, false, cond, List, [], ◌∷◌, refl, sym, ap, ◌∙◌, subst, arith, Option, Some, None, inl, inr, not, ◌&&◌, ◌||◌, ◌==◌, nat_lt, if◌then◌else◌}
use Rattle.std.proofs.lemmas.Bool.{false≢true}
use Rattle.auction_rules.specs.{Point, Trade, Call, Reply, Entry, is_own, is_closed, last_bid, units_of_bids, stand, standing_points_of, ask, published, need, quote_to_beat, offered, is_wrong_caller, is_wrong_place, sells, call_refusal, refusal, IsLawful, entry_of, entry_by, admitted_reply, admitted_trades, close_reply, sold_units, bought, sold, holding}
use Rattle.tac_base.specs.declared.calls.Call.TheVariants.{Bid, Withdraw, Own as OwnCall, Update, Publish, Close}
use Rattle.tac_base.specs.declared.calls.Reply.TheVariants.{Own, Closed, WrongCall, Sell, BelowQuote, Done, Sold}
use Rattle.auction_rules.specs.declared.units.BidUnit.{BidUnit}
use Rattle.auction_rules.specs.Setup.{Setup}
use Rattle.auction_rules.specs.declared.rules.Rules.{Rules}
use Rattle.auction_rules.specs.declared.rules.Rules.TheVariants.{Hotel as HotelRules}
use Rattle.auction_rules.proofs.Steps.{refused_entry, refusal_refuses}
use Rattle.auction_rules.proofs.Idle.{IsIdle, either_same, idle_refused, idle_closed, idle_published, idle_stand}
use Rattle.auction_rules.proofs.Agents.{agents_alike}
use Rattle.auction_rules.proofs.HotelUnits.{open_stand}
use Rattle.auction_rules.proofs.Asks.{IsReached, ask_reached, enough_raises}
use Rattle.auction_rules.proofs.Outbids.{bid_entry, bid_keeps}

-- ---- what an admitted call shows

-- an admitted call that is no reading came before the close
still_open : (rules : Rules) (past : List Entry) (caller : ℕ) (call : Call) → is_own call ≡ false → refusal rules past caller call ≡ None → is_closed past ≡ false
still_open rules past caller call no_question h =
    by_test (is_closed past) (ap (λ (b : Bool). if not b && is_closed past then Some Closed else if is_wrong_caller caller call || is_wrong_place rules call then Some WrongCall else call_refusal rules past caller call) (sym no_question) ∙ h)
  where
    by_test : (b : Bool) → (if b then Some Closed else if is_wrong_caller caller call || is_wrong_place rules call then Some WrongCall else call_refusal rules past caller call) ≡ None → b ≡ false
    by_test true g = cc
    by_test false g = refl

-- an admitted bid is not below the quote
admitted_beats : (rooms : ℕ) (live : Bool) (past : List Entry) (caller : ℕ) (points : List Point) → refusal (HotelRules rooms live) past caller (Bid points) ≡ None → nat_lt (offered points (quote_to_beat rooms live past)) (need rooms live past caller) ≡ false
admitted_beats rooms live past caller points h =
    by_tests (is_closed past) (is_wrong_caller caller (Bid points) || is_wrong_place (HotelRules rooms live) (Bid points)) (sells points) (nat_lt (offered points (quote_to_beat rooms live past)) (need rooms live past caller)) h
  where
    below : Reply
    below = BelowQuote (need rooms live past caller) (quote_to_beat rooms live past) (offered points (quote_to_beat rooms live past))

    by_tests : (a b c d : Bool) → (if a then Some Closed else if b then Some WrongCall else if c then Some Sell else if d then Some below else None) ≡ None → d ≡ false
    by_tests true b c d g = cc
    by_tests false true c d g = cc
    by_tests false false true d g = cc
    by_tests false false false true g = cc
    by_tests false false false false g = refl

-- a call that a hotel does not have is refused
no_place : (rooms : ℕ) (live : Bool) (past : List Entry) (caller : ℕ) (call : Call) → is_wrong_place (HotelRules rooms live) call ≡ true → refusal (HotelRules rooms live) past caller call ≡ None → ⊥
no_place rooms live past caller call wrong h = by_tests (not (is_own call) && is_closed past) (is_wrong_caller caller call) (is_wrong_place (HotelRules rooms live) call) wrong h
  where
    by_tests : (a b c : Bool) → c ≡ true → (if a then Some Closed else if b || c then Some WrongCall else call_refusal (HotelRules rooms live) past caller call) ≡ None → ⊥
    by_tests true b c is g = cc
    by_tests false true c is g = cc
    by_tests false false true is g = cc
    by_tests false false false is g = cc

-- ---- one entry more

-- in an open hotel as many units as there are rooms have the published price or more, or it is 0
abbrev pub IsBacked : ℕ → Bool → List Entry → Type 0
IsBacked rooms live past = is_closed past ≡ false → IsReached rooms (stand (HotelRules rooms live) past) (published rooms live past)

module _ (setup : Setup) (rooms : ℕ) (live : Bool) (hotel : setup.rules ≡ HotelRules rooms live) (some_rooms : 1 ≤ rooms) where
  abbrev rules : Rules
  rules = HotelRules rooms live

  -- the price does not fall, and stays reached
  abbrev Keeps : List Entry → List Entry → Type 0
  Keeps past next = (published rooms live past ≤ published rooms live next) × IsBacked rooms live next

  idle_keeps : (past : List Entry) (e : Entry) → IsIdle e → IsBacked rooms live past → Keeps past (e ∷ past)
  idle_keeps past e idle backed =
      let price = idle_published past e idle rooms live in
      let standing = idle_stand past e idle rules in (
        omega (arith, price),
        λ opened. subst (λ (us : List BidUnit). IsReached rooms us (published rooms live (e ∷ past))) (sym standing)
            (subst (λ (n : ℕ). IsReached rooms (stand rules past) n) (sym price) (backed (sym (idle_closed past e idle) ∙ opened))),
      )

  -- the ask is no lower than a price that is reached
  ask_above : (units : List BidUnit) (price : ℕ) → IsReached rooms units price → price ≤ ask rooms units
  ask_above units price (inl zero_price) = omega arith
  ask_above units price (inr enough) = enough_raises rooms units price some_rooms enough

  bid_step : (past : List Entry) (caller : ℕ) (points : List Point) (bought sold : ℕ) (trades : List Trade) → refusal rules past caller (Bid points) ≡ None → IsBacked rooms live past →
      Keeps past (bid_entry caller points bought sold trades ∷ past)
  bid_step past caller points bought sold trades admitted backed = by_live live refl
    where
      opened : is_closed past ≡ false
      opened = still_open rules past caller (Bid points) refl admitted

      reached : IsReached rooms (stand rules (bid_entry caller points bought sold trades ∷ past)) (published rooms live past)
      reached = bid_keeps rooms live past caller points bought sold trades opened (admitted_beats rooms live past caller points admitted) (backed opened)

      by_live : (b : Bool) → live ≡ b → Keeps past (bid_entry caller points bought sold trades ∷ past)
      by_live true is =
          let now : published rooms live (bid_entry caller points bought sold trades ∷ past) ≡ ask rooms (stand rules (bid_entry caller points bought sold trades ∷ past)) = at_test live is in
          let above = ask_above (stand rules (bid_entry caller points bought sold trades ∷ past)) (published rooms live past) reached in
          (omega (arith, now, above), λ _. subst (λ (n : ℕ). IsReached rooms (stand rules (bid_entry caller points bought sold trades ∷ past)) n) (sym now) (ask_reached rooms (stand rules (bid_entry caller points bought sold trades ∷ past))))
        where
          at_test : (b : Bool) → b ≡ true → cond b (ask rooms (stand rules (bid_entry caller points bought sold trades ∷ past))) (published rooms live past) ≡ ask rooms (stand rules (bid_entry caller points bought sold trades ∷ past))
          at_test b h = rw h refl
      by_live false is =
          let now : published rooms live (bid_entry caller points bought sold trades ∷ past) ≡ published rooms live past = at_test live is in
          (omega (arith, now), λ _. subst (λ (n : ℕ). IsReached rooms (stand rules (bid_entry caller points bought sold trades ∷ past)) n) (sym now) reached)
        where
          at_test : (b : Bool) → b ≡ false → cond b (ask rooms (stand rules (bid_entry caller points bought sold trades ∷ past))) (published rooms live past) ≡ published rooms live past
          at_test b h = rw h refl

  abbrev publish_entry : ℕ → List Trade → Entry
  publish_entry caller trades = record { caller = caller; call = Publish; reply = Done; trades = trades }

  publish_step : (past : List Entry) (caller : ℕ) (trades : List Trade) → refusal rules past caller Publish ≡ None → IsBacked rooms live past → Keeps past (publish_entry caller trades ∷ past)
  publish_step past caller trades admitted backed =
      (ask_above (stand rules past) (published rooms live past) (backed opened), λ _. subst (λ (us : List BidUnit). IsReached rooms us (ask rooms (stand rules past))) (sym standing) (ask_reached rooms (stand rules past)))
    where
      opened : is_closed past ≡ false
      opened = still_open rules past caller Publish refl admitted

      standing : stand rules (publish_entry caller trades ∷ past) ≡ stand rules past
      standing =
          open_stand rooms live (publish_entry caller trades ∷ past) opened
          ∙ ap units_of_bids (agents_alike (λ a. last_bid a (publish_entry caller trades ∷ past)) (λ a. last_bid a past) (λ a le. either_same (caller == a) (last_bid a past)))
          ∙ sym (open_stand rooms live past opened)

  abbrev close_entry : ℕ → Reply → List Trade → Entry
  close_entry caller reply trades = record { caller = caller; call = Close; reply = reply; trades = trades }

  close_step : (past : List Entry) (caller rooms_sold price : ℕ) (trades : List Trade) → refusal rules past caller Close ≡ None → IsBacked rooms live past →
      Keeps past (close_entry caller (Sold rooms_sold price) trades ∷ past)
  close_step past caller rooms_sold price trades admitted backed =
      (ask_above (stand rules past) (published rooms live past) (backed (still_open rules past caller Close refl admitted)), λ opened. absurd (false≢true (sym opened)))

  -- an admitted call
  admitted_step : (past : List Entry) (caller : ℕ) (call : Call) → refusal rules past caller call ≡ None → IsBacked rooms live past →
      Keeps past (record { caller = caller; call = call; reply = admitted_reply setup past caller call; trades = admitted_trades setup past caller call } ∷ past)
  admitted_step past caller (Bid points) h backed =
      let trades = admitted_trades setup past caller (Bid points) in bid_step past caller points (bought trades caller) (sold trades caller) trades h backed
  admitted_step past caller Withdraw h backed = absurd (no_place rooms live past caller Withdraw refl h)
  admitted_step past caller OwnCall h backed =
      idle_keeps past (record { caller = caller; call = OwnCall; reply = Own (holding setup past caller) (standing_points_of setup.rules past caller); trades = admitted_trades setup past caller OwnCall }) refl backed
  admitted_step past caller (Update tick draw) h backed = absurd (no_place rooms live past caller (Update tick draw) refl h)
  admitted_step past caller Publish h backed = publish_step past caller (admitted_trades setup past caller Publish) h backed
  admitted_step past caller Close h backed =
      let trades = admitted_trades setup past caller Close in
      subst (λ (reply : Reply). Keeps past (close_entry caller reply trades ∷ past)) (sym (ap (λ (r : Rules). close_reply r past) hotel))
      (close_step past caller (sold_units rooms (stand rules past)) (ask rooms (stand rules past)) trades h backed)

  step : (past : List Entry) (caller : ℕ) (call : Call) → IsBacked rooms live past → Keeps past (entry_of setup past caller call ∷ past)
  step past caller call backed = by_refusal (refusal setup.rules past caller call) refl
    where
      by_refusal : (refused : Option Reply) → refusal setup.rules past caller call ≡ refused → Keeps past (entry_by setup past caller call refused ∷ past)
      by_refusal (Some reply) h = idle_keeps past (refused_entry caller call reply) (idle_refused (refused_entry caller call reply) (refusal_refuses setup.rules past caller call reply h)) backed
      by_refusal None h = admitted_step past caller call (ap (λ (r : Rules). refusal r past caller call) (sym hotel) ∙ h) backed

  -- the same after every legal past
  pub published_backed : (past : List Entry) → IsLawful setup past → IsBacked rooms live past
  published_backed [] lawful = λ _. inl refl
  published_backed (e ∷ past) lawful = subst (λ (x : Entry). IsBacked rooms live (x ∷ past)) (sym lawful.0) (step past e.caller e.call (published_backed past lawful.1)).1

  -- no call lowers the published price
  pub published_does_not_fall : (past : List Entry) (caller : ℕ) (call : Call) → IsLawful setup past → published rooms live past ≤ published rooms live (entry_of setup past caller call ∷ past)
  published_does_not_fall past caller call lawful = (step past caller call (published_backed past lawful)).0

-- The ask of a hotel, which by the game description is the price that all winning units pay, and its published price. That a closing
-- publishes too, and that quotes may be live, are our own rules.
use Rattle.std.specs.Prelude.{ℕ, max, Bool, true, false, ◌&&◌, nat_le, if◌then◌else◌, List, [], ◌∷◌, map, filter, fold, count_by}
use Rattle.tac_base.specs.declared.calls.Call.{Call}
use Rattle.tac_base.specs.declared.calls.Call.TheVariants.{Publish, Close}
use Rattle.auction_rules.specs.declared.units.BidUnit.{BidUnit}
use Rattle.auction_rules.specs.declared.rules.Rules.TheVariants.{Hotel as HotelRules}
use Rattle.auction_rules.specs.History.{Entry, is_admission, is_bid}
use Rattle.auction_rules.specs.Standing.{standing_units}

-- The ask is the highest price at or above which there are at least as many standing units as the night has rooms. If fewer units
-- stand than there are rooms, it is 0.
-- Row: two_bids_win_until_the_closing (worked_rows/proofs/Auctions.antt)
-- Row: price_of_the_last_room_is_paid_for_all (worked_rows/proofs/Auctions.antt)
abbrev pub ask : ℕ → List BidUnit → ℕ
ask rooms units = fold max 0 (map (λ u. u.price) (filter (λ u. nat_le rooms (count_by (λ v. nat_le u.price v.price) units)) units))

-- `Publish` and `Close` publish the ask of the units that stood before them.
abbrev pub publishes : Call → Bool
publishes Publish = true
publishes Close = true
publishes call = false

-- The published price is the ask at the last admitted `Publish` or `Close`, and 0 before the first. If quotes are live, each admitted
-- bid also publishes the ask, computed with the new bid in place of the agent's old one: over the units that stand after `e`, and not
-- before.
-- Row: ask_is_shown_when_published_or_closed (worked_rows/proofs/Auctions.antt)
-- Row: live_bid_must_beat_the_last_one (worked_rows/proofs/Auctions.antt)
abbrev pub published_price : ℕ → Bool → List Entry → ℕ
published_price rooms live [] = 0
published_price rooms live (e ∷ past) =
    if is_admission e.reply && publishes e.call then ask rooms (standing_units (HotelRules rooms live) past)
    else if is_admission e.reply && (is_bid e.call && live) then ask rooms (standing_units (HotelRules rooms live) (e ∷ past))
    else published_price rooms live past

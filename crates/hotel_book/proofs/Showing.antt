-- What the ranked units of a hotel give, where it stands for a past.
use Rattle.std.proofs.Common.{◌≡◌, ℕ, ◌≤◌, List, [], ◌∷◌, refl, map, length, sym, ap, ◌∙◌, subst, arith, sum_by, IsPermutation}
use Rattle.std.proofs.lemmas.List.Sums.{sum_by-cons}
use Rattle.hotel_book.specs.{Unit as ShownUnit, BidUnit, Setup, Rules, Hotel as HotelRules, Entry, shown_unit, AreShown, stand, ask, winning, AreRanked, AreSortedUnits, last_price, won, HotelBook, HotelStandsFor, standing}
use Rattle.auction_rules.proofs.HotelUnits.{InOrder, stand_ordered}
use Rattle.auction_rules.proofs.Shown.{permuted}
use Rattle.hotel_book.proofs.Keeping.{stands_is}
use Rattle.hotel_book.proofs.Winners.{ask_is, winning_is, in_order}

ones : {A : Type 0} (xs : List A) → sum_by (λ _. 1) xs ≡ length xs
ones [] = refl
ones (x ∷ xs) = sum_by-cons (λ _. 1) x xs ∙ rw (ones xs) (omega arith)

module _ (setup : Setup) (past : List Entry) (book : HotelBook) (units : List ShownUnit) (stood : HotelStandsFor book setup past) (shown : AreShown (standing book.bids book.closed) units) where
  shows : AreShown (stand setup.rules past) units
  shows = subst (λ (us : List BidUnit). AreShown us units) (sym (stands_is setup past book stood)) shown

  ordered : InOrder (stand setup.rules past)
  ordered = subst (λ (rules : Rules). InOrder (stand rules past)) (sym stood.rules) (stand_ordered book.rooms book.live past)

  pub permutes : IsPermutation (map shown_unit (stand setup.rules past)) units
  permutes = permuted (stand setup.rules past) units shows

  pub as_many : length units ≡ length (stand setup.rules past)
  as_many = sym (ones units) ∙ shows (λ _. 1) ∙ ones (stand setup.rules past)

  module _ (sorted : AreSortedUnits units) where
    pub follow : AreRanked units
    follow = in_order (stand setup.rules past) units shows ordered sorted

    pub asked : 1 ≤ book.rooms → last_price book.rooms units ≡ ask book.rooms (stand setup.rules past)
    asked some = ask_is book.rooms (stand setup.rules past) units some shows sorted

    pub wins : (agent : ℕ) → won book.rooms units agent ≡ winning book.rooms (stand setup.rules past) agent
    wins agent = winning_is book.rooms (stand setup.rules past) units agent shows ordered sorted

    pub wins_by_rules : (agent : ℕ) → won book.rooms units agent ≡ winning book.rooms (stand (HotelRules book.rooms book.live) past) agent
    wins_by_rules agent = wins agent ∙ ap (λ (rules : Rules). winning book.rooms (stand rules past) agent) stood.rules

-- What the parties hold before any call.
use Rattle.std.proofs.Common.{◌≡◌, ℕ, zero, suc, ◌<◌, ◌≤◌, List, [], ◌∷◌, ◌++◌, length, map, get_or, refl, sym, ap, subst, arith, Bool, true, false, ℤ, pos, ◌+ℤ◌, ◌≤ℤ◌, nat_lt, All}
use Rattle.std.proofs.lemmas.Bool.Decides.{nat_tests}
use Rattle.std.specs.List.{AllByRecursion}
use Rattle.std.proofs.lemmas.Int.{ints}
use Rattle.std.proofs.lemmas.List.{get_or_past}
use Rattle.std.proofs.lemmas.List.Elements.{recursion_from_All}
use Rattle.tac_base.specs.declared.calls.Entry.{Entry as StoredEntry}
use Rattle.auction_core.specs.{Trade, IsEndowment, Setup, Rules, all_trades, traded, Stands, units_left, held_by, AreInRange, AreEndowed, IsAuctionSound}
use Rattle.flight_auction.specs.Book as flights
use Rattle.hotel_book.specs.Book as hotels
use Rattle.auction_core.specs.declared.book.Book.{Book}
use Rattle.auction_core.specs.declared.book.Book.TheVariants.{Flight, Hotel, Tickets}

same : (z : ℤ) → z ≡ z +ℤ pos 0
same z = omega (arith, ints)

-- the agents' endowments, and nothing for the house
pub held_at_first : (good : ℕ) (rules : Rules) (endow : List ℤ) → length endow ≡ 8 → endow ++ pos 0 ∷ [] ≡ held_by (record { good = good; rules = rules; endow = endow }) []
held_at_first good rules (a ∷ b ∷ c ∷ d ∷ e ∷ f ∷ g ∷ h ∷ []) eight = λ k. same a k ∷ same b k ∷ same c k ∷ same d k ∷ same e k ∷ same f k ∷ same g k ∷ same h k ∷ pos 0 ∷ []
held_at_first good rules [] eight = absurd (omega arith)
held_at_first good rules (a ∷ []) eight = absurd (omega arith)
held_at_first good rules (a ∷ b ∷ []) eight = absurd (omega arith)
held_at_first good rules (a ∷ b ∷ c ∷ []) eight = absurd (omega arith)
held_at_first good rules (a ∷ b ∷ c ∷ d ∷ []) eight = absurd (omega arith)
held_at_first good rules (a ∷ b ∷ c ∷ d ∷ e ∷ []) eight = absurd (omega arith)
held_at_first good rules (a ∷ b ∷ c ∷ d ∷ e ∷ f ∷ []) eight = absurd (omega arith)
held_at_first good rules (a ∷ b ∷ c ∷ d ∷ e ∷ f ∷ g ∷ []) eight = absurd (omega arith)
held_at_first good rules (a ∷ b ∷ c ∷ d ∷ e ∷ f ∷ g ∷ h ∷ i ∷ more) eight = absurd (omega arith)

-- ---- what the agents are endowed with

IsFew : ℤ → Type 0
IsFew z = (pos 0 ≤ℤ z) × (z ≤ℤ pos 16)

nothing_few : IsFew (pos 0)
unfolding IsFew
nothing_few = (omega (arith, ints), omega (arith, ints))

pub tickets_endowed : (endow : List (List ℕ)) (place : ℕ) → All IsEndowment endow → AreEndowed (map (λ tickets. pos (get_or tickets place 0)) endow)
unfolding IsFew
tickets_endowed endow place h = each endow (recursion_from_All IsEndowment endow h)
  where
    few : (n : ℕ) → n ≤ 16 → IsFew (pos n)
    few n le = (omega (arith, ints), omega (arith, ints))

    at_place : (tickets : List ℕ) → IsEndowment tickets → get_or tickets place 0 ≤ 16
    at_place tickets is = by_place (nat_lt place (length tickets)) refl
      where
        by_place : (b : Bool) → nat_lt place (length tickets) ≡ b → get_or tickets place 0 ≤ 16
        by_place true inside = let lt : place < length tickets = grind (arith, nat_tests) in (is.range place 0 lt).1
        by_place false past = let le : length tickets ≤ place = grind (arith, nat_tests) in subst (λ (n : ℕ). n ≤ 16) (sym (get_or_past tickets place 0 le)) (omega arith)

    each : (lists : List (List ℕ)) → AllByRecursion IsEndowment lists → (agent : ℕ) → IsFew (get_or (map (λ tickets. pos (get_or tickets place 0)) lists) agent (pos 0))
    each [] k agent = nothing_few
    each (tickets ∷ lists) k zero = few (get_or tickets place 0) (at_place tickets k.0)
    each (tickets ∷ lists) k (suc agent) = each lists k.1 agent

-- ---- an auction before any call

first_units : (book : Book) (setup : Setup) → Stands book setup [] → units_left book ≤ 128
first_units (Flight book) setup stands = let none : flights.flight_units_left book ≡ 0 = ap flights.flight_units_left stands.kept in omega (arith, none)
first_units (Hotel book) setup stands = let all : hotels.hotel_units_left book ≡ 128 = ap hotels.hotel_units_left stands.kept in omega (arith, all)
first_units (Tickets book) setup stands = omega arith

pub sound_at_first : (setup : Setup) (book : Book) (held : List ℤ) (entries : List StoredEntry) (trades : List Trade) (entry_room trade_room : ℕ) → AreInRange setup.rules → AreEndowed setup.endow → Stands book setup [] →
    held ≡ held_by setup [] → entries ≡ [] → trades ≡ [] → 8256 ≤ entry_room → 132224 ≤ trade_room → IsAuctionSound setup book held entries trades entry_room trade_room
sound_at_first setup book held entries trades entry_room trade_room ranged endowed stands holds no_entries no_trades enough plenty =
    subst (λ (es : List StoredEntry). IsAuctionSound setup book held es trades entry_room trade_room) (sym no_entries)
    (subst (λ (ts : List Trade). IsAuctionSound setup book held [] ts entry_room trade_room) (sym no_trades)
    (record {
      kept = record {
        ranged = ranged;
        endowed = endowed;
        legal = record { lawful = tt; called = tt; capped = λ caller le. omega arith };
        stands = stands;
        held = holds;
        few = let none : traded (all_trades []) ≡ 0 = refl in omega (arith, none, first_units book setup stands);
        loggable = tt;
        told = tt;
      };
      stored = record { chained = tt; whole = refl; some = omega arith };
      entry_room = enough;
      trade_room = plenty;
    }))

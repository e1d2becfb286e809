-- What clauses say of a floor.
use Rattle.std.specs.Prelude.{◌≡◌, List, [], ◌∷◌, map, replicate, IsPermutation}
use Rattle.floor.specs.Prelude.{CALLERS, AuctionHistory, CashEntry, LockId, lock_id, start_of}
use Rattle.floor.specs.declared.floor.Floor.{Floor}
use Rattle.floor.specs.declared.desk.Desk.{Desk}
use Rattle.floor.specs.Desks.{desk_ids, desk_caller}

-- the locks of the floor: those of the auctions, in the order of goods, and that of the cash book
abbrev pub floor_ids : Floor → List (LockId AuctionHistory) × LockId (List CashEntry)
floor_ids f = (map (λ lock. lock_id lock) f.auctions.items, lock_id f.cash)

-- the auctions that the floor was made with
abbrev pub starts_of : Floor → List AuctionHistory
starts_of f = map (λ lock. start_of lock) f.auctions.items

-- the nine desks of the floor, in the order of callers
abbrev pub AreDesksOf : Floor → List Desk → Type 0
AreDesksOf f desks =
    (map (λ d. desk_ids d) desks ≡ replicate CALLERS (floor_ids f)) × (map (λ d. desk_caller d) desks ≡ 0 ∷ 1 ∷ 2 ∷ 3 ∷ 4 ∷ 5 ∷ 6 ∷ 7 ∷ 8 ∷ [])

-- the same desks in any order
abbrev pub AreAllDesksOf : Floor → List Desk → Type 0
AreAllDesksOf f desks =
    (map (λ d. desk_ids d) desks ≡ replicate CALLERS (floor_ids f)) × IsPermutation (0 ∷ 1 ∷ 2 ∷ 3 ∷ 4 ∷ 5 ∷ 6 ∷ 7 ∷ 8 ∷ []) (map (λ d. desk_caller d) desks)

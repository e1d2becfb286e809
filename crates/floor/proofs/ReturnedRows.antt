-- What the desks' passes left at the locks, and that it holds of the closed game.
use Rattle.std.proofs.Common.{◌≡◌, ℕ, zero, suc, ◌<◌, ◌≤◌, List, [], ◌∷◌, ◌++◌, map, fold, length, get_or, replicate, refl, sym, ap, ◌∙◌, subst, arith, Contains, IsPermutation}
use Rattle.std.proofs.lemmas.List.{length-map, get_or-replicate}
use Rattle.std.specs.List.{AllByRecursion}
use Rattle.std.proofs.lemmas.List.Sorted.{Contains-permutation}
use mathlib.Core.Option.{some, some-injective}
use lib.ListN.{get_elem?}
use Rattle.atomic_table.proofs.Lists.{at_map}
use Rattle.floor.specs.{Entry, Legal, AuctionHistory, Returned, part, caller_of, made_by, noted_by, returned_by, AreNotes, AreKnown, CashEntry, HoldSame, posts_of, due_posts, Matched, desk_caller, desk_entries, desk_cash, boards_of, with_each, IsGivenBack, IsBorneOut, board_of}
use Rattle.turn_lock.proofs.Places.{place_below}
use Rattle.trade_ledger.proofs.Matching.{parts_of, matched_by_parts}
use Rattle.floor.specs.declared.desk.Desk.{Desk}
use Rattle.floor.proofs.Tables.{gathered_at}
use Rattle.floor.proofs.BornOut.{get_or_place, maps_agree, boards_by_place, called_by_place}
use Rattle.floor.proofs.FreshPasses.{at_replicate}

at_some : {A : Type 0} (xs : List A) (k : ℕ) → k < length xs → (x : A) × (get_elem? xs k ≡ some x)
at_some [] k inside = absurd (omega arith)
at_some (x ∷ xs) zero inside = (x, refl)
at_some (x ∷ xs) (suc k) inside = at_some xs k (omega arith)

abbrev nothing_returned : Returned Entry
nothing_returned = record { caller = 0; mine = []; notes = [] }

-- what the desk's pass of a good leaves
abbrev pub returned_at : Desk → ℕ → Returned Entry
returned_at d good = get_or (map (λ p. returned_by p) d.passes.items) good nothing_returned

abbrev who : Entry → ℕ
who e = e.caller

abbrev by : CashEntry → ℕ
by e = e.caller

-- the rows after all desks' passes were taken back
abbrev pub gathered : List Desk → List (List (Returned Entry))
gathered desks = fold (λ (rows : List (List (Returned Entry))) (d : Desk). with_each rows (map (λ p. returned_by p) d.passes.items)) (replicate 28 []) desks

pub rows_returned : (desks : List Desk) (good : ℕ) → good < 28 → get_or (gathered desks) good [] ≡ map (λ d. returned_at d good) desks
rows_returned desks good inside =
    gathered_at (λ (d : Desk). map (λ p. returned_by p) d.passes.items) desks (replicate 28 []) good nothing_returned
    (λ i d at. length-map d.passes.items (λ p. returned_by p) ∙ (sym (length-map d.passes.items (λ p. made_by p)) ∙ d.kept.goods)) inside
    ∙ ap (λ (l : List (Returned Entry)). l ++ map (λ d. returned_at d good) desks) (get_or-replicate {A = List (Returned Entry)} 28 good [] [] inside)

module _ {L : Type 0} (start : L → AuctionHistory) (passes : L → ℕ) (returned : L → List (Returned Entry)) (locks : List L) (desks : List Desk)
    (nine : map passes locks ≡ replicate 28 9) (rows : map returned locks ≡ gathered desks) where
  pub wide_locks : length locks ≡ 28
  wide_locks = sym (length-map locks passes) ∙ ap length nine

  row_of : (good : ℕ) (lock : L) → get_elem? locks good ≡ some lock → returned lock ≡ map (λ d. returned_at d good) desks
  row_of good lock at =
      sym (get_or_place (gathered desks) good (returned lock) [] (ap (λ (l : List (List (Returned Entry))). get_elem? l good) (sym rows) ∙ at_map returned locks good lock at))
      ∙ rows_returned desks good (omega (arith, place_below locks good lock at, wide_locks))

  count_of : (good : ℕ) (lock : L) → get_elem? locks good ≡ some lock → 9 ≡ passes lock
  count_of good lock at = at_replicate 28 9 (passes lock) good (ap (λ (l : List ℕ). get_elem? l good) (sym nine) ∙ at_map passes locks good lock at)

  -- all passes of a lock are back if the desks are nine
  pub all_back : length desks ≡ 9 → (good : ℕ) (lock : L) → get_elem? locks good ≡ some lock → length (returned lock) ≡ passes lock
  all_back all good lock at = ap length (row_of good lock at) ∙ (length-map desks (λ d. returned_at d good) ∙ (all ∙ count_of good lock at))

  -- what each lock gave back, by good
  pub given_by_good : (auctions : List AuctionHistory) → length auctions ≡ length locks
      → ((good : ℕ) (lock : L) (a : AuctionHistory) → get_elem? locks good ≡ some lock → get_elem? auctions good ≡ some a → IsGivenBack (start lock) (passes lock) (returned lock) a)
      → (good : ℕ) (a : AuctionHistory) → get_elem? auctions good ≡ some a → (lock : L) × (get_elem? locks good ≡ some lock) × IsGivenBack (start lock) 9 (map (λ d. returned_at d good) desks) a
  given_by_good auctions long given good a at =
      let inside = place_below auctions good a at in let here = at_some locks good (omega arith) in
      (here.0, here.1, subst (λ (t : ℕ × List (Returned Entry)). IsGivenBack (start here.0) t.0 t.1 a) (λ k. (sym (count_of good here.0 here.1) k, row_of good here.0 here.1 k)) (given good here.0 a here.1 at))

module _ (desks : List Desk) (auctions : List AuctionHistory) (cash : List CashEntry) (long : length auctions ≡ 28)
    (known : (good : ℕ) (a : AuctionHistory) → get_elem? auctions good ≡ some a → AreKnown (board_of a) who a.history (map (λ d. returned_at d good) desks))
    (cash_known : (k : ℕ) (d : Desk) → get_elem? desks k ≡ some d → desk_cash d ≡ part by cash (desk_caller d)) where
  wide : (d : Desk) → length d.passes.items ≡ 28
  wide d = sym (length-map d.passes.items (λ p. made_by p)) ∙ d.kept.goods

  pub borne_out : (k : ℕ) (d : Desk) → get_elem? desks k ≡ some d → IsBorneOut (record { auctions = auctions; cash = cash }) d
  borne_out k d at = record {
    entries = maps_agree (λ p. made_by p) (λ a. part who a.history (desk_caller d)) d.passes.items auctions (wide d ∙ sym long)
        (λ good p a at_p at_a.
        let left : returned_at d good ≡ returned_by p = get_or_place (map (λ q. returned_by q) d.passes.items) good (returned_by p) nothing_returned (at_map (λ q. returned_by q) d.passes.items good p at_p) in
        let caller : caller_of p ≡ desk_caller d = sym (at_replicate 28 (desk_caller d) (caller_of p) good (ap (λ (l : List ℕ). get_elem? l good) (sym d.kept.own) ∙ at_map (λ q. caller_of q) d.passes.items good p at_p)) in
        let mine = (known good a at_a k (returned_at d good) (at_map (λ x. returned_at x good) desks k d at)).0 in
        ap (λ (r : Returned Entry). r.mine) (sym left) ∙ (mine ∙ ap (part who a.history) (ap (λ (r : Returned Entry). r.caller) left ∙ caller)));
    cash = cash_known k d at;
    boards = boards_by_place auctions (boards_of d) (long ∙ sym (length-map d.passes.items (λ p. noted_by p) ∙ wide d))
        (λ good a seen at_a at_seen.
        let here = at_some d.passes.items good (omega (arith, place_below auctions good a at_a, wide d)) in let p = here.0 in
        let left : returned_at d good ≡ returned_by p = get_or_place (map (λ q. returned_by q) d.passes.items) good (returned_by p) nothing_returned (at_map (λ q. returned_by q) d.passes.items good p here.1) in
        let is : noted_by p ≡ seen = some-injective (noted_by p) seen (sym (at_map (λ q. noted_by q) d.passes.items good p here.1) ∙ at_seen) in
        subst (AreNotes (board_of a) a.history (length a.history)) (ap (λ (r : Returned Entry). r.notes) left ∙ is) (known good a at_a k (returned_at d good) (at_map (λ x. returned_at x good) desks k d at)).1);
  }

  nine_callers : (c : ℕ) → c ≤ 8 → Contains (0 ∷ 1 ∷ 2 ∷ 3 ∷ 4 ∷ 5 ∷ 6 ∷ 7 ∷ 8 ∷ []) c
  nine_callers zero low = (0, omega arith, refl)
  nine_callers (suc zero) low = (1, omega arith, refl)
  nine_callers (suc (suc zero)) low = (2, omega arith, refl)
  nine_callers (suc (suc (suc zero))) low = (3, omega arith, refl)
  nine_callers (suc (suc (suc (suc zero)))) low = (4, omega arith, refl)
  nine_callers (suc (suc (suc (suc (suc zero))))) low = (5, omega arith, refl)
  nine_callers (suc (suc (suc (suc (suc (suc zero)))))) low = (6, omega arith, refl)
  nine_callers (suc (suc (suc (suc (suc (suc (suc zero))))))) low = (7, omega arith, refl)
  nine_callers (suc (suc (suc (suc (suc (suc (suc (suc zero)))))))) low = (8, omega arith, refl)
  nine_callers (suc (suc (suc (suc (suc (suc (suc (suc (suc c))))))))) low = absurd (omega arith)

  histories_of : (all : List AuctionHistory) (c : ℕ) → parts_of (map (λ a. a.history) all) c ≡ map (λ a. part who a.history c) all
  histories_of [] c = refl
  histories_of (a ∷ all) c = ap (λ (l : List (List (ℕ × Entry))). part who a.history c ∷ l) (histories_of all c)

  -- the posts of each desk are those that are due to its own entries; so the whole cash history is matched
  pub all_matched : IsPermutation (0 ∷ 1 ∷ 2 ∷ 3 ∷ 4 ∷ 5 ∷ 6 ∷ 7 ∷ 8 ∷ []) (map (λ d. desk_caller d) desks) → ((good : ℕ) (a : AuctionHistory) → get_elem? auctions good ≡ some a → Legal a.setup a.history)
      → AllByRecursion (λ (e : CashEntry). e.caller ≤ 8) cash → Matched (map (λ a. a.history) auctions) cash
  all_matched callers legal called = matched_by_parts (map (λ a. a.history) auctions) cash (called_by_place auctions (λ good a at. (legal good a at).called)) called
      (λ c low.
      let found = Contains-permutation _ (map (λ x. desk_caller x) desks) c callers (nine_callers c low) in
      let here = at_some desks found.0 (omega (arith, found.1, length-map desks (λ x. desk_caller x))) in let d = here.0 in let borne = borne_out found.0 d here.1 in
      let is : desk_caller d ≡ c = sym (get_or_place (map (λ x. desk_caller x) desks) found.0 (desk_caller d) c (at_map (λ x. desk_caller x) desks found.0 d here.1)) ∙ found.2 in
      let entries : desk_entries d ≡ parts_of (map (λ a. a.history) auctions) c = borne.entries ∙ (ap (λ (j : ℕ). map (λ a. part who a.history j) auctions) is ∙ sym (histories_of auctions c)) in
      subst (λ (t : List (ℕ × CashEntry) × List (List (ℕ × Entry))). HoldSame (posts_of (map (λ p. p.1) t.0)) (due_posts t.1)) (λ i. ((cash_known found.0 d here.1 ∙ ap (part by cash) is) i, entries i)) d.kept.posted)

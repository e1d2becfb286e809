-- What calls found in a log and in a table of boards.
use Rattle.std.proofs.Common.{◌≡◌, ℕ, zero, suc, ◌<◌, List, [], ◌∷◌, length, map, get_or, Option, Some, None, Bor, refl, sym, ap, ◌∙◌, subst, arith, IsSome, slice_get, slice_index, slice_index_or, option_copied}
use Rattle.std.specs.Global.{Vec}
use Rattle.std.proofs.lemmas.Option.{get_or_from_slice_get}
use Rattle.link_audit.specs.{Board, IsShown, Shows, LoggedGame, logged_history, entry_caller, rest_of, HasNext}
use Rattle.tac_base.specs.declared.calls.Entry.{Entry as StoredEntry}
use Rattle.auction_rules.specs.History.{Entry}

-- the agent's next entry at a good, as it is stored
pub record IsFound (log : LoggedGame) (from : List ℕ) (agent good position : ℕ) (shown : StoredEntry) : Type 0 where
  pub entry : Entry
  pub at : slice_get (logged_history log good) position ≡ Some entry
  pub next : HasNext entry_caller agent (slice_index from good) (logged_history log good) position entry
  pub shows : Shows (logged_history log good) position entry shown

module _ (log : LoggedGame) (from : List ℕ) (agent good row : ℕ) (found : List Entry) (same : row ≡ good) (there : slice_get log.histories good ≡ Some found) where
  here : logged_history log good ≡ found
  here = get_or_from_slice_get log.histories good found [] there

  pub none_found : rest_of entry_caller agent (slice_index from row) found ≡ [] → rest_of entry_caller agent (slice_index from good) (logged_history log good) ≡ []
  none_found none =
      let P : ℕ → List Entry → Type 0 = λ r h. rest_of entry_caller agent (slice_index from r) h ≡ [] in
      subst (λ (h : List Entry). P good h) (sym here) (subst (λ (r : ℕ). P r found) same none)

  pub left_at : (position : ℕ) (e : Entry) → HasNext entry_caller agent (slice_index from row) found position e → HasNext entry_caller agent (slice_index from good) (logged_history log good) position e
  left_at position e next =
      let P : ℕ → List Entry → Type 0 = λ r h. HasNext entry_caller agent (slice_index from r) h position e in
      subst (λ (h : List Entry). P good h) (sym here) (subst (λ (r : ℕ). P r found) same next)

  pub is_found : (position : ℕ) (e : Entry) (shown : StoredEntry) → slice_get found position ≡ Some e → HasNext entry_caller agent (slice_index from row) found position e → IsShown found position (Some shown)
      → IsFound log from agent good position shown
  is_found position e shown at next is =
      let alike : is.0 ≡ e = (let both : Some is.0 ≡ Some e = sym is.1 ∙ at in cc) in
      record {
        entry = e;
        at = subst (λ (h : List Entry). slice_get h position ≡ Some e) (sym here) at;
        next = left_at position e next;
        shows = subst (λ (w : List Entry × Entry). Shows w.0 position w.1 shown) (λ i. (sym here i, alike i)) is.2;
      }

-- an entry that is there is shown
pub some_shown : (history : List Entry) (position : ℕ) (shown : Option (Bor StoredEntry)) → position < length history → IsShown history position (option_copied shown) → IsSome shown
some_shown history position None inside is = absurd (omega (arith, inside, is))
some_shown history position (Some entry) inside is = refl

-- a row of a table
pub row_at : (boards : List (Vec Board)) (good : ℕ) (row : Vec Board) → good < length boards → row ≡ get_or boards good row → slice_index_or (map (λ r. r.items) boards) good [] ≡ row.items
row_at [] good row inside is = absurd (omega (arith, inside))
row_at (first ∷ boards) zero row inside is = ap (λ (r : Vec Board). r.items) (sym is)
row_at (first ∷ boards) (suc good) row inside is = row_at boards good row (omega (arith, inside)) is

-- The invariant of the table of a lock, between any two steps. Word 0 is how many tickets were drawn, word 1 is the packed board,
-- and the one slot has the state while no pass has the turn. Seat 0 is the lock's own, and the pass of caller c has seat c + 1.
use Rattle.std.specs.Prelude.{◌≡◌, ℕ, ◌+◌, ◌<◌, ◌≤◌, ◌⊎◌, List, [], ◌∷◌, length, sum_by, Some, None}
use mathlib.Core.Option.{some, none}
use mathlib.Core.Option.{Option as Option_}
use lib.ListN.{get_elem?}
use Rattle.atomic_table.specs.Table.{State}
use Rattle.tac_base.specs.declared.calls.Board.{Board}
use Rattle.tac_base.specs.declared.limits.TheConstants.{CALLERS}
use Rattle.turn_lock.specs.declared.view.View.{View}
use Rattle.turn_lock.specs.declared.view.Returned.{Returned}
use Rattle.turn_lock.specs.Part.{part}
use Rattle.turn_lock.specs.Notes.{AreNotes}
use Rattle.turn_lock.specs.BoardWord.{IsSmall, packed}

module _ {E : Type 0} where
  -- what each returned pass knew holds of the history: its own entries are its caller's part, and its notes are of prefixes
  abbrev pub AreKnown : (List E → Board) → (E → ℕ) → List E → List (Returned E) → Type 0
  AreKnown board caller_of history returned = (k : ℕ) (r : Returned E) → get_elem? returned k ≡ some r →
      (r.mine ≡ part caller_of history r.caller) × AreNotes board history (length history) r.notes

module _ {S G E : Type 0} where
  -- the view of a pass that was taken back
  abbrev pub spent : View S G E
  spent = record { start = None; live = 0; caller = 0; waits = 0; ticket = 0; seen = 0; mine = []; notes = []; held = None; passes = 0; returned = [] }

  -- the lock's own view, before any pass is made
  abbrev pub own_at_first : S → View S G E
  own_at_first start = record spent { start = Some start }

  -- the one view of the lock's own seat
  abbrev pub own_view : List (View S G E) → View S G E
  own_view [] = spent
  own_view (v ∷ vs) = v

  -- what a returned pass left holds of the history, and its seat is spent
  pub record IsReturned (board : List E → Board) (caller_of : E → ℕ) (history : List E) (views : List (View S G E)) (r : Returned E) : Type 0 where
    pub made : r.caller + 1 < length views
    pub spent : (v : View S G E) → get_elem? views (r.caller + 1) ≡ some v → v.live ≡ 0
    pub mine : r.mine ≡ part caller_of history r.caller
    pub notes : AreNotes board history (length history) r.notes

module _ {S G E : Type 0} (board : List E → Board) (caller_of : E → ℕ) (start : S) (setup : G) where
  -- what the pass at the seat i knows
  pub record KnowsPass (history : List E) (drawn i : ℕ) (v : View S G E) : Type 0 where
    pub seat : v.caller + 1 ≡ i
    -- the state that the lock was made with
    pub origin : v.start ≡ Some start
    -- its own entries are its caller's part of the history, below what it has seen
    pub mine : v.mine ≡ part caller_of history v.caller
    pub past : (k : ℕ) (p : ℕ × E) → get_elem? v.mine k ≡ some p → p.0 < v.seen
    pub seen : v.seen ≤ length history
    pub notes : AreNotes board history v.seen v.notes
    -- a ticket in use is not below the history's length, and is one that was drawn
    pub turn : v.waits ≡ 1 → (length history ≤ v.ticket) × (v.ticket < drawn)
    -- what it holds is the setup and the history, and then it is its turn
    pub held : (g : G) (h : List E) → v.held ≡ Some (g, h) → (v.waits ≡ 1) × (v.ticket ≡ length history) × (g ≡ setup) × (h ≡ history)

  -- what a seat knows; only the seat of a live pass knows something
  pub record Knows (history : List E) (drawn i : ℕ) (v : View S G E) : Type 0 where
    pub flags : (v.live ≤ 1) × (v.waits ≤ v.live)
    pub idle : v.live ≡ 0 → v.held ≡ None
    pub pass : v.live ≡ 1 → KnowsPass history drawn i v

module _ {S G E : Type 0} (setup : S → G) (history : S → List E) (legal : G → List E → Type 0) (board : G → List E → Board) (caller_of : E → ℕ) (start : S) where
  -- the state is in the slot and stands for the history, and no pass holds it; or the slot is empty, and a pass holds that history
  abbrev pub IsShelved : List (Option_ S) → List E → List (View S G E) → Type 0
  IsShelved homes h views =
      ((x : S) × (homes ≡ some x ∷ []) × (setup x ≡ setup start) × (history x ≡ h) × ((i : ℕ) (v : View S G E) → get_elem? views i ≡ some v → v.held ≡ None))
      ⊎ ((homes ≡ none ∷ []) × ((i : ℕ) × (v : View S G E) × (get_elem? views i ≡ some v) × (v.live ≡ 1) × (v.held ≡ Some (setup start, h))))

  -- the invariant, for a lock that was made with the state `start`
  pub record Turning (s : State S (View S G E)) : Type 0 where
    -- the history, how many tickets were drawn, and the lock's own view
    pub log : List E
    pub drawn : ℕ
    pub own : View S G E
    pub words : s.words ≡ drawn ∷ packed (board (setup start) log) ∷ []
    pub lawful : legal (setup start) log
    pub counted : (board (setup start) log).count ≡ length log
    pub small : IsSmall (board (setup start) log)
    -- one ticket for each entry, and one for each pass that waits; no two of these are the same
    pub tickets : drawn ≡ length log + sum_by (λ v. v.waits) s.views
    pub apart : (i j : ℕ) (v w : View S G E) → get_elem? s.views i ≡ some v → get_elem? s.views j ≡ some w → v.waits ≡ 1 → w.waits ≡ 1 → v.ticket ≡ w.ticket → i ≡ j
    -- the lock's own seat comes first, and each of at most 9 passes has one
    pub first : get_elem? s.views 0 ≡ some own
    pub quiet : own.live ≡ 0
    pub origin : own.start ≡ Some start
    pub seats : length s.views ≡ own.passes + 1
    pub few : own.passes ≤ CALLERS
    -- each pass is live or returned, and a caller without a pass has no entry
    pub lives : sum_by (λ v. v.live) s.views + length own.returned ≡ own.passes
    pub nobody_else : (c : ℕ) → own.passes ≤ c → part caller_of log c ≡ []
    pub each : (i : ℕ) (v : View S G E) → get_elem? s.views i ≡ some v → Knows (board (setup start)) caller_of start (setup start) log drawn i v
    pub returned : (k : ℕ) (r : Returned E) → get_elem? own.returned k ≡ some r → IsReturned (board (setup start)) caller_of log s.views r
    pub shelf : IsShelved s.homes log s.views

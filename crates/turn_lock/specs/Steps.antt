-- What the seat that makes a step on the table of a lock knows by it.
use Rattle.std.specs.Prelude.{◌≡◌, ◌≢◌, ℕ, ◌+◌, ◌%◌, ◌≤◌, List, [], ◌∷◌, ◌++◌, length, Option, Some, None}
use Rattle.atomic_table.specs.Table.{Me, Step}
use Rattle.tac_base.specs.declared.calls.Board.{Board}
use Rattle.turn_lock.specs.declared.kept.Kept.{Ghosts}
use Rattle.turn_lock.specs.declared.view.View.{View}
use Rattle.turn_lock.specs.declared.view.Returned.{Returned}
use Rattle.turn_lock.specs.Part.{part}
use Rattle.turn_lock.specs.BoardWord.{unpacked}
use Rattle.turn_lock.specs.TurnRule.{spent}

module _ {S G E : Type 0} where
  -- the view with a ticket that is not used up
  abbrev pub ticketed : View S G E → ℕ → View S G E
  ticketed v ticket = record v { waits = 1; ticket = ticket }

  -- the view with the turn, at a setup and a history
  abbrev pub at_turn : View S G E → G → List E → View S G E
  at_turn v g h = record v { held = Some (g, h) }

  -- the view after its turn, which left this history
  abbrev pub turned : (E → ℕ) → View S G E → List E → View S G E
  turned caller_of v h = record v { waits = 0; seen = length h; mine = part caller_of h v.caller; held = None }

  -- the view with one board more
  abbrev pub noted : View S G E → Board → View S G E
  noted v b = record v { seen = b.count; notes = v.notes ++ (b.count, b) ∷ [] }

  -- a pass that made no step
  abbrev pub fresh_pass : Option S → ℕ → View S G E
  fresh_pass start caller = record spent { start = start; live = 1; caller = caller }

  -- the lock's own view after one more pass, and the view of that pass
  abbrev pub with_pass : View S G E → View S G E
  with_pass v = record v { passes = v.passes + 1 }

  abbrev pub next_pass : View S G E → View S G E
  next_pass v = fresh_pass v.start v.passes

  -- what a pass leaves
  abbrev pub returned_from : View S G E → Returned E
  returned_from v = record { caller = v.caller; mine = v.mine; notes = v.notes }

  -- the lock's own view after a pass was taken back
  abbrev pub with_returned : View S G E → View S G E → View S G E
  with_returned v pass = record v { returned = v.returned ++ returned_from pass ∷ [] }

  -- a ticket was drawn: the number that was found
  abbrev pub drew : Step S → Me S (View S G E) → ℕ → Me S (View S G E) → Type 0
  drew step before found after = after ≡ (ticketed before.0 found, before.1)

  -- the board was read, and its count is not below what was seen before
  abbrev pub peeked : Step S → Me S (View S G E) → ℕ → Me S (View S G E) → Type 0
  peeked step before found after = (after ≡ (noted before.0 (unpacked found), before.1)) × (before.0.seen ≤ found % 16777216)

  -- the state was given back, with its board
  abbrev pub PublishesBoard : (S → List E) → (E → ℕ) → Step S → Me S (View S G E) → ℕ → Me S (View S G E) → Type 0
  PublishesBoard history caller_of step before found after = (x : S) → before.1 ≡ (0, x) ∷ [] → after ≡ (turned caller_of before.0 (history x), [])

module _ {S G E : Type 0} (setup : S → G) (history : S → List E) (caller_of : E → ℕ) where
  -- The state was taken. It has the setup of the lock's first state, and as many entries as the ticket says, which are no fewer than
  -- the seat had seen. Those of the seat's caller are the ones that the seat made.
  pub record Took (before after : Me S (View S G E)) : Type 0 where
    pub state : S
    pub is : after ≡ (at_turn before.0 (setup state) (history state), (0, state) ∷ [])
    pub kept : (start : S) → before.0.start ≡ Some start → setup state ≡ setup start
    pub count : length (history state) ≡ before.0.ticket
    pub mine : part caller_of (history state) before.0.caller ≡ before.0.mine
    pub seen : before.0.seen ≤ length (history state)

  -- the state was taken if the count of the board was the ticket, and otherwise nothing changed
  abbrev pub looked : Step S → Me S (View S G E) → ℕ → Me S (View S G E) → Type 0
  looked step before found after =
      (found % 16777216 ≡ before.0.ticket → Took before after) × (found % 16777216 ≢ before.0.ticket → after ≡ before)

module _ {S C R G E : Type 0} (K : Ghosts S C R G E) where
  -- the state that was held got one entry, which records the caller, the call and the reply, and was given back with a legal history;
  -- the answer is the position of the entry, and the reply
  abbrev pub AddsEntry : Me S (View S G E) → Me S (View S G E) → ℕ → C → ℕ × R → Type 0
  AddsEntry before after caller call answer = (x : S) × (h : List E) × (e : E) × (before.1 ≡ (0, x) ∷ []) × (h ≡ K.history x ++ e ∷ [])
      × (K.caller_of e ≡ caller) × (K.call_of e ≡ call) × (K.answer e ≡ answer.1) × (answer.0 ≡ length (K.history x))
      × (after ≡ (turned K.caller_of before.0 h, [])) × K.legal (K.setup x) h

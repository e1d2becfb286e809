-- What clauses say of a pass and of a lock.
use Rattle.std.specs.Prelude.{◌≡◌, ℕ, List, [], ◌∷◌, ◌++◌, Option, Some}
use mathlib.Core.Option.{some}
use lib.ListN.{get_elem?}
use Rattle.atomic_table.specs.Seated.{TableId}
use Rattle.tac_base.specs.declared.calls.Board.{Board}
use Rattle.turn_lock.specs.declared.kept.Kept.{Ghosts}
use Rattle.turn_lock.specs.declared.view.Returned.{Returned}
use Rattle.turn_lock.specs.Turn.{ContinuesHistory}
use Rattle.turn_lock.specs.TurnRule.{own_view}
use Rattle.turn_lock.specs.declared.pass.Pass.{Pass}
use Rattle.turn_lock.specs.declared.lock.TurnLock.{TurnLock}

-- which lock it is: its table, and the state that it was made with
pub record LockId (S : Type 0) : Type 0 where
  pub table : TableId
  pub start : Option S

module _ {S C R G E : Type 0} {K : Ghosts S C R G E} where
  -- which lock the pass is of
  abbrev pub lock_of : Pass S C R G E K → LockId S
  lock_of p = record { table = p.seat.table_id; start = p.seat.me.0.start }

  abbrev pub caller_of : Pass S C R G E K → ℕ
  caller_of p = p.caller

  -- how many turns it has left
  abbrev pub turns_left : Pass S C R G E K → ℕ
  turns_left p = p.left

  -- the length of the history that it has seen
  abbrev pub seen_by : Pass S C R G E K → ℕ
  seen_by p = p.seat.me.0.seen

  -- the entries of all its calls so far, with their positions
  abbrev pub made_by : Pass S C R G E K → List (ℕ × E)
  made_by p = p.seat.me.0.mine

  -- the boards that it saw so far, each with its count
  abbrev pub noted_by : Pass S C R G E K → List (ℕ × Board)
  noted_by p = p.seat.me.0.notes

  -- the record that it leaves when it is taken back: its caller, its calls and its boards
  abbrev pub returned_by : Pass S C R G E K → Returned E
  returned_by p = record { caller = caller_of p; mine = made_by p; notes = noted_by p }

  -- the pass is of this lock and this caller and has this many turns left; it made no call, and saw no board and no entry
  abbrev pub IsFreshPass : LockId S → ℕ → ℕ → Pass S C R G E K → Type 0
  IsFreshPass lock caller left p =
      (lock_of p ≡ lock) × (caller_of p ≡ caller) × (turns_left p ≡ left) × (made_by p ≡ []) × (noted_by p ≡ []) × (seen_by p ≡ 0)

  -- the pass at i is fresh, is of this lock and of caller i, and has `left i` turns left
  abbrev pub AreFreshPasses : LockId S → (ℕ → ℕ) → List (Pass S C R G E K) → Type 0
  AreFreshPasses lock left passes = (i : ℕ) (p : Pass S C R G E K) → get_elem? passes i ≡ some p → IsFreshPass lock i (left i) p

  -- The pass made the call in its turn at a lock that was made with the state `start`. The entry records the pass's caller, the call and
  -- the reply. It comes after those that the pass had made, and continues a history of as many entries as its position says. The answer
  -- is the position of the entry, and the reply.
  abbrev pub GetsEntry : S → Pass S C R G E K → Pass S C R G E K → C → ℕ × R → Type 0
  GetsEntry start before after call answer = (e : E) × (K.caller_of e ≡ caller_of before) × (K.call_of e ≡ call) × (K.answer e ≡ answer.1)
      × (made_by after ≡ made_by before ++ (answer.0, e) ∷ [])
      × ContinuesHistory K.legal K.caller_of (K.setup start) (caller_of before) (made_by before) answer.0 e

module _ {S C R G E : Type 0} where
  -- the state that the lock was made with
  abbrev pub start_of : TurnLock S C R G E → S
  start_of l = l.table.shared.key.value

  -- which lock it is
  abbrev pub lock_id : TurnLock S C R G E → LockId S
  lock_id l = record { table = l.table.shared.table_id; start = Some (start_of l) }

  -- how many passes were made
  abbrev pub passes_of : TurnLock S C R G E → ℕ
  passes_of l = (own_view l.own.badge.views).passes

  -- what the passes that were taken back left
  abbrev pub returned_to : TurnLock S C R G E → List (Returned E)
  returned_to l = (own_view l.own.badge.views).returned

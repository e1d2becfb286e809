-- The passes that callers have before any call.
use Rattle.std.specs.Prelude.{◌≡◌, ℕ, List, [], ◌∷◌, ◌++◌, map, length, replicate}
use mathlib.Core.Option.{some}
use lib.ListN.{get_elem?}
use Rattle.floor.specs.Prelude.{Ghosts, Pass, Entry, CashEntry, LockId, lock_of, caller_of, turns_left, made_by, noted_by, seen_by}
use Rattle.floor.specs.Keeping.{IsDeskKept, AreGoodsInOrder, AreListed}

module _ {S C R G E : Type 0} {K : Ghosts S C R G E} where
  -- one pass of the caller for each of these locks, with no call made and no board seen
  pub record IsFresh (ids : List (LockId S)) (caller left : ℕ) (passes : List (Pass S C R G E K)) : Type 0 where
    pub locks : map (λ p. lock_of p) passes ≡ ids
    pub callers : map (λ p. caller_of p) passes ≡ replicate (length ids) caller
    pub lefts : map (λ p. turns_left p) passes ≡ replicate (length ids) left
    pub made : map (λ p. made_by p) passes ≡ replicate (length ids) []
    pub noted : map (λ p. noted_by p) passes ≡ replicate (length ids) []
    pub seen : map (λ p. seen_by p) passes ≡ replicate (length ids) 0

  -- each caller's passes are fresh
  abbrev pub AreFresh : List (LockId S) → (ℕ → ℕ) → List (List (Pass S C R G E K)) → Type 0
  AreFresh ids left hands = (caller : ℕ) (passes : List (Pass S C R G E K)) → get_elem? hands caller ≡ some passes → IsFresh ids caller (left caller) passes

  -- if each caller's passes were fresh, each has one more pass, of this lock, and all are fresh
  abbrev pub AreDealt : LockId S → (ℕ → ℕ) → List (List (Pass S C R G E K)) → List (List (Pass S C R G E K)) → Type 0
  AreDealt id left before after = (ids : List (LockId S)) → AreFresh ids left before → AreFresh (ids ++ id ∷ []) left after

module _ {S C R G T D Q H : Type 0} {K : Ghosts S C R G Entry} {L : Ghosts T D Q H CashEntry} where
  -- the passes of auctions and the pass of the cash book are those of one desk that made no call and no reading
  abbrev pub MakeDesk : List (Pass S C R G Entry K) → Pass T D Q H CashEntry L → Type 0
  MakeDesk passes cash = IsDeskKept (caller_of cash) (map (λ p. caller_of p) passes) (map (λ p. turns_left p) passes) (map (λ p. made_by p) passes) (turns_left cash) (made_by cash) 0
      × AreGoodsInOrder (map (λ p. made_by p) passes) (map (λ p. noted_by p) passes) (map (λ p. seen_by p) passes)
      × AreListed (map (λ p. made_by p) passes) []

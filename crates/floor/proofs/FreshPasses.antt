-- The passes that callers get lock by lock, and the desks made of them.
use Rattle.std.proofs.Common.{◌≡◌, ℕ, zero, suc, ◌<◌, List, [], ◌∷◌, ◌++◌, map, length, get_or, replicate, refl, sym, ap, ◌∙◌, subst, arith}
use Rattle.std.proofs.lemmas.List.{map_push, replicate_more, length_push}
use mathlib.Core.Option.{some, some-injective, some-ne-none}
use lib.ListN.{get_elem?}
use Rattle.floor.specs.{AuctionHistory, Entry, cap, CashEntry, cash_cap, Ghosts, Pass, LockId, lock_of, caller_of, turns_left, made_by, noted_by, seen_by, with_each, IsFreshPass, AreFreshPasses, IsFresh, AreFresh, MakeDesk, desk_steps, IsNewDesk, calls_of_steps}
use Rattle.floor.specs.declared.desk.Desk.{Desk}
use Rattle.floor.proofs.Tables.{with_each_at}
use Rattle.floor.proofs.Desks.{kept_first, kept_as}
use Rattle.floor.proofs.Orders.{order_as, order_first}
use Rattle.floor.proofs.CallLists.{listed_as, listed_first}

-- how many calls each caller may make
pub calls_are : (i : ℕ) → i < 9 → get_or (1024 ∷ 1024 ∷ 1024 ∷ 1024 ∷ 1024 ∷ 1024 ∷ 1024 ∷ 1024 ∷ 64 ∷ []) i 0 ≡ cap i
calls_are zero inside = refl
calls_are (suc zero) inside = refl
calls_are (suc (suc zero)) inside = refl
calls_are (suc (suc (suc zero))) inside = refl
calls_are (suc (suc (suc (suc zero)))) inside = refl
calls_are (suc (suc (suc (suc (suc zero))))) inside = refl
calls_are (suc (suc (suc (suc (suc (suc zero)))))) inside = refl
calls_are (suc (suc (suc (suc (suc (suc (suc zero))))))) inside = refl
calls_are (suc (suc (suc (suc (suc (suc (suc (suc zero)))))))) inside = refl
calls_are (suc (suc (suc (suc (suc (suc (suc (suc (suc i))))))))) inside = absurd (omega arith)

pub cash_calls_are : (i : ℕ) → i < 9 → get_or (29696 ∷ 29696 ∷ 29696 ∷ 29696 ∷ 29696 ∷ 29696 ∷ 29696 ∷ 29696 ∷ 480 ∷ []) i 0 ≡ cash_cap i
cash_calls_are zero inside = refl
cash_calls_are (suc zero) inside = refl
cash_calls_are (suc (suc zero)) inside = refl
cash_calls_are (suc (suc (suc zero))) inside = refl
cash_calls_are (suc (suc (suc (suc zero)))) inside = refl
cash_calls_are (suc (suc (suc (suc (suc zero))))) inside = refl
cash_calls_are (suc (suc (suc (suc (suc (suc zero)))))) inside = refl
cash_calls_are (suc (suc (suc (suc (suc (suc (suc zero))))))) inside = refl
cash_calls_are (suc (suc (suc (suc (suc (suc (suc (suc zero)))))))) inside = refl
cash_calls_are (suc (suc (suc (suc (suc (suc (suc (suc (suc i))))))))) inside = absurd (omega arith)

pub at_replicate : {A : Type 0} (n : ℕ) (a x : A) (i : ℕ) → get_elem? (replicate n a) i ≡ some x → a ≡ x
at_replicate zero a x i at = absurd (some-ne-none x (sym at))
at_replicate (suc n) a x zero at = some-injective a x at
at_replicate (suc n) a x (suc i) at = at_replicate n a x i at

module _ {S C R G E : Type 0} {K : Ghosts S C R G E} where
  -- one more of each in two lists
  longer : {A : Type 0} (f : Pass S C R G E K → A) (ids : List (LockId S)) (id : LockId S) (hand : List (Pass S C R G E K)) (p : Pass S C R G E K) (a : A)
      → map f hand ≡ replicate (length ids) a → f p ≡ a → map f (hand ++ p ∷ []) ≡ replicate (length (ids ++ id ∷ [])) a
  longer {A = A} f ids id hand p a before is =
      map_push f hand p ∙ ((λ k. before k ++ is k ∷ []) ∙ (replicate_more (length ids) a ∙ ap (λ (n : ℕ). replicate n a) (sym (length_push ids id))))

  fresh_more : {ids : List (LockId S)} {id : LockId S} {caller left : ℕ} {hand : List (Pass S C R G E K)} (p : Pass S C R G E K) → IsFresh ids caller left hand → IsFreshPass id caller left p
      → IsFresh (ids ++ id ∷ []) caller left (hand ++ p ∷ [])
  fresh_more {ids = ids} {id = id} {caller = caller} {left = left} {hand = hand} p fresh one = record {
    locks = map_push (λ q. lock_of q) hand p ∙ (λ k. fresh.locks k ++ one.0 k ∷ []);
    callers = longer (λ q. caller_of q) ids id hand p caller fresh.callers one.1;
    lefts = longer (λ q. turns_left q) ids id hand p left fresh.lefts one.2;
    made = longer (λ q. made_by q) ids id hand p [] fresh.made one.3;
    noted = longer (λ q. noted_by q) ids id hand p [] fresh.noted one.4;
    seen = longer (λ q. seen_by q) ids id hand p 0 fresh.seen one.5;
  }

  pub fresh_dealt : (ids : List (LockId S)) (id : LockId S) (left : ℕ → ℕ) (hands : List (List (Pass S C R G E K))) (passes : List (Pass S C R G E K)) → AreFresh ids left hands → length hands ≡ length passes
      → AreFreshPasses id left passes → AreFresh (ids ++ id ∷ []) left (with_each hands passes)
  fresh_dealt ids id left hands passes fresh long one caller after at =
      let t = with_each_at hands passes caller after long at in
      subst (IsFresh (ids ++ id ∷ []) caller (left caller)) (sym t.4) (fresh_more t.1 (fresh caller t.0 t.2) (one caller t.1 t.3))

  pub fresh_first : (left : ℕ → ℕ) → AreFresh {K = K} [] left (replicate 9 [])
  fresh_first left caller passes at = subst (IsFresh [] caller (left caller)) (at_replicate 9 [] passes caller at) (record { locks = refl; callers = refl; lefts = refl; made = refl; noted = refl; seen = refl })

module _ {S C R G T D Q H : Type 0} {K : Ghosts S C R G Entry} {L : Ghosts T D Q H CashEntry} where
  pub make_desk : (ids : List (LockId S)) (id : LockId T) (i : ℕ) (hand : List (Pass S C R G Entry K)) (cash : Pass T D Q H CashEntry L) → length ids ≡ 28 → IsFresh ids i (cap i) hand → IsFreshPass id i (cash_cap i) cash → MakeDesk hand cash
  make_desk ids id i hand cash long fresh one = (
    kept_as (kept_first i) one.1
        (fresh.callers ∙ ap (λ (n : ℕ). replicate n i) long) (fresh.lefts ∙ ap (λ (n : ℕ). replicate n (cap i)) long) (fresh.made ∙ ap (λ (n : ℕ). replicate n []) long) one.2 one.3 refl,
    order_as order_first (fresh.made ∙ ap (λ (n : ℕ). replicate n []) long) (fresh.noted ∙ ap (λ (n : ℕ). replicate n []) long) (fresh.seen ∙ ap (λ (n : ℕ). replicate n 0) long),
    listed_as listed_first (fresh.made ∙ ap (λ (n : ℕ). replicate n []) long) refl,
  )

pub new_desk : (d : Desk) (i : ℕ) (ids : List (LockId AuctionHistory)) (id : LockId (List CashEntry)) → length ids ≡ 28 → IsFresh ids i (cap i) d.passes.items → IsFreshPass id i (cash_cap i) d.cash → desk_steps d ≡ [] → IsNewDesk (ids, id) i d
new_desk d i ids id long fresh one no_steps = record {
  ids = λ k. (fresh.locks k, one.0 k);
  caller = one.1;
  entries = fresh.made ∙ ap (λ (n : ℕ). replicate n []) long;
  steps = no_steps;
  calls = ap calls_of_steps no_steps;
  cash = one.3;
  boards = fresh.noted ∙ ap (λ (n : ℕ). replicate n []) long;
  seen = fresh.seen ∙ ap (λ (n : ℕ). replicate n 0) long;
}

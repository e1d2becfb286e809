-- What the desks knew holds of the closed game.
use Rattle.std.proofs.Common.{◌≡◌, ℕ, zero, suc, ◌+◌, ◌≤◌, List, [], ◌∷◌, ◌++◌, map, length, take, reverse, get_or, replicate, refl, sym, ap, ◌∙◌, subst, arith, Some, None, slice_get, append_assoc}
use Rattle.std.specs.List.{AllZip, AllByRecursion, range_with_len}
use Rattle.std.proofs.lemmas.List.{reverse-append}
use mathlib.Core.Option.{some, some-injective, some-ne-none}
use lib.ListN.{get_elem?}
use Rattle.floor.specs.{Board, Points, Bid, Taken, Entry, Setup, bought, sold, Legal, IsLawful, entry_of, entry_by, admitted_trades, refusal, AuctionHistory, AreNotes, desk_caller, AreSeenBoards, TakesLawfulBids, board_of}
use Rattle.floor.specs.declared.desk.Desk.{Desk}
use Rattle.floor.specs.declared.outcomes.Outcome.{Outcome}
use Rattle.floor.specs.declared.outcomes.Outcome.TheVariants.{At, Spent}
use Rattle.floor.specs.Answers.{IsOutcome, TakesLawfulBid}

module _ {A : Type 0} where
  pub get_or_place : (xs : List A) (k : ℕ) (x d : A) → get_elem? xs k ≡ some x → get_or xs k d ≡ x
  get_or_place [] k x d at = absurd (some-ne-none x (sym at))
  get_or_place (y ∷ xs) zero x d at = some-injective y x at
  get_or_place (y ∷ xs) (suc k) x d at = get_or_place xs k x d at

module _ {A B : Type 0} where
  -- two lists that agree at each place, by what they are read by
  pub maps_agree : {C : Type 0} (f : A → C) (h : B → C) (xs : List A) (ys : List B) → length xs ≡ length ys
      → ((k : ℕ) (x : A) (y : B) → get_elem? xs k ≡ some x → get_elem? ys k ≡ some y → f x ≡ h y) → map f xs ≡ map h ys
  maps_agree f h [] [] long each = refl
  maps_agree f h [] (y ∷ ys) long each = absurd (omega arith)
  maps_agree f h (x ∷ xs) [] long each = absurd (omega arith)
  maps_agree f h (x ∷ xs) (y ∷ ys) long each = λ i. each 0 x y refl refl i ∷ maps_agree f h xs ys (omega arith) (λ k a b at at'. each (suc k) a b at at') i

  all_zip : (R : A → B → Type 0) (xs : List A) (ys : List B) → length xs ≡ length ys → ((k : ℕ) (x : A) (y : B) → get_elem? xs k ≡ some x → get_elem? ys k ≡ some y → R x y) → AllZip R xs ys
  all_zip R [] [] long each = tt
  all_zip R [] (y ∷ ys) long each = absurd (omega arith)
  all_zip R (x ∷ xs) [] long each = absurd (omega arith)
  all_zip R (x ∷ xs) (y ∷ ys) long each = (each 0 x y refl refl, all_zip R xs ys (omega arith) (λ k a b at at'. each (suc k) a b at at'))

module _ {A B : Type 0} where
  -- a list that is read as one value everywhere
  pub all_same : (f : A → B) (v : B) (n : ℕ) (xs : List A) → length xs ≡ n → ((k : ℕ) (x : A) → get_elem? xs k ≡ some x → f x ≡ v) → map f xs ≡ replicate n v
  all_same f v zero [] long each = refl
  all_same f v (suc n) [] long each = absurd (omega arith)
  all_same f v zero (x ∷ xs) long each = absurd (omega arith)
  all_same f v (suc n) (x ∷ xs) long each = λ i. each 0 x refl i ∷ all_same f v n xs (omega arith) (λ k y at. each (suc k) y at) i

module _ {A : Type 0} where
  -- a list that is read as the numbers of its places, from one on
  pub all_numbered : (f : A → ℕ) (from n : ℕ) (xs : List A) → length xs ≡ n → ((k : ℕ) (x : A) → get_elem? xs k ≡ some x → f x ≡ from + k) → map f xs ≡ range_with_len from n
  all_numbered f from zero [] long each = refl
  all_numbered f from (suc n) [] long each = absurd (omega arith)
  all_numbered f from zero (x ∷ xs) long each = absurd (omega arith)
  all_numbered f from (suc n) (x ∷ xs) long each =
      let first : f x ≡ from = each 0 x refl ∙ omega arith in λ i. first i ∷ all_numbered f (from + 1) n xs (omega arith) (λ k y at. each (suc k) y at ∙ omega arith) i

pub boards_by_place : (auctions : List AuctionHistory) (boards : List (List (ℕ × Board))) → length auctions ≡ length boards
    → ((k : ℕ) (a : AuctionHistory) (seen : List (ℕ × Board)) → get_elem? auctions k ≡ some a → get_elem? boards k ≡ some seen → AreNotes (board_of a) a.history (length a.history) seen)
    → AreSeenBoards auctions boards
boards_by_place auctions boards long each = all_zip (λ a seen. AreNotes (board_of a) a.history (length a.history) seen) auctions boards long each

pub called_by_place : (auctions : List AuctionHistory) → ((k : ℕ) (a : AuctionHistory) → get_elem? auctions k ≡ some a → AllByRecursion (λ (e : Entry). e.caller ≤ 8) a.history)
    → AllByRecursion (λ h. AllByRecursion (λ (e : Entry). e.caller ≤ 8) h) (map (λ a. a.history) auctions)
called_by_place [] each = tt
called_by_place (a ∷ auctions) each = (each 0 a refl, called_by_place auctions (λ k b at. each (suc k) b at))

-- ---- a lawful bid is taken

taken_by : (setup : Setup) (past : List Entry) (caller : ℕ) (points : Points) → refusal setup.rules past caller (Bid points) ≡ None
    → (entry_of setup past caller (Bid points)).reply ≡ Taken (bought (admitted_trades setup past caller (Bid points)) caller) (sold (admitted_trades setup past caller (Bid points)) caller)
taken_by setup past caller points none = ap (λ r. (entry_by setup past caller (Bid points) r).reply) none

-- the past before an entry of a lawful history
lawful_at : (setup : Setup) (later : List Entry) (e : Entry) (past : List Entry) → IsLawful setup (later ++ e ∷ past) → e ≡ entry_of setup past e.caller e.call
lawful_at setup [] e past lawful = lawful.0
lawful_at setup (x ∷ later) e past lawful = lawful_at setup later e past lawful.1

-- the last entry of a legal history is the one that the rules give after the others
pub last_is_ruled : (setup : Setup) (before : List Entry) (e : Entry) → Legal setup (before ++ e ∷ []) → e ≡ entry_of setup (reverse before) e.caller e.call
last_is_ruled setup before e legal = (subst (IsLawful setup) (reverse-append before (e ∷ [])) legal.lawful).0

-- an answered bid has the reply of the rules, so it is taken if none of their refusals applies
pub takes_lawful_bid : (before after : Desk) (good : ℕ) (points : Points) (outcome : Outcome) → IsOutcome before after good (Bid points) outcome → TakesLawfulBid before after good points outcome
takes_lawful_bid before after good points Spent outcome = tt
takes_lawful_bid before after good points (At position reply) outcome =
    let told = outcome.1 in
    (told, λ none. (_, _, sym told.made.reply ∙ (ap (λ (e : Entry). e.reply) told.made.ruled ∙ taken_by told.made.setup (reverse told.made.earlier) (desk_caller before) points none)))

split_at : (h : List Entry) (k : ℕ) (e : Entry) → slice_get h k ≡ Some e → (later : List Entry) × (h ≡ take k h ++ e ∷ later)
split_at [] k e at = let never : None ≡ Some e = at in absurd cc
split_at (x ∷ h) zero e at = let same : x ≡ e = cc in (h, ap (λ (y : Entry). y ∷ h) same)
split_at (x ∷ h) (suc k) e at = let rest = split_at h k e at in (rest.0, ap (λ (l : List Entry). x ∷ l) rest.1)

pub takes_lawful_bids : (a : AuctionHistory) → Legal a.setup a.history → TakesLawfulBids a
takes_lawful_bids a legal position e points at asked none =
    let split = split_at a.history position e at in let before = take position a.history in
    let turned : reverse a.history ≡ reverse split.0 ++ e ∷ reverse before = ap reverse split.1 ∙ (reverse-append before (e ∷ split.0) ∙ turned_end e split.0 (reverse before)) in
    let is : e ≡ entry_of a.setup (reverse before) e.caller e.call = lawful_at a.setup (reverse split.0) e (reverse before) (subst (IsLawful a.setup) turned legal.lawful) in
    let free : refusal a.setup.rules (reverse before) e.caller (Bid points) ≡ None = ap (refusal a.setup.rules (reverse before) e.caller) (sym asked) ∙ none in
    (_, _, ap (λ x. x.reply) is ∙ (ap (λ call. (entry_of a.setup (reverse before) e.caller call).reply) asked ∙ taken_by a.setup (reverse before) e.caller points free))
  where
    turned_end : (x : Entry) (later past : List Entry) → reverse (x ∷ later) ++ past ≡ reverse later ++ x ∷ past
    turned_end x later past = ap (λ (l : List Entry). l ++ past) (reverse-append (x ∷ []) later) ∙ append_assoc (reverse later) (x ∷ []) past

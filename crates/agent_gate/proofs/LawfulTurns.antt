-- The turns of a session are allowed, one after the other.
use Rattle.std.proofs.Common.{◌≡◌, ℕ, zero, suc, ◌+◌, ◌<◌, ◌≤◌, List, [], ◌∷◌, ◌++◌, map, length, take, Bool, true, false, cond, Some, refl, sym, ap, ◌∙◌, subst, arith, inl, inr, ◌⊎◌, All, slice_get, not, ◌||◌, count_by}
use Rattle.std.specs.List.{AllZip}
use Rattle.std.proofs.Math.Seq.{take-append_seam}
use Rattle.std.proofs.lemmas.List.{take-append-le}
use Rattle.std.proofs.lemmas.List.Elements.{All-append}
use Rattle.std.proofs.lemmas.List.Folds.{list_any-append}
use Rattle.std.proofs.lemmas.List.Sums.{sum_by-append}
use Rattle.tac_base.specs.declared.calls.Trade.{Trade}
use Rattle.agent_gate.specs.{CashEntry, post_for, is_post, count_readings, Turn, Called, CallDenied, CashRead, CashDenied, Quoted, Refused, Skipped, Quit, cash_by, cash_made, is_reading, is_leaving, has_left, shown_length, IsNotBehind, IsLawfulTurn, AreLawful}

module _ {A : Type 0} where
  -- the element at a place of a list with one more is one of the list at that place, or the last
  pub slice_get_more : (xs : List A) (x y : A) (n : ℕ) → slice_get (xs ++ x ∷ []) n ≡ Some y → ((slice_get xs n ≡ Some y) × (n < length xs)) ⊎ ((x ≡ y) × (n ≡ length xs))
  slice_get_more [] x y zero at = inr (cc, refl)
  slice_get_more [] x y (suc n) at = absurd (cc)
  slice_get_more (z ∷ xs) x y zero at = inl (at, omega arith)
  slice_get_more (z ∷ xs) x y (suc n) at = elim (slice_get_more xs x y n at) [ inl h ↦ inl (h.0, omega (arith, h.1)) | inr h ↦ inr (h.0, ap suc h.1) ]

module _ {A B C : Type 0} where
  -- two lists that agree place by place, with one more of each
  pub zip_more : (R : A → B → Type 0) (f : C → B) (xs : List A) (ys : List C) (x : A) (y : C) → AllZip R xs (map f ys) → R x (f y) → AllZip R (xs ++ x ∷ []) (map f (ys ++ y ∷ []))
  zip_more R f [] [] x y all last = (last, tt)
  zip_more R f [] (z ∷ ys) x y all last = absurd all
  zip_more R f (z ∷ xs) [] x y all last = absurd all
  zip_more R f (z ∷ xs) (w ∷ ys) x y all last = (all.0, zip_more R f xs ys x y all.1 last)

pub none_lawful : AreLawful []
none_lawful n turn at = absurd (cc)

pub lawful_more : (turns : List Turn) (turn : Turn) → AreLawful turns → IsLawfulTurn turns turn → has_left turns ≡ false → AreLawful (turns ++ turn ∷ [])
lawful_more turns turn all last here n t at = elim (slice_get_more turns turn t n at) [
  | inl past ↦
      let before : take n turns ≡ take n (turns ++ turn ∷ []) = sym (take-append-le n turns (turn ∷ []) (omega (arith, past.1))) in
      subst (λ (l : List Turn). IsLawfulTurn l t × (has_left l ≡ false)) before (all n t past.0)
  | inr new ↦
      let before : turns ≡ take n (turns ++ turn ∷ []) = sym (ap (λ (k : ℕ). take k (turns ++ turn ∷ [])) new.1 ∙ take-append_seam turns (turn ∷ [])) in
      subst (λ (l : List Turn). IsLawfulTurn l t × (has_left l ≡ false)) before (subst (IsLawfulTurn turns) new.0 last, here)
]

pub has_left-more : (turns : List Turn) (turn : Turn) (left : Bool) → has_left turns ≡ false → is_leaving turn ≡ left → has_left (turns ++ turn ∷ []) ≡ left
has_left-more turns turn left here is =
    list_any-append is_leaving turns (turn ∷ []) ∙ ap (λ (b : Bool). b || (is_leaving turn || false)) here ∙ last (is_leaving turn) ∙ is
  where
    last : (b : Bool) → (false || (b || false)) ≡ b
    last true = refl
    last false = refl

pub goes_on_more : (good count count' : ℕ) (turns : List Turn) → IsNotBehind good count turns → count ≤ count' → IsNotBehind good count' turns
goes_on_more good count count' turns all le k d lt = let h = all k d lt in omega (arith, h)

-- the turns whose answers show no more than a count
pub goes_on_with : (good count : ℕ) (turns : List Turn) (turn : Turn) → IsNotBehind good count turns → shown_length good turn ≤ count → IsNotBehind good count (turns ++ turn ∷ [])
goes_on_with good count turns turn all last = All-append (λ t. shown_length good t ≤ count) turns (turn ∷ []) all one
  where
    one : All (λ t. shown_length good t ≤ count) (turn ∷ [])
    one zero d lt = last
    one (suc k) d lt = absurd (omega arith)

-- ---- how many readings there are

no_reading : (trades : List Trade) (post : CashEntry) (position : ℕ) → is_post post.call ≡ true → count_readings (map (λ e. (position, e)) (post_for trades post)) ≡ 0
no_reading [] post position is = refl
no_reading (trade ∷ trades) post position is = ap (λ (b : Bool). 0 + cond (not b) 1 0) is

readings_by : (agent : ℕ) (turn : Turn) → count_readings (cash_by agent turn) ≡ count_by is_reading (turn ∷ [])
readings_by agent (Called request good position entry posted) = no_reading entry.trades _ posted refl
readings_by agent (CallDenied request good) = refl
readings_by agent (CashRead position dollars) = refl
readings_by agent CashDenied = refl
readings_by agent (Quoted good board) = refl
readings_by agent (Refused fault) = refl
readings_by agent Skipped = refl
readings_by agent Quit = refl

-- the desk's readings are those of the turns
pub readings_made : (agent : ℕ) (turns : List Turn) → count_readings (cash_made agent turns) ≡ count_by is_reading turns
readings_made agent [] = refl
readings_made agent (turn ∷ turns) =
    sum_by-append (λ p. cond (not (is_post p.1.call)) 1 0) (cash_by agent turn) (cash_made agent turns)
    ∙ ap (λ (n : ℕ). n + count_readings (cash_made agent turns)) (readings_by agent turn)
    ∙ ap (λ (n : ℕ). count_by is_reading (turn ∷ []) + n) (readings_made agent turns)
    ∙ sym (sum_by-append (λ t. cond (is_reading t) 1 0) (turn ∷ []) turns)

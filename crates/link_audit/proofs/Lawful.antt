-- Turns are lawful, each after those before it, exactly if they are allowed one after the other.
use Rattle.std.proofs.Common.{◌≡◌, ℕ, zero, suc, ◌+◌, ◌<◌, ◌≤◌, List, [], ◌∷◌, ◌++◌, Bool, true, false, cond, eqb, length, take, replicate, Some, None, slice_get, refl, sym, ap, ◌∙◌, subst, arith, inl, inr, All, ◌||◌, slice_index, slice_set, count_by, append_assoc, append-nil, length-append, get_or-set_same, get_or-set_other}
use Rattle.std.specs.List.{cons_option}
use Rattle.std.proofs.lemmas.List.{get_or-replicate}
use Rattle.std.proofs.lemmas.List.Elements.{All-cons, All-nil, All-head, All-tail, filter_map-append}
use Rattle.std.proofs.lemmas.List.Folds.{list_any-append}
use Rattle.std.proofs.lemmas.List.Sums.{sum_by-append}
use Rattle.std.proofs.lemmas.Bool.Decides.{eqb_tells}
use Rattle.std.proofs.lemmas.Bool.{or_right}
use Rattle.auction_rules.specs.History.{Entry}
use Rattle.link_audit.specs.{Request, Turn, Called, CallDenied, CashRead, CashDenied, Quoted, Refused, Skipped, Quit, entry_made, made_at, is_reading, is_leaving, has_left, shown_length, IsNotBehind, IsLawfulTurn, start, behind_turn, IsAllowed, AreAllowed, IsWide}
use Rattle.agent_gate.proofs.LawfulTurns.{goes_on_more, goes_on_with, has_left-more}
use Rattle.link_audit.specs.declared.places.Places.{Places}
use Rattle.link_audit.proofs.Walking.{wide_after}

-- the places are those that the turns so far lead to
pub record Tracks (from : Places) (past : List Turn) : Type 0 where
  pub made : (good : ℕ) → good < 28 → slice_index from.made good ≡ length (made_at good past)
  pub seen : (good : ℕ) → good < 28 → IsNotBehind good (slice_index from.seen good) past
  pub least : (good count : ℕ) → good < 28 → IsNotBehind good count past → slice_index from.seen good ≤ count
  pub readings : from.readings ≡ count_by is_reading past
  pub here : has_left past ≡ false

abbrev pub AreLawfulAfter : List Turn → List Turn → Type 0
AreLawfulAfter past turns = (n : ℕ) (turn : Turn) → slice_get turns n ≡ Some turn → IsLawfulTurn (past ++ take n turns) turn × (has_left (past ++ take n turns) ≡ false)

pub tracks_start : Tracks start []
tracks_start = record {
  made = λ good low. get_or-replicate 28 good 0 0 low;
  seen = λ good low. All-nil (λ (t : Turn). shown_length good t ≤ slice_index (replicate 28 0) good);
  least = λ good count low all. (let none : slice_index (replicate 28 0) good ≡ 0 = get_or-replicate 28 good 0 0 low in omega (arith, none));
  readings = refl;
  here = refl;
}

module _ (from : Places) (past : List Turn) (tracks : Tracks from past) where
  pub allowed_lawful : (turn : Turn) → IsAllowed from turn → IsLawfulTurn past turn
  allowed_lawful (Called request good position entry posted) here = (
    here.0,
    here.1,
    (let made = tracks.made good here.1 in let few = here.2 in omega (arith, made, few)),
    goes_on_more good (slice_index from.seen good) position past (tracks.seen good here.1) here.3,
  )
  allowed_lawful (CallDenied request good) here = (here.0, here.1, sym (tracks.made good here.1) ∙ here.2)
  allowed_lawful (CashRead position dollars) here = let read = tracks.readings in omega (arith, read, here)
  allowed_lawful CashDenied here = sym tracks.readings ∙ here
  allowed_lawful (Quoted good board) here = (here.0, goes_on_more good (slice_index from.seen good) board.count past (tracks.seen good here.0) here.1)
  allowed_lawful (Refused fault) here = tt
  allowed_lawful Skipped here = tt
  allowed_lawful Quit here = tt

  pub lawful_allowed : (turn : Turn) → IsLawfulTurn past turn → IsAllowed from turn
  lawful_allowed (Called request good position entry posted) is = (
    is.0,
    is.1,
    (let made = tracks.made good is.1 in let few = is.2 in omega (arith, made, few)),
    tracks.least good position is.1 is.3,
  )
  lawful_allowed (CallDenied request good) is = (is.0, is.1, tracks.made good is.1 ∙ is.2)
  lawful_allowed (CashRead position dollars) is = let read = tracks.readings in omega (arith, read, is)
  lawful_allowed CashDenied is = tracks.readings ∙ is
  lawful_allowed (Quoted good board) is = (is.0, tracks.least good board.count is.0 is.1)
  lawful_allowed (Refused fault) is = tt
  lawful_allowed Skipped is = tt
  lawful_allowed Quit is = tt

  -- ---- one turn more

  made_more : (good : ℕ) (turn : Turn) → length (made_at good (past ++ turn ∷ [])) ≡ length (made_at good past) + length (made_at good (turn ∷ []))
  made_more good turn = ap length (filter_map-append (entry_made good) past (turn ∷ [])) ∙ length-append (made_at good past) (made_at good (turn ∷ []))

  read_more : (turn : Turn) → count_by is_reading (past ++ turn ∷ []) ≡ count_by is_reading past + count_by is_reading (turn ∷ [])
  read_more turn = sum_by-append (λ (t : Turn). cond (is_reading t) 1 0) past (turn ∷ [])

  first_of_more : (good count : ℕ) (turn : Turn) → IsNotBehind good count (past ++ turn ∷ []) → IsNotBehind good count past × (shown_length good turn ≤ count)
  first_of_more good count turn all = by_list past all
    where
      by_list : (ts : List Turn) → All (λ (t : Turn). shown_length good t ≤ count) (ts ++ turn ∷ []) → All (λ (t : Turn). shown_length good t ≤ count) ts × (shown_length good turn ≤ count)
      by_list [] h = (All-nil (λ (t : Turn). shown_length good t ≤ count), All-head (λ (t : Turn). shown_length good t ≤ count) turn [] h)
      by_list (t ∷ ts) h =
          let rest = by_list ts (All-tail (λ (x : Turn). shown_length good x ≤ count) t (ts ++ turn ∷ []) h) in
          (All-cons (λ (x : Turn). shown_length good x ≤ count) t ts (All-head (λ (x : Turn). shown_length good x ≤ count) t (ts ++ turn ∷ []) h) rest.0, rest.1)

  -- a turn that shows nothing and makes no call
  same_after : (turn : Turn) (to : Places) → to.made ≡ from.made → to.seen ≡ from.seen → ((good : ℕ) → made_at good (turn ∷ []) ≡ []) → ((good : ℕ) → shown_length good turn ≡ 0)
      → to.readings ≡ from.readings + count_by is_reading (turn ∷ []) → is_leaving turn ≡ false → Tracks to (past ++ turn ∷ [])
  same_after turn to made seen none shown readings stays = record {
    made = λ good low. (let a = made_more good turn in let b = ap length (none good) in let c = tracks.made good low in let d = ap (λ (l : List ℕ). slice_index l good) made in omega (arith, a, b, c, d));
    seen = λ good low. (let d = ap (λ (l : List ℕ). slice_index l good) seen in let z = shown good in
        subst (λ (n : ℕ). IsNotBehind good n (past ++ turn ∷ [])) (sym d) (goes_on_with good (slice_index from.seen good) past turn (tracks.seen good low) (omega (arith, z))));
    least = λ good count low all. (let d = ap (λ (l : List ℕ). slice_index l good) seen in let h = tracks.least good count low (first_of_more good count turn all).0 in omega (arith, d, h));
    readings = (let a = read_more turn in let b = tracks.readings in omega (arith, a, b, readings));
    here = has_left-more past turn false tracks.here stays;
  }

  -- one of the numbers was raised, and what the turn shows is that number
  raised : (g good count : ℕ) → g < length from.seen → slice_index from.seen g ≤ count
      → (slice_index from.seen good ≤ slice_index (slice_set from.seen g count) good) × (cond (eqb g good) count 0 ≤ slice_index (slice_set from.seen g count) good)
      × ((n : ℕ) → slice_index from.seen good ≤ n → cond (eqb g good) count 0 ≤ n → slice_index (slice_set from.seen g count) good ≤ n)
  raised g good count inside least = elim (eqb_tells g good) [
    | inl here ↦
        let now : slice_index (slice_set from.seen g count) good ≡ count = ap (λ (n : ℕ). slice_index (slice_set from.seen g count) n) (sym here.1) ∙ get_or-set_same from.seen g count 0 inside in
        let was : slice_index from.seen good ≡ slice_index from.seen g = ap (λ (n : ℕ). slice_index from.seen n) (sym here.1) in
        let said : cond (eqb g good) count 0 ≡ count = ap (λ (b : Bool). cond b count 0) here.0 in
        (omega arith, omega arith, λ n a b. omega (arith, a, b, now, said))
    | inr away ↦
        let now : slice_index (slice_set from.seen g count) good ≡ slice_index from.seen good = get_or-set_other from.seen g good count 0 (λ is. away.1 (sym is)) in
        let said : cond (eqb g good) count 0 ≡ 0 = ap (λ (b : Bool). cond b count 0) away.0 in
        (omega arith, omega arith, λ n a b. omega (arith, a, b, now, said))
  ]

  counted : (request : Request) (g good : ℕ) (position : ℕ) (entry : Entry) (posted : ℕ) → g < length from.made
      → slice_index (slice_set from.made g (slice_index from.made g + 1)) good ≡ slice_index from.made good + length (made_at good (Called request g position entry posted ∷ []))
  counted request g good position entry posted inside = elim (eqb_tells g good) [
    | inl here ↦
        let now : slice_index (slice_set from.made g (slice_index from.made g + 1)) good ≡ slice_index from.made g + 1 =
        ap (λ (n : ℕ). slice_index (slice_set from.made g (slice_index from.made g + 1)) n) (sym here.1) ∙ get_or-set_same from.made g (slice_index from.made g + 1) 0 inside in
        let was : slice_index from.made good ≡ slice_index from.made g = ap (λ (n : ℕ). slice_index from.made n) (sym here.1) in
        let one : length (made_at good (Called request g position entry posted ∷ [])) ≡ 1 = ap (λ (b : Bool). length {A = ℕ × Entry} (cons_option (cond b (Some (position, entry)) None) [])) here.0 in
        omega arith
    | inr away ↦
        let now : slice_index (slice_set from.made g (slice_index from.made g + 1)) good ≡ slice_index from.made good = get_or-set_other from.made g good (slice_index from.made g + 1) 0 (λ is. away.1 (sym is)) in
        let none : length (made_at good (Called request g position entry posted ∷ [])) ≡ 0 = ap (λ (b : Bool). length {A = ℕ × Entry} (cons_option (cond b (Some (position, entry)) None) [])) away.0 in
        omega arith
  ]

  pub tracks_after : (turn : Turn) → IsWide from → IsAllowed from turn → is_leaving turn ≡ false → Tracks (behind_turn from turn) (past ++ turn ∷ [])
  tracks_after (Called request g position entry posted) wide here stays =
      let turn : Turn = Called request g position entry posted in
      let long = wide.seen in let long' = wide.made in let low = here.1 in
      record {
        made = λ good low'. (let a = made_more good turn in let b = counted request g good position entry posted (omega (arith, long', low)) in let c = tracks.made good low' in omega (arith, a, b, c));
        seen = λ good low'. (let r = raised g good (position + 1) (omega (arith, long, low)) (let h = here.3 in omega (arith, h)) in
            goes_on_with good (slice_index (slice_set from.seen g (position + 1)) good) past turn (goes_on_more good (slice_index from.seen good) (slice_index (slice_set from.seen g (position + 1)) good) past (tracks.seen good low') r.0) r.1);
        least = λ good count low' all. (let r = raised g good (position + 1) (omega (arith, long, low)) (let h = here.3 in omega (arith, h)) in
            let parts = first_of_more good count turn all in r.2 count (tracks.least good count low' parts.0) parts.1);
        readings = (let a = read_more turn in let b = tracks.readings in omega (arith, a, b));
        here = has_left-more past turn false tracks.here stays;
      }
  tracks_after (CallDenied request g) wide here stays = same_after (CallDenied request g) from refl refl (λ good. refl) (λ good. refl) (omega arith) refl
  tracks_after (CashRead position dollars) wide here stays =
      same_after (CashRead position dollars) (record from { cash = position + 1; readings = from.readings + 1 }) refl refl (λ good. refl) (λ good. refl) refl refl
  tracks_after CashDenied wide here stays = same_after CashDenied from refl refl (λ good. refl) (λ good. refl) (omega arith) refl
  tracks_after (Quoted g board) wide here stays =
      let turn : Turn = Quoted g board in
      let long = wide.seen in let low = here.0 in
      record {
        made = λ good low'. (let a = made_more good turn in let c = tracks.made good low' in omega (arith, a, c));
        seen = λ good low'. (let r = raised g good board.count (omega (arith, long, low)) here.1 in
            goes_on_with good (slice_index (slice_set from.seen g board.count) good) past turn (goes_on_more good (slice_index from.seen good) (slice_index (slice_set from.seen g board.count) good) past (tracks.seen good low') r.0) r.1);
        least = λ good count low' all. (let r = raised g good board.count (omega (arith, long, low)) here.1 in
            let parts = first_of_more good count turn all in r.2 count (tracks.least good count low' parts.0) parts.1);
        readings = (let a = read_more turn in let b = tracks.readings in omega (arith, a, b));
        here = has_left-more past turn false tracks.here stays;
      }
  tracks_after (Refused fault) wide here stays = same_after (Refused fault) from refl refl (λ good. refl) (λ good. refl) (omega arith) refl
  tracks_after Skipped wide here stays = same_after Skipped from refl refl (λ good. refl) (λ good. refl) (omega arith) refl
  tracks_after Quit wide here stays = absurd cc

-- ---- all turns

pub lawful_from_allowed : (from : Places) (past ts : List Turn) → Tracks from past → IsWide from → AreAllowed from ts → AreLawfulAfter past ts
lawful_from_allowed from past [] tracks wide all n turn at = absurd cc
lawful_from_allowed from past (t ∷ ts) tracks wide all zero turn at =
    let same : t ≡ turn = cc in
    let bare : past ≡ past ++ [] = sym (append-nil past) in
    subst (λ (l : List Turn). IsLawfulTurn l turn × (has_left l ≡ false)) bare (subst (IsLawfulTurn past) same (allowed_lawful from past tracks t all.0), tracks.here)
lawful_from_allowed from past (t ∷ ts) tracks wide all (suc n) turn at =
    by_leaving (is_leaving t) refl (λ is. lawful_from_allowed (behind_turn from t) (past ++ t ∷ []) ts (tracks_after from past tracks t wide all.0 is) (wide_after from t wide) all.2 n turn at)
  where
    by_leaving : (b : Bool) → is_leaving t ≡ b
        → (is_leaving t ≡ false → IsLawfulTurn ((past ++ t ∷ []) ++ take n ts) turn × (has_left ((past ++ t ∷ []) ++ take n ts) ≡ false))
        → IsLawfulTurn (past ++ t ∷ take n ts) turn × (has_left (past ++ t ∷ take n ts) ≡ false)
    by_leaving true is later = let none = all.1 is in absurd (let h : None ≡ Some turn = ap (λ (l : List Turn). slice_get l n) (sym none) ∙ at in cc)
    by_leaving false is later =
        let more = later is in
        subst (λ (l : List Turn). IsLawfulTurn l turn × (has_left l ≡ false)) (append_assoc past (t ∷ []) (take n ts)) more

pub allowed_from_lawful : (from : Places) (past ts : List Turn) → Tracks from past → IsWide from → AreLawfulAfter past ts → AreAllowed from ts
allowed_from_lawful from past [] tracks wide lawful = tt
allowed_from_lawful from past (t ∷ ts) tracks wide lawful =
    let bare : past ++ [] ≡ past = append-nil past in
    let here : IsAllowed from t = lawful_allowed from past tracks t (subst (λ (l : List Turn). IsLawfulTurn l t) bare (lawful 0 t refl).0) in (
      here,
      last ts lawful,
      by_leaving (is_leaving t) refl (λ is. allowed_from_lawful (behind_turn from t) (past ++ t ∷ []) ts (tracks_after from past tracks t wide here is) (wide_after from t wide)
          (λ n turn at. subst (λ (l : List Turn). IsLawfulTurn l turn × (has_left l ≡ false)) (sym (append_assoc past (t ∷ []) (take n ts))) (lawful (suc n) turn at))),
    )
  where
    last : (us : List Turn) → AreLawfulAfter past (t ∷ us) → is_leaving t ≡ true → us ≡ []
    last [] lawful' is = refl
    last (u ∷ us) lawful' is =
        let stays = (lawful' 1 u refl).1 in
        let left : has_left (past ++ t ∷ []) ≡ true = list_any-append is_leaving past (t ∷ []) ∙ (ap (λ (b : Bool). has_left past || (b || false)) is ∙ or_right (has_left past) (true || false) refl) in
        absurd (let never : true ≡ false = sym left ∙ stays in cc)

    by_leaving : (b : Bool) → is_leaving t ≡ b → (is_leaving t ≡ false → AreAllowed (behind_turn from t) ts) → AreAllowed (behind_turn from t) ts
    by_leaving true is later = let none = last ts lawful is in subst (λ (l : List Turn). AreAllowed (behind_turn from t) l) (sym none) tt
    by_leaving false is later = later is

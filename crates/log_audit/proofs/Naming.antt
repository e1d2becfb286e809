-- The places that posts have named.
use Rattle.std.proofs.Common.{◌≡◌, ◌≢◌, ℕ, ◌<◌, Bool, true, false, ◌||◌, ◌&&◌, List, [], ◌∷◌, ◌++◌, length, set, get_or, refl, sym, ap, ◌∙◌, arith, eq-eqb, ne_eqb, ◌==◌, slice_set, get_or-set_same, get_or-set_other}
use Rattle.std.proofs.lemmas.List.{get_or_past}
use Rattle.std.proofs.lemmas.List.Folds.{list_any-append}
use Rattle.std.proofs.lemmas.Bool.{and_right, or_right}
use mathlib.Core.Logic.{dite}
use native.Mathlib.Decide.{ℕ_discrete, dec_lt}
use Rattle.log_audit.specs.{Nets, CashCall, Post, CashEntry, is_post_at, is_posted, AreNamed, place_at}

pub posted_more : (cash : List CashEntry) (e : CashEntry) (good position : ℕ) → is_posted (cash ++ e ∷ []) good position ≡ (is_posted cash good position || (is_post_at good position e.call || false))
posted_more cash e good position = list_any-append (λ (x : CashEntry). is_post_at good position x.call) cash (e ∷ [])

pub or_none : (b : Bool) → (b || (false || false)) ≡ b
or_none true = refl
or_none false = refl

-- a post names one place
pub post_names : (before : List CashEntry) (e : CashEntry) (g p : ℕ) (nets : Nets) (named : List Bool) → e.call ≡ Post g p nets → length named ≡ 231168 → g < 28 → p < 8256
    → AreNamed before named → AreNamed (before ++ e ∷ []) (slice_set named (place_at g p) true)
post_names before e g p nets named is long low' few' are good position low few =
    let more = posted_more before e good position ∙ ap (λ (call : CashCall). is_posted before good position || (is_post_at good position call || false)) is in
    dite (ℕ_discrete g good)
    (λ same. dite (ℕ_discrete p position)
    (λ same'. let place : place_at g p ≡ place_at good position = λ i. place_at (same i) (same' i) in
    let here : get_or (set named (place_at g p) true) (place_at g p) false ≡ true = get_or-set_same named (place_at g p) true false (omega (arith, long, low', few')) in
    let own : ((g == good) && (p == position)) ≡ true = λ i. eq-eqb g good same i && eq-eqb p position same' i in
    ap (λ (k : ℕ). get_or (set named (place_at g p) true) k false) (sym place) ∙ (here ∙ sym (more ∙ (ap (λ b. is_posted before good position || (b || false)) own ∙ or_right (is_posted before good position) (true || false) refl))))
    (λ ne. elsewhere (λ at. ne (omega (arith, at, few, few', same))) (ap (λ b. (g == good) && b) (ne_eqb p position ne) ∙ and_right (g == good) false refl) more))
    (λ ne. elsewhere (λ at. ne (omega (arith, at, few, few'))) (ap (λ b. b && (p == position)) (ne_eqb g good ne)) more)
  where
    elsewhere : (place_at good position ≢ place_at g p) → ((g == good) && (p == position)) ≡ false → is_posted (before ++ e ∷ []) good position ≡ (is_posted before good position || (((g == good) && (p == position)) || false))
        → get_or (set named (place_at g p) true) (place_at good position) false ≡ is_posted (before ++ e ∷ []) good position
    elsewhere off none more =
        get_or-set_other named (place_at g p) (place_at good position) true false off
        ∙ (are good position low few ∙ sym (more ∙ (ap (λ b. is_posted before good position || (b || false)) none ∙ or_none (is_posted before good position))))

-- a list of false tests only has no true one
pub none_named : (n : ℕ) (named : List Bool) → length named ≡ n → ((k : ℕ) (d : Bool) → k < n → get_or named k d ≡ false) → (k : ℕ) → get_or named k false ≡ false
none_named n named long each k = dite (dec_lt k n) (λ lt. each k false lt) (λ ge. get_or_past named k false (omega (arith, ge, long)))

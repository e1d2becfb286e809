-- A log in its ranges is sound exactly if it has no flaw.
use Rattle.std.proofs.Common.{◌≡◌, ℕ, zero, suc, ◌+◌, ◌<◌, ◌≤◌, List, [], ◌∷◌, length, sym, ap, ◌∙◌, subst, arith, Some, None, slice_get, get_or, All}
use Rattle.std.proofs.lemmas.Option.{slice_get_within, get_or_from_slice_get}
use Rattle.std.proofs.lemmas.List.Elements.{All-get_or}
use Rattle.std.proofs.lemmas.List.{get_or_past}
use Rattle.auction_core.specs.Ranges.{IsEntry, IsHistory}
use mathlib.Core.Logic.{dite}
use native.Mathlib.Decide.{dec_lt}
use Rattle.auction_rules.specs.History.{Entry}
use Rattle.log_audit.specs.{CashEntry, setup_of, GameFile, LoggedGame, IsLogged, IsLoggedCashEntry, AreHistories, IsSound, logged_history, IsFreeOf}
use Rattle.log_audit.specs.declared.findings.Flaw.{Flaw}
use Rattle.log_audit.specs.declared.findings.Flaw.TheVariants as flaws
use Rattle.log_audit.proofs.Fairness.{fair_from_legal, legal_from_fair}
use Rattle.log_audit.proofs.TrueReadings.{true_from_legal, legal_from_true}
use Rattle.log_audit.proofs.Matching.{matched_from_due, due_posts_from, has_post_from}

-- what holds of all elements holds of the one at a place
pub all_at : {A : Type 0} (P : A → Type 0) (xs : List A) → All P xs → (i : ℕ) (x : A) → slice_get xs i ≡ Some x → P x
all_at P xs all i x at = subst P (get_or_from_slice_get xs i x x at) (All-get_or P xs i x (slice_get_within xs i x at) all)

-- each history is in its ranges
histories_at : (n i : ℕ) (histories : List (List Entry)) → AreHistories n histories → i < length histories → IsHistory (n + i) (get_or histories i [])
histories_at n i [] are inside = absurd (omega (arith, inside))
histories_at n zero (h ∷ histories) are inside = let here : n ≡ n + 0 = omega arith in subst (λ (g : ℕ). IsHistory g h) here are.0
histories_at n (suc i) (h ∷ histories) are inside =
    let next : (n + 1) + i ≡ n + suc i = omega arith in subst (λ (g : ℕ). IsHistory g (get_or histories i [])) next (histories_at (n + 1) i histories are.1 (omega (arith, inside)))

-- the place of an entry is one of a log's
pub place_within : (log : LoggedGame) → IsLogged log → (good position : ℕ) (e : Entry) → slice_get (logged_history log good) position ≡ Some e → (good < 28) × (position < 8256)
place_within log logged good position e at = dite (dec_lt good 28)
    (λ low. let goods = logged.goods in let few = (histories_at 0 good log.histories logged.histories (omega (arith, goods, low))).few in
    let inside = slice_get_within (logged_history log good) position e at in (low, omega (arith, few, inside)))
    (λ high. let goods = logged.goods in let none : Some e ≡ None = sym at ∙ ap (λ (h : List Entry). slice_get h position) (get_or_past log.histories good [] (omega (arith, goods, high))) in absurd cc)

module _ (game : GameFile) (log : LoggedGame) (logged : IsLogged log) where
  called_at : (good : ℕ) → good < 28 → (position : ℕ) (e : Entry) → slice_get (logged_history log good) position ≡ Some e → e.caller ≤ 8
  called_at good low position e at =
      let goods = logged.goods in
      let history = histories_at 0 good log.histories logged.histories (omega (arith, goods, low)) in
      (all_at (IsEntry (0 + good)) (logged_history log good) history.entries position e at).caller

  cash_at : (position : ℕ) (e : CashEntry) → slice_get log.cash position ≡ Some e → IsLoggedCashEntry e
  cash_at position e at = all_at IsLoggedCashEntry log.cash logged.cash position e at

  pub sound_from_free : ((flaw : Flaw) → IsFreeOf game log flaw) → IsSound game log
  sound_from_free free = record {
    legal = λ good low. legal_from_fair (setup_of good game) (logged_history log good) (λ position. free (flaws.Entry good position) low) (called_at good low);
    scheduled = λ good low. free (flaws.Clock good) low;
    cash = legal_from_true log.cash cash_at (λ position. free (flaws.Cash position));
    matched = matched_from_due log logged cash_at (λ position. free (flaws.Post position)) (λ good position low. free (flaws.Unposted good position) low);
    scores = record { count = logged.agents; due = λ agent scored at. free (flaws.Score agent) scored at };
    head = free flaws.Head;
  }

  pub free_from_sound : IsSound game log → (flaw : Flaw) → IsFreeOf game log flaw
  free_from_sound sound (flaws.Entry good position) = λ low. fair_from_legal (setup_of good game) (logged_history log good) (sound.legal good low) position
  free_from_sound sound (flaws.Clock good) = λ low. sound.scheduled good low
  free_from_sound sound (flaws.Cash position) = true_from_legal log.cash sound.cash position
  free_from_sound sound (flaws.Post position) = due_posts_from log logged cash_at sound.matched position
  free_from_sound sound (flaws.Unposted good position) = λ low. has_post_from log logged cash_at sound.matched good position low
  free_from_sound sound (flaws.Score agent) = sound.scores.due agent
  free_from_sound sound flaws.Head = sound.head

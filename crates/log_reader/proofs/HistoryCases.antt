-- Reading a history, case by case, and the history of a good.
use Rattle.std.proofs.Common.{◌≡◌, ℕ, zero, suc, ◌+◌, List, [], ◌∷◌, Some, Result, Ok, Err, is_err, false, refl, subst, arith, OnOk, slice_get}
use Rattle.log_reader.specs.{IsHistory, BadLine, Remaining, repeat, auction_of, line_by, entry_in, history_in}
use Rattle.auction_rules.specs.History.{Entry}
use Rattle.log_text.specs.LoggedGames.{AreHistories}

pub no_count : (good : ℕ) (left : Remaining) (bad : BadLine) → line_by (auction_of good) left ≡ Err bad → history_in good left ≡ Err bad
unfolding history_in
no_count good left bad h = rw h refl

pub history_is : (good : ℕ) (left : Remaining) (count : ℕ) (after : Remaining) (read : Result (List Entry × Remaining) BadLine) → line_by (auction_of good) left ≡ Ok (count, after) → repeat count 0 (λ _. entry_in good) after ≡ read → history_in good left ≡ read
unfolding history_in
history_is good left count after read h e = rw h e

-- what holds if a call succeeded
pub if_done : {A E P : Type 0} (result : Result A E) → is_err result ≡ false → OnOk result P → P
if_done (Ok x) h p = p
if_done (Err fault) h p = absurd cc

-- the history of a good, of those that are numbered from a good
pub history_at : (from : ℕ) (histories : List (List Entry)) (place : ℕ) (history : List Entry) → AreHistories from histories → slice_get histories place ≡ Some history → IsHistory (from + place) history
history_at from [] place history all at = absurd cc
history_at from (h ∷ histories) zero history all at =
    let same : h ≡ history = cc in
    let here : from ≡ from + 0 = omega arith in
    subst (λ (good : ℕ). IsHistory good history) here (subst (IsHistory from) same all.0)
history_at from (h ∷ histories) (suc place) history all at =
    let there : from + 1 + place ≡ from + suc place = omega arith in
    subst (λ (good : ℕ). IsHistory good history) there (history_at (from + 1) histories place history all.1 at)

-- What is answered to the last call of a legal cash history.
use Rattle.std.proofs.Common.{◌≡◌, ℕ, List, [], ◌∷◌, ◌++◌, length, take, refl, ap, ◌∙◌, Some, slice_get, ℤ}
use Rattle.floor.specs.Prelude.{Nets, Post, Read, Done, Cash, CashEntry, cash_total, cash_reply_of, IsLegalCash}

last_of : (before : List CashEntry) (e : CashEntry) → slice_get (before ++ e ∷ []) (length before) ≡ Some e
last_of [] e = refl
last_of (x ∷ before) e = last_of before e

is_due : (before : List CashEntry) (e : CashEntry) → IsLegalCash (before ++ e ∷ []) → e.reply ≡ cash_reply_of (take (length before) (before ++ e ∷ [])) e.call
is_due before e legal = (legal (length before) e (last_of before e)).1

pub post_is_done : (before : List CashEntry) (e : CashEntry) (good position : ℕ) (nets : Nets) → IsLegalCash (before ++ e ∷ []) → e.call ≡ Post good position nets → e.reply ≡ Done
post_is_done before e good position nets legal asked = is_due before e legal ∙ ap (cash_reply_of (take (length before) (before ++ e ∷ []))) asked

pub reading_is_cash : (before : List CashEntry) (e : CashEntry) (agent : ℕ) → IsLegalCash (before ++ e ∷ []) → e.call ≡ Read agent → (dollars : ℤ) × (e.reply ≡ Cash dollars)
reading_is_cash before e agent legal asked =
    let earlier = take (length before) (before ++ e ∷ []) in (cash_total earlier agent, is_due before e legal ∙ ap (cash_reply_of earlier) asked)

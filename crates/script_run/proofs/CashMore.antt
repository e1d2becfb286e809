-- A cash history with one entry more.
use Rattle.std.proofs.Common.{◌≡◌, ℕ, List, [], ◌∷◌, ◌++◌, length, take, refl, sym, ap, ◌∙◌, arith, Some, slice_get, append-nil}
use Rattle.std.proofs.Math.Seq.{take-append_seam}
use Rattle.script_run.specs.Prelude.{Trade, nets, Entry, post_for, due_post, CashCall, Post, Done, CashEntry, IsLegalCash, cash_reply_of}
use Rattle.tac_base.specs.declared.calls.Nets.{Nets}

get_last : (cash : List CashEntry) (e : CashEntry) → slice_get (cash ++ e ∷ []) (length cash) ≡ Some e
get_last [] e = refl
get_last (x ∷ cash) e = get_last cash e

-- the last entry of a legal history answers what is due
pub cash_more : (cash cash' : List CashEntry) (caller : ℕ) (call : CashCall) (e : CashEntry) → IsLegalCash cash' → cash' ≡ cash ++ e ∷ [] →
    e.caller ≡ caller → e.call ≡ call → cash' ≡ cash ++ record { caller = caller; call = call; reply = cash_reply_of cash call } ∷ []
cash_more cash cash' caller call e legal more by asked =
    let here : slice_get cash' (length cash) ≡ Some e = ap (λ (l : List CashEntry). slice_get l (length cash)) more ∙ get_last cash e in
    let before : take (length cash) cash' ≡ cash = ap (take (length cash)) more ∙ take-append_seam cash (e ∷ []) in
    let due : e.reply ≡ cash_reply_of cash call = (legal (length cash) e here).1 ∙ (λ i. cash_reply_of (before i) (asked i)) in
    more ∙ (λ i. cash ++ record { caller = by i; call = asked i; reply = due i } ∷ [])

-- an entry without trades has no post
pub no_posts : (cash : List CashEntry) (good position count : ℕ) (e : Entry) → count ≡ 0 → count ≡ length e.trades → cash ≡ cash ++ due_post good position e
no_posts cash good position count e none is = by_trades e.trades is
  where
    by_trades : (trades : List Trade) → count ≡ length trades → cash ≡ cash ++ post_for trades (record { caller = e.caller; call = Post good position (record { dollars = nets e.trades }); reply = Done })
    by_trades [] same = sym (append-nil cash)
    by_trades (t ∷ trades) same = absurd (omega arith)

some_post : (post : CashEntry) (count : ℕ) (trades : List Trade) → (count ≡ 0 → ⊥) → count ≡ length trades → post ∷ [] ≡ post_for trades post
some_post post count [] some is = absurd (some is)
some_post post count (t ∷ trades) some is = refl

-- an entry with trades is posted by its caller
pub posted_is : (cash cash' : List CashEntry) (caller good position count : ℕ) (paid : Nets) (e : Entry) → (count ≡ 0 → ⊥) →
    cash' ≡ cash ++ record { caller = caller; call = Post good position paid; reply = Done } ∷ [] →
    e.caller ≡ caller → paid.dollars ≡ nets e.trades → count ≡ length e.trades → cash' ≡ cash ++ due_post good position e
posted_is cash cash' caller good position count paid e some more mine dollars is =
    more
    ∙ ((λ i. cash ++ record { caller = sym mine i; call = Post good position (record { dollars = dollars i }); reply = Done } ∷ [])
    ∙ ap (λ (l : List CashEntry). cash ++ l) (some_post (record { caller = e.caller; call = Post good position (record { dollars = nets e.trades }); reply = Done }) count e.trades some is))

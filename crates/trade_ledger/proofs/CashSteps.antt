-- A cash history with one entry more.
use Rattle.std.proofs.Common.{◌≡◌, ℕ, zero, suc, ◌+◌, ◌*◌, ◌<◌, ◌≤◌, List, [], ◌∷◌, ◌++◌, length, map, fold, take, sym, refl, ap, ◌∙◌, subst, arith, length-append, take_all, Some, None, ℤ, pos, ◌+ℤ◌, slice_index_or, slice_get, filter_map}
use Rattle.std.specs.List.{AllByRecursion}
use Rattle.std.proofs.lemmas.Int.{ints}
use Rattle.std.proofs.lemmas.List.{take-append-le}
use Rattle.std.proofs.lemmas.List.Elements.{filter_map-append}
use Rattle.std.proofs.lemmas.List.Sums.{fold-append}
use mathlib.Core.Logic.{dite}
use native.Mathlib.Decide.{ℕ_discrete}
use Rattle.trade_ledger.specs.Prelude.{Nets, clock, part}
use Rattle.turn_lock.proofs.Parts.{nine_parts, part_mine, part_other}
use Rattle.trade_ledger.specs.declared.cash_calls.CashCall.{CashCall}
use Rattle.trade_ledger.specs.declared.cash_calls.CashCall.TheVariants.{Post, Read}
use Rattle.trade_ledger.specs.declared.cash_calls.CashEntry.{CashEntry}
use Rattle.trade_ledger.specs.{nets_of, cash_total, gain_of, IsFitCash, reply_by, cash_reply_of, IsLegalCash, cash_cap, IsWithin, IsCashCall, IsCashReply, IsLoggableCash, IsCashSound}

-- the nets of all posts of a history, in order
abbrev pub posted_nets : List CashEntry → List Nets
posted_nets history = filter_map (λ e. nets_of e.call) history

abbrev net : ℕ → Nets → ℤ
net party nets = slice_index_or nets.dollars party (pos 0)

added : (a : ℤ) (call : CashCall) (party : ℕ) → fold ◌+ℤ◌ a (map (net party) (filter_map (λ (e : CashCall). nets_of e) (call ∷ []))) ≡ a +ℤ gain_of call party
added a (Post good position nets) party = refl
added a (Read agent) party = omega (arith, ints)

map_join : {A B : Type 0} (f : A → B) (xs ys : List A) → map f (xs ++ ys) ≡ map f xs ++ map f ys
map_join f [] ys = refl
map_join {B = B} f (x ∷ xs) ys = ap (λ (l : List B). f x ∷ l) (map_join f xs ys)

pub cash_total-snoc : (history : List CashEntry) (e : CashEntry) (party : ℕ) → cash_total (history ++ e ∷ []) party ≡ cash_total history party +ℤ gain_of e.call party
cash_total-snoc history e party =
    ap (λ (l : List Nets). fold ◌+ℤ◌ (pos 0) (map (net party) l)) (filter_map-append (λ (x : CashEntry). nets_of x.call) history (e ∷ []))
    ∙ (ap (fold ◌+ℤ◌ (pos 0)) (map_join (net party) (posted_nets history) (posted_nets (e ∷ [])))
    ∙ (fold-append ◌+ℤ◌ (pos 0) (map (net party) (posted_nets history)) (map (net party) (posted_nets (e ∷ [])))
    ∙ added (cash_total history party) e.call party))

-- what stands in a history with one entry more
get_snoc : (history : List CashEntry) (e x : CashEntry) (position : ℕ) (P : ℕ → CashEntry → Type 0)
    → ((k : ℕ) (y : CashEntry) → slice_get history k ≡ Some y → k < length history → P k y) → P (length history) e
    → slice_get (history ++ e ∷ []) position ≡ Some x → P position x
get_snoc [] e x zero P old new at = let same : e ≡ x = cc in subst (P 0) same new
get_snoc [] e x (suc k) P old new at = let never : None ≡ Some x = at in absurd cc
get_snoc (y ∷ history) e x zero P old new at = old 0 x at (omega arith)
get_snoc (y ∷ history) e x (suc k) P old new at = get_snoc history e x k (λ j. P (suc j)) (λ j z h lt. old (suc j) z h (omega arith)) new at

pub legal_snoc : (history : List CashEntry) (e : CashEntry) → IsLegalCash history → IsFitCash e.caller e.call → e.reply ≡ cash_reply_of history e.call → IsLegalCash (history ++ e ∷ [])
legal_snoc history e legal fit reply position x =
    let is_due : List CashEntry → CashEntry → Type 0 = λ before y. IsFitCash y.caller y.call × (y.reply ≡ cash_reply_of before y.call) in
    get_snoc history e x position (λ k y. is_due (take k (history ++ e ∷ [])) y)
    (λ k y at inside. subst (λ (before : List CashEntry). is_due before y) (sym (take-append-le k history (e ∷ []) (omega arith))) (legal k y at))
    (subst (λ (before : List CashEntry). is_due before e) (sym (take-append-le (length history) history (e ∷ []) (omega arith) ∙ take_all (length history) history (omega arith))) (fit, reply))

abbrev by : CashEntry → ℕ
by e = e.caller

pub called_snoc : (history : List CashEntry) (e : CashEntry) → AllByRecursion (λ (x : CashEntry). x.caller ≤ clock) history → e.caller ≤ clock → AllByRecursion (λ (x : CashEntry). x.caller ≤ clock) (history ++ e ∷ [])
called_snoc [] e all is = (is, tt)
called_snoc (x ∷ history) e all is = (all.0, called_snoc history e all.1 is)

loggable_snoc : (history : List CashEntry) (e : CashEntry) → AllByRecursion IsLoggableCash history → IsLoggableCash e → AllByRecursion IsLoggableCash (history ++ e ∷ [])
loggable_snoc [] e all is = (is, tt)
loggable_snoc (x ∷ history) e all is = (all.0, loggable_snoc history e all.1 is)

abbrev AreCapped : List CashEntry → Type 0
AreCapped history = (caller : ℕ) → length (part by history caller) ≤ cash_cap caller

pub capped_snoc : (history : List CashEntry) (e : CashEntry) → AreCapped history → length (part by history e.caller) < cash_cap e.caller → AreCapped (history ++ e ∷ [])
capped_snoc history e capped room caller = dite (ℕ_discrete e.caller caller)
    (λ is. let one : length (part by (history ++ e ∷ []) caller) ≡ length (part by history caller) + 1 =
    ap length (part_mine by history e caller is) ∙ length-append (part by history caller) ((length history, e) ∷ []) in
    let room' : length (part by history caller) < cash_cap caller = subst (λ (k : ℕ). length (part by history k) < cash_cap k) is room in omega arith)
    (λ ne. subst (λ (l : List (ℕ × CashEntry)). length l ≤ cash_cap caller) (sym (part_other by history e caller ne)) (capped caller))

-- all caps together
pub few_entries : (history : List CashEntry) → AllByRecursion (λ (x : CashEntry). x.caller ≤ clock) history → AreCapped history → length history ≤ 238048
few_entries history called capped = omega (arith, nine_parts by history called, capped 0, capped 1, capped 2, capped 3, capped 4, capped 5, capped 6, capped 7, capped 8)

-- a caller with entries left has room
pub room_for : (history : List CashEntry) (e : CashEntry) → AllByRecursion (λ (x : CashEntry). x.caller ≤ clock) history → e.caller ≤ clock → AreCapped history
    → length (part by history e.caller) < cash_cap e.caller → length history < 238048
room_for history e called is capped room =
    omega (arith, few_entries (history ++ e ∷ []) (called_snoc history e called is) (capped_snoc history e capped room), length-append history (e ∷ []))

pub within_more : (n : ℕ) (a d s : ℤ) → IsWithin (n * 2147483648) a → IsWithin 2147483648 d → s ≡ a +ℤ d → IsWithin ((n + 1) * 2147483648) s
within_more n a d s is more sum = (omega (arith, ints, is.0, more.0), omega (arith, ints, is.1, more.1))

-- the totals of a book are small enough for one post more
pub within_all : (n : ℕ) (a : ℤ) → n ≤ 238048 → IsWithin (n * 2147483648) a → IsWithin 600000000000000 a
within_all n a few is = (omega (arith, ints, is.0), omega (arith, ints, is.1))

-- the book keeps its history with one entry more
pub sound_snoc : (history : List CashEntry) (kept kept' : List ℤ) (capacity : ℕ) (e : CashEntry) → IsCashSound history kept capacity → e.caller ≤ clock → length (part by history e.caller) < cash_cap e.caller
    → IsFitCash e.caller e.call → e.reply ≡ reply_by (λ party. slice_index_or kept party (pos 0)) e.call
    → ((party : ℕ) → party < 9 → slice_index_or kept' party (pos 0) ≡ slice_index_or kept party (pos 0) +ℤ gain_of e.call party)
    → ((party : ℕ) → party < 9 → IsWithin 2147483648 (gain_of e.call party)) → IsCashCall e.call → IsCashSound (history ++ e ∷ []) kept' capacity
sound_snoc history kept kept' capacity e sound is room fit reply new small ranged = record {
  legal = legal_snoc history e sound.legal fit (reply ∙ same_reply e.call fit);
  called = called_snoc history e sound.called is;
  loggable = loggable_snoc history e sound.loggable (record { caller = is; call = ranged; reply = subst IsCashReply (sym reply) (answered e.call ranged) });
  capped = capped_snoc history e sound.capped room;
  totals = λ party lt. new party lt ∙ (ap (λ (z : ℤ). z +ℤ gain_of e.call party) (sound.totals party lt) ∙ sym (cash_total-snoc history e party));
  small = λ party lt. subst (λ (n : ℕ). IsWithin (n * 2147483648) (cash_total (history ++ e ∷ []) party)) (sym (length-append history (e ∷ [])))
      (within_more (length history) (cash_total history party) (gain_of e.call party) (cash_total (history ++ e ∷ []) party) (sound.small party lt) (small party lt) (cash_total-snoc history e party));
  room = sound.room;
}
  where
    same_reply : (call : CashCall) → IsFitCash e.caller call → reply_by (λ party. slice_index_or kept party (pos 0)) call ≡ reply_by (cash_total history) call
    same_reply (Post good position nets) fits = refl
    same_reply (Read agent) fits = ap (λ (z : ℤ). reply_by (λ _. z) (Read agent)) (sound.totals agent (omega arith))

    answered : (call : CashCall) → IsCashCall call → IsCashReply (reply_by (λ party. slice_index_or kept party (pos 0)) call)
    answered (Post good position nets) is = tt
    answered (Read agent) is =
        subst (IsWithin 600000000000000) (sym (sound.totals agent (omega arith)))
        (within_all (length history) (cash_total history agent) (few_entries history sound.called sound.capped) (sound.small agent (omega arith)))

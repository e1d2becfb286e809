-- An entry that is struck again, compared with the one of the log.
use Rattle.std.proofs.Common.{◌≡◌, ℕ, zero, suc, ◌+◌, ◌<◌, ◌≤◌, cond, List, [], ◌∷◌, ◌++◌, length, take, map, set, get_or, refl, sym, ap, ◌∙◌, subst, arith, Option, Some, None, slice_get, IfSome, IsSome, ◌↔◌, ne_eqb, eq-eqb, reverse, ◌==◌, slice_index, slice_set, option_map, get_or-set_same, get_or-set_other}
use Rattle.std.proofs.lemmas.List.Sums.{sum_by_push}
use Rattle.std.proofs.lemmas.Option.{slice_get-map}
use mathlib.Core.Logic.{dite}
use native.Mathlib.Decide.{ℕ_discrete}
use Rattle.log_audit.specs.{Call, Reply, Nets, Trade, Setup, nets as nets_of, entry_of, reply_of, trades_of, entries_of, cap, Shows, IsFair, AreCounts, IsRuled, IsStruckIfFair, nets_by}
use Rattle.tac_base.specs.declared.calls.Entry.{Entry as StoredEntry}
use Rattle.auction_rules.specs.History.{Entry}
use Rattle.log_audit.proofs.Positions.{take_at, same_at}
use Rattle.log_audit.proofs.Fairness.{ruled}

-- the trades of a newest entry
pub newest_trades : (history : List Entry) (e : Entry) (position : ℕ) (trades : List Trade) → position ≡ length history → slice_get (map (λ (x : Entry). x.trades) (history ++ e ∷ [])) position ≡ Some trades → trades ≡ e.trades
newest_trades [] e zero trades is at = cc
newest_trades [] e (suc position) trades is at = absurd (omega (arith, is))
newest_trades (x ∷ history) e zero trades is at = absurd (omega (arith, is))
newest_trades (x ∷ history) e (suc position) trades is at = newest_trades history e position trades (omega (arith, is)) at

-- the trades of an entry that is there
pub trades_there : (history : List Entry) (position : ℕ) (e : Entry) (trades : List Trade) → slice_get history position ≡ Some e → slice_get (map (λ (x : Entry). x.trades) history) position ≡ Some trades → trades ≡ e.trades
trades_there history position e trades at is =
    let both : Some trades ≡ Some e.trades = sym is ∙ (slice_get-map (λ (x : Entry). x.trades) history position ∙ ap (option_map (λ (x : Entry). x.trades)) at) in cc

-- one entry more of a caller
pub counted_more : (history : List Entry) (e : Entry) (counts counts' : List ℕ) → AreCounts history counts → length counts ≡ 9 → e.caller ≤ 8 → counts' ≡ slice_set counts e.caller (slice_index counts e.caller + 1) → AreCounts (history ++ e ∷ []) counts'
counted_more history e counts counts' counted nine known is caller low =
    let more : entries_of (history ++ e ∷ []) caller ≡ entries_of history caller + cond (e.caller == caller) 1 0 = sum_by_push (λ (x : Entry). cond (x.caller == caller) 1 0) history e in
    ap (λ (l : List ℕ). slice_index l caller) is
    ∙ dite (ℕ_discrete e.caller caller)
    (λ same. let own : cond {A = ℕ} (e.caller == caller) 1 0 ≡ 1 = ap (λ b. cond {A = ℕ} b 1 0) (eq-eqb e.caller caller same) in
    let here : get_or (set counts caller (slice_index counts caller + 1)) caller 0 ≡ slice_index counts caller + 1 = get_or-set_same counts caller (slice_index counts caller + 1) 0 (omega (arith, nine, low)) in
    ap (λ (k : ℕ). slice_index (slice_set counts k (slice_index counts k + 1)) caller) same ∙ omega (arith, here, own, more, counted caller low))
    (λ ne. let none : cond {A = ℕ} (e.caller == caller) 1 0 ≡ 0 = ap (λ b. cond {A = ℕ} b 1 0) (ne_eqb e.caller caller ne) in
    let other : get_or (set counts e.caller (slice_index counts e.caller + 1)) caller 0 ≡ get_or counts caller 0 = get_or-set_other counts e.caller caller (slice_index counts e.caller + 1) 0 (λ same. ne (sym same)) in
    omega (arith, other, none, more, counted caller low))

module _ (setup : Setup) (history : List Entry) (position : ℕ) (e : Entry) (at : slice_get history position ≡ Some e) where
  abbrev before : List Entry
  before = take position history

  module _ (after : List Entry) (counts : List ℕ) (trades : List Trade) where
    pub struck_as : (found : Option Nets) → trades ≡ e.trades → entries_of before e.caller < cap e.caller → after ≡ before ++ entry_of setup (reverse before) e.caller e.call ∷ [] → AreCounts (before ++ e ∷ []) counts
        → (IsSome found ↔ ((e.reply ≡ reply_of setup (reverse before) e.caller e.call) × (trades ≡ trades_of setup (reverse before) e.caller e.call)))
        → IfSome found (λ nets. nets.dollars ≡ nets_of trades) → IsStruckIfFair setup history position after counts found
    struck_as None own room made counted same given = λ fair. let never = same.1 ((fair e at).reply, own ∙ (fair e at).trades) in absurd cc
    struck_as (Some nets) own room made counted same given =
        let both = same.0 refl in let traded : e.trades ≡ trades_of setup (reverse before) e.caller e.call = sym own ∙ both.1 in
        let more : take (position + 1) history ≡ before ++ e ∷ [] = take_at history position e at in
        let is : e ≡ entry_of setup (reverse before) e.caller e.call = ruled setup (reverse before) e both.0 traded in
        let dollars : nets.dollars ≡ nets_of e.trades = given ∙ ap nets_of own in
        record {
          fair = λ x there. subst (IsFair setup before) (same_at history position e x at there) (record { reply = both.0; trades = traded; room = λ full. absurd (omega (arith, full, room)) });
          after_is = made ∙ (ap (λ (x : Entry). before ++ x ∷ []) (sym is) ∙ sym more);
          counted = subst (λ (h : List Entry). AreCounts h counts) (sym more) counted;
          nets_are = slice_get-map nets_by history position ∙ (ap (option_map nets_by) at ∙ (λ i. Some (record { dollars = sym dollars i })));
        }

-- the entry after those of a past was struck, or is not fair
pub struck_next : (setup : Setup) (history past : List Entry) (e : Entry) (shown : StoredEntry) (after : List Entry) (counts counts' : List ℕ) (trades : List Trade) (found : Option Nets)
    → past ≡ take (length past) history → slice_get history (length past) ≡ Some e → Shows history (length past) e shown → trades ≡ e.trades → shown.caller ≤ 8
    → entries_of past shown.caller < cap shown.caller → AreCounts past counts → length counts ≡ 9 → counts' ≡ slice_set counts shown.caller (slice_index counts shown.caller + 1)
    → after ≡ past ++ entry_of setup (reverse past) shown.caller shown.call ∷ [] → (IsSome found ↔ IsRuled setup past shown trades) → IfSome found (λ nets. nets.dollars ≡ nets_of trades) → IsStruckIfFair setup history (length past) after counts' found
struck_next setup history past e shown after counts counts' trades found before at shows own low room counted nine more made same given =
    let n = length past in
    struck_as setup history n e at after counts' trades found own
    (let P : List Entry × ℕ → Type 0 = λ q. entries_of q.0 q.1 < cap q.1 in subst P (λ i. (before i, shows.caller i)) room)
    (made ∙ (λ i. before i ++ entry_of setup (reverse (before i)) (shows.caller i) (shows.call i) ∷ []))
    (counted_more (take n history) e counts counts' (subst (λ (h : List Entry). AreCounts h counts) before counted) nine (subst (λ (k : ℕ). k ≤ 8) shows.caller low)
    (more ∙ ap (λ (k : ℕ). slice_set counts k (slice_index counts k + 1)) shows.caller))
    (let P : List Entry × ℕ × Call × Reply → Type 0 = λ q. IsSome found ↔ IsRuled setup q.0 (record shown { caller = q.1; call = q.2; reply = q.3 }) trades in subst P (λ i. (before i, shows.caller i, shows.call i, shows.reply i)) same) given

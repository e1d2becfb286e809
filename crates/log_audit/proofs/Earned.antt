-- What the entries of a log earned, by good and position.
use Rattle.std.proofs.Common.{◌≡◌, ◌≢◌, ℕ, ◌<◌, List, [], ◌∷◌, length, map, get_or, refl, sym, ap, ◌∙◌, arith, Option, Some, None, slice_get, option_map}
use Rattle.std.specs.Global.{Vec}
use Rattle.std.proofs.lemmas.List.{length-map}
use Rattle.std.proofs.lemmas.Option.{slice_get-map, slice_get_read, get_or_from_slice_get}
use Rattle.tac_base.specs.declared.calls.Entry.{Entry as StoredEntry}
use Rattle.log_audit.specs.{Nets, Trade, nets as nets_of, IsShown, LoggedGame, logged_history, IsEarned, nets_by, AreNets}
use Rattle.auction_rules.specs.History.{Entry}
use Rattle.log_audit.proofs.Positions.{same_at}

-- each good has its nets
pub earned_within : (log : LoggedGame) (earned : List (Vec Nets)) (good : ℕ) → length log.histories ≡ 28 → AreNets log earned → good < 28 → good < length earned
earned_within log earned good goods are low =
    omega (arith, low, goods, length-map earned (λ (r : Vec Nets). r.items), length-map log.histories (map nets_by), ap (λ (l : List (List Nets)). length l) are)

-- the nets of a good
pub row_of : (log : LoggedGame) (earned : List (Vec Nets)) (good : ℕ) (row : Vec Nets) → AreNets log earned → good < length earned → row ≡ get_or earned good row → row.items ≡ map nets_by (logged_history log good)
row_of log earned good row are inside is = by_history (slice_get log.histories good) refl
  where
    shown : Some row.items ≡ option_map (map nets_by) (slice_get log.histories good)
    shown =
        sym (slice_get-map (λ (r : Vec Nets). r.items) earned good ∙ ap (option_map (λ (r : Vec Nets). r.items)) (slice_get_read earned (length earned) good row refl inside is))
        ∙ (ap (λ (l : List (List Nets)). slice_get l good) are ∙ slice_get-map (map nets_by) log.histories good)

    by_history : (found : Option (List Entry)) → slice_get log.histories good ≡ found → row.items ≡ map nets_by (logged_history log good)
    by_history None none = let never : Some row.items ≡ None = shown ∙ ap (option_map (map nets_by)) none in absurd cc
    by_history (Some history) at =
        let same : Some row.items ≡ Some (map nets_by history) = shown ∙ ap (option_map (map nets_by)) at in
        let here : row.items ≡ map nets_by history = cc in
        here ∙ ap (map nets_by) (sym (get_or_from_slice_get log.histories good history [] at))

module _ (history : List Entry) (position : ℕ) (shown : StoredEntry) (is : IsShown history position (Some shown)) (caller : ℕ) (nets : Nets) where
  row_is : (row : Nets) → slice_get (map nets_by history) position ≡ Some row → row.dollars ≡ nets_of is.0.trades
  row_is row at = let same : Some row ≡ Some (nets_by is.0) = sym at ∙ (slice_get-map nets_by history position ∙ ap (option_map nets_by) is.1) in let here : row ≡ nets_by is.0 = cc in ap (λ (n : Nets). n.dollars) here

  some_trade : (trades : List Trade) → trades ≢ [] → 0 < length trades
  some_trade [] some = absurd (some refl)
  some_trade (t ∷ ts) some = omega arith

  -- the shown entry of an entry that earned so much
  pub from_earned : ((e : Entry) × (slice_get history position ≡ Some e) × IsEarned caller nets e)
      → (0 < shown.trades) × (caller ≡ shown.caller) × ((row : Nets) → slice_get (map nets_by history) position ≡ Some row → row.dollars ≡ nets.dollars)
  from_earned (e, at, earned) =
      let same : e ≡ is.0 = same_at history position e is.0 at is.1 in let count = is.2.trades in
      let some = some_trade e.trades earned.trades in let long = ap (λ (x : Entry). length x.trades) same in (
        omega (arith, count, some, long),
        earned.caller_is ∙ (ap (λ (x : Entry). x.caller) same ∙ sym is.2.caller),
        (λ row row_at. row_is row row_at ∙ (ap (λ (x : Entry). nets_of x.trades) (sym same) ∙ sym earned.nets_are)),
      )

  pub to_earned : 0 < shown.trades → caller ≡ shown.caller → (row : Nets) → slice_get (map nets_by history) position ≡ Some row → row.dollars ≡ nets.dollars → (e : Entry) × (slice_get history position ≡ Some e) × IsEarned caller nets e
  to_earned some own row at gain =
      let count = is.2.trades in (
        is.0,
        is.1,
        record {
          trades = λ none. let long = ap (λ (ts : List Trade). length ts) none in absurd (omega (arith, count, some, long));
          caller_is = own ∙ is.2.caller;
          nets_are = sym gain ∙ row_is row at;
        },
      )

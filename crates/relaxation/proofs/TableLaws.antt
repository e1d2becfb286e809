-- What tables of packages hold.
use Rattle.std.proofs.Common.{◌≡◌, ◌≢◌, ℕ, ◌+◌, ◌*◌, ◌<◌, ◌≤◌, ℤ, pos, ◌<ℤ◌, List, Some, length, get_or, set, inl, inr, refl, sym, ap, subst, ◌∙◌, arith, slice_get, get_or-set_same, get_or-set_other}
use Rattle.std.proofs.lemmas.Bool.{cases_eq}
use Rattle.std.proofs.lemmas.Option.{slice_get_within}
use Rattle.relaxation.specs.{Preferences, Package, utility_of, packages, dollars_at, HasWorths, IsPut}
use Rattle.game_text.specs.Accounts.{AccountFile, IsAccount}
use Rattle.packages.proofs.Decoded.{length-packages}

same_package : (n : ℕ) (p q : Package) → slice_get packages n ≡ Some p → slice_get packages n ≡ Some q → p ≡ q
same_package n p q hp hq = cc

-- the entries of the packages so far, and of one more
pub entries_more : {A : Type 0} (f : Package → A) (none : A) (table : List A) (j place : ℕ) (entry : A) (choice : Package) → j < length table → slice_get packages j ≡ Some choice → entry ≡ f choice → place ≡ j
    → ((n : ℕ) (p : Package) → n < j → slice_get packages n ≡ Some p → get_or table n none ≡ f p)
    → (n : ℕ) (p : Package) → n < j + 1 → slice_get packages n ≡ Some p → get_or (set table place entry) n none ≡ f p
entries_more f none table j place entry choice long found entry_is place_is before = λ n p lt at. elim (cases_eq n j) [
  | inl same ↦
      let here : get_or (set table j entry) j none ≡ entry = get_or-set_same table j entry none long in
      let p_is : choice ≡ p = same_package j choice p found (subst (λ i. slice_get packages i ≡ Some p) same at) in
      rw (place_is, same, here, entry_is, p_is) refl
  | inr other ↦ rw (place_is, get_or-set_other table j n entry none other) (before n p (omega (arith, other)) at)
]

-- a table from which the packages so far were taken that lack a value
abbrev pub KeepsSoFar : (Package → ℕ) → ℕ → ℕ → ℕ → List ℤ → List ℤ → Type 0
KeepsSoFar feature client value j old new =
    (k n : ℕ) (p : Package) → k < 8 → slice_get packages n ≡ Some p → (k ≡ client → n < j → feature p ≡ value) → dollars_at new k n ≡ dollars_at old k n

pub keeps_same : (feature : Package → ℕ) (client value j : ℕ) (old new : List ℤ) → KeepsSoFar feature client value j old new → KeepsSoFar feature client value (j + 1) old new
keeps_same feature client value j old new keeps = λ k n p lt at fits. keeps k n p lt at (λ same less. fits same (omega arith))

row_is : (k client n j : ℕ) → n < 393 → j < 393 → 393 * k + n ≡ 393 * client + j → k ≡ client
row_is k client n j hn hj is = omega arith

pub keeps_more : (feature : Package → ℕ) (client value j place : ℕ) (old new : List ℤ) (gone : ℤ) (choice : Package) → slice_get packages j ≡ Some choice → (feature choice ≡ value → ⊥) → place ≡ 393 * client + j
    → KeepsSoFar feature client value j old new → KeepsSoFar feature client value (j + 1) old (set new place gone)
keeps_more feature client value j place old new gone choice found lacks place_is keeps = λ k n p lt at fits.
    let n_in : n < 393 = omega (arith, slice_get_within packages n p at, length-packages) in
    let j_in : j < 393 = omega (arith, slice_get_within packages j choice found, length-packages) in
    elim (cases_eq (393 * k + n) place) [
      | inl same ↦
          let k_is : k ≡ client = row_is k client n j n_in j_in (same ∙ place_is) in
          let n_is : n ≡ j = omega (arith, same, place_is, k_is) in
          let p_is : p ≡ choice = same_package j p choice (subst (λ i. slice_get packages i ≡ Some p) n_is at) found in
          absurd (lacks (ap feature (sym p_is) ∙ fits k_is (omega (arith, n_is))))
      | inr other ↦ rw (get_or-set_other new place (393 * k + n) gone (pos 0) other) (keeps k n p lt at (λ is less. fits is (omega arith)))
    ]

pub put_more : (clients : List Preferences) (number : ℕ) (p : Package) (old new : List ℤ) (j place : ℕ) (worth dollars : ℤ) → number < 393 → j < 8 → length new ≡ 3144 → place ≡ 393 * j + number → dollars ≡ worth
    → ((wants : Preferences) → slice_get clients j ≡ Some wants → worth ≡ pos (utility_of wants p)) → IsPut clients number p old j new → IsPut clients number p old (j + 1) (set new place dollars)
put_more clients number p old new j place worth dollars number_in j_in long place_is dollars_is worth_is before = record {
  worth = λ k wants lt at. elim (cases_eq k j) [
    | inl same ↦
        let here : get_or (set new place dollars) place (pos 0) ≡ dollars = get_or-set_same new place dollars (pos 0) (omega (arith, place_is, long)) in
        let at_place : 393 * k + number ≡ place = omega (arith, place_is, same) in
        rw (at_place, here, dollars_is) (worth_is wants (subst (λ i. slice_get clients i ≡ Some wants) same at))
    | inr other ↦
        let apart : 393 * k + number ≢ place = λ is. other (omega (arith, is, place_is)) in
        rw (get_or-set_other new place (393 * k + number) dollars (pos 0) apart) (before.worth k wants (omega (arith, other)) at)
  ];
  others = λ k n n_in other.
      let apart : 393 * k + n ≢ place = λ is. other (omega (arith, is, place_is)) in
      rw (get_or-set_other new place (393 * k + n) dollars (pos 0) apart) (before.others k n n_in other);
}

-- a table that has less than nothing for the packages so far that lack a value
abbrev pub TakesSoFar : (Package → ℕ) → ℕ → ℕ → ℕ → List ℤ → Type 0
TakesSoFar feature client value j new = (n : ℕ) (p : Package) → n < j → slice_get packages n ≡ Some p → feature p ≢ value → dollars_at new client n <ℤ pos 0

pub takes_more : (feature : Package → ℕ) (client value j place : ℕ) (new : List ℤ) (gone : ℤ) → place < length new → place ≡ 393 * client + j → gone <ℤ pos 0
    → TakesSoFar feature client value j new → TakesSoFar feature client value (j + 1) (set new place gone)
takes_more feature client value j place new gone long place_is below takes = λ n p lt at lacks. elim (cases_eq n j) [
  | inl same ↦
      let here : get_or (set new place gone) place (pos 0) ≡ gone = get_or-set_same new place gone (pos 0) long in
      let at_place : 393 * client + n ≡ place = omega (arith, place_is, same) in
      rw (at_place, here) below
  | inr other ↦
      let apart : 393 * client + n ≢ place = λ is. other (omega (arith, is, place_is)) in
      rw (get_or-set_other new place (393 * client + n) gone (pos 0) apart) (takes n p (omega (arith, other)) at lacks)
]

pub takes_same : (feature : Package → ℕ) (client value j : ℕ) (new : List ℤ) (choice : Package) → slice_get packages j ≡ Some choice → feature choice ≡ value → TakesSoFar feature client value j new → TakesSoFar feature client value (j + 1) new
takes_same feature client value j new choice found has takes = λ n p lt at lacks. elim (cases_eq n j) [
  | inl same ↦ absurd (lacks (ap feature (same_package j p choice (subst (λ i. slice_get packages i ≡ Some p) same at) found) ∙ has))
  | inr other ↦ takes n p (omega (arith, other)) at lacks
]

-- a table with what the packages so far are worth
abbrev pub IsWorthSoFar : List Preferences → ℕ → List ℤ → Type 0
IsWorthSoFar clients j table =
    (k n : ℕ) (wants : Preferences) (p : Package) → n < j → slice_get clients k ≡ Some wants → slice_get packages n ≡ Some p → dollars_at table k n ≡ pos (utility_of wants p)

pub worths_more : (account : AccountFile) (is_account : IsAccount account) (j : ℕ) (old new : List ℤ) (choice : Package) → slice_get packages j ≡ Some choice → IsPut account.clients j choice old 8 new
    → IsWorthSoFar account.clients j old → IsWorthSoFar account.clients (j + 1) new
worths_more account is_account j old new choice found put before = λ k n wants p lt client_at at.
    let n_in : n < 393 = omega (arith, slice_get_within packages n p at, length-packages) in
    let k_in : k < 8 = omega (arith, slice_get_within account.clients k wants client_at, is_account.clients.count) in
    elim (cases_eq n j) [
      | inl same ↦
          let p_is : choice ≡ p = same_package j choice p found (subst (λ i. slice_get packages i ≡ Some p) same at) in
          let worth = put.worth k wants k_in client_at in
          subst (λ i. dollars_at new k i ≡ pos (utility_of wants p)) (sym same) (subst (λ q. dollars_at new k j ≡ pos (utility_of wants q)) p_is worth)
      | inr other ↦ put.others k n n_in other ∙ before k n wants p (omega (arith, other)) client_at at
    ]

-- the table of all packages
pub worths_all : (clients : List Preferences) (table : List ℤ) (j : ℕ) → 393 ≤ j → IsWorthSoFar clients j table → HasWorths clients table
worths_all clients table j all worths = λ k n wants p client_at at. worths k n wants p (omega (arith, slice_get_within packages n p at, length-packages)) client_at at

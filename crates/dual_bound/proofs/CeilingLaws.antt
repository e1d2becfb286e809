-- What tables of worths and costs bound.
use Rattle.std.proofs.Common.{◌≡◌, ℕ, zero, suc, false, length-append, ◌+◌, ◌<◌, ◌||◌, ℤ, pos, ◌+ℤ◌, ◌-ℤ◌, ◌≤ℤ◌, ◌<ℤ◌, ◌++◌, true, List, [], ◌∷◌, Option, Some, drop, length, get_or, eqb, int_le, not, refl, sym, ap, subst, ◌∙◌, arith, All, slice_get}
use Rattle.std.proofs.lemmas.List.Elements.{All-push}
use Rattle.std.proofs.lemmas.Int.{ints}
use Rattle.std.proofs.lemmas.Bool.{and_parts}
use Rattle.std.proofs.lemmas.Bool.Decides.{nat_tests}
use Rattle.std.proofs.lemmas.Option.{get_or_from_slice_get, slice_get_within}
use Rattle.dual_bound.specs.{Preferences, AccountFile, IsAccount, Package, utility_of, packages, feature_of, narrowed, Narrowing, cost_of, margin_of, best_margin, margins, leaf_bound, all_left, HasWorths, KeepsOthers, dollars_at, margins_at, IsCeiling, AreCosts, HasMore, KeepsLeft}
use Rattle.packages.specs.Decoding.{package_at}
use Rattle.packages.proofs.Decoded.{length-packages, package_is}
use Rattle.packages.proofs.Margins.{drop_at}
use Rattle.packages.specs.declared.travel_packages.Package.TheVariants as kinds
use Rattle.dual_bound.proofs.Greatest.{greatest_at_most, parts_of}

value_is : (k client a value : ℕ) → (not (eqb k client) || eqb a value) ≡ true → k ≡ client → a ≡ value
value_is k client a value h same = grind (arith, nat_tests)

-- a table that keeps what has a value is a ceiling of what is narrowed by it
pub ceiling_narrowed : (account : AccountFile) (is_account : IsAccount account) (left : Narrowing) (client feature value : ℕ) (old new : List ℤ) → IsCeiling account left old → KeepsOthers (feature_of feature) client value old new
    → IsCeiling account (narrowed left client feature value) new
ceiling_narrowed account is_account left client feature value old new ceiling keeps = λ k n wants p at found is_left.
    let parts = and_parts (left k p) (not (eqb k client) || eqb (feature_of feature p) value) is_left in
    let below : k < 8 = omega (arith, slice_get_within account.clients k wants at, is_account.clients.count) in
    let same = keeps k n p below found (value_is k client (feature_of feature p) value parts.1) in
    subst (λ d. pos (utility_of wants p) ≤ℤ d) (sym same) (ceiling k n wants p at found parts.0)

-- what a place of the table bounds
pub margin_at_most : (u c : ℕ) (d most : ℤ) → pos u ≤ℤ d → (d -ℤ pos c) ≤ℤ most → (pos u -ℤ pos c) ≤ℤ most
margin_at_most u c d most hu hd = omega (arith, ints, hu, hd)

-- a bound is at most a sum so far and what is left to add
abbrev pub IsUnder : Option ℤ → ℤ → Option ℤ → Type 0
IsUnder bound sum rest = (b : ℤ) → bound ≡ Some b → (r : ℤ) × (rest ≡ Some r) × (b ≤ℤ (sum +ℤ r))

add_step : (b sum r x s most : ℤ) → b ≤ℤ (sum +ℤ r) → x +ℤ s ≡ r → x ≤ℤ most → b ≤ℤ ((sum +ℤ most) +ℤ s)
add_step b sum r x s most h is le = omega (arith, ints, h, is, le)

pub under_step : (left : Narrowing) (prices : List ℕ) (clients : List Preferences) (k : ℕ) (client : Preferences) (bound : Option ℤ) (sum most : ℤ) → slice_get clients k ≡ Some client
    → ((n : ℕ) (p : Package) → slice_get packages n ≡ Some p → left k p ≡ true → margin_of client prices p ≤ℤ most)
    → IsUnder bound sum (margins left prices k (drop k clients)) → IsUnder bound (sum +ℤ most) (margins left prices (k + 1) (drop (k + 1) clients))
under_step left prices clients k client bound sum most at each under = λ b is.
    let rest = rw (drop_at clients k client at) at (under b is) in
    let parts = parts_of (best_margin client prices (left k)) (margins left prices (k + 1) (drop (k + 1) clients)) rest.0 rest.1 in (
      parts.right_part,
      parts.right_is,
      add_step b sum rest.0 parts.left_part parts.right_part most rest.2 parts.sum_is
          (greatest_at_most (margin_of client prices) (left k) packages most parts.left_part each parts.left_is),
    )

client_at : (clients : List Preferences) (k : ℕ) → k < length clients → (client : Preferences) × (slice_get clients k ≡ Some client)
client_at [] k lt = absurd (omega arith)
client_at (c ∷ cs) zero lt = (c, refl)
client_at (c ∷ cs) (suc k) lt = client_at cs k (omega arith)

-- one more client, whose margins the tables bound
pub under_more : (account : AccountFile) (is_account : IsAccount account) (left : Narrowing) (prices costs : List ℕ) (table : List ℤ) (k : ℕ) (sum most new : ℤ) → k < 8 → AreCosts prices costs → IsCeiling account left table
    → ((n : ℕ) → n < 393 → (dollars_at table k n -ℤ pos (get_or costs n 0)) ≤ℤ most) → new ≡ sum +ℤ most
    → IsUnder (leaf_bound account left prices) sum (margins left prices k (drop k account.clients)) → IsUnder (leaf_bound account left prices) new (margins left prices (k + 1) (drop (k + 1) account.clients))
under_more account is_account left prices costs table k sum most new lt costs_are ceiling bound is under =
    let client = client_at account.clients k (omega (arith, is_account.clients.count)) in
    let each : (n : ℕ) (p : Package) → slice_get packages n ≡ Some p → left k p ≡ true → margin_of client.0 prices p ≤ℤ most = λ n p at is_left.
    let below : n < 393 = omega (arith, slice_get_within packages n p at, length-packages) in
    let cost_is = costs_are n p at in
    margin_at_most (utility_of client.0 p) (cost_of prices p) (dollars_at table k n) most (ceiling k n client.0 p client.1 at is_left)
    (subst (λ c. (dollars_at table k n -ℤ pos c) ≤ℤ most) cost_is (bound n below)) in
    rw is (under_step left prices account.clients k client.0 (leaf_bound account left prices) sum most client.1 each under)

-- one more client's package
pub margins_more : (prices : List ℕ) (table : List ℤ) (k : ℕ) (ns : List ℕ) (n j : ℕ) → k + length ns ≡ j
    → margins_at prices table k (ns ++ n ∷ []) ≡ margins_at prices table k ns +ℤ (dollars_at table j n -ℤ pos (cost_of prices (get_or packages n kinds.None)))
margins_more prices table k [] n j is =
    let same : k ≡ j = omega (arith, is) in
    rw same (omega (arith, ints))
margins_more prices table k (m ∷ ns) n j is =
    let rest = margins_more prices table (k + 1) ns n j (omega (arith, is)) in
    omega (arith, ints, rest)

-- packages of the first so many clients whose margins by a table add up to a bound with what the stock costs
pub record IsChosen (prices : List ℕ) (stock : ℕ) (table : List ℤ) (count : ℕ) (bound : ℤ) : Type 0 where
  pub numbers : List ℕ
  pub counted : length numbers ≡ count
  pub lawful : All (λ n. n < 393) numbers
  pub sum_is : bound ≡ pos stock +ℤ margins_at prices table 0 numbers

sum_more : (stock : ℕ) (bound new most sum more : ℤ) → bound ≡ pos stock +ℤ sum → new ≡ bound +ℤ most → more ≡ sum +ℤ most → new ≡ pos stock +ℤ more
sum_more stock bound new most sum more h is all = omega (arith, ints, h, is, all)

pub chosen_more : (prices costs : List ℕ) (stock : ℕ) (table : List ℤ) (count n : ℕ) (bound most new : ℤ) → n < 393 → AreCosts prices costs → most ≡ dollars_at table count n -ℤ pos (get_or costs n 0) → new ≡ bound +ℤ most
    → IsChosen prices stock table count bound → IsChosen prices stock table (count + 1) new
chosen_more prices costs stock table count n bound most new lt costs_are most_is is before =
    let found = package_is n lt in
    let cost_is : get_or costs n 0 ≡ cost_of prices (get_or packages n kinds.None) = costs_are n (package_at n) found ∙ ap (cost_of prices) (sym (get_or_from_slice_get packages n (package_at n) kinds.None found)) in
    let most_here : most ≡ dollars_at table count n -ℤ pos (cost_of prices (get_or packages n kinds.None)) = subst (λ c. most ≡ dollars_at table count n -ℤ pos c) cost_is most_is in
    let more = margins_more prices table 0 before.numbers n count (omega (arith, before.counted)) in
    let sum : margins_at prices table 0 (before.numbers ++ n ∷ []) ≡ margins_at prices table 0 before.numbers +ℤ most = subst (λ m. margins_at prices table 0 (before.numbers ++ n ∷ []) ≡ margins_at prices table 0 before.numbers +ℤ m) (sym most_here) more in
    record {
      numbers = before.numbers ++ n ∷ [];
      counted = length-append before.numbers (n ∷ []) ∙ omega (arith, before.counted);
      lawful = All-push (λ m. m < 393) before.numbers n before.lawful lt;
      sum_is = sum_more stock bound new most (margins_at prices table 0 before.numbers) (margins_at prices table 0 (before.numbers ++ n ∷ [])) before.sum_is is sum;
    }

above : (claim : ℕ) (bound : ℤ) → int_le bound (pos claim) ≡ false → pos claim <ℤ bound
above claim bound h = grind (arith, ints)

pub chosen_all : (prices : List ℕ) (stock : ℕ) (table : List ℤ) (count claim : ℕ) (bound : ℤ) → count ≡ 8 → int_le bound (pos claim) ≡ false → IsChosen prices stock table count bound → HasMore prices stock table claim
chosen_all prices stock table count claim bound all more chosen = record {
  numbers = chosen.numbers;
  eight = chosen.counted ∙ all;
  lawful = chosen.lawful;
  more = subst (λ b. pos claim <ℤ b) chosen.sum_is (above claim bound more);
}

int_refl : (a : ℤ) (b : ℤ) → b ≡ a → a ≤ℤ b
int_refl a b h = omega (arith, ints, h)

-- the table of all packages is a ceiling
pub ceiling_of_worths : (account : AccountFile) (table : List ℤ) → HasWorths account.clients table → IsCeiling account all_left table
ceiling_of_worths account table worths = λ k n wants p client_at at left. int_refl (pos (utility_of wants p)) (dollars_at table k n) (worths k n wants p client_at at)

-- a table that keeps what is left of all is a ceiling of it
pub ceiling_left : (account : AccountFile) (is_account : IsAccount account) (left : Narrowing) (old new : List ℤ) → HasWorths account.clients old → KeepsLeft left old new → IsCeiling account left new
ceiling_left account is_account left old new worths keeps = λ k n wants p at found is_left.
    int_refl (pos (utility_of wants p)) (dollars_at new k n) (keeps k n p (omega (arith, slice_get_within account.clients k wants at, is_account.clients.count)) found is_left ∙ worths k n wants p at found)

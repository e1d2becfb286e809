-- More of a good never lowers the best total.
use Rattle.std.proofs.Common.{◌≡◌, ℕ, ◌+◌, ◌<◌, ◌≤◌, ℤ, pos, negsuc, ◌≤ℤ◌, ◌<ℤ◌, List, length, set, arith, ◌∙◌, ap, sym, refl, subst, inl, inr, get_or-set_same, get_or-set_other}
use Rattle.std.proofs.lemmas.Int.{ints}
use Rattle.std.proofs.lemmas.Bool.{cases_eq}
use Rattle.game_text.specs.Accounts.{AccountFile, IsAccount, IsHolding}
use Rattle.packages.specs.declared.travel_packages.Package.{Package}
use Rattle.packages.specs.Stocks.{at_least_none, stock_of}
use Rattle.packages.specs.BestTotal.{IsBest, IsFeasible, total_of}
use Rattle.good_worth.specs.Worth.{with_holding, held, one_more, one_less, more, less, IsUp, IsDown}
use Rattle.good_worth.specs.Worths.{Valuation, AreWorths, AreRanged, total_at, up_at, down_at}
use Rattle.good_worth.proofs.Ranges.{in_account, held_in}

-- an account has no more of any good than another one, and the same clients
record IsWithin (one other : AccountFile) : Type 0 where
  clients : one.clients ≡ other.clients
  stocks : (good : ℕ) → good < 28 → stock_of one.holdings good ≤ stock_of other.holdings good

feasible_within : (one other : AccountFile) (ps : List Package) → IsWithin one other → IsFeasible one ps → IsFeasible other ps
feasible_within one other ps within is = record {
  eight = is.eight;
  lawful = is.lawful;
  enough = λ good lt. omega (arith, is.enough good lt, within.stocks good lt);
}

best_within : (one other : AccountFile) (m n : ℕ) → IsWithin one other → IsBest one m → IsBest other n → m ≤ n
best_within one other m n within less_best more_best =
    let ps = less_best.reached.0 in
    let most = more_best.greatest ps (feasible_within one other ps within less_best.reached.1) in
    subst (λ (t : ℕ). t ≤ n) (ap (λ clients. total_of clients ps) (sym within.clients) ∙ less_best.reached.2) most

-- ---- the stock of a changed account

none_grows : (x y : ℤ) → x ≤ℤ y → at_least_none x ≤ at_least_none y
none_grows (pos n) (pos m) h = omega (arith, ints, h)
none_grows (pos n) (negsuc m) h = absurd (omega (arith, ints, h))
none_grows (negsuc n) (pos m) h = omega arith
none_grows (negsuc n) (negsuc m) h = omega arith

none_under : (x y : ℤ) → x ≤ℤ pos 0 → at_least_none x ≤ at_least_none y
none_under x y h = omega (arith, none_grows x (pos 0) h)

at_good : (account : AccountFile) (good k : ℕ) (h : ℤ) → good < length account.holdings → k ≡ good → stock_of (set account.holdings good h) k ≡ at_least_none h
at_good account good k h lt is = ap (λ (n : ℕ). stock_of (set account.holdings good h) n) is ∙ ap at_least_none (get_or-set_same account.holdings good h (pos 0) lt)

at_other : (account : AccountFile) (good k : ℕ) (h : ℤ) → (k ≡ good → ⊥) → stock_of (set account.holdings good h) k ≡ stock_of account.holdings k
at_other account good k h other = ap at_least_none (get_or-set_other account.holdings good k h (pos 0) other)

at_held : (account : AccountFile) (good k : ℕ) → k ≡ good → stock_of account.holdings k ≡ at_least_none (held account good)
at_held account good k is = ap (stock_of account.holdings) is

grows : (account : AccountFile) (good : ℕ) (h : ℤ) → good < length account.holdings → at_least_none (held account good) ≤ at_least_none h → IsWithin account (with_holding account good h)
grows account good h lt more = record {
  clients = refl;
  stocks = λ k below. elim (cases_eq k good) [
    | inl is ↦ omega (arith, more, at_held account good k is, at_good account good k h lt is)
    | inr other ↦ omega (arith, at_other account good k h other)
  ];
}

shrinks : (account : AccountFile) (good : ℕ) (h : ℤ) → good < length account.holdings → at_least_none h ≤ at_least_none (held account good) → IsWithin (with_holding account good h) account
shrinks account good h lt fewer = record {
  clients = refl;
  stocks = λ k below. elim (cases_eq k good) [
    | inl is ↦ omega (arith, fewer, at_held account good k is, at_good account good k h lt is)
    | inr other ↦ omega (arith, at_other account good k h other)
  ];
}

-- ---- one unit more and one unit less

raised : (h : ℤ) → IsHolding h → h ≤ℤ one_more h
raised h is = grind (arith, ints)

lowered : (h : ℤ) → IsHolding h → one_less h ≤ℤ h
lowered h is = grind (arith, ints)

raised_to_none : (h : ℤ) → h <ℤ pos 0 → one_more h ≤ℤ pos 0
raised_to_none h owed = grind (arith, ints)

more_grows : (account : AccountFile) → IsAccount account → (good : ℕ) → good < 28 → IsWithin account (more account good)
more_grows account is good lt = grows account good _ (in_account account is good lt) (none_grows _ _ (raised (held account good) (held_in account is good lt)))

less_shrinks : (account : AccountFile) → IsAccount account → (good : ℕ) → good < 28 → IsWithin (less account good) account
less_shrinks account is good lt = shrinks account good _ (in_account account is good lt) (none_grows _ _ (lowered (held account good) (held_in account is good lt)))

-- nothing is left to lose of a good that is not held
less_keeps : (account : AccountFile) → IsAccount account → (good : ℕ) → good < 28 → held account good ≤ℤ pos 0 → IsWithin account (less account good)
less_keeps account is good lt not_held = grows account good _ (in_account account is good lt) (none_under (held account good) (one_less (held account good)) not_held)

-- one unit more of a good that is owed cannot be used
more_keeps : (account : AccountFile) → IsAccount account → (good : ℕ) → good < 28 → held account good <ℤ pos 0 → IsWithin (more account good) account
more_keeps account is good lt owed = shrinks account good _ (in_account account is good lt) (none_under (one_more (held account good)) (held account good) (raised_to_none (held account good) owed))

-- ---- the laws of worths

pub ranged : (account : AccountFile) (v : Valuation) → IsAccount account → AreWorths account v → AreRanged v
ranged account v is are = record {
  more_size = are.more.size;
  less_size = are.less.size;
  rises = λ good lt. best_within account (more account good) v.base.total (total_at v.more good) (more_grows account is good lt) are.base.best (are.more.each good lt).best;
  falls = λ good lt. best_within (less account good) account (total_at v.less good) v.base.total (less_shrinks account is good lt) (are.less.each good lt).best are.base.best;
}

pub up_is : (account : AccountFile) (v : Valuation) → IsAccount account → AreWorths account v → (good : ℕ) → good < 28 → IsUp account good (up_at v good)
up_is account v is are good lt =
    let whole : total_at v.more good ≡ v.base.total + up_at v good = omega (arith, (ranged account v is are).rises good lt) in
    record { before = v.base.total; is_before = are.base.best; is_after = subst (IsBest (more account good)) whole (are.more.each good lt).best }

pub down_is : (account : AccountFile) (v : Valuation) → IsAccount account → AreWorths account v → (good : ℕ) → good < 28 → IsDown account good (down_at v good)
down_is account v is are good lt =
    let whole : v.base.total ≡ total_at v.less good + down_at v good = omega (arith, (ranged account v is are).falls good lt) in
    record { after = total_at v.less good; is_before = subst (IsBest account) whole are.base.best; is_after = (are.less.each good lt).best }

pub not_held_is : (account : AccountFile) (v : Valuation) → IsAccount account → AreWorths account v → (good : ℕ) → good < 28 → held account good ≤ℤ pos 0 → down_at v good ≡ 0
not_held_is account v is are good lt none =
    omega (arith, best_within account (less account good) v.base.total (total_at v.less good) (less_keeps account is good lt none) are.base.best (are.less.each good lt).best)

pub owed_is : (account : AccountFile) (v : Valuation) → IsAccount account → AreWorths account v → (good : ℕ) → good < 28 → held account good <ℤ pos 0 → up_at v good ≡ 0
owed_is account v is are good lt owed =
    omega (arith, best_within (more account good) account (total_at v.more good) v.base.total (more_keeps account is good lt owed) (are.more.each good lt).best are.base.best)

-- Whether two entries of a cash history are equal, by their codes.
use Rattle.std.proofs.Common.{◌≡◌, Bool, true, false, ◌&&◌, refl, ap, eq-eqb, eqb-true, ◌==◌}
use Rattle.std.proofs.lemmas.Bool.{and_parts}
use Rattle.std.specs.Coded.{Coded, codes}
use base.Stored.{Gv, gnil, gnum, gcons}
use Rattle.trade_ledger.specs.declared.cash_calls.CashEntry.{CashEntry}

abbrev same_code : Gv → Gv → Bool
same_code gnil gnil = true
same_code gnil (gnum n) = false
same_code gnil (gcons a b) = false
same_code (gnum n) gnil = false
same_code (gnum n) (gnum k) = n == k
same_code (gnum n) (gcons a b) = false
same_code (gcons a b) gnil = false
same_code (gcons a b) (gnum n) = false
same_code (gcons a b) (gcons c d) = same_code a c && same_code b d

code-same : (c : Gv) → same_code c c ≡ true
code-same gnil = refl
code-same (gnum n) = eq-eqb n n refl
code-same (gcons a b) = λ i. code-same a i && code-same b i

same_code-true : (c d : Gv) → same_code c d ≡ true → c ≡ d
same_code-true gnil gnil is = refl
same_code-true gnil (gnum n) is = absurd cc
same_code-true gnil (gcons a b) is = absurd cc
same_code-true (gnum n) gnil is = absurd cc
same_code-true (gnum n) (gnum k) is = ap gnum (eqb-true n k is)
same_code-true (gnum n) (gcons a b) is = absurd cc
same_code-true (gcons a b) gnil is = absurd cc
same_code-true (gcons a b) (gnum n) is = absurd cc
same_code-true (gcons a b) (gcons c d) is = λ i. gcons (same_code-true a c (and_parts (same_code a c) (same_code b d) is).0 i) (same_code-true b d (and_parts (same_code a c) (same_code b d) is).1 i)

cash_code : Coded CashEntry
cash_code = hlevel codes

-- whether two entries are equal
pub is_one : CashEntry → CashEntry → Bool
is_one e other = same_code (cash_code.code e) (cash_code.code other)

pub one-same : (e : CashEntry) → is_one e e ≡ true
unfolding is_one
one-same e = code-same (cash_code.code e)

pub one-true : (e other : CashEntry) → is_one e other ≡ true → e ≡ other
unfolding is_one
one-true e other is = cash_code.inj e other (same_code-true (cash_code.code e) (cash_code.code other) is)

-- What trades change in the holdings.
use Rattle.std.proofs.Common.{◌≡◌, ℕ, ◌+◌, ◌<◌, ◌≤◌, List, [], ◌∷◌, ◌++◌, length, take, get_or, sum_by, refl, sym, ap, ◌∙◌, subst, arith, inl, ℤ, pos, ◌+ℤ◌, ◌-ℤ◌, unsigned_abs, filter, ◌==◌}
use Rattle.std.proofs.lemmas.Int.{ints}
use Rattle.std.proofs.lemmas.List.{take_more}
use Rattle.std.proofs.lemmas.List.Elements.{filter-append}
use Rattle.std.proofs.lemmas.List.Sums.{sum_by-append, sum_by-take-le}
use Rattle.auction_core.specs.Prelude.{Trade, bought, sold, net_units, traded, IsWithin, held_after, NoneLeaves}
use Rattle.auction_rules.proofs.Trading.{bought_le, sold_le}
use Rattle.trade_ledger.proofs.Trading.{nine_numbers, get_or-nine}

bought-append : (xs ys : List Trade) (party : ℕ) → bought (xs ++ ys) party ≡ bought xs party + bought ys party
bought-append xs ys party =
    ap (sum_by (λ (t : Trade). t.units)) (filter-append (λ t. t.buyer == party) xs ys)
    ∙ sum_by-append (λ (t : Trade). t.units) (filter (λ t. t.buyer == party) xs) (filter (λ t. t.buyer == party) ys)

sold-append : (xs ys : List Trade) (party : ℕ) → sold (xs ++ ys) party ≡ sold xs party + sold ys party
sold-append xs ys party =
    ap (sum_by (λ (t : Trade). t.units)) (filter-append (λ t. t.seller == party) xs ys)
    ∙ sum_by-append (λ (t : Trade). t.units) (filter (λ t. t.seller == party) xs) (filter (λ t. t.seller == party) ys)

pub net_units-append : (xs ys : List Trade) (party : ℕ) → net_units (xs ++ ys) party ≡ net_units xs party +ℤ net_units ys party
net_units-append xs ys party =
    (λ i. pos (bought-append xs ys party i) -ℤ pos (sold-append xs ys party i)) ∙ parts (bought xs party) (bought ys party) (sold xs party) (sold ys party)
  where
    parts : (a b c d : ℕ) → pos (a + b) -ℤ pos (c + d) ≡ (pos a -ℤ pos c) +ℤ (pos b -ℤ pos d)
    parts a b c d = omega (arith, ints)

-- nobody gains or loses more units than are traded
pub net_units_within : (trades : List Trade) (party most : ℕ) → traded trades ≤ most → IsWithin most (net_units trades party)
net_units_within trades party most few = within (bought trades party) (sold trades party) (omega (arith, bought_le trades party, few)) (omega (arith, sold_le trades party, few))
  where
    within : (a b : ℕ) → a ≤ most → b ≤ most → IsWithin most (pos a -ℤ pos b)
    within a b le le' = (omega (arith, ints), omega (arith, ints))

-- ---- the holdings after some trades, and after one more

pub held_start : (held : List ℤ) → length held ≡ 9 → held ≡ held_after held []
held_start held nine = nine_numbers (λ party. get_or held party (pos 0) +ℤ net_units [] party) held nine (λ party lt. same (get_or held party (pos 0)))
  where
    same : (z : ℤ) → z ≡ z +ℤ pos 0
    same z = omega (arith, ints)

get_or-held : (held : List ℤ) (trades : List Trade) (party : ℕ) → party ≤ 8 → get_or (held_after held trades) party (pos 0) ≡ get_or held party (pos 0) +ℤ net_units trades party
get_or-held held trades party le = get_or-nine (λ k. get_or held k (pos 0) +ℤ net_units trades k) party le

pub held_more : (held : List ℤ) (xs ys : List Trade) → held_after (held_after held xs) ys ≡ held_after held (xs ++ ys)
held_more held xs ys = nine_numbers (λ party. get_or held party (pos 0) +ℤ net_units (xs ++ ys) party) (held_after (held_after held xs) ys) refl
    (λ party lt. get_or-held (held_after held xs) ys party (omega arith)
    ∙ (ap (λ (z : ℤ). z +ℤ net_units ys party) (get_or-held held xs party (omega arith))
    ∙ (regroup (get_or held party (pos 0)) (net_units xs party) (net_units ys party)
    ∙ ap (λ (z : ℤ). get_or held party (pos 0) +ℤ z) (sym (net_units-append xs ys party)))))
  where
    regroup : (a b c : ℤ) → (a +ℤ b) +ℤ c ≡ a +ℤ (b +ℤ c)
    regroup a b c = omega (arith, ints)

-- few trades take no holding out of its range
pub none_leaves : (held start : List ℤ) (xs : List Trade) (t : Trade) → ((party : ℕ) → party ≤ 8 → IsWithin 400000 (get_or start party (pos 0))) → held ≡ held_after start xs →
    traded (xs ++ t ∷ []) ≤ 400000 → NoneLeaves held (t ∷ [])
none_leaves held start xs t small is few party le =
    let after = ap (λ (h : List ℤ). held_after h (t ∷ [])) is ∙ held_more start xs (t ∷ []) in
    inl (subst (λ (h : List ℤ). unsigned_abs (get_or h party (pos 0)) ≤ 1000000) (sym after)
    (subst (λ (z : ℤ). unsigned_abs z ≤ 1000000) (sym (get_or-held start (xs ++ t ∷ []) party le))
    (sum (get_or start party (pos 0)) (net_units (xs ++ t ∷ []) party) (small party le) (net_units_within (xs ++ t ∷ []) party 400000 few))))
  where
    sum : (a b : ℤ) → IsWithin 400000 a → IsWithin 400000 b → unsigned_abs (a +ℤ b) ≤ 1000000
    sum a b h k = omega (arith, ints, h.0, h.1, k.0, k.1)

-- ---- a loop over the trades

pub trades_more : (trades : List Trade) (i : ℕ) (t : Trade) → i < length trades → t ≡ get_or trades i t → take (i + 1) trades ≡ take i trades ++ t ∷ []
trades_more trades i t inside is = take_more trades i t inside ∙ ap (λ (x : Trade). take i trades ++ x ∷ []) (sym is)

pub traded_so_far : (trades : List Trade) (i most : ℕ) (t : Trade) → i < length trades → t ≡ get_or trades i t → traded trades ≤ most → traded (take i trades ++ t ∷ []) ≤ most
traded_so_far trades i most t inside is few =
    subst (λ (ts : List Trade). traded ts ≤ most) (trades_more trades i t inside is) (omega (arith, sum_by-take-le (λ (x : Trade). x.units) trades (i + 1), few))

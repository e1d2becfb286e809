-- What one trade changes in the holdings.
use Rattle.std.proofs.Common.{◌≡◌, ℕ, zero, suc, ◌<◌, ◌≤◌, eqb, Bool, true, false, cond, List, [], ◌∷◌, length, map, fold, set, get_or, sum_by, sym, refl, ap, ◌∙◌, subst, arith, lit<, eq-eqb, ne_eqb, length-set, ℤ, pos, ◌+ℤ◌, ◌-ℤ◌, neg_ℤ, get_or-set_same, get_or-set_other}
use Rattle.std.proofs.lemmas.Int.{ints}
use mathlib.Core.Logic.{dite}
use native.Mathlib.Decide.{ℕ_discrete}
use Rattle.trade_ledger.specs.Prelude.{Trade, parties, net_units}
use Rattle.trade_ledger.specs.Holdings.{held_after, sum_held, Stays, NoneLeaves}

-- the units that a party has more by a trade, and those that it has less
abbrev pub more : Trade → ℕ → ℕ
more t party = cond (eqb t.buyer party) t.units 0

abbrev pub less : Trade → ℕ → ℕ
less t party = cond (eqb t.seller party) t.units 0

units_if : (b : Bool) (t : Trade) → sum_by (λ (u : Trade). u.units) (cond b (t ∷ []) []) ≡ cond b t.units 0
units_if true t = omega arith
units_if false t = refl

pub net_units_one : (t : Trade) (party : ℕ) → net_units (t ∷ []) party ≡ pos (more t party) -ℤ pos (less t party)
net_units_one t party = λ i. pos (units_if (eqb t.buyer party) t i) -ℤ pos (units_if (eqb t.seller party) t i)

-- the holdings after the buyer got the units, and then after the seller gave them
abbrev pub given : List ℤ → Trade → List ℤ
given held t = set held t.buyer (get_or held t.buyer (pos 0) +ℤ pos t.units)

abbrev pub moved : List ℤ → Trade → List ℤ
moved held t = set (given held t) t.seller (get_or (given held t) t.seller (pos 0) +ℤ neg_ℤ (pos t.units))

pub get_or-given : (held : List ℤ) (t : Trade) (party : ℕ) → t.buyer < length held → get_or (given held t) party (pos 0) ≡ get_or held party (pos 0) +ℤ pos (more t party)
get_or-given held t party inside = dite (ℕ_discrete t.buyer party)
    (λ is. ap (λ (k : ℕ). get_or (given held t) k (pos 0)) (sym is) ∙ (get_or-set_same held t.buyer (get_or held t.buyer (pos 0) +ℤ pos t.units) (pos 0) inside
    ∙ (ap (λ (k : ℕ). get_or held k (pos 0) +ℤ pos t.units) is ∙ ap (λ (b : Bool). get_or held party (pos 0) +ℤ pos (cond b t.units 0)) (sym (eq-eqb t.buyer party is)))))
    (λ ne. get_or-set_other held t.buyer party (get_or held t.buyer (pos 0) +ℤ pos t.units) (pos 0) (λ e. ne (sym e))
    ∙ let none : pos (more t party) ≡ pos 0 = ap (λ (b : Bool). pos (cond b t.units 0)) (ne_eqb t.buyer party ne) in omega (arith, ints))

pub get_or-moved : (held : List ℤ) (t : Trade) (party : ℕ) → t.buyer < length held → t.seller < length held
    → get_or (moved held t) party (pos 0) ≡ get_or held party (pos 0) +ℤ net_units (t ∷ []) party
get_or-moved held t party inside inside' = let first = get_or-given held t party inside in let net = net_units_one t party in dite (ℕ_discrete t.seller party)
    (λ is. let all : pos (less t party) ≡ pos t.units = ap (λ (b : Bool). pos (cond b t.units 0)) (eq-eqb t.seller party is) in
    let there : get_or (moved held t) party (pos 0) ≡ get_or (given held t) party (pos 0) +ℤ neg_ℤ (pos t.units) =
    ap (λ (k : ℕ). get_or (moved held t) k (pos 0)) (sym is)
    ∙ (get_or-set_same (given held t) t.seller (get_or (given held t) t.seller (pos 0) +ℤ neg_ℤ (pos t.units)) (pos 0) (omega (arith, length-set held t.buyer (get_or held t.buyer (pos 0) +ℤ pos t.units)))
    ∙ ap (λ (k : ℕ). get_or (given held t) k (pos 0) +ℤ neg_ℤ (pos t.units)) is) in
    omega (arith, ints))
    (λ ne. let none : pos (less t party) ≡ pos 0 = ap (λ (b : Bool). pos (cond b t.units 0)) (ne_eqb t.seller party ne) in
    let there : get_or (moved held t) party (pos 0) ≡ get_or (given held t) party (pos 0) =
    get_or-set_other (given held t) t.seller party (get_or (given held t) t.seller (pos 0) +ℤ neg_ℤ (pos t.units)) (pos 0) (λ e. ne (sym e)) in
    omega (arith, ints))

-- the same if the code names the places and the units otherwise
pub given_is : (held : List ℤ) (t : Trade) (buyer : ℕ) (units : ℤ) → buyer ≡ t.buyer → units ≡ pos t.units → set held buyer (get_or held buyer (pos 0) +ℤ units) ≡ given held t
given_is held t buyer units place value = λ i. set held (place i) (get_or held (place i) (pos 0) +ℤ value i)

pub taken_is : (held : List ℤ) (t : Trade) (first : List ℤ) (seller : ℕ) (units : ℤ) → first ≡ given held t → seller ≡ t.seller → units ≡ neg_ℤ (pos t.units)
    → set first seller (get_or first seller (pos 0) +ℤ units) ≡ moved held t
taken_is held t first seller units is place value = λ i. set (is i) (place i) (get_or (is i) (place i) (pos 0) +ℤ value i)

-- nine numbers, by what each is
pub nine_numbers : (f : ℕ → ℤ) (ys : List ℤ) → length ys ≡ 9 → ((party : ℕ) → party < 9 → get_or ys party (pos 0) ≡ f party) → ys ≡ map f parties
nine_numbers f (a ∷ b ∷ c ∷ d ∷ e ∷ g ∷ h ∷ i ∷ j ∷ []) nine at = λ k.
    at 0 (lit< tt) k ∷ at 1 (lit< tt) k ∷ at 2 (lit< tt) k ∷ at 3 (lit< tt) k ∷ at 4 (lit< tt) k ∷ at 5 (lit< tt) k ∷ at 6 (lit< tt) k ∷ at 7 (lit< tt) k ∷ at 8 (lit< tt) k ∷ []
nine_numbers f [] nine at = absurd (omega arith)
nine_numbers f (a ∷ []) nine at = absurd (omega arith)
nine_numbers f (a ∷ b ∷ []) nine at = absurd (omega arith)
nine_numbers f (a ∷ b ∷ c ∷ []) nine at = absurd (omega arith)
nine_numbers f (a ∷ b ∷ c ∷ d ∷ []) nine at = absurd (omega arith)
nine_numbers f (a ∷ b ∷ c ∷ d ∷ e ∷ []) nine at = absurd (omega arith)
nine_numbers f (a ∷ b ∷ c ∷ d ∷ e ∷ g ∷ []) nine at = absurd (omega arith)
nine_numbers f (a ∷ b ∷ c ∷ d ∷ e ∷ g ∷ h ∷ []) nine at = absurd (omega arith)
nine_numbers f (a ∷ b ∷ c ∷ d ∷ e ∷ g ∷ h ∷ i ∷ []) nine at = absurd (omega arith)
nine_numbers f (a ∷ b ∷ c ∷ d ∷ e ∷ g ∷ h ∷ i ∷ j ∷ k ∷ ys) nine at = absurd (omega arith)

-- what the code leaves is what the trade leaves
pub moved_is : (held : List ℤ) (t : Trade) → length held ≡ 9 → t.buyer ≤ 8 → t.seller ≤ 8 → moved held t ≡ held_after held (t ∷ [])
moved_is held t nine buyer seller = nine_numbers (λ party. get_or held party (pos 0) +ℤ net_units (t ∷ []) party) (moved held t)
    (length-set (given held t) t.seller _ ∙ (length-set held t.buyer _ ∙ nine))
    (λ party _. get_or-moved held t party (omega arith) (omega arith))

-- a party's number among nine
pub get_or-nine : (f : ℕ → ℤ) (party : ℕ) → party ≤ 8 → get_or (map f parties) party (pos 0) ≡ f party
get_or-nine f zero le = refl
get_or-nine f (suc zero) le = refl
get_or-nine f (suc (suc zero)) le = refl
get_or-nine f (suc (suc (suc zero))) le = refl
get_or-nine f (suc (suc (suc (suc zero)))) le = refl
get_or-nine f (suc (suc (suc (suc (suc zero))))) le = refl
get_or-nine f (suc (suc (suc (suc (suc (suc zero)))))) le = refl
get_or-nine f (suc (suc (suc (suc (suc (suc (suc zero))))))) le = refl
get_or-nine f (suc (suc (suc (suc (suc (suc (suc (suc zero)))))))) le = refl
get_or-nine f (suc (suc (suc (suc (suc (suc (suc (suc (suc n))))))))) le = absurd (omega arith)

-- ---- what stays in its range

after_at : (held : List ℤ) (t : Trade) (party : ℕ) → party ≤ 8 → NoneLeaves held (t ∷ []) → Stays (get_or held party (pos 0)) (get_or held party (pos 0) +ℤ (pos (more t party) -ℤ pos (less t party)))
after_at held t party low none = subst (Stays (get_or held party (pos 0))) (get_or-nine (λ k. get_or held k (pos 0) +ℤ net_units (t ∷ []) k) party low ∙ ap (λ (z : ℤ). get_or held party (pos 0) +ℤ z) (net_units_one t party))
    (none party low)

pub buyer_stays : (held : List ℤ) (t : Trade) → t.buyer ≤ 8 → (t.seller ≡ t.buyer → ⊥) → NoneLeaves held (t ∷ []) → Stays (get_or held t.buyer (pos 0)) (get_or held t.buyer (pos 0) +ℤ pos t.units)
buyer_stays held t low ne none =
    let gained : more t t.buyer ≡ t.units = ap (λ (b : Bool). cond b t.units 0) (eq-eqb t.buyer t.buyer refl) in
    let lost : less t t.buyer ≡ 0 = ap (λ (b : Bool). cond b t.units 0) (ne_eqb t.seller t.buyer ne) in
    let net : pos (more t t.buyer) -ℤ pos (less t t.buyer) ≡ pos t.units = omega (arith, ints, gained, lost) in
    subst (λ (z : ℤ). Stays (get_or held t.buyer (pos 0)) (get_or held t.buyer (pos 0) +ℤ z)) net (after_at held t t.buyer low none)

pub seller_stays : (held : List ℤ) (t : Trade) → t.seller ≤ 8 → (t.buyer ≡ t.seller → ⊥) → NoneLeaves held (t ∷ [])
    → Stays (get_or (given held t) t.seller (pos 0)) (get_or (given held t) t.seller (pos 0) +ℤ neg_ℤ (pos t.units))
seller_stays held t low ne none =
    let gained : more t t.seller ≡ 0 = ap (λ (b : Bool). cond b t.units 0) (ne_eqb t.buyer t.seller ne) in
    let lost : less t t.seller ≡ t.units = ap (λ (b : Bool). cond b t.units 0) (eq-eqb t.seller t.seller refl) in
    let net : pos (more t t.seller) -ℤ pos (less t t.seller) ≡ neg_ℤ (pos t.units) = omega (arith, ints, gained, lost) in
    let there = get_or-set_other held t.buyer t.seller (get_or held t.buyer (pos 0) +ℤ pos t.units) (pos 0) (λ e. ne (sym e)) in
    subst (λ (z : ℤ). Stays z (z +ℤ neg_ℤ (pos t.units))) (sym there)
    (subst (λ (z : ℤ). Stays (get_or held t.seller (pos 0)) (get_or held t.seller (pos 0) +ℤ z)) net (after_at held t t.seller low none))

-- a party that trades with itself holds what it held
pub alone_is : (held : List ℤ) (t : Trade) → length held ≡ 9 → t.buyer ≡ t.seller → held ≡ held_after held (t ∷ [])
alone_is held t nine same = nine_numbers (λ party. get_or held party (pos 0) +ℤ net_units (t ∷ []) party) held nine
    (λ party _. unchanged (get_or held party (pos 0)) (net_units (t ∷ []) party) (more t party) (less t party) (net_units_one t party) (ap (λ (k : ℕ). cond (eqb k party) t.units 0) same))
  where
    unchanged : (z net : ℤ) (a b : ℕ) → net ≡ pos a -ℤ pos b → a ≡ b → z ≡ z +ℤ net
    unchanged z net a b is same' = omega (arith, ints, is, same')

-- ---- the sum

abbrev sum_from : ℤ → List ℤ → ℤ
sum_from a xs = fold ◌+ℤ◌ a xs

sum_from-add : (a d : ℤ) (xs : List ℤ) → sum_from (a +ℤ d) xs ≡ sum_from a xs +ℤ d
sum_from-add a d [] = refl
sum_from-add a d (x ∷ xs) = let same : (a +ℤ d) +ℤ x ≡ (a +ℤ x) +ℤ d = omega (arith, ints) in ap (λ (b : ℤ). sum_from b xs) same ∙ sum_from-add (a +ℤ x) d xs

sum_from-set : (a : ℤ) (xs : List ℤ) (i : ℕ) (d : ℤ) → i < length xs → sum_from a (set xs i (get_or xs i (pos 0) +ℤ d)) ≡ sum_from a xs +ℤ d
sum_from-set a [] i d inside = absurd (omega arith)
sum_from-set a (x ∷ xs) zero d inside = let same : a +ℤ (x +ℤ d) ≡ (a +ℤ x) +ℤ d = omega (arith, ints) in ap (λ (b : ℤ). sum_from b xs) same ∙ sum_from-add (a +ℤ x) d xs
sum_from-set a (x ∷ xs) (suc i) d inside = sum_from-set (a +ℤ x) xs i d (omega arith)

pub sum_held-moved : (held : List ℤ) (t : Trade) → length held ≡ 9 → t.buyer ≤ 8 → t.seller ≤ 8 → sum_held (moved held t) ≡ sum_held held
sum_held-moved held t nine buyer seller =
    let first = sum_from-set (pos 0) held t.buyer (pos t.units) (omega arith) in
    let long = length-set held t.buyer (get_or held t.buyer (pos 0) +ℤ pos t.units) in
    let second = sum_from-set (pos 0) (given held t) t.seller (neg_ℤ (pos t.units)) (omega arith) in
    omega (arith, ints)

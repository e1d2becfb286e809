use Rattle.std.proofs.Common.{rules, ◌≡◌, ◌≤◌, ◌∷◌, [], pos, ◌+ℤ◌, ◌-ℤ◌, neg_ℤ, get_or, ◌<◌, ℕ, List, ℤ, sym, ap, ◌∙◌, subst, arith, to_z, of_z, w32}
use Rattle.std.proofs.lemmas.Int.{ints}
use Rattle.trade_ledger.specs.Holdings.{held_after, sum_held, Stays, NoneLeaves}
use Rattle.trade_ledger.proofs.Trading.{given_is, taken_is, moved_is, sum_held-moved, buyer_stays, seller_stays, alone_is}
use Rattle.trade_ledger.proofs.good_book.GoodBook.apply.Goals as goal

-- the units as the code has them
plus : (z : ℤ) (units : ℕ) → units < 256 → z ≡ pos units → to_z w32 (of_z w32 z) ≡ pos units
plus z units few is = omega (arith, ints)

minus : (z : ℤ) (units : ℕ) → units < 256 → z ≡ pos units → to_z w32 (of_z w32 (pos 0 -ℤ to_z w32 (of_z w32 z))) ≡ neg_ℤ (pos units)
minus z units few is = omega (arith, ints)

pub returns-then-buyer-seller-clause-held : goal.returns-then-buyer-seller-clause-held
returns-then-buyer-seller-clause-held c =
    let alone = sym c.place-buyer.ensures.value ∙ (c.if-buyer-seller.true ∙ c.place-seller.ensures.value) in
    alone_is c.self.inside.holdings c.args.trade.now c.self.told alone ∙ ap (λ (h : List ℤ). held_after h (c.args.trade.now ∷ [])) c.self.view_is

pub add-requires-clause-stays : goal.add-requires-clause-stays
add-requires-clause-stays c =
    let held = c.self.inside.holdings in let t = c.args.trade.now in let buyer = c.place-buyer.ensures in let seller = c.place-seller.ensures in let few : t.units < 256 = search rules in
    let low : t.buyer ≤ 8 = subst (λ (k : ℕ). k ≤ 8) buyer.value buyer.range in
    let stays = buyer_stays held t low (λ e. c.if-buyer-seller.false (buyer.value ∙ (sym e ∙ sym seller.value))) (subst (λ (h : List ℤ). NoneLeaves h (t ∷ [])) (sym c.self.view_is) c.requires) in
    subst (λ (z : ℤ). Stays (get_or held c.place-buyer.result (pos 0)) (get_or held c.place-buyer.result (pos 0) +ℤ z)) (sym (plus c.from-units.result t.units few c.from-units.ensures))
    (subst (λ (k : ℕ). Stays (get_or held k (pos 0)) (get_or held k (pos 0) +ℤ pos t.units)) (sym buyer.value) stays)

pub add-requires-2-clause-stays : goal.add-requires-2-clause-stays
add-requires-2-clause-stays c =
    let held = c.self.inside.holdings in let t = c.args.trade.now in let buyer = c.place-buyer.ensures in let seller = c.place-seller.ensures in let few : t.units < 256 = search rules in
    let low : t.seller ≤ 8 = subst (λ (k : ℕ). k ≤ 8) seller.value seller.range in
    let stays = seller_stays held t low (λ e. c.if-buyer-seller.false (buyer.value ∙ (e ∙ sym seller.value))) (subst (λ (h : List ℤ). NoneLeaves h (t ∷ [])) (sym c.self.view_is) c.requires) in
    let first = c.add.ensures ∙ given_is held t c.place-buyer.result _ buyer.value (plus c.from-units.result t.units few c.from-units.ensures) in
    subst (λ (z : ℤ). Stays (get_or c.add.new.holdings c.place-seller.result (pos 0)) (get_or c.add.new.holdings c.place-seller.result (pos 0) +ℤ z)) (sym (minus c.from-units.result t.units few c.from-units.ensures))
    (subst (λ (k : ℕ). Stays (get_or c.add.new.holdings k (pos 0)) (get_or c.add.new.holdings k (pos 0) +ℤ neg_ℤ (pos t.units))) (sym seller.value)
    (subst (λ (h : List ℤ). Stays (get_or h t.seller (pos 0)) (get_or h t.seller (pos 0) +ℤ neg_ℤ (pos t.units))) (sym first) stays))

pub returns-clause-held : goal.returns-clause-held
returns-clause-held c =
    let held = c.self.inside.holdings in let t = c.args.trade.now in let buyer = c.place-buyer.ensures in let seller = c.place-seller.ensures in let few : t.units < 256 = search rules in
    let low : t.buyer ≤ 8 = subst (λ (k : ℕ). k ≤ 8) buyer.value buyer.range in let low' : t.seller ≤ 8 = subst (λ (k : ℕ). k ≤ 8) seller.value seller.range in
    let first = c.add.ensures ∙ given_is held t c.place-buyer.result _ buyer.value (plus c.from-units.result t.units few c.from-units.ensures) in
    c.add-2.ensures ∙ (taken_is held t c.add.new.holdings c.place-seller.result _ first seller.value (minus c.from-units.result t.units few c.from-units.ensures)
    ∙ (moved_is held t c.self.told low low' ∙ ap (λ (h : List ℤ). held_after h (t ∷ [])) c.self.view_is))

pub returns-clause-sum : goal.returns-clause-sum
returns-clause-sum c =
    let held = c.self.inside.holdings in let t = c.args.trade.now in let buyer = c.place-buyer.ensures in let seller = c.place-seller.ensures in let few : t.units < 256 = search rules in
    let low : t.buyer ≤ 8 = subst (λ (k : ℕ). k ≤ 8) buyer.value buyer.range in let low' : t.seller ≤ 8 = subst (λ (k : ℕ). k ≤ 8) seller.value seller.range in
    let first = c.add.ensures ∙ given_is held t c.place-buyer.result _ buyer.value (plus c.from-units.result t.units few c.from-units.ensures) in
    ap sum_held (c.add-2.ensures ∙ taken_is held t c.add.new.holdings c.place-seller.result _ first seller.value (minus c.from-units.result t.units few c.from-units.ensures))
    ∙ (sum_held-moved held t c.self.told low low' ∙ ap sum_held c.self.view_is)

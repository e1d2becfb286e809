-- What a desk was answered stays in order.
use Rattle.std.proofs.Common.{◌≡◌, ℕ, zero, suc, ◌+◌, ◌<◌, ◌≤◌, List, [], ◌∷◌, ◌++◌, map, length, get_or, set, replicate, sym, refl, ◌∙◌, subst, arith, length-set, get_or-set_same, get_or-set_other}
use Rattle.std.specs.List.Sorted.{IsStrictlyIncreasing}
use Rattle.std.proofs.lemmas.List.{get_or-replicate, length-map, map_push, get_or-map}
use Rattle.std.proofs.lemmas.List.Elements.{All-push}
use mathlib.Core.Logic.{dite}
use native.Mathlib.Decide.{ℕ_discrete}
use Rattle.floor.specs.{Board, Entry, IsInOrder, AreGoodsInOrder}

-- rising numbers, and one more that is above them
rising_more : (xs : List ℕ) (y : ℕ) → IsStrictlyIncreasing xs → ((k : ℕ) → k < length xs → get_or xs k 0 < y) → IsStrictlyIncreasing (xs ++ y ∷ [])
rising_more [] y rising below k inside = absurd (omega arith)
rising_more (x ∷ []) y rising below zero inside = below 0 (omega arith)
rising_more (x ∷ []) y rising below (suc k) inside = absurd (omega arith)
rising_more (x ∷ z ∷ xs) y rising below zero inside = rising 0 (omega arith)
rising_more (x ∷ z ∷ xs) y rising below (suc k) inside =
    let next : (j : ℕ) → suc j + 1 ≡ suc (j + 1) = λ j. omega arith in
    subst (λ (n : ℕ). get_or ((z ∷ xs) ++ y ∷ []) k 0 < get_or ((x ∷ z ∷ xs) ++ y ∷ []) n 0) (sym (next k))
    (rising_more (z ∷ xs) y
    (λ j lt. subst (λ (n : ℕ). get_or (z ∷ xs) j 0 < get_or (x ∷ z ∷ xs) n 0) (next j) (rising (suc j) (omega arith))) (λ j lt. below (suc j) (omega arith)) k (omega arith))

-- one entry more, and as much seen as stands up to it
entry_more : (entries : List (ℕ × Entry)) (boards : List (ℕ × Board)) (seen position : ℕ) (e : Entry) → seen ≤ position → IsInOrder entries boards seen → IsInOrder (entries ++ (position, e) ∷ []) boards (position + 1)
entry_more entries boards seen position e past order = record {
  rising = subst IsStrictlyIncreasing (sym (map_push (λ (p : ℕ × Entry). p.0) entries (position, e)))
      (rising_more (map (λ p. p.0) entries) position order.rising
      (λ k inside. let here = get_or-map (λ (p : ℕ × Entry). p.0) entries k (0, e) 0 (omega (arith, length-map entries (λ (p : ℕ × Entry). p.0))) in
      let below = order.past k (0, e) (omega (arith, length-map entries (λ (p : ℕ × Entry). p.0))) in omega arith));
  past = All-push (λ (p : ℕ × Entry). p.0 < position + 1) entries (position, e) (λ k d inside. let below = order.past k d inside in omega arith) (omega arith);
  counts = λ k d inside. let below = order.counts k d inside in omega arith;
}

-- one board more, of which as much was seen
board_more : (entries : List (ℕ × Entry)) (boards : List (ℕ × Board)) (seen count : ℕ) (b : Board) → seen ≤ count → IsInOrder entries boards seen → IsInOrder entries (boards ++ (count, b) ∷ []) count
board_more entries boards seen count b past order = record {
  rising = order.rising;
  past = λ k d inside. let below = order.past k d inside in omega arith;
  counts = All-push (λ (x : ℕ × Board). x.0 ≤ count) boards (count, b) (λ k d inside. let below = order.counts k d inside in omega arith) (omega arith);
}

module _ (entries : List (List (ℕ × Entry))) (boards : List (List (ℕ × Board))) (seen : List ℕ) (long : length seen ≡ 28) (good : ℕ) (inside : good < 28) where
  pub orders_entry : AreGoodsInOrder entries boards seen → (position : ℕ) (e : Entry) → get_or seen good 0 ≤ position
      → AreGoodsInOrder (set entries good (get_or entries good [] ++ (position, e) ∷ [])) boards (set seen good (position + 1))
  orders_entry order position e past =
      let row = get_or entries good [] ++ (position, e) ∷ [] in record {
        goods = length-set entries good row ∙ order.goods;
        each = λ k lt. dite (ℕ_discrete k good)
            (λ is. subst (λ (j : ℕ). IsInOrder (get_or (set entries good row) j []) (get_or boards j []) (get_or (set seen good (position + 1)) j 0)) (sym is)
            (subst (λ (t : List (ℕ × Entry) × ℕ). IsInOrder t.0 (get_or boards good []) t.1)
            (λ i. (sym (get_or-set_same entries good row [] (omega (arith, order.goods))) i, sym (get_or-set_same seen good (position + 1) 0 (omega arith)) i))
            (entry_more (get_or entries good []) (get_or boards good []) (get_or seen good 0) position e past (order.each good inside))))
            (λ ne. subst (λ (t : List (ℕ × Entry) × ℕ). IsInOrder t.0 (get_or boards k []) t.1)
            (λ i. (sym (get_or-set_other entries good k row [] ne) i, sym (get_or-set_other seen good k (position + 1) 0 ne) i)) (order.each k lt));
      }

  pub orders_board : AreGoodsInOrder entries boards seen → length boards ≡ 28 → (count : ℕ) (b : Board) → get_or seen good 0 ≤ count
      → AreGoodsInOrder entries (set boards good (get_or boards good [] ++ (count, b) ∷ [])) (set seen good count)
  orders_board order wide count b past =
      let row = get_or boards good [] ++ (count, b) ∷ [] in record {
        goods = order.goods;
        each = λ k lt. dite (ℕ_discrete k good)
            (λ is. subst (λ (j : ℕ). IsInOrder (get_or entries j []) (get_or (set boards good row) j []) (get_or (set seen good count) j 0)) (sym is)
            (subst (λ (t : List (ℕ × Board) × ℕ). IsInOrder (get_or entries good []) t.0 t.1)
            (λ i. (sym (get_or-set_same boards good row [] (omega arith)) i, sym (get_or-set_same seen good count 0 (omega arith)) i))
            (board_more (get_or entries good []) (get_or boards good []) (get_or seen good 0) count b past (order.each good inside))))
            (λ ne. subst (λ (t : List (ℕ × Board) × ℕ). IsInOrder (get_or entries k []) t.0 t.1)
            (λ i. (sym (get_or-set_other boards good k row [] ne) i, sym (get_or-set_other seen good k count 0 ne) i)) (order.each k lt));
      }

-- the same if the code names the parts otherwise
pub order_as : {entries entries' : List (List (ℕ × Entry))} {boards boards' : List (List (ℕ × Board))} {seen seen' : List ℕ} → AreGoodsInOrder entries boards seen → entries' ≡ entries → boards' ≡ boards → seen' ≡ seen → AreGoodsInOrder entries' boards' seen'
order_as order a b c = subst (λ (t : List (List (ℕ × Entry)) × List (List (ℕ × Board)) × List ℕ). AreGoodsInOrder t.0 t.1 t.2) (λ k. (sym a k, sym b k, sym c k)) order

-- before any call
nothing_in_order : (seen : ℕ) → IsInOrder [] [] seen
nothing_in_order seen = record { rising = λ k inside. absurd (omega arith); past = λ k d inside. absurd (omega arith); counts = λ k d inside. absurd (omega arith) }

pub order_first : AreGoodsInOrder (replicate 28 []) (replicate 28 []) (replicate 28 0)
order_first = record {
  goods = refl;
  each = λ k lt. subst (λ (t : List (ℕ × Entry) × List (ℕ × Board)). IsInOrder t.0 t.1 (get_or (replicate 28 0) k 0))
      (λ i. (sym (get_or-replicate {A = List (ℕ × Entry)} 28 k [] [] lt) i, sym (get_or-replicate {A = List (ℕ × Board)} 28 k [] [] lt) i)) (nothing_in_order _);
}

use Rattle.std.proofs.Common.{◌≡◌, ℕ, ◌<◌, [], ◌∷◌, ◌++◌, map, length, replicate, refl, sym, ap, ◌∙◌, subst, arith, Option, Some, slice_get, IfOk, option_and_then, option_map}
use Rattle.std.specs.List.{range_with_len}
use Rattle.std.proofs.lemmas.List.{length-map, length-replicate, map_push, replicate_more}
use Rattle.std.proofs.lemmas.List.FromFn.{map-range_with_len_more}
use lib.ListN.{get_elem?}
use Rattle.atomic_table.proofs.Lists.{at_map}
use Rattle.floor.specs.{Setup, cap, AuctionHistory, setup_of, LockId, lock_id, start_of, passes_of, returned_to, goods_of, desk_ids, desk_caller, desk_steps, setup_at, AreFresh}
use Rattle.turn_lock.proofs.Places.{place_below}
use Rattle.trade_ledger.proofs.Taking.{all_by_place}
use Rattle.floor.specs.declared.desk.Desk.{Desk}
use Rattle.floor.proofs.BornOut.{all_same, all_numbered, get_or_place}
use Rattle.floor.proofs.Rows.{read_twice, at_numbered}
use Rattle.floor.proofs.FreshPasses.{fresh_first, make_desk, new_desk}
use Rattle.floor.proofs.floor.Floor.begin.Goals as goal

pub loop-number-init : goal.loop-number-init
loop-number-init c =
    let none = c.in_ok-auctions.ensures.items in record {
      bound = omega arith;
      nine = sym (length-map c.in_ok-hands.hands.items (λ hand. hand.items)) ∙ ap length c.in_ok-hands.ensures;
      starts = ap (map (λ lock. start_of lock)) none;
      passes = ap (map (λ lock. passes_of lock)) none;
      returned = ap (map (λ lock. returned_to lock)) none;
      fresh = subst (λ ids. AreFresh ids cap (map (λ hand. hand.items) c.in_ok-hands.hands.items)) (sym (ap (map (λ lock. lock_id lock)) none)) (subst (λ hands. AreFresh [] cap hands) (sym c.in_ok-hands.ensures) (fresh_first cap));
    }

pub loop-number-preserved : goal.loop-number-preserved
loop-number-preserved c =
    let v = c.loop-number.invariant in let n : ℕ = c.loop-number.number in let locks = c.loop-number.auctions.items in let lock = c.in_ok-lock.lock in let opened = c.in_ok-lock.ensures in let added = c.in_ok-add.ensures.added in
    let f : ℕ → AuctionHistory = λ good. record { setup = setup_of good c.args.game.now; history = [] } in
    let is : c.unwrap-good.result ≡ n = subst (λ r. IfOk r (λ made. made ≡ n)) c.unwrap-good.ensures c.new.ensures.value in
    record {
      bound = omega (arith, c.loop-number-test.true);
      nine = opened.nine;
      starts = ap (map (λ l. start_of l)) added ∙ (map_push (λ l. start_of l) locks lock ∙ ((λ k. v.starts k ++ (opened.start ∙ ap f is) k ∷ []) ∙ sym (map-range_with_len_more f 0 n n (omega arith))));
      passes = ap (map (λ l. passes_of l)) added ∙ (map_push (λ l. passes_of l) locks lock ∙ ((λ k. v.passes k ++ opened.passes.0 k ∷ []) ∙ replicate_more n 9));
      returned = ap (map (λ l. returned_to l)) added ∙ (map_push (λ l. returned_to l) locks lock ∙ ((λ k. v.returned k ++ opened.passes.1 k ∷ []) ∙ replicate_more n []));
      fresh = subst (λ ids. AreFresh ids cap (map (λ hand. hand.items) c.open.new.hands.items)) (sym (ap (map (λ l. lock_id l)) added ∙ map_push (λ l. lock_id l) locks lock)) (opened.dealt (map (λ l. lock_id l) locks) v.fresh);
    }

pub seat-requires-clause-lengths : goal.seat-requires-clause-lengths
seat-requires-clause-lengths c = c.loop-number.invariant.nine ∙ sym c.in_ok-cash.ensures.passes.0

pub seat-requires-clause-fit : goal.seat-requires-clause-fit
seat-requires-clause-fit c i hand pass at_hand at_pass =
    let v = c.loop-number.invariant in let locks = c.loop-number.auctions.items in
    let long : length (map (λ l. lock_id l) locks) ≡ 28 =
    length-map locks (λ l. lock_id l) ∙ (sym (length-map locks (λ l. passes_of l)) ∙ (ap length v.passes ∙ (length-replicate c.loop-number.number 9 ∙ omega (arith, v.bound, c.loop-number-test.false)))) in
    make_desk (map (λ l. lock_id l) locks) (lock_id c.in_ok-cash.cash) i hand.items pass long (v.fresh i hand.items (at_map (λ h. h.items) c.loop-number.hands.items i hand at_hand)) (c.in_ok-cash.ensures.passes.1 i pass at_pass)

pub invariant_of-floor : goal.invariant_of-floor
invariant_of-floor c =
    let v = c.loop-number.invariant in let f : ℕ → AuctionHistory = λ good. record { setup = setup_of good c.args.game.now; history = [] } in
    let is : c.loop-number.number ≡ 28 = omega (arith, v.bound, c.loop-number-test.false) in
    record {
      goods = ap goods_of (v.starts ∙ ap (λ (n : ℕ). map f (range_with_len 0 n)) is);
      passes = (v.passes ∙ ap (λ (n : ℕ). replicate n 9) is, c.in_ok-cash.ensures.lock.0);
      returned = (v.returned ∙ ap (λ (n : ℕ). replicate n []) is, c.in_ok-cash.ensures.lock.1);
      empty = (c.in_ok-room.ensures.items, omega (arith, c.in_ok-room.ensures.capacity, c.from-2.ensures));
    }

pub returns-clause-starts : goal.returns-clause-starts
returns-clause-starts c =
    let v = c.loop-number.invariant in let f : ℕ → AuctionHistory = λ good. record { setup = setup_of good c.args.game.now; history = [] } in
    let is : c.loop-number.number ≡ 28 = omega (arith, v.bound, c.loop-number-test.false) in
    v.starts ∙ ap (λ (n : ℕ). map f (range_with_len 0 n)) is

pub returns-clause-new_desks : goal.returns-clause-new_desks
returns-clause-new_desks c =
    let v = c.loop-number.invariant in let locks = c.loop-number.auctions.items in let desks = c.in_ok-desks.desks.items in let seated = c.in_ok-desks.ensures in
    let long : length (map (λ l. lock_id l) locks) ≡ 28 =
    length-map locks (λ l. lock_id l) ∙ (sym (length-map locks (λ l. passes_of l)) ∙ (ap length v.passes ∙ (length-replicate c.loop-number.number 9 ∙ omega (arith, v.bound, c.loop-number-test.false)))) in
    λ i d at.
    let one = c.in_ok-cash.ensures.passes.1 i d.cash (ap (λ l. get_elem? l i) (sym seated.passes) ∙ at_map (λ (x : Desk). x.cash) desks i d at) in
    let at_hand = ap (λ l. get_elem? l i) (sym seated.hands) ∙ at_map (λ (x : Desk). x.passes) desks i d at in
    new_desk d i (map (λ l. lock_id l) locks) (lock_id c.in_ok-cash.cash) long (v.fresh i d.passes.items (at_map (λ h. h.items) c.loop-number.hands.items i d.passes at_hand)) one
    (subst (λ (x : Desk). desk_steps x ≡ []) (get_or_place desks i d d at) (seated.steps i d (place_below desks i d at)))

pub returns-clause-desks : goal.returns-clause-desks
returns-clause-desks c =
    let desks = c.in_ok-desks.desks.items in let seated = c.in_ok-desks.ensures in let each = returns-clause-new_desks c in
    let nine : length desks ≡ 9 = sym (length-map desks (λ (d : Desk). d.cash)) ∙ (ap length seated.passes ∙ c.in_ok-cash.ensures.passes.0) in
    (all_same (λ d. desk_ids d) _ 9 desks nine (λ i d at. (each i d at).ids), all_numbered (λ d. desk_caller d) 0 9 desks nine (λ i d at. (each i d at).caller ∙ omega arith))

-- each desk's passes are of the locks of the floor, which were made with the setups of the game
pub returns-clause-setups : goal.returns-clause-setups
returns-clause-setups c =
    let v = c.loop-number.invariant in let locks = c.loop-number.auctions.items in let f : ℕ → AuctionHistory = λ good. record { setup = setup_of good c.args.game.now; history = [] } in
    let is : c.loop-number.number ≡ 28 = omega (arith, v.bound, c.loop-number-test.false) in
    let starts = v.starts ∙ ap (λ (n : ℕ). map f (range_with_len 0 n)) is in
    let setup_by : LockId AuctionHistory → Option Setup = λ id. option_map (λ s. s.setup) id.start in
    all_by_place (λ (d : Desk). (good : ℕ) → good < 28 → setup_at d good ≡ Some (setup_of good c.args.game.now)) c.in_ok-desks.desks.items
    (λ i d at good inside.
    ap (λ l. option_and_then setup_by (slice_get l good)) (ap (λ t. t.0) (returns-clause-new_desks c i d at).ids)
    ∙ (read_twice (λ l. lock_id l) (λ l. start_of l) setup_by (λ (s : AuctionHistory). s.setup) (λ l. refl) locks good
    ∙ (ap (λ l. option_map (λ (s : AuctionHistory). s.setup) (slice_get l good)) starts
    ∙ (ap (option_map (λ (s : AuctionHistory). s.setup)) (at_numbered f 0 28 good inside) ∙ ap (λ (n : ℕ). Some (setup_of n c.args.game.now)) (omega arith)))))

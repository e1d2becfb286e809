use Rattle.std.proofs.Common.{◌≡◌, ℕ, List, [], ◌∷◌, ◌++◌, map, Some, slice_get, sym, ap, ◌∙◌, subst, arith, below_more, option_map}
use Rattle.std.specs.Global.{Vec}
use Rattle.std.specs.List.{enumerate_from}
use Rattle.std.proofs.lemmas.List.{length-map, map-append}
use Rattle.std.proofs.lemmas.List.FromFn.{length-enumerate_from}
use Rattle.std.proofs.lemmas.Option.{slice_get-map, get_or_from_slice_get}
use Rattle.log_audit.specs.{Nets, AuctionHistory, setup_of, logged_history, auctions_in, HasFairEntry, nets_by, IsReplay, IsReplayed, IsUnfair}
use Rattle.auction_rules.specs.History.{Entry}
use Rattle.log_audit.proofs.Positions.{take_at, all_taken}
use Rattle.log_audit.proofs.Opened.{auction_at}
use Rattle.log_audit.proofs.Unfair.{unfair_at}
use Rattle.log_audit.proofs.replaying.replay_all.Goals as goal

pub push_reserved-requires-in-Fair : goal.push_reserved-requires-in-Fair
push_reserved-requires-in-Fair c = let v = c.loop-number.invariant in let inside = c.loop-number-test.true in let room = v.nets_room in let count = v.nets_count in omega (arith, inside, room, count)

pub returns-in-Unfair-clause-played : goal.returns-in-Unfair-clause-played
returns-in-Unfair-clause-played c =
    let good = c.good_of-good.result in let log = c.args.log.now in let history : List Entry = c.history.result.now in let position = c.in-Unfair.position in
    let unfair : IsUnfair (setup_of good c.args.game.now) history position = subst (IsReplay (setup_of good c.args.game.now) history) c.in-Unfair.is c.in_ok-auction.ensures in
    let here : logged_history log good ≡ history = get_or_from_slice_get log.histories good history [] c.history.ensures.value in
    unfair_at c.args.game.now log c.loop-number.number good position c.good_of-good.ensures c.loop-number-test.true
    (subst (λ (h : List Entry). IsUnfair (setup_of good c.args.game.now) h position) (sym here) unfair) c.loop-number.invariant.fair

pub loop-number-preserved : goal.loop-number-preserved
loop-number-preserved c =
    let v = c.loop-number.invariant in let n = c.loop-number.number in let good = c.good_of-good.result in let log = c.args.log.now in let game = c.args.game.now in let history : List Entry = c.history.result.now in
    let replayed : IsReplayed (setup_of good game) history c.in-Fair.auction c.in-Fair.of_good.items = subst (IsReplay (setup_of good game) history) c.in-Fair.is c.in_ok-auction.ensures in
    let same : good ≡ n = c.good_of-good.ensures in
    let at : slice_get log.histories n ≡ Some history = subst (λ (k : ℕ). slice_get log.histories k ≡ Some history) same c.history.ensures.value in
    let here : logged_history log good ≡ history = get_or_from_slice_get log.histories good history [] c.history.ensures.value in
    let auction : AuctionHistory = c.in-Fair.auction in
    let auction_is : slice_get (auctions_in game log) n ≡ Some auction = auction_at game log n history at ∙ (λ i. Some (record { setup = setup_of (sym same i) game; history = history })) ∙ ap (λ (a : AuctionHistory). Some a) (sym replayed.auction_is) in
    let row_is : slice_get (map (map nets_by) log.histories) n ≡ Some c.in-Fair.of_good.items = slice_get-map (map nets_by) log.histories n ∙ (ap (option_map (map nets_by)) at ∙ ap (λ (r : List Nets). Some r) (sym replayed.nets_are)) in
    let pushed = c.push_reserved.ensures in let pushed' = c.push_reserved-in-Fair.ensures in
    let count = v.auctions_count in let count' = v.nets_count in let room = v.auction_room in let room' = v.nets_room in
    let fair : (position : ℕ) → HasFairEntry (setup_of n game) (logged_history log n) position =
    λ position. (let P : ℕ × List Entry → Type 0 = λ q. HasFairEntry (setup_of q.0 game) q.1 position in subst P (λ i. (same i, (sym here ∙ ap (logged_history log) same) i)) (replayed.fair position)) in
    record {
      auctions_are = pushed.items ∙ (ap (λ (l : List AuctionHistory). l ++ auction ∷ []) v.auctions_are ∙ sym (take_at (auctions_in game log) n auction auction_is));
      nets_are = ap (map (λ (row : Vec Nets). row.items)) pushed'.items ∙ (map-append (λ (row : Vec Nets). row.items) c.loop-number.nets.items (c.in-Fair.of_good ∷ [])
          ∙ (ap (λ (l : List (List Nets)). l ++ c.in-Fair.of_good.items ∷ []) v.nets_are ∙ sym (take_at (map (map nets_by) log.histories) n c.in-Fair.of_good.items row_is)));
      auctions_count = omega (arith, pushed.len, count);
      nets_count = omega (arith, pushed'.len, count');
      auction_room = omega (arith, pushed.capacity, room);
      nets_room = omega (arith, pushed'.capacity, room');
      fair = λ g position lt. below_more (λ (k : ℕ). (p : ℕ) → HasFairEntry (setup_of k game) (logged_history log k) p) n (λ k below p. v.fair k p below) fair g lt position;
    }

pub returns-clause-played : goal.returns-clause-played
returns-clause-played c =
    let v = c.loop-number.invariant in let n = c.loop-number.number in let log = c.args.log.now in let past = c.loop-number-test.false in let goods = c.head-head.ensures.logged.goods in
    let open_with : ℕ × List Entry → AuctionHistory = λ p. record { setup = setup_of p.0 c.args.game.now; history = p.1 } in
    record {
      auctions_are = v.auctions_are ∙ all_taken (auctions_in c.args.game.now log) n
          (omega (arith, past, goods, length-enumerate_from 0 log.histories, length-map (enumerate_from 0 log.histories) open_with));
      nets_are = v.nets_are ∙ all_taken (map (map nets_by) log.histories) n (omega (arith, past, goods, length-map log.histories (map nets_by)));
      fair = λ good position low. v.fair good position (omega (arith, past, low));
    }

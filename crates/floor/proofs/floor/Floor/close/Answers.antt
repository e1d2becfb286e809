use Rattle.std.proofs.Common.{◌≡◌, ℕ, ◌≤◌, [], ◌∷◌, ◌++◌, map, fold, length, sym, ap, ◌∙◌, arith, append-nil, append_assoc}
use Rattle.std.specs.Vec.Iter.{into_iter_items}
use Rattle.std.specs.List.{AllByRecursion}
use Rattle.std.proofs.lemmas.List.{length-map, nil_from_length, map_push}
use Rattle.std.proofs.lemmas.List.Sums.{fold_push}
use Rattle.std.proofs.lemmas.List.Elements.{All-from_recursion}
use mathlib.Core.Option.{some}
use lib.ListN.{get_elem?}
use Rattle.atomic_table.proofs.Lists.{at_map}
use Rattle.floor.specs.{AuctionHistory, CashEntry, start_of, passes_of, returned_to, returned_by, Entry, part, AreKnown, desk_ids, desk_caller, desk_cash, goods_of, with_each, TakesLawfulBids, board_of}
use Rattle.trade_ledger.proofs.Matching.{called_by_nine, matched_totals}
use Rattle.trade_ledger.proofs.Taking.{all_by_place}
use Rattle.floor.specs.declared.desk.Desk.{Desk}
use Rattle.floor.specs.Floors.{floor_ids}
use Rattle.floor.proofs.Rows.{map_of}
use Rattle.floor.proofs.Tables.{at_next}
use Rattle.floor.proofs.FreshPasses.{at_replicate}
use Rattle.floor.proofs.BornOut.{maps_agree, takes_lawful_bids}
use Rattle.floor.proofs.ReturnedRows.{returned_at, gathered, all_back, given_by_good, borne_out, all_matched}
use Rattle.floor.proofs.floor.Floor.close.Goals as goal

pub return_passes-requires : goal.return_passes-requires
return_passes-requires c =
    let v = c.loop-desk.invariant in let k : ℕ = length c.loop-desk.yielded in
    let whole = v.rest ∙ ap (λ l. c.loop-desk.yielded ++ l) c.in-Some.ensures.steps.0 in
    let own = at_replicate 9 (floor_ids c.args.self) (desk_ids c.in-Some.desk) k (ap (λ l. get_elem? l k) (sym c.requires.0) ∙ at_map (λ d. desk_ids d) c.args.desks.items k c.in-Some.desk (at_next _ _ _ _ whole)) in
    ap (λ t. t.0) (sym own) ∙ sym v.ids

pub take_back-requires-clause-own : goal.take_back-requires-clause-own
take_back-requires-clause-own c κs =
    let v = c.loop-desk.invariant in let k : ℕ = length c.loop-desk.yielded in
    let whole = v.rest ∙ ap (λ l. c.loop-desk.yielded ++ l) c.in-Some.ensures.steps.0 in
    let own = at_replicate 9 (floor_ids c.args.self) (desk_ids c.in-Some.desk) k (ap (λ l. get_elem? l k) (sym c.requires.0) ∙ at_map (λ d. desk_ids d) c.args.desks.items k c.in-Some.desk (at_next _ _ _ _ whole)) in
    ap (λ t. t.1) (sym own) ∙ sym v.cash_same.0

pub loop-desk-preserved : goal.loop-desk-preserved
loop-desk-preserved c =
    let v = c.loop-desk.invariant in let desk = c.in-Some.desk in let back = c.return_passes.ensures in let cash = c.take_back.ensures in let yielded = c.loop-desk.yielded in
    let whole = v.rest ∙ ap (λ l. yielded ++ l) c.in-Some.ensures.steps.0 in
    record {
      rest = whole ∙ sym (append_assoc yielded (desk ∷ []) (into_iter_items c.next.new.self));
      ids = back.ids ∙ v.ids;
      starts = back.starts ∙ v.starts;
      passes = back.passes ∙ v.passes;
      returned = back.returned ∙ (ap (λ rows. with_each rows (map (λ p. returned_by p) desk.passes.items)) v.returned
          ∙ sym (fold_push (λ rows (d : Desk). with_each rows (map (λ p. returned_by p) d.passes.items)) (map (λ lock. returned_to lock) c.args.self.auctions.items) yielded desk));
      cash_same = (cash.same.0 ∙ v.cash_same.0, cash.same.2 ∙ v.cash_same.1);
      cash_returned = cash.returned ∙ (ap (λ l. l ++ returned_by desk.cash ∷ []) v.cash_returned
          ∙ (append_assoc (returned_to c.args.self.cash) (map (λ (d : Desk). returned_by d.cash) yielded) (returned_by desk.cash ∷ [])
          ∙ ap (λ l. returned_to c.args.self.cash ++ l) (sym (map_push (λ (d : Desk). returned_by d.cash) yielded desk))));
    }

pub close_all-requires-clause-room : goal.close_all-requires-clause-room
close_all-requires-clause-room c =
    let v = c.loop-desk.invariant in let locks = c.loop-desk.auctions.items in
    let wide : length locks ≡ 28 = sym (length-map locks (λ lock. passes_of lock)) ∙ ap length (v.passes ∙ c.args.self.passes.0) in
    (c.args.self.empty.0, omega (arith, wide, c.args.self.empty.1))

pub close_all-requires-clause-all_back : goal.close_all-requires-clause-all_back
close_all-requires-clause-all_back c good lock at =
    let v = c.loop-desk.invariant in let locks = c.loop-desk.auctions.items in
    let none : into_iter_items c.loop-desk.desk-iterator ≡ [] = let z = c.in-None.ensures.steps.0 in nil_from_length _ (sym c.loop-desk.desk-iterator.rest.ok.0 ∙ z) in
    let all : c.loop-desk.yielded ≡ c.args.desks.items = sym (v.rest ∙ (ap (λ l. c.loop-desk.yielded ++ l) none ∙ append-nil c.loop-desk.yielded)) in
    let rows : map (λ l. returned_to l) locks ≡ gathered c.args.desks.items = v.returned ∙ (ap (λ r. fold (λ rows (d : Desk). with_each rows (map (λ p. returned_by p) d.passes.items)) r c.loop-desk.yielded) c.args.self.returned.0 ∙ ap gathered all) in
    let nine : length c.args.desks.items ≡ 9 = sym (length-map c.args.desks.items (λ d. desk_ids d)) ∙ ap length c.requires.0 in
    all_back (λ l. start_of l) (λ l. passes_of l) (λ l. returned_to l) locks c.args.desks.items (v.passes ∙ c.args.self.passes.0) rows nine good lock at

pub close-requires-clause-all_back : goal.close-requires-clause-all_back
close-requires-clause-all_back c κs =
    let v = c.loop-desk.invariant in
    let none : into_iter_items c.loop-desk.desk-iterator ≡ [] = let z = c.in-None.ensures.steps.0 in nil_from_length _ (sym c.loop-desk.desk-iterator.rest.ok.0 ∙ z) in
    let all : c.loop-desk.yielded ≡ c.args.desks.items = sym (v.rest ∙ (ap (λ l. c.loop-desk.yielded ++ l) none ∙ append-nil c.loop-desk.yielded)) in
    let nine : length c.args.desks.items ≡ 9 = sym (length-map c.args.desks.items (λ d. desk_ids d)) ∙ ap length c.requires.0 in
    let returned = v.cash_returned ∙ ap (λ r. r ++ map (λ (d : Desk). returned_by d.cash) c.loop-desk.yielded) c.args.self.returned.1 in
    ap length returned ∙ (length-map c.loop-desk.yielded (λ (d : Desk). returned_by d.cash) ∙ (ap length all ∙ (nine ∙ sym (v.cash_same.1 ∙ c.args.self.passes.1))))

pub invariant_of-result : goal.invariant_of-result
invariant_of-result c =
    let v = c.loop-desk.invariant in let locks = c.loop-desk.auctions.items in
    maps_agree (λ a. a.setup.good) (λ l. (start_of {S = AuctionHistory} l).setup.good) c.close_all.result.items locks c.close_all.ensures.length
    (λ k a l at_a at_l. ap (λ s. s.good) (c.close_all.ensures.given_back k l a at_l at_a).setup)
    ∙ (sym (map_of (λ (a : AuctionHistory). a.setup.good) (λ l. start_of l) locks) ∙ (ap goods_of v.starts ∙ c.args.self.goods))

pub returns : goal.returns
returns c =
    let v = c.loop-desk.invariant in let locks = c.loop-desk.auctions.items in let desks = c.args.desks.items in let auctions = c.close_all.result.items in let cash = c.close.result in
    let none : into_iter_items c.loop-desk.desk-iterator ≡ [] = let z = c.in-None.ensures.steps.0 in nil_from_length _ (sym c.loop-desk.desk-iterator.rest.ok.0 ∙ z) in
    let all : c.loop-desk.yielded ≡ desks = sym (v.rest ∙ (ap (λ l. c.loop-desk.yielded ++ l) none ∙ append-nil c.loop-desk.yielded)) in
    let rows : map (λ l. returned_to l) locks ≡ gathered desks = v.returned ∙ (ap (λ r. fold (λ rows (d : Desk). with_each rows (map (λ p. returned_by p) d.passes.items)) r c.loop-desk.yielded) c.args.self.returned.0 ∙ ap gathered all) in
    let given = given_by_good (λ l. start_of l) (λ l. passes_of l) (λ l. returned_to l) locks desks (v.passes ∙ c.args.self.passes.0) rows auctions c.close_all.ensures.length c.close_all.ensures.given_back in
    let long : length auctions ≡ 28 = c.close_all.ensures.length ∙ (sym (length-map locks (λ l. passes_of l)) ∙ ap length (v.passes ∙ c.args.self.passes.0)) in
    let returned = v.cash_returned ∙ (ap (λ r. r ++ map (λ (d : Desk). returned_by d.cash) c.loop-desk.yielded) c.args.self.returned.1 ∙ ap (λ l. map (λ (d : Desk). returned_by d.cash) l) all) in
    let known : (good : ℕ) (a : AuctionHistory) → get_elem? auctions good ≡ some a → AreKnown (board_of a) (λ (e : Entry). e.caller) a.history (map (λ d. returned_at d good) desks) = λ good a at. (given good a at).2.known in
    let cash_known : (k : ℕ) (d : Desk) → get_elem? desks k ≡ some d → desk_cash d ≡ part (λ (e : CashEntry). e.caller) cash (desk_caller d) = λ k d at. (c.close.ensures.known k (returned_by d.cash) (ap (λ l. get_elem? l k) returned ∙ at_map (λ (x : Desk). returned_by x.cash) desks k d at)).0 in
    let called : AllByRecursion (λ (e : CashEntry). e.caller ≤ 8) cash = called_by_nine (λ (e : CashEntry). e.caller) cash (λ b le. c.close.ensures.nobody_else b (omega (arith, le, v.cash_same.1, c.args.self.passes.1))) in
    let matched = all_matched desks auctions cash long known cash_known c.requires.1 (λ good a at. (given good a at).2.legal) called in
    record {
      setups = maps_agree (λ a. a.setup) (λ l. (start_of {S = AuctionHistory} l).setup) auctions locks c.close_all.ensures.length (λ k a l at_a at_l. (c.close_all.ensures.given_back k l a at_l at_a).setup)
          ∙ (sym (map_of (λ (a : AuctionHistory). a.setup) (λ l. start_of l) locks) ∙ ap (λ l. map (λ (a : AuctionHistory). a.setup) l) v.starts);
      legal = all_by_place _ auctions (λ k a at. (given k a at).2.legal);
      cash = c.close.ensures.legal;
      callers = All-from_recursion (λ (e : CashEntry). e.caller ≤ 8) cash called;
      borne_out = all_by_place _ desks (λ k d at. borne_out desks auctions cash long known cash_known k d at);
      matched = matched;
      totals = λ party low. matched_totals (map (λ a. a.history) auctions) cash party low matched;
      taken = all_by_place TakesLawfulBids auctions (λ k a at. takes_lawful_bids a (given k a at).2.legal);
    }

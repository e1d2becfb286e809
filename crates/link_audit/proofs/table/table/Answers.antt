use Rattle.std.proofs.Common.{◌≡◌, ◌≤◌, ◌+◌, ℕ, List, [], ◌∷◌, length, map, sym, ap, ◌∙◌, subst, arith, below_more}
use Rattle.std.specs.Global.{Vec}
use Rattle.std.proofs.lemmas.List.{map-append}
use Rattle.std.proofs.lemmas.Option.{get_or_from_slice_get}
use Rattle.link_audit.specs.{Board, AUCTION_ENTRIES, logged_history, AreRow}
use Rattle.auction_rules.specs.History.{Entry}
use Rattle.link_audit.proofs.Prefixes.{AreRows, rows_more, boards_of_rows, table_of_rows}
use Rattle.link_audit.proofs.table.table.Goals as goal

pub loop-number-preserved : goal.loop-number-preserved
loop-number-preserved c =
    let v = c.loop-number.invariant in let game = c.args.game.now in let log = c.args.log.now in let n = c.loop-number.number in let good = c.good_of-good.result in
    let found : List Entry = c.history-history.result.now in
    let here : logged_history log good ≡ found = get_or_from_slice_get log.histories good found [] c.history-history.ensures.value in
    let row : List Board = c.in_ok-row.row.items in
    let is : AreRow game n (logged_history log n) (length (logged_history log n)) row =
    subst (λ (k : ℕ). AreRow game k (logged_history log k) (length (logged_history log k)) row) c.good_of-good.ensures
    (subst (λ (h : List Entry). AreRow game good h (length h) row) (sym here) c.in_ok-row.ensures) in
    let few : length (logged_history log n) ≤ AUCTION_ENTRIES =
    subst (λ (k : ℕ). length (logged_history log k) ≤ AUCTION_ENTRIES) c.good_of-good.ensures
    (let most = c.len-entries.ensures.few in omega (arith, most, c.len-entries.ensures.value, ap (λ (h : List Entry). length h) here)) in
    let pushed = c.push_reserved.ensures in let count = v.count in let room = v.room in
    record {
      rows_are = subst (AreRows game log (n + 1)) (sym (ap (map (λ (r : Vec Board). r.items)) pushed.items ∙ map-append (λ (r : Vec Board). r.items) c.loop-number.rows.items (c.in_ok-row.row ∷ [])))
          (rows_more game log n (map (λ (r : Vec Board). r.items) c.loop-number.rows.items) row v.rows_are is);
      count = omega (arith, pushed.len, count);
      room = omega (arith, pushed.capacity, room);
      few = below_more (λ (k : ℕ). length (logged_history log k) ≤ AUCTION_ENTRIES) n v.few few;
    }

pub returns-clause-table : goal.returns-clause-table
returns-clause-table c =
    let v = c.loop-number.invariant in
    let all : c.loop-number.number ≡ 28 = (let past = c.loop-number-test.false in let most = c.loop-number.auto.number-end in omega (arith, past, most)) in
    table_of_rows c.args.game.now c.args.log.now c.loop-number.rows.items (subst (λ (n : ℕ). AreRows c.args.game.now c.args.log.now n (map (λ (r : Vec Board). r.items) c.loop-number.rows.items)) all v.rows_are)
    (λ good low. v.few good (omega (arith, low, all)))

pub returns-clause-boards : goal.returns-clause-boards
returns-clause-boards c =
    let v = c.loop-number.invariant in
    let all : c.loop-number.number ≡ 28 = (let past = c.loop-number-test.false in let most = c.loop-number.auto.number-end in omega (arith, past, most)) in
    boards_of_rows c.args.game.now c.args.log.now (map (λ (r : Vec Board). r.items) c.loop-number.rows.items)
    (subst (λ (n : ℕ). AreRows c.args.game.now c.args.log.now n (map (λ (r : Vec Board). r.items) c.loop-number.rows.items)) all v.rows_are)

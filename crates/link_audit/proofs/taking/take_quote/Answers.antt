use Rattle.std.proofs.Common.{◌≡◌, ◌<◌, ◌≤◌, ℕ, List, [], length, map, get_or, Some, Ok, sym, ap, ◌∙◌, subst, arith, slice_get, slice_index_or, slice_set}
use Rattle.std.specs.Global.{Vec}
use Rattle.link_audit.specs.{Board, Asks, FitsReply, IsTaken, subject_of}
use Rattle.line_protocol.specs.declared.asking.Request.TheVariants as requests
use Rattle.link_audit.specs.declared.places.Places.{Places}
use Rattle.link_audit.proofs.Determined.{quote_taken, quote_stuck}
use Rattle.link_audit.proofs.Found.{row_at}
use Rattle.link_audit.proofs.taking.take_quote.Goals as goal

pub first_shown-requires : goal.first_shown-requires
first_shown-requires g c =
    let boards : List (Vec Board) = c.args.boards.now in let good = c.args.good in let row : Vec Board = c.index-boards-row.result in
    let same : c.from-row.result ≡ good = c.from-row.ensures ∙ c.get.ensures.value in
    let low : good < 28 = omega arith in
    let goods = c.requires.table.goods in
    let is : slice_index_or (map (λ (r : Vec Board). r.items) boards) good [] ≡ row.items = row_at boards good row (omega (arith, low, goods)) (c.index-boards-row.is ∙ ap (λ (k : ℕ). get_or boards k row) same) in
    let few = c.requires.table.few good low in
    omega (arith, few, ap (λ (l : List Board). length l) is, ap (λ (l : List Board). length l) c.deref.ensures.value)

pub returns-in-None-clause-no : goal.returns-in-None-clause-no
returns-in-None-clause-no g c =
    let boards : List (Vec Board) = c.args.boards.now in let good = c.args.good in let row : Vec Board = c.index-boards-row.result in let from : Places = c.args.places.now in
    let same : c.from-row.result ≡ good = c.from-row.ensures ∙ c.get.ensures.value in
    let low : good < 28 = omega arith in
    let goods = c.requires.table.goods in
    let is : slice_index_or (map (λ (r : Vec Board). r.items) boards) good [] ≡ row.items = row_at boards good row (omega (arith, low, goods)) (c.index-boards-row.is ∙ ap (λ (k : ℕ). get_or boards k row) same) in
    let items : c.deref.result.now ≡ slice_index_or (map (λ (r : Vec Board). r.items) boards) good [] = c.deref.ensures.value ∙ sym is in
    λ never. quote_stuck (subject_of c.args.log.now boards c.args.agent) (FitsReply (g.D.Dialect.form c.args.dialect.now) c.args.heard c.args.reply.now) from good
    (λ count board forward note fit. c.in-None.ensures count board (subst (λ (k : ℕ). get_or from.seen k 0 ≤ count) (sym same) forward) (subst (λ (l : List Board). slice_get l count ≡ Some board) (sym items) note) fit)

pub returns-in-Some-clause-yes : goal.returns-in-Some-clause-yes
returns-in-Some-clause-yes g c =
    let boards : List (Vec Board) = c.args.boards.now in let good = c.args.good in let row : Vec Board = c.index-boards-row.result in let from : Places = c.args.places.now in let count = c.in-Some.count in
    let same : c.from-row.result ≡ good = c.from-row.ensures ∙ c.get.ensures.value in
    let low : good < 28 = omega arith in
    let goods = c.requires.table.goods in
    let is : slice_index_or (map (λ (r : Vec Board). r.items) boards) good [] ≡ row.items = row_at boards good row (omega (arith, low, goods)) (c.index-boards-row.is ∙ ap (λ (k : ℕ). get_or boards k row) same) in
    let items : c.deref.result.now ≡ slice_index_or (map (λ (r : Vec Board). r.items) boards) good [] = c.deref.ensures.value ∙ sym is in
    let found = c.in-Some.ensures in
    let board : Board = found.1.0 in
    let note : slice_get (slice_index_or (map (λ (r : Vec Board). r.items) boards) good []) count ≡ Some board = subst (λ (l : List Board). slice_get l count ≡ Some board) items found.1.1 in
    λ t. subst (λ (k : ℕ). IsTaken (λ item. item ≡ Asks (Ok (requests.Quote good))) (FitsReply (g.D.Dialect.form c.args.dialect.now) c.args.heard c.args.reply.now) (subject_of c.args.log.now boards c.args.agent) from (record from { seen = slice_set from.seen k count })) (sym same)
    (quote_taken (subject_of c.args.log.now boards c.args.agent) (FitsReply (g.D.Dialect.form c.args.dialect.now) c.args.heard c.args.reply.now) from good c.width-goods.ensures low count board
    (subst (λ (k : ℕ). get_or from.seen k 0 ≤ count) same found.0) note (c.requires.table.counts good count board low note) found.1.2
    (λ k other forward before there fit. found.2 k other (subst (λ (n : ℕ). get_or from.seen n 0 ≤ k) (sym same) forward) before (subst (λ (l : List Board). slice_get l k ≡ Some other) (sym items) there) fit))

use Rattle.std.proofs.Common.{List, ◌++◌, ap, sym, ◌∙◌, append-nil, arith}
use Rattle.std.proofs.lemmas.List.{drop_all}
use Rattle.ticket_book.specs.{Point, fault_of, left_fault, left_points, both}
use Rattle.auction_rules.proofs.LeftPoints.{left_no_fault}
use Rattle.ticket_book.proofs.remains.left_of.Goals as goal

pub new-requires : goal.new-requires
new-requires c =
    let bid = c.args.bid.now in
    let left = c.loop-point.left.items in
    let left_from = λ (ps : List Point). left_points (both c.args.standing.now) bid.agent bid.position c.loop-point.from ps in
    let none_more = drop_all c.loop-point.point-index c.as_slice-point-items.result.now (omega arith) in
    ap left_fault (c.deref.ensures.0 ∙ sym (append-nil left) ∙ ap (λ (ps : List Point). left ++ left_from ps) (sym none_more) ∙ c.loop-point.invariant.points)
    ∙ left_no_fault (both c.args.standing.now) bid.agent bid.position c.as_slice-point-items.result.now (ap fault_of c.as_slice-point-items.ensures.value ∙ c.as_slice-point-items.ensures.bid)

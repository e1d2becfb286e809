use Rattle.std.proofs.Common.{◌<◌, ◌++◌, ◌∷◌, [], length, ap, ◌∙◌, arith, length-append}
use Rattle.bid_strings.specs.BidForm.{points_from}
use Rattle.bid_strings.proofs.Fronts.{bad, whole_step, refused}
use Rattle.bid_strings.proofs.reading.points_in.Goals as goal

pub returns-in-Err : goal.returns-in-Err
returns-in-Err c =
    let front = c.loop-left.draft in
    let point = c.in-Some-point_of.point in
    let points = front ++ point ∷ [] in
    let total = points_from c.args.words in
    let whole = whole_step front c.loop-left.words c.next.new.self c.next-in-Some.new.self c.in-Some.left.now c.in-Some-next.right.now point total c.in-Some.ensures c.in-Some-next.ensures c.in-Some-point_of.ensures c.loop-left.invariant in
    let some : 0 < length points = omega (arith, length-append front (point ∷ [])) in
    ap bad c.refusal.ensures ∙ refused points c.in-Err.fault (points_from c.next-in-Some.new.self) total some c.in-Err.ensures.fault whole

pub loop-left-preserved : goal.loop-left-preserved
loop-left-preserved c =
    let front = c.loop-left.draft in
    let point = c.in-Some-point_of.point in
    let whole = whole_step front c.loop-left.words c.next.new.self c.next-in-Some.new.self c.in-Some.left.now c.in-Some-next.right.now point (points_from c.args.words) c.in-Some.ensures c.in-Some-next.ensures c.in-Some-point_of.ensures c.loop-left.invariant in
    rw c.in_default-add_to.ensures.ok whole

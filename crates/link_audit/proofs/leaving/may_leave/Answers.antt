use Rattle.std.proofs.Common.{◌≡◌, ◌+◌, ◌-◌, ℕ, List, ◌∷◌, suc, take, refl, arith, slice_range}
use Rattle.link_audit.specs.{SESSION_LINES, ended_line, Dialect, AsksToLeave, lines_at}
use Rattle.link_audit.proofs.Cuts.{lines_here, lines_end}
use Rattle.link_audit.proofs.Quitting.{found, no_room, none_leaves, passed}
use Rattle.link_audit.proofs.leaving.may_leave.Goals as goal

pub returns-in_default : goal.returns-in_default
returns-in_default g c =
    let dialect : Dialect = g.D.Dialect.form c.args.dialect.now in
    let asked : List ℕ = c.args.asked.now in let at = c.loop-line.at in let v = c.loop-line.invariant in
    let none = lines_end asked at c.requires.short.1 v.within c.in_default.ensures in
    ((λ never. absurd cc), (λ asks. absurd (none_leaves dialect (SESSION_LINES - c.loop-line._line) (lines_at asked at) none (v.behind.there asks))))

pub returns-then-quits : goal.returns-then-quits
returns-then-quits g c =
    let dialect : Dialect = g.D.Dialect.form c.args.dialect.now in
    let asked : List ℕ = c.args.asked.now in let at = c.loop-line.at in let n = c.loop-line._line in let v = c.loop-line.invariant in
    let low = c.loop-line-test.true in
    let Before : Type 0 = AsksToLeave dialect (take (SESSION_LINES - c.args.lines) (lines_at asked c.args.from)) in
    let end = c.in-Some.end in
    let line = slice_range asked at end in
    let lines_are : lines_at asked at ≡ ended_line line ∷ lines_at asked (end + 1) =
    lines_here asked at c.requires.short.1 v.within end c.in-Some.ensures.0 c.in-Some.ensures.1 c.in-Some.ensures.2 in
    let room : SESSION_LINES - n ≡ suc (SESSION_LINES - (n + 1)) = omega (arith, low) in
    ((λ same. found dialect (lines_at asked at) (lines_at asked (end + 1)) (ended_line line) lines_are (SESSION_LINES - n) (SESSION_LINES - (n + 1)) room Before v.behind (c.in_ok-quits.ensures.0 c.if-quits.true)), (λ asks. refl))

pub loop-line-preserved : goal.loop-line-preserved
loop-line-preserved g c =
    let dialect : Dialect = g.D.Dialect.form c.args.dialect.now in
    let asked : List ℕ = c.args.asked.now in let at = c.loop-line.at in let n = c.loop-line._line in let v = c.loop-line.invariant in
    let low = c.loop-line-test.true in
    let Before : Type 0 = AsksToLeave dialect (take (SESSION_LINES - c.args.lines) (lines_at asked c.args.from)) in
    let end = c.in-Some.end in
    let line = slice_range asked at end in
    let lines_are : lines_at asked at ≡ ended_line line ∷ lines_at asked (end + 1) =
    lines_here asked at c.requires.short.1 v.within end c.in-Some.ensures.0 c.in-Some.ensures.1 c.in-Some.ensures.2 in
    let room : SESSION_LINES - n ≡ suc (SESSION_LINES - (n + 1)) = omega (arith, low) in
    record {
      behind = passed dialect (lines_at asked at) (lines_at asked (end + 1)) (ended_line line) lines_are (SESSION_LINES - n) (SESSION_LINES - (n + 1)) room Before v.behind
          (λ is. (let quits = c.in_ok-quits.ensures.1 is in let other = c.if-quits.false in cc));
      within = (let inside = c.in-Some.ensures.1 in omega (arith, inside));
    }

pub returns : goal.returns
returns g c =
    let dialect : Dialect = g.D.Dialect.form c.args.dialect.now in
    let asked : List ℕ = c.args.asked.now in let v = c.loop-line.invariant in
    let past = c.loop-line-test.false in
    ((λ never. absurd cc), (λ asks. absurd (no_room dialect (SESSION_LINES - c.loop-line._line) (lines_at asked c.loop-line.at) (omega (arith, past)) (v.behind.there asks))))

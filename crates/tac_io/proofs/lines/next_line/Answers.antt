use Rattle.std.proofs.Common.{◌≡◌, ◌<◌, ◌^◌, arith, ◌∙◌, sym, subst, ap}
use Rattle.tac_io.specs.{IsAtEnd, has_end}
use Rattle.tac_io.proofs.KnownPieces.{send_nothing_twice}
use Rattle.tac_io.proofs.NextLine.{IsGoing, going_skip, going_fill, going_undecided, going_same, nothing_given, answers_line, answers_none}
use Rattle.tac_io.proofs.lines.next_line.Goals as goal

pub returns-in-Some-clause-answer : goal.returns-in-Some-clause-answer
returns-in-Some-clause-answer g c = answers_line _ _ _ _ _ _ _ _ c.bytes.invariant.going c.in-Some.ensures.cut.0 c.in-Some.ensures.cut.1 c.kind.ensures

pub returns-then-taken-eq-LINK_BYTES-clause-answer : goal.returns-then-taken-eq-LINK_BYTES-clause-answer
returns-then-taken-eq-LINK_BYTES-clause-answer g c = answers_none _ _ _ _ _ _ _ c.bytes.invariant.going c.in_default.ensures.none.0 (λ bytes none. (none, c.if-taken-eq-LINK_BYTES.true))

pub returns-in_default-fill-clause-decided : goal.returns-in_default-fill-clause-decided
returns-in_default-fill-clause-decided g c given = going_undecided _ _ _ _ _ c.bytes.invariant.going c.in_default.ensures.none.0 (omega (arith, c.bytes.invariant.budget, c.if-taken-eq-LINK_BYTES.false)) given

pub returns-then-count-eq0-clause-decided : goal.returns-then-count-eq0-clause-decided
returns-then-count-eq0-clause-decided g c given = going_undecided _ _ _ _ _ c.bytes.invariant.going c.in_default.ensures.none.0 (omega (arith, c.bytes.invariant.budget, c.if-taken-eq-LINK_BYTES.false)) given

pub returns-in_default-fill-clause-answer : goal.returns-in_default-fill-clause-answer
returns-in_default-fill-clause-answer g c =
    let below : c.bytes.taken < 2 ^ 26 = omega (arith, c.bytes.invariant.budget, c.if-taken-eq-LINK_BYTES.false) in
    answers_none _ _ _ _ _ _ _ (going_same _ _ _ _ _ _ c.bytes.invariant.going c.in_default-fill.ensures.bytes.1 c.in_default-fill.ensures.bytes.2)
    c.in_default.ensures.none.0 (λ bytes none. (none, below))

pub returns-then-count-eq0-clause-answer : goal.returns-then-count-eq0-clause-answer
returns-then-count-eq0-clause-answer g c =
    let below : c.bytes.taken < 2 ^ 26 = omega (arith, c.bytes.invariant.budget, c.if-taken-eq-LINK_BYTES.false) in
    let given : ((g.L.Link.state c.fill.new.link).taken ≡ (g.L.Link.state c.bytes.link).taken) × ((g.L.Link.state c.fill.new.link).left ≡ (g.L.Link.state c.bytes.link).left) =
    nothing_given _ _ _ _ _ c.in-Ok.ensures.bytes.2 c.if-count-eq0.true in
    let end : IsAtEnd (g.L.Link.state c.fill.new.link).left = subst IsAtEnd (sym given.1) (c.in-Ok.ensures.bytes.2.end c.if-count-eq0.true) in
    answers_none _ _ _ _ _ _ _ (going_same _ _ _ _ _ _ c.bytes.invariant.going given.0 given.1)
    c.in_default.ensures.none.0 (λ bytes none. (none, below, end))

pub bytes-preserved : goal.bytes-preserved
bytes-preserved g c =
    let below : c.bytes.taken < 2 ^ 26 = omega (arith, c.bytes.invariant.budget, c.if-taken-eq-LINK_BYTES.false) in
    let same : c.cut_line.new.self.unread ≡ c.bytes.buffer.unread = ap (λ held. held.unread) c.in_default.ensures.none.1 in record {
      going = going_fill _ _ _ _ _ _ _ _ (going_skip _ _ _ _ _ _ _
          (subst (λ unread. IsGoing (record { held = c.args.buffer.now; count = c.args.taken.now; link = g.L.Link.state c.args.link.now }) c.bytes.long unread c.bytes.taken (g.L.Link.state c.bytes.link)) (sym same) c.bytes.invariant.going)
          (ap has_end same ∙ c.in_default.ensures.none.0) c.skips-long.ensures.skips) c.in-Ok.ensures.bytes.2;
      budget = omega (arith, c.in-Ok.ensures.bytes.0, c.bytes.invariant.budget);
      decided = λ given. going_undecided _ _ _ _ _ c.bytes.invariant.going c.in_default.ensures.none.0 below given;
      quiet = (c.in-Ok.ensures.cause ∙ c.bytes.invariant.quiet.0, c.in-Ok.ensures.noted ∙ c.bytes.invariant.quiet.1);
      sent = send_nothing_twice (g.L.Link.state c.args.link.now) (g.L.Link.state c.bytes.link) (g.L.Link.state c.fill.new.link) c.bytes.invariant.sent c.fill.ensures.sent;
    }

use Rattle.std.proofs.Common.{◌≡◌, ◌+◌, ◌∙◌, arith, sym, ap, subst, count_by, length, if◌then◌else◌}
use Rattle.game_run.specs.{MayGoOn, is_seated, seats_given, AreTaken}
use Rattle.game_run.proofs.TakenLinks.{none_taken, one_taken, gate_after, seats_counted, one_if, none_if}
use Rattle.game_run.proofs.admission.admit.Goals as goal

pub returns-in_err-listen-clause-taken : goal.returns-in_err-listen-clause-taken
returns-in_err-listen-clause-taken g c =
    subst (λ pending. AreTaken g.N.Link.Link.state
    c.args.game.now (g.N.Links.state c.args.links.now).pending pending c.args.arrivals.now) (sym c.listen.ensures.pending) (none_taken _ c.args.game.now _ c.args.arrivals.now c.requires.none.0 c.requires.none.1 c.requires.free)

pub loop-seated-init : goal.loop-seated-init
loop-seated-init g c =
    let arrivals = c.args.arrivals.now in
    record {
      taken = subst (λ pending. AreTaken g.N.Link.Link.state
          c.args.game.now (g.N.Links.state c.args.links.now).pending pending arrivals) (sym c.listen.ensures.pending) (none_taken _ c.args.game.now _ arrivals c.requires.none.0 c.requires.none.1 c.requires.free);
      gate = c.new-gate.ensures ∙ ap (seats_given c.args.game.now) (sym c.requires.none.0);
      seated = ap (count_by is_seated) (sym c.requires.none.0);
      listens = c.in_ok-listen.ensures.listens;
      ports = c.listen.ensures.ports;
      quiet = c.in_ok-listen.ensures.cause;
      verdicts = c.requires.room.0;
      holders = c.requires.room.1;
      as_many = omega (arith, ap length c.requires.none.0, ap length c.requires.none.1, arrivals.verdicts.ok.0, arrivals.holders.ok.0);
      few = omega (arith, ap length c.requires.none.0, arrivals.verdicts.ok.0);
      wide = omega (arith, ap length c.requires.free, arrivals.lines.ok.0);
    }

pub loop-seated-preserved-then-take_in : goal.loop-seated-preserved-then-take_in
loop-seated-preserved-then-take_in g c =
    let v = c.loop-seated.invariant in let old = c.loop-seated.arrivals in let new = c.take_in.new.arrivals in
    let may : MayGoOn old.verdicts.items = (omega (arith, c.len.ensures, c.if-len.true, old.verdicts.ok.0), omega (arith, c.loop-seated-test.true, v.seated)) in
    let counted : count_by is_seated new.verdicts.items ≡ count_by is_seated old.verdicts.items + (if c.take_in.result then 1 else 0) = seats_counted _ c.args.game.now c.in-Some.link old new _ _ _ c.take_in.ensures.taken in
    let one = one_if c.take_in.result c.if-take_in.true in
    record {
      taken = one_taken _ c.args.game.now _ _ _ c.in-Some.link old new _ _ _ v.taken v.gate may (rw c.in-Some.is at c.in_ok-link.ensures.given) c.take_in.ensures.taken;
      gate = gate_after _ c.args.game.now c.in-Some.link old new _ _ _ v.gate c.take_in.ensures.taken;
      seated = omega (arith, counted, one, v.seated);
      listens = c.in_ok-link.ensures.listens;
      ports = c.next.ensures.ports ∙ v.ports;
      quiet = c.in_ok-link.ensures.cause ∙ v.quiet;
      verdicts = c.take_in.ensures.verdicts.1 ∙ v.verdicts;
      holders = c.take_in.ensures.holders.1 ∙ v.holders;
      as_many = omega (arith, c.take_in.ensures.verdicts.0, c.take_in.ensures.holders.0, v.as_many);
      few = omega (arith, c.take_in.ensures.verdicts.0, c.len.ensures, c.if-len.true);
      wide = c.take_in.ensures.seats;
    }

pub loop-seated-preserved : goal.loop-seated-preserved
loop-seated-preserved g c =
    let v = c.loop-seated.invariant in let old = c.loop-seated.arrivals in let new = c.take_in.new.arrivals in
    let may : MayGoOn old.verdicts.items = (omega (arith, c.len.ensures, c.if-len.true, old.verdicts.ok.0), omega (arith, c.loop-seated-test.true, v.seated)) in
    let counted : count_by is_seated new.verdicts.items ≡ count_by is_seated old.verdicts.items + (if c.take_in.result then 1 else 0) = seats_counted _ c.args.game.now c.in-Some.link old new _ _ _ c.take_in.ensures.taken in
    let none = none_if c.take_in.result c.if-take_in.false in
    record {
      taken = one_taken _ c.args.game.now _ _ _ c.in-Some.link old new _ _ _ v.taken v.gate may (rw c.in-Some.is at c.in_ok-link.ensures.given) c.take_in.ensures.taken;
      gate = gate_after _ c.args.game.now c.in-Some.link old new _ _ _ v.gate c.take_in.ensures.taken;
      seated = omega (arith, counted, none, v.seated);
      listens = c.in_ok-link.ensures.listens;
      ports = c.next.ensures.ports ∙ v.ports;
      quiet = c.in_ok-link.ensures.cause ∙ v.quiet;
      verdicts = c.take_in.ensures.verdicts.1 ∙ v.verdicts;
      holders = c.take_in.ensures.holders.1 ∙ v.holders;
      as_many = omega (arith, c.take_in.ensures.verdicts.0, c.take_in.ensures.holders.0, v.as_many);
      few = omega (arith, c.take_in.ensures.verdicts.0, c.len.ensures, c.if-len.true);
      wide = c.take_in.ensures.seats;
    }

use Rattle.std.proofs.Common.{◌+◌, ℕ, List, refl, subst, slice_range}
use Rattle.link_audit.specs.{Dialect, Subject, subject_of, HasNoLine, HasPassed, IsPassed, lines_at}
use Rattle.link_audit.proofs.Cuts.{lines_here, lines_end}
use Rattle.link_audit.proofs.Accounted.{finished_so, no_end, told_so, yes_so}
use Rattle.link_audit.proofs.judging.finish.Goals as goal

pub returns-in-None : goal.returns-in-None
returns-in-None g c =
    let dialect : Dialect = g.D.Dialect.form c.args.dialect.now in
    let s : Subject = subject_of c.args.log.now c.args.boards.now c.args.agent in
    let asked : List ℕ = c.args.asked.now in let at = c.args.at in let lines = lines_at asked at in
    let ahead = subst (IsPassed dialect s c.args.places.now lines c.args.lines) c.in-Ok.is c.in_ok-after.ensures.ahead in
    let numbers = subst (HasPassed dialect s c.args.places.now lines c.args.lines) c.in-Ok.is c.in_ok-after.ensures.turns in
    record {
      yes = λ other. (let so = yes_so c.args.agent c.args.lines c.in-Ok.after c.args.memory c.args.ended c.vouched.result c.vouched.ensures other in ((λ did. (so.0 did, ahead)), (λ both. so.1 both.0)));
      how = finished_so dialect s asked c.args.places.now at c.args.lines c.args.agent c.in-Ok.after c.args.memory c.args.ended c.vouched.result c.vouched.ensures
          (lines_end asked at c.requires.short.1 c.requires.short.0 c.in-None.ensures) numbers;
      told = told_so c.args.agent c.args.lines c.in-Ok.after c.args.memory c.args.ended c.vouched.result c.vouched.ensures;
    }

pub returns-in-Some : goal.returns-in-Some
returns-in-Some g c =
    let dialect : Dialect = g.D.Dialect.form c.args.dialect.now in
    let s : Subject = subject_of c.args.log.now c.args.boards.now c.args.agent in
    let asked : List ℕ = c.args.asked.now in let at = c.args.at in let lines = lines_at asked at in
    let ahead = subst (IsPassed dialect s c.args.places.now lines c.args.lines) c.in-Ok.is c.in_ok-after.ensures.ahead in
    let numbers = subst (HasPassed dialect s c.args.places.now lines c.args.lines) c.in-Ok.is c.in_ok-after.ensures.turns in
    let end = c.in-Some.field-0 in
    let here = lines_here asked at c.requires.short.1 c.requires.short.0 end c.in-Some.ensures.0 c.in-Some.ensures.1 c.in-Some.ensures.2 in
    record {
      yes = λ other. ((λ did. (did, ahead)), (λ both. both.0));
      how = (refl, (λ none is. no_end (slice_range asked at end) (lines_at asked (end + 1)) (subst HasNoLine here none)), numbers);
      told = refl;
    }

pub returns-in-Err : goal.returns-in-Err
returns-in-Err g c =
    let dialect : Dialect = g.D.Dialect.form c.args.dialect.now in
    let s : Subject = subject_of c.args.log.now c.args.boards.now c.args.agent in
    let asked : List ℕ = c.args.asked.now in let at = c.args.at in let lines = lines_at asked at in
    let never = subst (IsPassed dialect s c.args.places.now lines c.args.lines) c.in-Err.is c.in_ok-after.ensures.ahead in
    record {
      yes = λ other. ((λ did. absurd did), (λ both. never both.1));
      how = subst (HasPassed dialect s c.args.places.now lines c.args.lines) c.in-Err.is c.in_ok-after.ensures.turns;
      told = tt;
    }

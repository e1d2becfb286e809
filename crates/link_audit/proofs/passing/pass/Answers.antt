use Rattle.std.proofs.Common.{◌≡◌, ◌+◌, ◌-◌, ℕ, suc, List, [], ◌∷◌, false, refl, subst, arith, slice_range}
use Rattle.link_audit.specs.{SESSION_LINES, ended_line, LineGot, Dialect, Subject, IsAsked, FitsReply, IsAhead, IsOver, IsStep, subject_of, HasCourse, has_entry, lines_at}
use Rattle.link_audit.specs.declared.places.Places.{Places}
use Rattle.link_audit.specs.declared.stepping.Step.TheVariants.{Stays, Leaves, Stuck}
use Rattle.link_audit.proofs.Cuts.{lines_here, lines_end, no_line}
use Rattle.link_audit.proofs.Walked.{passed_on, pass_stuck, pass_left, pass_ended, pass_full, pass_over, taken_wide}
use Rattle.link_audit.proofs.Courses.{end_course, finish_over, pass_course_stuck}
use Rattle.link_audit.proofs.CourseWalks.{counted_by, most_one, passed_course, passed_finish, stop_here, stop_left}
use Rattle.link_audit.proofs.passing.pass.Goals as goal

pub returns-in_default : goal.returns-in_default
returns-in_default g c =
    let dialect : Dialect = g.D.Dialect.form c.args.dialect.now in
    let s : Subject = subject_of c.args.log.now c.args.boards.now c.args.agent in
    let asked : List ℕ = c.args.asked.now in
    let Before : Type 0 = IsAhead dialect s c.args.reached.now (lines_at asked c.args.from) [] (SESSION_LINES - c.args.lines) in
    let places : Places = c.loop-line.places in let at = c.loop-line.at in let lines = c.loop-line.line in
    let v = c.loop-line.invariant in
    let over = (c.first_left.ensures.none c.args.boards.now).0 c.in_default.is in
    record {
      ahead = pass_over dialect s Before places v.wide (lines_at asked at) (SESSION_LINES - lines) over v.behind;
      turns = λ entries f. (let here = v.finishes entries f in let none = finish_over dialect s places (lines_at asked at) here.0 over here.2 in let is = here.1 in omega (arith, is, none));
    }

pub returns-in_default-line_end : goal.returns-in_default-line_end
returns-in_default-line_end g c =
    let dialect : Dialect = g.D.Dialect.form c.args.dialect.now in
    let s : Subject = subject_of c.args.log.now c.args.boards.now c.args.agent in
    let asked : List ℕ = c.args.asked.now in
    let Before : Type 0 = IsAhead dialect s c.args.reached.now (lines_at asked c.args.from) [] (SESSION_LINES - c.args.lines) in
    let places : Places = c.loop-line.places in let at = c.loop-line.at in let lines = c.loop-line.line in
    let v = c.loop-line.invariant in
    let low = c.loop-line-test.true in
    let room_is : SESSION_LINES - lines ≡ suc (SESSION_LINES - (lines + 1)) = omega (arith, low) in
    let more : IsOver s places → ⊥ = λ over. (let none = (c.first_left.ensures.none c.args.boards.now).1 over in let some = c.in-Some.is in absurd cc) in
    let since = v.since in
    let lowest = c.in-Some.ensures.lowest c.args.boards.now in
    let none = no_line (lines_at asked at) (lines_end asked at c.requires.short.1 v.within c.in_default-line_end.ensures) in
    record {
      ahead = pass_ended dialect s Before places v.wide (lines_at asked at) [] (none.0, []) none.2 (SESSION_LINES - lines) (SESSION_LINES - (lines + 1)) room_is v.behind more none.0 none.1 refl;
      turns = stop_here dialect s places c.args.reached.now (lines_at asked c.args.from) (lines_at asked at) (lines - c.args.lines) c.args.lines v.courses c.in-Some.left lowest (omega (arith, low, since))
          (λ course is few h. end_course dialect s places none.0 none.1 [] [] course 0 is (subst (λ (l : List (LineGot × List ℕ)). HasCourse dialect s places l [] course) none.2 h));
    }

pub returns-in-Leaves : goal.returns-in-Leaves
returns-in-Leaves g c =
    let dialect : Dialect = g.D.Dialect.form c.args.dialect.now in
    let s : Subject = subject_of c.args.log.now c.args.boards.now c.args.agent in
    let asked : List ℕ = c.args.asked.now in
    let Before : Type 0 = IsAhead dialect s c.args.reached.now (lines_at asked c.args.from) [] (SESSION_LINES - c.args.lines) in
    let places : Places = c.loop-line.places in let at = c.loop-line.at in let lines = c.loop-line.line in
    let v = c.loop-line.invariant in
    let low = c.loop-line-test.true in
    let room_is : SESSION_LINES - lines ≡ suc (SESSION_LINES - (lines + 1)) = omega (arith, low) in
    let more : IsOver s places → ⊥ = λ over. (let none = (c.first_left.ensures.none c.args.boards.now).1 over in let some = c.in-Some.is in absurd cc) in
    let since = v.since in
    let lowest = c.in-Some.ensures.lowest c.args.boards.now in
    let end = c.in-Some-line_end.end in
    let line = slice_range asked at end in
    let lines_are : lines_at asked at ≡ ended_line line ∷ lines_at asked (end + 1) =
    lines_here asked at c.requires.short.1 v.within end c.in-Some-line_end.ensures.0 c.in-Some-line_end.ensures.1 c.in-Some-line_end.ensures.2 in
    let leaves : IsStep (IsAsked dialect false (ended_line line)) (FitsReply dialect false []) s places c.step_line.new.places Leaves =
    subst (IsStep (IsAsked dialect false (ended_line line)) (FitsReply dialect false []) s places c.step_line.new.places) c.in-Leaves.is c.in_ok-step_line.ensures in
    record {
      ahead = pass_left dialect s Before places v.wide (lines_at asked at) (lines_at asked (end + 1)) (ended_line line) lines_are (SESSION_LINES - lines) (SESSION_LINES - (lines + 1)) room_is v.behind more leaves.0;
      turns = stop_left dialect s places c.args.reached.now (lines_at asked c.args.from) (lines_at asked at) (lines - c.args.lines) c.args.lines v.courses c.in-Some.left lowest v.wide (ended_line line) (lines_at asked (end + 1)) lines_are leaves.0 (omega (arith, low, since));
    }

pub returns-in-Stuck : goal.returns-in-Stuck
returns-in-Stuck g c =
    let dialect : Dialect = g.D.Dialect.form c.args.dialect.now in
    let s : Subject = subject_of c.args.log.now c.args.boards.now c.args.agent in
    let asked : List ℕ = c.args.asked.now in
    let Before : Type 0 = IsAhead dialect s c.args.reached.now (lines_at asked c.args.from) [] (SESSION_LINES - c.args.lines) in
    let places : Places = c.loop-line.places in let at = c.loop-line.at in let lines = c.loop-line.line in
    let v = c.loop-line.invariant in
    let low = c.loop-line-test.true in
    let room_is : SESSION_LINES - lines ≡ suc (SESSION_LINES - (lines + 1)) = omega (arith, low) in
    let more : IsOver s places → ⊥ = λ over. (let none = (c.first_left.ensures.none c.args.boards.now).1 over in let some = c.in-Some.is in absurd cc) in
    let since = v.since in
    let lowest = c.in-Some.ensures.lowest c.args.boards.now in
    let end = c.in-Some-line_end.end in
    let line = slice_range asked at end in
    let lines_are : lines_at asked at ≡ ended_line line ∷ lines_at asked (end + 1) =
    lines_here asked at c.requires.short.1 v.within end c.in-Some-line_end.ensures.0 c.in-Some-line_end.ensures.1 c.in-Some-line_end.ensures.2 in
    let stuck : IsStep (IsAsked dialect false (ended_line line)) (FitsReply dialect false []) s places c.step_line.new.places Stuck =
    subst (IsStep (IsAsked dialect false (ended_line line)) (FitsReply dialect false []) s places c.step_line.new.places) c.in-Stuck.is c.in_ok-step_line.ensures in
    record {
      ahead = pass_stuck dialect s Before places v.wide (lines_at asked at) (lines_at asked (end + 1)) (ended_line line) lines_are (SESSION_LINES - lines) (SESSION_LINES - (lines + 1)) room_is v.behind more stuck;
      turns = stop_here dialect s places c.args.reached.now (lines_at asked c.args.from) (lines_at asked at) (lines - c.args.lines) c.args.lines v.courses c.in-Some.left lowest (omega (arith, low, since))
          (λ course is few h. pass_course_stuck dialect s places v.wide (ended_line line) (lines_at asked (end + 1)) stuck course 0 is
          (subst (λ (l : List (LineGot × List ℕ)). HasCourse dialect s places l [] course) lines_are h));
    }

pub loop-line-preserved : goal.loop-line-preserved
loop-line-preserved g c =
    let dialect : Dialect = g.D.Dialect.form c.args.dialect.now in
    let s : Subject = subject_of c.args.log.now c.args.boards.now c.args.agent in
    let asked : List ℕ = c.args.asked.now in
    let Before : Type 0 = IsAhead dialect s c.args.reached.now (lines_at asked c.args.from) [] (SESSION_LINES - c.args.lines) in
    let places : Places = c.loop-line.places in let at = c.loop-line.at in let lines = c.loop-line.line in
    let v = c.loop-line.invariant in
    let low = c.loop-line-test.true in
    let room_is : SESSION_LINES - lines ≡ suc (SESSION_LINES - (lines + 1)) = omega (arith, low) in
    let more : IsOver s places → ⊥ = λ over. (let none = (c.first_left.ensures.none c.args.boards.now).1 over in let some = c.in-Some.is in absurd cc) in
    let end = c.in-Some-line_end.end in
    let line = slice_range asked at end in
    let lines_are : lines_at asked at ≡ ended_line line ∷ lines_at asked (end + 1) =
    lines_here asked at c.requires.short.1 v.within end c.in-Some-line_end.ensures.0 c.in-Some-line_end.ensures.1 c.in-Some-line_end.ensures.2 in
    let taken : IsStep (IsAsked dialect false (ended_line line)) (FitsReply dialect false []) s places c.step_line.new.places Stays =
    subst (IsStep (IsAsked dialect false (ended_line line)) (FitsReply dialect false []) s places c.step_line.new.places) c.in-Stays.is c.in_ok-step_line.ensures in
    record {
      behind = passed_on dialect s Before places v.wide (lines_at asked at) (lines_at asked (end + 1)) (ended_line line) lines_are (SESSION_LINES - lines) (SESSION_LINES - (lines + 1)) room_is v.behind more c.step_line.new.places taken;
      courses = passed_course dialect s places v.wide (ended_line line) (lines_at asked (end + 1)) (lines_at asked at) lines_are c.args.reached.now (lines_at asked c.args.from)
          (lines - c.args.lines) ((lines + 1) - c.args.lines) (let since = v.since in omega (arith, since)) v.courses c.step_line.new.places taken;
      finishes = passed_finish dialect s places v.wide (ended_line line) (lines_at asked (end + 1)) (lines_at asked at) lines_are c.args.reached.now (lines_at asked c.args.from)
          c.loop-line.count c.count_if_moved-count.result c.step_line.new.places taken
          (counted_by (IsAsked dialect false (ended_line line)) (FitsReply dialect false []) s places c.step_line.new.places v.wide taken c.loop-line.count c.count_if_moved-count.result
          c.count_if_moved-count.ensures.kept c.count_if_moved-count.ensures.moved) more v.finishes;
      since = (let since = v.since in omega (arith, since));
      wide = taken_wide dialect false (ended_line line) [] s places c.step_line.new.places v.wide taken;
      within = (let inside = c.in-Some-line_end.ensures.1 in omega (arith, inside));
      few = (let few = v.few in let counted = most_one (has_entry taken.turn) c.loop-line.count c.count_if_moved-count.result (counted_by (IsAsked dialect false (ended_line line)) (FitsReply dialect false []) s places c.step_line.new.places v.wide taken c.loop-line.count c.count_if_moved-count.result
          c.count_if_moved-count.ensures.kept c.count_if_moved-count.ensures.moved) in omega (arith, few, counted));
    }

pub returns-in-None : goal.returns-in-None
returns-in-None g c =
    let dialect : Dialect = g.D.Dialect.form c.args.dialect.now in
    let s : Subject = subject_of c.args.log.now c.args.boards.now c.args.agent in
    let asked : List ℕ = c.args.asked.now in
    let Before : Type 0 = IsAhead dialect s c.args.reached.now (lines_at asked c.args.from) [] (SESSION_LINES - c.args.lines) in
    let places : Places = c.loop-line.places in let at = c.loop-line.at in let lines = c.loop-line.line in
    let v = c.loop-line.invariant in
    let over = (c.first_left-2.ensures.none c.args.boards.now).0 c.in-None.is in
    record {
      ahead = pass_over dialect s Before places v.wide (lines_at asked at) (SESSION_LINES - lines) over v.behind;
      turns = λ entries f. (let here = v.finishes entries f in let none = finish_over dialect s places (lines_at asked at) here.0 over here.2 in let is = here.1 in omega (arith, is, none));
    }

pub returns-in-Some-first_left : goal.returns-in-Some-first_left
returns-in-Some-first_left g c =
    let dialect : Dialect = g.D.Dialect.form c.args.dialect.now in
    let s : Subject = subject_of c.args.log.now c.args.boards.now c.args.agent in
    let asked : List ℕ = c.args.asked.now in
    let Before : Type 0 = IsAhead dialect s c.args.reached.now (lines_at asked c.args.from) [] (SESSION_LINES - c.args.lines) in
    let places : Places = c.loop-line.places in let at = c.loop-line.at in let lines = c.loop-line.line in
    let v = c.loop-line.invariant in
    let past = c.loop-line-test.false in let most = c.loop-line.auto.line-end in
    let since = v.since in
    let lowest = c.in-Some-first_left.ensures.lowest c.args.boards.now in
    record {
      ahead = λ before. (let over = pass_full dialect s Before places v.wide (lines_at asked at) (SESSION_LINES - lines) (omega (arith, past)) v.behind before in
          let none = (c.first_left-2.ensures.none c.args.boards.now).1 over in let some = c.in-Some-first_left.is in absurd cc);
      turns = stop_here dialect s places c.args.reached.now (lines_at asked c.args.from) (lines_at asked at) (lines - c.args.lines) c.args.lines v.courses c.in-Some-first_left.left lowest
          (omega (arith, most, since)) (λ course is few h. omega (arith, few, past, since));
    }

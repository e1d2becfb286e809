use Rattle.std.proofs.Common.{◌≡◌, ◌+◌, ◌-◌, ℕ, suc, List, [], ◌∷◌, true, length, refl, sym, ap, ◌∙◌, subst, arith, slice_range}
use Rattle.link_audit.specs.{SESSION_LINES, ended_line, LineGot, Dialect, Subject, IsAsked, FitsReply, IsAhead, IsOver, IsStep, start, subject_of, FinishesLog, HasCourse, behind_course, HasHeard, HasLeft, IsAheadAt, IsBehind, EndsByLeaving, lines_at, replies_at}
use Rattle.link_audit.specs.declared.places.Places.{Places}
use Rattle.link_audit.specs.declared.stepping.Step.TheVariants.{Stays, Leaves, Stuck}
use Rattle.link_audit.specs.declared.hearing.Heard.TheVariants.{Through}
use Rattle.link_audit.proofs.Cuts.{lines_here, lines_end, no_line, replies_here, replies_end}
use Rattle.link_audit.proofs.Walked.{walked_on, walk_stuck, walk_left, left_walk, walk_ended, walk_full, more_replies, left_heard, taken_wide}
use Rattle.link_audit.proofs.Courses.{course_stuck, end_course, heard_on}
use Rattle.link_audit.proofs.CourseWalks.{first_line_here, full_line, heard_course, left_course, rest_on}
use Rattle.link_audit.proofs.hearing.hear.Goals as goal

pub returns-in_default : goal.returns-in_default
returns-in_default g c =
    let dialect : Dialect = g.D.Dialect.form c.args.dialect.now in
    let s : Subject = subject_of c.args.log.now c.args.boards.now c.args.agent in
    let asked : List ℕ = c.args.asked.now in let said : List ℕ = c.args.said.now in
    let Before : Type 0 = IsAheadAt dialect s asked c.args.from (replies_at said c.args.told) SESSION_LINES in
    let places : Places = c.loop-lines.places in let at = c.loop-lines.at in let place = c.loop-lines.place in let lines = c.loop-lines.lines in
    let v = c.loop-lines.invariant in
    let all = lines_at asked c.args.from in let replies = replies_at said c.args.told in
    let none = replies_end said place c.in_default.ensures in
    record {
      ahead = (
        subst (λ (l : List (List ℕ)). IsBehind Before (IsAhead dialect s places (lines_at asked at) l (SESSION_LINES - lines))) none v.behind,
        v.wide,
        v.within,
        (let low = c.loop-lines-test.true in omega (arith, low)),
      );
      turns = (
        (λ course. subst (λ (l : List (List ℕ)). IsBehind (HasCourse dialect s start all replies (behind_course lines course)) (HasCourse dialect s places (lines_at asked at) l course)) none (v.courses course)),
        (λ entries f. subst (λ (l : List (List ℕ)). FinishesLog dialect s places (lines_at asked at) l entries) none (v.finishes entries f)),
        v.rest,
        (let told = v.told_so in let long = ap length none in omega (arith, told, long)),
      );
    }

pub returns-in_default-line_end : goal.returns-in_default-line_end
returns-in_default-line_end g c =
    let dialect : Dialect = g.D.Dialect.form c.args.dialect.now in
    let s : Subject = subject_of c.args.log.now c.args.boards.now c.args.agent in
    let asked : List ℕ = c.args.asked.now in let said : List ℕ = c.args.said.now in
    let Before : Type 0 = IsAheadAt dialect s asked c.args.from (replies_at said c.args.told) SESSION_LINES in
    let places : Places = c.loop-lines.places in let at = c.loop-lines.at in let place = c.loop-lines.place in let lines = c.loop-lines.lines in
    let v = c.loop-lines.invariant in
    let all = lines_at asked c.args.from in let replies = replies_at said c.args.told in
    let reply_end = c.in-Some.reply_end in
    let reply = slice_range said place reply_end in
    let replies_are : replies_at said place ≡ reply ∷ replies_at said (reply_end + 1) = replies_here said place reply_end c.in-Some.ensures.2 in
    let low = c.loop-lines-test.true in
    let room_is : SESSION_LINES - lines ≡ suc (SESSION_LINES - (lines + 1)) = omega (arith, low) in
    let none = no_line (lines_at asked at) (lines_end asked at c.requires.short.1 v.within c.in_default-line_end.ensures) in
    record {
      ahead = walk_ended dialect s Before places v.wide (lines_at asked at) [] (none.0, []) none.2 (SESSION_LINES - lines) (SESSION_LINES - (lines + 1)) room_is
          (replies_at said place) (replies_at said (reply_end + 1)) reply replies_are v.behind none.0 none.1 refl;
      turns = first_line_here dialect s places all replies lines (lines_at asked at) reply (replies_at said (reply_end + 1)) (replies_at said place) v.courses replies_are v.told_so low
          (λ course is h. end_course dialect s places none.0 none.1 [] (replies_at said place) course 0 is (subst (λ (l : List (LineGot × List ℕ)). HasCourse dialect s places l (replies_at said place) course) none.2 h));
    }

pub returns-in-Leaves : goal.returns-in-Leaves
returns-in-Leaves g c =
    let dialect : Dialect = g.D.Dialect.form c.args.dialect.now in
    let s : Subject = subject_of c.args.log.now c.args.boards.now c.args.agent in
    let asked : List ℕ = c.args.asked.now in let said : List ℕ = c.args.said.now in
    let Before : Type 0 = IsAheadAt dialect s asked c.args.from (replies_at said c.args.told) SESSION_LINES in
    let places : Places = c.loop-lines.places in let at = c.loop-lines.at in let place = c.loop-lines.place in let lines = c.loop-lines.lines in
    let v = c.loop-lines.invariant in
    let replies = replies_at said c.args.told in
    let reply_end = c.in-Some.reply_end in
    let reply = slice_range said place reply_end in
    let replies_are : replies_at said place ≡ reply ∷ replies_at said (reply_end + 1) = replies_here said place reply_end c.in-Some.ensures.2 in
    let low = c.loop-lines-test.true in
    let room_is : SESSION_LINES - lines ≡ suc (SESSION_LINES - (lines + 1)) = omega (arith, low) in
    let end = c.in-Some-line_end.end in
    let line = slice_range asked at end in
    let lines_are : lines_at asked at ≡ ended_line line ∷ lines_at asked (end + 1) =
    lines_here asked at c.requires.short.1 v.within end c.in-Some-line_end.ensures.0 c.in-Some-line_end.ensures.1 c.in-Some-line_end.ensures.2 in
    let leaves : IsStep (IsAsked dialect true (ended_line line)) (FitsReply dialect true reply) s places c.step_line.new.places Leaves =
    subst (IsStep (IsAsked dialect true (ended_line line)) (FitsReply dialect true reply) s places c.step_line.new.places) c.in-Leaves.is c.in_ok-step_line.ensures in
    let more = more_replies said (reply_end + 1) c.line_end-in-Leaves.result c.line_end-in-Leaves.ensures in
    let over = subst (λ (p : Places). EndsByLeaving (IsOver s p) c.is_some-more.result c.leave.result) leaves.1 (c.leave.ensures.left c.args.boards.now) in
    let left = subst (λ (p : Places). HasLeft s p lines c.is_some-more.result c.leave.result) leaves.1 (c.leave.ensures.how c.args.boards.now) in
    record {
      ahead = left_heard dialect s asked c.args.from replies (replies_at said (reply_end + 1)) (IsOver s places) c.is_some-more.result c.leave.result over
          (λ no. more.0 (sym c.is_some-more.ensures ∙ no)) (λ none. c.is_some-more.ensures ∙ more.1 none)
          (walk_left dialect s Before places v.wide (lines_at asked at) (lines_at asked (end + 1)) (ended_line line) lines_are (SESSION_LINES - lines) (SESSION_LINES - (lines + 1)) room_is (replies_at said place) (replies_at said (reply_end + 1)) reply replies_are v.behind leaves.0)
          (left_walk dialect s Before places v.wide (lines_at asked at) (lines_at asked (end + 1)) (ended_line line) lines_are (SESSION_LINES - lines) (SESSION_LINES - (lines + 1)) room_is (replies_at said place) (replies_at said (reply_end + 1)) reply replies_are v.behind leaves.0);
      turns = left_course dialect s places v.wide asked c.args.from replies lines (ended_line line) (lines_at asked (end + 1)) (lines_at asked at) lines_are reply (replies_at said (reply_end + 1)) (replies_at said place) replies_are
          v.courses v.finishes v.told_so low leaves.0 c.is_some-more.result (λ no. more.0 (sym c.is_some-more.ensures ∙ no)) (λ none. c.is_some-more.ensures ∙ more.1 none) c.leave.result left;
    }

pub returns-in-Stuck : goal.returns-in-Stuck
returns-in-Stuck g c =
    let dialect : Dialect = g.D.Dialect.form c.args.dialect.now in
    let s : Subject = subject_of c.args.log.now c.args.boards.now c.args.agent in
    let asked : List ℕ = c.args.asked.now in let said : List ℕ = c.args.said.now in
    let Before : Type 0 = IsAheadAt dialect s asked c.args.from (replies_at said c.args.told) SESSION_LINES in
    let places : Places = c.loop-lines.places in let at = c.loop-lines.at in let place = c.loop-lines.place in let lines = c.loop-lines.lines in
    let v = c.loop-lines.invariant in
    let all = lines_at asked c.args.from in let replies = replies_at said c.args.told in
    let reply_end = c.in-Some.reply_end in
    let reply = slice_range said place reply_end in
    let replies_are : replies_at said place ≡ reply ∷ replies_at said (reply_end + 1) = replies_here said place reply_end c.in-Some.ensures.2 in
    let low = c.loop-lines-test.true in
    let room_is : SESSION_LINES - lines ≡ suc (SESSION_LINES - (lines + 1)) = omega (arith, low) in
    let end = c.in-Some-line_end.end in
    let line = slice_range asked at end in
    let lines_are : lines_at asked at ≡ ended_line line ∷ lines_at asked (end + 1) =
    lines_here asked at c.requires.short.1 v.within end c.in-Some-line_end.ensures.0 c.in-Some-line_end.ensures.1 c.in-Some-line_end.ensures.2 in
    let stuck : IsStep (IsAsked dialect true (ended_line line)) (FitsReply dialect true reply) s places c.step_line.new.places Stuck =
    subst (IsStep (IsAsked dialect true (ended_line line)) (FitsReply dialect true reply) s places c.step_line.new.places) c.in-Stuck.is c.in_ok-step_line.ensures in
    record {
      ahead = walk_stuck dialect s Before places v.wide (lines_at asked at) (lines_at asked (end + 1)) (ended_line line) lines_are (SESSION_LINES - lines) (SESSION_LINES - (lines + 1)) room_is (replies_at said place) (replies_at said (reply_end + 1)) reply replies_are v.behind stuck;
      turns = first_line_here dialect s places all replies lines (lines_at asked at) reply (replies_at said (reply_end + 1)) (replies_at said place) v.courses replies_are v.told_so low
          (λ course is h. course_stuck dialect s places v.wide (ended_line line) (lines_at asked (end + 1)) reply (replies_at said (reply_end + 1)) stuck course 0 is
          (subst (λ (w : List (LineGot × List ℕ) × List (List ℕ)). HasCourse dialect s places w.0 w.1 course) (λ i. (lines_are i, replies_are i)) h));
    }

pub loop-lines-preserved : goal.loop-lines-preserved
loop-lines-preserved g c =
    let dialect : Dialect = g.D.Dialect.form c.args.dialect.now in
    let s : Subject = subject_of c.args.log.now c.args.boards.now c.args.agent in
    let asked : List ℕ = c.args.asked.now in let said : List ℕ = c.args.said.now in
    let Before : Type 0 = IsAheadAt dialect s asked c.args.from (replies_at said c.args.told) SESSION_LINES in
    let places : Places = c.loop-lines.places in let at = c.loop-lines.at in let place = c.loop-lines.place in let lines = c.loop-lines.lines in
    let v = c.loop-lines.invariant in
    let reply_end = c.in-Some.reply_end in
    let reply = slice_range said place reply_end in
    let replies_are : replies_at said place ≡ reply ∷ replies_at said (reply_end + 1) = replies_here said place reply_end c.in-Some.ensures.2 in
    let low = c.loop-lines-test.true in
    let room_is : SESSION_LINES - lines ≡ suc (SESSION_LINES - (lines + 1)) = omega (arith, low) in
    let end = c.in-Some-line_end.end in
    let line = slice_range asked at end in
    let lines_are : lines_at asked at ≡ ended_line line ∷ lines_at asked (end + 1) =
    lines_here asked at c.requires.short.1 v.within end c.in-Some-line_end.ensures.0 c.in-Some-line_end.ensures.1 c.in-Some-line_end.ensures.2 in
    let taken : IsStep (IsAsked dialect true (ended_line line)) (FitsReply dialect true reply) s places c.step_line.new.places Stays =
    subst (IsStep (IsAsked dialect true (ended_line line)) (FitsReply dialect true reply) s places c.step_line.new.places) c.in-Stays.is c.in_ok-step_line.ensures in
    record {
      behind = walked_on dialect s Before places v.wide (lines_at asked at) (lines_at asked (end + 1)) (ended_line line) lines_are (SESSION_LINES - lines) (SESSION_LINES - (lines + 1)) room_is (replies_at said place) (replies_at said (reply_end + 1)) reply replies_are v.behind c.step_line.new.places taken;
      courses = λ course. heard_course dialect s places v.wide (ended_line line) (lines_at asked (end + 1)) (lines_at asked at) lines_are reply (replies_at said (reply_end + 1)) (replies_at said place) replies_are
          (lines_at asked c.args.from) (replies_at said c.args.told) lines v.courses c.step_line.new.places taken course;
      finishes = λ entries f. heard_on dialect s places v.wide (ended_line line) (lines_at asked (end + 1)) reply (replies_at said (reply_end + 1)) c.step_line.new.places taken entries
          (subst (λ (w : List (LineGot × List ℕ) × List (List ℕ)). FinishesLog dialect s places w.0 w.1 entries) (λ i. (lines_are i, replies_are i)) (v.finishes entries f));
      rest = rest_on (lines_at asked c.args.from) (lines_at asked at) (lines_at asked (end + 1)) (ended_line line) lines v.rest lines_are;
      told_so = (let told = v.told_so in let long = ap length replies_are in omega (arith, told, long));
      wide = taken_wide dialect true (ended_line line) reply s places c.step_line.new.places v.wide taken;
      within = (let inside = c.in-Some-line_end.ensures.1 in omega (arith, inside));
      told_within = (let inside = c.in-Some.ensures.1 in omega (arith, inside));
    }

pub returns-in-None : goal.returns-in-None
returns-in-None g c =
    let dialect : Dialect = g.D.Dialect.form c.args.dialect.now in
    let s : Subject = subject_of c.args.log.now c.args.boards.now c.args.agent in
    let asked : List ℕ = c.args.asked.now in let said : List ℕ = c.args.said.now in
    let Before : Type 0 = IsAheadAt dialect s asked c.args.from (replies_at said c.args.told) SESSION_LINES in
    let places : Places = c.loop-lines.places in let at = c.loop-lines.at in let place = c.loop-lines.place in let lines = c.loop-lines.lines in
    let v = c.loop-lines.invariant in
    let all = lines_at asked c.args.from in let replies = replies_at said c.args.told in
    let none = replies_end said place c.in-None.ensures in
    let most : lines ≡ SESSION_LINES = (let past = c.loop-lines-test.false in let most = c.loop-lines.auto.lines-end in omega (arith, past, most)) in
    record {
      ahead = (
        subst (λ (n : ℕ). IsBehind Before (IsAhead dialect s places (lines_at asked at) [] (SESSION_LINES - n))) most
            (subst (λ (l : List (List ℕ)). IsBehind Before (IsAhead dialect s places (lines_at asked at) l (SESSION_LINES - lines))) none v.behind),
        v.wide,
        v.within,
        omega arith,
      );
      turns = subst (λ (n : ℕ). HasHeard dialect s asked c.args.from replies (Through places at n)) most (
        (λ course. subst (λ (l : List (List ℕ)). IsBehind (HasCourse dialect s start all replies (behind_course lines course)) (HasCourse dialect s places (lines_at asked at) l course)) none (v.courses course)),
        (λ entries f. subst (λ (l : List (List ℕ)). FinishesLog dialect s places (lines_at asked at) l entries) none (v.finishes entries f)),
        v.rest,
        (let told = v.told_so in let long = ap length none in omega (arith, told, long)),
      );
    }

pub returns-in-Some-line_end-2 : goal.returns-in-Some-line_end-2
returns-in-Some-line_end-2 g c =
    let dialect : Dialect = g.D.Dialect.form c.args.dialect.now in
    let s : Subject = subject_of c.args.log.now c.args.boards.now c.args.agent in
    let asked : List ℕ = c.args.asked.now in let said : List ℕ = c.args.said.now in
    let Before : Type 0 = IsAheadAt dialect s asked c.args.from (replies_at said c.args.told) SESSION_LINES in
    let places : Places = c.loop-lines.places in let at = c.loop-lines.at in let place = c.loop-lines.place in let lines = c.loop-lines.lines in
    let v = c.loop-lines.invariant in
    let all = lines_at asked c.args.from in let replies = replies_at said c.args.told in
    let reply_end = c.in-Some-line_end-2.field-0 in
    let reply = slice_range said place reply_end in
    let replies_are : replies_at said place ≡ reply ∷ replies_at said (reply_end + 1) = replies_here said place reply_end c.in-Some-line_end-2.ensures.2 in
    let past = c.loop-lines-test.false in
    let most : lines ≡ SESSION_LINES = (let most = c.loop-lines.auto.lines-end in omega (arith, past, most)) in
    record {
      ahead = walk_full dialect s Before places v.wide (lines_at asked at) (replies_at said place) (replies_at said (reply_end + 1)) reply (SESSION_LINES - lines) replies_are (omega (arith, past)) v.behind;
      turns = full_line dialect s places all replies lines (lines_at asked at) reply (replies_at said (reply_end + 1)) (replies_at said place) v.courses replies_are v.told_so most;
    }

-- A walk under way, by the turns of the lines from the start on.
use Rattle.std.proofs.Common.{◌≡◌, ℕ, suc, ◌+◌, ◌<◌, ◌≤◌, List, [], ◌∷◌, Bool, true, false, cond, length, drop, refl, sym, ap, ◌∙◌, subst, arith, drop-drop}
use Rattle.link_audit.specs.{SESSION_LINES, Dialect, Subject, FitsReply, IsAsked, IsLeaving, IsOver, IsTaken, IsWide, start, Course, FinishesLog, HasCourse, HaveTurns, IsDifferent, IsFirstLine, IsKept, IsLowestLeft, IsStop, behind_course, has_entry, DiffersAfter, HasHeard, HasLeft, IsBehind, lines_at}
use Rattle.link_audit.specs.declared.places.Places.{Places}
use Rattle.link_audit.specs.declared.hearing.Heard.{Heard}
use Rattle.link_audit.specs.declared.hearing.Heard.TheVariants.{Through, Gone, Not}
use Rattle.link_audit.specs.declared.vouching.Difference.{Difference}
use Rattle.link_audit.specs.declared.vouching.Difference.TheVariants as differences
use Rattle.link_audit.proofs.Leading.{TheLine}
use Rattle.link_audit.proofs.Courses.{course_back, course_on, finish_on, kept_by, leaves_last, leaves_left, leaves_none, leaving_course, moved_by, no_course, pass_back, pass_leaving, pass_on, passes_last}

-- the same course, counted otherwise
pub recounted : (dialect : Dialect) (s : Subject) (from : Places) (lines : List TheLine) (replies : List (List ℕ)) (course : Course) (turns : ℕ) → course.turns ≡ turns
    → HasCourse dialect s from lines replies course → HasCourse dialect s from lines replies (record { turns = turns; left = course.left; to = course.to })
recounted dialect s from lines replies course turns is c =
    record { turns = c.turns; answered = c.answered; allowed = c.allowed; next = c.next; count = c.count ∙ is; left = c.left; to = c.to }

-- the lines behind a line
pub rest_on : (all lines lines' : List TheLine) (line : TheLine) (n : ℕ) → drop n all ≡ lines → lines ≡ line ∷ lines' → drop (n + 1) all ≡ lines'
rest_on all lines lines' line n is lines_are = sym (drop-drop 1 n all) ∙ ap (drop 1) (is ∙ lines_are)

-- ---- lines with replies

module _ (dialect : Dialect) (s : Subject) (places : Places) (wide : IsWide places) (line : TheLine) (lines' lines : List TheLine) (lines_are : lines ≡ line ∷ lines')
    (reply : List ℕ) (replies' replies : List (List ℕ)) (replies_are : replies ≡ reply ∷ replies') (all : List TheLine) (told : List (List ℕ)) (n : ℕ)
    (courses : (course : Course) → IsBehind (HasCourse dialect s start all told (behind_course n course)) (HasCourse dialect s places lines replies course)) where
  pub heard_course : (to : Places) → IsTaken (IsAsked dialect true line) (FitsReply dialect true reply) s places to
      → (course : Course) → IsBehind (HasCourse dialect s start all told (behind_course (n + 1) course)) (HasCourse dialect s to lines' replies' course)
  heard_course to t course =
      let more : Course = record { turns = suc course.turns; left = course.left; to = course.to } in
      let b = courses more in record {
        there = λ h. course_on dialect s places wide line lines' reply replies' to t course.turns course.left course.to
            (subst (λ (w : List TheLine × List (List ℕ)). HasCourse dialect s places w.0 w.1 more) (λ i. (lines_are i, replies_are i))
            (b.there (recounted dialect s start all told (behind_course (n + 1) course) (n + suc course.turns) (omega arith) h)));
        back = λ h. recounted dialect s start all told (behind_course n more) ((n + 1) + course.turns) (omega arith)
            (b.back (subst (λ (w : List TheLine × List (List ℕ)). HasCourse dialect s places w.0 w.1 more) (λ i. (sym lines_are i, sym replies_are i))
            (course_back dialect s places wide line lines' reply replies' to t course.turns course.left course.to h)));
      }

module _ (dialect : Dialect) (s : Subject) (places : Places) (all : List TheLine) (told : List (List ℕ)) (n : ℕ) (lines : List TheLine) (replies : List (List ℕ))
    (courses : (course : Course) → IsBehind (HasCourse dialect s start all told (behind_course n course)) (HasCourse dialect s places lines replies course)) where
  -- so many lines have turns, and some more
  pub turns_here : (left : Bool) (to : Places) (k m : ℕ) → n + k ≡ m → m ≤ SESSION_LINES → HasCourse dialect s places lines replies (record { turns = k; left = left; to = to })
      → HaveTurns dialect s all told m
  turns_here left to k m is few h = record { course = behind_course n (record { turns = k; left = left; to = to }); has = (courses (record { turns = k; left = left; to = to })).back h; count_is = is; few = few }

  pub turns_behind : (k m : ℕ) → n + k ≡ m → (h : HaveTurns dialect s all told m) → HasCourse dialect s places lines replies (record { turns = k; left = h.course.left; to = h.course.to })
  turns_behind k m is h = (courses (record { turns = k; left = h.course.left; to = h.course.to })).there
      (recounted dialect s start all told h.course (n + k) (h.count_is ∙ sym is) h.has)

pub first_line_here : (dialect : Dialect) (s : Subject) (places : Places) (all : List TheLine) (told : List (List ℕ)) (n : ℕ) (lines : List TheLine) (reply : List ℕ) (replies' replies : List (List ℕ))
    → ((course : Course) → IsBehind (HasCourse dialect s start all told (behind_course n course)) (HasCourse dialect s places lines replies course))
    → replies ≡ reply ∷ replies' → length told ≡ n + length replies → n < SESSION_LINES
    → ((course : Course) → course.turns ≡ suc 0 → HasCourse dialect s places lines replies course → ⊥) → IsFirstLine dialect s all told (n + 1)
first_line_here dialect s places all told n lines reply replies' replies courses replies_are told_so low none = record {
  before = n;
  line_is = refl;
  replied = (let long = ap length replies_are in omega (arith, told_so, long));
  others = turns_here dialect s places all told n lines replies courses false places 0 n (omega arith) (omega (arith, low)) (no_course dialect s places lines replies);
  none = λ h. none (record { turns = 1; left = h.course.left; to = h.course.to }) refl (turns_behind dialect s places all told n lines replies courses 1 (n + 1) refl h);
}

pub full_line : (dialect : Dialect) (s : Subject) (places : Places) (all : List TheLine) (told : List (List ℕ)) (n : ℕ) (lines : List TheLine) (reply : List ℕ) (replies' replies : List (List ℕ))
    → ((course : Course) → IsBehind (HasCourse dialect s start all told (behind_course n course)) (HasCourse dialect s places lines replies course))
    → replies ≡ reply ∷ replies' → length told ≡ n + length replies → n ≡ SESSION_LINES → IsFirstLine dialect s all told (SESSION_LINES + 1)
full_line dialect s places all told n lines reply replies' replies courses replies_are told_so most = record {
  before = SESSION_LINES;
  line_is = refl;
  replied = (let long = ap length replies_are in omega (arith, told_so, long, most));
  others = turns_here dialect s places all told n lines replies courses false places 0 SESSION_LINES (omega (arith, most)) (omega arith) (no_course dialect s places lines replies);
  none = λ h. (let few = h.few in omega (arith, few));
}

-- the agent left
module _ (dialect : Dialect) (s : Subject) (places : Places) (wide : IsWide places) (asked : List ℕ) (from : ℕ) (told : List (List ℕ)) (n : ℕ) (line : TheLine) (lines' lines : List TheLine)
    (lines_are : lines ≡ line ∷ lines') (reply : List ℕ) (replies' replies : List (List ℕ)) (replies_are : replies ≡ reply ∷ replies')
    (courses : (course : Course) → IsBehind (HasCourse dialect s start (lines_at asked from) told (behind_course n course)) (HasCourse dialect s places lines replies course))
    (finishes : (entries : ℕ) → FinishesLog dialect s start (lines_at asked from) told entries → FinishesLog dialect s places lines replies entries)
    (told_so : length told ≡ n + length replies) (low : n < SESSION_LINES) (t : IsLeaving (IsAsked dialect true line) (FitsReply dialect true reply) s places) where
  left_here : HasCourse dialect s places lines replies (record { turns = 1; left = true; to = places })
  left_here = subst (λ (w : List TheLine × List (List ℕ)). HasCourse dialect s places w.0 w.1 (record { turns = 1; left = true; to = places })) (λ i. (sym lines_are i, sym replies_are i))
      (leaving_course dialect s places wide line lines' reply replies' t)

  left_turns : HaveTurns dialect s (lines_at asked from) told (n + 1)
  left_turns = turns_here dialect s places (lines_at asked from) told n lines replies courses true places 1 (n + 1) refl (omega (arith, low)) left_here

  no_more : HaveTurns dialect s (lines_at asked from) told (n + 2) → ⊥
  no_more h = leaves_last dialect s places wide line lines' reply replies' t (record { turns = 2; left = h.course.left; to = h.course.to }) 0 refl
      (subst (λ (w : List TheLine × List (List ℕ)). HasCourse dialect s places w.0 w.1 (record { turns = 2; left = h.course.left; to = h.course.to })) (λ i. (lines_are i, replies_are i))
      (turns_behind dialect s places (lines_at asked from) told n lines replies courses 2 (n + 2) refl h))

  left_over : (difference : Difference) → replies' ≡ [] → IsLowestLeft s places difference → IsDifferent dialect s (lines_at asked from) told difference
  unfolding left_turns turns_here
  left_over differences.Seat none lowest = absurd lowest
  left_over differences.Welcome none lowest = absurd lowest
  left_over differences.Cause none lowest = absurd lowest
  left_over (differences.Line line') none lowest = absurd lowest
  left_over (differences.Entry good position) none lowest = record {
    count = n + 1;
    replied = (let long = ap length replies_are in let end = ap length none in omega (arith, told_so, long, end));
    turns = left_turns;
    none = λ h. no_more (subst (HaveTurns dialect s (lines_at asked from) told) (let next : (n + 1) + 1 ≡ n + 2 = omega arith in next) h);
    lowest = lowest;
  }
  left_over (differences.Cash position) none lowest = record {
    count = n + 1;
    replied = (let long = ap length replies_are in let end = ap length none in omega (arith, told_so, long, end));
    turns = left_turns;
    none = λ h. no_more (subst (HaveTurns dialect s (lines_at asked from) told) (let next : (n + 1) + 1 ≡ n + 2 = omega arith in next) h);
    lowest = lowest;
  }

  line_more : (rs : List (List ℕ)) → replies' ≡ rs → (rs ≡ [] → ⊥) → IsFirstLine dialect s (lines_at asked from) told (n + 2)
  line_more [] is some = absurd (some refl)
  line_more (r ∷ rs) is some = record {
    before = n + 1;
    line_is = omega arith;
    replied = (let long = ap length replies_are in let more = ap length is in omega (arith, told_so, long, more));
    others = left_turns;
    none = no_more;
  }

  pub left_course : (more : Bool) → (more ≡ false → replies' ≡ []) → (replies' ≡ [] → more ≡ false) → (result : Heard) → HasLeft s places n more result
      → HasHeard dialect s asked from told result
  left_course more none some (Through to at count) is = absurd is
  left_course more none some (Gone count) is = (
    (
      places,
      recounted dialect s start (lines_at asked from) told (behind_course n (record { turns = 1; left = true; to = places })) count (sym is.0)
          ((courses (record { turns = 1; left = true; to = places })).back left_here),
      is.2,
    ),
    (λ entries f. leaves_none dialect s places wide line lines' reply replies' t entries
        (subst (λ (w : List TheLine × List (List ℕ)). FinishesLog dialect s places w.0 w.1 entries) (λ i. (lines_are i, replies_are i)) (finishes entries f))),
    (let long = ap length replies_are in let end = ap length (none is.1) in let count_is = is.0 in omega (arith, told_so, long, end, count_is)),
    (λ course all h. (let found : course.turns ≡ n + 1 = all ∙ is.0 in
        let turns : HaveTurns dialect s (lines_at asked from) told (n + 1) = record { course = course; has = h; count_is = found; few = omega (arith, low) } in
        leaves_left dialect s places wide line lines' reply replies' t (record { turns = 1; left = course.left; to = course.to }) refl
        (subst (λ (w : List TheLine × List (List ℕ)). HasCourse dialect s places w.0 w.1 (record { turns = 1; left = course.left; to = course.to })) (λ i. (lines_are i, replies_are i))
        (turns_behind dialect s places (lines_at asked from) told n lines replies courses 1 (n + 1) refl turns)))),
  )
  left_course more none some (Not difference) is = by_more more is none some
    where
      by_more : (b : Bool) → DiffersAfter s places n difference b → (b ≡ false → replies' ≡ []) → (replies' ≡ [] → b ≡ false) → IsDifferent dialect s (lines_at asked from) told difference
      by_more true is' none' some' = subst (IsDifferent dialect s (lines_at asked from) told) (sym is') (line_more replies' refl (λ end. (let both = some' end in absurd cc)))
      by_more false is' none' some' = left_over difference (none' refl) is'

-- ---- lines without replies

-- a count is one more if the turn of a line left an entry
pub counted_by : (Asked : _) (Fits : _) (s : Subject) (from to : Places) (wide : IsWide from) (t : IsTaken Asked Fits s from to) (count result : ℕ) → (IsKept from to → result ≡ count) → ((IsKept from to → ⊥) → result ≡ count + 1)
    → result ≡ count + cond (has_entry t.turn) 1 0
counted_by Asked Fits s from to wide t count result kept moved = by_entry (has_entry t.turn) refl
  where
    by_entry : (b : Bool) → has_entry t.turn ≡ b → result ≡ count + cond b 1 0
    by_entry true is = moved (λ k. moved_by from t.turn wide t.possible.allowed is (subst (IsKept from) t.to_is k))
    by_entry false is = (let same = kept (subst (IsKept from) (sym t.to_is) (kept_by from t.turn is)) in omega (arith, same))

pub most_one : (b : Bool) (count result : ℕ) → result ≡ count + cond b 1 0 → result ≤ count + 1
most_one true count result is = omega (arith, is)
most_one false count result is = omega (arith, is)

module _ (dialect : Dialect) (s : Subject) (places : Places) (wide : IsWide places) (line : TheLine) (lines' lines : List TheLine) (lines_are : lines ≡ line ∷ lines') (reached : Places) (all : List TheLine) where
  pub passed_course : (n n' : ℕ) → n' ≡ n + 1 → ((course : Course) → IsBehind (HasCourse dialect s reached all [] (behind_course n course)) (HasCourse dialect s places lines [] course))
      → (to : Places) → IsTaken (IsAsked dialect false line) (FitsReply dialect false []) s places to
      → (course : Course) → IsBehind (HasCourse dialect s reached all [] (behind_course n' course)) (HasCourse dialect s to lines' [] course)
  passed_course n n' next courses to t course =
      let more : Course = record { turns = suc course.turns; left = course.left; to = course.to } in
      let b = courses more in record {
        there = λ h. pass_on dialect s places wide line lines' to t course.turns course.left course.to
            (subst (λ (l : List TheLine). HasCourse dialect s places l [] more) lines_are
            (b.there (recounted dialect s reached all [] (behind_course n' course) (n + suc course.turns) (omega (arith, next)) h)));
        back = λ h. recounted dialect s reached all [] (behind_course n more) (n' + course.turns) (omega (arith, next))
            (b.back (subst (λ (l : List TheLine). HasCourse dialect s places l [] more) (sym lines_are)
            (pass_back dialect s places wide line lines' to t course.turns course.left course.to h)));
      }

  pub passed_finish : (count count' : ℕ) → (to : Places) (t : IsTaken (IsAsked dialect false line) (FitsReply dialect false []) s places to) → count' ≡ count + cond (has_entry t.turn) 1 0
      → (IsOver s places → ⊥)
      → ((entries : ℕ) → FinishesLog dialect s reached all [] entries → (k : ℕ) × (entries ≡ count + k) × FinishesLog dialect s places lines [] k)
      → (entries : ℕ) → FinishesLog dialect s reached all [] entries → (k : ℕ) × (entries ≡ count' + k) × FinishesLog dialect s to lines' [] k
  passed_finish count count' to t counted more finishes entries f =
      let here = finishes entries f in
      let on = finish_on dialect s places wide line lines' to t more here.0 (subst (λ (l : List TheLine). FinishesLog dialect s places l [] here.0) lines_are here.2) in
      (on.0, (let a = here.1 in let b = on.1 in omega (arith, a, b, counted)), on.2)

module _ (dialect : Dialect) (s : Subject) (places reached : Places) (all lines : List TheLine) (n used : ℕ)
    (courses : (course : Course) → IsBehind (HasCourse dialect s reached all [] (behind_course n course)) (HasCourse dialect s places lines [] course)) (left : Difference) (lowest : IsLowestLeft s places left) where
  -- no further line has a turn
  pub stop_here : used + n ≤ SESSION_LINES → ((course : Course) → course.turns ≡ suc 0 → used + (n + 1) ≤ SESSION_LINES → HasCourse dialect s places lines [] course → ⊥) → IsStop dialect s reached all used left
  stop_here few none = record {
    course = behind_course n (record { turns = 0; left = false; to = places });
    has = (courses (record { turns = 0; left = false; to = places })).back (no_course dialect s places lines []);
    few = omega (arith, few);
    none = λ more is few' h. none (record { turns = 1; left = more.left; to = more.to }) refl (omega (arith, few', is))
        ((courses (record { turns = 1; left = more.left; to = more.to })).there (recounted dialect s reached all [] more (n + 1) (omega (arith, is)) h));
    lowest = lowest;
  }

  -- the agent leaves by the next line
  pub stop_left : (wide : IsWide places) (line : TheLine) (lines' : List TheLine) → lines ≡ line ∷ lines' → IsLeaving (IsAsked dialect false line) (FitsReply dialect false []) s places
      → used + n < SESSION_LINES → IsStop dialect s reached all used left
  stop_left wide line lines' lines_are t few = record {
    course = behind_course n (record { turns = 1; left = true; to = places });
    has = (courses (record { turns = 1; left = true; to = places })).back
        (subst (λ (l : List TheLine). HasCourse dialect s places l [] (record { turns = 1; left = true; to = places })) (sym lines_are) (pass_leaving dialect s places wide line lines' t));
    few = omega (arith, few);
    none = λ more is few' h. passes_last dialect s places wide line lines' t (record { turns = 2; left = more.left; to = more.to }) 0 refl
        (subst (λ (l : List TheLine). HasCourse dialect s places l [] (record { turns = 2; left = more.left; to = more.to })) lines_are
        ((courses (record { turns = 2; left = more.left; to = more.to })).there (recounted dialect s reached all [] more (n + 2) (omega (arith, is)) h)));
    lowest = lowest;
  }

-- Turns from some places on, line by line.
use Rattle.std.proofs.Common.{◌≡◌, ℕ, zero, suc, ◌+◌, ◌≤◌, List, [], ◌∷◌, ◌++◌, Bool, true, false, cond, length, drop, refl, sym, ap, ◌∙◌, subst, arith, ◌||◌, slice_index, slice_set, count_by, get_or-set_same}
use Rattle.std.proofs.lemmas.List.Sums.{sum_by-cons}
use Rattle.link_audit.specs.{LineGot, logged_history, Dialect, Turn, Called, CallDenied, CashRead, CashDenied, Quoted, Refused, Skipped, Quit, has_left, is_leaving, item_of, reading, Subject, AreAllowed, FitsReply, IsAllowed, IsAsked, IsEasier, IsLeaving, IsNextInLog, IsOver, IsPossible, IsStuck, IsTaken, IsWide, behind_turn, cash_caller, entry_caller, rest_of, MayAsk, AreAnswered, AreNext, Course, FinishesLog, HasCourse, IsKept, has_entry, walked}
use Rattle.link_audit.specs.declared.places.Places.{Places}
use Rattle.link_audit.proofs.Walking.{wide_after}
use Rattle.link_audit.proofs.Easier.{easier_than, easy_over, easy_turns, same_places}
use Rattle.link_audit.proofs.Leading.{IsLast, TheLine, no_item}

-- ---- entries

pub entries-cons : (turn : Turn) (turns : List Turn) → count_by has_entry (turn ∷ turns) ≡ cond (has_entry turn) 1 0 + count_by has_entry turns
entries-cons turn turns = sum_by-cons (λ (t : Turn). cond (has_entry t) 1 0) turn turns

none_more : (turn : Turn) (turns : List Turn) → has_entry turn ≡ false → count_by has_entry turns ≡ 0 → count_by has_entry (turn ∷ turns) ≡ 0
none_more turn turns none more = let cons = entries-cons turn turns in let zero : cond {A = ℕ} (has_entry turn) 1 0 ≡ 0 = ap (λ (b : Bool). cond {A = ℕ} b 1 0) none in omega (arith, cons, zero, more)

pub drop-none : (n : ℕ) → ◌≡◌ {A = List Turn} (drop n []) []
drop-none zero = refl
drop-none (suc n) = refl

pub kept_by : (from : Places) (turn : Turn) → has_entry turn ≡ false → IsKept from (behind_turn from turn)
kept_by from (Called request good position entry posted) none = absurd cc
kept_by from (CallDenied request good) none = (refl, refl)
kept_by from (CashRead position dollars) none = absurd cc
kept_by from CashDenied none = (refl, refl)
kept_by from (Quoted good board) none = (refl, refl)
kept_by from (Refused fault) none = (refl, refl)
kept_by from Skipped none = (refl, refl)
kept_by from Quit none = (refl, refl)

pub moved_by : (from : Places) (turn : Turn) → IsWide from → IsAllowed from turn → has_entry turn ≡ true → IsKept from (behind_turn from turn) → ⊥
moved_by from (Called request good position entry posted) wide allowed some kept =
    let long = wide.made in let low = allowed.1 in
    let now : slice_index (slice_set from.made good (slice_index from.made good + 1)) good ≡ slice_index from.made good + 1 = get_or-set_same from.made good (slice_index from.made good + 1) 0 (omega (arith, long, low)) in
    let same : slice_index (slice_set from.made good (slice_index from.made good + 1)) good ≡ slice_index from.made good = ap (λ (l : List ℕ). slice_index l good) kept.0 in
    omega (arith, now, same)
moved_by from (CallDenied request good) wide allowed some kept = absurd cc
moved_by from (CashRead position dollars) wide allowed some kept = let same = kept.1 in omega (arith, same)
moved_by from CashDenied wide allowed some kept = absurd cc
moved_by from (Quoted good board) wide allowed some kept = absurd cc
moved_by from (Refused fault) wide allowed some kept = absurd cc
moved_by from Skipped wide allowed some kept = absurd cc
moved_by from Quit wide allowed some kept = absurd cc

-- turns that lead to places with the same calls and readings left as many entries
pub same_entries : (from : Places) (turn other : Turn) → IsWide from → IsAllowed from turn → IsAllowed from other → IsEasier (behind_turn from turn) (behind_turn from other) → has_entry turn ≡ has_entry other
same_entries from turn other wide allowed allowed' easier = by_both (has_entry turn) (has_entry other) refl refl
  where
    by_both : (b b' : Bool) → has_entry turn ≡ b → has_entry other ≡ b' → b ≡ b'
    by_both true true is is' = refl
    by_both false false is is' = refl
    by_both true false is is' = absurd (let kept = kept_by from other is' in moved_by from turn wide allowed is (easier.made ∙ kept.0, easier.readings ∙ kept.1))
    by_both false true is is' = absurd (let kept = kept_by from turn is in moved_by from other wide allowed' is' (sym easier.made ∙ kept.0, sym easier.readings ∙ kept.1))

-- ---- the first of some turns

front_none : (xs ys : List Turn) → xs ++ ys ≡ [] → xs ≡ []
front_none [] ys none = refl
front_none (x ∷ xs) ys none = absurd cc

pub answered_front : (dialect : Dialect) (xs ys : List Turn) (lines : List TheLine) (replies : List (List ℕ)) → AreAnswered dialect (xs ++ ys) lines replies → AreAnswered dialect xs lines replies
answered_front dialect [] ys lines replies all = tt
answered_front dialect (x ∷ xs) ys [] replies all = absurd all
answered_front dialect (x ∷ xs) ys (line ∷ lines) [] all = (all.0, answered_front dialect xs ys lines [] all.1)
answered_front dialect (x ∷ xs) ys (line ∷ lines) (reply ∷ replies) all = (all.0, all.1, answered_front dialect xs ys lines replies all.2)

pub allowed_front : (from : Places) (xs ys : List Turn) → AreAllowed from (xs ++ ys) → AreAllowed from xs
allowed_front from [] ys all = tt
allowed_front from (x ∷ xs) ys all = (all.0, (λ leaves. front_none xs ys (all.1 leaves)), allowed_front (behind_turn from x) xs ys all.2)

pub next_front : (s : Subject) (from : Places) (xs ys : List Turn) → AreNext s from (xs ++ ys) → AreNext s from xs
next_front s from [] ys all = tt
next_front s from (x ∷ xs) ys all = (all.0, next_front s (behind_turn from x) xs ys all.1)

pub front_course : (dialect : Dialect) (s : Subject) (from : Places) (lines : List TheLine) (replies : List (List ℕ)) (xs ys : List Turn) → AreAnswered dialect (xs ++ ys) lines replies
    → AreAllowed from (xs ++ ys) → AreNext s from (xs ++ ys) → HasCourse dialect s from lines replies (record { turns = length xs; left = has_left xs; to = walked from xs })
front_course dialect s from lines replies xs ys answered allowed next = record {
  turns = xs;
  answered = answered_front dialect xs ys lines replies answered;
  allowed = allowed_front from xs ys allowed;
  next = next_front s from xs ys next;
  count = refl;
  left = refl;
  to = same_places (walked from xs);
}

-- ---- the last of some turns

pub walked_on : (from : Places) (xs ys : List Turn) → walked from (xs ++ ys) ≡ walked (walked from xs) ys
walked_on from [] ys = refl
walked_on from (x ∷ xs) ys = walked_on (behind_turn from x) xs ys

pub allowed_back : (from : Places) (xs ys : List Turn) → AreAllowed from (xs ++ ys) → AreAllowed (walked from xs) ys
allowed_back from [] ys all = all
allowed_back from (x ∷ xs) ys all = allowed_back (behind_turn from x) xs ys all.2

pub next_back : (s : Subject) (from : Places) (xs ys : List Turn) → AreNext s from (xs ++ ys) → AreNext s (walked from xs) ys
next_back s from [] ys all = all
next_back s from (x ∷ xs) ys all = next_back s (behind_turn from x) xs ys all.1

-- where nothing is left, nothing is left after further turns
pub over_kept : (s : Subject) (from : Places) (turns : List Turn) → IsOver s from → AreAllowed from turns → AreNext s from turns → IsOver s (walked from turns)
over_kept s from [] over allowed next = over
over_kept s from (turn ∷ turns) over allowed next = over_kept s (behind_turn from turn) turns (by_turn turn allowed.0 next.0) allowed.2 next.1
  where
    by_turn : (t : Turn) → IsAllowed from t → IsNextInLog s from t → IsOver s (behind_turn from t)
    by_turn (Called request good position entry posted) here is = absurd (
        let both : [] ≡ (position, entry) ∷ rest_of entry_caller s.agent (position + 1) (logged_history s.log good) = sym (over.calls good here.1) ∙ is.0 in cc)
    by_turn (CallDenied request good) here is = over
    by_turn (CashRead position dollars) here is = absurd (
        let both : [] ≡ (position, reading s.agent dollars) ∷ rest_of cash_caller s.agent (position + 1) s.log.cash = sym over.cash ∙ is in cc)
    by_turn CashDenied here is = over
    by_turn (Quoted good board) here is = record { calls = over.calls; cash = over.cash }
    by_turn (Refused fault) here is = over
    by_turn Skipped here is = over
    by_turn Quit here is = over

-- where nothing is left no turn leaves an entry
pub over_entries : (s : Subject) (from : Places) (turns : List Turn) → IsOver s from → AreAllowed from turns → AreNext s from turns → count_by has_entry turns ≡ 0
over_entries s from [] over allowed next = refl
over_entries s from (turn ∷ turns) over allowed next = by_turn turn over allowed next (λ over'. over_entries s (behind_turn from turn) turns over' allowed.2 next.1)
  where
    by_turn : (t : Turn) → IsOver s from → AreAllowed from (t ∷ turns) → AreNext s from (t ∷ turns) → (IsOver s (behind_turn from t) → count_by has_entry turns ≡ 0) → count_by has_entry (t ∷ turns) ≡ 0
    by_turn (Called request good position entry posted) over all next later = absurd (
        let both : [] ≡ (position, entry) ∷ rest_of entry_caller s.agent (position + 1) (logged_history s.log good) = sym (over.calls good all.0.1) ∙ next.0.0 in cc)
    by_turn (CallDenied request good) over all next later = none_more (CallDenied request good) turns refl (later over)
    by_turn (CashRead position dollars) over all next later = absurd (
        let both : [] ≡ (position, reading s.agent dollars) ∷ rest_of cash_caller s.agent (position + 1) s.log.cash = sym over.cash ∙ next.0 in cc)
    by_turn CashDenied over all next later = none_more CashDenied turns refl (later over)
    by_turn (Quoted good board) over all next later = none_more (Quoted good board) turns refl (later (record { calls = over.calls; cash = over.cash }))
    by_turn (Refused fault) over all next later = none_more (Refused fault) turns refl (later over)
    by_turn Skipped over all next later = none_more Skipped turns refl (later over)
    by_turn Quit over all next later = none_more Quit turns refl (later over)

module _ (dialect : Dialect) (s : Subject) (from : Places) where
  -- no turns
  pub no_course : (lines : List TheLine) (replies : List (List ℕ)) → HasCourse dialect s from lines replies (record { turns = 0; left = false; to = from })
  no_course lines replies = record { turns = []; answered = tt; allowed = tt; next = tt; count = refl; left = refl; to = same_places from }

  -- a link of which no line is left
  pub end_course : (got : LineGot) → IsLast got → (lines : List TheLine) (replies : List (List ℕ)) (course : Course) (n : ℕ) → course.turns ≡ suc n
      → HasCourse dialect s from ((got, []) ∷ lines) replies course → ⊥
  end_course got last lines replies course n is c = by_turns c.turns replies (c.count ∙ is) c.answered
    where
      by_turns : (turns : List Turn) (rs : List (List ℕ)) → length turns ≡ suc n → AreAnswered dialect turns ((got, []) ∷ lines) rs → ⊥
      by_turns [] rs count answered = omega (arith, count)
      by_turns (turn ∷ turns) [] count answered = no_item (MayAsk dialect.may_answer) got [] (item_of turn) last answered.0
      by_turns (turn ∷ turns) (reply ∷ rs) count answered = no_item dialect.may_answer got [] (item_of turn) last answered.0

  module _ (wide : IsWide from) (line : TheLine) (lines : List TheLine) where
    -- ---- a line with its reply

    module _ (reply : List ℕ) (replies : List (List ℕ)) where
      -- its turn, and what comes behind it
      record IsOpen (course : Course) : Type 0 where
        pub turn : Turn
        pub turns : List Turn
        pub possible : IsPossible (IsAsked dialect true line) (FitsReply dialect true reply) s from turn
        pub answered : AreAnswered dialect turns lines replies
        pub last : is_leaving turn ≡ true → turns ≡ []
        pub allowed : AreAllowed (behind_turn from turn) turns
        pub next : AreNext s (behind_turn from turn) turns
        pub count : suc (length turns) ≡ course.turns
        pub left : is_leaving turn || has_left turns ≡ course.left
        pub to : IsEasier (walked (behind_turn from turn) turns) course.to

      open_course : (course : Course) (n : ℕ) → course.turns ≡ suc n → HasCourse dialect s from (line ∷ lines) (reply ∷ replies) course → IsOpen course
      open_course course n is c = by_turns c.turns c.answered c.allowed c.next c.count c.left c.to
        where
          by_turns : (turns : List Turn) → AreAnswered dialect turns (line ∷ lines) (reply ∷ replies) → AreAllowed from turns → AreNext s from turns → length turns ≡ course.turns
              → has_left turns ≡ course.left → IsEasier (walked from turns) course.to → IsOpen course
          by_turns [] answered allowed next count left to = absurd (let none : 0 ≡ suc n = count ∙ is in omega (arith, none))
          by_turns (turn ∷ turns) answered allowed next count left to = record {
            turn = turn;
            turns = turns;
            possible = record { asked = answered.0; fits = λ came. answered.1; allowed = allowed.0; next = next.0 };
            answered = answered.2;
            last = allowed.1;
            allowed = allowed.2;
            next = next.1;
            count = count;
            left = left;
            to = to;
          }

      pub course_stuck : IsStuck (IsAsked dialect true line) (FitsReply dialect true reply) s from → (course : Course) (n : ℕ) → course.turns ≡ suc n
          → HasCourse dialect s from (line ∷ lines) (reply ∷ replies) course → ⊥
      course_stuck stuck course n is c = let o = open_course course n is c in stuck o.turn o.possible

      module _ (to : Places) (t : IsTaken (IsAsked dialect true line) (FitsReply dialect true reply) s from to) (n : ℕ) (left : Bool) (end : Places) where
        pub course_on : HasCourse dialect s from (line ∷ lines) (reply ∷ replies) (record { turns = suc n; left = left; to = end })
            → HasCourse dialect s to lines replies (record { turns = n; left = left; to = end })
        course_on c =
            let o = open_course (record { turns = suc n; left = left; to = end }) n refl c in
            let wide' : IsWide to = subst IsWide (sym t.to_is) (wide_after from t.turn wide) in
            let easy = easy_turns s to (behind_turn from o.turn) o.turns (t.easiest o.turn o.possible) wide' (wide_after from o.turn wide) o.allowed o.next in
            record {
              turns = o.turns;
              answered = o.answered;
              allowed = easy.allowed;
              next = easy.next;
              count = (let count = o.count in omega (arith, count));
              left = ap (λ (b : Bool). b || has_left o.turns) (sym (t.stay o.turn o.possible)) ∙ o.left;
              to = easier_than (walked to o.turns) (walked (behind_turn from o.turn) o.turns) end easy.to o.to;
            }

        pub course_back : HasCourse dialect s to lines replies (record { turns = n; left = left; to = end })
            → HasCourse dialect s from (line ∷ lines) (reply ∷ replies) (record { turns = suc n; left = left; to = end })
        course_back c = let p = t.possible in record {
          turns = t.turn ∷ c.turns;
          answered = (p.asked, p.fits refl, c.answered);
          allowed = (p.allowed, (λ leaves. absurd (let both : true ≡ false = sym leaves ∙ t.stays in cc)), subst (λ (q : Places). AreAllowed q c.turns) t.to_is c.allowed);
          next = (p.next, subst (λ (q : Places). AreNext s q c.turns) t.to_is c.next);
          count = (let count = c.count in omega (arith, count));
          left = ap (λ (b : Bool). b || has_left c.turns) t.stays ∙ c.left;
          to = subst (λ (q : Places). IsEasier (walked q c.turns) end) t.to_is c.to;
        }

      -- turns by which nothing is left
      pub heard_on : (to : Places) → IsTaken (IsAsked dialect true line) (FitsReply dialect true reply) s from to
          → (entries : ℕ) → FinishesLog dialect s from (line ∷ lines) (reply ∷ replies) entries → FinishesLog dialect s to lines replies entries
      heard_on to t entries f = by_turns f.turns f.answered f.replied f.allowed f.next f.over f.entries_are
        where
          by_turns : (turns : List Turn) → AreAnswered dialect turns (line ∷ lines) (reply ∷ replies) → suc (length replies) ≤ length turns → AreAllowed from turns → AreNext s from turns
              → IsOver s (walked from turns) → count_by has_entry (drop (suc (length replies)) turns) ≡ entries → FinishesLog dialect s to lines replies entries
          by_turns [] answered replied allowed next over is = absurd (omega (arith, replied))
          by_turns (turn ∷ turns) answered replied allowed next over is =
              let possible : IsPossible (IsAsked dialect true line) (FitsReply dialect true reply) s from turn = record { asked = answered.0; fits = λ came. answered.1; allowed = allowed.0; next = next.0 } in
              let easy = easy_turns s to (behind_turn from turn) turns (t.easiest turn possible) (subst IsWide (sym t.to_is) (wide_after from t.turn wide)) (wide_after from turn wide) allowed.2 next.1 in
              record {
                turns = turns;
                answered = answered.2;
                replied = omega (arith, replied);
                allowed = easy.allowed;
                next = easy.next;
                over = easy_over s (walked to turns) (walked (behind_turn from turn) turns) easy.to over;
                entries_are = is;
              }

      -- the agent leaves by it
      module _ (t : IsLeaving (IsAsked dialect true line) (FitsReply dialect true reply) s from) where
        pub leaving_course : HasCourse dialect s from (line ∷ lines) (reply ∷ replies) (record { turns = 1; left = true; to = from })
        leaving_course = let p = t.possible in record {
          turns = Quit ∷ [];
          answered = (p.asked, p.fits refl, tt);
          allowed = (tt, (λ leaves. refl), tt);
          next = (tt, tt);
          count = refl;
          left = refl;
          to = same_places from;
        }

        pub leaves_last : (course : Course) (n : ℕ) → course.turns ≡ suc (suc n) → HasCourse dialect s from (line ∷ lines) (reply ∷ replies) course → ⊥
        leaves_last course n is c =
            let o = open_course course (suc n) is c in
            let none : o.turns ≡ [] = o.last (ap is_leaving (t.only o.turn o.possible)) in
            (let count = o.count in let long = ap length none in omega (arith, count, long, is))

        pub leaves_left : (course : Course) → course.turns ≡ 1 → HasCourse dialect s from (line ∷ lines) (reply ∷ replies) course → course.left ≡ true
        leaves_left course is c =
            let o = open_course course 0 is c in
            sym o.left ∙ ap (λ (turn : Turn). is_leaving turn || has_left o.turns) (t.only o.turn o.possible)

        pub leaves_none : (entries : ℕ) → FinishesLog dialect s from (line ∷ lines) (reply ∷ replies) entries → entries ≡ 0
        leaves_none entries f = by_turns f.turns f.answered f.replied f.allowed f.next f.entries_are
          where
            by_turns : (turns : List Turn) → AreAnswered dialect turns (line ∷ lines) (reply ∷ replies) → suc (length replies) ≤ length turns → AreAllowed from turns → AreNext s from turns
                → count_by has_entry (drop (suc (length replies)) turns) ≡ entries → entries ≡ 0
            by_turns [] answered replied allowed next is = absurd (omega (arith, replied))
            by_turns (turn ∷ turns) answered replied allowed next is =
                let possible : IsPossible (IsAsked dialect true line) (FitsReply dialect true reply) s from turn = record { asked = answered.0; fits = λ came. answered.1; allowed = allowed.0; next = next.0 } in
                let none : turns ≡ [] = allowed.1 (ap is_leaving (t.only turn possible)) in
                sym is ∙ ap (count_by has_entry) (ap (drop (length replies)) none ∙ drop-none (length replies))

    -- ---- a line without a reply

    record IsOpenUnheard (course : Course) : Type 0 where
      pub turn : Turn
      pub turns : List Turn
      pub possible : IsPossible (IsAsked dialect false line) (FitsReply dialect false []) s from turn
      pub answered : AreAnswered dialect turns lines []
      pub last : is_leaving turn ≡ true → turns ≡ []
      pub allowed : AreAllowed (behind_turn from turn) turns
      pub next : AreNext s (behind_turn from turn) turns
      pub count : suc (length turns) ≡ course.turns
      pub left : is_leaving turn || has_left turns ≡ course.left
      pub to : IsEasier (walked (behind_turn from turn) turns) course.to

    open_unheard : (course : Course) (n : ℕ) → course.turns ≡ suc n → HasCourse dialect s from (line ∷ lines) [] course → IsOpenUnheard course
    open_unheard course n is c = by_turns c.turns c.answered c.allowed c.next c.count c.left c.to
      where
        by_turns : (turns : List Turn) → AreAnswered dialect turns (line ∷ lines) [] → AreAllowed from turns → AreNext s from turns → length turns ≡ course.turns
            → has_left turns ≡ course.left → IsEasier (walked from turns) course.to → IsOpenUnheard course
        by_turns [] answered allowed next count left to = absurd (let none : 0 ≡ suc n = count ∙ is in omega (arith, none))
        by_turns (turn ∷ turns) answered allowed next count left to = record {
          turn = turn;
          turns = turns;
          possible = record { asked = answered.0; fits = λ came. absurd cc; allowed = allowed.0; next = next.0 };
          answered = answered.1;
          last = allowed.1;
          allowed = allowed.2;
          next = next.1;
          count = count;
          left = left;
          to = to;
        }

    pub pass_course_stuck : IsStuck (IsAsked dialect false line) (FitsReply dialect false []) s from → (course : Course) (n : ℕ) → course.turns ≡ suc n
        → HasCourse dialect s from (line ∷ lines) [] course → ⊥
    pass_course_stuck stuck course n is c = let o = open_unheard course n is c in stuck o.turn o.possible

    module _ (to : Places) (t : IsTaken (IsAsked dialect false line) (FitsReply dialect false []) s from to) where
      wide_to : IsWide to
      wide_to = subst IsWide (sym t.to_is) (wide_after from t.turn wide)

      like_taken : (turn : Turn) → IsPossible (IsAsked dialect false line) (FitsReply dialect false []) s from turn → has_entry t.turn ≡ has_entry turn
      like_taken turn possible = same_entries from t.turn turn wide t.possible.allowed possible.allowed (subst (λ (q : Places). IsEasier q (behind_turn from turn)) t.to_is (t.easiest turn possible))

      module _ (n : ℕ) (left : Bool) (end : Places) where
        pub pass_on : HasCourse dialect s from (line ∷ lines) [] (record { turns = suc n; left = left; to = end })
            → HasCourse dialect s to lines [] (record { turns = n; left = left; to = end })
        pass_on c =
            let o = open_unheard (record { turns = suc n; left = left; to = end }) n refl c in
            let easy = easy_turns s to (behind_turn from o.turn) o.turns (t.easiest o.turn o.possible) wide_to (wide_after from o.turn wide) o.allowed o.next in
            record {
              turns = o.turns;
              answered = o.answered;
              allowed = easy.allowed;
              next = easy.next;
              count = (let count = o.count in omega (arith, count));
              left = ap (λ (b : Bool). b || has_left o.turns) (sym (t.stay o.turn o.possible)) ∙ o.left;
              to = easier_than (walked to o.turns) (walked (behind_turn from o.turn) o.turns) end easy.to o.to;
            }

        pub pass_back : HasCourse dialect s to lines [] (record { turns = n; left = left; to = end })
            → HasCourse dialect s from (line ∷ lines) [] (record { turns = suc n; left = left; to = end })
        pass_back c = let p = t.possible in record {
          turns = t.turn ∷ c.turns;
          answered = (p.asked, c.answered);
          allowed = (p.allowed, (λ leaves. absurd (let both : true ≡ false = sym leaves ∙ t.stays in cc)), subst (λ (q : Places). AreAllowed q c.turns) t.to_is c.allowed);
          next = (p.next, subst (λ (q : Places). AreNext s q c.turns) t.to_is c.next);
          count = (let count = c.count in omega (arith, count));
          left = ap (λ (b : Bool). b || has_left c.turns) t.stays ∙ c.left;
          to = subst (λ (q : Places). IsEasier (walked q c.turns) end) t.to_is c.to;
        }

      -- turns by which nothing is left
      pub finish_on : (IsOver s from → ⊥) → (entries : ℕ) → FinishesLog dialect s from (line ∷ lines) [] entries → (k : ℕ) × (entries ≡ cond (has_entry t.turn) 1 0 + k) × FinishesLog dialect s to lines [] k
      finish_on more entries f = by_turns f.turns f.answered f.allowed f.next f.over f.entries_are
        where
          by_turns : (turns : List Turn) → AreAnswered dialect turns (line ∷ lines) [] → AreAllowed from turns → AreNext s from turns → IsOver s (walked from turns) → count_by has_entry turns ≡ entries
              → (k : ℕ) × (entries ≡ cond (has_entry t.turn) 1 0 + k) × FinishesLog dialect s to lines [] k
          by_turns [] answered allowed next over is = absurd (more over)
          by_turns (turn ∷ turns) answered allowed next over is =
              let possible : IsPossible (IsAsked dialect false line) (FitsReply dialect false []) s from turn = record { asked = answered.0; fits = λ came. absurd cc; allowed = allowed.0; next = next.0 } in
              let easy = easy_turns s to (behind_turn from turn) turns (t.easiest turn possible) wide_to (wide_after from turn wide) allowed.2 next.1 in
              let alike : cond {A = ℕ} (has_entry t.turn) 1 0 ≡ cond {A = ℕ} (has_entry turn) 1 0 = ap (λ (b : Bool). cond {A = ℕ} b 1 0) (like_taken turn possible) in (
                count_by has_entry turns,
                sym is ∙ (entries-cons turn turns ∙ ap (λ (k : ℕ). k + count_by has_entry turns) (sym alike)),
                record { turns = turns; answered = answered.1; replied = omega arith; allowed = easy.allowed; next = easy.next; over = easy_over s (walked to turns) (walked (behind_turn from turn) turns) easy.to over; entries_are = refl },
              )

    -- the agent leaves by it
    module _ (t : IsLeaving (IsAsked dialect false line) (FitsReply dialect false []) s from) where
      pub pass_leaving : HasCourse dialect s from (line ∷ lines) [] (record { turns = 1; left = true; to = from })
      pass_leaving = let p = t.possible in record {
        turns = Quit ∷ [];
        answered = (p.asked, tt);
        allowed = (tt, (λ leaves. refl), tt);
        next = (tt, tt);
        count = refl;
        left = refl;
        to = same_places from;
      }

      pub passes_last : (course : Course) (n : ℕ) → course.turns ≡ suc (suc n) → HasCourse dialect s from (line ∷ lines) [] course → ⊥
      passes_last course n is c =
          let o = open_unheard course (suc n) is c in
          let none : o.turns ≡ [] = o.last (ap is_leaving (t.only o.turn o.possible)) in
          (let count = o.count in let long = ap length none in omega (arith, count, long, is))

  pub finish_over : (lines : List TheLine) (entries : ℕ) → IsOver s from → FinishesLog dialect s from lines [] entries → entries ≡ 0
  finish_over lines entries over f = sym f.entries_are ∙ over_entries s from f.turns over f.allowed f.next

-- What is said of an answer by the lines alone, by how the lines and the replies of a link were walked over.
use Rattle.std.proofs.Common.{◌≡◌, ℕ, ◌+◌, ◌-◌, ◌≤◌, List, [], ◌∷◌, ◌++◌, Bool, true, false, ◌||◌, length, map, take, drop, Some, refl, sym, ap, ◌∙◌, subst, arith, inl, inr, ◌↔◌, ◌⊎◌, Result, nat_le, slice_get, if◌then◌else◌, count_by, length-append, take_all}
use Rattle.std.proofs.lemmas.List.{length-map}
use Rattle.link_audit.specs.{Board, LINE_BYTES, LINK_BYTES, SESSION_LINES, GameFile, all_answers, ended_line, LineGot, Request, RequestFault, LoggedGame, Dialect, verdict_of, AreItems, IsItem, Turn, has_left, is_leaving, item_of, said_of, welcome_lines, free_seats, Subject, AreAllowed, AreBoards, IsAhead, IsOver, IsWide, Remains, behind_turn, start, AreAnswered, AreNext, FinishesLog, HasCourse, IsDifferent, IsFirstLeft, IsLowestLeft, IsStop, behind_course, has_entry, walked, AccountsFor, HasNoLine, LeavesNothing, MayAsk, whole_lines, DiffersBehind, HasNumbers, IsDifferenceOf, IsFirstDifference, HasSeatAndLines, IsWhole, IsYes, IsYesExactlyIf, memory_replies, replies_to, EndsSo, HasHeard, IsAccounted, IsEnding, IsFinished, IsHeard, HasStayed, TakesSeat, TellsMemory, lines_at}
use Rattle.tac_io.specs.declared.line_got.LineGot.TheVariants as gots
use Rattle.link_audit.specs.declared.causes.Ending.{Ending}
use Rattle.link_audit.specs.declared.causes.Ending.TheVariants as endings
use Rattle.link_audit.specs.declared.places.Places.{Places}
use Rattle.link_audit.specs.declared.hearing.Heard.TheVariants.{Through, Gone}
use Rattle.link_audit.specs.declared.vouching.Difference.{Difference}
use Rattle.link_audit.specs.declared.vouching.Difference.TheVariants as differences
use Rattle.link_audit.specs.declared.vouching.Vouching.{Vouching}
use Rattle.link_audit.specs.declared.vouching.Vouching.TheVariants.{Whole, Cut, Not}
use Rattle.link_audit.proofs.Walking.{none_over, turn_next, wide_after}
use Rattle.link_audit.proofs.Easier.{same_places}
use Rattle.link_audit.proofs.Leading.{IsLast, TheLine, first_line, no_item}
use Rattle.link_audit.proofs.Cuts.{no_line}
use Rattle.link_audit.proofs.Courses.{front_course}
use Rattle.link_audit.proofs.CourseWalks.{recounted}
use Rattle.link_audit.proofs.Walked.{wide_start}
use Rattle.link_audit.proofs.Vouched.{account_of, ahead_of, own_ahead, same_agent, same_line}

-- ---- turns of a link

module _ (dialect : Dialect) where
  unheard_answered : (unheard : List Turn) (unanswered later : List TheLine) → AreItems (MayAsk dialect.may_answer) unanswered (map item_of unheard) → AreAnswered dialect unheard (unanswered ++ later) []
  unheard_answered [] unanswered later items = tt
  unheard_answered (turn ∷ turns) [] later items = absurd items
  unheard_answered (turn ∷ turns) (line ∷ lines) later items = (items.0, unheard_answered turns lines later items.1)

  all_answered : (heard unheard : List Turn) (answered unanswered later : List TheLine) → AreItems dialect.may_answer answered (map item_of heard) → AreItems (MayAsk dialect.may_answer) unanswered (map item_of unheard)
      → AreAnswered dialect (heard ++ unheard) (answered ++ (unanswered ++ later)) (map (λ turn. dialect.text (said_of turn)) heard)
  all_answered [] unheard [] unanswered later items items' = unheard_answered unheard unanswered later items'
  all_answered [] unheard (line ∷ lines) unanswered later items items' = absurd items
  all_answered (turn ∷ turns) unheard [] unanswered later items items' = absurd items
  all_answered (turn ∷ turns) unheard (line ∷ lines) unanswered later items items' = (items.0, refl, all_answered turns unheard lines unanswered later items.1 items')

drop_front : (xs ys : List TheLine) → drop (length xs) (xs ++ ys) ≡ ys
drop_front [] ys = refl
drop_front (x ∷ xs) ys = drop_front xs ys

items_long : (may_answer : List ℕ → Result Request RequestFault → Type 0) (lines : List TheLine) (turns : List Turn) → AreItems may_answer lines (map item_of turns) → length lines ≡ length turns
items_long may_answer [] [] items = refl
items_long may_answer [] (turn ∷ turns) items = absurd items
items_long may_answer (line ∷ lines) [] items = absurd items
items_long may_answer (line ∷ lines) (turn ∷ turns) items = let more = items_long may_answer lines turns items.1 in omega (arith, more)

no_items : (may_answer : List ℕ → Result Request RequestFault → Type 0) (lines : List TheLine) (turns : List Turn) → turns ≡ [] → AreItems may_answer lines (map item_of turns) → lines ≡ []
no_items may_answer [] turns none items = refl
no_items may_answer (line ∷ lines) [] none items = absurd items
no_items may_answer (line ∷ lines) (turn ∷ turns) none items = absurd cc

drop_heard : (text : Turn → List ℕ) (heard unheard : List Turn) → drop (length (map text heard)) (heard ++ unheard) ≡ unheard
drop_heard text [] unheard = refl
drop_heard text (turn ∷ turns) unheard = drop_heard text turns unheard

module _ (s : Subject) where
  nexts_of : (from : Places) (turns : List Turn) → IsWide from → Remains s from turns → AreNext s from turns × IsOver s (walked from turns)
  nexts_of from [] wide all = (tt, none_over s from all)
  nexts_of from (turn ∷ turns) wide all =
      let first = turn_next s from turn turns wide all in
      let more = nexts_of (behind_turn from turn) turns (wide_after from turn wide) first.rest in
      ((first.next, more.0), more.1)

module _ (dialect : Dialect) (s : Subject) (lines : List TheLine) (replies : List (List ℕ)) where
  module _ (room : ℕ) (a : IsAhead dialect s start lines replies room) where
    ahead_answered : AreAnswered dialect (a.heard ++ a.unheard) lines replies
    ahead_answered = subst (λ (w : List TheLine × List (List ℕ)). AreAnswered dialect (a.heard ++ a.unheard) w.0 w.1) (λ i. (sym a.lines_are i, sym a.replies_are i))
        (all_answered dialect a.heard a.unheard a.answered a.unanswered a.later a.heard_items a.unheard_items)

    pub heard_long : length replies ≡ length a.heard
    heard_long = ap length a.replies_are ∙ length-map a.heard (λ turn. dialect.text (said_of turn))

    pub ahead_course : HasCourse dialect s start lines replies (record { turns = length (a.heard ++ a.unheard); left = has_left (a.heard ++ a.unheard); to = walked start (a.heard ++ a.unheard) })
    ahead_course = record {
      turns = a.heard ++ a.unheard;
      answered = ahead_answered;
      allowed = a.remains.allowed;
      next = (nexts_of s start (a.heard ++ a.unheard) wide_start a.remains).0;
      count = refl;
      left = refl;
      to = same_places (walked start (a.heard ++ a.unheard));
    }

    pub ahead_heard : HasCourse dialect s start lines replies (record { turns = length a.heard; left = has_left a.heard; to = walked start a.heard })
    ahead_heard = front_course dialect s start lines replies a.heard a.unheard ahead_answered a.remains.allowed (nexts_of s start (a.heard ++ a.unheard) wide_start a.remains).0

    pub ahead_finishes : FinishesLog dialect s start lines replies (count_by has_entry a.unheard)
    ahead_finishes = record {
      turns = a.heard ++ a.unheard;
      answered = ahead_answered;
      replied = (let long = heard_long in let both = length-append a.heard a.unheard in omega (arith, long, both));
      allowed = a.remains.allowed;
      next = (nexts_of s start (a.heard ++ a.unheard) wide_start a.remains).0;
      over = (nexts_of s start (a.heard ++ a.unheard) wide_start a.remains).1;
      entries_are = ap (λ (l : List (List ℕ)). count_by has_entry (drop (length l) (a.heard ++ a.unheard))) a.replies_are
          ∙ ap (count_by has_entry) (drop_heard (λ turn. dialect.text (said_of turn)) a.heard a.unheard);
    }

    pub ahead_few : length ahead_finishes.turns ≤ room
    unfolding ahead_finishes
    ahead_few = a.few

-- nothing is left where no line is
module _ (dialect : Dialect) (s : Subject) (from : Places) (room : ℕ) (got : LineGot) (last : IsLast got) where
  end_over : IsAhead dialect s from ((got, []) ∷ []) [] room → IsOver s from
  end_over a = by_heard a.heard a.answered a.lines_are a.heard_items a.replies_are a.remains
    where
      by_unheard : (unheard : List Turn) (unanswered : List TheLine) → (got, []) ∷ [] ≡ unanswered ++ a.later → AreItems (MayAsk dialect.may_answer) unanswered (map item_of unheard) → Remains s from unheard → IsOver s from
      by_unheard [] unanswered is items all = none_over s from all
      by_unheard (turn ∷ turns) [] is items all = absurd items
      by_unheard (turn ∷ turns) (line ∷ lines) is items all = absurd (
          no_item (MayAsk dialect.may_answer) got [] (item_of turn) last
          (subst (λ (l : TheLine). IsItem (MayAsk dialect.may_answer) l (item_of turn)) (sym (ap (first_line (got, [])) is)) items.0))

      by_heard : (heard : List Turn) (answered : List TheLine) → (got, []) ∷ [] ≡ answered ++ (a.unanswered ++ a.later) → AreItems dialect.may_answer answered (map item_of heard)
          → [] ≡ map (λ turn. dialect.text (said_of turn)) heard → Remains s from (heard ++ a.unheard) → IsOver s from
      by_heard [] [] is items none all = by_unheard a.unheard a.unanswered is a.unheard_items all
      by_heard [] (line ∷ lines) is items none all = absurd items
      by_heard (turn ∷ turns) answered is items none all = absurd cc

pub ended_over : (dialect : Dialect) (s : Subject) (from : Places) (room : ℕ) (lines : List TheLine) → HasNoLine lines → IsAhead dialect s from lines [] room → IsOver s from
ended_over dialect s from room lines none a =
    let end = no_line lines none in
    end_over dialect s from room end.0 end.1 (subst (λ (l : List TheLine). IsAhead dialect s from l [] room) end.2 a)

-- where no line is left, no turn is
no_turns : (may_answer : List ℕ → Result Request RequestFault → Type 0) (got : LineGot) (lines later : List TheLine) (turns : List Turn) → IsLast got → lines ++ later ≡ (got, []) ∷ []
    → AreItems may_answer lines (map item_of turns) → turns ≡ []
no_turns may_answer got lines later [] last is items = refl
no_turns may_answer got [] later (turn ∷ turns) last is items = absurd items
no_turns may_answer got (line ∷ lines) later (turn ∷ turns) last is items = absurd (
    no_item may_answer line.0 line.1 (item_of turn) (subst IsLast (sym (ap (λ (l : List TheLine). (first_line (got, []) l).0) is)) last) items.0)

-- no turn follows one by which the agent left
left_last : (from : Places) (xs ys : List Turn) → AreAllowed from (xs ++ ys) → has_left xs ≡ true → ys ≡ []
left_last from [] ys all left = absurd cc
left_last from (x ∷ xs) ys all left = by_first (is_leaving x) refl (λ stays. left_last (behind_turn from x) xs ys all.2 (ap (λ (b : Bool). b || has_left xs) (sym stays) ∙ left))
  where
    none_behind : (zs : List Turn) → zs ++ ys ≡ [] → ys ≡ []
    none_behind [] none = none
    none_behind (z ∷ zs) none = absurd cc

    by_first : (b : Bool) → is_leaving x ≡ b → (is_leaving x ≡ false → ys ≡ []) → ys ≡ []
    by_first true is on = none_behind xs (all.1 is)
    by_first false is on = on is

-- ---- a difference

module _ (game : GameFile) (dialect : Dialect) (log : LoggedGame) (asked said : List ℕ) where
  pub not_accounted : (difference : Difference) → ((other : ℕ) → AccountsFor game dialect log other asked said → ⊥) → IsFirstDifference game dialect log asked said difference
      → IsAccounted game dialect log asked said (Not difference)
  not_accounted difference none first = record {
    yes = λ other. ((λ never. absurd never), none other);
    whole = λ other w. absurd (none other w);
    numbers = λ other w. tt;
    difference = first;
  }

  -- no line takes a seat
  pub no_first : HasNoLine (all_answers [] LINK_BYTES asked) → IsFirstDifference game dialect log asked said differences.Seat
  no_first none agent lines g =
      let end = no_line (all_answers [] LINK_BYTES asked) none in
      subst IsLast (ap (λ (l : List TheLine). (first_line (gots.End, []) l).0) (sym end.2 ∙ g.first)) end.1

  module _ (line : List ℕ) (lines : List TheLine) (first : all_answers [] LINK_BYTES asked ≡ ended_line line ∷ lines) where
    pub no_seat : ((agent : ℕ) → TakesSeat game log line agent → ⊥) → IsFirstDifference game dialect log asked said differences.Seat
    no_seat none agent lines' g =
        let here : ended_line line ≡ (gots.Line, g.line) = ap (first_line (ended_line line)) (sym first ∙ g.first) in
        let same : g.line ≡ line = same_line line g.line here in
        none agent (record { ended = here ∙ ap (λ (l : List ℕ). (gots.Line, l)) same; seat = ap (verdict_of (free_seats game)) (sym same) ∙ g.seat; listed = g.listed })

    module _ (agent : ℕ) (t : TakesSeat game log line agent) where
      greeted : HasSeatAndLines game log asked agent lines
      greeted = record { line = line; first = first ∙ (λ i. t.ended i ∷ lines); seat = t.seat; listed = t.listed }

      pub no_welcome : ((others : List (List ℕ)) → whole_lines said ≡ welcome_lines game agent ++ others → ⊥) → IsFirstDifference game dialect log asked said differences.Welcome
      no_welcome none = record { agent = agent; lines = lines; greeted = greeted; none = none }

      module _ (boards : List (List Board)) (table : AreBoards game log boards) (replies : List (List ℕ)) (welcome : whole_lines said ≡ welcome_lines game agent ++ replies) where
        differs : (difference : Difference) → IsDifferent dialect (record { log = log; boards = boards; agent = agent }) lines replies difference → DiffersBehind game dialect log asked said difference
        differs difference is = record { agent = agent; lines = lines; greeted = greeted; replies = replies; welcomed = welcome; boards = boards; boards_are = table; differs = is }

        -- what follows the welcome differs
        pub different : (difference : Difference) → IsDifferent dialect (record { log = log; boards = boards; agent = agent }) lines replies difference → IsFirstDifference game dialect log asked said difference
        different differences.Seat is = absurd (let lowest = is.lowest in lowest)
        different differences.Welcome is = absurd (let lowest = is.lowest in lowest)
        different (differences.Line n) is = differs (differences.Line n) is
        different (differences.Entry good position) is = differs (differences.Entry good position) is
        different (differences.Cash position) is = differs (differences.Cash position) is
        different differences.Cause is = absurd (let lowest = is.lowest in lowest)

-- ---- the answer where the replies end

-- its agent
pub yes_so : (agent lines after memory : ℕ) (ended : Bool) (result : Vouching) → result ≡ (if ended then Whole agent lines memory else Cut agent lines after memory) → (other : ℕ)
    → IsYes other result ↔ (agent ≡ other)
yes_so agent lines after memory true result is other = (subst (IsYes other) is, (λ same. subst (IsYes other) (sym is) same))
yes_so agent lines after memory false result is other = (subst (IsYes other) is, (λ same. subst (IsYes other) (sym is) same))

pub finished_so : (dialect : Dialect) (s : Subject) (asked : List ℕ) (places : Places) (at lines agent after memory : ℕ) (ended : Bool) (result : Vouching)
    → result ≡ (if ended then Whole agent lines memory else Cut agent lines after memory)
    → HasNoLine (lines_at asked at) → ((entries : ℕ) → FinishesLog dialect s places (lines_at asked at) [] entries → entries ≡ after) → IsFinished dialect s asked ended (Through places at lines) result
finished_so dialect s asked places at lines agent after memory true result is none numbers = subst (IsFinished dialect s asked true (Through places at lines)) (sym is) (refl, none, refl)
finished_so dialect s asked places at lines agent after memory false result is none numbers =
    subst (IsFinished dialect s asked false (Through places at lines)) (sym is) (refl, (λ end never. absurd cc), numbers)

pub told_so : (agent lines after memory : ℕ) (ended : Bool) (result : Vouching) → result ≡ (if ended then Whole agent lines memory else Cut agent lines after memory) → TellsMemory memory result
told_so agent lines after memory true result is = subst (TellsMemory memory) (sym is) refl
told_so agent lines after memory false result is = subst (TellsMemory memory) (sym is) refl

abbrev kind_of : TheLine → LineGot
kind_of line = line.0

pub no_end : (line : List ℕ) (lines : List TheLine) → HasNoLine (ended_line line ∷ lines) → ⊥
no_end line lines none = let end = no_line (ended_line line ∷ lines) none in by_test (nat_le (length line) LINE_BYTES) (subst IsLast (sym (ap (λ (l : List TheLine). (first_line (gots.End, []) l).0) end.2)) end.1)
  where
    by_test : (b : Bool) → IsLast (kind_of (if b then (gots.Line, line) else (gots.TooLong, []))) → ⊥
    by_test true h = h
    by_test false h = h

module _ (game : GameFile) (dialect : Dialect) (log : LoggedGame) (asked said : List ℕ) (line : List ℕ) (from : ℕ) (first : all_answers [] LINK_BYTES asked ≡ ended_line line ∷ lines_at asked from)
    (agent : ℕ) (t : TakesSeat game log line agent) (goods : length log.histories ≡ 28) (boards : List (List Board)) (table : AreBoards game log boards)
    (replies : List (List ℕ)) (welcome : whole_lines said ≡ welcome_lines game agent ++ replies) (ended : Bool) (ended_is : (ended ≡ true) ↔ (slice_get said (length said - 1) ≡ Some 10))
    (memory : ℕ) (memory_is : memory ≡ memory_replies dialect.text (take SESSION_LINES replies)) where
  abbrev TheSubject : Subject
  TheSubject = record { log = log; boards = boards; agent = agent }

  abbrev all_lines : List TheLine
  all_lines = lines_at asked from

  abbrev Account : ℕ → Type 0
  Account other = AccountsFor game dialect log other asked said

  account_by : IsAhead dialect TheSubject start all_lines replies SESSION_LINES → Account agent
  account_by = account_of game dialect log asked said line all_lines first agent t goods boards table replies welcome

  to_ahead : (other : ℕ) → Account other → IsAhead dialect TheSubject start all_lines replies SESSION_LINES
  to_ahead = ahead_of game dialect log asked said line all_lines first agent t goods boards table replies welcome

  same : (other : ℕ) → Account other → agent ≡ other
  same = same_agent game dialect log asked said line all_lines first agent t

  -- what holds of each account of this agent holds of each account
  of_each : (P : (other : ℕ) → Account other → Type 0) → ((account : Account agent) → P agent account) → (other : ℕ) (account : Account other) → P other account
  of_each P own other account = subst (λ (k : ℕ). (w : Account k) → P k w) (same other account) own account

  -- how the lines account for the log
  module _ (v : Account agent) where
    own : IsAhead dialect TheSubject start all_lines replies SESSION_LINES
    own = own_ahead game dialect log asked said line all_lines first agent t goods boards table replies welcome v

    own_long : length replies ≡ length v.heard
    unfolding own own_ahead
    own_long = heard_long dialect TheSubject all_lines replies SESSION_LINES own

    own_lines : all_lines ≡ v.answered ++ (v.unanswered ++ v.later)
    unfolding own own_ahead
    own_lines = own.lines_are

    own_heard : HasCourse dialect TheSubject start all_lines replies (record { turns = length v.heard; left = has_left v.heard; to = walked start v.heard })
    unfolding own own_ahead
    own_heard = ahead_heard dialect TheSubject all_lines replies SESSION_LINES own

    own_allowed : AreAllowed start (v.heard ++ v.unheard)
    unfolding own own_ahead
    own_allowed = own.remains.allowed

    own_finishes : FinishesLog dialect TheSubject start all_lines replies (count_by has_entry v.unheard)
    unfolding own own_ahead
    own_finishes = ahead_finishes dialect TheSubject all_lines replies SESSION_LINES own

    own_replies : replies ≡ replies_to dialect.text v.heard
    unfolding own own_ahead
    own_replies = own.replies_are

    own_memory : memory_replies dialect.text (replies_to dialect.text v.heard) ≡ memory
    own_memory =
        let few : length replies ≤ SESSION_LINES = (let few = v.few in let both = length-append v.heard v.unheard in let long = own_long in omega (arith, few, both, long)) in
        ap (memory_replies dialect.text) (sym own_replies ∙ sym (take_all SESSION_LINES replies few)) ∙ sym memory_is

  -- ---- the agent did not leave

  module _ (places : Places) (at n : ℕ) (heard : IsHeard dialect TheSubject asked from replies (Through places at n)) (has : HasHeard dialect TheSubject asked from replies (Through places at n)) where
    stays : (v : Account agent) → has_left v.heard ≡ false
    stays v =
        let count : length v.heard ≡ n + 0 = (let long = own_long v in let told = has.3 in omega (arith, long, told)) in
        let c = (has.0 (record { turns = 0; left = has_left v.heard; to = walked start v.heard })).there
        (recounted dialect TheSubject start all_lines replies (record { turns = length v.heard; left = has_left v.heard; to = walked start v.heard }) (n + 0) count (own_heard v)) in
        none_left c.turns c.count c.left
      where
        none_left : (turns : List Turn) → length turns ≡ 0 → has_left turns ≡ has_left v.heard → has_left v.heard ≡ false
        none_left [] none is = sym is
        none_left (turn ∷ turns) none is = absurd (omega (arith, none))

    -- the lines behind those with replies
    rest_lines : (v : Account agent) → v.unanswered ++ v.later ≡ lines_at asked at
    rest_lines v =
        let count : length v.answered ≡ n = items_long dialect.may_answer v.answered v.heard v.heard_items ∙ (sym (own_long v) ∙ has.3) in
        sym (drop_front v.answered (v.unanswered ++ v.later))
        ∙ (ap (λ (k : ℕ). drop k (v.answered ++ (v.unanswered ++ v.later))) count ∙ (ap (drop n) (sym (own_lines v)) ∙ has.2))

    -- something is left exactly if a line is, or the last reply has no end
    ends_so : (v : Account agent) → LeavesNothing v → HasNoLine (lines_at asked at)
    ends_so v w = by_last w.last
      where
        by_last : (has_left v.heard ≡ true) ⊎ HasNoLine v.later → HasNoLine (lines_at asked at)
        by_last (inl leaves) = absurd (let both : true ≡ false = sym leaves ∙ stays v in cc)
        by_last (inr end) =
            let none : v.unanswered ≡ [] = no_items (MayAsk dialect.may_answer) v.unanswered v.unheard w.all_heard v.unheard_items in
            subst HasNoLine (ap (λ (l : List TheLine). l ++ v.later) (sym none) ∙ rest_lines v) end

    nothing_left : (v : Account agent) → HasNoLine (lines_at asked at) → ended ≡ true → LeavesNothing v
    nothing_left v none is =
        let end = no_line (lines_at asked at) none in
        let unheard : v.unheard ≡ [] = no_turns (MayAsk dialect.may_answer) end.0 v.unanswered v.later v.unheard end.1 (rest_lines v ∙ end.2) v.unheard_items in
        let bare : v.unanswered ≡ [] = no_items (MayAsk dialect.may_answer) v.unanswered v.unheard unheard v.unheard_items in
        record {
          all_heard = unheard;
          last = inr (subst HasNoLine (sym (rest_lines v) ∙ ap (λ (l : List TheLine). l ++ v.later) bare) none);
          ended = ended_is.0 is;
        }

    stopped : (left : Difference) → IsStop dialect TheSubject places (lines_at asked at) n left → IsDifferent dialect TheSubject all_lines replies left
    stopped left is = by_kind left is.lowest (record {
      count = n + is.course.turns;
      replied = (let long = has.3 in omega (arith, long));
      turns = record { course = behind_course n is.course; has = (has.0 is.course).back is.has; count_is = refl; few = is.few };
      none = λ h. (let few = h.few in
          is.none (record { turns = is.course.turns + 1; left = h.course.left; to = h.course.to }) refl (omega (arith, few))
          ((has.0 (record { turns = is.course.turns + 1; left = h.course.left; to = h.course.to })).there
          (recounted dialect TheSubject start all_lines replies h.course (n + (is.course.turns + 1)) (let count = h.count_is in omega (arith, count)) h.has)));
      lowest = is.lowest;
    })
      where
        by_kind : (d : Difference) → IsLowestLeft TheSubject is.course.to d → IsFirstLeft dialect TheSubject all_lines replies d → IsDifferent dialect TheSubject all_lines replies d
        by_kind differences.Seat lowest f = f
        by_kind differences.Welcome lowest f = f
        by_kind (differences.Line k) lowest f = absurd lowest
        by_kind (differences.Entry good position) lowest f = f
        by_kind (differences.Cash position) lowest f = f
        by_kind differences.Cause lowest f = f

    pub through_accounted : (v : Vouching) → IsYesExactlyIf agent (IsAhead dialect TheSubject places (lines_at asked at) [] (SESSION_LINES - n)) v
        → IsFinished dialect TheSubject asked ended (Through places at n) v → TellsMemory memory v → IsAccounted game dialect log asked said v
    through_accounted v is how tells = record {
      yes = yes;
      whole = of_each (λ other w. IsWhole other v ↔ LeavesNothing w) (by_whole v is how);
      numbers = of_each (λ other w. HasNumbers dialect.text v w.heard w.unheard) (by_numbers v how tells);
      difference = by_difference v how;
    }
      where
        yes : (other : ℕ) → IsYes other v ↔ Account other
        yes other = (
          (λ did. (let found = (is other).0 did in subst Account found.0 (account_by (heard.0.back found.1)))),
          (λ found. (is other).1 (same other found, heard.0.there (to_ahead other found))),
        )

        by_whole : (u : Vouching) → IsYesExactlyIf agent (IsAhead dialect TheSubject places (lines_at asked at) [] (SESSION_LINES - n)) u
            → IsFinished dialect TheSubject asked ended (Through places at n) u → (w : Account agent) → IsWhole agent u ↔ LeavesNothing w
        by_whole (Whole seat count told) is' how' w = ((λ did. nothing_left w how'.1 how'.2), (λ none. (is' agent).1 (refl, heard.0.there (to_ahead agent w))))
        by_whole (Cut seat count after' told) is' how' w = ((λ never. absurd never), (λ none. how'.1 (ends_so w none) (ended_is.1 none.ended)))
        by_whole (Not difference) is' how' w = ((λ never. absurd never), (λ none. (is' agent).1 (refl, heard.0.there (to_ahead agent w))))

        by_numbers : (u : Vouching) → IsFinished dialect TheSubject asked ended (Through places at n) u → TellsMemory memory u → (w : Account agent) → HasNumbers dialect.text u w.heard w.unheard
        by_numbers (Whole seat count told) how' tells' w = (sym (own_long w) ∙ (has.3 ∙ sym how'.0), own_memory w ∙ sym tells')
        by_numbers (Cut seat count after' told) how' tells' w =
            (sym (own_long w) ∙ (has.3 ∙ sym how'.0), how'.2 (count_by has_entry w.unheard) (has.1 (count_by has_entry w.unheard) (own_finishes w)), own_memory w ∙ sym tells')
        by_numbers (Not difference) how' tells' w = tt

        by_difference : (u : Vouching) → IsFinished dialect TheSubject asked ended (Through places at n) u → IsDifferenceOf game dialect log asked said u
        by_difference (Whole seat count told) how' = tt
        by_difference (Cut seat count after' told) how' = tt
        by_difference (Not left) how' = different game dialect log asked said line all_lines first agent t boards table replies welcome left (stopped left how')

    -- what the lines show of the end of the session
    pub through_ending : (ending : Ending) → HasStayed dialect n (lines_at asked at) ending → EndsSo game dialect log asked said ending
    through_ending endings.Quit open' = absurd open'
    through_ending (endings.Open full over quits) open' = of_each (λ other w. IsEnding dialect w (endings.Open full over quits))
        (λ w. (stays w, subst (λ (l : ℕ × List TheLine). HasStayed dialect l.0 l.1 (endings.Open full over quits)) (λ i. (sym (count w) i, sym (rest_lines w) i)) open'))
      where
        count : (w : Account agent) → length w.heard ≡ n
        count w = sym (own_long w) ∙ has.3

  -- ---- the agent left

  gone_leaves : (n : ℕ) → HasHeard dialect TheSubject asked from replies (Gone n) → (w : Account agent) → has_left w.heard ≡ true
  gone_leaves n has w = has.3 (record { turns = length w.heard; left = has_left w.heard; to = walked start w.heard }) (sym (own_long w) ∙ has.2) (own_heard w)

  pub gone_ending : (n : ℕ) → HasHeard dialect TheSubject asked from replies (Gone n) → EndsSo game dialect log asked said endings.Quit
  gone_ending n has = of_each (λ other w. IsEnding dialect w endings.Quit) (gone_leaves n has)

  pub gone_accounted : (n : ℕ) → IsHeard dialect TheSubject asked from replies (Gone n) → HasHeard dialect TheSubject asked from replies (Gone n)
      → (v : Vouching) → v ≡ (if ended then Whole agent n memory else Cut agent n 0 memory) → IsAccounted game dialect log asked said v
  gone_accounted n heard has v is = record {
    yes = λ other. (
      (λ did. subst Account ((yes_so agent n 0 memory ended v is other).0 did) (account_by heard)),
      (λ found. (yes_so agent n 0 memory ended v is other).1 (same other found)),
    );
    whole = of_each (λ other w. IsWhole other v ↔ LeavesNothing w) (λ w. subst (λ (u : Vouching). IsWhole agent u ↔ LeavesNothing w) (sym is) (by_whole ended refl w));
    numbers = of_each (λ other w. HasNumbers dialect.text v w.heard w.unheard) (λ w. subst (λ (u : Vouching). HasNumbers dialect.text u w.heard w.unheard) (sym is) (by_numbers ended w));
    difference = subst (IsDifferenceOf game dialect log asked said) (sym is) (by_difference ended);
  }
    where
      by_whole : (b : Bool) → ended ≡ b → (w : Account agent) → IsWhole agent (if b then Whole agent n memory else Cut agent n 0 memory) ↔ LeavesNothing w
      by_whole true end w = (
        (λ own'. record { all_heard = left_last start w.heard w.unheard (own_allowed w) (gone_leaves n has w); last = inl (gone_leaves n has w); ended = ended_is.0 end }),
        (λ none. refl),
      )
      by_whole false end w = ((λ never. absurd never), (λ none. absurd (let both : true ≡ false = sym (ended_is.1 none.ended) ∙ end in cc)))

      by_numbers : (b : Bool) (w : Account agent) → HasNumbers dialect.text (if b then Whole agent n memory else Cut agent n 0 memory) w.heard w.unheard
      by_numbers true w = (sym (own_long w) ∙ has.2, own_memory w)
      by_numbers false w = (sym (own_long w) ∙ has.2, has.1 (count_by has_entry w.unheard) (own_finishes w), own_memory w)

      by_difference : (b : Bool) → IsDifferenceOf game dialect log asked said (if b then Whole agent n memory else Cut agent n 0 memory)
      by_difference true = tt
      by_difference false = tt

  -- ---- something differs

  pub different_ending : (IsAhead dialect TheSubject start all_lines replies SESSION_LINES → ⊥) → (ending : Ending) → EndsSo game dialect log asked said ending
  different_ending none ending other w = absurd (none (to_ahead other w))

  pub different_accounted : (difference : Difference) → (IsAhead dialect TheSubject start all_lines replies SESSION_LINES → ⊥) → IsDifferent dialect TheSubject all_lines replies difference
      → IsAccounted game dialect log asked said (Not difference)
  different_accounted difference none is = not_accounted game dialect log asked said difference (λ other found. none (to_ahead other found))
      (different game dialect log asked said line all_lines first agent t boards table replies welcome difference is)

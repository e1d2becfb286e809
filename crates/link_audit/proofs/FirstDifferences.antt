-- A log differs from a link at one place first, where a line shows what it asked.
use Rattle.std.proofs.Common.{◌≡◌, ℕ, zero, suc, ◌+◌, ◌<◌, ◌≤◌, List, [], ◌∷◌, ◌++◌, Bool, true, false, length, map, get_or, take, drop, Option, Some, None, Result, Ok, Err, refl, sym, ap, ◌∙◌, subst, arith, inl, inr, ◌⊎◌, ◌==◌, if◌then◌else◌, slice_index, slice_index_or, codes, take-append-drop, length-take-le, eq-eqb}
use Rattle.std.proofs.lemmas.Bool.Decides.{eqb_tells, leb_tells}
use Rattle.std.proofs.lemmas.Option.{slice_get_within}
use Rattle.link_audit.specs.{AGENT_CALLS, CASH_READINGS, GOODS, LINK_BYTES, SESSION_LINES, Board, Call, CashEntry, due_post, GameFile, all_answers, ended_line, LineGot, Seated, verdict_of, free_seats, Request, RequestFault, Said, json_text, IsLogged, LoggedGame, logged_history, Dialect, Item, Asks, Overlong, IsItem, Turn, Called, CallDenied, CashRead, CashDenied, Quoted, Refused, Skipped, Quit, asked_call, item_of, said_of, welcome_lines, Subject, AreAllowed, AreBoards, FitsReply, HasNext, ArePostedAt, IsAhead, IsAllowed, IsAnswerTo, IsEasier, IsNextInLog, IsNote, IsOver, MayBeReadAs, behind, behind_call, behind_turn, calls_left, cash_caller, cash_left, entry_caller, rest_of, start, AreAnswered, AreNext, HaveTurns, IsDifferent, IsFirstLeft, IsFirstLine, IsLowestLeft, walked, AccountsFor, DiffersBehind, HasOneDifference, HasSeatAndLines, IsFirstDifference, LacksWelcome, RefutesCause}
use Rattle.auction_rules.specs.History.{Entry}
use Rattle.json_dialect.specs.JsonRequests.{asks_json}
use Rattle.tac_io.specs.declared.line_got.LineGot.TheVariants as gots
use Rattle.line_protocol.specs.declared.asking.Request.TheVariants as requests
use Rattle.line_protocol.specs.declared.asking.RequestFault.TheVariants as faults
use Rattle.line_protocol.specs.declared.saying.Said.TheVariants as said
use Rattle.link_audit.specs.declared.places.Places.{Places}
use Rattle.link_audit.specs.declared.vouching.Difference.{Difference}
use Rattle.link_audit.specs.declared.vouching.Difference.TheVariants as differences
use Rattle.link_audit.specs.Vouchings.{json, words}
use Rattle.link_audit.proofs.Rest.{same_position}
use Rattle.link_audit.proofs.Easier.{easy_allowed, easy_next}
use Rattle.link_audit.proofs.Leading.{TheLine, first_line, other_lines}
use Rattle.link_audit.proofs.Courses.{allowed_back, allowed_front, answered_front, front_course, next_back, next_front, over_kept, walked_on}
use Rattle.link_audit.proofs.Steps.{answers}
use Rattle.link_audit.proofs.Vouched.{own_ahead, same_line}
use Rattle.link_audit.proofs.Accounted.{ahead_few, ahead_finishes}
use Rattle.link_audit.proofs.Welcomes.{same_rest}

-- ---- what a line asks

-- a line, with its reply if that arrived, asks one thing
abbrev pub IsKnown : Dialect → Type 0
IsKnown dialect = (heard : Bool) (line reply : List ℕ) (one other : Result Request RequestFault) (answer answer' : Said) → MayBeReadAs dialect.may_answer heard line one → MayBeReadAs dialect.may_answer heard line other
    → IsAnswerTo one answer → IsAnswerTo other answer' → FitsReply dialect heard reply answer → FitsReply dialect heard reply answer' → one ≡ other

words_known : IsKnown words
words_known true line reply one other answer answer' may may' to to' fits fits' = may ∙ sym may'
words_known false line reply one other answer answer' may may' to to' fits fits' = may.0 ∙ sym may'.0

-- no other reply has the text of that for want of memory
memory_alone : (answer : Said) → json_text answer ≡ codes "{\"no\":\"memory\"}" → answer ≡ said.Fault faults.Memory
memory_alone (said.At position reply) is = let byte : 97 ≡ 110 = ap (λ (text : List ℕ). get_or text 2 0) is in absurd (omega (arith, byte))
memory_alone (said.Cash position dollars) is = let byte : 97 ≡ 110 = ap (λ (text : List ℕ). get_or text 2 0) is in absurd (omega (arith, byte))
memory_alone (said.Quote board) is = let byte : 97 ≡ 110 = ap (λ (text : List ℕ). get_or text 2 0) is in absurd (omega (arith, byte))
memory_alone said.Spent is = let byte : 115 ≡ 109 = ap (λ (text : List ℕ). get_or text 7 0) is in absurd (omega (arith, byte))
memory_alone (said.Fault faults.Syntax) is = let byte : 115 ≡ 109 = ap (λ (text : List ℕ). get_or text 7 0) is in absurd (omega (arith, byte))
memory_alone (said.Fault faults.NoSuchAuction) is = let byte : 97 ≡ 109 = ap (λ (text : List ℕ). get_or text 7 0) is in absurd (omega (arith, byte))
memory_alone (said.Fault (faults.Bid fault)) is = let byte : 98 ≡ 109 = ap (λ (text : List ℕ). get_or text 7 0) is in absurd (omega (arith, byte))
memory_alone (said.Fault faults.Memory) is = refl
memory_alone said.TooLong is = let byte : 116 ≡ 109 = ap (λ (text : List ℕ). get_or text 7 0) is in absurd (omega (arith, byte))
memory_alone said.Bye is = let byte : 98 ≡ 110 = ap (λ (text : List ℕ). get_or text 2 0) is in absurd (omega (arith, byte))

-- what was answered so is a line for which there was no memory
no_memory : (one : Result Request RequestFault) (answer : Said) → IsAnswerTo one answer → answer ≡ said.Fault faults.Memory → one ≡ Err faults.Memory
no_memory (Ok request) answer to is = absurd (subst (IsAnswerTo (Ok request)) is to)
no_memory (Err fault) answer to is = let same : said.Fault fault ≡ said.Fault faults.Memory = sym to ∙ is in let alike : fault ≡ faults.Memory = cc in ap Err alike

memory_both : (line reply : List ℕ) (one other : Result Request RequestFault) (answer answer' : Said) → IsAnswerTo one answer → IsAnswerTo other answer' → json_text answer ≡ reply → json_text answer' ≡ reply
    → one ≡ Err faults.Memory → one ≡ other
memory_both line reply one other answer answer' to to' fits fits' is =
    let told : answer ≡ said.Fault faults.Memory = subst (λ (a : Result Request RequestFault). IsAnswerTo a answer) is to in
    let text : json_text answer' ≡ codes "{\"no\":\"memory\"}" = fits' ∙ (sym fits ∙ ap json_text told) in
    is ∙ sym (no_memory other answer' to' (memory_alone answer' text))

json_known : IsKnown json
json_known true line reply one other answer answer' (inl is) (inl is') to to' fits fits' = is ∙ sym is'
json_known true line reply one other answer answer' (inr is) may' to to' fits fits' = memory_both line reply one other answer answer' to to' (fits refl) (fits' refl) is
json_known true line reply one other answer answer' (inl is) (inr is') to to' fits fits' = sym (memory_both line reply other one answer' answer to' to (fits' refl) (fits refl) is')
json_known false line reply one other answer answer' may may' to to' fits fits' = by_both may.0 may'.0
  where
    by_both : (one ≡ asks_json line) ⊎ (one ≡ Err faults.Memory) → (other ≡ asks_json line) ⊎ (other ≡ Err faults.Memory) → one ≡ other
    by_both (inl is) (inl is') = is ∙ sym is'
    by_both (inr is) is' = absurd (may.1 is)
    by_both (inl is) (inr is') = absurd (may'.1 is')

-- ---- where a turn leads, by its item

-- the same places with nothing seen
abbrev unseen : Places → Places
unseen from = record from { seen = [] }

unseen_easier : (from : Places) → IsEasier (unseen from) from
unseen_easier from = record { next = refl; made = refl; cash = refl; readings = refl; seen = λ good low. omega arith }

unseen_after : (from : Places) (turn : Turn) → unseen (behind_turn from turn) ≡ unseen (behind_turn (unseen from) turn)
unseen_after from (Called request good position entry posted) = refl
unseen_after from (CallDenied request good) = refl
unseen_after from (CashRead position dollars) = refl
unseen_after from CashDenied = refl
unseen_after from (Quoted good board) = refl
unseen_after from (Refused fault) = refl
unseen_after from Skipped = refl
unseen_after from Quit = refl

module _ (s : Subject) where
  abbrev after_posts : ℕ → List CashEntry → List (ℕ × CashEntry) → ℕ
  after_posts from [] rest = from
  after_posts from (post ∷ posts) [] = from
  after_posts from (post ∷ posts) (next ∷ rest) = next.0 + 1

  abbrev after_call : Places → ℕ → List (ℕ × Entry) → Places
  after_call from good [] = unseen from
  after_call from good (next ∷ rest) = unseen (behind_call from good next.0 (after_posts from.cash (due_post good next.0 next.1) (cash_left s from.cash)))

  abbrev after_reading : Places → List (ℕ × CashEntry) → Places
  after_reading from [] = unseen from
  after_reading from (next ∷ rest) = unseen (record from { cash = next.0 + 1; readings = from.readings + 1 })

  abbrev after_other : Places → Request → Places
  after_other from requests.Cash = if from.readings == CASH_READINGS then unseen from else after_reading from (cash_left s from.cash)
  after_other from request = unseen from

  abbrev after_request : Places → Request → Option (ℕ × Call) → Places
  after_request from request (Some call) = if slice_index from.made call.0 == AGENT_CALLS then unseen from else after_call from call.0 (calls_left s from call.0)
  after_request from request None = after_other from request

  abbrev after_item : Places → Item → Places
  after_item from (Asks (Ok request)) = after_request from request (asked_call request)
  after_item from (Asks (Err fault)) = unseen from
  after_item from Overlong = unseen from

  not_full : (a b : ℕ) → a < b → (a == b) ≡ false
  not_full a b less = elim (eqb_tells a b) [ inl same ↦ absurd (let is = same.1 in omega (arith, less, is)) | inr other ↦ other.0 ]

  posts_so : (from : ℕ) (posts : List CashEntry) (posted : ℕ) → ArePostedAt s.agent s.log.cash from posts posted → behind from posts posted ≡ after_posts from posts (cash_left s from)
  posts_so from [] posted at = refl
  posts_so from (post ∷ posts) posted at = ap (after_posts from (post ∷ posts)) (sym at)

  leads_to : (from : Places) (turn : Turn) → IsAllowed from turn → IsNextInLog s from turn → unseen (behind_turn from turn) ≡ after_item from (item_of turn)
  leads_to from (Called request good position entry posted) allowed next =
      ap (λ (n : ℕ). unseen (behind_call from good position n)) (posts_so from.cash (due_post good position entry) posted next.1)
      ∙ (ap (after_call from good) (sym next.0)
      ∙ (ap (λ (b : Bool). if b then unseen from else after_call from good (calls_left s from good)) (sym (not_full (slice_index from.made good) AGENT_CALLS allowed.2))
      ∙ ap (after_request from request) (sym allowed.0)))
  leads_to from (CallDenied request good) allowed next =
      ap (λ (b : Bool). if b then unseen from else after_call from good (calls_left s from good)) (sym (eq-eqb (slice_index from.made good) AGENT_CALLS allowed.2))
      ∙ ap (after_request from request) (sym allowed.0.1)
  leads_to from (CashRead position dollars) allowed next =
      ap (after_reading from) (sym next) ∙ ap (λ (b : Bool). if b then unseen from else after_reading from (cash_left s from.cash)) (sym (not_full from.readings CASH_READINGS allowed))
  leads_to from CashDenied allowed next = ap (λ (b : Bool). if b then unseen from else after_reading from (cash_left s from.cash)) (sym (eq-eqb from.readings CASH_READINGS allowed))
  leads_to from (Quoted good board) allowed next = refl
  leads_to from (Refused fault) allowed next = refl
  leads_to from Skipped allowed next = refl
  leads_to from Quit allowed next = refl

  -- turns with one item lead to places that differ in what was seen alone
  same_after : (from from' : Places) (turn turn' : Turn) → unseen from ≡ unseen from' → item_of turn ≡ item_of turn' → IsAllowed from turn → IsAllowed from' turn' → IsNextInLog s from turn → IsNextInLog s from' turn'
      → unseen (behind_turn from turn) ≡ unseen (behind_turn from' turn')
  same_after from from' turn turn' same item allowed allowed' next next' =
      by_one from turn allowed next ∙ ((λ i. after_item (same i) (item i)) ∙ sym (by_one from' turn' allowed' next'))
    where
      by_one : (p : Places) (t : Turn) → IsAllowed p t → IsNextInLog s p t → unseen (behind_turn p t) ≡ after_item (unseen p) (item_of t)
      by_one p t here is = unseen_after p t ∙ leads_to (unseen p) t (easy_allowed (unseen p) p (unseen_easier p) t here) (easy_next s (unseen p) p (unseen_easier p) t is)

  module _ (dialect : Dialect) (known : IsKnown dialect) where
    same_item : (heard : Bool) (reply : List ℕ) (line : TheLine) (turn turn' : Turn) → IsItem (MayBeReadAs dialect.may_answer heard) line (item_of turn) → IsItem (MayBeReadAs dialect.may_answer heard) line (item_of turn')
        → FitsReply dialect heard reply (said_of turn) → FitsReply dialect heard reply (said_of turn') → item_of turn ≡ item_of turn'
    same_item heard reply line turn turn' is is' fits fits' = by_items line.0 line.1 (item_of turn) (item_of turn') refl refl is is'
      where
        by_items : (got : LineGot) (text : List ℕ) (item item' : Item) → item_of turn ≡ item → item_of turn' ≡ item' → IsItem (MayBeReadAs dialect.may_answer heard) (got, text) item
            → IsItem (MayBeReadAs dialect.may_answer heard) (got, text) item' → item ≡ item'
        by_items gots.Line text (Asks asked) (Asks asked') one one' may may' = ap Asks (known heard text reply asked asked' (said_of turn) (said_of turn') may may' (answers turn asked one) (answers turn' asked' one') fits fits')
        by_items gots.Line text (Asks asked) Overlong one one' may may' = absurd may'
        by_items gots.Line text Overlong item' one one' may may' = absurd may
        by_items gots.TooLong text (Asks asked) item' one one' may may' = absurd may
        by_items gots.TooLong text Overlong (Asks asked) one one' may may' = absurd may'
        by_items gots.TooLong text Overlong Overlong one one' may may' = refl
        by_items gots.End text item item' one one' may may' = absurd may
        by_items gots.Failed text item item' one one' may may' = absurd may
        by_items gots.Budget text item item' one one' may may' = absurd may

    -- as many turns of the same lines lead to places that differ in what was seen alone
    same_places : (from from' : Places) (turns turns' : List Turn) (lines : List TheLine) (replies : List (List ℕ)) → length turns ≡ length turns' → unseen from ≡ unseen from'
        → AreAnswered dialect turns lines replies → AreAnswered dialect turns' lines replies → AreAllowed from turns → AreAllowed from' turns' → AreNext s from turns → AreNext s from' turns'
        → unseen (walked from turns) ≡ unseen (walked from' turns')
    same_places from from' [] [] lines replies long same is is' allowed allowed' next next' = same
    same_places from from' [] (turn' ∷ turns') lines replies long same is is' allowed allowed' next next' = absurd (omega (arith, long))
    same_places from from' (turn ∷ turns) [] lines replies long same is is' allowed allowed' next next' = absurd (omega (arith, long))
    same_places from from' (turn ∷ turns) (turn' ∷ turns') [] replies long same is is' allowed allowed' next next' = absurd is
    same_places from from' (turn ∷ turns) (turn' ∷ turns') (line ∷ lines) [] long same is is' allowed allowed' next next' =
        let item = same_item false [] line turn turn' is.0 is'.0 (λ came. absurd cc) (λ came. absurd cc) in
        same_places (behind_turn from turn) (behind_turn from' turn') turns turns' lines [] (omega (arith, long)) (same_after from from' turn turn' same item allowed.0 allowed'.0 next.0 next'.0) is.1 is'.1 allowed.2 allowed'.2 next.1 next'.1
    same_places from from' (turn ∷ turns) (turn' ∷ turns') (line ∷ lines) (reply ∷ replies) long same is is' allowed allowed' next next' =
        let item = same_item true reply line turn turn' is.0 is'.0 (λ came. is.1) (λ came. is'.1) in
        same_places (behind_turn from turn) (behind_turn from' turn') turns turns' lines replies (omega (arith, long)) (same_after from from' turn turn' same item allowed.0 allowed'.0 next.0 next'.0) is.2 is'.2 allowed.2 allowed'.2 next.1 next'.1

  -- ---- the lowest entry that is left

  lowest_at : (from to : Places) (d : Difference) → to.next ≡ from.next → to.cash ≡ from.cash → IsLowestLeft s from d → IsLowestLeft s to d
  lowest_at from to differences.Seat next cash is = is
  lowest_at from to differences.Welcome next cash is = is
  lowest_at from to (differences.Line line) next cash is = is
  lowest_at from to (differences.Entry good position) next cash is = (
    is.0,
    (λ g low. ap (λ (l : List ℕ). rest_of entry_caller s.agent (slice_index l g) (logged_history s.log g)) next ∙ is.1 g low),
    (is.2.0, ap (λ (l : List ℕ). rest_of entry_caller s.agent (slice_index l good) (logged_history s.log good)) next ∙ is.2.1),
  )
  lowest_at from to (differences.Cash position) next cash is = (
    (λ g low. ap (λ (l : List ℕ). rest_of entry_caller s.agent (slice_index l g) (logged_history s.log g)) next ∙ is.0 g low),
    (is.1.0, ap (λ (n : ℕ). rest_of cash_caller s.agent n s.log.cash) cash ∙ is.1.1),
  )
  lowest_at from to differences.Cause next cash is = is

  none_next : {E : Type 0} (caller_of : E → ℕ) (from position : ℕ) (history : List E) (e : E) → rest_of caller_of s.agent from history ≡ [] → HasNext caller_of s.agent from history position e → ⊥
  none_next caller_of from position history e none next =
      let both : [] ≡ (position, e) ∷ rest_of caller_of s.agent (position + 1) history = sym none ∙ next in cc

  one_next : {E : Type 0} (caller_of : E → ℕ) (from position position' : ℕ) (history : List E) (e e' : E) → HasNext caller_of s.agent from history position e → HasNext caller_of s.agent from history position' e'
      → position ≡ position'
  one_next caller_of from position position' history e e' next next' =
      same_position position position' e e' (rest_of caller_of s.agent (position + 1) history) (rest_of caller_of s.agent (position' + 1) history) (sym next ∙ next')

  over_lowest : (from : Places) (d : Difference) → IsOver s from → IsLowestLeft s from d → ⊥
  over_lowest from differences.Seat over is = is
  over_lowest from differences.Welcome over is = is
  over_lowest from (differences.Line line) over is = is
  over_lowest from (differences.Entry good position) over is = none_next entry_caller (slice_index from.next good) position (logged_history s.log good) is.2.0 (over.calls good is.0) is.2.1
  over_lowest from (differences.Cash position) over is = none_next cash_caller from.cash position s.log.cash is.1.0 over.cash is.1.1
  over_lowest from differences.Cause over is = is

  one_lowest : (from : Places) (d d' : Difference) → IsLowestLeft s from d → IsLowestLeft s from d' → d ≡ d'
  one_lowest from differences.Seat d' is is' = absurd is
  one_lowest from differences.Welcome d' is is' = absurd is
  one_lowest from (differences.Line line) d' is is' = absurd is
  one_lowest from differences.Cause d' is is' = absurd is
  one_lowest from (differences.Entry good position) differences.Seat is is' = absurd is'
  one_lowest from (differences.Entry good position) differences.Welcome is is' = absurd is'
  one_lowest from (differences.Entry good position) (differences.Line line) is is' = absurd is'
  one_lowest from (differences.Entry good position) differences.Cause is is' = absurd is'
  one_lowest from (differences.Entry good position) (differences.Entry good' position') is is' =
      let next = is.2.1 in let next' = is'.2.1 in
      let low : good' ≤ good = elim (leb_tells good' good) [
        | inl le ↦ le.1
        | inr less ↦ absurd (none_next entry_caller (slice_index from.next good) position (logged_history s.log good) is.2.0 (is'.1 good less.1) next)
      ] in
      let high : good ≤ good' = elim (leb_tells good good') [
        | inl le ↦ le.1
        | inr less ↦ absurd (none_next entry_caller (slice_index from.next good') position' (logged_history s.log good') is'.2.0 (is.1 good' less.1) next')
      ] in
      let same : good' ≡ good = omega (arith, low, high) in
      let at = one_next entry_caller (slice_index from.next good) position position' (logged_history s.log good) is.2.0 is'.2.0 next
      (subst (λ (g : ℕ). HasNext entry_caller s.agent (slice_index from.next g) (logged_history s.log g) position' is'.2.0) same next') in
      λ i. differences.Entry (sym same i) (at i)
  one_lowest from (differences.Entry good position) (differences.Cash position') is is' =
      absurd (none_next entry_caller (slice_index from.next good) position (logged_history s.log good) is.2.0 (is'.0 good is.0) is.2.1)
  one_lowest from (differences.Cash position) differences.Seat is is' = absurd is'
  one_lowest from (differences.Cash position) differences.Welcome is is' = absurd is'
  one_lowest from (differences.Cash position) (differences.Line line) is is' = absurd is'
  one_lowest from (differences.Cash position) differences.Cause is is' = absurd is'
  one_lowest from (differences.Cash position) (differences.Entry good position') is is' =
      absurd (none_next entry_caller (slice_index from.next good) position' (logged_history s.log good) is'.2.0 (is.0 good is'.0) is'.2.1)
  one_lowest from (differences.Cash position) (differences.Cash position') is is' =
      ap differences.Cash (one_next cash_caller from.cash position position' s.log.cash is.1.0 is'.1.0 is.1.1 is'.1.1)

  over_at : (from to : Places) → to.next ≡ from.next → to.cash ≡ from.cash → IsOver s from → IsOver s to
  over_at from to next cash over = record {
    calls = λ good low. ap (λ (l : List ℕ). rest_of entry_caller s.agent (slice_index l good) (logged_history s.log good)) next ∙ over.calls good low;
    cash = ap (λ (n : ℕ). rest_of cash_caller s.agent n s.log.cash) cash ∙ over.cash;
  }

  -- ---- how many lines have turns

  module _ (dialect : Dialect) (known : IsKnown dialect) (lines : List TheLine) (replies : List (List ℕ)) where
    fewer_turns : (n m : ℕ) → m ≤ n → HaveTurns dialect s lines replies n → HaveTurns dialect s lines replies m
    fewer_turns n m le h =
        let turns = h.has.turns in
        let parts : turns ≡ take m turns ++ drop m turns = sym (take-append-drop m turns) in
        let count = h.has.count in let count_is = h.count_is in let few = h.few in
        record {
          course = record { turns = length (take m turns); left = _; to = _ };
          has = front_course dialect s start lines replies (take m turns) (drop m turns) (subst (λ (l : List Turn). AreAnswered dialect l lines replies) parts h.has.answered)
              (subst (AreAllowed start) parts h.has.allowed) (subst (AreNext s start) parts h.has.next);
          count_is = length-take-le m turns (omega (arith, le, count, count_is));
          few = omega (arith, le, few);
        }

    same_count : (n m : ℕ) → HaveTurns dialect s lines replies n → (HaveTurns dialect s lines replies (n + 1) → ⊥) → HaveTurns dialect s lines replies m → (HaveTurns dialect s lines replies (m + 1) → ⊥) → n ≡ m
    same_count n m h none h' none' =
        let low : n ≤ m = elim (leb_tells n m) [ inl le ↦ le.1 | inr less ↦ absurd (none' (fewer_turns n (m + 1) (let l = less.1 in omega (arith, l)) h)) ] in
        let high : m ≤ n = elim (leb_tells m n) [ inl le ↦ le.1 | inr less ↦ absurd (none (fewer_turns m (n + 1) (let l = less.1 in omega (arith, l)) h')) ] in
        omega (arith, low, high)

    -- as many turns end at the same places
    same_end : (h h' : (n : ℕ) × HaveTurns dialect s lines replies n) → h.0 ≡ h'.0 → unseen (walked start h.1.has.turns) ≡ unseen (walked start h'.1.has.turns)
    same_end h h' same =
        let a = h.1.has.count in let b = h.1.count_is in let a' = h'.1.has.count in let b' = h'.1.count_is in
        same_places dialect known start start h.1.has.turns h'.1.has.turns lines replies (omega (arith, same, a, b, a', b')) refl h.1.has.answered h'.1.has.answered h.1.has.allowed h'.1.has.allowed h.1.has.next h'.1.has.next

    one_left : (d d' : Difference) → IsFirstLeft dialect s lines replies d → IsFirstLeft dialect s lines replies d' → d ≡ d'
    one_left d d' f f' =
        let count = same_count f.count f'.count f.turns f.none f'.turns f'.none in
        let end = same_end (f.count, f.turns) (f'.count, f'.turns) count in
        let here = walked start f.turns.has.turns in let there = walked start f'.turns.has.turns in
        one_lowest here d d' (lowest_at f.turns.course.to here d f.turns.has.to.next f.turns.has.to.cash f.lowest)
        (lowest_at f'.turns.course.to here d' (ap (λ (p : Places). p.next) end ∙ f'.turns.has.to.next) (ap (λ (p : Places). p.cash) end ∙ f'.turns.has.to.cash) f'.lowest)

    one_line : (n n' : ℕ) → IsFirstLine dialect s lines replies n → IsFirstLine dialect s lines replies n' → n ≡ n'
    one_line n n' f f' =
        let count = same_count f.before f'.before f.others (λ h. f.none (subst (HaveTurns dialect s lines replies) (sym f.line_is) h)) f'.others
        (λ h. f'.none (subst (HaveTurns dialect s lines replies) (sym f'.line_is) h)) in
        let is = f.line_is in let is' = f'.line_is in omega (arith, count, is, is')

    line_left : (n : ℕ) (d : Difference) → IsFirstLine dialect s lines replies n → IsFirstLeft dialect s lines replies d → ⊥
    line_left n d f f' = f.none (fewer_turns f'.count n (let few = f.replied in let many = f'.replied in omega (arith, few, many)) f'.turns)

    -- where the lines account for the log, nothing differs
    module _ (a : IsAhead dialect s start lines replies SESSION_LINES) where
      finished : (n : ℕ) × HaveTurns dialect s lines replies n
      finished =
          let f = ahead_finishes dialect s lines replies SESSION_LINES a in (
            length f.turns,
            record {
              course = record { turns = length f.turns; left = _; to = walked start f.turns };
              has = record { turns = f.turns; answered = f.answered; allowed = f.allowed; next = f.next; count = refl; left = refl; to = record { next = refl; made = refl; cash = refl; readings = refl; seen = λ good low. omega arith } };
              count_is = refl;
              few = ahead_few dialect s lines replies SESSION_LINES a;
            },
          )

      no_line_differs : (n : ℕ) → IsFirstLine dialect s lines replies n → ⊥
      unfolding finished
      no_line_differs n f = let replied = f.replied in let many = (ahead_finishes dialect s lines replies SESSION_LINES a).replied in f.none (fewer_turns finished.0 n (omega (arith, replied, many)) finished.1)

      none_left : (d : Difference) → IsFirstLeft dialect s lines replies d → ⊥
      unfolding finished
      none_left d f =
          let all = ahead_finishes dialect s lines replies SESSION_LINES a in
          let turns = f.turns.has.turns in let n = length all.turns in
          let low : n ≤ f.count = elim (leb_tells n f.count) [ inl le ↦ le.1 | inr less ↦ absurd (f.none (fewer_turns n (f.count + 1) (let l = less.1 in omega (arith, l)) finished.1)) ] in
          let xs = take n turns in let ys = drop n turns in
          let parts : turns ≡ xs ++ ys = sym (take-append-drop n turns) in
          let allowed : AreAllowed start (xs ++ ys) = subst (AreAllowed start) parts f.turns.has.allowed in
          let next : AreNext s start (xs ++ ys) = subst (AreNext s start) parts f.turns.has.next in
          let answered : AreAnswered dialect (xs ++ ys) lines replies = subst (λ (l : List Turn). AreAnswered dialect l lines replies) parts f.turns.has.answered in
          let long : length xs ≡ n = length-take-le n turns (let count = f.turns.has.count in let is = f.turns.count_is in omega (arith, low, count, is)) in
          let end = same_places dialect known start start xs all.turns lines replies long refl (answered_front dialect xs ys lines replies answered) all.answered (allowed_front start xs ys allowed) all.allowed
          (next_front s start xs ys next) all.next in
          let here : IsOver s (walked start xs) = over_at (walked start all.turns) (walked start xs) (ap (λ (p : Places). p.next) end) (ap (λ (p : Places). p.cash) end) all.over in
          let there : IsOver s (walked start turns) = subst (λ (l : List Turn). IsOver s (walked start l)) (sym parts) (subst (IsOver s) (sym (walked_on start xs ys))
          (over_kept s (walked start xs) ys here (allowed_back start xs ys allowed) (next_back s start xs ys next))) in
          over_lowest f.turns.course.to d (over_at (walked start turns) f.turns.course.to (sym f.turns.has.to.next) (sym f.turns.has.to.cash) there) f.lowest

-- ---- the boards

module _ (game : GameFile) (log : LoggedGame) (agent : ℕ) (boards boards' : List (List Board)) (table : AreBoards game log boards) (table' : AreBoards game log boards') where
  abbrev one : Subject
  one = record { log = log; boards = boards; agent = agent }

  abbrev other : Subject
  other = record { log = log; boards = boards'; agent = agent }

  note_again : (good count : ℕ) (board : Board) → good < GOODS → IsNote one good (count, board) → IsNote other good (count, board)
  note_again good count board low is =
      let inside = slice_get_within (slice_index_or boards good []) count board is in
      let few : count ≤ length (logged_history log good) = (let long = table.long good low in omega (arith, inside, long)) in
      table'.each good count low few ∙ (sym (table.each good count low few) ∙ is)

  next_again : (from : Places) (turns : List Turn) → AreAllowed from turns → AreNext one from turns → AreNext other from turns
  next_again from [] allowed next = tt
  next_again from (turn ∷ turns) allowed next = (by_turn turn allowed.0 next.0, next_again (behind_turn from turn) turns allowed.2 next.1)
    where
      by_turn : (t : Turn) → IsAllowed from t → IsNextInLog one from t → IsNextInLog other from t
      by_turn (Called request good position entry posted) here is = is
      by_turn (CallDenied request good) here is = is
      by_turn (CashRead position dollars) here is = is
      by_turn CashDenied here is = is
      by_turn (Quoted good board) here is = note_again good board.count board here.0 is
      by_turn (Refused fault) here is = is
      by_turn Skipped here is = is
      by_turn Quit here is = is

  module _ (dialect : Dialect) (lines : List TheLine) (replies : List (List ℕ)) where
    turns_again : (n : ℕ) → HaveTurns dialect one lines replies n → HaveTurns dialect other lines replies n
    turns_again n h = record {
      course = h.course;
      has = record { turns = h.has.turns; answered = h.has.answered; allowed = h.has.allowed; next = next_again start h.has.turns h.has.allowed h.has.next; count = h.has.count; left = h.has.left; to = h.has.to };
      count_is = h.count_is;
      few = h.few;
    }

module _ (game : GameFile) (log : LoggedGame) (agent : ℕ) (boards boards' : List (List Board)) (table : AreBoards game log boards) (table' : AreBoards game log boards')
    (dialect : Dialect) (lines : List TheLine) (replies : List (List ℕ)) where
  there : (n : ℕ) → HaveTurns dialect (one game log agent boards boards' table table') lines replies n → HaveTurns dialect (other game log agent boards boards' table table') lines replies n
  there = turns_again game log agent boards boards' table table' dialect lines replies

  back : (n : ℕ) → HaveTurns dialect (other game log agent boards boards' table table') lines replies n → HaveTurns dialect (one game log agent boards boards' table table') lines replies n
  back = turns_again game log agent boards' boards table' table dialect lines replies

  lowest_again : (from : Places) (d : Difference) → IsLowestLeft (one game log agent boards boards' table table') from d → IsLowestLeft (other game log agent boards boards' table table') from d
  lowest_again from differences.Seat is = is
  lowest_again from differences.Welcome is = is
  lowest_again from (differences.Line line) is = is
  lowest_again from (differences.Entry good position) is = is
  lowest_again from (differences.Cash position) is = is
  lowest_again from differences.Cause is = is

  left_again : (d : Difference) → IsFirstLeft dialect (one game log agent boards boards' table table') lines replies d → IsFirstLeft dialect (other game log agent boards boards' table table') lines replies d
  unfolding there turns_again
  left_again d f = record { count = f.count; replied = f.replied; turns = there f.count f.turns; none = λ h. f.none (back (f.count + 1) h); lowest = lowest_again f.turns.course.to d f.lowest }

  differs_again : (d : Difference) → IsDifferent dialect (one game log agent boards boards' table table') lines replies d → IsDifferent dialect (other game log agent boards boards' table table') lines replies d
  differs_again differences.Seat f = left_again differences.Seat f
  differs_again differences.Welcome f = left_again differences.Welcome f
  differs_again (differences.Line line) f = record { before = f.before; line_is = f.line_is; replied = f.replied; others = there f.before f.others; none = λ h. f.none (back line h) }
  differs_again (differences.Entry good position) f = left_again (differences.Entry good position) f
  differs_again (differences.Cash position) f = left_again (differences.Cash position) f
  differs_again differences.Cause f = left_again differences.Cause f

-- ---- one difference

module _ (s : Subject) (dialect : Dialect) (known : IsKnown dialect) (lines : List TheLine) (replies : List (List ℕ)) where
  abbrev Differs : Difference → Type 0
  Differs d = IsDifferent dialect s lines replies d

  one_left_by : (d d' : Difference) → IsFirstLeft dialect s lines replies d → Differs d' → d ≡ d'
  one_left_by d differences.Seat f f' = absurd (let lowest = f'.lowest in lowest)
  one_left_by d differences.Welcome f f' = absurd (let lowest = f'.lowest in lowest)
  one_left_by d (differences.Line line) f f' = absurd (line_left s dialect known lines replies line d f' f)
  one_left_by d (differences.Entry good position) f f' = one_left s dialect known lines replies d (differences.Entry good position) f f'
  one_left_by d (differences.Cash position) f f' = one_left s dialect known lines replies d (differences.Cash position) f f'
  one_left_by d differences.Cause f f' = absurd (let lowest = f'.lowest in lowest)

  one_line_by : (n : ℕ) (d' : Difference) → IsFirstLine dialect s lines replies n → Differs d' → differences.Line n ≡ d'
  one_line_by n differences.Seat f f' = absurd (let lowest = f'.lowest in lowest)
  one_line_by n differences.Welcome f f' = absurd (let lowest = f'.lowest in lowest)
  one_line_by n (differences.Line line) f f' = ap differences.Line (one_line s dialect known lines replies n line f f')
  one_line_by n (differences.Entry good position) f f' = absurd (line_left s dialect known lines replies n (differences.Entry good position) f f')
  one_line_by n (differences.Cash position) f f' = absurd (line_left s dialect known lines replies n (differences.Cash position) f f')
  one_line_by n differences.Cause f f' = absurd (let lowest = f'.lowest in lowest)

  one_differs : (d d' : Difference) → Differs d → Differs d' → d ≡ d'
  one_differs differences.Seat d' f f' = absurd (let lowest = f.lowest in lowest)
  one_differs differences.Welcome d' f f' = absurd (let lowest = f.lowest in lowest)
  one_differs (differences.Line line) d' f f' = one_line_by line d' f f'
  one_differs (differences.Entry good position) d' f f' = one_left_by (differences.Entry good position) d' f f'
  one_differs (differences.Cash position) d' f f' = one_left_by (differences.Cash position) d' f f'
  one_differs differences.Cause d' f f' = absurd (let lowest = f.lowest in lowest)

  none_differs : IsAhead dialect s start lines replies SESSION_LINES → (d : Difference) → Differs d → ⊥
  none_differs a differences.Seat f = (let lowest = f.lowest in lowest)
  none_differs a differences.Welcome f = (let lowest = f.lowest in lowest)
  none_differs a (differences.Line line) f = no_line_differs s dialect known lines replies a line f
  none_differs a (differences.Entry good position) f = none_left s dialect known lines replies a (differences.Entry good position) f
  none_differs a (differences.Cash position) f = none_left s dialect known lines replies a (differences.Cash position) f
  none_differs a differences.Cause f = (let lowest = f.lowest in lowest)

-- a line that was given is no longer than a line may be
line_is : (before bytes : List ℕ) (room : ℕ) (line : List ℕ) (lines : List TheLine) → all_answers before room bytes ≡ (gots.Line, line) ∷ lines → (gots.Line, line) ≡ ended_line line
line_is before bytes zero line lines is = absurd (let kind : gots.Budget ≡ gots.Line = ap (λ (l : List TheLine). (first_line (gots.End, []) l).0) is in cc)
line_is before [] (suc room) line lines is = absurd (let kind : gots.End ≡ gots.Line = ap (λ (l : List TheLine). (first_line (gots.End, []) l).0) is in cc)
line_is before (byte ∷ bytes) (suc room) line lines is = by_test (byte == 10) is (λ h. line_is (before ++ byte ∷ []) bytes room line lines h)
  where
    by_test : (b : Bool) → (if b then ended_line before ∷ all_answers [] room bytes else all_answers (before ++ byte ∷ []) room bytes) ≡ (gots.Line, line) ∷ lines
        → (all_answers (before ++ byte ∷ []) room bytes ≡ (gots.Line, line) ∷ lines → (gots.Line, line) ≡ ended_line line) → (gots.Line, line) ≡ ended_line line
    by_test true h on = let here : ended_line before ≡ (gots.Line, line) = ap (first_line (ended_line before)) h in sym here ∙ ap ended_line (sym (same_line before line here))
    by_test false h on = on h

module _ (game : GameFile) (dialect : Dialect) (known : IsKnown dialect) (log : LoggedGame) (logged : IsLogged log) (asked said : List ℕ) where
  -- the greeting and the lines are determined
  same_greeting : (agent agent' : ℕ) (lines lines' : List TheLine) → HasSeatAndLines game log asked agent lines → HasSeatAndLines game log asked agent' lines' → (agent ≡ agent') × (lines ≡ lines')
  same_greeting agent agent' lines lines' g g' =
      let both : (gots.Line, g.line) ∷ lines ≡ (gots.Line, g'.line) ∷ lines' = sym g.first ∙ g'.first in
      let line : g.line ≡ g'.line = ap (λ (l : List TheLine). (first_line (gots.End, []) l).1) both in
      ((let two : Seated agent ≡ Seated agent' = sym g.seat ∙ (ap (verdict_of (free_seats game)) line ∙ g'.seat) in cc), ap other_lines both)

  greeted : (agent : ℕ) (v : AccountsFor game dialect log agent asked said) → HasSeatAndLines game log asked agent (v.answered ++ (v.unanswered ++ v.later))
  greeted agent v = record { line = v.line; first = v.lines; seat = v.seat; listed = v.listed }

  -- the kinds of a first difference
  data Kind (d : Difference) : Type 0 where
    NoSeat : d ≡ differences.Seat → IsFirstDifference game dialect log asked said differences.Seat → Kind d
    NoWelcome : d ≡ differences.Welcome → LacksWelcome game log asked said → Kind d
    Behind : DiffersBehind game dialect log asked said d → Kind d
    NoCause : d ≡ differences.Cause → RefutesCause game dialect log asked said → Kind d

  kind_of : (d : Difference) → IsFirstDifference game dialect log asked said d → Kind d
  kind_of differences.Seat is = NoSeat refl is
  kind_of differences.Welcome is = NoWelcome refl is
  kind_of (differences.Line line) is = Behind is
  kind_of (differences.Entry good position) is = Behind is
  kind_of (differences.Cash position) is = Behind is
  kind_of differences.Cause is = NoCause refl is

  welcome_behind : (d : Difference) → LacksWelcome game log asked said → DiffersBehind game dialect log asked said d → ⊥
  welcome_behind d w b =
      let same = same_greeting w.agent b.agent w.lines b.lines w.greeted b.greeted in
      w.none b.replies (b.welcomed ∙ ap (λ (agent : ℕ). welcome_lines game agent ++ b.replies) (sym same.0))

  welcome_cause : LacksWelcome game log asked said → RefutesCause game dialect log asked said → ⊥
  welcome_cause w r =
      let v = r.account in
      let same = same_greeting w.agent r.agent w.lines (v.answered ++ (v.unanswered ++ v.later)) w.greeted (greeted r.agent v) in
      let replies = map (λ turn. dialect.text (said_of turn)) v.heard in
      w.none replies (v.replies ∙ ap (λ (agent : ℕ). welcome_lines game agent ++ replies) (sym same.0))

  behind_cause : (d : Difference) → DiffersBehind game dialect log asked said d → RefutesCause game dialect log asked said → ⊥
  behind_cause d b r =
      let v = r.account in
      let same = same_greeting r.agent b.agent (v.answered ++ (v.unanswered ++ v.later)) b.lines (greeted r.agent v) b.greeted in
      let account : AccountsFor game dialect log b.agent asked said = subst (λ (agent : ℕ). AccountsFor game dialect log agent asked said) same.0 v in
      let first : all_answers [] LINK_BYTES asked ≡ ended_line b.greeted.line ∷ b.lines = b.greeted.first ∙ (λ i. seat_line i ∷ b.lines) in
      none_differs (record { log = log; boards = b.boards; agent = b.agent }) dialect known b.lines b.replies
      (own_ahead game dialect log asked said b.greeted.line b.lines first b.agent (record { ended = sym seat_line; seat = b.greeted.seat; listed = b.greeted.listed }) logged.goods b.boards b.boards_are b.replies b.welcomed account)
      d b.differs
    where
      seat_line : (gots.Line, b.greeted.line) ≡ ended_line b.greeted.line
      seat_line = line_is [] asked LINK_BYTES b.greeted.line b.lines b.greeted.first

  both_behind : (d d' : Difference) → DiffersBehind game dialect log asked said d → DiffersBehind game dialect log asked said d' → d ≡ d'
  both_behind d d' b b' =
      let same = same_greeting b'.agent b.agent b'.lines b.lines b'.greeted b.greeted in
      let replies : b'.replies ≡ b.replies = same_rest (welcome_lines game b.agent) b'.replies b.replies (ap (λ (agent : ℕ). welcome_lines game agent ++ b'.replies) (sym same.0) ∙ (sym b'.welcomed ∙ b.welcomed)) in
      let moved : IsDifferent dialect (record { log = log; boards = b'.boards; agent = b.agent }) b.lines b.replies d' =
      subst (λ (w : ℕ × List TheLine × List (List ℕ)). IsDifferent dialect (record { log = log; boards = b'.boards; agent = w.0 }) w.1 w.2 d') (λ i. (same.0 i, same.1 i, replies i)) b'.differs in
      one_differs (record { log = log; boards = b.boards; agent = b.agent }) dialect known b.lines b.replies d d' b.differs
      (differs_again game log b.agent b'.boards b.boards b'.boards_are b.boards_are dialect b.lines b.replies d' moved)

  by_kinds : (d d' : Difference) → Kind d → Kind d' → d ≡ d'
  by_kinds d d' (NoSeat is none) (NoSeat is' none') = is ∙ sym is'
  by_kinds d d' (NoSeat is none) (NoWelcome is' w) = absurd (none w.agent w.lines w.greeted)
  by_kinds d d' (NoSeat is none) (Behind b) = absurd (none b.agent b.lines b.greeted)
  by_kinds d d' (NoSeat is none) (NoCause is' r) = absurd (none r.agent (r.account.answered ++ (r.account.unanswered ++ r.account.later)) (greeted r.agent r.account))
  by_kinds d d' (NoWelcome is w) (NoSeat is' none) = absurd (none w.agent w.lines w.greeted)
  by_kinds d d' (NoWelcome is w) (NoWelcome is' w') = is ∙ sym is'
  by_kinds d d' (NoWelcome is w) (Behind b) = absurd (welcome_behind d' w b)
  by_kinds d d' (NoWelcome is w) (NoCause is' r) = absurd (welcome_cause w r)
  by_kinds d d' (Behind b) (NoSeat is' none) = absurd (none b.agent b.lines b.greeted)
  by_kinds d d' (Behind b) (NoWelcome is' w) = absurd (welcome_behind d w b)
  by_kinds d d' (Behind b) (Behind b') = both_behind d d' b b'
  by_kinds d d' (Behind b) (NoCause is' r) = absurd (behind_cause d b r)
  by_kinds d d' (NoCause is r) (NoSeat is' none) = absurd (none r.agent (r.account.answered ++ (r.account.unanswered ++ r.account.later)) (greeted r.agent r.account))
  by_kinds d d' (NoCause is r) (NoWelcome is' w) = absurd (welcome_cause w r)
  by_kinds d d' (NoCause is r) (Behind b) = absurd (behind_cause d' b r)
  by_kinds d d' (NoCause is r) (NoCause is' r') = is ∙ sym is'

one_difference : (dialect : Dialect) → IsKnown dialect → HasOneDifference dialect
one_difference dialect known game log asked said d d' logged is is' =
    by_kinds game dialect known log logged asked said d d' (kind_of game dialect known log logged asked said d is) (kind_of game dialect known log logged asked said d' is')

pub words_once : HasOneDifference words
words_once = one_difference words words_known

pub json_once : HasOneDifference json
json_once = one_difference json json_known

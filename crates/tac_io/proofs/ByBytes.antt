-- The answers of a link's lines are those of its bytes, however its reads cut them.
use Rattle.std.proofs.Common.{zero, suc, ◌≡◌, ℕ, ◌+◌, ◌-◌, ◌<◌, ◌≤◌, List, [], ◌∷◌, ◌++◌, length, refl, ap, sym, ◌∙◌, true, false, Bool, arith, length-append, append_assoc, append-nil, subst, ◌==◌, ◌^◌, None, Some, IfSome, if◌then◌else◌, Option}
use Rattle.std.proofs.lemmas.Bool.Decides.{nat_tests}
use Rattle.std.proofs.lemmas.Option.{same_Some}
use Rattle.std.proofs.lemmas.Bool.{or_parts}
use Rattle.tac_io.specs.AllAnswers.{all_answers, ended_line}
use Rattle.tac_io.specs.AnswersInTurn.{answers_left, IsFirst, IsInTurn}
use Rattle.tac_io.specs.{Held, LinkPlace, Answers, IsNext, has_end, BeginsWithLine, then_known, IsAtEnd}
use Rattle.tac_io.specs.declared.line_got.LineGot.{LineGot}
use Rattle.tac_io.specs.declared.line_got.LineGot.TheVariants.{Line, TooLong, End, Failed, Budget}

pick : {A : Type 0} (b : Bool) (x y : A) → b ≡ false → (if b then x else y) ≡ y
pick true x y h = absurd (cc)
pick false x y h = refl

pub all_answers-line : (before line rest : List ℕ) (room after : ℕ) → has_end line ≡ false → room ≡ length line + suc after
    → all_answers before room (line ++ 10 ∷ rest) ≡ ended_line (before ++ line) ∷ all_answers [] after rest
all_answers-line before [] rest room after none is =
    let e : room ≡ suc after = omega (arith, is) in
    ap (λ n. all_answers before n (10 ∷ rest)) e ∙ ap (λ l. ended_line l ∷ all_answers [] after rest) (sym (append-nil before))
all_answers-line before (byte ∷ line) rest room after none is =
    let both = or_parts (byte == 10) (has_end line) none in
    let e : room ≡ suc (length line + suc after) = omega (arith, is) in
    ap (λ n. all_answers before n (byte ∷ line ++ 10 ∷ rest)) e
    ∙ pick (byte == 10) _ _ both.0
    ∙ all_answers-line (before ++ byte ∷ []) line rest (length line + suc after) after both.1 refl
    ∙ ap (λ l. ended_line l ∷ all_answers [] after rest) (append_assoc before (byte ∷ []) line)

pub all_answers-end : (before bytes : List ℕ) (room : ℕ) → has_end bytes ≡ false → length bytes < room → all_answers before room bytes ≡ (End, []) ∷ []
all_answers-end before bytes zero none lt = absurd (omega (arith, lt))
all_answers-end before [] (suc room) none lt = refl
all_answers-end before (byte ∷ bytes) (suc room) none lt =
    let both = or_parts (byte == 10) (has_end bytes) none in
    pick (byte == 10) _ _ both.0 ∙ all_answers-end (before ++ byte ∷ []) bytes room both.1 (omega (arith, lt))

pub all_answers-budget : (before bytes rest : List ℕ) (room : ℕ) → has_end bytes ≡ false → length bytes ≡ room → all_answers before room (bytes ++ rest) ≡ (Budget, []) ∷ []
all_answers-budget before [] rest zero none is = refl
all_answers-budget before [] rest (suc room) none is = absurd (omega (arith, is))
all_answers-budget before (byte ∷ bytes) rest zero none is = absurd (omega (arith, is))
all_answers-budget before (byte ∷ bytes) rest (suc room) none is =
    let both = or_parts (byte == 10) (has_end bytes) none in
    pick (byte == 10) _ _ both.0 ∙ all_answers-budget (before ++ byte ∷ []) bytes rest room both.1 (omega (arith, is))

short_line : (line : List ℕ) → length line ≤ 512 → ended_line line ≡ (Line, line)
short_line line le = grind (arith, nat_tests)

long_line : (line : List ℕ) → 512 < length line → ended_line line ≡ (TooLong, [])
long_line line lt = grind (arith, nat_tests)

-- after a line, what is to come are the answers of what is held and left then
line_first : (held new : Held) (left left' more line : List ℕ) (count : ℕ) → left ≡ more ++ left' → count + length more ≤ 2 ^ 26 → BeginsWithLine (held.unread ++ more) line new.unread
    → answers_left held left count ≡ ended_line line ∷ answers_left new left' (count + length more)
line_first held new left left' more line count gave le b =
    let size : length held.unread + length more ≡ length line + suc (length new.unread) =
    omega (arith, sym (length-append held.unread more) ∙ ap length b.whole ∙ length-append line (10 ∷ new.unread)) in
    let bytes : held.unread ++ left ≡ line ++ 10 ∷ (new.unread ++ left') =
    ap (λ l. held.unread ++ l) gave ∙ sym (append_assoc held.unread more left') ∙ ap (λ l. l ++ left') b.whole ∙ append_assoc line (10 ∷ new.unread) left' in
    ap (all_answers [] (2 ^ 26 - count + length held.unread)) bytes
    ∙ all_answers-line [] line (new.unread ++ left') (2 ^ 26 - count + length held.unread) (2 ^ 26 - (count + length more) + length new.unread) b.first (omega (arith, size, le))

next_is_first : (old new : LinkPlace) (left left' : List ℕ) (got : LineGot) → old.link.left ≡ Some left → new.link.left ≡ Some left'
    → Answers old new got → new.count ≤ 2 ^ 26 → IsFirst got new.held.line (answers_left old.held left old.count) (answers_left new.held left' new.count)
next_is_first old new left left' got had has answers le =
    first got (subst (λ l. IsNext got (old.held.unread ++ answers.more) new.held (IsAtEnd l) new.count) has answers.next)
  where
    gave : left ≡ answers.more ++ left'
    gave = same_Some left (answers.more ++ left') (sym had ∙ answers.gave.1 ∙ ap (then_known answers.more) has)

    within : old.count + length answers.more ≤ 2 ^ 26
    within = omega (arith, answers.counted, le)

    behind : (line : List ℕ) → BeginsWithLine (old.held.unread ++ answers.more) line new.held.unread → answers_left old.held left old.count ≡ ended_line line ∷ answers_left new.held left' new.count
    behind line b = line_first old.held new.held left left' answers.more line old.count gave within b ∙ ap (λ n. ended_line line ∷ answers_left new.held left' n) (sym answers.counted)

    size : length (old.held.unread ++ answers.more) ≡ length old.held.unread + length answers.more
    size = length-append old.held.unread answers.more

    bytes : old.held.unread ++ left ≡ (old.held.unread ++ answers.more) ++ left'
    bytes = ap (λ l. old.held.unread ++ l) gave ∙ sym (append_assoc old.held.unread answers.more left')

    first : (got : LineGot) → IsNext got (old.held.unread ++ answers.more) new.held (left' ≡ []) new.count → IsFirst got new.held.line (answers_left old.held left old.count) (answers_left new.held left' new.count)
    first Line next = behind new.held.line next.0 ∙ ap (λ line. line ∷ answers_left new.held left' new.count) (short_line new.held.line next.1)
    first TooLong next = behind next.0 next.1 ∙ ap (λ line. line ∷ answers_left new.held left' new.count) (long_line next.0 next.2)
    first End next =
        ap (all_answers [] (2 ^ 26 - old.count + length old.held.unread)) (bytes ∙ ap (λ l. (old.held.unread ++ answers.more) ++ l) next.2 ∙ append-nil (old.held.unread ++ answers.more))
        ∙ all_answers-end [] (old.held.unread ++ answers.more) (2 ^ 26 - old.count + length old.held.unread) next.0 (omega (arith, size, next.1, answers.counted))
    first Failed next = tt
    first Budget next =
        ap (all_answers [] (2 ^ 26 - old.count + length old.held.unread)) bytes
        ∙ all_answers-budget [] (old.held.unread ++ answers.more) left' (2 ^ 26 - old.count + length old.held.unread) next.0 (omega (arith, size, next.1, answers.counted))

pub in_turn : (old new : LinkPlace) (got : LineGot) → Answers old new got → new.count ≤ 2 ^ 26 → IsInTurn old new got
in_turn old new got answers le = by_left old.link.left new.link.left refl refl
  where
    by_left : (left left' : Option (List ℕ)) → old.link.left ≡ left → new.link.left ≡ left'
        → IfSome left (λ bytes. IfSome left' (λ rest. IsFirst got new.held.line (answers_left old.held bytes old.count) (answers_left new.held rest new.count)))
    by_left None left' had has = tt
    by_left (Some left) None had has = tt
    by_left (Some left) (Some left') had has = next_is_first old new left left' got had has answers le

-- The first line of a link and its verdict.
use Rattle.std.proofs.Common.{suc, ◌≡◌, ◌≢◌, ℕ, ◌+◌, ◌-◌, ◌^◌, ◌<◌, ◌≤◌, List, [], ◌∷◌, ◌++◌, length, refl, ap, sym, ◌∙◌, subst, true, false, Bool, Some, None, arith, append_assoc, append-nil, length-append, inl, inr, position, if◌then◌else◌, slice_index_or, Option, bytes_eq}
use Rattle.game_run.specs.{all_answers, ended_line, Answers, HasLineCause, goes_on, has_end, BeginsWithLine, count_of, held_of, last_of, link_of, link_place, GaveBytes, NoReadFails, ReadsNothing, SendsNothing, known_then, then_known, IsAtEnd, TakesSome, LineGot, Lines, Verdict, Seated, Syntax, WrongWord, Taken, Lost, Seats, verdict_of, word_verdict, seat_verdict, greeting_of, seats_after, LinkState, refusal_line, IsSentOrCut, IsLost, BeginsWith, IsRefused, seat_of, IsUnseated, IsOnlySent, IsTurnedAway, IsFirstRead}
use Rattle.tac_io.specs.HeldBytes.{LinkPlace}
use Rattle.tac_io.specs.declared.line_got.LineGot.TheVariants as gots
use Rattle.tac_io.proofs.ByBytes.{all_answers-line, all_answers-end, all_answers-budget}
use Rattle.tac_io.proofs.KnownPieces.{known_then-nothing, last_read_fails_still, last_write_fails_then, no_read_fails_twice, no_write_fails_twice, send_nothing_twice}
use Rattle.std.proofs.lemmas.Bool.Decides.{nat_tests}

-- ---- the first answer by the bytes

short_line : (line : List ℕ) → length line ≤ 512 → ended_line line ≡ (gots.Line, line)
short_line line le = grind (arith, nat_tests)

long_line : (line : List ℕ) → 512 < length line → ended_line line ≡ (gots.TooLong, [])
long_line line lt = grind (arith, nat_tests)

-- after the first line come the answers of what follows it
pub after_line : (bytes line rest more : List ℕ) → BeginsWithLine bytes line rest → length bytes ≤ 2 ^ 26
    → all_answers [] (2 ^ 26) (bytes ++ more) ≡ ended_line line ∷ all_answers [] (2 ^ 26 - length bytes + length rest) (rest ++ more)
after_line bytes line rest more b le =
    let size : length bytes ≡ length line + suc (length rest) = ap length b.whole ∙ length-append line (10 ∷ rest) in
    let whole : bytes ++ more ≡ line ++ 10 ∷ (rest ++ more) = ap (λ l. l ++ more) b.whole ∙ append_assoc line (10 ∷ rest) more in
    ap (all_answers [] (2 ^ 26)) whole ∙ all_answers-line [] line (rest ++ more) (2 ^ 26) (2 ^ 26 - length bytes + length rest) b.first (omega (arith, size, le))

pub first_line : (bytes line rest more : List ℕ) → BeginsWithLine bytes line rest → length bytes ≤ 2 ^ 26 → length line ≤ 512
    → all_answers [] (2 ^ 26) (bytes ++ more) ≡ (gots.Line, line) ∷ all_answers [] (2 ^ 26 - length bytes + length rest) (rest ++ more)
first_line bytes line rest more b le short =
    after_line bytes line rest more b le ∙ ap (λ l. l ∷ all_answers [] (2 ^ 26 - length bytes + length rest) (rest ++ more)) (short_line line short)

pub begins_with : (bytes line rest : List ℕ) → BeginsWithLine bytes line rest → length bytes ≤ 2 ^ 26 → length line ≤ 512 → BeginsWith bytes gots.Line line
begins_with bytes line rest b le short = (_, ap (all_answers [] (2 ^ 26)) (sym (append-nil bytes)) ∙ first_line bytes line rest [] b le short)

begins_long : (bytes line rest : List ℕ) → BeginsWithLine bytes line rest → length bytes ≤ 2 ^ 26 → 512 < length line → BeginsWith bytes gots.TooLong []
begins_long bytes line rest b le long = (
  _,
  ap (all_answers [] (2 ^ 26)) (sym (append-nil bytes)) ∙ after_line bytes line rest [] b le
      ∙ ap (λ l. l ∷ all_answers [] (2 ^ 26 - length bytes + length rest) (rest ++ [])) (long_line line long),
)

-- ---- the gate never answers `Lost`

unless_taken : (b : Bool) (seat : ℕ) → (if b then Taken else Seated seat) ≢ Lost
unless_taken true seat e = cc
unless_taken false seat e = cc

no_seat_lost : (taken : List Bool) (seat : Option ℕ) → seat_verdict taken seat ≢ Lost
no_seat_lost taken None e = cc
no_seat_lost taken (Some seat) e = unless_taken (slice_index_or taken seat false) seat e

no_word_lost : (seats : Seats) (word : Option (List ℕ)) → word_verdict seats word ≢ Lost
no_word_lost seats None e = cc
no_word_lost seats (Some word) e = no_seat_lost seats.taken (position (bytes_eq word) seats.words) e

-- ---- what was read

module _ {L : Type 0} (state : L → LinkState) (seats : Seats) (before : LinkPlace) (lines : Lines L) (none : before.held.unread ≡ []) (zero_count : before.count ≡ 0)
    (few : count_of lines ≤ 2 ^ 26) (quiet : SendsNothing before.link (state (link_of lines))) where
  module _ (got : LineGot) (a : Answers before (link_place state lines) got) where
    bytes_are : before.held.unread ++ a.more ≡ a.more
    bytes_are = ap (λ l. l ++ a.more) none

    counted : count_of lines ≡ length a.more
    counted = omega (arith, a.counted, zero_count)

  pub line_read : (verdict : Verdict) → Answers before (link_place state lines) gots.Line
      → NoReadFails before.link (state (link_of lines)) → goes_on (last_of lines) ≡ true → verdict ≡ verdict_of seats (held_of lines).line → IsFirstRead state seats verdict before.link lines
  line_read verdict a reads more due = by verdict due
    where
      whole : BeginsWithLine a.more (held_of lines).line (held_of lines).unread
      whole = subst (λ bytes. BeginsWithLine bytes (held_of lines).line (held_of lines).unread) (bytes_are gots.Line a) a.next.0

      within : length a.more ≤ 2 ^ 26
      within = omega (arith, counted gots.Line a, few)

      unseated : (verdict : Verdict) → verdict ≡ verdict_of seats (held_of lines).line → IsUnseated seats verdict before.link (state (link_of lines))
      unseated verdict due = (
        record {
          bytes = a.more;
          gave = a.gave;
          got = gots.Line;
          line = (held_of lines).line;
          first = begins_with a.more (held_of lines).line (held_of lines).unread whole within a.next.1;
          due = due;
          reads = reads;
        },
        quiet,
      )

      by : (verdict : Verdict) → verdict ≡ verdict_of seats (held_of lines).line → IsFirstRead state seats verdict before.link lines
      by (Seated agent) due = record {
        bytes = a.more;
        gave = a.gave;
        line = (held_of lines).line;
        first = whole;
        short = a.next.1;
        counted = counted gots.Line a;
        few = few;
        seat = sym due;
        quiet = quiet;
        reads = reads;
        more = more;
      }
      by Syntax due = unseated Syntax due
      by WrongWord due = unseated WrongWord due
      by Taken due = unseated Taken due
      by Lost due = absurd (no_word_lost seats (greeting_of (held_of lines).line) (sym due))

  pub long_read : Answers before (link_place state lines) gots.TooLong
      → NoReadFails before.link (state (link_of lines)) → IsUnseated seats Syntax before.link (state (link_of lines))
  long_read a reads =
      let whole : BeginsWithLine a.more a.next.0 (held_of lines).unread = subst (λ bytes. BeginsWithLine bytes a.next.0 (held_of lines).unread) (bytes_are gots.TooLong a) a.next.1 in (
        record {
          bytes = a.more;
          gave = a.gave;
          got = gots.TooLong;
          line = [];
          first = begins_long a.more a.next.0 (held_of lines).unread whole (omega (arith, counted gots.TooLong a, few)) a.next.2;
          due = refl;
          reads = reads;
        },
        quiet,
      )

  pub none_read : (got : LineGot) → Answers before (link_place state lines) got
      → HasLineCause before.link (state (link_of lines)) got → got ≢ gots.Line → got ≢ gots.TooLong → IsLost before.link (state (link_of lines))
  none_read gots.Line a cause not_line not_long = absurd (not_line refl)
  none_read gots.TooLong a cause not_line not_long = absurd (not_long refl)
  none_read gots.End a cause not_line not_long = record {
    bytes = a.more;
    gave = a.gave;
    quiet = quiet;
    why = inl (all_answers-end [] a.more (2 ^ 26) (ap has_end (sym (bytes_are gots.End a)) ∙ a.next.0) (omega (arith, counted gots.End a, a.next.1)), a.next.2, cause);
  }
  none_read gots.Failed a cause not_line not_long = record {
    bytes = a.more;
    gave = a.gave;
    quiet = quiet;
    why = inr (inr (all_answers-end [] a.more (2 ^ 26) (ap has_end (sym (bytes_are gots.Failed a)) ∙ a.next.0) (omega (arith, counted gots.Failed a, a.next.1)), cause));
  }
  none_read gots.Budget a cause not_line not_long = record {
    bytes = a.more;
    gave = a.gave;
    quiet = quiet;
    why = inr (inl (
      ap (all_answers [] (2 ^ 26)) (sym (append-nil a.more))
          ∙ all_answers-budget [] a.more [] (2 ^ 26) (ap has_end (sym (bytes_are gots.Budget a)) ∙ a.next.0) (sym (counted gots.Budget a) ∙ a.next.1),
      cause,
    ));
  }

-- ---- what was sent to a link without a seat

sent_nothing : (before after : LinkState) → IsSentOrCut [] before after → SendsNothing before after
sent_nothing before after (inl h) = (h.0 ∙ known_then-nothing before.sent, h.1)
sent_nothing before after (inr h) = absurd (omega (arith, h.0.proper))

-- what a link gave is the same while nothing is read of it
gave_still : (bytes : List ℕ) (before between after : LinkState) → GaveBytes bytes before between → ReadsNothing between after → GaveBytes bytes before after
gave_still bytes before between after gave read = (read.0 ∙ gave.0, gave.1 ∙ ap (then_known bytes) (sym read.1))

-- what was sent to a link is the same from where nothing was sent before
sent_from : (line : List ℕ) (before between after : LinkState) → SendsNothing before between → IsSentOrCut line between after → IsSentOrCut line before after
sent_from line before between after quiet (inl h) = inl (h.0 ∙ ap (λ sent. known_then sent line) quiet.0, no_write_fails_twice before between after quiet.1 h.1)
sent_from line before between after quiet (inr h) = inr (subst (λ sent. TakesSome sent after.sent line) quiet.0 h.0, last_write_fails_then before between after quiet.1 h.1)

refused : (seats : Seats) (verdict : Verdict) (before between after : LinkState) → IsUnseated seats verdict before between → IsOnlySent (refusal_line verdict) between after → IsRefused seats verdict before after
refused seats verdict before between after u a = (
  record {
    bytes = u.0.bytes;
    gave = gave_still u.0.bytes before between after u.0.gave a.read;
    got = u.0.got;
    line = u.0.line;
    first = u.0.first;
    due = u.0.due;
    reads = no_read_fails_twice before between after u.0.reads a.read.2;
  },
  sent_from (refusal_line verdict) before between after u.1 a.sent,
)

-- what holds of a link still holds after nothing was sent to it
lost : (before between after : LinkState) → IsLost before between → IsOnlySent [] between after → IsLost before after
lost before between after l a = record {
  bytes = l.bytes;
  gave = gave_still l.bytes before between after l.gave a.read;
  why = elim l.why [
    | inl ended ↦ inl (ended.0, subst IsAtEnd (sym a.read.1) ended.1, no_read_fails_twice before between after ended.2 a.read.2)
    | inr other ↦ elim other [
      | inl full ↦ inr (inl (full.0, no_read_fails_twice before between after full.1 a.read.2))
      | inr failed ↦ inr (inr (failed.0, last_read_fails_still before between after failed.1 a.read))
    ]
  ];
  quiet = send_nothing_twice before between after l.quiet (sent_nothing between after a.sent);
}

pub turned_away : {L : Type 0} (state : L → LinkState) (seats : Seats) (verdict : Verdict) (before : LinkState) (lines : Lines L) (after : LinkState) → seat_of verdict ≡ None
    → IsFirstRead state seats verdict before lines → IsOnlySent (refusal_line verdict) (state (link_of lines)) after → IsTurnedAway seats verdict before after
turned_away state seats (Seated agent) before lines after none read answered = absurd (cc)
turned_away state seats Syntax before lines after none read answered = refused seats Syntax before (state (link_of lines)) after read answered
turned_away state seats WrongWord before lines after none read answered = refused seats WrongWord before (state (link_of lines)) after read answered
turned_away state seats Taken before lines after none read answered = refused seats Taken before (state (link_of lines)) after read answered
turned_away state seats Lost before lines after none read answered = lost before (state (link_of lines)) after read answered

pub no_seat_changed : (seats : Seats) (verdict : Verdict) → seat_of verdict ≡ None → seats_after seats verdict ≡ seats
no_seat_changed seats (Seated agent) none = absurd (cc)
no_seat_changed seats Syntax none = refl
no_seat_changed seats WrongWord none = refl
no_seat_changed seats Taken none = refl
no_seat_changed seats Lost none = refl

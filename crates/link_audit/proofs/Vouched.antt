-- The lines of a link account for the log exactly if what is ahead of its first line is what the log has of the agent.
use Rattle.std.proofs.Common.{◌≡◌, ℕ, List, [], ◌∷◌, ◌++◌, Bool, true, false, length, map, sym, ap, ◌∙◌, subst, if◌then◌else◌, nat_le}
use Rattle.link_audit.specs.{Board, LINE_BYTES, LINK_BYTES, SESSION_LINES, GameFile, all_answers, ended_line, LineGot, Seated, LoggedGame, Dialect, verdict_of, said_of, welcome_lines, free_seats, IsAhead, AreBoards, start, AccountsFor, HasNoLine, whole_lines, TakesSeat}
use Rattle.tac_io.specs.declared.line_got.LineGot.TheVariants as gots
use Rattle.link_audit.proofs.Cuts.{no_line}
use Rattle.link_audit.proofs.Leading.{IsLast, first_line, other_lines}
use Rattle.link_audit.proofs.Transcribed.{transcribed, remaining}
use Rattle.link_audit.proofs.Welcomes.{same_rest}

abbrev line_of : LineGot × List ℕ → List ℕ
line_of answer = answer.1

-- a line is not read as another one
pub same_line : (line other : List ℕ) → ended_line line ≡ (gots.Line, other) → other ≡ line
same_line line other is = by_test (nat_le (length line) LINE_BYTES) is
  where
    by_test : (b : Bool) → ◌≡◌ {A = LineGot × List ℕ} (if b then (gots.Line, line) else (gots.TooLong, [])) (gots.Line, other) → other ≡ line
    by_test true h = sym (ap line_of h)
    by_test false h = absurd (let kind : gots.TooLong ≡ gots.Line = ap (λ (answer : LineGot × List ℕ). answer.0) h in cc)

module _ (game : GameFile) (dialect : Dialect) (log : LoggedGame) (asked said : List ℕ) where
  -- no first line
  pub unvouched_end : (other : ℕ) → HasNoLine (all_answers [] LINK_BYTES asked) → AccountsFor game dialect log other asked said → ⊥
  unvouched_end other none v = let end = no_line (all_answers [] LINK_BYTES asked) none in subst IsLast (ap (λ (l : List (LineGot × List ℕ)). (first_line (gots.End, []) l).0) (sym end.2 ∙ v.lines)) end.1

  module _ (line : List ℕ) (lines : List (LineGot × List ℕ)) (first : all_answers [] LINK_BYTES asked ≡ ended_line line ∷ lines) where
    -- a link whose lines account for the log begins with the line that takes the agent's seat
    module _ (other : ℕ) (v : AccountsFor game dialect log other asked said) where
      both : ended_line line ∷ lines ≡ (gots.Line, v.line) ∷ v.answered ++ (v.unanswered ++ v.later)
      both = sym first ∙ v.lines

      pub takes_seat : TakesSeat game log line other
      unfolding both
      takes_seat =
          let here : ended_line line ≡ (gots.Line, v.line) = ap (first_line (ended_line line)) both in
          let same : v.line ≡ line = same_line line v.line here in
          record {
            ended = here ∙ ap (λ (l : List ℕ). (gots.Line, l)) same;
            seat = ap (verdict_of (free_seats game)) (sym same) ∙ v.seat;
            listed = v.listed;
          }

      pub later_lines : lines ≡ v.answered ++ (v.unanswered ++ v.later)
      unfolding both
      later_lines = ap other_lines both

    module _ (agent : ℕ) (t : TakesSeat game log line agent) where
      pub same_agent : (other : ℕ) → AccountsFor game dialect log other asked said → agent ≡ other
      same_agent other v = let two : Seated agent ≡ Seated other = sym t.seat ∙ (takes_seat other v).seat in cc

      -- the first replies are not the agent's
      pub unvouched_welcome : ((others : List (List ℕ)) → whole_lines said ≡ welcome_lines game agent ++ others → ⊥) → (other : ℕ) → AccountsFor game dialect log other asked said → ⊥
      unvouched_welcome none other v =
          none (map (λ turn. dialect.text (said_of turn)) v.heard) (v.replies ∙ ap (λ (n : ℕ). welcome_lines game n ++ map (λ turn. dialect.text (said_of turn)) v.heard) (sym (same_agent other v)))

      module _ (goods : length log.histories ≡ 28) (boards : List (List Board)) (table : AreBoards game log boards) (replies : List (List ℕ)) (welcome : whole_lines said ≡ welcome_lines game agent ++ replies) where
        unfoldable pub account_of : IsAhead dialect (record { log = log; boards = boards; agent = agent }) start lines replies SESSION_LINES → AccountsFor game dialect log agent asked said
        account_of a = let found = transcribed game log goods agent boards table (a.heard ++ a.unheard) a.remains in record {
          listed = t.listed;
          line = line;
          answered = a.answered;
          unanswered = a.unanswered;
          later = a.later;
          lines = first ∙ (λ i. t.ended i ∷ a.lines_are i);
          seat = t.seat;
          heard = a.heard;
          unheard = a.unheard;
          heard_items = a.heard_items;
          unheard_items = a.unheard_items;
          few = a.few;
          lawful = found.0;
          replies = welcome ∙ ap (λ (l : List (List ℕ)). welcome_lines game agent ++ l) a.replies_are;
          transcript = found.1;
        }

        unfoldable pub own_ahead : AccountsFor game dialect log agent asked said → IsAhead dialect (record { log = log; boards = boards; agent = agent }) start lines replies SESSION_LINES
        own_ahead v = record {
          answered = v.answered;
          unanswered = v.unanswered;
          later = v.later;
          lines_are = later_lines agent v;
          heard = v.heard;
          unheard = v.unheard;
          heard_items = v.heard_items;
          unheard_items = v.unheard_items;
          few = v.few;
          replies_are = same_rest (welcome_lines game agent) replies (map (λ turn. dialect.text (said_of turn)) v.heard) (sym welcome ∙ v.replies);
          remains = remaining game log goods agent boards table (v.heard ++ v.unheard) v.lawful v.transcript;
        }

        pub ahead_of : (other : ℕ) → AccountsFor game dialect log other asked said → IsAhead dialect (record { log = log; boards = boards; agent = agent }) start lines replies SESSION_LINES
        ahead_of other v = own_ahead (subst (λ (n : ℕ). AccountsFor game dialect log n asked said) (sym (same_agent other v)) v)

-- Line by line: what is ahead of a link before one of its lines, and behind it.
use Rattle.std.proofs.Common.{◌≡◌, ℕ, suc, ◌≤◌, List, [], ◌∷◌, ◌++◌, true, false, length, map, refl, sym, ap, ◌∙◌, subst, arith, Result}
use Rattle.std.specs.Prelude.{⊤}
use Rattle.link_audit.specs.{LineGot, Request, RequestFault, Said, Dialect, Item, Asks, Overlong, IsItem, AreItems, Turn, Quit, is_leaving, item_of, said_of, MayAsk, Subject, IsAsked, FitsReply, IsOver, IsWide, behind_turn, Remains, IsPossible, IsTaken, IsStuck, IsLeaving, IsEasier, IsAhead}
use Rattle.tac_io.specs.declared.line_got.LineGot.TheVariants as gots
use Rattle.link_audit.specs.declared.places.Places.{Places}
use Rattle.link_audit.proofs.Walking.{wide_after, turn_first, turn_next, over_none, none_over}
use Rattle.link_audit.proofs.Easier.{easy_remains}

abbrev pub TheLine : Type 0
TheLine = LineGot × List ℕ

abbrev pub first_line : TheLine → List TheLine → TheLine
first_line line [] = line
first_line line (first ∷ others) = first

abbrev pub other_lines : List TheLine → List TheLine
other_lines [] = []
other_lines (first ∷ others) = others

abbrev pub first_reply : List ℕ → List (List ℕ) → List ℕ
first_reply reply [] = reply
first_reply reply (first ∷ others) = first

abbrev pub other_replies : List (List ℕ) → List (List ℕ)
other_replies [] = []
other_replies (first ∷ others) = others

-- no line is left, or none may be
abbrev pub IsLast : LineGot → Type 0
IsLast gots.Line = ⊥
IsLast gots.TooLong = ⊥
IsLast gots.End = ⊤
IsLast gots.Failed = ⊤
IsLast gots.Budget = ⊤

pub no_item : (may_answer : List ℕ → Result Request RequestFault → Type 0) (got : LineGot) (line : List ℕ) (item : Item) → IsLast got → IsItem may_answer (got, line) item → ⊥
no_item may_answer gots.Line line item last is = last
no_item may_answer gots.TooLong line item last is = last
no_item may_answer gots.End line (Asks asked) last is = is
no_item may_answer gots.End line Overlong last is = is
no_item may_answer gots.Failed line (Asks asked) last is = is
no_item may_answer gots.Failed line Overlong last is = is
no_item may_answer gots.Budget line (Asks asked) last is = is
no_item may_answer gots.Budget line Overlong last is = is

module _ (dialect : Dialect) (s : Subject) where
  -- a turn that is possible, and what is ahead behind it
  pub record IsOpened (Asked : Item → Type 0) (Fits : Said → Type 0) (from : Places) (lines : List TheLine) (replies : List (List ℕ)) (room : ℕ) : Type 0 where
    pub turn : Turn
    pub possible : IsPossible Asked Fits s from turn
    pub more : IsAhead dialect s (behind_turn from turn) lines replies room
    pub left : is_leaving turn ≡ true → (replies ≡ []) × IsOver s (behind_turn from turn)

  pub easy_ahead : (from hard : Places) (lines : List TheLine) (replies : List (List ℕ)) (room : ℕ) → IsEasier from hard → IsWide from → IsWide hard
      → IsAhead dialect s hard lines replies room → IsAhead dialect s from lines replies room
  easy_ahead from hard lines replies room easier wide wide' a = record {
    answered = a.answered;
    unanswered = a.unanswered;
    later = a.later;
    lines_are = a.lines_are;
    heard = a.heard;
    unheard = a.unheard;
    heard_items = a.heard_items;
    unheard_items = a.unheard_items;
    few = a.few;
    replies_are = a.replies_are;
    remains = easy_remains s from hard (a.heard ++ a.unheard) easier wide wide' a.remains;
  }

  -- ---- nothing more

  pub over_ahead : (from : Places) (lines : List TheLine) (room : ℕ) → IsOver s from → IsAhead dialect s from lines [] room
  over_ahead from lines room over = record {
    answered = [];
    unanswered = [];
    later = lines;
    lines_are = refl;
    heard = [];
    unheard = [];
    heard_items = tt;
    unheard_items = tt;
    few = omega arith;
    replies_are = refl;
    remains = over_none s from over;
  }

  module _ (from : Places) (wide : IsWide from) where
    pub none_ahead : (room : ℕ) (lines : List TheLine) → room ≡ 0 → IsAhead dialect s from lines [] room → IsOver s from
    none_ahead room lines none a = by_turns (a.heard ++ a.unheard) a.few a.remains
      where
        by_turns : (turns : List Turn) → length turns ≤ room → Remains s from turns → IsOver s from
        by_turns [] few all = none_over s from all
        by_turns (turn ∷ turns) few all = absurd (omega (arith, few, none))

    pub no_room : (lines : List TheLine) (reply : List ℕ) (replies : List (List ℕ)) (room : ℕ) → room ≡ 0 → IsAhead dialect s from lines (reply ∷ replies) room → ⊥
    no_room lines reply replies room none a = by_heard a.heard a.few a.replies_are
      where
        by_heard : (heard : List Turn) → length (heard ++ a.unheard) ≤ room → reply ∷ replies ≡ map (λ turn. dialect.text (said_of turn)) heard → ⊥
        by_heard [] few is = absurd cc
        by_heard (turn ∷ turns) few is = omega (arith, few, none)

    -- ---- a line at the front

    module _ (line : TheLine) (lines : List TheLine) (room : ℕ) where
      pub open_heard : (reply : List ℕ) (replies : List (List ℕ)) → IsAhead dialect s from (line ∷ lines) (reply ∷ replies) (suc room)
          → IsOpened (IsAsked dialect true line) (FitsReply dialect true reply) from lines replies room
      open_heard reply replies a = by_heard a.heard a.answered a.lines_are a.heard_items a.few a.replies_are a.remains
        where
          by_heard : (heard : List Turn) (answered : List TheLine) → line ∷ lines ≡ answered ++ (a.unanswered ++ a.later) → AreItems dialect.may_answer answered (map item_of heard)
              → length (heard ++ a.unheard) ≤ suc room → reply ∷ replies ≡ map (λ turn. dialect.text (said_of turn)) heard → Remains s from (heard ++ a.unheard)
              → IsOpened (IsAsked dialect true line) (FitsReply dialect true reply) from lines replies room
          by_heard [] answered lines_are items few replies_are all = absurd cc
          by_heard (turn ∷ turns) [] lines_are items few replies_are all = absurd items
          by_heard (turn ∷ turns) (first ∷ others) lines_are items few replies_are all =
              let front = turn_next s from turn (turns ++ a.unheard) wide all in
              let same : line ≡ first = ap (first_line line) lines_are in
              let says : reply ≡ dialect.text (said_of turn) = ap (first_reply reply) replies_are in
              let behind : replies ≡ map (λ turn. dialect.text (said_of turn)) turns = ap other_replies replies_are in
              record {
                turn = turn;
                possible = record { asked = subst (λ (l : TheLine). IsAsked dialect true l (item_of turn)) (sym same) items.0; fits = λ came. sym says; allowed = front.allowed; next = front.next };
                more = record {
                  answered = others;
                  unanswered = a.unanswered;
                  later = a.later;
                  lines_are = ap other_lines lines_are;
                  heard = turns;
                  unheard = a.unheard;
                  heard_items = items.1;
                  unheard_items = a.unheard_items;
                  few = omega (arith, few);
                  replies_are = behind;
                  remains = front.rest;
                };
                left = λ leaves. none_left turns behind (front.last leaves) front.rest;
              }
            where
              none_left : (us : List Turn) → replies ≡ map (λ turn. dialect.text (said_of turn)) us → us ++ a.unheard ≡ [] → Remains s (behind_turn from turn) (us ++ a.unheard) → (replies ≡ []) × IsOver s (behind_turn from turn)
              none_left [] is none rest = (is, none_over s (behind_turn from turn) (subst (λ (l : List Turn). Remains s (behind_turn from turn) l) none rest))
              none_left (u ∷ us) is none rest = absurd cc

      pub open_unheard : IsAhead dialect s from (line ∷ lines) [] (suc room) → (IsOver s from → ⊥) → IsOpened (IsAsked dialect false line) (FitsReply dialect false []) from lines [] room
      open_unheard a more = by_heard a.heard a.answered a.lines_are a.heard_items a.few a.replies_are a.remains
        where
          by_unheard : (unheard : List Turn) (unanswered : List TheLine) → line ∷ lines ≡ unanswered ++ a.later → AreItems (MayAsk dialect.may_answer) unanswered (map item_of unheard)
              → length unheard ≤ suc room → Remains s from unheard → IsOpened (IsAsked dialect false line) (FitsReply dialect false []) from lines [] room
          by_unheard [] unanswered lines_are items few all = absurd (more (none_over s from all))
          by_unheard (turn ∷ turns) [] lines_are items few all = absurd items
          by_unheard (turn ∷ turns) (first ∷ others) lines_are items few all =
              let front = turn_next s from turn turns wide all in
              let same : line ≡ first = ap (first_line line) lines_are in
              record {
                turn = turn;
                possible = record { asked = subst (λ (l : TheLine). IsAsked dialect false l (item_of turn)) (sym same) items.0; fits = λ came. absurd cc; allowed = front.allowed; next = front.next };
                more = record {
                  answered = [];
                  unanswered = others;
                  later = a.later;
                  lines_are = ap other_lines lines_are;
                  heard = [];
                  unheard = turns;
                  heard_items = tt;
                  unheard_items = items.1;
                  few = omega (arith, few);
                  replies_are = refl;
                  remains = front.rest;
                };
                left = λ leaves. (refl, none_over s (behind_turn from turn) (subst (λ (l : List Turn). Remains s (behind_turn from turn) l) (front.last leaves) front.rest));
              }

          by_heard : (heard : List Turn) (answered : List TheLine) → line ∷ lines ≡ answered ++ (a.unanswered ++ a.later) → AreItems dialect.may_answer answered (map item_of heard)
              → length (heard ++ a.unheard) ≤ suc room → [] ≡ map (λ turn. dialect.text (said_of turn)) heard → Remains s from (heard ++ a.unheard)
              → IsOpened (IsAsked dialect false line) (FitsReply dialect false []) from lines [] room
          by_heard [] [] lines_are items few replies_are all = by_unheard a.unheard a.unanswered lines_are a.unheard_items few all
          by_heard [] (first ∷ others) lines_are items few replies_are all = absurd items
          by_heard (turn ∷ turns) answered lines_are items few replies_are all = absurd cc

      -- ---- over a line

      module _ (to : Places) where
        never : {A : Type 0} (turn : Turn) → is_leaving turn ≡ false → is_leaving turn ≡ true → A
        never turn stays leaves = absurd (let both : true ≡ false = sym leaves ∙ stays in cc)

        -- a line with its reply
        module _ (reply : List ℕ) (replies : List (List ℕ)) (t : IsTaken (IsAsked dialect true line) (FitsReply dialect true reply) s from to) where
          pub heard_on : IsAhead dialect s from (line ∷ lines) (reply ∷ replies) (suc room) → IsAhead dialect s to lines replies room
          heard_on a =
              let o = open_heard reply replies a in
              easy_ahead to (behind_turn from o.turn) lines replies room (t.easiest o.turn o.possible) (subst IsWide (sym t.to_is) (wide_after from t.turn wide)) (wide_after from o.turn wide) o.more

          pub heard_back : IsAhead dialect s to lines replies room → IsAhead dialect s from (line ∷ lines) (reply ∷ replies) (suc room)
          heard_back a =
              let p = t.possible in
              record {
                answered = line ∷ a.answered;
                unanswered = a.unanswered;
                later = a.later;
                lines_are = ap (λ (l : List TheLine). line ∷ l) a.lines_are;
                heard = t.turn ∷ a.heard;
                unheard = a.unheard;
                heard_items = (p.asked, a.heard_items);
                unheard_items = a.unheard_items;
                few = (let few = a.few in omega (arith, few));
                replies_are = λ i. sym (p.fits refl) i ∷ a.replies_are i;
                remains = turn_first s from t.turn (a.heard ++ a.unheard) wide p.allowed (never t.turn t.stays) p.next (subst (λ (q : Places). Remains s q (a.heard ++ a.unheard)) t.to_is a.remains);
              }

        -- a line without a reply
        module _ (t : IsTaken (IsAsked dialect false line) (FitsReply dialect false []) s from to) where
          pub unheard_on : (IsOver s from → ⊥) → IsAhead dialect s from (line ∷ lines) [] (suc room) → IsAhead dialect s to lines [] room
          unheard_on more a =
              let o = open_unheard a more in
              easy_ahead to (behind_turn from o.turn) lines [] room (t.easiest o.turn o.possible) (subst IsWide (sym t.to_is) (wide_after from t.turn wide)) (wide_after from o.turn wide) o.more

          pub unheard_back : IsAhead dialect s to lines [] room → IsAhead dialect s from (line ∷ lines) [] (suc room)
          unheard_back a = by_heard a.heard a.answered a.lines_are a.heard_items a.few a.replies_are a.remains
            where
              by_heard : (heard : List Turn) (answered : List TheLine) → lines ≡ answered ++ (a.unanswered ++ a.later) → AreItems dialect.may_answer answered (map item_of heard)
                  → length (heard ++ a.unheard) ≤ room → [] ≡ map (λ turn. dialect.text (said_of turn)) heard → Remains s to (heard ++ a.unheard)
                  → IsAhead dialect s from (line ∷ lines) [] (suc room)
              by_heard [] [] lines_are items few replies_are all = let p = t.possible in record {
                answered = [];
                unanswered = line ∷ a.unanswered;
                later = a.later;
                lines_are = ap (λ (l : List TheLine). line ∷ l) lines_are;
                heard = [];
                unheard = t.turn ∷ a.unheard;
                heard_items = tt;
                unheard_items = (p.asked, a.unheard_items);
                few = omega (arith, few);
                replies_are = refl;
                remains = turn_first s from t.turn a.unheard wide p.allowed (never t.turn t.stays) p.next (subst (λ (q : Places). Remains s q a.unheard) t.to_is all);
              }
              by_heard [] (first ∷ others) lines_are items few replies_are all = absurd items
              by_heard (turn ∷ turns) answered lines_are items few replies_are all = absurd cc

      -- ---- no way over a line

      pub heard_stuck : (reply : List ℕ) (replies : List (List ℕ)) → IsStuck (IsAsked dialect true line) (FitsReply dialect true reply) s from → IsAhead dialect s from (line ∷ lines) (reply ∷ replies) (suc room) → ⊥
      heard_stuck reply replies stuck a = let o = open_heard reply replies a in stuck o.turn o.possible

      pub unheard_stuck : (IsOver s from → ⊥) → IsStuck (IsAsked dialect false line) (FitsReply dialect false []) s from → IsAhead dialect s from (line ∷ lines) [] (suc room) → ⊥
      unheard_stuck more stuck a = let o = open_unheard a more in stuck o.turn o.possible

      -- ---- the agent leaves by a line

      module _ (reply : List ℕ) (replies : List (List ℕ)) (t : IsLeaving (IsAsked dialect true line) (FitsReply dialect true reply) s from) where
        pub left_on : IsAhead dialect s from (line ∷ lines) (reply ∷ replies) (suc room) → (replies ≡ []) × IsOver s from
        left_on a =
            let o = open_heard reply replies a in
            let last : o.turn ≡ Quit = t.only o.turn o.possible in
            let end = o.left (ap is_leaving last) in
            (end.0, subst (λ (turn : Turn). IsOver s (behind_turn from turn)) last end.1)

        pub left_back : replies ≡ [] → IsOver s from → IsAhead dialect s from (line ∷ lines) (reply ∷ replies) (suc room)
        left_back none over = let p = t.possible in record {
          answered = line ∷ [];
          unanswered = [];
          later = lines;
          lines_are = refl;
          heard = Quit ∷ [];
          unheard = [];
          heard_items = (p.asked, tt);
          unheard_items = tt;
          few = omega arith;
          replies_are = λ i. sym (p.fits refl) i ∷ none i;
          remains = turn_first s from Quit [] wide tt (λ leaves. refl) tt (over_none s from over);
        }

      pub unheard_left : (IsOver s from → ⊥) → IsLeaving (IsAsked dialect false line) (FitsReply dialect false []) s from → IsAhead dialect s from (line ∷ lines) [] (suc room) → ⊥
      unheard_left more t a =
          let o = open_unheard a more in
          let last : o.turn ≡ Quit = t.only o.turn o.possible in
          more (subst (λ (turn : Turn). IsOver s (behind_turn from turn)) last (o.left (ap is_leaving last)).1)

    -- ---- no line at the front

    pub end_heard : (got : LineGot) (bytes : List ℕ) (lines : List TheLine) (reply : List ℕ) (replies : List (List ℕ)) (room : ℕ) → IsLast got → IsAhead dialect s from ((got, bytes) ∷ lines) (reply ∷ replies) (suc room) → ⊥
    end_heard got bytes lines reply replies room last a =
        let o = open_heard (got, bytes) lines room reply replies a in no_item dialect.may_answer got bytes (item_of o.turn) last o.possible.asked

    pub end_unheard : (got : LineGot) (bytes : List ℕ) (lines : List TheLine) (room : ℕ) → IsLast got → (IsOver s from → ⊥) → IsAhead dialect s from ((got, bytes) ∷ lines) [] (suc room) → ⊥
    end_unheard got bytes lines room last more a =
        let o = open_unheard (got, bytes) lines room a more in no_item (MayAsk dialect.may_answer) got bytes (item_of o.turn) last o.possible.asked

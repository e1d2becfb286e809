-- A walk under way: what is ahead of a link is what is ahead behind the lines that were walked over.
use Rattle.std.proofs.Common.{◌≡◌, ℕ, suc, List, [], ◌∷◌, Bool, true, false, refl, sym, ◌∙◌, subst, ◌+◌, Option, None, Some, is_some, slice_range}
use Rattle.link_audit.specs.{SESSION_LINES, LineGot, Dialect, Subject, IsAsked, FitsReply, IsOver, IsWide, IsTaken, IsStuck, IsLeaving, IsAhead, start, IsBehind, IsAheadAt, IsHeard, EndsByLeaving, FindsEnd, replies_at}
use Rattle.std.proofs.lemmas.List.{length-replicate}
use Rattle.link_audit.specs.declared.places.Places.{Places}
use Rattle.link_audit.specs.declared.hearing.Heard.{Heard}
use Rattle.link_audit.specs.declared.hearing.Heard.TheVariants.{Through, Gone, Not}
use Rattle.link_audit.proofs.Cuts.{replies_here, replies_end}
use Rattle.link_audit.proofs.Walking.{wide_after}
use Rattle.link_audit.proofs.Leading.{IsLast, heard_on, heard_back, heard_stuck, left_on, left_back, end_heard, no_room, unheard_on, unheard_back, unheard_stuck, unheard_left, end_unheard, none_ahead, over_ahead}

pub wide_start : IsWide start
wide_start = record { next = length-replicate {A = ℕ} 28 0; made = length-replicate {A = ℕ} 28 0; seen = length-replicate {A = ℕ} 28 0 }

module _ (dialect : Dialect) (s : Subject) (Before : Type 0) (from : Places) (wide : IsWide from) where
  -- the same, by the line and the reply at the front
  abbrev Ahead : Places → List (LineGot × List ℕ) → List (List ℕ) → ℕ → Type 0
  Ahead places lines replies room = IsAhead dialect s places lines replies room

  module _ (lines lines' : List (LineGot × List ℕ)) (line : LineGot × List ℕ) (lines_are : lines ≡ line ∷ lines') (room room' : ℕ) (room_is : room ≡ suc room') where
    module _ (replies replies' : List (List ℕ)) (reply : List ℕ) (replies_are : replies ≡ reply ∷ replies') (b : IsBehind Before (IsAhead dialect s from lines replies room)) where
      front : IsAhead dialect s from lines replies room → IsAhead dialect s from (line ∷ lines') (reply ∷ replies') (suc room')
      front a = subst (λ (w : List (LineGot × List ℕ) × List (List ℕ) × ℕ). IsAhead dialect s from w.0 w.1 w.2) (λ i. (lines_are i, replies_are i, room_is i)) a

      behind : IsAhead dialect s from (line ∷ lines') (reply ∷ replies') (suc room') → IsAhead dialect s from lines replies room
      behind a = subst (λ (w : List (LineGot × List ℕ) × List (List ℕ) × ℕ). IsAhead dialect s from w.0 w.1 w.2) (λ i. (sym lines_are i, sym replies_are i, sym room_is i)) a

      pub walked_on : (to : Places) → IsTaken (IsAsked dialect true line) (FitsReply dialect true reply) s from to → IsBehind Before (IsAhead dialect s to lines' replies' room')
      walked_on to t = record {
        there = λ before. heard_on dialect s from wide line lines' room' to reply replies' t (front (b.there before));
        back = λ a. b.back (behind (heard_back dialect s from wide line lines' room' to reply replies' t a));
      }

      pub walk_stuck : IsStuck (IsAsked dialect true line) (FitsReply dialect true reply) s from → Before → ⊥
      walk_stuck stuck before = heard_stuck dialect s from wide line lines' room' reply replies' stuck (front (b.there before))

      module _ (t : IsLeaving (IsAsked dialect true line) (FitsReply dialect true reply) s from) where
        pub walk_left : Before → (replies' ≡ []) × IsOver s from
        walk_left before = left_on dialect s from wide line lines' room' reply replies' t (front (b.there before))

        pub left_walk : replies' ≡ [] → IsOver s from → Before
        left_walk none over = b.back (behind (left_back dialect s from wide line lines' room' reply replies' t none over))

      pub walk_ended : (got : LineGot) → IsLast got → line ≡ (got, []) → Before → ⊥
      walk_ended got last is before =
          end_heard dialect s from wide got [] lines' reply replies' room' last
          (subst (λ (l : LineGot × List ℕ). IsAhead dialect s from (l ∷ lines') (reply ∷ replies') (suc room')) is (front (b.there before)))

    -- ---- without replies

    module _ (b : IsBehind Before (IsAhead dialect s from lines [] room)) where
      front_unheard : IsAhead dialect s from lines [] room → IsAhead dialect s from (line ∷ lines') [] (suc room')
      front_unheard a = subst (λ (w : List (LineGot × List ℕ) × ℕ). IsAhead dialect s from w.0 [] w.1) (λ i. (lines_are i, room_is i)) a

      behind_unheard : IsAhead dialect s from (line ∷ lines') [] (suc room') → IsAhead dialect s from lines [] room
      behind_unheard a = subst (λ (w : List (LineGot × List ℕ) × ℕ). IsAhead dialect s from w.0 [] w.1) (λ i. (sym lines_are i, sym room_is i)) a

      module _ (more : IsOver s from → ⊥) where
        pub passed_on : (to : Places) → IsTaken (IsAsked dialect false line) (FitsReply dialect false []) s from to → IsBehind Before (IsAhead dialect s to lines' [] room')
        passed_on to t = record {
          there = λ before. unheard_on dialect s from wide line lines' room' to t more (front_unheard (b.there before));
          back = λ a. b.back (behind_unheard (unheard_back dialect s from wide line lines' room' to t a));
        }

        pub pass_stuck : IsStuck (IsAsked dialect false line) (FitsReply dialect false []) s from → Before → ⊥
        pass_stuck stuck before = unheard_stuck dialect s from wide line lines' room' more stuck (front_unheard (b.there before))

        pub pass_left : IsLeaving (IsAsked dialect false line) (FitsReply dialect false []) s from → Before → ⊥
        pass_left t before = unheard_left dialect s from wide line lines' room' more t (front_unheard (b.there before))

        pub pass_ended : (got : LineGot) → IsLast got → line ≡ (got, []) → Before → ⊥
        pass_ended got last is before =
            end_unheard dialect s from wide got [] lines' room' last more
            (subst (λ (l : LineGot × List ℕ). IsAhead dialect s from (l ∷ lines') [] (suc room')) is (front_unheard (b.there before)))

  -- ---- the lines of a session are used up

  pub walk_full : (lines : List (LineGot × List ℕ)) (replies replies' : List (List ℕ)) (reply : List ℕ) (room : ℕ) → replies ≡ reply ∷ replies' → room ≡ 0
      → IsBehind Before (IsAhead dialect s from lines replies room) → Before → ⊥
  walk_full lines replies replies' reply room replies_are none b before =
      no_room dialect s from wide lines reply replies' room none (subst (λ (l : List (List ℕ)). IsAhead dialect s from lines l room) replies_are (b.there before))

  pub pass_full : (lines : List (LineGot × List ℕ)) (room : ℕ) → room ≡ 0 → IsBehind Before (IsAhead dialect s from lines [] room) → Before → IsOver s from
  pass_full lines room none b before = none_ahead dialect s from wide room lines none (b.there before)

  pub pass_over : (lines : List (LineGot × List ℕ)) (room : ℕ) → IsOver s from → IsBehind Before (IsAhead dialect s from lines [] room) → Before
  pass_over lines room over b = b.back (over_ahead dialect s from lines room over)

-- whether another line ends
pub more_replies : (said : List ℕ) (told : ℕ) (found : Option ℕ) → FindsEnd said told found
    → (is_some found ≡ false → replies_at said told ≡ []) × (replies_at said told ≡ [] → is_some found ≡ false)
more_replies said told None none = ((λ is. replies_end said told none), (λ is. refl))
more_replies said told (Some end) b = (
  (λ is. absurd cc),
  (λ is. absurd (let both : [] ≡ slice_range said told end ∷ replies_at said (end + 1) = sym is ∙ replies_here said told end b.2 in cc)),
)

-- the end of a walk by a line by which the agent left
pub left_heard : (dialect : Dialect) (s : Subject) (asked : List ℕ) (from : ℕ) (replies replies' : List (List ℕ)) (Over : Type 0) (more : Bool) (result : Heard) → EndsByLeaving Over more result
    → (more ≡ false → replies' ≡ []) → (replies' ≡ [] → more ≡ false)
    → (IsAheadAt dialect s asked from replies SESSION_LINES → (replies' ≡ []) × Over) → (replies' ≡ [] → Over → IsAheadAt dialect s asked from replies SESSION_LINES)
    → IsHeard dialect s asked from replies result
left_heard dialect s asked from replies replies' Over more (Through places at lines) is none some there back = absurd is
left_heard dialect s asked from replies replies' Over more (Gone lines) is none some there back = back (none is.0) is.1
left_heard dialect s asked from replies replies' Over more (Not difference) is none some there back = λ before. let end = there before in is (some end.0) end.1

-- the places behind a step are wide
pub taken_wide : (dialect : Dialect) (heard : Bool) (line : LineGot × List ℕ) (reply : List ℕ) (s : Subject) (from to : Places) → IsWide from
    → IsTaken (IsAsked dialect heard line) (FitsReply dialect heard reply) s from to → IsWide to
taken_wide dialect heard line reply s from to wide t = subst IsWide (sym t.to_is) (wide_after from t.turn wide)

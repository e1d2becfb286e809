-- What became of each agent, by its seat.
use Rattle.std.proofs.Common.{zero, suc, ◌≡◌, ℕ, ◌<◌, ◌+◌, ◌-◌, ◌^◌, List, [], ◌∷◌, ◌++◌, map, length, refl, ap, sym, ◌∙◌, subst, true, Bool, Some, None, arith, add-zero, filter, cond, Contains, is_some, slice_get, IfSome, Option, option_map, filter_map}
use Rattle.std.specs.List.{cons_option, range_with_len}
use mathlib.Core.Option.{some}
use lib.ListN.{get_elem?}
use Rattle.game_run.specs.{GameFile, ClosedGame, all_answers, goes_on, count_of, held_of, last_of, link_of, Lines, Cause, Desk, IsSameDesk, IsBorneOut, desk_ids, desk_caller, IsNewDesk, IsServed, welcome_text, LinkState, Dialect, FloorIds, eight_of, played_end, IsReadySeat, IsReadyClock, AreEightReady, IsPlayedOut, IsServedBy, IsAgentsPart, IsServedAs}
use Rattle.game_run.specs.declared.sessions.AgentSeat.{AgentSeat}
use Rattle.game_run.specs.declared.sessions.PlayedSeat.{PlayedSeat}
use Rattle.game_run.specs.declared.sessions.Two.{Two}
use Rattle.game_run.proofs.Transcripts.{transcript_of, absent_of}

-- what holds of each number below eight
pub below_eight : (P : ℕ → Type 0) → P 0 → P 1 → P 2 → P 3 → P 4 → P 5 → P 6 → P 7 → (n : ℕ) → n < 8 → P n
below_eight P a b c d e f g h zero lt = a
below_eight P a b c d e f g h (suc zero) lt = b
below_eight P a b c d e f g h (suc (suc zero)) lt = c
below_eight P a b c d e f g h (suc (suc (suc zero))) lt = d
below_eight P a b c d e f g h (suc (suc (suc (suc zero)))) lt = e
below_eight P a b c d e f g h (suc (suc (suc (suc (suc zero))))) lt = f
below_eight P a b c d e f g h (suc (suc (suc (suc (suc (suc zero)))))) lt = g
below_eight P a b c d e f g h (suc (suc (suc (suc (suc (suc (suc zero))))))) lt = h
below_eight P a b c d e f g h (suc (suc (suc (suc (suc (suc (suc (suc n)))))))) lt = absurd (omega (arith, lt))

-- ---- before the sessions

if_readable : {L : Type 0} (o : Option (Lines L)) → ((ls : Lines L) → o ≡ Some ls → goes_on (last_of ls) ≡ true) → IfSome o (λ ls. goes_on (last_of ls) ≡ true)
if_readable None each = tt
if_readable (Some ls) each = each ls refl

module _ {L : Type 0} (ids : FloorIds) (e : Two (Two (Two (AgentSeat L)))) (clock : Desk) (desks : List Desk) (lines : List (Option (Lines L)))
    (desks_are : desks ≡ map (λ p. p.desk) (eight_of e) ++ clock ∷ []) (lines_are : lines ≡ map (λ p. p.lines) (eight_of e))
    (fresh : (i : ℕ) (d : Desk) → get_elem? desks i ≡ some d → IsNewDesk ids i d)
    (readable : (agent : ℕ) (ls : Lines L) → slice_get lines agent ≡ Some (Some ls) → goes_on (last_of ls) ≡ true) where
  pub new_desk : (i : ℕ) (d : Desk) → get_elem? (map (λ p. p.desk) (eight_of e) ++ clock ∷ []) i ≡ some d → IsNewDesk ids i d
  new_desk i d at = fresh i d (ap (λ l. get_elem? l i) desks_are ∙ at)

  ready_at : (number : ℕ) (agent_seat : AgentSeat L) → number < 8 → get_elem? (map (λ p. p.desk) (eight_of e) ++ clock ∷ []) number ≡ some agent_seat.desk
      → slice_get (map (λ p. p.lines) (eight_of e)) number ≡ Some agent_seat.lines → IsReadySeat ids agent_seat
  ready_at number agent_seat lt at_desk at_lines =
      let new = new_desk number agent_seat.desk at_desk in
      record {
        own = new.ids;
        agent = omega (arith, new.caller, lt);
        no_calls = (new.entries, new.cash);
        more = if_readable agent_seat.lines (λ ls is. readable number ls (ap (λ l. slice_get l number) lines_are ∙ (at_lines ∙ ap (λ o. Some o) is)));
      }

  pub eight_ready : AreEightReady ids e
  eight_ready = record {
    one = record {
      one = record { one = ready_at 0 e.first.first.first (omega arith) refl refl; other = ready_at 1 e.first.first.second (omega arith) refl refl };
      other = record { one = ready_at 2 e.first.second.first (omega arith) refl refl; other = ready_at 3 e.first.second.second (omega arith) refl refl };
    };
    other = record {
      one = record { one = ready_at 4 e.second.first.first (omega arith) refl refl; other = ready_at 5 e.second.first.second (omega arith) refl refl };
      other = record { one = ready_at 6 e.second.second.first (omega arith) refl refl; other = ready_at 7 e.second.second.second (omega arith) refl refl };
    };
  }

  pub clock_ready : IsReadyClock ids clock
  clock_ready =
      let new = new_desk 8 clock refl in
      record { own = new.ids; caller = new.caller; no_calls = (new.entries, new.cash) }

-- ---- after them

module _ {L : Type 0} (state : L → LinkState) (dialect : Dialect) (game : GameFile) where
  pub same_out : (before : Desk) (lines : Option (Lines L)) (after : Desk) (end : Option (L × Cause)) → IsPlayedOut state dialect game before lines after end → IsSameDesk before after
  same_out before None after None out = (ap desk_ids out, ap desk_caller out)
  same_out before None after (Some end) out = absurd out
  same_out before (Some ls) after None out = absurd out
  same_out before (Some ls) after (Some (link, cause)) out = out.session.made.same

  pub same_kind : (before : Desk) (lines : Option (Lines L)) (after : Desk) (end : Option (L × Cause)) → IsPlayedOut state dialect game before lines after end → is_some end ≡ is_some lines
  same_kind before None after None out = refl
  same_kind before None after (Some end) out = absurd out
  same_kind before (Some ls) after None out = absurd out
  same_kind before (Some ls) after (Some (link, cause)) out = refl

  module _ (closed : ClosedGame) (long : length closed.auctions ≡ 28) (ids : FloorIds) (ends : List (ℕ × Cause)) where
    served_as : (agent : ℕ) (before after : Desk) (lines : Lines L) (link : L) (cause : Cause) → IsNewDesk ids agent before → IsBorneOut closed after
        → IsServedBy state dialect game before lines after link cause → IsServedAs state dialect game closed agent lines link cause
    served_as agent before after lines link cause new borne by = record {
      more = by.session.more;
      gave = by.session.gave;
      turns = by.session.turns;
      rest = by.session.rest;
      served = subst (λ n. IsServed dialect (all_answers [] (2 ^ 26 - count_of lines + length (held_of lines).unread) ((held_of lines).unread ++ by.session.more))
          (record { welcome = welcome_text game n; turns = by.session.turns; rest = by.session.rest; before = state (link_of lines); after = state link }) cause) new.caller by.session.served;
      transcript = transcript_of closed long ids agent before after new borne by.session.turns by.session.made;
    }

    pub agents_part : (agent : ℕ) (before : Desk) (lines : Option (Lines L)) (after : Desk) (end : Option (L × Cause)) → IsNewDesk ids agent before → IsBorneOut closed after
        → ((link : L) (cause : Cause) → end ≡ Some (link, cause) → Contains ends (agent, cause))
        → IsPlayedOut state dialect game before lines after end → IsAgentsPart state dialect game closed ends agent lines (option_map (λ e. e.0) end)
    agents_part agent before None after None new borne in_ends out = absent_of closed long ids agent before after new borne out
    agents_part agent before None after (Some end) new borne in_ends out = absurd out
    agents_part agent before (Some ls) after None new borne in_ends out = absurd out
    agents_part agent before (Some ls) after (Some (link, cause)) new borne in_ends out =
        (cause, in_ends link cause refl, served_as agent before after ls link cause new borne out)

-- ---- the ends

contains_next : {X : Type 0} (x y : X) (xs : List X) → Contains xs y → Contains (x ∷ xs) y
contains_next x y xs (k, lt, at) = (suc k, omega (arith, lt), at)

contains_mapped : {X Y : Type 0} (f : X → Option Y) (xs : List X) (k : ℕ) (x : X) (y : Y) → slice_get xs k ≡ Some x → f x ≡ Some y → Contains (filter_map f xs) y
contains_mapped f [] k x y at gives = absurd (cc)
contains_mapped f (a ∷ xs) zero x y at gives =
    let same : a ≡ x = cc in
    subst (λ o. Contains (cons_option o (filter_map f xs)) y) (sym (ap f same ∙ gives)) (0, omega arith, refl)
contains_mapped {X} {Y} f (a ∷ xs) (suc k) x y at gives = beside (f a) (contains_mapped f xs k x y at gives)
  where
    beside : (o : Option Y) → Contains (filter_map f xs) y → Contains (cons_option o (filter_map f xs)) y
    beside None c = c
    beside (Some z) c = contains_next z y (filter_map f xs) c

pub end_of_agent : {L : Type 0} (played : List (PlayedSeat L)) (agent : ℕ) (p : PlayedSeat L) (link : L) (cause : Cause) → slice_get played agent ≡ Some p → desk_caller p.desk ≡ agent → p.end ≡ Some (link, cause)
    → Contains (filter_map played_end played) (agent, cause)
end_of_agent played agent p link cause at caller end =
    contains_mapped played_end played agent p (agent, cause) at (ap (λ o. option_map (λ e. (desk_caller p.desk, e.1)) o) end ∙ ap (λ n. Some (n, cause)) caller)

-- the ends are those of the agents that have one, in order
pub ends_in_order : {L : Type 0} (has : ℕ → Bool) (from : ℕ) (played : List (PlayedSeat L)) → ((k : ℕ) (p : PlayedSeat L) → slice_get played k ≡ Some p → (desk_caller p.desk ≡ from + k) × (has (from + k) ≡ is_some p.end))
    → map (λ end. end.0) (filter_map played_end played) ≡ filter has (range_with_len from (length played))
ends_in_order has from [] each = refl
ends_in_order {L} has from (p ∷ played) each =
    let first = each 0 p refl in
    let caller : desk_caller p.desk ≡ from = first.0 ∙ add-zero from in
    let test : has from ≡ is_some p.end = ap has (sym (add-zero from)) ∙ first.1 in
    let rest = ends_in_order has (from + 1) played (λ k q at. shifted k q (each (suc k) q at)) in
    step p.end caller test rest
  where
    shift : (k : ℕ) → from + suc k ≡ (from + 1) + k
    shift k = omega arith

    shifted : (k : ℕ) (q : PlayedSeat L) → (desk_caller q.desk ≡ from + suc k) × (has (from + suc k) ≡ is_some q.end) → (desk_caller q.desk ≡ (from + 1) + k) × (has ((from + 1) + k) ≡ is_some q.end)
    shifted k q h = (h.0 ∙ shift k, ap has (sym (shift k)) ∙ h.1)

    step : (end : Option (L × Cause)) → desk_caller p.desk ≡ from → has from ≡ is_some end → map (λ end. end.0) (filter_map played_end played) ≡ filter has (range_with_len (from + 1) (length played))
        → map (λ end. end.0) (cons_option (option_map (λ e. (desk_caller p.desk, e.1)) end) (filter_map played_end played)) ≡ cond (has from) (from ∷ filter has (range_with_len (from + 1) (length played))) (filter has (range_with_len (from + 1) (length played)))
    step None caller test rest = rest ∙ ap (λ b. cond b (from ∷ filter has (range_with_len (from + 1) (length played))) (filter has (range_with_len (from + 1) (length played)))) (sym test)
    step (Some end) caller test rest =
        ap (λ n. n ∷ map (λ end. end.0) (filter_map played_end played)) caller ∙ (ap (λ l. from ∷ l) rest
        ∙ ap (λ b. cond b (from ∷ filter has (range_with_len (from + 1) (length played))) (filter has (range_with_len (from + 1) (length played)))) (sym test))

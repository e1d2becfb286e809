-- Eight seats and the clock, after a game.
use Rattle.std.proofs.Common.{◌≡◌, ℕ, ◌<◌, ◌+◌, List, [], ◌∷◌, ◌++◌, map, length, refl, ap, sym, ◌∙◌, subst, false, Some, None, All, arith, filter, replicate, is_some, slice_get, slice_index_or, filter_map, Option}
use Rattle.std.proofs.lemmas.List.{length-map}
use Rattle.std.proofs.lemmas.Option.{slice_get_within, same_Some}
use mathlib.Core.Option.{some}
use lib.ListN.{get_elem?}
use Rattle.game_run.specs.{GameFile, schedule, MakesCalls, agents, ClosedGame, all_goods, setup_of, Lines, Cause, Desk, IsSameDesk, IsBorneOut, desk_ids, desk_caller, IsNewDesk, LinkState, Dialect, IsAgents, IsLegalGame, AreBoth, FloorIds, eight_of, played_end, played_link, IsPlayedSeat, AreEightPlayed, IsAgentsPart, IsPlayedThrough}
use Rattle.game_run.specs.declared.sessions.AgentSeat.{AgentSeat}
use Rattle.game_run.specs.declared.sessions.PlayedSeat.{PlayedSeat}
use Rattle.game_run.specs.declared.sessions.Two.{Two}
use Rattle.game_run.proofs.AgentParts.{below_eight, same_out, same_kind, agents_part, end_of_agent, ends_in_order}
use Rattle.game_run.proofs.Transcripts.{clock_transcript_of}

module _ {L : Type 0} (state : L → LinkState) (dialect : Dialect) (game : GameFile)
    (e : Two (Two (Two (AgentSeat L)))) (p : Two (Two (Two (PlayedSeat L)))) (clock clock' : Desk) (ids : FloorIds)
    (fresh : (i : ℕ) (d : Desk) → get_elem? (map (λ q. q.desk) (eight_of e) ++ clock ∷ []) i ≡ some d → IsNewDesk ids i d)
    (played : AreEightPlayed state dialect game e p) where
  same_at : (number : ℕ) (agent_seat : AgentSeat L) (q : PlayedSeat L) → get_elem? (map (λ r. r.desk) (eight_of e) ++ clock ∷ []) number ≡ some agent_seat.desk → IsPlayedSeat state dialect game agent_seat q
      → (desk_ids q.desk ≡ ids) × (desk_caller q.desk ≡ number)
  same_at number agent_seat q at out =
      let new = fresh number agent_seat.desk at in let same = same_out state dialect game agent_seat.desk agent_seat.lines q.desk q.end out in
      (same.0 ∙ new.ids, same.1 ∙ new.caller)

  at0 : (desk_ids p.first.first.first.desk ≡ ids) × (desk_caller p.first.first.first.desk ≡ 0)
  at0 = same_at 0 e.first.first.first p.first.first.first refl played.one.one.one

  at1 : (desk_ids p.first.first.second.desk ≡ ids) × (desk_caller p.first.first.second.desk ≡ 1)
  at1 = same_at 1 e.first.first.second p.first.first.second refl played.one.one.other

  at2 : (desk_ids p.first.second.first.desk ≡ ids) × (desk_caller p.first.second.first.desk ≡ 2)
  at2 = same_at 2 e.first.second.first p.first.second.first refl played.one.other.one

  at3 : (desk_ids p.first.second.second.desk ≡ ids) × (desk_caller p.first.second.second.desk ≡ 3)
  at3 = same_at 3 e.first.second.second p.first.second.second refl played.one.other.other

  at4 : (desk_ids p.second.first.first.desk ≡ ids) × (desk_caller p.second.first.first.desk ≡ 4)
  at4 = same_at 4 e.second.first.first p.second.first.first refl played.other.one.one

  at5 : (desk_ids p.second.first.second.desk ≡ ids) × (desk_caller p.second.first.second.desk ≡ 5)
  at5 = same_at 5 e.second.first.second p.second.first.second refl played.other.one.other

  at6 : (desk_ids p.second.second.first.desk ≡ ids) × (desk_caller p.second.second.first.desk ≡ 6)
  at6 = same_at 6 e.second.second.first p.second.second.first refl played.other.other.one

  at7 : (desk_ids p.second.second.second.desk ≡ ids) × (desk_caller p.second.second.second.desk ≡ 7)
  at7 = same_at 7 e.second.second.second p.second.second.second refl played.other.other.other

  pub eight_agents : AreBoth (AreBoth (AreBoth IsAgents)) p
  eight_agents = record {
    one = record { one = record { one = omega (arith, at0.1); other = omega (arith, at1.1) }; other = record { one = omega (arith, at2.1); other = omega (arith, at3.1) } };
    other = record { one = record { one = omega (arith, at4.1); other = omega (arith, at5.1) }; other = record { one = omega (arith, at6.1); other = omega (arith, at7.1) } };
  }

  -- all desks are those of the floor
  pub all_back : IsSameDesk clock clock' → (map (λ d. desk_ids d) (map (λ q. q.desk) (eight_of p) ++ clock' ∷ []) ≡ replicate 9 ids)
      × (map (λ d. desk_caller d) (map (λ q. q.desk) (eight_of p) ++ clock' ∷ []) ≡ 0 ∷ 1 ∷ 2 ∷ 3 ∷ 4 ∷ 5 ∷ 6 ∷ 7 ∷ 8 ∷ [])
  all_back same =
      let new = fresh 8 clock refl in
      let own : desk_ids clock' ≡ ids = same.0 ∙ new.ids in let eighth : desk_caller clock' ≡ 8 = same.1 ∙ new.caller in
      (cc (at0.0, at1.0, at2.0, at3.0, at4.0, at5.0, at6.0, at7.0, own), cc (at0.1, at1.1, at2.1, at3.1, at4.1, at5.1, at6.1, at7.1, eighth))

  module _ (closed : ClosedGame) (setups : map (λ a. a.setup) closed.auctions ≡ map (λ good. setup_of good game) all_goods) (borne : All (IsBorneOut closed) (map (λ q. q.desk) (eight_of p) ++ clock' ∷ [])) where
    long : length closed.auctions ≡ 28
    long = sym (length-map closed.auctions (λ a. a.setup)) ∙ ap length setups

    part_at : (number : ℕ) (agent_seat : AgentSeat L) (q : PlayedSeat L) → get_elem? (map (λ r. r.desk) (eight_of e) ++ clock ∷ []) number ≡ some agent_seat.desk → slice_get (eight_of p) number ≡ Some q
        → IsBorneOut closed q.desk → IsPlayedSeat state dialect game agent_seat q
        → IsAgentsPart state dialect game closed (filter_map played_end (eight_of p)) number agent_seat.lines (played_link q)
    part_at number agent_seat q at at_end out_borne out =
        agents_part state dialect game closed long ids (filter_map played_end (eight_of p)) number agent_seat.desk agent_seat.lines q.desk q.end (fresh number agent_seat.desk at) out_borne
        (λ link cause is. end_of_agent (eight_of p) number q link cause at_end (same_at number agent_seat q at out).1 is) out

    each_agent : (agent : ℕ) → agent < 8 → IsAgentsPart state dialect game closed (filter_map played_end (eight_of p)) agent
        (slice_index_or (map (λ q. q.lines) (eight_of e)) agent None) (slice_index_or (map played_link (eight_of p)) agent None)
    each_agent = below_eight (λ agent. IsAgentsPart state dialect game closed (filter_map played_end (eight_of p)) agent
        (slice_index_or (map (λ q. q.lines) (eight_of e)) agent None) (slice_index_or (map played_link (eight_of p)) agent None))
        (part_at 0 e.first.first.first p.first.first.first refl refl (borne 0 clock' (omega arith)) played.one.one.one)
        (part_at 1 e.first.first.second p.first.first.second refl refl (borne 1 clock' (omega arith)) played.one.one.other)
        (part_at 2 e.first.second.first p.first.second.first refl refl (borne 2 clock' (omega arith)) played.one.other.one)
        (part_at 3 e.first.second.second p.first.second.second refl refl (borne 3 clock' (omega arith)) played.one.other.other)
        (part_at 4 e.second.first.first p.second.first.first refl refl (borne 4 clock' (omega arith)) played.other.one.one)
        (part_at 5 e.second.first.second p.second.first.second refl refl (borne 5 clock' (omega arith)) played.other.one.other)
        (part_at 6 e.second.second.first p.second.second.first refl refl (borne 6 clock' (omega arith)) played.other.other.one)
        (part_at 7 e.second.second.second p.second.second.second refl refl (borne 7 clock' (omega arith)) played.other.other.other)

    HasEnd : ℕ → Type 0
    HasEnd k = (q : PlayedSeat L) → slice_get (eight_of p) k ≡ Some q → (desk_caller q.desk ≡ 0 + k) × (slice_index_or (map (λ ls. is_some ls) (map (λ q. q.lines) (eight_of e))) (0 + k) false ≡ is_some q.end)

    end_at : (number : ℕ) (agent_seat : AgentSeat L) (q r : PlayedSeat L) → get_elem? (map (λ r. r.desk) (eight_of e) ++ clock ∷ []) number ≡ some agent_seat.desk → IsPlayedSeat state dialect game agent_seat q
        → Some q ≡ Some r → (desk_caller r.desk ≡ number) × (is_some agent_seat.lines ≡ is_some r.end)
    end_at number agent_seat q r at out is =
        subst (λ s. (desk_caller s.desk ≡ number) × (is_some agent_seat.lines ≡ is_some s.end)) (same_Some q r is) ((same_at number agent_seat q at out).1, sym (same_kind state dialect game agent_seat.desk agent_seat.lines q.desk q.end out))

    each_end : (k : ℕ) → k < 8 → HasEnd k
    unfolding HasEnd
    each_end = below_eight HasEnd
        (λ r at. end_at 0 e.first.first.first p.first.first.first r refl played.one.one.one at)
        (λ r at. end_at 1 e.first.first.second p.first.first.second r refl played.one.one.other at)
        (λ r at. end_at 2 e.first.second.first p.first.second.first r refl played.one.other.one at)
        (λ r at. end_at 3 e.first.second.second p.first.second.second r refl played.one.other.other at)
        (λ r at. end_at 4 e.second.first.first p.second.first.first r refl played.other.one.one at)
        (λ r at. end_at 5 e.second.first.second p.second.first.second r refl played.other.one.other at)
        (λ r at. end_at 6 e.second.second.first p.second.second.first r refl played.other.other.one at)
        (λ r at. end_at 7 e.second.second.second p.second.second.second r refl played.other.other.other at)

    ended : map (λ end. end.0) (filter_map played_end (eight_of p)) ≡ filter (λ agent. slice_index_or (map (λ ls. is_some ls) (map (λ q. q.lines) (eight_of e))) agent false) agents
    unfolding HasEnd
    ended = ends_in_order (λ agent. slice_index_or (map (λ ls. is_some ls) (map (λ q. q.lines) (eight_of e))) agent false) 0 (eight_of p)
        (λ k q at. each_end k (slice_get_within (eight_of p) k q at) q at)

    pub played_through : (lines : List (Option (Lines L))) (links : List (Option L)) (ends : List (ℕ × Cause)) → lines ≡ map (λ q. q.lines) (eight_of e) → links ≡ map played_link (eight_of p)
        → ends ≡ filter_map played_end (eight_of p) → IsLegalGame game closed → IsSameDesk clock clock' → MakesCalls (schedule game) clock clock' → IsPlayedThrough state dialect game closed lines links ends
    played_through lines links ends lines_are links_are ends_are legal same made =
        let new = fresh 8 clock refl in
        record {
          each_agent = λ agent lt. subst (λ ls. IsAgentsPart state dialect game closed ends agent (slice_index_or ls agent None) (slice_index_or links agent None)) (sym lines_are)
              (subst (λ ls. IsAgentsPart state dialect game closed ends agent (slice_index_or (map (λ q. q.lines) (eight_of e)) agent None) (slice_index_or ls agent None)) (sym links_are)
              (subst (λ es. IsAgentsPart state dialect game closed es agent (slice_index_or (map (λ q. q.lines) (eight_of e)) agent None) (slice_index_or (map played_link (eight_of p)) agent None)) (sym ends_are)
              (each_agent agent lt)));
          wide = ap length links_are;
          ended = ap (map (λ end. end.0)) ends_are ∙ (ended ∙ ap (λ ls. filter (λ agent. slice_index_or (map (λ l. is_some l) ls) agent false) agents) (sym lines_are));
          legal_game = legal;
          clock_transcript = clock_transcript_of game closed ids clock clock' new (borne 8 clock' (omega arith)) (same.1 ∙ new.caller) made;
        }

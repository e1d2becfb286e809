use Rattle.std.proofs.Common.{◌≡◌, ◌∷◌, ◌++◌, ◌∙◌, [], All, ap, sym, subst, arith, length, map, length-append, option_to_list, filter_map, IsPermutation}
use Rattle.std.proofs.lemmas.List.{length-map}
use Rattle.std.proofs.lemmas.List.Sorted.{IsPermutation-refl}
use Rattle.game_run.specs.{IsBorneOut, desk_ids, desk_caller, floor_ids, eight_of, played_end, played_link, AreTakenPlayed}
use Rattle.std.proofs.lemmas.List.Elements.{All-weaker}
use Rattle.auction_rules.proofs.SameRules.{legal_history}
use Rattle.trade_ledger.proofs.SamePosts.{posted_from_matched}
use Rattle.game_run.proofs.AgentParts.{new_desk, eight_ready, clock_ready}
use Rattle.game_run.proofs.PlayedSeats.{eight_agents, all_back, played_through}
use Rattle.game_run.proofs.play.play_out.Goals as goal

pub agent_seats-agent_seats-requires-clause-desks : goal.agent_seats-agent_seats-requires-clause-desks
agent_seats-agent_seats-requires-clause-desks g c =
    let nine : length c.args.open_floor.desks.items ≡ 9 = sym (length-map c.args.open_floor.desks.items (λ d. desk_caller d)) ∙ ap length c.requires.open_floor.floor.own.1 in
    let popped : c.args.open_floor.desks.items ≡ c.pop.new.self.items ++ c.unwrap-clock.result ∷ [] = c.pop.ensures.items ∙ ap (λ o. c.pop.new.self.items ++ option_to_list o) c.unwrap-clock.ensures in
    omega (arith, nine, ap length popped ∙ length-append c.pop.new.self.items (c.unwrap-clock.result ∷ []), c.pop.new.self.ok.0)

pub run_all-played-requires-clause-ready : goal.run_all-played-requires-clause-ready
run_all-played-requires-clause-ready g c κs within =
    let clock = c.unwrap-clock.result in let e = c.agent_seats-agent_seats.result in let ids = floor_ids c.args.open_floor.floor in
    let desks_are : c.args.open_floor.desks.items ≡ map (λ p. p.desk) (eight_of e) ++ clock ∷ [] = c.pop.ensures.items ∙ ap (λ o. c.pop.new.self.items ++ option_to_list o) c.unwrap-clock.ensures ∙ ap (λ l. l ++ clock ∷ []) c.agent_seats-agent_seats.ensures.desks in
    eight_ready ids e clock c.args.open_floor.desks.items c.args.lines.items desks_are c.agent_seats-agent_seats.ensures.lines c.requires.open_floor.floor.fresh c.requires.readable

pub run_all-played-requires-clause-clock : goal.run_all-played-requires-clause-clock
run_all-played-requires-clause-clock g c κs within =
    let clock = c.unwrap-clock.result in let e = c.agent_seats-agent_seats.result in let ids = floor_ids c.args.open_floor.floor in
    let desks_are : c.args.open_floor.desks.items ≡ map (λ p. p.desk) (eight_of e) ++ clock ∷ [] = c.pop.ensures.items ∙ ap (λ o. c.pop.new.self.items ++ option_to_list o) c.unwrap-clock.ensures ∙ ap (λ l. l ++ clock ∷ []) c.agent_seats-agent_seats.ensures.desks in
    clock_ready ids e clock c.args.open_floor.desks.items c.args.lines.items desks_are c.agent_seats-agent_seats.ensures.lines c.requires.open_floor.floor.fresh c.requires.readable

pub add_eight-requires-clause-agents : goal.add_eight-requires-clause-agents
unfolding AreTakenPlayed
add_eight-requires-clause-agents g c =
    let clock = c.unwrap-clock.result in let e = c.agent_seats-agent_seats.result in let ids = floor_ids c.args.open_floor.floor in
    let desks_are : c.args.open_floor.desks.items ≡ map (λ p. p.desk) (eight_of e) ++ clock ∷ [] = c.pop.ensures.items ∙ ap (λ o. c.pop.new.self.items ++ option_to_list o) c.unwrap-clock.ensures ∙ ap (λ l. l ++ clock ∷ []) c.agent_seats-agent_seats.ensures.desks in
    let p = c.run_all-played.result.0 in let clock' = c.run_all-played.result.1.desk in
    let fresh = new_desk ids e clock c.args.open_floor.desks.items c.args.lines.items desks_are c.agent_seats-agent_seats.ensures.lines c.requires.open_floor.floor.fresh c.requires.readable in
    eight_agents g.L.Link.state (g.D.Dialect.form c.args.dialect.now) c.args.game.now e p clock clock' ids fresh c.run_all-played.ensures.played

pub close-requires : goal.close-requires
unfolding AreTakenPlayed
close-requires g c =
    let clock = c.unwrap-clock.result in let e = c.agent_seats-agent_seats.result in let ids = floor_ids c.args.open_floor.floor in
    let desks_are : c.args.open_floor.desks.items ≡ map (λ p. p.desk) (eight_of e) ++ clock ∷ [] = c.pop.ensures.items ∙ ap (λ o. c.pop.new.self.items ++ option_to_list o) c.unwrap-clock.ensures ∙ ap (λ l. l ++ clock ∷ []) c.agent_seats-agent_seats.ensures.desks in
    let p = c.run_all-played.result.0 in let clock' = c.run_all-played.result.1.desk in
    let fresh = new_desk ids e clock c.args.open_floor.desks.items c.args.lines.items desks_are c.agent_seats-agent_seats.ensures.lines c.requires.open_floor.floor.fresh c.requires.readable in
    let desks_back : c.push_reserved.new.self.items ≡ map (λ q. q.desk) (eight_of p) ++ clock' ∷ [] =
    c.push_reserved.ensures.items ∙ ap (λ l. l ++ clock' ∷ []) (c.add_eight.ensures.gathers.desks ∙ ap (λ l. l ++ map (λ q. q.desk) (eight_of p)) c.requires.open_floor.session_ends.desks.0) in
    let back = all_back g.L.Link.state (g.D.Dialect.form c.args.dialect.now) c.args.game.now e p clock clock' ids fresh c.run_all-played.ensures.played c.run_all-played.ensures.same in
    (ap (map (λ d. desk_ids d)) desks_back ∙ back.0, subst (IsPermutation _) (sym (ap (map (λ d. desk_caller d)) desks_back ∙ back.1)) (IsPermutation-refl _))

pub returns-clause-through : goal.returns-clause-through
unfolding AreTakenPlayed
returns-clause-through g c =
    let clock = c.unwrap-clock.result in let e = c.agent_seats-agent_seats.result in let ids = floor_ids c.args.open_floor.floor in
    let desks_are : c.args.open_floor.desks.items ≡ map (λ p. p.desk) (eight_of e) ++ clock ∷ [] = c.pop.ensures.items ∙ ap (λ o. c.pop.new.self.items ++ option_to_list o) c.unwrap-clock.ensures ∙ ap (λ l. l ++ clock ∷ []) c.agent_seats-agent_seats.ensures.desks in
    let p = c.run_all-played.result.0 in let clock' = c.run_all-played.result.1.desk in
    let fresh = new_desk ids e clock c.args.open_floor.desks.items c.args.lines.items desks_are c.agent_seats-agent_seats.ensures.lines c.requires.open_floor.floor.fresh c.requires.readable in
    let desks_back : c.push_reserved.new.self.items ≡ map (λ q. q.desk) (eight_of p) ++ clock' ∷ [] =
    c.push_reserved.ensures.items ∙ ap (λ l. l ++ clock' ∷ []) (c.add_eight.ensures.gathers.desks ∙ ap (λ l. l ++ map (λ q. q.desk) (eight_of p)) c.requires.open_floor.session_ends.desks.0) in
    let setups = c.close.ensures.setups ∙ ap (map (λ s. s.setup)) c.requires.open_floor.floor.starts in
    played_through g.L.Link.state (g.D.Dialect.form c.args.dialect.now) c.args.game.now e p clock clock' ids fresh c.run_all-played.ensures.played c.close.result setups
    (subst (All (IsBorneOut c.close.result)) desks_back c.close.ensures.borne_out) c.args.lines.items c.add_eight.new.self.links.items c.add_eight.new.self.ends.items c.agent_seats-agent_seats.ensures.lines
    (c.add_eight.ensures.gathers.links ∙ ap (λ l. l ++ map played_link (eight_of p)) c.requires.open_floor.session_ends.links.0)
    (c.add_eight.ensures.gathers.ends ∙ ap (λ l. l ++ filter_map played_end (eight_of p)) c.requires.open_floor.session_ends.ends.0)
    (record {
      setups = setups;
      legal = All-weaker _ _ (λ auction is. legal_history auction.setup auction.history is) c.close.result.auctions c.close.ensures.legal;
      cash = c.close.ensures.cash;
      matched = posted_from_matched (map (λ auction. auction.history) c.close.result.auctions) c.close.result.cash c.close.ensures.matched;
    })
    c.run_all-played.ensures.same c.run_all-played.ensures.made

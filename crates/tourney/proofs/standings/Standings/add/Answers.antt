use Rattle.std.proofs.Common.{◌≡◌, ◌+◌, ◌<◌, ◌≤◌, ℕ, List, ◌∷◌, [], length, take, get_or, unsigned_abs, true, ap, sym, subst, ◌∙◌, length-append, flat_map}
use Rattle.tourney.specs.{agents, GameFile, LoggedGame, are_distinct, result_of, Kept, with_results, result_if_counts, most_score}
use Rattle.tac_base.proofs.Agents.{agent_at}
use Rattle.tourney.proofs.Growing.{agents_more, all_agents, game_more}
use Rattle.tourney.proofs.Ranges.{IsCounted, none_counted, agent_counted}
use Rattle.tourney.proofs.Scores.{result_small}
use Rattle.tourney.proofs.standings.Standings.add.Goals as goal

pub loop-agent-init : goal.loop-agent-init
loop-agent-init c = record {
  tallies = ap (λ (k : Kept). k.tallies) c.self.view_is;
  counted = none_counted (c.args.game.now, c.args.log.now) c.self.inside.games c.self.inside.tallies.entries c.self.invariant.0;
}

pub loop-agent-preserved : goal.loop-agent-preserved
loop-agent-preserved c =
    let played : GameFile × LoggedGame = (c.args.game.now, c.args.log.now) in
    let items = c.all-agent-items.result in
    let i = c.loop-agent.agent-index in
    let new = c.add_agent.new.tallies.entries in
    let eight : length items ≡ 8 = ap (λ (xs : List ℕ). length xs) c.all-agent-items.ensures in
    let lt : i < 8 = c.loop-agent-test.true in
    let inside : i < length items = subst (λ (n : ℕ). i < n) (sym eight) lt in
    let agent : c.agent-item.result ≡ i = c.agent-item.is ∙ (ap (λ (xs : List ℕ). get_or xs i c.agent-item.result) c.all-agent-items.ensures ∙ agent_at i c.agent-item.result lt) in
    let after : new ≡ with_results c.loop-agent.tallies.entries (result_if_counts played c.agent-item.result) = c.in_ok-add_agent.ensures ∙ ap (λ (a : ℕ). with_results c.loop-agent.tallies.entries (result_if_counts played a)) (sym c.agent-item.is) in
    let seats = subst (λ (g : GameFile). length g.words ≡ 8) c.game.view_is c.game.invariant.words.count in
    let differ = subst (λ (g : GameFile). are_distinct g.words ≡ true) c.game.view_is c.game.invariant.words.apart in
    let small : unsigned_abs (result_of played i).1 ≤ most_score = result_small c.args.game.now c.args.log.now c.head-head.ensures.logged c.requires.sound i lt in
    record {
      tallies = agents_more played items i c.agent-item.result c.args.self.tallies c.loop-agent.tallies.entries new inside c.agent-item.is c.loop-agent.invariant.tallies after;
      counted = subst (IsCounted played c.self.inside.games (i + 1)) (sym (after ∙ ap (λ (a : ℕ). with_results c.loop-agent.tallies.entries (result_if_counts played a)) agent))
          (agent_counted played c.self.inside.games i c.loop-agent.tallies.entries seats differ lt small c.loop-agent.invariant.counted);
    }

pub returns-clause-stands : goal.returns-clause-stands
returns-clause-stands c = λ earlier stands.
    let played : GameFile × LoggedGame = (c.args.game.now, c.args.log.now) in
    let eight : length c.all-agent-items.result ≡ 8 = ap (λ (xs : List ℕ). length xs) c.all-agent-items.ensures in
    let over : length c.all-agent-items.result ≤ c.loop-agent.agent-index = subst (λ (n : ℕ). n ≤ c.loop-agent.agent-index) (sym eight) c.loop-agent-test.false in
    let whole : take c.loop-agent.agent-index c.all-agent-items.result ≡ agents = all_agents c.all-agent-items.result c.loop-agent.agent-index c.all-agent-items.ensures over in
    record {
      tallies = game_more earlier played c.args.self.tallies c.loop-agent.tallies.entries stands.tallies (c.loop-agent.invariant.tallies ∙ ap (λ (xs : List ℕ). with_results c.args.self.tallies (flat_map (result_if_counts played) xs)) whole);
      games = ap (λ (n : ℕ). n + 1) (ap (λ (k : Kept). k.games) c.self.view_is ∙ stands.games) ∙ sym (length-append earlier (played ∷ []));
    }

use Rattle.std.proofs.Common.{◌++◌, ap, ◌∙◌, option_to_list}
use Rattle.std.specs.Result.{result_ok}
use Rattle.clock_events.proofs.NewDesks.{last_is_new, one_before_is_new}
use Rattle.link_tests.proofs.clocks.begin_two.Goals as goal

pub returns-clause-agent : goal.returns-clause-agent
returns-clause-agent c =
    let clock = c.pop.ensures.items ∙ ap (λ d. c.pop.new.self.items ++ option_to_list d) (c.ok_or.ensures.ok_part ∙ ap result_ok c.in_ok-clock.was) in
    let agent = c.pop-2.ensures.items ∙ ap (λ d. c.pop-2.new.self.items ++ option_to_list d) (c.ok_or-2.ensures.ok_part ∙ ap result_ok c.in_ok-agent.was) in
    one_before_is_new c.in_ok-floor.floor _ _ c.in_ok-clock.clock c.in_ok-floor.ensures.new_desks c.in_ok-floor.ensures.desks.0 clock _ c.in_ok-agent.agent agent

pub returns-clause-clock : goal.returns-clause-clock
returns-clause-clock c =
    let clock = c.pop.ensures.items ∙ ap (λ d. c.pop.new.self.items ++ option_to_list d) (c.ok_or.ensures.ok_part ∙ ap result_ok c.in_ok-clock.was) in
    let fresh = last_is_new c.in_ok-floor.floor _ _ c.in_ok-clock.clock c.in_ok-floor.ensures.new_desks c.in_ok-floor.ensures.desks.0 clock in
    (fresh.ids, fresh.caller)

pub returns-clause-no_calls : goal.returns-clause-no_calls
returns-clause-no_calls c =
    let clock = c.pop.ensures.items ∙ ap (λ d. c.pop.new.self.items ++ option_to_list d) (c.ok_or.ensures.ok_part ∙ ap result_ok c.in_ok-clock.was) in
    let fresh = last_is_new c.in_ok-floor.floor _ _ c.in_ok-clock.clock c.in_ok-floor.ensures.new_desks c.in_ok-floor.ensures.desks.0 clock in
    (fresh.entries, fresh.cash)

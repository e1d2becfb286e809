use Rattle.std.proofs.Common.{rules, ◌≡◌, ℕ, ◌+◌, ◌<◌, ◌≤◌, Bool, false, ◌∷◌, length, get_or, set, sym, ◌∙◌, subst}
use Rattle.script_run.specs.declared.game.lines.GameLine.TheVariants.{Asks}
use Rattle.script_run.specs.{count_of_agent, AreGameCounts}
use Rattle.script_run.proofs.GameCounting.{limited_line, counted_line}
use Rattle.script_run.proofs.game.counts.GameCounts.count_line.Goals as goal

pub returns : goal.returns
returns c lines is =
    let self = c.args.self.now in
    let place = c.from-place.ensures ∙ c.get.ensures.value in
    let low : c.args.agent ≤ 7 = search rules in
    let inside : c.from-place.result < length self.of_agent = search rules in
    let inside' : c.from-place.result < length self.has_quit = search rules in
    let going : get_or self.has_quit c.from-place.result false ≡ false = c.if-self-place.false in
    let going' = subst (λ (n : ℕ). get_or self.has_quit n false ≡ false) place going in
    let few : get_or self.of_agent c.args.agent 0 < 65536 = subst (λ (n : ℕ). get_or self.of_agent n 0 < 65536) place c.if-count-ge-SESSION_LINES.false in
    let few' : count_of_agent lines c.args.agent < 65536 = subst (λ (n : ℕ). n < 65536) (is.each c.args.agent low) few in (
      limited_line lines c.args.agent c.args.asked (sym (is.ended c.args.agent low) ∙ going') few',
      subst (λ (s : ℕ × Bool). AreGameCounts (Asks c.args.agent c.args.asked ∷ lines) (record { ticks = self.ticks; of_agent = set self.of_agent s.0 (get_or self.of_agent s.0 0 + 1); has_quit = set self.has_quit s.0 s.1 }))
          (sym (λ i. (place i, c.is_quit.ensures i)))
          (counted_line lines self c.args.agent c.args.asked is low (subst (λ (n : ℕ). n < length self.of_agent) place inside) (subst (λ (n : ℕ). n < length self.has_quit) place inside') going'),
    )

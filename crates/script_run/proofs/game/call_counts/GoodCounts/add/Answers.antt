use Rattle.std.proofs.Common.{rules, ◌+◌, ◌<◌, length, get_or, ◌∙◌, ◌==◌}
use Rattle.script_run.proofs.Counted.{count_set, one_if}
use Rattle.script_run.proofs.game.call_counts.GoodCounts.add.Goals as goal

pub returns : goal.returns
returns c place there =
    let good = c.from.ensures ∙ c.get.ensures.value in
    let inside : c.from.result < length c.args.self.now.calls = search rules in
    count_set c.args.self.now.calls c.from.result place inside
    ∙ (λ i. get_or c.args.self.now.calls place 0 + one_if (good i == place))

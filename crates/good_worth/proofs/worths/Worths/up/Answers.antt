use Rattle.good_worth.proofs.Totals.{base_below}
use Rattle.good_worth.proofs.worths.Worths.up.Goals as goal

pub overflow_sub-result : goal.overflow_sub-result
overflow_sub-result c =
    let w = c.args.self.now in
    base_below w.base w.more.items w.less.items c.args.good c.index.result.now w.fits c.requires c.index.ensures

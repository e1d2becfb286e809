use Rattle.std.proofs.Common.{◌≡◌, true, sym, subst, ◌∙◌}
use Rattle.dual_bound.specs.{IsAccount, leaf_bound, IsFeasible, is_within, chosen}
use Rattle.dual_bound.proofs.Reaching.{reached_settled}
use Rattle.dual_bound.proofs.settling.is_reached.Goals as goal
use Rattle.dual_bound.proofs.settling.is_reached.Goals.{then-are_left, else-are_left}

pub returns-then-is_enough : goal.returns-then-is_enough
returns-then-is_enough c = λ h. elim c.if-are_left.branch [
  | then-are_left w ↦
      let account = c.args.account.now in
      let prices = c.args.quote.now.prices in
      let ps = c.args.allocation.now in
      let left = chosen c.args.choice.now in
      let ranges = subst IsAccount c.account.view_is c.account.invariant in
      let feasible : IsFeasible account ps = record { eight = c.requires.eight; lawful = c.requires.lawful; enough = w.is_enough.ensures.enough (sym w.value-is ∙ c.if-is_enough.true) } in
      let within = subst (λ total. is_within (leaf_bound account left prices) total ≡ true) c.allocation_worth.ensures.value (c.holds.ensures.bounds h account left ranges c.requires.stock c.requires.ceiling) in
      reached_settled account ranges left prices ps feasible (c.are_left.ensures w.if-are_left.true) within
  | else-are_left w ↦ cc (sym w.value-is ∙ c.if-is_enough.true)
]

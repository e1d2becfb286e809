use Rattle.std.proofs.Common.{true, false, sym, ◌∙◌}
use Rattle.std.specs.Map.{values_of}
use Rattle.tourney.specs.Tallies.{is_over}
use Rattle.tourney.proofs.Ranges.{count_more}
use Rattle.tourney.proofs.tallies.one_ahead.Goals as goal

pub returns-then-is_above-clause-counted : goal.returns-then-is_above-clause-counted
returns-then-is_above-clause-counted c = count_more (is_over c.args.tally) (values_of c.args.tallies.now.entries) c.args.place c.tally_in.result true c.tally_in.ensures.value (sym c.is_above.ensures ∙ c.if-is_above.true)

pub returns-clause-counted : goal.returns-clause-counted
returns-clause-counted c = count_more (is_over c.args.tally) (values_of c.args.tallies.now.entries) c.args.place c.tally_in.result false c.tally_in.ensures.value (sym c.is_above.ensures ∙ c.if-is_above.false)

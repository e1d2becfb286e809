use Rattle.packages.specs.Prices.{ArePrices}
use Rattle.relaxation.proofs.tableau.Tableau.prices_at.Given as goal

abbrev pub invariant-loop-good : goal.invariant-loop-good
invariant-loop-good l = ArePrices l.dollars

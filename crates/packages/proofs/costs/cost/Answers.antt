use Rattle.std.proofs.Common.{◌≡◌, true, sym, arith}
use Rattle.packages.specs.declared.travel_packages.Package.TheVariants.{Trip}
use Rattle.packages.specs.Packages.{is_package}
use Rattle.packages.proofs.Trips.{cost_of-None, cost_of-Trip}
use Rattle.packages.proofs.costs.cost.Goals as goal

pub returns-in-None-clause-value : goal.returns-in-None-clause-value
returns-in-None-clause-value c = rw c.in-None.is (sym (cost_of-None c.args.prices.now))

pub returns-in-Trip-clause-value : goal.returns-in-Trip-clause-value
returns-in-Trip-clause-value c =
    let w = c.in-Trip in
    let lawful : is_package (Trip w.hotel w.arrive w.depart w.nights) ≡ true = rw w.is at c.requires in
    let parts = cost_of-Trip c.args.prices.now w.hotel w.arrive w.depart w.nights lawful in
    rw w.is (grind (arith, parts))

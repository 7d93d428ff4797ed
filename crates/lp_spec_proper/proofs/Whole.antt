-- What is added to a project without faults is as the laws on wires ask.
use Rattle.lp_spec_proper.specs.Laws.{AdditionsHaveNames, AdditionsStandOnWays, WaysComeFromThere, AdditionsHaveRoutes, AdditionsAreProper}
use Rattle.lp_spec_proper.proofs.Plain.{is-plain}
use Rattle.lp_spec_proper.proofs.FitCells.{has-fit-cells}
use Rattle.lp_spec_proper.proofs.Switched.{has-switches}

pub proper-law : AdditionsHaveNames → AdditionsStandOnWays → WaysComeFromThere → AdditionsHaveRoutes → AdditionsAreProper
proper-law names on_ways comes routes p l switch_command read good within = record {
  names = names p l switch_command read good within;
  plain = is-plain p l switch_command read good within;
  fit = has-fit-cells p l switch_command read good within;
  on_ways = on_ways p l switch_command read good within;
  comes = comes p l switch_command read good within;
  routes = routes p l;
  switches = has-switches p l switch_command read good within;
}

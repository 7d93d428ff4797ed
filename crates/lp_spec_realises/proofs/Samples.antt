-- A small design with its supplies, on which the definitions are computed.
use Rattle.std.specs.Prelude.{ℕ, List, [], ◌∷◌, Some, None, codes}
use Rattle.lp_expr.specs.declared.step.Step.TheVariants.{Variable, Not}
use Rattle.lp_model.specs.declared.intent.Applies.TheVariants.{Outputs}
use Rattle.lp_model.specs.declared.intent.DeclaredState.{DeclaredState}
use Rattle.lp_model.specs.declared.intent.DeclaredState.TheVariants.{On, Off}
use Rattle.lp_model.specs.declared.library.PinUse.TheVariants.{Plain}
use Rattle.lp_model.specs.declared.supply.OriginKind.TheVariants.{Port}
use Rattle.lp_model.specs.declared.supply.SetOrigins.{SetOrigins}
use Rattle.lp_model.specs.declared.supply.Supplies.{Supplies}
use Rattle.lp_model.specs.LibraryView.{CellView}
use Rattle.lp_spec_design.specs.Intents.{Intent}
use Rattle.lp_spec_design.proofs.Samples.{plain, with_strategies, isolation}
use Rattle.lp_spec_network.proofs.Samples.{origin}
use Rattle.lp_spec_fit.proofs.Samples.{buffer, clamp, shifter, cell, plain_pgs, input, output}
use Rattle.lp_spec_realises.specs.Projects.{Project}

abbrev pub inverter : CellView
inverter = cell (codes "INV") 1000000 plain_pgs (input (codes "A") Plain ∷ output (codes "Y") (record { variables = codes "A" ∷ []; steps = Variable 0 ∷ Not ∷ [] }) ∷ [])

abbrev pub cells : List CellView
cells = inverter ∷ buffer ∷ clamp ∷ shifter ∷ []

-- a set of a power origin and of the ground, origin 3
abbrev pub set_of : ℕ → SetOrigins
set_of k = record { power = record { 0 = k }; gnd = record { 0 = 3 }; nwell = record { 0 = k }; pwell = record { 0 = 3 }; deepnwell = record { 0 = k }; deeppwell = record { 0 = 3 } }

-- the top's supply at 1.0, and those of the block and of a third set with these states
abbrev pub supplies : List DeclaredState → List DeclaredState → Supplies
supplies block third = record {
  origins = origin 0 (Port (On 1000000 ∷ [])) ∷ origin 1 (Port block) ∷ origin 2 (Port third) ∷ origin 3 (Port []) ∷ [];
  rows = [];
  sets = Some (set_of 0) ∷ Some (set_of 1) ∷ Some (set_of 2) ∷ [];
}

-- the source of the small designs over this library, with a block that may be off
abbrev pub project : Intent → Project
project i = record {
  structure = record plain { cells = cells };
  intent = i;
  supplies = supplies (On 1000000 ∷ Off ∷ []) (On 1000000 ∷ []);
  margin = 0;
  origin_names = codes "VDD" ∷ codes "VDC" ∷ codes "VDE" ∷ codes "VSS" ∷ [];
}

abbrev pub by_the_block : Intent
by_the_block = with_strategies (isolation 1 None Outputs ∷ [])

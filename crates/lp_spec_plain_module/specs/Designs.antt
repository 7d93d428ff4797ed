-- Designs of one module in one domain, whose supply set is made of two ports (IEEE 1801-2015 create_supply_port, create_supply_set, create_power_domain).
use Rattle.std.specs.Prelude.{ℕ, false, List, [], ◌∷◌, Some, None}
use Rattle.lp_model.specs.NetlistView.{ModuleView}
use Rattle.lp_model.specs.LibraryView.{CellView}
use Rattle.lp_spec_design.specs.Keys.{Name}
use Rattle.lp_spec_design.specs.Intents.{Domain, Intent, SupplySet, FromPort, Network}
use Rattle.lp_spec_design.specs.Settled.{Design}

-- the cells of the libraries, the module, the supply ports of the power and of the ground, and up to which difference a reader takes the value of a lower driver (in microvolts)
pub record Flat : Type 0 where
  pub cells : List CellView
  pub source : ModuleView
  pub power : Name
  pub gnd : Name
  pub margin : ℕ

-- the power port is the first origin, the ground port the second
abbrev pub one_set : SupplySet
one_set = record { power = 0; gnd = 1 }

abbrev pub one_domain : Domain
one_domain = record { elements = [] ∷ []; primary = Some 0; isolation = None; retention = None }

abbrev pub one_supply : ℕ → Network
one_supply margin = record { sets = one_set ∷ []; origins = FromPort ∷ FromPort ∷ []; lower = λ a b by. false; margin = margin }

abbrev pub no_strategies : Intent
no_strategies = record { domains = one_domain ∷ []; strategies = []; drivers = []; receivers = [] }

abbrev pub design_of : Flat → Design
design_of f = record { structure = record { modules = f.source ∷ []; cells = f.cells }; network = one_supply f.margin; intent = no_strategies }

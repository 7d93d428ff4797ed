-- The project of a netlist whose power intent has one domain over its top, with one supply set of two supply ports (IEEE 1801-2015 create_supply_port, create_supply_set, create_power_domain, add_port_state).
use Rattle.std.specs.Prelude.{ℕ, List, [], ◌∷◌, Some, None}
use Rattle.lp_model.specs.declared.intent.DeclaredState.{DeclaredState}
use Rattle.lp_model.specs.declared.intent.DeclaredState.TheVariants.{On}
use Rattle.lp_model.specs.declared.intent.ScopedName.{ScopedName}
use Rattle.lp_model.specs.declared.supply.OriginKind.TheVariants.{Port}
use Rattle.lp_model.specs.declared.supply.Origin.{Origin}
use Rattle.lp_model.specs.declared.supply.SetOrigins.{SetOrigins}
use Rattle.lp_model.specs.declared.supply.Supplies.{Supplies}
use Rattle.lp_spec_design.specs.Keys.{Name}
use Rattle.lp_spec_design.specs.Netlists.{Structure}
use Rattle.lp_spec_design.specs.Intents.{Intent}
use Rattle.lp_spec_realises.specs.Projects.{Project}

-- a supply port by its name, and by the numbers of its scope and its name
pub record SupplyPort : Type 0 where
  pub name : Name
  pub numbered : ScopedName

-- a netlist over the cells of its library, the supply ports that are the power and the ground of the domain, the voltage of
-- the one state of the power, and up to which difference a reader takes the value of a lower driver (both in microvolts)
pub record OneDomain : Type 0 where
  pub structure : Structure
  pub power : SupplyPort
  pub gnd : SupplyPort
  pub voltage : ℕ
  pub margin : ℕ

-- ---- its supply network: the power is origin 0 and the ground origin 1; n-wells are with the power, p-wells with the ground

abbrev pub port_origin : SupplyPort → ℕ → List DeclaredState → Origin
port_origin q o states = record { name = q.numbered; kind = Port states; root = record { 0 = o } }

abbrev pub the_set : SetOrigins
the_set = record { power = record { 0 = 0 }; gnd = record { 0 = 1 }; nwell = record { 0 = 0 }; pwell = record { 0 = 1 }; deepnwell = record { 0 = 0 }; deeppwell = record { 0 = 1 } }

-- the ground declares no state, and no row lists any
abbrev pub supplies_of : OneDomain → Supplies
supplies_of d = record { origins = port_origin d.power 0 (On d.voltage ∷ []) ∷ port_origin d.gnd 1 [] ∷ []; rows = []; sets = Some the_set ∷ [] }

-- ---- its intent: the top, and so all in it, is of domain 0, whose primary supply is set 0

abbrev pub the_intent : Intent
the_intent = record { domains = record { elements = [] ∷ []; primary = Some 0; isolation = None; retention = None } ∷ []; strategies = []; drivers = []; receivers = [] }

abbrev pub project_of : OneDomain → Project
project_of d = record { structure = d.structure; intent = the_intent; supplies = supplies_of d; margin = d.margin; origin_names = d.power.name ∷ d.gnd.name ∷ [] }

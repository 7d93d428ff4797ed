-- A source with its power intent and its supply network, and where a netlist has what the intent adds (own rule).
use Rattle.std.specs.Prelude.{ℕ, Bool, false, List, [], ◌∷◌, ◌++◌, Option, option_and_then, unwrap_or, if◌then◌else◌, slice_get, codes}
use Rattle.lp_expr.specs.declared.step.Step.TheVariants.{Variable, Not}
use Rattle.lp_model.specs.declared.supply.SetOrigins.{SetOrigins}
use Rattle.lp_model.specs.declared.supply.Supplies.{Supplies}
use Rattle.lp_model.specs.LibraryView.{ExprView}
use Rattle.lp_spec_design.specs.Keys.{Name, Node, Fixed}
use Rattle.lp_spec_design.specs.Netlists.{Structure}
use Rattle.lp_spec_design.specs.Nodes.{nodes_of}
use Rattle.lp_spec_design.specs.Intents.{SetNumber, Intent, Network}
use Rattle.lp_spec_design.specs.Settled.{Design}
use Rattle.lp_spec_network.specs.Views.{network_view, set_at}

-- the origins have names, by their numbers
pub record Project : Type 0 where
  pub structure : Structure
  pub intent : Intent
  pub supplies : Supplies
  pub margin : ℕ
  pub origin_names : List Name

-- the supply network has the controls of switches by the numbers of nodes; a number of no node gives a constant
abbrev pub numbered_node : Structure → ℕ → Node
numbered_node s k = unwrap_or (slice_get (nodes_of s) k) (Fixed false)

abbrev pub network_of : Project → Network
network_of p = network_view (numbered_node p.structure) p.margin p.supplies

abbrev pub design_of : Project → Design
design_of p = record { structure = p.structure; network = network_of p; intent = p.intent }

-- a port origin has a scalar input of the top of a netlist: lp_v_ and the name of the supply port (IEEE 1801-2015 create_supply_port)
abbrev pub port_of_origin : Project → ℕ → Name
port_of_origin p o = codes "lp_v_" ++ unwrap_or (slice_get p.origin_names o) []

-- the origins of all functions of a set
abbrev pub functions_of : Project → Option SetNumber → Option SetOrigins
functions_of p k = option_and_then (set_at p.supplies) k

-- a switch is on where its control, the one variable, is 1, or where it is 0
abbrev pub on_expression : Bool → ExprView
on_expression high = record { variables = codes "c" ∷ []; steps = if high then Variable 0 ∷ [] else Variable 0 ∷ Not ∷ [] }

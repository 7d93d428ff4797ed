-- What is known of a design, as far as the lines of faults name its parts.
use Rattle.std.specs.Prelude.{ℕ, List, []}
use Rattle.lp_model.specs.declared.graph.Edge.{Edge}
use Rattle.lp_model.specs.declared.graph.Graph.{Graph}
use Rattle.lp_model.specs.declared.graph.Inst.{Inst}
use Rattle.lp_model.specs.declared.graph.Leaf.{Leaf}
use Rattle.lp_model.specs.declared.graph.Node.{Node}
use Rattle.lp_model.specs.declared.intent.Domain.{Domain}
use Rattle.lp_model.specs.declared.intent.Intent.{Intent}
use Rattle.lp_model.specs.declared.intent.PowerSwitch.{PowerSwitch}
use Rattle.lp_model.specs.declared.intent.Strategy.{Strategy}
use Rattle.lp_model.specs.declared.intent.SupplyPort.{SupplyPort}
use Rattle.lp_model.specs.declared.intent.SupplySet.{SupplySet}
use Rattle.lp_model.specs.declared.library.Cell.{Cell}
use Rattle.lp_model.specs.declared.netlist.Module.{Module}

-- the instances, cell instances, net bits and edges of a graph, and the modules of its netlist
pub record GraphView : Type 0 where
  pub instances : List Inst
  pub leaves : List Leaf
  pub nodes : List Node
  pub edges : List Edge
  pub modules : List Module

abbrev pub graph_view : Graph → GraphView
graph_view g = record { instances = g.instances; leaves = g.leaves; nodes = g.nodes; edges = g.edges; modules = g.source.modules }

-- where there is no graph
abbrev pub no_graph : GraphView
no_graph = record { instances = []; leaves = []; nodes = []; edges = []; modules = [] }

-- what a power intent makes and names, each list in command order
pub record IntentView : Type 0 where
  pub domains : List Domain
  pub sets : List SupplySet
  pub ports : List SupplyPort
  pub switches : List PowerSwitch
  pub strategies : List Strategy

abbrev pub intent_view : Intent → IntentView
intent_view i = record { domains = i.domains; sets = i.sets; ports = i.ports; switches = i.switches; strategies = i.strategies }

-- where there is no intent
abbrev pub no_intent : IntentView
no_intent = record { domains = []; sets = []; ports = []; switches = []; strategies = [] }

-- the texts of names, the cells of the library, the graph to which the intent belongs, a powered netlist that is checked, and the intent
pub record KnownView : Type 0 where
  pub names : List (List ℕ)
  pub cells : List Cell
  pub graph : GraphView
  pub powered : GraphView
  pub intent : IntentView

-- Power intent by the numbers of a design's parts, as what it says of their paths (own rule).
use Rattle.std.specs.Prelude.{ℕ, List, [], map, Option, Some, None, option_map, slice_index_or}
use Rattle.lp_model.specs.declared.ids.InstId.{InstId}
use Rattle.lp_model.specs.declared.ids.NodeId.{NodeId}
use Rattle.lp_model.specs.declared.ids.SetId.{SetId}
use Rattle.lp_model.specs.declared.intent.Domain as model_domain
use Rattle.lp_model.specs.declared.intent.Element as model_element
use Rattle.lp_model.specs.declared.intent.Element.TheVariants.{Inst, Leaf, Port, Bit}
use Rattle.lp_model.specs.declared.intent.Intent as model
use Rattle.lp_model.specs.declared.intent.PortAttribute.{PortAttribute}
use Rattle.lp_model.specs.declared.intent.SetOrDomain.{SetOrDomain}
use Rattle.lp_model.specs.declared.intent.SetOrDomain.TheVariants as named
use Rattle.lp_model.specs.declared.intent.Signal.{Signal}
use Rattle.lp_model.specs.declared.intent.Strategy as model_strategy
use Rattle.lp_model.specs.declared.library.Action.{Action}
use Rattle.lp_model.specs.NetlistView.{PortView, ModuleView}
use Rattle.lp_spec_design.specs.Keys.{Name, Path, Node, Inner, Outer, Fixed}
use Rattle.lp_spec_design.specs.Netlists.{Structure, module_at}
use Rattle.lp_spec_design.specs.Instances.{Placed}
use Rattle.lp_spec_design.specs.Graph.{some_of}
use Rattle.lp_spec_design.specs.Intents.{SetNumber, Domain, Element, AtInstance, AtCell, AtPort, AtBit, Named, BySet, ByDomain, Strategy, PortSupply, Intent}
use Rattle.lp_spec_bridge.specs.Keyed.{Keyed, node_at, leaf_at, path_at}

abbrev pub set_number : Option SetId → Option SetNumber
set_number k = option_map (λ (x : SetId). x.0) k

abbrev pub port_names : Option ModuleView → List Name
port_names None = []
port_names (Some m) = map (λ (p : PortView). p.name) m.ports

-- a port of an instance's module, by its number
abbrev pub port_name : Structure → Path → ℕ → Name
port_name s p n = slice_index_or (port_names (module_at s p)) n []

-- a bit of a port by the net bit inside; no other node is one
abbrev pub bit_element : Node → Element
bit_element (Inner n i p) = AtBit p n i
bit_element (Outer n i) = AtBit [] n i
bit_element (Fixed b) = AtBit [] [] None

abbrev pub cell_element : Placed → Element
cell_element a = AtCell a.path a.instance

abbrev pub named_view : SetOrDomain → Named
named_view (named.Set k) = BySet k.0
named_view (named.Domain d) = ByDomain d

-- the supply that an attribute gives a port of the top, where it gives one
abbrev pub supply_view : Structure → (PortAttribute → Option SetId) → PortAttribute → Option PortSupply
supply_view s side a = option_map (λ (k : SetId). record { port = port_name s [] a.port; supply = k.0 }) (side a)

-- over the parts for which the numbers stand
module _ (s : Structure) (ks : Keyed) where
  abbrev pub domain_view : model_domain.Domain → Domain
  domain_view d = record {
    elements = map (λ (x : InstId). path_at ks x.0) d.elements;
    primary = set_number d.primary;
    isolation = set_number d.isolation;
    retention = set_number d.retention;
  }

  abbrev pub element_view : model_element.Element → Element
  element_view (Inst i) = AtInstance (path_at ks i.0)
  element_view (Leaf l) = cell_element (leaf_at ks l.0)
  element_view (Port i n) = AtPort (path_at ks i.0) (port_name s (path_at ks i.0) n)
  element_view (Bit k) = bit_element (node_at ks k.0)

  abbrev pub control_view : NodeId → Node
  control_view k = node_at ks k.0

  abbrev pub signal_view : Signal → Node × Action
  signal_view x = (control_view x.node, x.action)

  abbrev pub strategy_view : model_strategy.Strategy → Strategy
  strategy_view t = record {
    kind = t.kind;
    domain = t.domain;
    command = t.command;
    inserts = t.inserts;
    elements = option_map (map element_view) t.elements;
    excluded = map element_view t.excluded;
    applies = t.applies;
    source = option_map named_view t.source;
    sink = option_map named_view t.sink;
    diff = t.diff;
    location = t.location;
    clamp = t.clamp;
    high = t.high;
    rule = t.rule;
    threshold = t.threshold;
    supply = set_number t.supply;
    input = set_number t.input;
    output = set_number t.output;
    control = option_map control_view t.control;
    save = option_map signal_view t.save;
    restore = option_map signal_view t.restore;
  }

  abbrev pub intent_view : model.Intent → Intent
  intent_view i = record {
    domains = map domain_view i.domains;
    strategies = map strategy_view i.strategies;
    drivers = some_of (supply_view s (λ (a : PortAttribute). a.driver)) i.attributes;
    receivers = some_of (supply_view s (λ (a : PortAttribute). a.receiver)) i.attributes;
  }

-- The line of every fault (own rule).
use Rattle.std.specs.Prelude.{ℕ, List, ◌++◌, codes, decimal, map}
use Rattle.lp_model.specs.declared.fault.refusal.Fault.{Fault}
use Rattle.lp_model.specs.FaultLines.{fault_fields, fault_lead, fault_word, line_text}
use Rattle.lp_fault_text.specs.declared.item.Item.{Item}
use Rattle.lp_fault_text.specs.declared.item.Item.TheVariants as items
use Rattle.lp_fault_text.specs.declared.item.Part.{Part}
use Rattle.lp_fault_text.specs.declared.item.Part.TheVariants as parts
use Rattle.lp_fault_text.specs.declared.item.Which.{Which}
use Rattle.lp_fault_text.specs.declared.item.Which.TheVariants.{Source, Powered}
use Rattle.lp_fault_text.specs.Items.{fault_items}
use Rattle.lp_fault_text.specs.Paths.{bit_text, inst_text, leaf_text, node_text, pg_name, pin_text, port_text}
use Rattle.lp_fault_text.specs.Supplies.{domain_text, origin_text, scoped_text, set_text, strategy_text, switch_text}
use Rattle.lp_fault_text.specs.Views.{GraphView, KnownView}

abbrev pub part_text : KnownView → GraphView → Part → List ℕ
part_text k g (parts.Inst inst) = inst_text k.names g inst
part_text k g (parts.Leaf leaf) = leaf_text k.names g leaf
part_text k g (parts.Pin leaf place) = pin_text k.names k.cells g leaf place
part_text k g (parts.PgName leaf place) = pg_name k.names k.cells g leaf place
part_text k g (parts.Node node) = node_text k.names g node
part_text k g (parts.Bit edge) = bit_text k.names g edge
part_text k g (parts.Port inst place) = port_text k.names g inst place

abbrev pub graph_of : KnownView → Which → GraphView
graph_of k Source = k.graph
graph_of k Powered = k.powered

abbrev pub item_text : KnownView → Item → List ℕ
item_text k (items.Number number) = decimal number
item_text k items.Nothing = codes "none"
item_text k (items.Part which part) = part_text k (graph_of k which) part
item_text k (items.Supply name) = scoped_text k name
item_text k (items.Domain number) = domain_text k number
item_text k (items.Set set) = set_text k set
item_text k (items.Switch number) = switch_text k number
item_text k (items.Strategy strategy) = strategy_text k strategy
item_text k (items.Origin origin) = origin_text k origin

-- the fields of a fault: those that names, numbers and places give, or those that name parts of the design
abbrev pub fields : KnownView → Fault → List (List ℕ)
fields k fault = fault_fields k.names fault ++ map (item_text k) (fault_items fault)

-- the whole line of a fault, without a line feed
abbrev pub line_of : KnownView → Fault → List ℕ
line_of k fault = line_text (fault_lead fault ++ fault_word fault) (fields k fault)

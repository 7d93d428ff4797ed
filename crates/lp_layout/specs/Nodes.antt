-- The net bits of module instances, without what drives them (own rule).
use Rattle.std.specs.Prelude.{ℕ, List, [], map, flat_map, Option, Some, None, slice_get}
use Rattle.lp_text.specs.declared.names.NameId.{NameId}
use Rattle.lp_model.specs.declared.graph.Node.{Node as NodeRow}
use Rattle.lp_model.specs.declared.graph.NodeName.{NodeName}
use Rattle.lp_model.specs.declared.graph.NodeName.TheVariants.{Bit}
use Rattle.lp_model.specs.declared.graph.Source.TheVariants.{Nothing}
use Rattle.lp_model.specs.declared.ids.InstId.{InstId}
use Rattle.lp_model.specs.declared.netlist.Module.{Module}
use Rattle.lp_spec_design.specs.Graph.{numbered}
use Rattle.lp_spec_layout.specs.Sites.{Site}
use Rattle.lp_layout.specs.Held.{word}
use Rattle.lp_layout.specs.Labels.{port_names, bit_names}

abbrev pub named_at : InstId → NodeName → NodeRow
named_at inst n = record { inst = inst; name = n; source = Nothing }

-- some bits of a vector
abbrev pub bits_named : InstId → NameId → List ℕ → List NodeRow
bits_named inst name ks = map (λ i. named_at inst (Bit name i)) ks

-- those of a module's instance of a number, where there is such a module
abbrev pub module_nodes : ℕ → Option Module → List NodeRow
module_nodes i None = []
module_nodes i (Some m) = map (named_at (record { 0 = word i })) (bit_names m)

abbrev pub site_nodes : List Module → ℕ × Site → List NodeRow
site_nodes ms z = module_nodes z.0 (slice_get ms z.1.of)

abbrev pub inner_nodes : List Module → List Site → List NodeRow
inner_nodes ms sites = flat_map (site_nodes ms) (numbered 0 sites)

-- the outer sides of the top's ports
abbrev pub outer_nodes : Option Module → List NodeRow
outer_nodes None = []
outer_nodes (Some m) = map (named_at (record { 0 = 0 })) (port_names m.ports)

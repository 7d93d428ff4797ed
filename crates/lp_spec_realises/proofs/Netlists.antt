-- The tests of a netlist of a project, taken together.
use Rattle.std.proofs.Common.{◌&&◌, not, List}
use Rattle.std.specs.Prelude.{Bool, IsTrue}
use Rattle.std.specs.List.{list_all}
use Rattle.std.proofs.lemmas.Bool.{and_parts, not-true}
use Rattle.lp_model.specs.NetlistView.{ModuleView}
use Rattle.lp_spec_design.specs.Netlists.{module_at}
use Rattle.lp_spec_design.specs.Instances.{module_instances}
use Rattle.lp_spec_design.specs.Nodes.{nodes_of, has_wire_loop}
use Rattle.lp_spec_realises.specs.Projects.{Project}
use Rattle.lp_spec_realises.specs.Tops.{top_ports, has_port}
use Rattle.lp_spec_realises.specs.ProjectNetlists.{netlist_of, has_single_source, knows_its_targets, has_names_apart, declares_its_bits, is_shallow, has_origins_apart, has_origin, port_origins, IsProjectNetlist}

abbrev pub is_project_netlist : Project → List ModuleView → Bool
is_project_netlist p modules =
    let w = netlist_of p modules in
    list_all (has_single_source w) (nodes_of w)
    && (not (has_wire_loop w)
    && (knows_its_targets w
    && (has_names_apart modules
    && (list_all (λ path. declares_its_bits path (module_at w path)) (module_instances w)
    && (is_shallow w
    && (has_origins_apart p
    && (list_all (has_origin p w) (port_origins p)
    && list_all (has_port w) (top_ports p.structure))))))))

pub is_netlist : (p : Project) (modules : List ModuleView) → IsTrue (is_project_netlist p modules) → IsProjectNetlist p modules
is_netlist p modules h =
    let a = and_parts _ _ h in
    let b = and_parts _ _ a.1 in
    let c = and_parts _ _ b.1 in
    let d = and_parts _ _ c.1 in
    let e = and_parts _ _ d.1 in
    let f = and_parts _ _ e.1 in
    let g = and_parts _ _ f.1 in
    let k = and_parts _ _ g.1 in
    record { one_source = a.0; no_loop = not-true _ b.0; known = c.0; names_apart = d.0; declared = e.0; shallow = f.0; origins_apart = g.0; origins = k.0; ports = k.1 }

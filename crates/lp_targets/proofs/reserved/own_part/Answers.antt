use Rattle.std.proofs.Common.{◌++◌, map, sym, ap, ◌∙◌}
use Rattle.lp_model.specs.declared.netlist.Port.{Port}
use Rattle.lp_model.specs.declared.netlist.NetDecl.{NetDecl}
use Rattle.lp_model.specs.declared.netlist.Instance.{Instance}
use Rattle.lp_spec_design.specs.Netlists.{first}
use Rattle.lp_targets.specs.Numbered.{is_own_name}
use Rattle.lp_targets.proofs.Lists.{first_here, first_behind}
use Rattle.lp_targets.proofs.reserved.own_part.Goals as goal

pub returns-then-is_some : goal.returns-then-is_some
returns-then-is_some c =
    let p = is_own_name c.args.names.now in
    let m = c.args.source.now in
    first_here p (map (λ (x : Port). x.name) m.ports) (map (λ (x : NetDecl). x.name) m.nets ++ map (λ (x : Instance). x.name) m.instances) c.own_port-port.result
    (c.own_port-port.ensures ∙ ap (λ xs. first p (map (λ (x : Port). x.name) xs)) c.as_slice.ensures) (sym c.is_some.ensures ∙ c.if-is_some.true)

pub returns-then-is_some-2 : goal.returns-then-is_some-2
returns-then-is_some-2 c =
    let p = is_own_name c.args.names.now in
    let m = c.args.source.now in
    first_behind p (map (λ (x : Port). x.name) m.ports) (map (λ (x : NetDecl). x.name) m.nets ++ map (λ (x : Instance). x.name) m.instances) c.own_port-port.result c.own_net-net.result
    (c.own_port-port.ensures ∙ ap (λ xs. first p (map (λ (x : Port). x.name) xs)) c.as_slice.ensures) (sym c.is_some.ensures ∙ c.if-is_some.false)
    (first_here p (map (λ (x : NetDecl). x.name) m.nets) (map (λ (x : Instance). x.name) m.instances) c.own_net-net.result
    (c.own_net-net.ensures ∙ ap (λ xs. first p (map (λ (x : NetDecl). x.name) xs)) c.as_slice-2.ensures) (sym c.is_some-2.ensures ∙ c.if-is_some-2.true))

pub returns : goal.returns
returns c =
    let p = is_own_name c.args.names.now in
    let m = c.args.source.now in
    first_behind p (map (λ (x : Port). x.name) m.ports) (map (λ (x : NetDecl). x.name) m.nets ++ map (λ (x : Instance). x.name) m.instances) c.own_port-port.result c.own_instance.result
    (c.own_port-port.ensures ∙ ap (λ xs. first p (map (λ (x : Port). x.name) xs)) c.as_slice.ensures) (sym c.is_some.ensures ∙ c.if-is_some.false)
    (first_behind p (map (λ (x : NetDecl). x.name) m.nets) (map (λ (x : Instance). x.name) m.instances) c.own_net-net.result c.own_instance.result
    (c.own_net-net.ensures ∙ ap (λ xs. first p (map (λ (x : NetDecl). x.name) xs)) c.as_slice-2.ensures) (sym c.is_some-2.ensures ∙ c.if-is_some-2.false)
    (c.own_instance.ensures ∙ ap (λ xs. first p (map (λ (x : Instance). x.name) xs)) c.as_slice-3.ensures))

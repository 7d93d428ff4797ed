use Rattle.std.proofs.Common.{◌≡◌, ◌++◌, ℕ, List, map, ap, ◌∙◌}
use Rattle.lp_model.specs.NetlistView.{port_view, net_view, module_view}
use Rattle.lp_vwrite.specs.Layout.{range_in, range_of, vectors_among}
use Rattle.lp_vwrite.proofs.Ranges.{ranges-more}
use Rattle.lp_vwrite.proofs.module.ranges_of.Goals as goal

pub returns : goal.returns
returns c =
    let ports = map (λ p. (p.name, p.range)) (map (port_view c.args.names.now) c.args.source.now.ports) in
    let nets = map (λ n. (n.name, n.range)) (map (net_view c.args.names.now) c.args.source.now.nets) in
    let e = c.as_slice.ensures in
    let all : (t : List ℕ) → range_in c.add_nets.new.vectors t ≡ range_of (module_view c.args.names.now c.args.source.now) t = λ t.
    c.in_ok-add_nets.ensures t
    ∙ ap (λ xs. range_in (c.add_ports.new.vectors ++ vectors_among (map (λ n. (n.name, n.range)) (map (net_view c.args.names.now) xs))) t) c.as_slice-2.ensures
    ∙ ranges-more c.add_ports.new.vectors ports nets t
    (c.in_ok-add_ports.ensures t
    ∙ ap (λ xs. range_in (c.new-vectors.result ++ vectors_among (map (λ n. (n.name, n.range)) (map (port_view c.args.names.now) xs))) t) c.as_slice.ensures
    ∙ ap (λ vs. range_in (vs ++ vectors_among ports) t) c.new-vectors.ensures)
    in
    λ j t. all t j

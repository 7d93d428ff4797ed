use Rattle.std.proofs.Common.{◌≡◌, ◌++◌, drop}
use Rattle.std.specs.Prelude.{flat_map}
use Rattle.lp_spec_design.specs.Graph.{numbered}
use Rattle.lp_layout.specs.Nodes.{site_nodes}
use Rattle.lp_layout.specs.Sites.{sites_view}
use Rattle.lp_layout.proofs.nodes.push_inner.Given as goal

abbrev pub invariant-loop-inst : goal.invariant-loop-inst
invariant-loop-inst l = l.nodes ++ flat_map (site_nodes l.modules) (numbered l.inst (sites_view (drop l.inst l.sites))) ≡ l.fn.nodes ++ flat_map (site_nodes l.modules) (numbered 0 (sites_view l.sites))

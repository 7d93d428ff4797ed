use Rattle.std.proofs.Common.{◌≡◌, ◌+◌, drop}
use Rattle.std.specs.Prelude.{sum_by}
use Rattle.lp_templates.specs.Numbered.{with_nets, net_width}
use Rattle.lp_templates.proofs.scope.Scope.declare_nets.Given as goal

abbrev pub invariant-loop-net : goal.invariant-loop-net
invariant-loop-net l = record {
  sum : l.start + sum_by net_width (drop l.net-index l.nets) ≡ l.first + sum_by net_width l.nets;
  same : with_nets l.self l.start (drop l.net-index l.nets) ≡ with_nets l.fn.self l.first l.nets;
}

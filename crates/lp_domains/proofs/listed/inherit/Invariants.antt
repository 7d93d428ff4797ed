use Rattle.std.proofs.Common.{◌≡◌, drop}
use Rattle.lp_spec_bridge.specs.Inherited.{inherited_from}
use Rattle.lp_domains.specs.Listed.{own_or_first, own_or, domains_by}
use Rattle.lp_domains.proofs.listed.inherit.Given as goal

abbrev pub invariant-loop-place : goal.invariant-loop-place
invariant-loop-place l = inherited_from own_or_first own_or l.done (drop l.place l.table) (drop l.place l.instances) ≡ domains_by l.table l.instances

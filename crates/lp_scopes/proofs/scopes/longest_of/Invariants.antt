use Rattle.std.proofs.Common.{◌≡◌, drop}
use Rattle.lp_scopes.specs.Numbered.{longest_from, longest_of}
use Rattle.lp_scopes.proofs.scopes.longest_of.Given as goal

abbrev pub invariant-loop-inst : goal.invariant-loop-inst
invariant-loop-inst l = longest_from l.names l.longest (drop l.inst-index l.instances) ≡ longest_of l.names l.instances

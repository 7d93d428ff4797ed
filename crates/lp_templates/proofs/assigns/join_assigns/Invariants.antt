use Rattle.std.proofs.Common.{◌≡◌, ◌++◌, drop}
use Rattle.lp_templates.specs.Connected.{assign_joints}
use Rattle.lp_templates.proofs.assigns.join_assigns.Given as goal

abbrev pub invariant-loop-assign : goal.invariant-loop-assign
invariant-loop-assign l = l.joints ++ assign_joints l.scope (drop l.assign-index l.assigns) ≡ l.fn.joints ++ assign_joints l.scope l.assigns

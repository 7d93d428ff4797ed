use Rattle.std.proofs.Common.{◌≡◌, drop}
use Rattle.lp_spec_design.specs.Netlists.{first}
use Rattle.lp_targets.specs.Marks.{is_free}
use Rattle.lp_targets.proofs.tops.first_free.Given as goal

abbrev pub invariant-loop-module : goal.invariant-loop-module
invariant-loop-module l = record {
  placed : l.place ≡ l.module-index;
  kept : first (is_free l.marks) (drop l.module-index l.modules) ≡ first (is_free l.marks) l.modules;
}

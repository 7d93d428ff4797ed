-- Places that are driven, as runs: one after another from the next place each, or all from one constant (own rule).
use Rattle.std.specs.Prelude.{◌+◌, List, map}
use Rattle.lp_spec_design.specs.Netlists.{upward}
use Rattle.lp_spec_bridge.specs.Templates.{at_start}
use Rattle.lp_spec_layout.specs.Parts.{Joint}
use Rattle.lp_templates.specs.declared.run.Run.{Run}

abbrev pub run_joints : Run → List Joint
run_joints r = map (λ i. (i + r.to, at_start i r.from)) (upward r.count 0)

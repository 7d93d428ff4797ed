-- The faults of net bits as they are written: the word and the fields, the first line that holds (own rule).
use Rattle.std.specs.Prelude.{[], ◌∷◌, Option, codes, option_map}
use Rattle.lp_spec_design.specs.Netlists.{Structure}
use Rattle.lp_spec_faults.specs.Lines.{first_of}
use Rattle.lp_spec_faults.specs.Wires.{wire_loop}
use Rattle.lp_targets.specs.Reports.{Report, or_else}
use Rattle.lp_node_text.specs.Paths.{node_text}
use Rattle.lp_node_text.specs.Reports.{source_report}

-- the first net bit that reaches itself through ports and assigns alone
abbrev pub loop_report : Structure → Option Report
loop_report s = option_map (λ k. (codes "F23 WireLoop", node_text k ∷ [])) (first_of (wire_loop s))

-- a net bit with two drivers, else one that reaches itself
unfoldable pub bits_report : Structure → Option Report
bits_report s = or_else (source_report s) (loop_report s)

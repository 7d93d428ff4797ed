-- The fault of the sources of a netlist as it is written: the word and the fields (own rule).
use Rattle.std.specs.Prelude.{ℕ, List, [], ◌∷◌, Option, codes, option_map}
use Rattle.lp_model.specs.FaultLines.{line_text}
use Rattle.lp_spec_design.specs.Netlists.{Structure}
use Rattle.lp_spec_faults.specs.Lines.{first_of}
use Rattle.lp_spec_faults.specs.Wires.{two_drivers}
use Rattle.lp_targets.specs.Reports.{Report}
use Rattle.lp_node_text.specs.Paths.{node_text}

-- a word and its fields as a line
abbrev pub report_line : Report → List ℕ
report_line r = line_text r.0 r.1

-- the first net bit with two drivers
abbrev pub source_report : Structure → Option Report
source_report s = option_map (λ k. (codes "F16 TwoDrivers", node_text k ∷ [])) (first_of (two_drivers s))

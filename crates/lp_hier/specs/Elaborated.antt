-- What an elaborated netlist has, and with which line its netlist is refused (own rule).
use Rattle.std.specs.Prelude.{◌≡◌, ℕ, List, true, Option, Some, None, option_map, Result, Ok, Err}
use Rattle.std.specs.List.{list_all}
use Rattle.lp_model.specs.declared.graph.Graph.{Graph}
use Rattle.lp_model.specs.declared.library.Library.{Library}
use Rattle.lp_model.specs.declared.netlist.Netlist.{Netlist}
use Rattle.lp_spec_design.specs.Netlists.{Structure}
use Rattle.lp_spec_bridge.specs.Tables.{tables_of}
use Rattle.lp_spec_bridge.specs.Elaborates.{Elaborates}
use Rattle.lp_spec_layout.specs.Parts.{Template}
use Rattle.lp_spec_faults.specs.Lines.{first_of}
use Rattle.lp_spec_faults.specs.Wires.{two_drivers, wire_loop}
use Rattle.lp_targets.specs.declared.hierarchy.Hierarchy.{Hierarchy}
use Rattle.lp_targets.specs.Reports.{Report}
use Rattle.lp_targets.specs.Structures.{structure_of}
use Rattle.lp_drivers.specs.Ready.{IsReady}
use Rattle.lp_node_text.specs.Reports.{report_line}
use Rattle.lp_spec_laid.specs.Shaped.{has_few_pgs, with_shapes}
use Rattle.lp_wire_loops.specs.Reads.{HasWires}
use Rattle.lp_hier.specs.declared.refused.Refused.{Refused}
use Rattle.lp_hier.specs.declared.refused.Refused.TheVariants as refused
use Rattle.lp_hier.specs.Reports.{bits_report}

-- it is of its netlist, and its tables are those of the elaborated netlist, with the shapes of cells as they are; no net bit has two drivers, and none reaches itself
pub record IsElaborated (texts : List (List ℕ)) (n : Netlist) (l : Library) (g : Graph) : Type 0 where
  pub source : g.source ≡ n
  pub elaborates : Elaborates texts (structure_of texts n l) (with_shapes l.cells (tables_of g))
  pub shapes : list_all has_few_pgs l.cells ≡ true → with_shapes l.cells (tables_of g) ≡ tables_of g
  pub single : first_of (two_drivers (structure_of texts n l)) ≡ None
  pub loop_free : first_of (wire_loop (structure_of texts n l)) ≡ None

-- a call stops where memory is refused, or with the line of a report
abbrev pub IsLineOf : Option Report → Refused → Type 0
IsLineOf expected (refused.Line line) = Some line ≡ option_map report_line expected
IsLineOf expected refused.NoMemory = Unit {0}

-- with that of the first fault of net bits
abbrev pub IsFaulty : List (List ℕ) → Netlist → Library → Refused → Type 0
IsFaulty texts n l r = IsLineOf (bits_report (structure_of texts n l)) r

-- a call stops exactly where there is something to report
abbrev pub StopsBy : {T : Type 0} → Option Report → Result T Refused → Type 0
StopsBy expected (Ok t) = expected ≡ None
StopsBy expected (Err r) = IsLineOf expected r

-- its templates are ready, by a table of names and with the cells of a library
abbrev pub AreReady : List (List ℕ) → Netlist → Library → Hierarchy → List Template → Type 0
AreReady texts n l h templates = IsReady (structure_of texts n l) h.rows h.order.items h.top templates

-- what is claimed of a netlist where its templates are ready and a graph has its wires, whatever the library
abbrev pub OnWires : List (List ℕ) → Graph → Hierarchy → List Template → (Structure → Type 0) → Type 0
OnWires texts g h templates claim = (l : Library)
    → AreReady texts g.source l h templates
    → HasWires texts (structure_of texts g.source l) g
    → claim (structure_of texts g.source l)

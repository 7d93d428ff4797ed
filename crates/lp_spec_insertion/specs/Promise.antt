-- What is promised of the texts that are written for inputs without fault.
use Rattle.std.specs.Prelude.{◌≡◌, ℕ, true, List, [], ◌∷◌, codes}
use Rattle.lp_model.specs.NetlistView.{ModuleView}
use Rattle.lp_model.specs.LibraryView.{CellView}
use Rattle.lp_spec_pins.specs.Pins.{Powered}
use Rattle.lp_spec_pins.specs.Supplied.{is_supplied}
use Rattle.lp_spec_plain.specs.Alike.{BehavesAlike}
use Rattle.lp_spec_plain_module.specs.Designs.{Flat, design_of}
use Rattle.lp_spec_plain_module.specs.Netlists.{powered, surroundings, origin_of}
use Rattle.lp_verilog.specs.Reads.{Reads}
use Rattle.lp_vwrite.specs.Layout.{layout}
use Rattle.lp_plain_upf.specs.declared.plain.Intent.{Intent}
use Rattle.lp_spec_plain_netlist.specs.Flats.{flat_of}
use Rattle.lp_spec_insertion.specs.Inputs.{Inputs, Accepts}

abbrev pub report_text : List ℕ
report_text = codes "lpinsert report 1\ntotal iso 0 shift 0 ret 0 switch 0\n"

-- a netlist that is judged by its pins, among the supplies of a design
abbrev pub judged : Flat → ModuleView → Powered
judged f written = record { structure = record { modules = written ∷ []; cells = f.cells }; around = surroundings f }

-- the texts denote this design
pub record HasDesign (inputs : Inputs) : Type 0 where
  pub cells : List CellView
  pub source : ModuleView
  pub intent : Intent
  pub accepts : Accepts inputs cells source intent

abbrev pub flat_in : (inputs : Inputs) → HasDesign inputs → ℕ → Flat
flat_in inputs d margin = flat_of d.cells d.source d.intent.power d.intent.gnd margin

-- the netlist text is the layout of the source with its supplies, it reads back as that netlist and no other, every supply pin has exactly one supply, and the report is its text
pub record IsWritten (inputs : Inputs) (margin : ℕ) (netlist report : List ℕ) : Type 0 where
  pub design : HasDesign inputs
  pub written : ModuleView
  pub implements : written ≡ powered (flat_in inputs design margin)
  pub spelled : netlist ≡ layout (written ∷ [])
  pub reads : Reads netlist (written ∷ [])
  pub only : (other : List ModuleView) → Reads netlist other → other ≡ written ∷ []
  pub supplied : is_supplied (judged (flat_in inputs design margin) written) ≡ true
  pub reported : report ≡ report_text

-- the bytes read back as one netlist, whose every power and ground pin has one supply, and which judged pin by pin gives each output of the source the value that it has under its intent and leaves the registers as they are under it, for every register state and every list of events
pub record HeadlineHolds (inputs : Inputs) (margin : ℕ) (netlist : List ℕ) : Type 0 where
  pub design : HasDesign inputs
  pub written : ModuleView
  pub reads : Reads netlist (written ∷ [])
  pub only : (other : List ModuleView) → Reads netlist other → other ≡ written ∷ []
  pub supplied : is_supplied (judged (flat_in inputs design margin) written) ≡ true
  pub headline : let f = flat_in inputs design margin in BehavesAlike (design_of f) (judged f written) (origin_of f)

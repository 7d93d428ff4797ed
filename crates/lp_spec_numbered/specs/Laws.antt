-- The statements of the laws of this crate (own rule).
use Rattle.std.specs.Prelude.{◌≡◌, ℕ, List, true, None}
use Rattle.lp_text.specs.Texts.{distinct}
use Rattle.lp_model.specs.declared.library.Library.{Library}
use Rattle.lp_model.specs.declared.netlist.Netlist.{Netlist}
use Rattle.lp_model.specs.NetlistView.{netlist_view}
use Rattle.lp_spec_faults.specs.Lines.{first_of}
use Rattle.lp_spec_faults.specs.Modules.{netlist_limits}
use Rattle.lp_spec_faults.specs.Wires.{unknown_pin, already_powered}
use Rattle.lp_spec_bridge.specs.Names.{HasNamesApart}
use Rattle.lp_spec_layout.specs.Parts.{AreTemplates}
use Rattle.lp_targets.specs.declared.size.Size.{Size}
use Rattle.lp_targets.specs.declared.target.Target.{Target}
use Rattle.lp_targets.specs.Structures.{structure_of, AreNamed}
use Rattle.lp_targets.specs.Sizes.{AreRows, IsResolved, sizes_of}
use Rattle.lp_templates.specs.Stocks.{stock_of}
use Rattle.lp_templates.specs.Modules.{templates_numbered}
use Rattle.lp_spec_numbered.specs.Read.{DeclareTheirBits}
use Rattle.lp_spec_numbered.specs.Measured.{AreMeasured}

-- a netlist over a table of names, with the cells of a library and what each instance is of, in which no connection lacks a pin or comes to a power pin
pub record IsChecked (texts : List (List ℕ)) (n : Netlist) (l : Library) (rows : List (List Target)) : Type 0 where
  pub apart : distinct texts ≡ true
  pub named : AreNamed texts n l
  pub targets : AreRows (structure_of texts n l) rows
  pub names : HasNamesApart (structure_of texts n l)
  pub declared : DeclareTheirBits (netlist_view texts n)
  pub pins : first_of (unknown_pin (structure_of texts n l)) ≡ None
  pub powers : first_of (already_powered (structure_of texts n l)) ≡ None

-- the templates of its modules by the numbers of names are those by their texts
abbrev pub TemplatesAreThose : Type 0
TemplatesAreThose =
    (texts : List (List ℕ)) (n : Netlist) (l : Library) (rows : List (List Target)) (sizes : List Size)
    → IsChecked texts n l rows
    → AreTemplates (structure_of texts n l) (structure_of texts n l).modules (templates_numbered (stock_of n l sizes) rows)

-- where its modules have an order and one top within the limits, and sizes are those of the modules, its templates lie behind one another by them
abbrev pub TemplatesAreSized : Type 0
TemplatesAreSized =
    (texts : List (List ℕ)) (n : Netlist) (l : Library) (rows : List (List Target)) (order : List ℕ) (top : ℕ)
    → IsResolved (structure_of texts n l) rows order top
    → first_of (netlist_limits (structure_of texts n l)) ≡ None
    → AreMeasured (structure_of texts n l) (templates_numbered (stock_of n l (sizes_of (structure_of texts n l))) rows) (sizes_of (structure_of texts n l)) top

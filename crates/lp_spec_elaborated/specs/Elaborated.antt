-- What is asked of a netlist whose elaborated tables are edited (own rule).
use Rattle.std.specs.Prelude.{◌≡◌, ◌<◌, ℕ, map, Some, None, slice_get}
use Rattle.lp_model.specs.declared.graph.Node.{Node as NodeRow}
use Rattle.lp_model.specs.declared.graph.Source.TheVariants.{Leaf as OfLeaf}
use Rattle.lp_model.specs.LibraryView.{CellView, PinView, PgPinView}
use Rattle.lp_spec_design.specs.Netlists.{Structure, cell_at}
use Rattle.lp_spec_design.specs.Instances.{Placed}
use Rattle.lp_spec_design.specs.Nodes.{DeclaresBits}
use Rattle.lp_spec_bridge.specs.Driven.{JoinsSingleBits}
use Rattle.lp_spec_bridge.specs.Keyed.{IsApart}
use Rattle.lp_spec_bridge.specs.Names.{HasNamesApart}
use Rattle.lp_spec_bridge.specs.Represents.{row_size, cell_of}
use Rattle.lp_spec_bridge.specs.Tables.{Tables}
use Rattle.lp_spec_faults.specs.Lines.{first_of}
use Rattle.lp_spec_faults.specs.Wires.{two_drivers, wire_loop}

-- no two signal pins, and no two power and ground pins, of the cell of a cell instance have one name
pub record HasPinsApart (s : Structure) : Type 0 where
  pub pins : (a : Placed) (c : CellView) → cell_at s a.path a.instance ≡ Some c → IsApart (map (λ (q : PinView). q.name) c.pins)
  pub pgs : (a : Placed) (c : CellView) → cell_at s a.path a.instance ≡ Some c → IsApart (map (λ (g : PgPinView). g.name) c.pgs)

-- names are apart, what is joined is declared, one bit at most is joined to a pin; no net bit has two drivers, and none comes back to itself by wires alone
pub record HasSoundWires (s : Structure) : Type 0 where
  pub names : HasNamesApart s
  pub declares : DeclaresBits s
  pub bits : JoinsSingleBits s
  pub pins : HasPinsApart s
  pub drivers : first_of (two_drivers s) ≡ None
  pub loops : first_of (wire_loop s) ≡ None

-- a cell instance drives nodes by pins that its cell has: what only represents a netlist may name any number where nothing drives
abbrev pub DrivesByPins : Structure → Tables → Type 0
DrivesByPins s t = (k l q : ℕ) (x : NodeRow) → slice_get t.nodes k ≡ Some x → x.source ≡ OfLeaf q (record { 0 = l }) → q < row_size (cell_of s t l)

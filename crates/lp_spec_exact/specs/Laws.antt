-- The statements of the laws of this crate (own rule).
use Rattle.std.specs.Prelude.{◌≡◌, ℕ, true, List, None}
use Rattle.std.specs.List.{list_all}
use Rattle.lp_model.specs.declared.library.Library.{Library}
use Rattle.lp_model.specs.declared.netlist.Netlist.{Netlist}
use Rattle.lp_model.specs.LibraryView.{library_view}
use Rattle.lp_cells.specs.Sound.{is_sound_cell}
use Rattle.lp_spec_faults.specs.Lines.{first_of}
use Rattle.lp_spec_faults.specs.Modules.{unfit_cell}
use Rattle.lp_spec_faults.specs.Wires.{two_drivers}
use Rattle.lp_spec_layout.specs.Parts.{Template}
use Rattle.lp_targets.specs.declared.target.Target.{Target}
use Rattle.lp_targets.specs.Structures.{structure_of}
use Rattle.lp_drivers.specs.Ready as drivers
use Rattle.lp_spec_laid.specs.Laws.{IsReady, AreExact}

-- templates within the limits, no net bit with two drivers, no instance of a cell that a source may not have, and cells as they are read
pub record CanBeLaidOut (texts : List (List ℕ)) (n : Netlist) (l : Library) (rows : List (List Target)) (order : List ℕ) (top : ℕ) (templates : List Template) : Type 0 where
  pub ready : drivers.IsReady (structure_of texts n l) rows order top templates
  pub drivers : first_of (two_drivers (structure_of texts n l)) ≡ None
  pub cells : first_of (unfit_cell (structure_of texts n l)) ≡ None
  pub sound : list_all is_sound_cell (library_view texts l) ≡ true

-- there, no number is over what its table holds
abbrev pub NumbersAreHeld : Type 0
NumbersAreHeld =
    (texts : List (List ℕ)) (n : Netlist) (l : Library) (rows : List (List Target)) (order : List ℕ) (top : ℕ) (templates : List Template)
    → CanBeLaidOut texts n l rows order top templates
    → (r : IsReady texts n l templates top)
    → AreExact texts n l templates top r

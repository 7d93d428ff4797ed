-- The statements of the laws of this crate (own rule).
use Rattle.std.specs.Prelude.{ℕ, IsTrue}
use Rattle.lp_spec_design.specs.Netlists.{Structure}
use Rattle.lp_spec_design.specs.Nodes.{fuel_of, HasFuel}
use Rattle.lp_spec_realises.specs.Projects.{Project}
use Rattle.lp_spec_realises.specs.Implements.{Lists}
use Rattle.lp_spec_realises.specs.Realises.{begins_right, controls_begin, supplies_begin}
use Rattle.lp_spec_written.specs.Implements.{named_bits, bits_begin}
use Rattle.lp_spec_faultless.specs.Faults.{IsRead}
use Rattle.lp_spec_written.specs.Written.{additions}
use Rattle.lp_spec_hub.specs.Drives.{comes_from}
use Rattle.lp_spec_hub.specs.Whole.{IsOrderly}
use Rattle.lp_spec_wired.specs.Contents.{IsWrittenAt}
use Rattle.lp_spec_wired.specs.Names.{placement_of}
use Rattle.lp_spec_driven.specs.Sound.{IsProper}
use Rattle.lp_spec_wires.specs.Standing.{HasPlaces}
use Rattle.lp_spec_proper.specs.Insertable.{IsInsertable, IsWithinLimits}
use Rattle.lp_spec_begun.specs.Begun.{HasWires, HasPins, HasControlNets, HasSupplies}

-- a netlist of the written content has its wires, where what is added is proper and stands in instances, and no way back is longer than there are nodes
abbrev pub ContentHasWires : Type 0
ContentHasWires =
    (p : Project) (l : Lists) (w : Structure)
    → IsWrittenAt p (additions p l) w
    → IsOrderly p l
    → IsProper p (additions p l) (comes_from p)
    → HasPlaces p (additions p l)
    → HasFuel w
    → HasWires p l w

-- each net bit of the source begins in the written netlist where it has to
abbrev pub BitsBegin : Type 0
BitsBegin = (p : Project) (l : Lists) (w : Structure) → HasWires p l w → IsTrue (bits_begin p w (placement_of p l) (fuel_of w) (named_bits p l))

-- and so do the input pins of the source's cells, the outputs of the top and the data pins of operators; a pin that is open stays open
abbrev pub WiresBegin : Type 0
WiresBegin = (p : Project) (l : Lists) (w : Structure) → HasWires p l w → HasPins p l → IsTrue (begins_right p w (placement_of p l) (fuel_of w))

-- and so do the enables of clamps, the pins of switches and the retention pins of registers
abbrev pub ControlsBegin : Type 0
ControlsBegin =
    (p : Project) (l : Lists) (w : Structure) → HasWires p l w → HasPins p l → HasControlNets p l
    → IsTrue (controls_begin p w (placement_of p l) (fuel_of w))

-- and power and ground pins begin at the origins to which they are joined, each having one, and the top has the ports of the supplies of its ports
abbrev pub SuppliesBegin : Type 0
SuppliesBegin =
    (p : Project) (l : Lists) (w : Structure) → HasWires p l w → HasPins p l → HasSupplies p l
    → IsTrue (supplies_begin p w (placement_of p l) (fuel_of w))

-- wires, controls, supplies and net bits of the source begin where they have to
pub record BeginsThroughout (p : Project) (l : Lists) (w : Structure) : Type 0 where
  pub wires : IsTrue (begins_right p w (placement_of p l) (fuel_of w))
  pub controls : IsTrue (controls_begin p w (placement_of p l) (fuel_of w))
  pub supplies : IsTrue (supplies_begin p w (placement_of p l) (fuel_of w))
  pub bits : IsTrue (bits_begin p w (placement_of p l) (fuel_of w) (named_bits p l))

-- together: all of them
abbrev pub BeginsAsIntended : Type 0
BeginsAsIntended =
    (p : Project) (l : Lists) (w : Structure) → HasWires p l w → HasPins p l → HasControlNets p l → HasSupplies p l
    → BeginsThroughout p l w

-- so of a project that is read and has no fault, within limits, a netlist of the written content begins throughout as it has to,
-- where no way back is longer than there are nodes
abbrev pub InsertableBegins : Type 0
InsertableBegins =
    (p : Project) (l : Lists) (switch_command : ℕ → ℕ) (w : Structure)
    → IsRead p → IsInsertable p l switch_command → IsWithinLimits p l
    → IsWrittenAt p (additions p l) w
    → HasFuel w
    → BeginsThroughout p l w

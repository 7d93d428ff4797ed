-- The statements of the laws of this crate (own rule).
use Rattle.std.specs.Prelude.{◌≡◌, None}
use Rattle.lp_spec_design.specs.Netlists.{Structure}
use Rattle.lp_spec_bridge.specs.Driven.{JoinsSingleBits}
use Rattle.lp_spec_faults.specs.Lines.{first_of}
use Rattle.lp_spec_faults.specs.Wires.{width}

-- where no values of different widths are joined, one bit at most is connected to a pin
abbrev pub SameWidthsMeanSingleBits : Type 0
SameWidthsMeanSingleBits = (s : Structure) → first_of (width s) ≡ None → JoinsSingleBits s

-- What a reader gives of a module: the bits that it joins and assigns are declared in it (IEEE 1364-2005, net declarations, continuous assignments; a net that is not declared otherwise is a scalar by its use).
use Rattle.std.specs.Prelude.{List}
use Rattle.lp_model.specs.NetlistView.{BitView, ConstBit, InstanceView, AssignView, ModuleView}
use Rattle.lp_spec_design.specs.Nodes.{connected_bits}
use Rattle.lp_spec_design.specs.Winners.{IsIn}
use Rattle.lp_spec_bridge.specs.Templates.{bits_in}

-- a constant, or a bit of one of the module's ports and nets
abbrev pub IsBitOf : ModuleView → BitView → Type 0
IsBitOf m (ConstBit b) = Unit {0}
IsBitOf m b = IsIn b (bits_in m)

-- what its instances connect, the right sides of its assigns, and their left sides, which have no constant
pub record DeclaresItsBits (m : ModuleView) : Type 0 where
  pub connected : (y : InstanceView) (b : BitView) → IsIn y m.instances → IsIn b (connected_bits y.connections) → IsBitOf m b
  pub assigned : (a : AssignView) (b : BitView) → IsIn a m.assigns → IsIn b a.right → IsBitOf m b
  pub driven : (a : AssignView) (b : BitView) → IsIn a m.assigns → IsIn b a.left → IsIn b (bits_in m)

-- each module does
abbrev pub DeclareTheirBits : List ModuleView → Type 0
DeclareTheirBits ms = (m : ModuleView) → IsIn m ms → DeclaresItsBits m

-- What is resolved once for a module and serves each instance of it (own rule).
use Rattle.std.specs.Prelude.{◌≡◌, ℕ, ◌+◌, nat_lt, Bool, true, List, ◌++◌, map, length, Option, Some, None, flat_map, slice_index_or}
use Rattle.std.specs.List.{list_all}
use Rattle.lp_model.specs.declared.graph.EdgeFrom.{EdgeFrom}
use Rattle.lp_model.specs.declared.graph.EdgeFrom.TheVariants.{Node as FromNode, Const as FromConst}
use Rattle.lp_model.specs.NetlistView.{BitView, NetBit, SelectBit, ConstBit, PortView, NetView, ModuleView}
use Rattle.lp_spec_design.specs.Keys.{Name}
use Rattle.lp_spec_design.specs.Netlists.{Structure, indices}
use Rattle.lp_spec_design.specs.Instances.{module_instances}
use Rattle.lp_spec_bridge.specs.Elaborates.{starts_from}

-- a bit of a net by its name
abbrev pub bit_named : Name → Option ℕ → BitView
bit_named n None = NetBit n
bit_named n (Some i) = SelectBit n i

-- the bits of a module: ports and then nets, from the left bit to the right one
abbrev pub bits_in : ModuleView → List BitView
bits_in m = flat_map (λ (x : PortView). map (bit_named x.name) (indices x.range)) m.ports ++ flat_map (λ (x : NetView). map (bit_named x.name) (indices x.range)) m.nets

-- a place in this list, or a constant
abbrev pub place_bit : ModuleView → EdgeFrom → BitView
place_bit m (FromNode k) = slice_index_or (bits_in m) k.0 (ConstBit true)
place_bit m (FromConst b) = ConstBit b

abbrev pub has_place : ModuleView → EdgeFrom → Bool
has_place m (FromNode k) = nat_lt k.0 (length (bits_in m))
has_place m (FromConst b) = true

-- the places of some bits
pub record IsResolved (m : ModuleView) (bits : List BitView) (places : List EdgeFrom) : Type 0 where
  pub same : map (place_bit m) places ≡ bits
  pub within : list_all (has_place m) places ≡ true

-- a place in an instance whose bits begin at a node
abbrev pub at_start : ℕ → EdgeFrom → EdgeFrom
at_start start (FromNode k) = FromNode (record { 0 = start + k.0 })
at_start start (FromConst b) = FromConst b

-- the first node of an instance
abbrev pub start_of : Structure → ℕ → ℕ
start_of s k = slice_index_or (starts_from s 0 (module_instances s)) k 0

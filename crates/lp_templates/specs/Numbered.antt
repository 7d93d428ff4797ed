-- The bits of a module by the numbers of names in place of their texts: where they lie, and what values and connections have (IEEE 1364-2005, vectors, bit-selects, port connections).
use Rattle.std.specs.Prelude.{◌≡◌, ℕ, ◌+◌, ◌-◌, ◌<◌, nat_le, true, ◌&&◌, List, [], ◌∷◌, ◌++◌, map, sum_by, Option, Some, None, option_map, option_and_then, slice_get, if◌then◌else◌}
use Rattle.lp_model.specs.declared.bits.Bit.{Bit}
use Rattle.lp_model.specs.declared.bits.Bit.TheVariants as bits
use Rattle.lp_model.specs.declared.graph.EdgeFrom.{EdgeFrom}
use Rattle.lp_model.specs.declared.graph.EdgeFrom.TheVariants.{Node as FromNode, Const as FromConst}
use Rattle.lp_model.specs.declared.netlist.BitRange.{BitRange}
use Rattle.lp_model.specs.declared.netlist.Port.{Port}
use Rattle.lp_model.specs.declared.netlist.NetDecl.{NetDecl}
use Rattle.lp_model.specs.declared.netlist.Module.{Module}
use Rattle.lp_spec_faults.specs.Modules.{bit_count}
use Rattle.lp_places.specs.Places.{place_of_number}
use Rattle.lp_templates.specs.declared.spot.Spot.{Spot}

-- ---- where bits lie

-- the names that a module declares, and where the bits of each begin
pub record Declared : Type 0 where
  pub names : List ℕ
  pub spots : List Spot

-- one behind the other, from a place on
abbrev pub spots_from : ℕ → List (Option BitRange) → List Spot
spots_from k [] = []
spots_from k (r ∷ rs) = record { start = k; range = r } ∷ spots_from (k + bit_count r) rs

abbrev pub port_width : Port → ℕ
port_width p = bit_count p.range

abbrev pub net_width : NetDecl → ℕ
net_width n = bit_count n.range

abbrev pub with_ports : Declared → ℕ → List Port → Declared
with_ports d k ports = record { names = d.names ++ map (λ (p : Port). p.name.0) ports; spots = d.spots ++ spots_from k (map (λ (p : Port). p.range) ports) }

abbrev pub with_nets : Declared → ℕ → List NetDecl → Declared
with_nets d k nets = record { names = d.names ++ map (λ (n : NetDecl). n.name.0) nets; spots = d.spots ++ spots_from k (map (λ (n : NetDecl). n.range) nets) }

-- ports and then nets
abbrev pub declared_in : Module → Declared
declared_in m = with_nets (with_ports (record { names = []; spots = [] }) 0 m.ports) (sum_by port_width m.ports) m.nets

-- each ends within 32 bits
abbrev pub AreWithin : List Spot → Type 0
AreWithin spots = (k : ℕ) (x : Spot) → slice_get spots k ≡ Some x → x.start + bit_count x.range < 4294967296

-- ---- the place of a bit

-- how far an index is behind the left one
abbrev pub offset_in : BitRange → ℕ → Option ℕ
offset_in r i =
    if nat_le r.left r.right
    then (if nat_le r.left i && nat_le i r.right then Some (i - r.left) else None)
    else (if nat_le r.right i && nat_le i r.left then Some (r.left - i) else None)

-- a scalar has one bit without index
abbrev pub offset_of : Option BitRange → Option ℕ → Option ℕ
offset_of None None = Some 0
offset_of (Some r) (Some i) = offset_in r i
offset_of _ _ = None

abbrev pub place_at : Option ℕ → Spot → Option ℕ
place_at i x = option_map (λ k. k + x.start) (offset_of x.range i)

abbrev pub spot_of : Declared → ℕ → Option Spot
spot_of d n = option_and_then (slice_get d.spots) (place_of_number n d.names)

-- what is not declared has none, which is told as a constant
abbrev pub from_place : Option ℕ → EdgeFrom
from_place None = FromConst true
from_place (Some k) = FromNode (record { 0 = k })

abbrev pub place_named : Declared → ℕ → Option ℕ → EdgeFrom
place_named d n i = from_place (option_and_then (place_at i) (spot_of d n))

abbrev pub place_of : Declared → Bit → EdgeFrom
place_of d (bits.Net n) = place_named d n.0 None
place_of d (bits.Select n i) = place_named d n.0 (Some i)
place_of d (bits.Const b) = FromConst b

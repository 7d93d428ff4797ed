-- The places of a value's bits (IEEE 1364-2005, concatenations, bit-selects and part-selects, sized constants).
use Rattle.std.specs.Prelude.{ℕ, List, map, Some}
use Rattle.lp_model.specs.Bits.{between}
use Rattle.lp_model.specs.declared.bits.Bit.{Bit}
use Rattle.lp_model.specs.declared.graph.EdgeFrom.{EdgeFrom}
use Rattle.lp_templates.specs.declared.spot.Spot.{Spot}
use Rattle.lp_templates.specs.Numbered.{Declared, place_of, place_at, from_place}

abbrev pub places_of : Declared → List Bit → List EdgeFrom
places_of d bits = map (place_of d) bits

-- of a vector's bits from one index to another
abbrev pub part_places : Spot → ℕ → ℕ → List EdgeFrom
part_places x i j = map (λ k. from_place (place_at (Some k) x)) (between i j)

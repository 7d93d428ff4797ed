-- The bits of values (IEEE 1364-2005, vectors, bit-selects and part-selects, concatenations).
use Rattle.std.specs.Prelude.{ℕ, Bool, ◌&&◌, ◌||◌, nat_le, List, [], ◌∷◌, Option, Some, None, if◌then◌else◌}
use Rattle.lp_text.specs.declared.names.NameId.{NameId}
use Rattle.lp_model.specs.declared.netlist.BitRange.{BitRange}
use Rattle.lp_model.specs.declared.bits.Bit.{Bit}
use Rattle.lp_model.specs.declared.bits.Bit.TheVariants as bits
pub use Rattle.lp_model.specs.Bits.{indices, between, select, digit, constant_bits}

-- the index lies between the bounds of the range, which belong to it
abbrev pub is_in : BitRange → ℕ → Bool
is_in r i = (nat_le r.left i && nat_le i r.right) || (nat_le r.right i && nat_le i r.left)

-- from one index to another goes the way of the range
abbrev pub goes_along : BitRange → ℕ → ℕ → Bool
goes_along r i j = if nat_le r.left r.right then nat_le i j else nat_le j i

-- all bits of a net
abbrev pub whole : NameId → Option BitRange → List Bit
whole name None = bits.Net name ∷ []
whole name (Some r) = select name r.left r.right

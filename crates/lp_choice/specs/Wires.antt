-- Functions whose variables take their values from slots (own rule).
use Rattle.std.specs.Prelude.{ℕ, nat_le, Bool, false, not, ◌&&◌, if◌then◌else◌, List, map, Option, Some, None, slice_index_or}
use Rattle.std.specs.List.{list_all, position}
use Rattle.lp_expr.specs.Formula.{Formula, truth}
use Rattle.lp_spec_design.specs.Keys.{same_bool}
use Rattle.lp_spec_fit.specs.Equality.{choices}
use Rattle.lp_text.specs.declared.names.NameId.{NameId}
use Rattle.lp_choice.specs.Keys.{key_of, same_key}
use Rattle.lp_choice.specs.declared.wires.Wire.{Wire}

-- 0 where there is no slot
abbrev pub bit_at : List Bool → Option ℕ → Bool
bit_at c None = false
bit_at c (Some s) = slice_index_or c s false

abbrev pub level : List Bool → Wire → Bool
level c w = if w.negated then not (bit_at c w.slot) else bit_at c w.slot

-- the value where the slots have these values
abbrev pub value_at : Formula → List Wire → List Bool → Bool
value_at e wires c = truth e.steps (map (level c) wires)

abbrev pub agree_at : Formula → List Wire → Formula → List Wire → List Bool → Bool
agree_at e v f w c = same_bool (value_at e v c) (value_at f w c)

-- two functions of a number of slots have one value for each choice; those of more than 12 slots count as different
abbrev pub agree : Formula → List Wire → Formula → List Wire → ℕ → Bool
agree e v f w n = nat_le n 12 && list_all (agree_at e v f w) (choices n)

-- the wire of a name among keys
abbrev pub named_wire : List (List ℕ) → List ℕ → NameId → Wire
named_wire texts keys n = record { slot = position (λ other. same_key other (key_of texts n.0)) keys; negated = false }

-- the wire of a number among keys
abbrev pub number_wire : List ℕ → ℕ → Wire
number_wire keys k = record { slot = position (λ other. same_key other k) keys; negated = false }

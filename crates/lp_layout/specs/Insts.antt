-- The module instances at sites, with their names (own rule).
use Rattle.std.specs.Prelude.{ℕ, List, Option, Some, None, slice_get}
use Rattle.lp_model.specs.declared.graph.Inst.{Inst}
use Rattle.lp_model.specs.declared.netlist.Module.{Module}
use Rattle.lp_spec_layout.specs.Sites.{Spot, Site}
use Rattle.lp_spec_layout.specs.Laid.{parent_of}
use Rattle.lp_layout.specs.Held.{held_inst}
use Rattle.lp_layout.specs.Rows.{leaf_name}

-- of a statement of another instance
abbrev pub name_inside : List Module → ℕ → Option Site → ℕ → ℕ
name_inside ms own None place = own
name_inside ms own (Some outer) place = leaf_name ms outer.of place

-- by the statement by which it stands in another; the top has one of its own
abbrev pub instance_name : List Module → List Site → ℕ → Option Spot → ℕ
instance_name ms sites own None = own
instance_name ms sites own (Some at) = name_inside ms own (slice_get sites at.0) at.1

abbrev pub inst_of : List Module → List Site → ℕ → Site → Inst
inst_of ms sites own x = held_inst (record { name = record { 0 = instance_name ms sites own x.by }; «module» = x.of; parent = parent_of x.by; start = x.start })

-- The statements of the laws of this crate (own rule).
use Rattle.std.specs.Prelude.{◌≡◌, ◌≤◌, ℕ, length, Some, slice_get}
use Rattle.lp_spec_design.specs.Keys.{Node, Source}
use Rattle.lp_spec_design.specs.Netlists.{Structure}
use Rattle.lp_spec_design.specs.Graph.{sources_of}
use Rattle.lp_spec_design.specs.Winners.{IsIn}
use Rattle.lp_spec_single.specs.Names.{HasOwnNames}

-- no source of a node is listed twice, in any netlist with names of its own
abbrev pub SourcesDiffer : Type 0
SourcesDiffer =
    (w : Structure)
    → HasOwnNames w
    → (k : Node) (i j : ℕ) (y : Source)
    → slice_get (sources_of w k) i ≡ Some y
    → slice_get (sources_of w k) j ≡ Some y
    → i ≡ j

-- so a node of which all sources are one has at most one
abbrev pub EqualSourcesAreSingle : Type 0
EqualSourcesAreSingle =
    (w : Structure)
    → HasOwnNames w
    → (k : Node)
    → ((y z : Source) → IsIn y (sources_of w k) → IsIn z (sources_of w k) → y ≡ z)
    → length (sources_of w k) ≤ 1

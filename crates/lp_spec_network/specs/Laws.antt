-- The statements of the laws of this crate (own rule).
use Rattle.std.specs.Prelude.{◌≡◌, ◌↔◌, ℕ, Some, IsTrue, slice_get}
use Rattle.lp_model.specs.declared.supply.SetOrigins.{SetOrigins}
use Rattle.lp_model.specs.declared.supply.Supplies.{Supplies}
use Rattle.lp_rows.specs.Network.{IsNetwork}
use Rattle.lp_rows.specs.Rows.{IsLower}
use Rattle.lp_rows.specs.Leaks.{LeaksInSomeRow}
use Rattle.lp_spec_design.specs.Keys.{Node}
use Rattle.lp_spec_network.specs.Views.{leaking_sets, network_view}

-- in the network that definitions speak of, one set is lower than another exactly where the state table has its power lower
abbrev pub LowerByTheTable : Type 0
LowerByTheTable =
    (s : Supplies) (node : ℕ → Node) (margin j k : ℕ) (a b : SetOrigins) (by : ℕ)
    → slice_get s.sets j ≡ Some (Some a) → slice_get s.sets k ≡ Some (Some b)
    → IsTrue ((network_view node margin s).lower j k by)
    ↔ IsLower s a.power.0 b.power.0 by

-- a set may be off while another is on exactly where the state table has their powers so
abbrev pub LeaksByTheTable : Type 0
LeaksByTheTable =
    (s : Supplies) (j k : ℕ) (a b : SetOrigins)
    → IsNetwork s → slice_get s.sets j ≡ Some (Some a) → slice_get s.sets k ≡ Some (Some b)
    → IsTrue (leaking_sets s j k)
    ↔ LeaksInSomeRow s a.power.0 b.power.0

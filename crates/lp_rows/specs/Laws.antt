-- The statements of the laws of this crate (own rule).
use Rattle.std.specs.Prelude.{◌≡◌, ℕ, List, true, slice_set}
use Rattle.lp_model.specs.declared.intent.RowState.{RowState}
use Rattle.lp_model.specs.declared.supply.Supplies.{Supplies}
use Rattle.lp_tern.specs.declared.supply.SupplyState.{SupplyState}
use Rattle.lp_tern.specs.declared.supply.SupplyState.TheVariants.{Off}
use Rattle.lp_rows.specs.Rows.{within_in}

-- a row that allows a tuple also allows it with one more port off
abbrev pub PortsMayBeOff : Type 0
PortsMayBeOff =
    (s : Supplies) (row : List RowState) (tuple : List SupplyState) (place : ℕ)
    → within_in s row tuple ≡ true
    → within_in s row (slice_set tuple place Off) ≡ true

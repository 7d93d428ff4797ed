-- The statements of the laws of this crate (own rule).
use Rattle.std.specs.Prelude.{◌≡◌, List, Some, true}
use Rattle.lp_model.specs.declared.supply.SetOrigins.{SetOrigins}
use Rattle.lp_model.specs.LibraryView.{CellView, ExprView}
use Rattle.lp_spec_fit.specs.Joins.{Joins}
use Rattle.lp_spec_fit.specs.PowerDown.{Onness, is_some_off, power_down_equals, power_down_where}

-- a power-down function that passes the test for some supply sets is 1 exactly where one of them is not on, whichever origins are on
abbrev pub LostWithItsSupplies : Type 0
LostWithItsSupplies =
    (c : CellView) (join : Joins) (sets : List SetOrigins) (e : ExprView)
    → power_down_equals c join sets (Some e) ≡ true
    → (on : Onness)
    → power_down_where c join e on ≡ is_some_off sets on

-- The power supply of a signal pin of a cell, by what the cell's power and ground pins are joined to (Liberty related_power_pin; own rule).
use Rattle.std.specs.Prelude.{ℕ, Bool, true, false, Option, Some, None, slice_get}
use Rattle.lp_model.specs.declared.library.PgKind.{PgKind}
use Rattle.lp_model.specs.declared.library.PgKind.TheVariants.{PrimaryPower, BackupPower, InternalPower}
use Rattle.lp_model.specs.LibraryView.{PgPinView, PinView, CellView}
use Rattle.lp_spec_fit.specs.Joins.{Joins, joined_at}

-- a power pin that is no bias pin
abbrev pub is_supply_kind : PgKind → Bool
is_supply_kind PrimaryPower = true
is_supply_kind BackupPower = true
is_supply_kind InternalPower = true
is_supply_kind _ = false

abbrev pub is_supply_pin : Option PgPinView → Bool
is_supply_pin None = false
is_supply_pin (Some g) = is_supply_kind g.kind

-- a signal pin relates to one, as each pin of a cell that can be used does
abbrev pub has_power : CellView → PinView → Bool
has_power c q = is_supply_pin (slice_get c.pgs q.power)

-- the origin of its power
abbrev pub power_origin : CellView → Joins → PinView → Option ℕ
power_origin c join q = joined_at c join q.power

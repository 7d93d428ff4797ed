-- Numbers of large tables that may be missing.
use Rattle.std.specs.Prelude.{◌==◌, Option, Some, None, if◌then◌else◌}
use Rattle.lp_model.specs.declared.ids.SetId.{SetId}
use Rattle.lp_model.specs.declared.ids.StrategyId.{StrategyId}
use Rattle.lp_model.specs.declared.slot.SetSlot.{SetSlot}
use Rattle.lp_model.specs.declared.slot.StrategySlot.{StrategySlot}

abbrev pub set_in : SetSlot → Option SetId
set_in s = if s.number == 4294967295 then None else Some (record { 0 = s.number })

abbrev pub strategy_in : StrategySlot → Option StrategyId
strategy_in s = if s.number == 4294967295 then None else Some (record { 0 = s.number })

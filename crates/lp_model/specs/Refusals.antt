-- The refusals for faults of each stage.
use Rattle.lp_model.specs.declared.fault.library.LibraryFault.{LibraryFault}
use Rattle.lp_model.specs.declared.fault.netlist.NetlistFault.{NetlistFault}
use Rattle.lp_model.specs.declared.fault.intent.IntentFault.{IntentFault}
use Rattle.lp_model.specs.declared.fault.supply.SupplyFault.{SupplyFault}
use Rattle.lp_model.specs.declared.fault.strategy.StrategyFault.{StrategyFault}
use Rattle.lp_model.specs.declared.fault.run.EventFault.{EventFault}
use Rattle.lp_model.specs.declared.fault.run.PinFault.{PinFault}
use Rattle.lp_model.specs.declared.fault.run.GeneratorFault.{GeneratorFault}
use Rattle.lp_model.specs.declared.fault.refusal.DesignFault.TheVariants as TDesignFault
use Rattle.lp_model.specs.declared.fault.refusal.Fault.TheVariants as TFault
use Rattle.lp_model.specs.declared.fault.refusal.Refusal.{Refusal}
use Rattle.lp_model.specs.declared.fault.refusal.Refusal.TheVariants as TRefusal

abbrev pub library_refusal : LibraryFault → Refusal
library_refusal f = TRefusal.Fault (TFault.Design (TDesignFault.Library f))

abbrev pub netlist_refusal : NetlistFault → Refusal
netlist_refusal f = TRefusal.Fault (TFault.Design (TDesignFault.Netlist f))

abbrev pub intent_refusal : IntentFault → Refusal
intent_refusal f = TRefusal.Fault (TFault.Design (TDesignFault.Intent f))

abbrev pub supply_refusal : SupplyFault → Refusal
supply_refusal f = TRefusal.Fault (TFault.Design (TDesignFault.Supply f))

abbrev pub strategy_refusal : StrategyFault → Refusal
strategy_refusal f = TRefusal.Fault (TFault.Design (TDesignFault.Strategy f))

abbrev pub event_refusal : EventFault → Refusal
event_refusal f = TRefusal.Fault (TFault.Event f)

abbrev pub pin_refusal : PinFault → Refusal
pin_refusal f = TRefusal.Fault (TFault.Pins f)

abbrev pub generator_refusal : GeneratorFault → Refusal
generator_refusal f = TRefusal.Fault (TFault.Generator f)

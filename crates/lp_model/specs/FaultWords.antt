-- The words of faults in their lines (own rule).
use Rattle.std.specs.Prelude.{ℕ, List, codes}
use Rattle.lp_model.specs.Reasons.{reason_word}
use Rattle.lp_model.specs.declared.fault.library.LibraryFault.{LibraryFault}
use Rattle.lp_model.specs.declared.fault.library.LibraryFault.TheVariants as TLibraryFault
use Rattle.lp_model.specs.declared.fault.netlist.NetlistFault.{NetlistFault}
use Rattle.lp_model.specs.declared.fault.netlist.NetlistFault.TheVariants as TNetlistFault
use Rattle.lp_model.specs.declared.fault.intent.IntentFault.{IntentFault}
use Rattle.lp_model.specs.declared.fault.intent.IntentFault.TheVariants as TIntentFault
use Rattle.lp_model.specs.declared.fault.supply.SupplyFault.{SupplyFault}
use Rattle.lp_model.specs.declared.fault.supply.SupplyFault.TheVariants as TSupplyFault
use Rattle.lp_model.specs.declared.fault.strategy.StrategyFault.{StrategyFault}
use Rattle.lp_model.specs.declared.fault.strategy.StrategyFault.TheVariants as TStrategyFault
use Rattle.lp_model.specs.declared.fault.run.EventFault.{EventFault}
use Rattle.lp_model.specs.declared.fault.run.EventFault.TheVariants as TEventFault
use Rattle.lp_model.specs.declared.fault.run.PinFault.{PinFault}
use Rattle.lp_model.specs.declared.fault.run.PinFault.TheVariants as TPinFault
use Rattle.lp_model.specs.declared.fault.run.GeneratorFault.{GeneratorFault}
use Rattle.lp_model.specs.declared.fault.run.GeneratorFault.TheVariants as TGeneratorFault
use Rattle.lp_model.specs.declared.fault.check.CheckFault.{CheckFault}
use Rattle.lp_model.specs.declared.fault.check.CheckFault.TheVariants as TCheckFault
use Rattle.lp_model.specs.declared.fault.netlist.NetlistLimit.{NetlistLimit}
use Rattle.lp_model.specs.declared.fault.netlist.NetlistLimit.TheVariants as TNetlistLimit
use Rattle.lp_model.specs.declared.fault.netlist.UnfitReason.{UnfitReason}
use Rattle.lp_model.specs.declared.fault.netlist.UnfitReason.TheVariants as TUnfitReason
use Rattle.lp_model.specs.declared.fault.intent.IntentLimit.{IntentLimit}
use Rattle.lp_model.specs.declared.fault.intent.IntentLimit.TheVariants as TIntentLimit
use Rattle.lp_model.specs.declared.fault.intent.LoadLimit.{LoadLimit}
use Rattle.lp_model.specs.declared.fault.intent.LoadLimit.TheVariants as TLoadLimit

abbrev pub library_fault_word : LibraryFault → List ℕ
library_fault_word (TLibraryFault.Syntax file place) = codes "F01 Syntax"
library_fault_word (TLibraryFault.Limit file place) = codes "F02 Limit"
library_fault_word (TLibraryFault.DuplicateCell cell) = codes "F03 DuplicateCell"

abbrev pub netlist_fault_word : NetlistFault → List ℕ
netlist_fault_word (TNetlistFault.Syntax place) = codes "F10 Syntax"
netlist_fault_word (TNetlistFault.Unsupported place word) = codes "F11 Unsupported"
netlist_fault_word (TNetlistFault.DuplicateName place name) = codes "F12 DuplicateName"
netlist_fault_word (TNetlistFault.UnknownModule at) = codes "F13 UnknownModule"
netlist_fault_word (TNetlistFault.UnknownPin at pin) = codes "F14 UnknownPin"
netlist_fault_word (TNetlistFault.Width parent join) = codes "F15 Width"
netlist_fault_word (TNetlistFault.TwoDrivers node) = codes "F16 TwoDrivers"
netlist_fault_word (TNetlistFault.Recursive target) = codes "F17 Recursive"
netlist_fault_word (TNetlistFault.Top count) = codes "F18 Top"
netlist_fault_word (TNetlistFault.ReservedName name) = codes "F19 ReservedName"
netlist_fault_word (TNetlistFault.AlreadyPowered at pin) = codes "F20 AlreadyPowered"
netlist_fault_word (TNetlistFault.Limit limit) = codes "F22 Limit"
netlist_fault_word (TNetlistFault.WireLoop node) = codes "F23 WireLoop"
netlist_fault_word (TNetlistFault.UnfitCell at reason) = codes "F61 UnfitCell"

abbrev pub intent_fault_word : IntentFault → List ℕ
intent_fault_word (TIntentFault.Syntax place) = codes "F30 Syntax"
intent_fault_word (TIntentFault.Unsupported place word) = codes "F31 Unsupported"
intent_fault_word (TIntentFault.UnknownName place name) = codes "F32 UnknownName"
intent_fault_word (TIntentFault.Duplicate place name) = codes "F33 Duplicate"
intent_fault_word (TIntentFault.ClampRefused place) = codes "F34 ClampRefused"
intent_fault_word (TIntentFault.Limit limit) = codes "F43 Limit"
intent_fault_word (TIntentFault.LoadCycle file) = codes "F44 LoadCycle"
intent_fault_word (TIntentFault.LoadLimit limit) = codes "F45 LoadLimit"

abbrev pub supply_fault_word : SupplyFault → List ℕ
supply_fault_word (TSupplyFault.NoDomain top) = codes "F35 NoDomain"
supply_fault_word (TSupplyFault.NoPrimary domain) = codes "F36 NoPrimary"
supply_fault_word (TSupplyFault.Undriven supply) = codes "F37 Undriven"
supply_fault_word (TSupplyFault.TwoSources net) = codes "F38 TwoSources"
supply_fault_word (TSupplyFault.SupplyLoop switch) = codes "F39 SupplyLoop"
supply_fault_word (TSupplyFault.NoStates origin) = codes "F40 NoStates"
supply_fault_word (TSupplyFault.GroundLevel origin) = codes "F41 GroundLevel"
supply_fault_word (TSupplyFault.StateMismatch at) = codes "F42 StateMismatch"
supply_fault_word (TSupplyFault.GroundMismatch first second) = codes "F63 GroundMismatch"

abbrev pub strategy_fault_word : StrategyFault → List ℕ
strategy_fault_word (TStrategyFault.Loop node) = codes "F21 Loop"
strategy_fault_word (TStrategyFault.NotBoundary strategy element) = codes "F50 NotBoundary"
strategy_fault_word (TStrategyFault.Tied site first second) = codes "F51 Tied"
strategy_fault_word (TStrategyFault.SplitSinks bit strategy) = codes "F52 SplitSinks"
strategy_fault_word (TStrategyFault.UncoveredIsolation driver reader row) = codes "F53 UncoveredIsolation"
strategy_fault_word (TStrategyFault.UncoveredLevel driver reader row) = codes "F54 UncoveredLevel"
strategy_fault_word (TStrategyFault.ShiftForbidden driver reader row) = codes "F55 ShiftForbidden"
strategy_fault_word (TStrategyFault.TwoShifters bit strategy) = codes "F56 TwoShifters"
strategy_fault_word (TStrategyFault.LocationOrder bit isolation shifting) = codes "F57 LocationOrder"
strategy_fault_word (TStrategyFault.NoPlace bit strategy) = codes "F58 NoPlace"
strategy_fault_word (TStrategyFault.ControlLevel of node row) = codes "F59 ControlLevel"
strategy_fault_word (TStrategyFault.NoCell entry) = codes "F60 NoCell"
strategy_fault_word (TStrategyFault.NoSupply site strategy) = codes "F62 NoSupply"
strategy_fault_word (TStrategyFault.ShiftTarget bit strategy) = codes "F64 ShiftTarget"
strategy_fault_word (TStrategyFault.ShiftSupply bit strategy) = codes "F65 ShiftSupply"
strategy_fault_word (TStrategyFault.UnfitPower instance) = codes "F66 UnfitPower"

abbrev pub event_fault_word : EventFault → List ℕ
event_fault_word (TEventFault.Syntax line) = codes "V1 Syntax"
event_fault_word (TEventFault.UnknownName line name) = codes "V2 UnknownName"
event_fault_word (TEventFault.NotInRows event) = codes "V3 NotInRows"
event_fault_word (TEventFault.Limit line) = codes "V4 Limit"
event_fault_word (TEventFault.VcdSyntax line) = codes "V5 VcdSyntax"
event_fault_word (TEventFault.VcdWidth name) = codes "V6 VcdWidth"
event_fault_word (TEventFault.VcdSupply line) = codes "V7 VcdSupply"
event_fault_word (TEventFault.VcdName name) = codes "V8 VcdName"

abbrev pub pin_fault_word : PinFault → List ℕ
pin_fault_word (TPinFault.PinUnsupplied leaf pg) = codes "P1 PinUnsupplied"
pin_fault_word (TPinFault.Loop node) = codes "P2 Loop"
pin_fault_word (TPinFault.NoOrigin origin) = codes "P3 NoOrigin"

abbrev pub generator_fault_word : GeneratorFault → List ℕ
generator_fault_word (TGeneratorFault.OutOfRange number) = codes "G1 OutOfRange"

abbrev pub check_fault_word : CheckFault → List ℕ
check_fault_word (TCheckFault.Instance part) = codes "C1 Instance"
check_fault_word (TCheckFault.Edge reader) = codes "C2 Edge"
check_fault_word (TCheckFault.Control entry) = codes "C3 Control"
check_fault_word (TCheckFault.Supply at) = codes "C4 Supply"
check_fault_word (TCheckFault.Extra leaf) = codes "C5 Extra"
check_fault_word (TCheckFault.Cell leaf) = codes "C6 Cell"
check_fault_word (TCheckFault.UnusedSwitch switch) = codes "C7 UnusedSwitch"

abbrev pub netlist_limit_number : NetlistLimit → ℕ
netlist_limit_number TNetlistLimit.Bytes = 1
netlist_limit_number TNetlistLimit.Nodes = 2
netlist_limit_number TNetlistLimit.Instances = 3
netlist_limit_number TNetlistLimit.Depth = 4
netlist_limit_number TNetlistLimit.Names = 5

abbrev pub intent_limit_number : IntentLimit → ℕ
intent_limit_number TIntentLimit.Bytes = 1
intent_limit_number TIntentLimit.Strategies = 2
intent_limit_number TIntentLimit.Rows = 3
intent_limit_number TIntentLimit.Origins = 4

abbrev pub load_limit_number : LoadLimit → ℕ
load_limit_number TLoadLimit.Loads = 1
load_limit_number TLoadLimit.Bytes = 2

abbrev pub unfit_word : UnfitReason → List ℕ
unfit_word (TUnfitReason.Unusable reason) = reason_word reason
unfit_word TUnfitReason.Shifter = codes "shifter"
unfit_word TUnfitReason.RetentionCell = codes "retention_cell"
unfit_word TUnfitReason.SwitchCell = codes "switch_cell"
unfit_word TUnfitReason.Backup = codes "backup"
unfit_word TUnfitReason.Internal = codes "internal"

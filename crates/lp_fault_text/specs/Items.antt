-- Which parts of a design the line of a fault names, in their order (own rule).
use Rattle.std.specs.Prelude.{Bool, true, false, List, [], ◌∷◌}
use Rattle.lp_model.specs.declared.fault.check.CheckFault.{CheckFault}
use Rattle.lp_model.specs.declared.fault.check.CheckFault.TheVariants as check
use Rattle.lp_model.specs.declared.fault.netlist.NetlistFault.{NetlistFault}
use Rattle.lp_model.specs.declared.fault.netlist.NetlistFault.TheVariants as netlist
use Rattle.lp_model.specs.declared.fault.refs.ControlRef.{ControlRef}
use Rattle.lp_model.specs.declared.fault.refs.ControlRef.TheVariants as controls
use Rattle.lp_model.specs.declared.fault.refs.DriverRef.{DriverRef}
use Rattle.lp_model.specs.declared.fault.refs.DriverRef.TheVariants as drivers
use Rattle.lp_model.specs.declared.fault.refs.EntryRef.{EntryRef}
use Rattle.lp_model.specs.declared.fault.refs.EntryRef.TheVariants as entries
use Rattle.lp_model.specs.declared.fault.refs.PartRef.{PartRef}
use Rattle.lp_model.specs.declared.fault.refs.PartRef.TheVariants as lost
use Rattle.lp_model.specs.declared.fault.refs.PoweredRef.{PoweredRef}
use Rattle.lp_model.specs.declared.fault.refs.PoweredRef.TheVariants as supplied
use Rattle.lp_model.specs.declared.fault.refs.ReaderRef.{ReaderRef}
use Rattle.lp_model.specs.declared.fault.refs.ReaderRef.TheVariants as readers
use Rattle.lp_model.specs.declared.fault.refs.Site.{Site}
use Rattle.lp_model.specs.declared.fault.refs.Site.TheVariants as sites
use Rattle.lp_model.specs.declared.fault.refusal.DesignFault.{DesignFault}
use Rattle.lp_model.specs.declared.fault.refusal.DesignFault.TheVariants as designs
use Rattle.lp_model.specs.declared.fault.refusal.Fault.{Fault}
use Rattle.lp_model.specs.declared.fault.refusal.Fault.TheVariants as faults
use Rattle.lp_model.specs.declared.fault.run.PinFault.{PinFault}
use Rattle.lp_model.specs.declared.fault.run.PinFault.TheVariants as pins
use Rattle.lp_model.specs.declared.fault.strategy.StrategyFault.{StrategyFault}
use Rattle.lp_model.specs.declared.fault.strategy.StrategyFault.TheVariants as strategies
use Rattle.lp_model.specs.declared.fault.supply.RowRef.{RowRef}
use Rattle.lp_model.specs.declared.fault.supply.RowRef.TheVariants as rows
use Rattle.lp_model.specs.declared.fault.supply.SupplyFault.{SupplyFault}
use Rattle.lp_model.specs.declared.fault.supply.SupplyFault.TheVariants as supplies
use Rattle.lp_model.specs.declared.fault.supply.SupplyRef.{SupplyRef}
use Rattle.lp_model.specs.declared.fault.supply.SupplyRef.TheVariants as undriven
use Rattle.lp_model.specs.declared.ids.InstId.{InstId}
use Rattle.lp_model.specs.declared.intent.Element.{Element}
use Rattle.lp_model.specs.declared.intent.Element.TheVariants as elements
use Rattle.lp_fault_text.specs.declared.item.Item.{Item}
use Rattle.lp_fault_text.specs.declared.item.Item.TheVariants as items
use Rattle.lp_fault_text.specs.declared.item.Part.{Part}
use Rattle.lp_fault_text.specs.declared.item.Part.TheVariants as parts
use Rattle.lp_fault_text.specs.declared.item.Which.{Which}
use Rattle.lp_fault_text.specs.declared.item.Which.TheVariants.{Source, Powered}

abbrev pub top : InstId
top = record { 0 = 0 }

abbrev pub source : Part → Item
source part = items.Part Source part

abbrev pub powered : Part → Item
powered part = items.Part Powered part

-- ---- what a field of a fault refers to

-- a boundary bit or a register
abbrev pub site_item : Site → Item
site_item (sites.Bit edge) = source (parts.Bit edge)
site_item (sites.Register leaf) = source (parts.Leaf leaf)

-- a pin by its instance, a top input bit, or none
abbrev pub driver_item : DriverRef → Item
driver_item (drivers.Pin leaf place) = source (parts.Pin leaf place)
driver_item (drivers.Port node) = source (parts.Node node)
driver_item drivers.Nothing = items.Nothing

-- the data of a clamp by its port bit, a pin by its instance, or a top output bit
abbrev pub reader_item : ReaderRef → Item
reader_item (readers.Clamp edge) = source (parts.Bit edge)
reader_item (readers.Pin leaf place) = source (parts.Pin leaf place)
reader_item (readers.Port node) = source (parts.Node node)

abbrev pub control_item : ControlRef → Item
control_item (controls.Strategy strategy) = items.Strategy strategy
control_item (controls.Switch number) = items.Switch number

-- what a cell is for, with its strategy; a switch has none
abbrev pub entry_items : EntryRef → List Item
entry_items (entries.Bit edge strategy) = source (parts.Bit edge) ∷ items.Strategy strategy ∷ []
entry_items (entries.Register leaf strategy) = source (parts.Leaf leaf) ∷ items.Strategy strategy ∷ []
entry_items (entries.Switch number) = items.Switch number ∷ []

-- the same, where the missing strategy of a switch is said
abbrev pub controlled_items : EntryRef → List Item
controlled_items (entries.Bit edge strategy) = source (parts.Bit edge) ∷ items.Strategy strategy ∷ []
controlled_items (entries.Register leaf strategy) = source (parts.Leaf leaf) ∷ items.Strategy strategy ∷ []
controlled_items (entries.Switch number) = items.Switch number ∷ items.Nothing ∷ []

abbrev pub element_item : Element → Item
element_item (elements.Inst inst) = source (parts.Inst inst)
element_item (elements.Leaf leaf) = source (parts.Leaf leaf)
element_item (elements.Port inst place) = source (parts.Port inst place)
element_item (elements.Bit node) = source (parts.Node node)

abbrev pub supply_item : SupplyRef → Item
supply_item (undriven.Set set) = items.Set set
supply_item (undriven.Port name) = items.Supply name
supply_item (undriven.Net name) = items.Supply name

abbrev pub row_item : RowRef → Item
row_item (rows.Row number) = items.Number number
row_item (rows.Origin origin) = items.Origin origin

-- a part of the source, or an instance that the powered netlist has beyond it
abbrev pub part_item : PartRef → Item
part_item (lost.Inst inst) = source (parts.Inst inst)
part_item (lost.Leaf leaf) = source (parts.Leaf leaf)
part_item (lost.Port place) = source (parts.Port top place)
part_item (lost.Added inst) = powered (parts.Inst inst)

-- a pg_pin of the powered netlist behind its instance, or a missing port's origin behind the top
abbrev pub supplied_items : PoweredRef → List Item
supplied_items (supplied.Pin leaf place) = powered (parts.Leaf leaf) ∷ powered (parts.PgName leaf place) ∷ []
supplied_items (supplied.Port origin) = powered (parts.Inst top) ∷ items.Origin origin ∷ []

-- ---- the fields of each fault

-- of a netlist: all others are given by names and places
abbrev pub netlist_items : Which → NetlistFault → List Item
netlist_items which (netlist.TwoDrivers node) = items.Part which (parts.Node node) ∷ []
netlist_items which (netlist.WireLoop node) = items.Part which (parts.Node node) ∷ []
netlist_items which _ = []

-- of domains and supplies: the name of the top is given with F35
abbrev pub supply_items : SupplyFault → List Item
supply_items (supplies.NoDomain name) = []
supply_items (supplies.NoPrimary domain) = items.Domain domain ∷ []
supply_items (supplies.Undriven supply) = supply_item supply ∷ []
supply_items (supplies.TwoSources net) = items.Supply net ∷ []
supply_items (supplies.SupplyLoop number) = items.Switch number ∷ []
supply_items (supplies.NoStates origin) = items.Origin origin ∷ []
supply_items (supplies.GroundLevel origin) = items.Origin origin ∷ []
supply_items (supplies.StateMismatch at) = row_item at ∷ []
supply_items (supplies.GroundMismatch first second) = items.Set first ∷ items.Set second ∷ []

abbrev pub strategy_items : StrategyFault → List Item
strategy_items (strategies.Loop node) = source (parts.Node node) ∷ []
strategy_items (strategies.NotBoundary strategy element) = items.Strategy strategy ∷ element_item element ∷ []
strategy_items (strategies.Tied site first second) = site_item site ∷ items.Strategy first ∷ items.Strategy second ∷ []
strategy_items (strategies.SplitSinks bit strategy) = source (parts.Bit bit) ∷ items.Strategy strategy ∷ []
strategy_items (strategies.UncoveredIsolation driver reader row) = driver_item driver ∷ reader_item reader ∷ items.Number row ∷ []
strategy_items (strategies.UncoveredLevel driver reader row) = driver_item driver ∷ reader_item reader ∷ items.Number row ∷ []
strategy_items (strategies.ShiftForbidden driver reader row) = driver_item driver ∷ reader_item reader ∷ items.Number row ∷ []
strategy_items (strategies.TwoShifters bit strategy) = source (parts.Bit bit) ∷ items.Strategy strategy ∷ []
strategy_items (strategies.LocationOrder bit isolation shifting) = source (parts.Bit bit) ∷ items.Strategy isolation ∷ items.Strategy shifting ∷ []
strategy_items (strategies.NoPlace bit strategy) = source (parts.Bit bit) ∷ items.Strategy strategy ∷ []
strategy_items (strategies.ControlLevel of node row) = control_item of ∷ source (parts.Node node) ∷ items.Number row ∷ []
strategy_items (strategies.NoCell entry) = entry_items entry
strategy_items (strategies.NoSupply site strategy) = site_item site ∷ items.Strategy strategy ∷ []
strategy_items (strategies.ShiftTarget bit strategy) = source (parts.Bit bit) ∷ items.Strategy strategy ∷ []
strategy_items (strategies.ShiftSupply bit strategy) = source (parts.Bit bit) ∷ items.Strategy strategy ∷ []
strategy_items (strategies.UnfitPower instance) = source (parts.Leaf instance) ∷ []

-- whether a fault of strategies is one of drivers and readers, of a control or of a cell's supplies
abbrev pub is_of_reading : StrategyFault → Bool
is_of_reading (strategies.UncoveredIsolation driver reader row) = true
is_of_reading (strategies.UncoveredLevel driver reader row) = true
is_of_reading (strategies.ShiftForbidden driver reader row) = true
is_of_reading (strategies.ControlLevel of node row) = true
is_of_reading (strategies.UnfitPower instance) = true
is_of_reading _ = false

-- of a netlist that is simulated by its pins: it is the one to which the intent belongs then
abbrev pub pin_items : PinFault → List Item
pin_items (pins.PinUnsupplied leaf pg) = source (parts.Leaf leaf) ∷ source (parts.PgName leaf pg) ∷ []
pin_items (pins.Loop node) = source (parts.Node node) ∷ []
pin_items (pins.NoOrigin origin) = items.Origin origin ∷ []

abbrev pub check_items : CheckFault → List Item
check_items (check.Instance part) = part_item part ∷ []
check_items (check.Edge reader) = reader_item reader ∷ []
check_items (check.Control entry) = controlled_items entry
check_items (check.Supply at) = supplied_items at
check_items (check.Extra leaf) = powered (parts.Leaf leaf) ∷ []
check_items (check.Cell leaf) = powered (parts.Leaf leaf) ∷ []
check_items (check.UnusedSwitch number) = items.Switch number ∷ []

abbrev pub design_items : DesignFault → List Item
design_items (designs.Library fault) = []
design_items (designs.Netlist fault) = netlist_items Source fault
design_items (designs.Intent fault) = []
design_items (designs.Supply fault) = supply_items fault
design_items (designs.Strategy fault) = strategy_items fault

-- the parts that a fault's line names; none where names, numbers and places alone give its fields
abbrev pub fault_items : Fault → List Item
fault_items (faults.Design fault) = design_items fault
fault_items (faults.Event fault) = []
fault_items (faults.Pins fault) = pin_items fault
fault_items (faults.Generator fault) = []
fault_items (faults.Check fault) = check_items fault
fault_items (faults.Powered fault) = netlist_items Powered fault
fault_items (faults.Loaded load fault) = []
fault_items (faults.NotYet number) = []

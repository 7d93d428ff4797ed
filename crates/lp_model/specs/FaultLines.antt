-- The lines of faults: `lpinsert: `, the word, and the fields with a blank before each (own rule).
use Rattle.std.specs.Prelude.{ℕ, Bool, true, false, List, [], ◌∷◌, ◌++◌, codes, decimal}
use Rattle.lp_text.specs.Texts.{text_at}
use Rattle.lp_text.specs.declared.place.Place.{Place}
use Rattle.lp_model.specs.declared.fault.refusal.DesignFault.{DesignFault}
use Rattle.lp_model.specs.declared.fault.refusal.DesignFault.TheVariants as TDesignFault
use Rattle.lp_model.specs.declared.fault.refusal.Fault.{Fault}
use Rattle.lp_model.specs.declared.fault.refusal.Fault.TheVariants as TFault
use Rattle.lp_model.specs.declared.fault.netlist.PinRef.{PinRef}
use Rattle.lp_model.specs.declared.fault.netlist.PinRef.TheVariants.{Named, Ordered}
use Rattle.lp_model.specs.declared.fault.netlist.JoinRef.{JoinRef}
use Rattle.lp_model.specs.declared.fault.netlist.JoinRef.TheVariants.{Connection, Assign}
use Rattle.lp_model.specs.declared.fault.library.LibraryFault.{LibraryFault}
use Rattle.lp_model.specs.declared.fault.library.LibraryFault.TheVariants as TLibraryFault
use Rattle.lp_model.specs.declared.fault.netlist.NetlistFault.{NetlistFault}
use Rattle.lp_model.specs.declared.fault.netlist.NetlistFault.TheVariants as TNetlistFault
use Rattle.lp_model.specs.declared.fault.intent.IntentFault.{IntentFault}
use Rattle.lp_model.specs.declared.fault.intent.IntentFault.TheVariants as TIntentFault
use Rattle.lp_model.specs.declared.fault.supply.SupplyFault.{SupplyFault}
use Rattle.lp_model.specs.declared.fault.supply.SupplyFault.TheVariants as TSupplyFault
use Rattle.lp_model.specs.declared.fault.run.EventFault.{EventFault}
use Rattle.lp_model.specs.declared.fault.run.EventFault.TheVariants as TEventFault
use Rattle.lp_model.specs.declared.fault.run.GeneratorFault.{GeneratorFault}
use Rattle.lp_model.specs.declared.fault.run.GeneratorFault.TheVariants as TGeneratorFault
use Rattle.lp_model.specs.FaultWords.{library_fault_word, netlist_fault_word, intent_fault_word, supply_fault_word, strategy_fault_word, event_fault_word, pin_fault_word, generator_fault_word, check_fault_word, netlist_limit_number, intent_limit_number, load_limit_number, unfit_word}

-- a field behind a blank
abbrev pub field : List ℕ → List ℕ
field text = codes " " ++ text

abbrev pub fields_text : List (List ℕ) → List ℕ
fields_text [] = []
fields_text (f ∷ fields) = field f ++ fields_text fields

-- the line of a word and its fields, without a line feed
abbrev pub line_text : List ℕ → List (List ℕ) → List ℕ
line_text word fields = codes "lpinsert: " ++ (word ++ fields_text fields)

-- line:column
abbrev pub place_text : Place → List ℕ
place_text place = decimal place.line ++ (codes ":" ++ decimal place.column)

-- the fields of each fault in their order, by the texts of a table of names; none where the graph or the intent is needed
abbrev pub library_fields : List (List ℕ) → LibraryFault → List (List ℕ)
library_fields names (TLibraryFault.Syntax file place) = decimal file ∷ place_text place ∷ []
library_fields names (TLibraryFault.Limit file place) = decimal file ∷ place_text place ∷ []
library_fields names (TLibraryFault.DuplicateCell cell) = text_at names cell.0 ∷ []

abbrev pub pin_text : List (List ℕ) → PinRef → List ℕ
pin_text names (Named name) = text_at names name.0
pin_text names (Ordered position) = decimal position

abbrev pub join_fields : List (List ℕ) → JoinRef → List (List ℕ)
join_fields names (Connection instance port) = text_at names instance.0 ∷ text_at names port.0 ∷ []
join_fields names (Assign number) = codes "assign" ∷ decimal number ∷ []

abbrev pub netlist_fields : List (List ℕ) → NetlistFault → List (List ℕ)
netlist_fields names (TNetlistFault.Syntax place) = place_text place ∷ []
netlist_fields names (TNetlistFault.Unsupported place word) = place_text place ∷ text_at names word.0 ∷ []
netlist_fields names (TNetlistFault.DuplicateName place name) = place_text place ∷ text_at names name.0 ∷ []
netlist_fields names (TNetlistFault.UnknownModule at) = text_at names at.parent.0 ∷ text_at names at.instance.0 ∷ []
netlist_fields names (TNetlistFault.UnknownPin at pin) = text_at names at.parent.0 ∷ text_at names at.instance.0 ∷ pin_text names pin ∷ []
netlist_fields names (TNetlistFault.Width parent join) = text_at names parent.0 ∷ join_fields names join
netlist_fields names (TNetlistFault.TwoDrivers node) = []
netlist_fields names (TNetlistFault.Recursive target) = text_at names target.0 ∷ []
netlist_fields names (TNetlistFault.Top count) = decimal count ∷ []
netlist_fields names (TNetlistFault.ReservedName name) = text_at names name.0 ∷ []
netlist_fields names (TNetlistFault.AlreadyPowered at pin) = text_at names at.parent.0 ∷ text_at names at.instance.0 ∷ text_at names pin.0 ∷ []
netlist_fields names (TNetlistFault.Limit limit) = decimal (netlist_limit_number limit) ∷ []
netlist_fields names (TNetlistFault.WireLoop node) = []
netlist_fields names (TNetlistFault.UnfitCell at reason) = text_at names at.parent.0 ∷ text_at names at.instance.0 ∷ unfit_word reason ∷ []

abbrev pub intent_fields : List (List ℕ) → IntentFault → List (List ℕ)
intent_fields names (TIntentFault.Syntax place) = place_text place ∷ []
intent_fields names (TIntentFault.Unsupported place word) = place_text place ∷ text_at names word.0 ∷ []
intent_fields names (TIntentFault.UnknownName place name) = place_text place ∷ text_at names name.0 ∷ []
intent_fields names (TIntentFault.Duplicate place name) = place_text place ∷ text_at names name.0 ∷ []
intent_fields names (TIntentFault.ClampRefused place) = place_text place ∷ []
intent_fields names (TIntentFault.Limit limit) = decimal (intent_limit_number limit) ∷ []
intent_fields names (TIntentFault.LoadCycle file) = text_at names file.0 ∷ []
intent_fields names (TIntentFault.LoadLimit limit) = decimal (load_limit_number limit) ∷ []

abbrev pub supply_fields : List (List ℕ) → SupplyFault → List (List ℕ)
supply_fields names (TSupplyFault.NoDomain top) = text_at names top.0 ∷ []
supply_fields names _ = []

abbrev pub event_fields : List (List ℕ) → EventFault → List (List ℕ)
event_fields names (TEventFault.Syntax line) = decimal line ∷ []
event_fields names (TEventFault.UnknownName line name) = decimal line ∷ text_at names name.0 ∷ []
event_fields names (TEventFault.NotInRows event) = decimal event ∷ []
event_fields names (TEventFault.Limit line) = decimal line ∷ []
event_fields names (TEventFault.VcdSyntax line) = decimal line ∷ []
event_fields names (TEventFault.VcdWidth name) = text_at names name.0 ∷ []
event_fields names (TEventFault.VcdSupply line) = decimal line ∷ []
event_fields names (TEventFault.VcdName name) = text_at names name.0 ∷ []

abbrev pub generator_fields : GeneratorFault → List (List ℕ)
generator_fields (TGeneratorFault.OutOfRange number) = decimal number ∷ []

abbrev pub design_fields : List (List ℕ) → DesignFault → List (List ℕ)
design_fields names (TDesignFault.Library fault) = library_fields names fault
design_fields names (TDesignFault.Netlist fault) = netlist_fields names fault
design_fields names (TDesignFault.Intent fault) = intent_fields names fault
design_fields names (TDesignFault.Supply fault) = supply_fields names fault
design_fields names (TDesignFault.Strategy fault) = []

abbrev pub fault_fields : List (List ℕ) → Fault → List (List ℕ)
fault_fields names (TFault.Design fault) = design_fields names fault
fault_fields names (TFault.Event fault) = event_fields names fault
fault_fields names (TFault.Pins fault) = []
fault_fields names (TFault.Generator fault) = generator_fields fault
fault_fields names (TFault.Check fault) = []
fault_fields names (TFault.Powered fault) = netlist_fields names fault
fault_fields names (TFault.Loaded load fault) = intent_fields names fault
fault_fields names (TFault.NotYet number) = decimal number ∷ []

-- whether names and places alone give the fields
abbrev pub is_plain_netlist : NetlistFault → Bool
is_plain_netlist (TNetlistFault.TwoDrivers node) = false
is_plain_netlist (TNetlistFault.WireLoop node) = false
is_plain_netlist _ = true

abbrev pub is_plain_supply : SupplyFault → Bool
is_plain_supply (TSupplyFault.NoDomain top) = true
is_plain_supply _ = false

abbrev pub is_plain_design : DesignFault → Bool
is_plain_design (TDesignFault.Library fault) = true
is_plain_design (TDesignFault.Netlist fault) = is_plain_netlist fault
is_plain_design (TDesignFault.Intent fault) = true
is_plain_design (TDesignFault.Supply fault) = is_plain_supply fault
is_plain_design (TDesignFault.Strategy fault) = false

abbrev pub is_plain : Fault → Bool
is_plain (TFault.Design fault) = is_plain_design fault
is_plain (TFault.Event fault) = true
is_plain (TFault.Pins fault) = false
is_plain (TFault.Generator fault) = true
is_plain (TFault.Check fault) = false
is_plain (TFault.Powered fault) = is_plain_netlist fault
is_plain (TFault.Loaded load fault) = true
is_plain (TFault.NotYet number) = true

abbrev pub design_word : DesignFault → List ℕ
design_word (TDesignFault.Library fault) = library_fault_word fault
design_word (TDesignFault.Netlist fault) = netlist_fault_word fault
design_word (TDesignFault.Intent fault) = intent_fault_word fault
design_word (TDesignFault.Supply fault) = supply_fault_word fault
design_word (TDesignFault.Strategy fault) = strategy_fault_word fault

-- the number and the name of a fault
abbrev pub fault_word : Fault → List ℕ
fault_word (TFault.Design fault) = design_word fault
fault_word (TFault.Event fault) = event_fault_word fault
fault_word (TFault.Pins fault) = pin_fault_word fault
fault_word (TFault.Generator fault) = generator_fault_word fault
fault_word (TFault.Check fault) = check_fault_word fault
fault_word (TFault.Powered fault) = netlist_fault_word fault
fault_word (TFault.Loaded load fault) = intent_fault_word fault
fault_word (TFault.NotYet number) = codes "F99 NotYet"

-- what stands before the word: in which text the fault is, where that is not one of the inputs of an insertion
abbrev pub fault_lead : Fault → List ℕ
fault_lead (TFault.Powered fault) = codes "powered "
fault_lead (TFault.Loaded load fault) = codes "loaded " ++ (decimal load ++ codes " ")
fault_lead _ = []

-- the whole line of a fault, which has its fields where names and places alone give them
abbrev pub fault_line : List (List ℕ) → Fault → List ℕ
fault_line names fault = line_text (fault_lead fault ++ fault_word fault) (fault_fields names fault)

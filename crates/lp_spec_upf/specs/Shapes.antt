-- The commands and options of UPF that are read, as tables (IEEE 1801-2015, clause 6; the subset is an own rule).
use Rattle.std.specs.Prelude.{ℕ, Bool, true, false, List, [], ◌∷◌, codes}
use Rattle.lp_model.specs.declared.upf.CommandWord.{CommandWord}
use Rattle.lp_model.specs.declared.upf.CommandWord.TheVariants as commands
use Rattle.lp_model.specs.declared.upf.OptionWord.{OptionWord}
use Rattle.lp_model.specs.declared.upf.OptionWord.TheVariants as options

-- an element of a list: any name, any text, one of some words, or a voltage
pub data Element : Type 0 where
  Any : Element
  Text : Element
  Among : List (List ℕ) → Element
  Voltage : Element

-- which elements a list has from here on: none, any number of names, one and others, or one and others or none
pub data Form : Type 0 where
  Closed : Form
  Rest : Form
  Needs : Element → Form → Form
  May : Element → Form → Form
  -- the word `off` as the last element, or a voltage and others
  OffOr : Form → Form

-- what stands behind the word of an option: nothing, a name, one of some words, 0 or 1, one voltage, or a list
pub data Value : Type 0 where
  Flag : Value
  Name : Value
  OneOf : List (List ℕ) → Value
  Clamp : Value
  Threshold : Value
  Listed : Form → Value

-- whether a command must have an option
pub data Need : Type 0 where
  Free : Need
  Always : Need
  Unless : OptionWord → Need

pub record OptionRule : Type 0 where
  pub word : OptionWord
  pub value : Value
  pub need : Need
  -- the word may go with `_set` behind it
  pub twin : Bool
  pub repeats : Bool

-- what stands behind the word of a command: options alone, a word or none, a name, or a list of names
pub data NameRule : Type 0 where
  NoName : NameRule
  MayName : NameRule
  OneName : NameRule
  NameList : NameRule

pub record Shape : Type 0 where
  pub name : NameRule
  pub rules : List OptionRule

abbrev pub rule : OptionWord → Value → Need → OptionRule
rule word value need = record { word = word; value = value; need = need; twin = false; repeats = false }

abbrev pub free : OptionWord → Value → OptionRule
free word value = rule word value Free

abbrev pub needed : OptionWord → Value → OptionRule
needed word value = rule word value Always

abbrev pub repeated : OptionWord → Value → Need → OptionRule
repeated word value need = record { word = word; value = value; need = need; twin = false; repeats = true }

-- a supply, by the word of its option with or without `_set`
abbrev pub supply_of : OptionWord → OptionRule
supply_of word = record { word = word; value = Name; need = Free; twin = true; repeats = false }

abbrev pub names : Value
names = Listed Rest

abbrev pub pair_of : Element → Element → Value
pair_of a b = Listed (Needs a (Needs b Closed))

-- the handles of a domain, and the functions of a supply set
abbrev pub handles : List (List ℕ)
handles = codes "primary" ∷ codes "default_isolation" ∷ codes "default_retention" ∷ []

abbrev pub functions : List (List ℕ)
functions = codes "power" ∷ codes "ground" ∷ codes "nwell" ∷ codes "pwell" ∷ codes "deepnwell" ∷ codes "deeppwell" ∷ []

-- the senses of a retention signal
abbrev pub senses : List (List ℕ)
senses = codes "high" ∷ codes "low" ∷ codes "posedge" ∷ codes "negedge" ∷ []

-- a name with `off`, with a voltage, or with a least, a nominal and a greatest voltage
abbrev pub port_state : Value
port_state = Listed (Needs Any (OffOr (May Voltage (Needs Voltage Closed))))

-- the options that the three kinds of strategies share
abbrev pub strategy : List OptionRule → List OptionRule
strategy rules = needed options.Domain Name ∷ free options.Elements names ∷ free options.ExcludeElements names ∷ rules

-- those of strategies on a boundary
abbrev pub crossing : List OptionRule → List OptionRule
crossing rules = strategy (
    free options.Source Name
    ∷ free options.Sink Name
    ∷ free options.AppliesTo (OneOf (codes "inputs" ∷ codes "outputs" ∷ codes "both" ∷ []))
    ∷ free options.Location (OneOf (codes "self" ∷ codes "parent" ∷ codes "automatic" ∷ []))
    ∷ rules)

abbrev pub named : List OptionRule → Shape
named rules = record { name = OneName; rules = rules }

abbrev pub domain_rules : List OptionRule
domain_rules =
    free options.Elements names
    ∷ free options.IncludeScope Flag
    ∷ repeated options.Supply (pair_of (Among handles) Any) Free
    ∷ []

abbrev pub switch_rules : List OptionRule
switch_rules =
    free options.Domain Name
    ∷ needed options.InputSupplyPort (pair_of Any Any)
    ∷ needed options.OutputSupplyPort (pair_of Any Any)
    ∷ needed options.ControlPort (pair_of Any Any)
    ∷ needed options.OnState (Listed (Needs Any (Needs Any (Needs Text Closed))))
    ∷ free options.OffState (pair_of Any Text)
    ∷ []

abbrev pub isolation_rules : List OptionRule
isolation_rules = crossing (
    free options.DiffSupplyOnly (OneOf (codes "TRUE" ∷ codes "FALSE" ∷ []))
    ∷ free options.NoIsolation Flag
    ∷ free options.ClampValue Clamp
    ∷ rule options.IsolationSignal Name (Unless options.NoIsolation)
    ∷ free options.IsolationSense (OneOf (codes "high" ∷ codes "low" ∷ []))
    ∷ supply_of options.IsolationSupply
    ∷ [])

abbrev pub shifter_rules : List OptionRule
shifter_rules = crossing (
    free options.Rule (OneOf (codes "low_to_high" ∷ codes "high_to_low" ∷ codes "both" ∷ []))
    ∷ free options.Threshold Threshold
    ∷ free options.NoShift Flag
    ∷ supply_of options.InputSupply
    ∷ supply_of options.OutputSupply
    ∷ [])

abbrev pub retention_rules : List OptionRule
retention_rules = strategy (
    rule options.SaveSignal (pair_of Any (Among senses)) (Unless options.NoRetention)
    ∷ rule options.RestoreSignal (pair_of Any (Among senses)) (Unless options.NoRetention)
    ∷ supply_of options.RetentionSupply
    ∷ free options.NoRetention Flag
    ∷ [])

abbrev pub attribute_rules : List OptionRule
attribute_rules =
    needed options.Ports names
    ∷ free options.DriverSupply Name
    ∷ free options.ReceiverSupply Name
    ∷ []

abbrev pub shape_of : CommandWord → Shape
shape_of commands.UpfVersion = record { name = MayName; rules = [] }
shape_of commands.SetDesignTop = named []
shape_of commands.SetScope = named []
shape_of commands.CreatePowerDomain = named domain_rules
shape_of commands.CreateSupplyPort = named (free options.Domain Name ∷ free options.Direction (OneOf (codes "in" ∷ codes "out" ∷ [])) ∷ [])
shape_of commands.CreateSupplyNet = named (free options.Domain Name ∷ free options.Reuse Flag ∷ [])
shape_of commands.ConnectSupplyNet = named (needed options.Ports names ∷ [])
shape_of commands.CreateSupplySet = named (repeated options.Function (pair_of (Among functions) Any) Free ∷ [])
shape_of commands.AssociateSupplySet = named (needed options.Handle Name ∷ [])
shape_of commands.SetDomainSupplyNet = named (needed options.PrimaryPowerNet Name ∷ needed options.PrimaryGroundNet Name ∷ [])
shape_of commands.AddPortState = named (repeated options.State port_state Always ∷ [])
shape_of commands.CreatePst = named (needed options.Supplies names ∷ [])
shape_of commands.AddPstState = named (needed options.Pst Name ∷ needed options.State names ∷ [])
shape_of commands.SetPortAttributes = record { name = NoName; rules = attribute_rules }
shape_of commands.CreatePowerSwitch = named switch_rules
shape_of commands.SetIsolation = named isolation_rules
shape_of commands.SetLevelShifter = named shifter_rules
shape_of commands.SetRetention = named retention_rules
shape_of commands.UseInterfaceCell = named (needed options.Strategy names ∷ needed options.Domain Name ∷ needed options.LibCells names ∷ [])
shape_of commands.MapRetentionCell = record { name = NameList; rules = needed options.Domain Name ∷ needed options.LibCells names ∷ [] }
shape_of commands.MapPowerSwitch = record { name = NameList; rules = free options.Domain Name ∷ needed options.LibCells names ∷ [] }

-- all of them, in the order of the declaration
abbrev pub all_commands : List CommandWord
all_commands =
    commands.UpfVersion ∷ commands.SetDesignTop ∷ commands.SetScope ∷ commands.CreatePowerDomain
    ∷ commands.CreateSupplyPort ∷ commands.CreateSupplyNet ∷ commands.ConnectSupplyNet
    ∷ commands.CreateSupplySet ∷ commands.AssociateSupplySet ∷ commands.SetDomainSupplyNet
    ∷ commands.AddPortState ∷ commands.CreatePst ∷ commands.AddPstState ∷ commands.SetPortAttributes
    ∷ commands.CreatePowerSwitch ∷ commands.SetIsolation ∷ commands.SetLevelShifter ∷ commands.SetRetention
    ∷ commands.UseInterfaceCell ∷ commands.MapRetentionCell ∷ commands.MapPowerSwitch ∷ []

-- What each command of power intent makes (IEEE 1801-2015, the commands that are read; the defaults are an own rule).
use Rattle.std.specs.Prelude.{ℕ, ◌+◌, length, Bool, true, not, ◌||◌, List, [], ◌∷◌, ◌++◌, codes, Option, Some, None, option_and_then, if◌then◌else◌, bytes_eq, map, filter, flat_map, unwrap_or}
use Rattle.std.specs.List.{list_any}
use Rattle.std.specs.Option.{option_map}
use Rattle.lp_text.specs.Micros.{micros_of}
use Rattle.lp_model.specs.CommandsView.{WordView, OptionView, CommandView}
use Rattle.lp_model.specs.declared.library.Action.{Action}
use Rattle.lp_model.specs.declared.library.Action.TheVariants as actions
use Rattle.lp_model.specs.declared.side.Location.{Location}
use Rattle.lp_model.specs.declared.side.Location.TheVariants as locations
use Rattle.lp_model.specs.declared.intent.Applies.{Applies}
use Rattle.lp_model.specs.declared.intent.Applies.TheVariants as applies
use Rattle.lp_model.specs.declared.intent.Rule.{Rule}
use Rattle.lp_model.specs.declared.intent.Rule.TheVariants as rules
use Rattle.lp_model.specs.declared.intent.StrategyKind.{StrategyKind}
use Rattle.lp_model.specs.declared.intent.StrategyKind.TheVariants.{Isolation, Shifting, Retention}
use Rattle.lp_model.specs.declared.intent.DeclaredState.{DeclaredState}
use Rattle.lp_model.specs.declared.intent.DeclaredState.TheVariants as declared
use Rattle.lp_model.specs.declared.upf.CommandWord.{CommandWord}
use Rattle.lp_model.specs.declared.upf.CommandWord.TheVariants as commands
use Rattle.lp_model.specs.declared.upf.OptionWord.{OptionWord}
use Rattle.lp_model.specs.declared.upf.OptionWord.TheVariants as options
use Rattle.lp_spec_upf.specs.Commands.{option_in}
use Rattle.lp_spec_design.specs.Keys.{Name, Path, Node}
use Rattle.lp_spec_design.specs.Netlists.{Structure}
use Rattle.lp_spec_design.specs.Graph.{pairs, some_of}
use Rattle.lp_spec_design.specs.Intents.{SetNumber, Element, Strategy, PortSupply}
use Rattle.lp_spec_origins.specs.Commands.{Scoped, Supply}
use Rattle.lp_spec_origins.specs.Sets.{SupplySet}
use Rattle.lp_spec_intent.specs.Made.{Handle, Primary, handle_text, all_handles, Own, PrimaryOf, Stated}
use Rattle.lp_spec_intent.specs.Made.{Fact, IsDomain, IsHandle, IsSet, IsPort, IsNet, AreConnected, IsSwitch, IsState}
use Rattle.lp_spec_intent.specs.Made.{IsTable, IsRow, IsStrategy, IsDriver, IsReceiver, IsInterface, AreCells}
use Rattle.lp_spec_intent.specs.Made.{Made, domains, set_count, first_of}
use Rattle.lp_spec_intent.specs.Lookups.{words, all_values, has, word_at, listed_words, own_words, own, instance, element, control}
use Rattle.lp_spec_intent.specs.Lookups.{domain, HandleOf, handle, set, set_or_domain, port, net, supply, switch, stated, row_state, columns, crosses, retains, strategy}
use Rattle.lp_spec_intent.specs.Lookups.{port_name}
use Rattle.lp_spec_intent.specs.Faults.{named_instances, adds_scope}

-- ---- the values of options

-- the first thing that some words name
abbrev pub one : {A : Type 0} → (WordView → Option A) → List WordView → Option A
one find ws = first_of (some_of find ws)

abbrev pub text_of : List WordView → Name
text_of [] = []
text_of (w ∷ ws) = w.text

abbrev pub is_word : CommandView → OptionWord → Name → Bool
is_word c o text = list_any (λ (w : WordView). bytes_eq w.text text) (words c o)

abbrev pub applies_of : CommandView → Applies
applies_of c =
    if is_word c options.AppliesTo (codes "inputs") then applies.Inputs
    else if is_word c options.AppliesTo (codes "outputs") then applies.Outputs
    else applies.Both

abbrev pub rule_of : CommandView → Rule
rule_of c =
    if is_word c options.Rule (codes "low_to_high") then rules.LowToHigh
    else if is_word c options.Rule (codes "high_to_low") then rules.HighToLow
    else rules.Both

abbrev pub location_of : CommandView → Location
location_of c = if is_word c options.Location (codes "parent") then locations.Parent else locations.Own

abbrev pub volts : WordView → Option ℕ
volts w = micros_of w.text

abbrev pub threshold_of : CommandView → ℕ
threshold_of c = unwrap_or (one volts (words c options.Threshold)) 0

abbrev pub inserts : CommandView → Bool
inserts c = not (has c options.NoIsolation || (has c options.NoShift || has c options.NoRetention))

abbrev pub action_of : WordView → Action
action_of w =
    if bytes_eq w.text (codes "high") then actions.High
    else if bytes_eq w.text (codes "low") then actions.Low
    else if bytes_eq w.text (codes "posedge") then actions.Rise
    else actions.Fall

abbrev pub at_voltage : Option ℕ → DeclaredState
at_voltage None = declared.Off
at_voltage (Some v) = declared.On v

-- a state by its words behind its name: off, a voltage, or the second of three
abbrev pub state_of : List WordView → DeclaredState
state_of [] = declared.Off
state_of (w ∷ []) = at_voltage (volts w)
state_of (least ∷ nominal ∷ more) = at_voltage (volts nominal)

abbrev pub handles_said : Name → List Handle
handles_said text = filter (λ h. bytes_eq (handle_text h) text) all_handles

module _ (s : Structure) (m : Made) (c : CommandView) where
  -- ---- scopes and domains

  abbrev pub elements_made : List Path
  elements_made = named_instances s m c ++ (if adds_scope s m c then m.scope ∷ [] else [])

  -- the handle of the new domain that a value of -supply gives
  abbrev pub handle_by : List WordView → List Fact
  handle_by ws = flat_map (λ h. map (λ k. IsHandle (length (domains m)) h k) (some_of (set s m) (word_at ws 1))) (handles_said (text_of ws))

  abbrev pub domain_facts : List Fact
  domain_facts =
      map (λ w. IsDomain (own m w) elements_made) (own_words c)
      ++ flat_map handle_by (all_values c options.Supply)

  -- ---- supplies

  abbrev pub port_facts : List Fact
  port_facts = map (λ w. IsPort (own m w) (not (is_word c options.Direction (codes "out")))) (own_words c)

  -- with -reuse nothing is made
  abbrev pub net_facts : List Fact
  net_facts = if has c options.Reuse then [] else map (λ w. IsNet (own m w)) (own_words c)

  abbrev pub connection_facts : List Fact
  connection_facts = map (λ n. AreConnected n (some_of (port s m) (words c options.Ports))) (some_of (net s m) (own_words c))

  -- the net of a function, by the value of -function that gives it
  abbrev pub function_net : Name → Option Scoped
  function_net name = one (net s m) (flat_map (λ ws. word_at ws 1) (filter (λ ws. bytes_eq (text_of ws) name) (all_values c options.Function)))

  abbrev pub functions_made : SupplySet
  functions_made = record {
    power = function_net (codes "power");
    gnd = function_net (codes "ground");
    nwell = function_net (codes "nwell");
    pwell = function_net (codes "pwell");
    deepnwell = function_net (codes "deepnwell");
    deeppwell = function_net (codes "deeppwell");
  }

  abbrev pub set_facts : List Fact
  set_facts = map (λ w. IsSet (set_count m) (Own (own m w)) functions_made) (own_words c)

  abbrev pub association_facts : List Fact
  association_facts =
      flat_map (λ k. map (λ (h : HandleOf). IsHandle h.domain h.handle k) (some_of (handle s m) (words c options.Handle)))
      (some_of (set s m) (own_words c))

  abbrev pub primary_functions : SupplySet
  primary_functions = record {
    power = one (net s m) (words c options.PrimaryPowerNet);
    gnd = one (net s m) (words c options.PrimaryGroundNet);
    nwell = None;
    pwell = None;
    deepnwell = None;
    deeppwell = None;
  }

  abbrev pub primary_facts : List Fact
  primary_facts =
      flat_map (λ d. IsSet (set_count m) (PrimaryOf d) primary_functions ∷ IsHandle d Primary (set_count m) ∷ [])
      (some_of (domain s m) (own_words c))

  -- ---- states

  abbrev pub state_by : Stated → List WordView → List Fact
  state_by x [] = []
  state_by x (name ∷ ws) = IsState x name.text (state_of ws) ∷ []

  abbrev pub state_facts : List Fact
  state_facts = flat_map (λ x. flat_map (state_by x) (all_values c options.State)) (some_of (stated s m) (own_words c))

  abbrev pub table_facts : List Fact
  table_facts = map (λ w. IsTable (own m w) (some_of (supply s m) (words c options.Supplies))) (own_words c)

  abbrev pub row_of : List Supply → WordView → Fact
  row_of listed w = IsRow w.text (some_of (λ x. row_state s m x.0 x.1) (pairs listed (words c options.State)))

  abbrev pub row_facts : List Fact
  row_facts = flat_map (λ listed. map (row_of listed) (own_words c)) (some_of (columns s m) (words c options.Pst))

  -- ---- top ports

  abbrev pub supply_at : OptionWord → List PortSupply
  supply_at o =
      flat_map (λ k. map (λ n. record { port = n; supply = k }) (some_of (port_name s m) (words c options.Ports)))
      (some_of (set s m) (words c o))

  abbrev pub attribute_facts : List Fact
  attribute_facts =
      map (λ a. IsDriver a) (supply_at options.DriverSupply)
      ++ map (λ a. IsReceiver a) (supply_at options.ReceiverSupply)

  -- ---- switches

  abbrev pub high_said : Option OptionView → Bool
  high_said None = true
  high_said (Some o) = unwrap_or o.high true

  -- the name, the nets of the input and the output, and the control
  abbrev pub switch_by : WordView → Scoped → Scoped → Node → Fact
  switch_by w input output k =
      IsSwitch
      (record { name = own m w; input = input; output = output; control = k; high = high_said (option_in c.options options.OnState) })
      (text_of (words c options.OutputSupplyPort))

  abbrev pub nets_at : OptionWord → List Scoped
  nets_at o = some_of (net s m) (word_at (words c o) 1)

  abbrev pub switch_facts : List Fact
  switch_facts =
      flat_map (λ w. flat_map (λ i. flat_map (λ o. map (switch_by w i o)
      (some_of (control s m) (word_at (words c options.ControlPort) 1)))
      (nets_at options.OutputSupplyPort))
      (nets_at options.InputSupplyPort))
      (own_words c)

  -- ---- strategies

  abbrev pub elements_named : OptionWord → List Element
  elements_named o = some_of (element s m) (words c o)

  abbrev pub set_by : OptionWord → Option SetNumber
  set_by o = one (set s m) (words c o)

  abbrev pub control_by : OptionWord → Option Node
  control_by o = one (control s m) (word_at (words c o) 0)

  abbrev pub signal_by : OptionWord → Option (Node × Action)
  signal_by o = option_and_then (λ k. option_map (λ w. (k, action_of w)) (first_of (word_at (words c o) 1))) (control_by o)

  abbrev pub or_else : Option SetNumber → Option SetNumber → Option SetNumber
  or_else None other = other
  or_else (Some k) other = Some k

  -- of any kind: an option of another kind is not given, and has its default
  abbrev pub strategy_of : StrategyKind → ℕ → Strategy
  strategy_of kind d = record {
    kind = kind;
    domain = d;
    command = m.count;
    inserts = inserts c;
    elements = if has c options.Elements then Some (elements_named options.Elements) else None;
    excluded = elements_named options.ExcludeElements;
    applies = applies_of c;
    source = one (set_or_domain s m) (words c options.Source);
    sink = one (set_or_domain s m) (words c options.Sink);
    diff = is_word c options.DiffSupplyOnly (codes "TRUE");
    location = location_of c;
    clamp = is_word c options.ClampValue (codes "1");
    high = not (is_word c options.IsolationSense (codes "low"));
    rule = rule_of c;
    threshold = threshold_of c;
    supply = or_else (set_by options.IsolationSupply) (set_by options.RetentionSupply);
    input = set_by options.InputSupply;
    output = set_by options.OutputSupply;
    control = control_by options.IsolationSignal;
    save = signal_by options.SaveSignal;
    restore = signal_by options.RestoreSignal;
  }

  abbrev pub domains_said : List ℕ
  domains_said = some_of (domain s m) (words c options.Domain)

  abbrev pub strategy_facts : StrategyKind → List Fact
  strategy_facts kind = flat_map (λ w. map (λ d. IsStrategy w.text (strategy_of kind d)) domains_said) (own_words c)

  -- ---- lists of cells

  abbrev pub cells_named : List Name
  cells_named = map (λ (w : WordView). w.text) (words c options.LibCells)

  abbrev pub strategies_named : (StrategyKind → Bool) → List WordView → List ℕ
  strategies_named kind ws = flat_map (λ d. some_of (strategy s m kind d) ws) domains_said

  abbrev pub interface_facts : List Fact
  interface_facts =
      map (λ w. IsInterface (own m w)) (own_words c)
      ++ (AreCells (strategies_named crosses (words c options.Strategy)) [] cells_named ∷ [])

  abbrev pub retention_cell_facts : List Fact
  retention_cell_facts = AreCells (strategies_named retains (listed_words c)) [] cells_named ∷ []

  abbrev pub switch_cell_facts : List Fact
  switch_cell_facts = AreCells [] (some_of (switch s m) (listed_words c)) cells_named ∷ []

  -- ---- commands

  abbrev pub facts_by : CommandWord → List Fact
  facts_by commands.CreatePowerDomain = domain_facts
  facts_by commands.CreateSupplyPort = port_facts
  facts_by commands.CreateSupplyNet = net_facts
  facts_by commands.ConnectSupplyNet = connection_facts
  facts_by commands.CreateSupplySet = set_facts
  facts_by commands.AssociateSupplySet = association_facts
  facts_by commands.SetDomainSupplyNet = primary_facts
  facts_by commands.AddPortState = state_facts
  facts_by commands.CreatePst = table_facts
  facts_by commands.AddPstState = row_facts
  facts_by commands.SetPortAttributes = attribute_facts
  facts_by commands.CreatePowerSwitch = switch_facts
  facts_by commands.SetIsolation = strategy_facts Isolation
  facts_by commands.SetLevelShifter = strategy_facts Shifting
  facts_by commands.SetRetention = strategy_facts Retention
  facts_by commands.UseInterfaceCell = interface_facts
  facts_by commands.MapRetentionCell = retention_cell_facts
  facts_by commands.MapPowerSwitch = switch_cell_facts
  -- these make nothing
  facts_by commands.UpfVersion = []
  facts_by commands.SetDesignTop = []
  facts_by commands.SetScope = []

  abbrev pub facts_made : List Fact
  facts_made = facts_by c.word

  -- set_scope alone changes the scope
  abbrev pub scope_by : CommandWord → Path
  scope_by commands.SetScope = unwrap_or (one (instance s m) (own_words c)) m.scope
  scope_by word = m.scope

  abbrev pub after : Made
  after = record {
    scope = scope_by c.word;
    count = m.count + 1;
    known = m.known ++ map (λ f. record { command = m.count; fact = f }) facts_made;
  }

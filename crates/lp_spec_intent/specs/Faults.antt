-- The names in a command that name nothing of their kind, and those that it makes a second time (own rule, after IEEE 1801-2015).
use Rattle.std.specs.Prelude.{ℕ, ◌==◌, Bool, false, not, ◌&&◌, ◌||◌, List, [], ◌∷◌, ◌++◌, codes, Option, Some, None, is_some, if◌then◌else◌, bytes_eq, map, flat_map}
use Rattle.std.specs.List.{list_any}
use Rattle.lp_text.specs.declared.place.Place.{Place}
use Rattle.lp_model.specs.NetlistView.{PortView, ModuleView}
use Rattle.lp_model.specs.CommandsView.{WordView, CommandView}
use Rattle.lp_model.specs.declared.upf.CommandWord.{CommandWord}
use Rattle.lp_model.specs.declared.upf.CommandWord.TheVariants as commands
use Rattle.lp_model.specs.declared.upf.OptionWord.TheVariants as options
use Rattle.lp_spec_upf.specs.Commands.{is_before}
use Rattle.lp_spec_design.specs.Keys.{Name, Path, same_path}
use Rattle.lp_spec_design.specs.Netlists.{Structure, top_of, is_input}
use Rattle.lp_spec_design.specs.Graph.{pairs, some_of}
use Rattle.lp_spec_design.specs.Intents.{PortSupply}
use Rattle.lp_spec_origins.specs.Commands.{Scoped, same_scoped, Supply}
use Rattle.lp_spec_intent.specs.Made.{Made, Primary, DomainFact, domains, handle_of, SetFact, sets, ports, nets, SwitchFact, switches}
use Rattle.lp_spec_intent.specs.Made.{table, row_names, strategies, drivers, receivers, interfaces, CellsFact, cell_lists}
use Rattle.lp_spec_intent.specs.Lookups.{words, all_values, has, word_at, listed_words, own_words, own, instance, element, control, top_port}
use Rattle.lp_spec_intent.specs.Lookups.{domain, HandleOf, handle, is_own_name, set, set_or_domain, port, net, supply, switch}
use Rattle.lp_spec_intent.specs.Lookups.{stated, state_names, row_state, columns, is_named_in, crosses, retains, strategy}

-- a name of no thing of the kind, or a name or an assignment that is made twice
pub data NameFault : Type 0 where
  Unknown : Place → Name → NameFault
  Twice : Place → Name → NameFault

abbrev pub place_of : NameFault → Place
place_of (Unknown p name) = p
place_of (Twice p name) = p

abbrev pub earlier : NameFault → Option NameFault → NameFault
earlier f None = f
earlier f (Some g) = if is_before (place_of g) (place_of f) then g else f

-- the fault of the earliest place
abbrev pub earliest : List NameFault → Option NameFault
earliest [] = None
earliest (f ∷ faults) = Some (earlier f (earliest faults))

-- ---- words that name things, and words that make them

-- each word names a thing
abbrev pub unknown : {A : Type 0} → (WordView → Option A) → List WordView → List NameFault
unknown find [] = []
unknown find (w ∷ ws) = if is_some (find w) then unknown find ws else Unknown w.place w.text ∷ unknown find ws

abbrev pub twice : Bool → WordView → List NameFault
twice made w = if made then Twice w.place w.text ∷ [] else []

abbrev pub twice_if : (WordView → Bool) → List WordView → List NameFault
twice_if is_made ws = flat_map (λ w. twice (is_made w) w) ws

abbrev pub is_known : {A : Type 0} → (A → A → Bool) → List A → A → Bool
is_known same seen x = list_any (same x) seen

-- a thing that a word names, and what follows where it is known
abbrev pub met : {A : Type 0} → (A → A → Bool) → List A → WordView → Option A → (List A → List NameFault) → List NameFault
met same seen w None further = Unknown w.place w.text ∷ further seen
met same seen w (Some x) further = twice (is_known same seen x) w ++ further (x ∷ seen)

-- each word names a thing that was not named before, in this list or earlier
abbrev pub each_once : {A : Type 0} → (A → A → Bool) → (WordView → Option A) → List A → List WordView → List NameFault
each_once same find seen [] = []
each_once same find seen (w ∷ ws) = met same seen w (find w) (λ now. each_once same find now ws)

-- each word is another text
abbrev pub as_text : WordView → Option Name
as_text w = Some w.text

abbrev pub texts_once : List Name → List WordView → List NameFault
texts_once seen ws = each_once bytes_eq as_text seen ws

abbrev pub same_number : ℕ → ℕ → Bool
same_number a b = a == b

-- the word at this place in each value
abbrev pub each_at : List (List WordView) → ℕ → List WordView
each_at values n = flat_map (λ ws. word_at ws n) values

abbrev pub first_word_is : List WordView → Name → Bool
first_word_is ws text = list_any (λ w. bytes_eq w.text text) (word_at ws 0)

module _ (s : Structure) (m : Made) (c : CommandView) where
  -- the name of a command is new in the scope
  abbrev pub new_name : List Scoped → List NameFault
  new_name made = twice_if (λ w. list_any (same_scoped (own m w)) made) (own_words c)

  -- ---- scopes and domains

  abbrev pub as_top : WordView → Option Name
  as_top w = by (top_of s)
    where
      by : Option ModuleView → Option Name
      by None = None
      by (Some t) = if bytes_eq t.name w.text then Some t.name else None

  abbrev pub listed_instances : List Path
  listed_instances = flat_map (λ (d : DomainFact). d.elements) (domains m)

  abbrev pub named_instances : List Path
  named_instances = some_of (instance s m) (words c options.Elements)

  -- the command itself adds the scope, without a word that names it
  abbrev pub adds_scope : Bool
  adds_scope = has c options.IncludeScope || not (has c options.Elements)

  abbrev pub scope_twice : List NameFault
  scope_twice = if adds_scope && list_any (same_path m.scope) (named_instances ++ listed_instances) then Twice c.place (codes ".") ∷ [] else []

  abbrev pub domain_faults : List NameFault
  domain_faults =
      scope_twice
      ++ new_name (map (λ (d : DomainFact). d.name) (domains m))
      ++ each_once same_path (instance s m) listed_instances (words c options.Elements)
      ++ texts_once [] (each_at (all_values c options.Supply) 0)
      ++ unknown (set s m) (each_at (all_values c options.Supply) 1)

  -- ---- supplies

  abbrev pub port_faults : List NameFault
  port_faults = new_name (ports m) ++ unknown (domain s m) (words c options.Domain)

  -- with -reuse the net is there
  abbrev pub own_net : WordView → Option Scoped
  own_net w = if list_any (same_scoped (own m w)) (nets m) then Some (own m w) else None

  abbrev pub net_faults : List NameFault
  net_faults =
      (if has c options.Reuse then unknown own_net (own_words c) else new_name (nets m))
      ++ unknown (domain s m) (words c options.Domain)

  abbrev pub connection_faults : List NameFault
  connection_faults = unknown (net s m) (own_words c) ++ unknown (port s m) (words c options.Ports)

  abbrev pub set_faults : List NameFault
  set_faults =
      twice_if (λ w. list_any (λ (x : SetFact). is_own_name (own m w) x.name) (sets m)) (own_words c)
      ++ texts_once [] (each_at (all_values c options.Function) 0)
      ++ unknown (net s m) (each_at (all_values c options.Function) 1)

  abbrev pub is_set_handle : WordView → Bool
  is_set_handle w = by (handle s m w)
    where
      by : Option HandleOf → Bool
      by None = false
      by (Some x) = is_some (handle_of m x.domain x.handle)

  abbrev pub association_faults : List NameFault
  association_faults =
      unknown (set s m) (own_words c)
      ++ unknown (handle s m) (words c options.Handle)
      ++ twice_if is_set_handle (words c options.Handle)

  abbrev pub has_primary : WordView → Bool
  has_primary w = by (domain s m w)
    where
      by : Option ℕ → Bool
      by None = false
      by (Some d) = is_some (handle_of m d Primary)

  abbrev pub primary_faults : List NameFault
  primary_faults =
      unknown (domain s m) (own_words c)
      ++ twice_if has_primary (own_words c)
      ++ unknown (net s m) (words c options.PrimaryPowerNet ++ words c options.PrimaryGroundNet)

  -- ---- states

  abbrev pub names_so_far : List Name
  names_so_far = flat_map (λ x. state_names s m x) (some_of (stated s m) (own_words c))

  abbrev pub state_faults : List NameFault
  state_faults =
      unknown (stated s m) (own_words c)
      ++ texts_once names_so_far (each_at (all_values c options.State) 0)

  abbrev pub table_faults : List NameFault
  table_faults = twice_if (λ w. is_some (table m)) (own_words c) ++ unknown (supply s m) (words c options.Supplies)

  -- a word of a row with its column
  abbrev pub row_word : Supply × WordView → List NameFault
  row_word x = unknown (row_state s m x.0) (x.1 ∷ [])

  -- the states are judged where -pst names the table
  abbrev pub row_faults : List NameFault
  row_faults =
      twice_if (λ w. list_any (bytes_eq w.text) (row_names m)) (own_words c)
      ++ unknown (columns s m) (words c options.Pst)
      ++ flat_map (λ listed. flat_map row_word (pairs listed (words c options.State))) (some_of (columns s m) (words c options.Pst))

  -- ---- top ports

  -- with a driver an input, with a receiver an output
  abbrev pub is_fit : PortView → Bool
  is_fit p = (not (has c options.DriverSupply) || is_input p) && (not (has c options.ReceiverSupply) || not (is_input p))

  abbrev pub fit_port : WordView → Option Name
  fit_port w = by (top_port s m w)
    where
      by : Option PortView → Option Name
      by None = None
      by (Some p) = if is_fit p then Some p.name else None

  abbrev pub names_of : List PortSupply → List Name
  names_of given = map (λ (a : PortSupply). a.port) given

  -- each port has one driver or receiver supply
  abbrev pub attribute_faults : List NameFault
  attribute_faults =
      (if has c options.DriverSupply then each_once bytes_eq fit_port (names_of (drivers m)) (words c options.Ports)
      else if has c options.ReceiverSupply then each_once bytes_eq fit_port (names_of (receivers m)) (words c options.Ports)
      else unknown fit_port (words c options.Ports))
      ++ unknown (set s m) (words c options.DriverSupply ++ words c options.ReceiverSupply)

  -- ---- switches

  abbrev pub port_words : List WordView
  port_words = word_at (words c options.InputSupplyPort) 0 ++ word_at (words c options.OutputSupplyPort) 0 ++ word_at (words c options.ControlPort) 0

  -- the on state names the port of the input
  abbrev pub input_port : WordView → Option Name
  input_port w = if first_word_is (words c options.InputSupplyPort) w.text then Some w.text else None

  abbrev pub switch_faults : List NameFault
  switch_faults =
      new_name (map (λ (x : SwitchFact). x.switch.name) (switches m))
      ++ unknown (domain s m) (words c options.Domain)
      ++ texts_once [] port_words
      ++ texts_once [] (word_at (words c options.OnState) 0 ++ word_at (words c options.OffState) 0)
      ++ unknown (net s m) (word_at (words c options.InputSupplyPort) 1 ++ word_at (words c options.OutputSupplyPort) 1)
      ++ unknown (control s m) (word_at (words c options.ControlPort) 1)
      ++ unknown input_port (word_at (words c options.OnState) 1)

  -- ---- strategies

  abbrev pub named_domains : List ℕ
  named_domains = some_of (domain s m) (words c options.Domain)

  abbrev pub is_strategy : WordView → Bool
  is_strategy w = list_any (λ d. list_any (is_named_in d w.text) (strategies m)) named_domains

  abbrev pub supplies_named : List WordView
  supplies_named =
      words c options.IsolationSupply ++ words c options.RetentionSupply
      ++ words c options.InputSupply ++ words c options.OutputSupply

  abbrev pub controls_named : List WordView
  controls_named =
      words c options.IsolationSignal
      ++ word_at (words c options.SaveSignal) 0 ++ word_at (words c options.RestoreSignal) 0

  -- of all three kinds: the options of the others are not there
  abbrev pub strategy_faults : List NameFault
  strategy_faults =
      twice_if is_strategy (own_words c)
      ++ unknown (domain s m) (words c options.Domain)
      ++ unknown (element s m) (words c options.Elements ++ words c options.ExcludeElements)
      ++ unknown (set_or_domain s m) (words c options.Source ++ words c options.Sink)
      ++ unknown (control s m) controls_named
      ++ unknown (set s m) supplies_named

  -- ---- lists of cells

  abbrev pub mapped_strategies : List ℕ
  mapped_strategies = flat_map (λ (x : CellsFact). x.strategies) (cell_lists m)

  abbrev pub mapped_switches : List ℕ
  mapped_switches = flat_map (λ (x : CellsFact). x.switches) (cell_lists m)

  -- the strategies are judged where -domain names a domain
  abbrev pub interface_faults : List NameFault
  interface_faults =
      new_name (interfaces m)
      ++ unknown (domain s m) (words c options.Domain)
      ++ flat_map (λ d. each_once same_number (strategy s m crosses d) mapped_strategies (words c options.Strategy)) named_domains

  abbrev pub retention_cell_faults : List NameFault
  retention_cell_faults =
      unknown (domain s m) (words c options.Domain)
      ++ flat_map (λ d. each_once same_number (strategy s m retains d) mapped_strategies (listed_words c)) named_domains

  abbrev pub switch_cell_faults : List NameFault
  switch_cell_faults =
      unknown (domain s m) (words c options.Domain)
      ++ each_once same_number (switch s m) mapped_switches (listed_words c)

  -- ---- commands

  abbrev pub faults_by : CommandWord → List NameFault
  faults_by commands.UpfVersion = []
  faults_by commands.SetDesignTop = unknown as_top (own_words c)
  faults_by commands.SetScope = unknown (instance s m) (own_words c)
  faults_by commands.CreatePowerDomain = domain_faults
  faults_by commands.CreateSupplyPort = port_faults
  faults_by commands.CreateSupplyNet = net_faults
  faults_by commands.ConnectSupplyNet = connection_faults
  faults_by commands.CreateSupplySet = set_faults
  faults_by commands.AssociateSupplySet = association_faults
  faults_by commands.SetDomainSupplyNet = primary_faults
  faults_by commands.AddPortState = state_faults
  faults_by commands.CreatePst = table_faults
  faults_by commands.AddPstState = row_faults
  faults_by commands.SetPortAttributes = attribute_faults
  faults_by commands.CreatePowerSwitch = switch_faults
  faults_by commands.SetIsolation = strategy_faults
  faults_by commands.SetLevelShifter = strategy_faults
  faults_by commands.SetRetention = strategy_faults
  faults_by commands.UseInterfaceCell = interface_faults
  faults_by commands.MapRetentionCell = retention_cell_faults
  faults_by commands.MapPowerSwitch = switch_cell_faults

  abbrev pub faults_at : List NameFault
  faults_at = faults_by c.word

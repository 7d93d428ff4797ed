-- What the words of commands name among what has been made (IEEE 1801-2015, names of power intent).
use Rattle.std.specs.Prelude.{ℕ, ◌==◌, Bool, true, false, ◌&&◌, List, [], ◌∷◌, ◌++◌, codes, Option, Some, None, option_and_then, is_some, if◌then◌else◌, bytes_eq, filter, map, flat_map}
use Rattle.std.specs.List.{list_any}
use Rattle.std.specs.Option.{option_map}
use Rattle.lp_model.specs.CommandsView.{WordView, OptionView, CommandView}
use Rattle.lp_model.specs.NetlistView.{PortView}
use Rattle.lp_model.specs.declared.upf.OptionWord.{OptionWord}
use Rattle.lp_model.specs.declared.intent.StrategyKind.{StrategyKind}
use Rattle.lp_model.specs.declared.intent.StrategyKind.TheVariants.{Isolation, Shifting, Retention}
use Rattle.lp_model.specs.declared.intent.DeclaredState.{DeclaredState}
use Rattle.lp_model.specs.declared.intent.DeclaredState.TheVariants as declared
use Rattle.lp_model.specs.declared.intent.RowState.{RowState}
use Rattle.lp_model.specs.declared.intent.RowState.TheVariants as listed
use Rattle.lp_upf_words.specs.Elements.{words_of, elements_of}
use Rattle.lp_spec_upf.specs.Commands.{option_in, same_option}
use Rattle.lp_spec_design.specs.Keys.{Name, Path, Node}
use Rattle.lp_spec_design.specs.Netlists.{Structure, first}
use Rattle.lp_spec_design.specs.Graph.{numbered, when}
use Rattle.lp_spec_design.specs.Intents.{SetNumber, Element, Named, BySet, ByDomain}
use Rattle.lp_spec_design.specs.Domains.{first_number}
use Rattle.lp_spec_origins.specs.Commands.{Scoped, same_scoped, Supply, PortAt, NetAt}
use Rattle.lp_spec_origins.specs.Origins.{Source, OfPort, OfSwitch, sources, origins_of}
use Rattle.lp_spec_intent.specs.Names.{at, or_that, whole_name, instance_of, element_of, control_of, top_port_of}
use Rattle.lp_spec_intent.specs.Made.{Handle, handle_text, all_handles, SetName, Own, PrimaryOf, Stated, PortStates, SwitchStates}
use Rattle.lp_spec_intent.specs.Made.{Made, DomainFact, domains, handle_of, first_of, SetFact, sets, ports, nets, SwitchFact, switches}
use Rattle.lp_spec_intent.specs.Made.{StateFact, states, TableFact, table, StrategyFact, strategies, network, supply_count}

-- ---- the words of a command

-- those of an option's value, none where it is not given
abbrev pub value_words : Option OptionView → List WordView
value_words None = []
value_words (Some o) = o.values

abbrev pub words : CommandView → OptionWord → List WordView
words c o = value_words (option_in c.options o)

-- the values of an option that may stand more than once
abbrev pub all_values : CommandView → OptionWord → List (List WordView)
all_values c o = map (λ (v : OptionView). v.values) (filter (λ (v : OptionView). same_option v.word o) c.options)

abbrev pub has : CommandView → OptionWord → Bool
has c o = is_some (option_in c.options o)

-- the first, second and third word of a value
abbrev pub word_at : List WordView → ℕ → List WordView
word_at ws n = map (λ x. x.1) (filter (λ x. x.0 == n) (numbered 0 ws))

-- the words of a name that is a list of names
abbrev pub listed_words : CommandView → List WordView
listed_words c = by c.name
  where
    by : Option WordView → List WordView
    by None = []
    by (Some w) = words_of (elements_of w)

abbrev pub own_words : CommandView → List WordView
own_words c = by c.name
  where
    by : Option WordView → List WordView
    by None = []
    by (Some w) = w ∷ []

-- ---- what names are made of

-- what is made by a word lives in the scope
abbrev pub own : Made → WordView → Scoped
own m w = at m.scope w.text

-- a handle of a domain is written with a point between the two
pub record HandleOf : Type 0 where
  pub domain : ℕ
  pub handle : Handle

abbrev pub handle_name : DomainFact → Handle → Scoped
handle_name d h = at d.name.scope (d.name.name ++ codes "." ++ handle_text h)

abbrev pub handles_by : Scoped → ℕ × DomainFact → List HandleOf
handles_by a d = map (λ h. record { domain = d.0; handle = h }) (filter (λ h. same_scoped (handle_name d.1 h) a) all_handles)

-- a set by its own name, or as a handle of a domain
abbrev pub is_own_name : Scoped → SetName → Bool
is_own_name a (Own name) = same_scoped name a
is_own_name a (PrimaryOf d) = false

abbrev pub among : List Scoped → Scoped → Option Scoped
among made a = when (list_any (same_scoped a) made) a

-- a port origin is a supply port that is a source
abbrev pub is_port_source : Scoped → Source → Bool
is_port_source a (OfPort p) = same_scoped p a
is_port_source a (OfSwitch x) = false

-- the output of a switch is written with a slash between the two
abbrev pub output_name : SwitchFact → Scoped
output_name x = at x.switch.name.scope (x.switch.name.name ++ codes "/" ++ x.port)

abbrev pub same_stated : Stated → Stated → Bool
same_stated (PortStates a) (PortStates b) = same_scoped a b
same_stated (SwitchStates a) (SwitchStates b) = same_scoped a b
same_stated _ _ = false

abbrev pub as_stated : Source → Stated
as_stated (OfPort p) = PortStates p
as_stated (OfSwitch x) = SwitchStates x.name

abbrev pub numbers_have : List ℕ → ℕ → Bool
numbers_have numbers n = list_any (λ k. k == n) numbers

abbrev pub as_listed : DeclaredState → RowState
as_listed (declared.On v) = listed.On v
as_listed declared.Off = listed.Off

-- the state table lives in the scope in which it was made
abbrev pub columns_by : Scoped → TableFact → Option (List Supply)
columns_by a t = when (same_scoped t.name a) t.columns

abbrev pub is_named_in : ℕ → Name → StrategyFact → Bool
is_named_in d name x = (x.strategy.domain == d) && bytes_eq x.name name

abbrev pub crosses : StrategyKind → Bool
crosses Isolation = true
crosses Shifting = true
crosses Retention = false

abbrev pub retains : StrategyKind → Bool
retains Retention = true
retains _ = false

-- ---- what a word names

module _ (s : Structure) (m : Made) where
  abbrev pub scoped : WordView → Scoped
  scoped w = whole_name s m.scope w.text

  abbrev pub instance : WordView → Option Path
  instance w = instance_of s m.scope w.text

  abbrev pub element : WordView → Option Element
  element w = element_of s m.scope w.text

  abbrev pub control : WordView → Option Node
  control w = control_of s m.scope w.text

  abbrev pub top_port : WordView → Option PortView
  top_port w = top_port_of s m.scope w.text

  abbrev pub port_name : WordView → Option Name
  port_name w = option_map (λ (p : PortView). p.name) (top_port w)

  abbrev pub domain_named : Scoped → Option ℕ
  domain_named a = first_number (λ (d : DomainFact). same_scoped d.name a) 0 (domains m)

  abbrev pub domain : WordView → Option ℕ
  domain w = domain_named (scoped w)

  abbrev pub handle_named : Scoped → Option HandleOf
  handle_named a = first_of (flat_map (handles_by a) (numbered 0 (domains m)))

  abbrev pub handle : WordView → Option HandleOf
  handle w = handle_named (scoped w)

  abbrev pub set_named : Scoped → Option SetNumber
  set_named a =
      or_that (option_map (λ (x : SetFact). x.number) (first (λ (x : SetFact). is_own_name a x.name) (sets m)))
      (option_and_then (λ (x : HandleOf). handle_of m x.domain x.handle) (handle_named a))

  abbrev pub set : WordView → Option SetNumber
  set w = set_named (scoped w)

  -- first a supply set, then a domain
  abbrev pub set_or_domain : WordView → Option Named
  set_or_domain w = or_that (option_map (λ k. BySet k) (set w)) (option_map (λ d. ByDomain d) (domain w))

  abbrev pub port : WordView → Option Scoped
  port w = among (ports m) (scoped w)

  abbrev pub net : WordView → Option Scoped
  net w = among (nets m) (scoped w)

  -- first a supply port, then a supply net
  abbrev pub supply : WordView → Option Supply
  supply w = or_that (option_map (λ p. PortAt p) (port w)) (option_map (λ n. NetAt n) (net w))

  abbrev pub switch : WordView → Option ℕ
  switch w = first_number (λ (x : SwitchFact). same_scoped x.switch.name (scoped w)) 0 (switches m)

  -- ---- states

  abbrev pub port_origin : Scoped → Option Stated
  port_origin a = when (list_any (is_port_source a) (sources (network m))) (PortStates a)

  abbrev pub switch_output : Scoped → Option Stated
  switch_output a = option_map (λ (x : SwitchFact). SwitchStates x.switch.name) (first (λ (x : SwitchFact). same_scoped (output_name x) a) (switches m))

  abbrev pub stated : WordView → Option Stated
  stated w = or_that (port_origin (scoped w)) (switch_output (scoped w))

  -- the names of the states that a supply has so far
  abbrev pub state_names : Stated → List Name
  state_names x = map (λ (y : StateFact). y.name) (filter (λ (y : StateFact). same_stated y.of x) (states m))

  -- the sources of a supply's joined group, as it stands
  abbrev pub sources_of : Supply → List Source
  sources_of a = map (λ x. x.1) (filter (λ x. numbers_have (origins_of (network m) (supply_count m) a) x.0) (numbered 0 (sources (network m))))

  abbrev pub states_of : Supply → List StateFact
  states_of a = flat_map (λ x. filter (λ (y : StateFact). same_stated y.of (as_stated x)) (states m)) (sources_of a)

  -- what a word of a row gives a column: a star nothing, else it names a state of the column's supply
  abbrev pub row_state : Supply → WordView → Option RowState
  row_state a w =
      if bytes_eq w.text (codes "*") then Some listed.Free
      else option_map (λ (y : StateFact). as_listed y.state) (first (λ (y : StateFact). bytes_eq y.name w.text) (states_of a))

  abbrev pub columns : WordView → Option (List Supply)
  columns w = option_and_then (columns_by (scoped w)) (table m)

  -- ---- strategies: they live in their domain

  -- one of a domain and of a kind, by its number
  abbrev pub strategy : (StrategyKind → Bool) → ℕ → WordView → Option ℕ
  strategy kind d w = first_number (λ (x : StrategyFact). is_named_in d w.text x && kind x.strategy.kind) 0 (strategies m)

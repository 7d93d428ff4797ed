-- UPF words and commands by the texts of their names (IEEE 1801-2015, the commands that are read).
use Rattle.std.specs.Prelude.{◌≡◌, ℕ, Bool, true, List, [], ◌∷◌, ◌++◌, map, length, codes, Option}
use Rattle.std.specs.List.{flat_map}
use Rattle.std.specs.Option.{option_map}
use Rattle.std.proofs.Common.{refl, ap}
use Rattle.lp_text.specs.Texts.{text_at, Grown}
use Rattle.lp_text.specs.declared.names.NameId.{NameId}
use Rattle.lp_text.specs.declared.place.Place.{Place}
use Rattle.lp_model.specs.Agreement.{numbers_below, option_numbers, Agree, Agree-left, Agree-right, Agree-grown, map-same, option-same}
use Rattle.lp_model.specs.declared.upf.WordForm.{WordForm}
use Rattle.lp_model.specs.declared.upf.UpfWord.{UpfWord}
use Rattle.lp_model.specs.declared.upf.WordList.{WordList}
use Rattle.lp_model.specs.declared.upf.CommandWord.{CommandWord}
use Rattle.lp_model.specs.declared.upf.CommandWord.TheVariants as commands
use Rattle.lp_model.specs.declared.upf.OptionWord.{OptionWord}
use Rattle.lp_model.specs.declared.upf.OptionWord.TheVariants as options
use Rattle.lp_model.specs.declared.upf.CommandOption.{CommandOption}
use Rattle.lp_model.specs.declared.upf.Command.{Command}
use Rattle.lp_model.specs.declared.upf.CommandItem.{CommandItem}
use Rattle.lp_model.specs.declared.upf.CommandItem.TheVariants as items
use Rattle.lp_model.specs.declared.upf.Commands.{Commands}

-- the words of commands
abbrev pub command_text : CommandWord → List ℕ
command_text commands.UpfVersion = codes "upf_version"
command_text commands.SetDesignTop = codes "set_design_top"
command_text commands.SetScope = codes "set_scope"
command_text commands.CreatePowerDomain = codes "create_power_domain"
command_text commands.CreateSupplyPort = codes "create_supply_port"
command_text commands.CreateSupplyNet = codes "create_supply_net"
command_text commands.ConnectSupplyNet = codes "connect_supply_net"
command_text commands.CreateSupplySet = codes "create_supply_set"
command_text commands.AssociateSupplySet = codes "associate_supply_set"
command_text commands.SetDomainSupplyNet = codes "set_domain_supply_net"
command_text commands.AddPortState = codes "add_port_state"
command_text commands.CreatePst = codes "create_pst"
command_text commands.AddPstState = codes "add_pst_state"
command_text commands.SetPortAttributes = codes "set_port_attributes"
command_text commands.CreatePowerSwitch = codes "create_power_switch"
command_text commands.SetIsolation = codes "set_isolation"
command_text commands.SetLevelShifter = codes "set_level_shifter"
command_text commands.SetRetention = codes "set_retention"
command_text commands.UseInterfaceCell = codes "use_interface_cell"
command_text commands.MapRetentionCell = codes "map_retention_cell"
command_text commands.MapPowerSwitch = codes "map_power_switch"

-- the words of options, each in its shortest spelling
abbrev pub option_text : OptionWord → List ℕ
option_text options.Elements = codes "-elements"
option_text options.IncludeScope = codes "-include_scope"
option_text options.Supply = codes "-supply"
option_text options.Domain = codes "-domain"
option_text options.Direction = codes "-direction"
option_text options.Reuse = codes "-reuse"
option_text options.Ports = codes "-ports"
option_text options.Function = codes "-function"
option_text options.Handle = codes "-handle"
option_text options.PrimaryPowerNet = codes "-primary_power_net"
option_text options.PrimaryGroundNet = codes "-primary_ground_net"
option_text options.State = codes "-state"
option_text options.Supplies = codes "-supplies"
option_text options.Pst = codes "-pst"
option_text options.DriverSupply = codes "-driver_supply"
option_text options.ReceiverSupply = codes "-receiver_supply"
option_text options.InputSupplyPort = codes "-input_supply_port"
option_text options.OutputSupplyPort = codes "-output_supply_port"
option_text options.ControlPort = codes "-control_port"
option_text options.OnState = codes "-on_state"
option_text options.OffState = codes "-off_state"
option_text options.ExcludeElements = codes "-exclude_elements"
option_text options.Source = codes "-source"
option_text options.Sink = codes "-sink"
option_text options.DiffSupplyOnly = codes "-diff_supply_only"
option_text options.AppliesTo = codes "-applies_to"
option_text options.NoIsolation = codes "-no_isolation"
option_text options.Location = codes "-location"
option_text options.ClampValue = codes "-clamp_value"
option_text options.IsolationSignal = codes "-isolation_signal"
option_text options.IsolationSense = codes "-isolation_sense"
option_text options.IsolationSupply = codes "-isolation_supply"
option_text options.Rule = codes "-rule"
option_text options.Threshold = codes "-threshold"
option_text options.NoShift = codes "-no_shift"
option_text options.InputSupply = codes "-input_supply"
option_text options.OutputSupply = codes "-output_supply"
option_text options.SaveSignal = codes "-save_signal"
option_text options.RestoreSignal = codes "-restore_signal"
option_text options.RetentionSupply = codes "-retention_supply"
option_text options.NoRetention = codes "-no_retention"
option_text options.Strategy = codes "-strategy"
option_text options.LibCells = codes "-lib_cells"

pub record WordView : Type 0 where
  pub text : List ℕ
  pub form : WordForm
  pub place : Place

abbrev pub word_view : List (List ℕ) → UpfWord → WordView
word_view texts w = record { text = text_at texts w.name.0; form = w.form; place = w.place }

abbrev pub word_numbers : UpfWord → List ℕ
word_numbers w = w.name.0 ∷ []

abbrev pub line_view : List (List ℕ) → List UpfWord → List WordView
line_view texts words = map (word_view texts) words

abbrev pub line_numbers : List UpfWord → List ℕ
line_numbers words = flat_map word_numbers words

-- the words of each command of a text
abbrev pub words_view : List (List ℕ) → WordList → List (List WordView)
words_view texts w = map (line_view texts) w.commands

abbrev pub words_numbers : WordList → List ℕ
words_numbers w = flat_map line_numbers w.commands

pub record OptionView : Type 0 where
  pub word : OptionWord
  pub place : Place
  pub values : List WordView
  pub high : Option Bool

abbrev pub option_view : List (List ℕ) → CommandOption → OptionView
option_view texts o = record { word = o.word; place = o.place; values = line_view texts o.values; high = o.high }

abbrev pub command_option_numbers : CommandOption → List ℕ
command_option_numbers o = line_numbers o.values

pub record CommandView : Type 0 where
  pub place : Place
  pub word : CommandWord
  pub name : Option WordView
  pub options : List OptionView

abbrev pub command_view : List (List ℕ) → Command → CommandView
command_view texts c = record { place = c.place; word = c.word; name = option_map (word_view texts) c.name; options = map (option_view texts) c.options }

abbrev pub command_numbers : Command → List ℕ
command_numbers c = option_numbers word_numbers c.name ++ flat_map command_option_numbers c.options

-- a command, or a beginning or an end of a loaded file
pub data ItemView : Type 0 where
  Does : CommandView → ItemView
  Begins : Place → Option (List ℕ) → ItemView
  Ends : ItemView

abbrev pub name_view : List (List ℕ) → NameId → List ℕ
name_view texts n = text_at texts n.0

abbrev pub name_number : NameId → List ℕ
name_number n = n.0 ∷ []

abbrev pub item_view : List (List ℕ) → CommandItem → ItemView
item_view texts (items.Command c) = Does (command_view texts c)
item_view texts (items.Enter place scope) = Begins place (option_map (name_view texts) scope)
item_view texts items.Leave = Ends

abbrev pub item_numbers : CommandItem → List ℕ
item_numbers (items.Command c) = command_numbers c
item_numbers (items.Enter place scope) = option_numbers name_number scope
item_numbers items.Leave = []

-- the commands, in the order in which they are done
abbrev pub commands_view : List (List ℕ) → Commands → List ItemView
commands_view texts c = map (item_view texts) c.items

abbrev pub commands_numbers : Commands → List ℕ
commands_numbers c = flat_map item_numbers c.items

module _ (old new : List (List ℕ)) where
  word-same : (w : UpfWord) → Agree old new (word_numbers w) → word_view new w ≡ word_view old w
  word-same w a = rw (a.0) refl

  line-same : (words : List UpfWord) → Agree old new (line_numbers words) → line_view new words ≡ line_view old words
  line-same words a = map-same old new word_numbers word_view word-same words a

  option_view-same : (o : CommandOption) → Agree old new (command_option_numbers o) → option_view new o ≡ option_view old o
  option_view-same o a = rw (line-same o.values a) refl

  command-same : (c : Command) → Agree old new (command_numbers c) → command_view new c ≡ command_view old c
  command-same c a =
      let name = option-same old new word_numbers word_view word-same c.name (Agree-left old new (option_numbers word_numbers c.name) (flat_map command_option_numbers c.options) a) in
      let options = map-same old new command_option_numbers option_view option_view-same c.options (Agree-right old new (option_numbers word_numbers c.name) (flat_map command_option_numbers c.options) a) in
      rw (name, options) refl

  name-same : (n : NameId) → Agree old new (name_number n) → name_view new n ≡ name_view old n
  name-same n a = a.0

  item-same : (i : CommandItem) → Agree old new (item_numbers i) → item_view new i ≡ item_view old i
  item-same (items.Command c) a = ap (λ v. Does v) (command-same c a)
  item-same (items.Enter place scope) a = ap (λ s. Begins place s) (option-same old new name_number name_view name-same scope a)
  item-same items.Leave a = refl

pub words_view-grown : (old new : List (List ℕ)) (w : WordList) → Grown old new → numbers_below (length old) (words_numbers w) ≡ true → words_view new w ≡ words_view old w
words_view-grown old new w grown below = map-same old new line_numbers line_view (line-same old new) w.commands (Agree-grown old new grown (words_numbers w) below)

pub commands_view-grown : (old new : List (List ℕ)) (c : Commands) → Grown old new → numbers_below (length old) (commands_numbers c) ≡ true → commands_view new c ≡ commands_view old c
commands_view-grown old new c grown below = map-same old new item_numbers item_view (item-same old new) c.items (Agree-grown old new grown (commands_numbers c) below)

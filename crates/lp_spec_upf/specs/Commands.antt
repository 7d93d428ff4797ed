-- What the words of a UPF text say as commands, or its one fault (IEEE 1801-2015, clause 6; the subset is an own rule).
use Rattle.std.specs.Prelude.{ℕ, zero, suc, ◌==◌, Bool, true, false, not, ◌&&◌, ◌||◌, if◌then◌else◌, nat_le, nat_lt, bytes_eq}
use Rattle.std.specs.Prelude.{List, [], ◌∷◌, ◌++◌, length, codes, Option, Some, None, Result, Ok, Err}
use Rattle.std.specs.List.{list_all}
use Rattle.lp_text.specs.Micros.{micros_of}
use Rattle.lp_text.specs.declared.place.Place.{Place}
use Rattle.lp_model.specs.declared.upf.CommandWord.{CommandWord}
use Rattle.lp_model.specs.declared.upf.CommandWord.TheVariants as commands
use Rattle.lp_model.specs.declared.upf.OptionWord.{OptionWord}
use Rattle.lp_model.specs.declared.upf.OptionWord.TheVariants as options
use Rattle.lp_model.specs.CommandsView.{WordView, OptionView, CommandView, command_text, option_text}
use Rattle.lp_upf_words.specs.declared.mode.Stop.{Stop}
use Rattle.lp_upf_words.specs.declared.mode.Stop.TheVariants as stops
use Rattle.lp_upf_words.specs.Elements.{content_end, elements_of, words_of}
use Rattle.lp_upf_words.specs.Words.{Outcome}
use Rattle.lp_spec_upf.specs.Shapes.{Element, Any, Text, Among, Voltage, Form, Closed, Rest, Needs, May, OffOr}
use Rattle.lp_spec_upf.specs.Shapes.{Value, Flag, Name, OneOf, Clamp, Threshold, Listed, Need, Free, Always, Unless}
use Rattle.lp_spec_upf.specs.Shapes.{OptionRule, NameRule, NoName, MayName, OneName, NameList, shape_of, all_commands}

-- off the form, not listed, or a clamp value other than 0 and 1
pub data Fault : Type 0 where
  Syntax : Place → Fault
  Unsupported : Place → List ℕ → Fault
  ClampRefused : Place → Fault

abbrev pub place_of : Fault → Place
place_of (Syntax p) = p
place_of (Unsupported p word) = p
place_of (ClampRefused p) = p

-- off the form, behind which a command is not read on
abbrev pub is_syntax : Fault → Bool
is_syntax (Syntax p) = true
is_syntax f = false

abbrev pub is_any_syntax : List Fault → Bool
is_any_syntax faults = not (list_all (λ f. not (is_syntax f)) faults)

abbrev pub is_before : Place → Place → Bool
is_before a b = nat_lt a.line b.line || ((a.line == b.line) && nat_lt a.column b.column)

abbrev pub earlier : Fault → Fault → Fault
earlier f g = if is_before (place_of g) (place_of f) then g else f

-- the fault of the earliest place
abbrev pub first_after : Fault → List Fault → Fault
first_after f [] = f
first_after f (g ∷ faults) = first_after (earlier f g) faults

-- ---- lists

abbrev pub stop_place : Stop → Place
stop_place (stops.Syntax p) = p
stop_place (stops.Dollar p) = p
stop_place (stops.Bracket p) = p

abbrev pub is_among : List (List ℕ) → List ℕ → Bool
is_among words text = not (list_all (λ w. not (bytes_eq w text)) words)

abbrev pub is_given : Option ℕ → Bool
is_given None = false
is_given (Some v) = true

abbrev pub reads_voltage : List ℕ → Bool
reads_voltage text = is_given (micros_of text)

-- a name is not empty, and visible ASCII
abbrev pub is_visible : ℕ → Bool
is_visible b = nat_le 33 b && nat_le b 126

abbrev pub is_name : List ℕ → Bool
is_name [] = false
is_name (b ∷ text) = list_all is_visible (b ∷ text)

abbrev pub name_faults : WordView → List Fault
name_faults w = if is_name w.text then [] else Syntax w.place ∷ []

-- the fault of an element, if any
abbrev pub element_faults : Element → WordView → List Fault
element_faults Any w = name_faults w
element_faults Text w = []
element_faults (Among words) w = if is_among words w.text then [] else Unsupported w.place w.text ∷ []
element_faults Voltage w = if reads_voltage w.text then [] else Syntax w.place ∷ []

-- a fault off the form ends the list
abbrev pub and_then : List Fault → List Fault → List Fault
and_then faults rest = if is_any_syntax faults then faults else faults ++ rest

-- where a list may not end
abbrev pub lacks : Form → Place → List Fault
lacks (Needs e f) p = Syntax p ∷ []
lacks (OffOr f) p = Syntax p ∷ []
lacks f p = []

abbrev pub end_faults : Form → Option Stop → Place → List Fault
end_faults f (Some stop) p = Syntax (stop_place stop) ∷ []
end_faults f None p = lacks f p

-- the faults of a list: its elements, where it leaves the form of lists if it does, and one past its content
abbrev pub list_faults : Form → List WordView → Option Stop → Place → List Fault
list_faults f [] stop p = end_faults f stop p
list_faults Closed (w ∷ ws) stop p = Syntax w.place ∷ []
list_faults Rest (w ∷ ws) stop p = and_then (name_faults w) (list_faults Rest ws stop p)
list_faults (Needs e f) (w ∷ ws) stop p = and_then (element_faults e w) (list_faults f ws stop p)
list_faults (May e f) (w ∷ ws) stop p = and_then (element_faults e w) (list_faults f ws stop p)
list_faults (OffOr f) (w ∷ ws) stop p =
    if bytes_eq w.text (codes "off") then list_faults Closed ws stop p
    else and_then (element_faults Voltage w) (list_faults f ws stop p)

abbrev pub faults_of_list : Form → WordView → List Fault
faults_of_list f w = list_faults f (words_of (elements_of w)) (elements_of w).stop (content_end w)

-- ---- options

-- the faults of a word as the value of the option whose word stands at a place
abbrev pub value_faults : Value → WordView → WordView → List Fault
value_faults Flag o w = []
value_faults Name o w = name_faults w
value_faults (OneOf words) o w = if is_among words w.text then [] else Unsupported w.place w.text ∷ []
value_faults Clamp o w = if is_among (codes "0" ∷ codes "1" ∷ []) w.text then [] else ClampRefused w.place ∷ []
value_faults Threshold o w = if reads_voltage w.text then [] else Unsupported o.place o.text ∷ []
value_faults (Listed f) o w = faults_of_list f w

abbrev pub values_of : Value → WordView → List WordView
values_of (Listed f) w = words_of (elements_of w)
values_of v w = w ∷ []

abbrev pub same_option : OptionWord → OptionWord → Bool
same_option a b = bytes_eq (option_text a) (option_text b)

-- the option that a word is, if it is listed
abbrev pub is_word_of : OptionRule → List ℕ → Bool
is_word_of r text = bytes_eq (option_text r.word) text || (r.twin && bytes_eq (option_text r.word ++ codes "_set") text)

abbrev pub rule_of : List OptionRule → List ℕ → Option OptionRule
rule_of [] text = None
rule_of (r ∷ rules) text = if is_word_of r text then Some r else rule_of rules text

-- a word that begins with `-`
abbrev pub is_dashed : List ℕ → Bool
is_dashed [] = false
is_dashed (c ∷ text) = c == 45

abbrev pub has_option : List OptionWord → OptionWord → Bool
has_option seen o = not (list_all (λ s. not (same_option s o)) seen)

-- what stands next: an option, the value of an option, or what an option that is not listed may have as values
pub data Next : Type 0 where
  Option_ : Next
  ValueOf : OptionRule → WordView → Next
  Skipped : Next

-- what is read of a command: its options, its faults, and whether it was read to its end
pub record Part : Type 0 where
  pub options : List OptionView
  pub faults : List Fault
  pub whole : Bool

abbrev pub part : List OptionView → List Fault → Bool → Part
part os faults whole = record { options = os; faults = faults; whole = whole }

abbrev pub cut : List Fault → Part
cut faults = part [] faults false

abbrev pub with_faults : List Fault → Part → Part
with_faults faults p = part p.options (faults ++ p.faults) p.whole

abbrev pub with_option : OptionView → Part → Part
with_option o p = part (o ∷ p.options) p.faults p.whole

abbrev pub option_at : OptionRule → WordView → List WordView → OptionView
option_at r o values = record { word = r.word; place = o.place; values = values; high = None }

-- the end of a command is its place, or none where the text leaves the form of words before it
abbrev pub at_end : Option Place → Next → Part
at_end None next = cut []
at_end (Some p) (ValueOf r o) = cut (Syntax p ∷ [])
at_end (Some p) next = part [] [] true

abbrev pub valued : List Fault → OptionView → Part → Part
valued faults o rest = if is_any_syntax faults then cut faults else with_faults faults (with_option o rest)

-- an option begins with its word
abbrev pub begun : OptionRule → Value → WordView → (Next → Part) → Part
begun r Flag w more = with_option (option_at r w []) (more Option_)
begun r v w more = more (ValueOf r w)

abbrev pub listed : OptionRule → List OptionWord → WordView → (Next → List OptionWord → Part) → Part
listed r seen w more =
    if not r.repeats && has_option seen r.word then cut (Syntax w.place ∷ [])
    else begun r r.value w (λ n. more n (r.word ∷ seen))

abbrev pub unlisted : List OptionWord → WordView → (Next → List OptionWord → Part) → Part
unlisted seen w more =
    if is_dashed w.text then with_faults (Unsupported w.place w.text ∷ []) (more Skipped seen)
    else cut (Syntax w.place ∷ [])

abbrev pub at_option : Option OptionRule → List OptionWord → WordView → (Next → List OptionWord → Part) → Part
at_option None seen w more = unlisted seen w more
at_option (Some r) seen w more = listed r seen w more

abbrev pub at_skipped : Option OptionRule → List OptionWord → WordView → (Next → List OptionWord → Part) → Part
at_skipped None seen w more = more Skipped seen
at_skipped (Some r) seen w more = listed r seen w more

abbrev pub at_word : List OptionRule → Next → List OptionWord → WordView → (Next → List OptionWord → Part) → Part
at_word rules Option_ seen w more = at_option (rule_of rules w.text) seen w more
at_word rules (ValueOf r o) seen w more = valued (value_faults r.value o w) (option_at r o (values_of r.value w)) (more Option_ seen)
at_word rules Skipped seen w more = at_skipped (rule_of rules w.text) seen w more

-- the options that words are, behind the words of some
abbrev pub options_of : List OptionRule → Option Place → Next → List OptionWord → List WordView → Part
options_of rules e next seen [] = at_end e next
options_of rules e next seen (w ∷ ws) = at_word rules next seen w (λ n s. options_of rules e n s ws)

-- ---- what a command must have, and what its options say together

abbrev pub words_had : List OptionView → List OptionWord
words_had [] = []
words_had (o ∷ os) = o.word ∷ words_had os

abbrev pub is_missing : List OptionWord → OptionWord → Need → Bool
is_missing had o Free = false
is_missing had o Always = not (has_option had o)
is_missing had o (Unless other) = not (has_option had o || has_option had other)

abbrev pub lacks_none : List OptionRule → List OptionWord → Bool
lacks_none rules had = list_all (λ r. not (is_missing had r.word r.need)) rules

-- the first option of a word, and the first word of its value
abbrev pub option_in : List OptionView → OptionWord → Option OptionView
option_in [] o = None
option_in (v ∷ os) o = if same_option v.word o then Some v else option_in os o

abbrev pub first_word : List WordView → Option (List ℕ)
first_word [] = None
first_word (w ∷ ws) = Some w.text

abbrev pub last_word : List WordView → List ℕ
last_word [] = []
last_word (w ∷ []) = w.text
last_word (w ∷ (v ∷ ws)) = last_word (v ∷ ws)

abbrev pub option_name : Option OptionView → Option (List ℕ)
option_name None = None
option_name (Some o) = first_word o.values

abbrev pub name_in : List OptionView → OptionWord → Option (List ℕ)
name_in os o = option_name (option_in os o)

-- ---- switches: the on expression is the control port or its complement, an off expression is the other

abbrev pub agrees : Option Bool → Bool → Bool
agrees None h = true
agrees (Some on) true = not on
agrees (Some on) false = on

abbrev pub on_sense : (List ℕ → List ℕ → Option Bool) → List ℕ → Option OptionView → Option Bool
on_sense sense control None = None
on_sense sense control (Some o) = sense (last_word o.values) control

abbrev pub is_fit : OptionWord → Option Bool → Option Bool → Bool
is_fit options.OnState on None = false
is_fit options.OffState on None = false
is_fit options.OffState on (Some h) = agrees on h
is_fit word on h = true

-- the faults of the expressions of a switch, where the sense of the on expression is given
abbrev pub expression_faults : (List ℕ → List ℕ → Option Bool) → List ℕ → Option Bool → List OptionView → List Fault
expression_faults sense control on [] = []
expression_faults sense control on (o ∷ os) =
    if is_fit o.word on (sense (last_word o.values) control) then expression_faults sense control on os
    else Unsupported o.place (option_text o.word) ∷ expression_faults sense control on os

abbrev pub sensed_as : OptionWord → Option Bool → Option Bool
sensed_as options.OnState h = h
sensed_as word h = None

-- the options with the sense of the on expression
abbrev pub sensed : (List ℕ → List ℕ → Option Bool) → List ℕ → List OptionView → List OptionView
sensed sense control [] = []
sensed sense control (o ∷ os) =
    record { word = o.word; place = o.place; values = o.values; high = sensed_as o.word (sense (last_word o.values) control) } ∷ sensed sense control os

abbrev pub judged_by : (List ℕ → List ℕ → Option Bool) → Option (List ℕ) → Part → Part
judged_by sense None p = p
judged_by sense (Some control) p =
    part (sensed sense control p.options)
    (p.faults ++ expression_faults sense control (on_sense sense control (option_in p.options options.OnState)) p.options)
    p.whole

-- ---- commands

pub record Sense : Type 0 where
  pub of : List ℕ → List ℕ → Option Bool

-- the tables of states so far, each with the number of its supplies, the last first
pub record TableOf : Type 0 where
  pub name : List ℕ
  pub supplies : ℕ

abbrev pub supplies_of : List TableOf → List ℕ → Option ℕ
supplies_of [] name = None
supplies_of (t ∷ ts) name = if bytes_eq t.name name then Some t.supplies else supplies_of ts name

abbrev pub exactly : ℕ → Form
exactly zero = Closed
exactly (suc n) = Needs Any (exactly n)

abbrev pub supplies_named : List TableOf → Option (List ℕ) → Option ℕ
supplies_named tables None = None
supplies_named tables (Some name) = supplies_of tables name

-- a row has as many states as its table has supplies
abbrev pub row_rules : Option ℕ → List OptionRule → List OptionRule
row_rules None rules = rules
row_rules (Some n) [] = []
row_rules (Some n) (r ∷ rules) =
    (if same_option r.word options.State then record { word = r.word; value = Listed (exactly n); need = r.need; twin = r.twin; repeats = r.repeats } else r)
    ∷ row_rules (Some n) rules

abbrev pub rules_for : CommandWord → List TableOf → List OptionRule → Part → List OptionRule
rules_for commands.AddPstState tables rules p = row_rules (supplies_named tables (name_in p.options options.Pst)) rules
rules_for c tables rules p = rules

abbrev pub options_from : CommandWord → Sense → List TableOf → List OptionRule → Option Place → List WordView → Part
options_from c sense tables rules e ws =
    let loose = options_of rules e Option_ [] ws in
    let exact = options_of (rules_for c tables rules loose) e Option_ [] ws in
    judged_by sense.of (name_in exact.options options.ControlPort) exact

-- a command with its name, before its faults are judged
pub record Named : Type 0 where
  pub name : Option WordView
  pub rest : Part

abbrev pub named_part : Option WordView → Part → Named
named_part name rest = record { name = name; rest = rest }

abbrev pub name_missing : Option Place → Named
name_missing None = named_part None (cut [])
name_missing (Some p) = named_part None (cut (Syntax p ∷ []))

abbrev pub behind_name : List Fault → Part → Part
behind_name faults rest = if is_any_syntax faults then cut faults else with_faults faults rest

abbrev pub named_of : NameRule → Option Place → (List WordView → Part) → List WordView → Named
named_of NoName e more ws = named_part None (more ws)
named_of MayName e more [] = named_part None (more [])
named_of OneName e more [] = name_missing e
named_of NameList e more [] = name_missing e
named_of MayName e more (w ∷ ws) = named_part (Some w) (more ws)
named_of OneName e more (w ∷ ws) = named_part (Some w) (behind_name (name_faults w) (more ws))
named_of NameList e more (w ∷ ws) = named_part (Some w) (behind_name (faults_of_list Rest w) (more ws))

-- the faults of a command, and the missing option where it was read to its end
abbrev pub all_faults : Place → List OptionRule → Part → List Fault
all_faults p rules rest = if not rest.whole || lacks_none rules (words_had rest.options) then rest.faults else Syntax p ∷ rest.faults

-- the command, or its fault; neither where the text leaves the form of words before the end of a command without fault
pub data Said : Type 0 where
  Does : CommandView → Said
  Fails : Fault → Said
  Breaks : Said

abbrev pub said_by : List Fault → Bool → CommandView → Said
said_by (f ∷ faults) whole c = Fails (first_after f faults)
said_by [] true c = Does c
said_by [] false c = Breaks

abbrev pub said_of : CommandWord → Place → List OptionRule → Named → Said
said_of c p rules n = said_by (all_faults p rules n.rest) n.rest.whole (record { place = p; word = c; name = n.name; options = n.rest.options })

abbrev pub command_in : List CommandWord → List ℕ → Option CommandWord
command_in [] text = None
command_in (c ∷ cs) text = if bytes_eq (command_text c) text then Some c else command_in cs text

abbrev pub command_by : Option CommandWord → Sense → List TableOf → Option Place → WordView → List WordView → Said
command_by None sense tables e w ws = Fails (Unsupported w.place w.text)
command_by (Some c) sense tables e w ws =
    said_of c w.place (shape_of c).rules (named_of (shape_of c).name e (options_from c sense tables (shape_of c).rules e) ws)

-- what the words of a command say, behind some tables of states
abbrev pub command_of : Sense → List TableOf → Option Place → List WordView → Said
command_of sense tables e [] = Breaks
command_of sense tables e (w ∷ ws) = command_by (command_in all_commands w.text) sense tables e w ws

-- ---- texts

abbrev pub name_text : Option WordView → List ℕ
name_text None = []
name_text (Some w) = w.text

abbrev pub count_values : Option OptionView → ℕ
count_values None = 0
count_values (Some o) = length o.values

abbrev pub tables_after : CommandWord → CommandView → List TableOf → List TableOf
tables_after commands.CreatePst c tables = record { name = name_text c.name; supplies = count_values (option_in c.options options.Supplies) } ∷ tables
tables_after word c tables = tables

-- a fault of words
abbrev pub stop_fault : Stop → Fault
stop_fault (stops.Syntax p) = Syntax p
stop_fault (stops.Dollar p) = Unsupported p (codes "$")
stop_fault (stops.Bracket p) = Unsupported p (codes "[")

abbrev pub broken : Said → Stop → Fault
broken (Fails f) stop = f
broken s stop = stop_fault stop

abbrev pub last_of : Sense → List TableOf → List WordView → Option Stop → Result (List CommandView) Fault
last_of sense tables ws None = Ok []
last_of sense tables ws (Some stop) = Err (broken (command_of sense tables None ws) stop)

abbrev pub after_command : CommandView → Result (List CommandView) Fault → Result (List CommandView) Fault
after_command c (Ok cs) = Ok (c ∷ cs)
after_command c (Err f) = Err f

abbrev pub on_said : Said → (CommandView → Result (List CommandView) Fault) → Result (List CommandView) Fault
on_said (Does c) more = after_command c (more c)
on_said (Fails f) more = Err f
on_said Breaks more = Ok []

abbrev pub first_end : List Place → Option Place
first_end [] = None
first_end (p ∷ ends) = Some p

abbrev pub later_ends : List Place → List Place
later_ends [] = []
later_ends (p ∷ ends) = ends

-- the commands of a text from its words, or its first fault
abbrev pub commands_of : Sense → List TableOf → List (List WordView) → List Place → List WordView → Option Stop → Result (List CommandView) Fault
commands_of sense tables [] ends open_ones stop = last_of sense tables open_ones stop
commands_of sense tables (c ∷ cs) ends open_ones stop =
    on_said (command_of sense tables (first_end ends) c)
    (λ view. commands_of sense (tables_after view.word view tables) cs (later_ends ends) open_ones stop)

abbrev pub intent_of : Sense → Outcome → Result (List CommandView) Fault
intent_of sense outcome = commands_of sense [] outcome.gathered.commands outcome.gathered.ends outcome.gathered.words outcome.stop

-- The options of a command, word by word: a second form (own rule).
use Rattle.std.specs.Prelude.{ℕ, Bool, true, false, not, ◌&&◌, List, [], ◌∷◌, ◌++◌, map, Option, Some, None, if◌then◌else◌}
use Rattle.std.specs.List.{flat_map}
use Rattle.lp_text.specs.declared.place.Place.{Place}
use Rattle.lp_model.specs.CommandsView.{OptionView, WordView, command_option_numbers, option_view, word_view}
use Rattle.lp_spec_upf.specs.Shapes.{OptionRule, Value, Flag, Listed}
use Rattle.lp_spec_upf.specs.Commands.{Fault, Syntax, Unsupported, Next, Option_, ValueOf, Skipped, Part, has_option, is_any_syntax, is_dashed, option_at, rule_of, value_faults, values_of, words_had}
use Rattle.lp_upf.specs.declared.options.Next as code
use Rattle.lp_upf.specs.declared.options.Next.TheVariants as nexts
use Rattle.lp_upf.specs.declared.options.Reading as code_reading
use Rattle.lp_upf.specs.declared.options.Options as code_options
use Rattle.lp_upf.specs.Faults.{Judged, added, faults_view, first_numbers, joined, judged}
use Rattle.lp_upf.specs.Tables.{rule_view}

-- the value is not a list
abbrev pub is_plain : Value → Bool
is_plain (Listed f) = false
is_plain v = true

-- what stands next, the options so far, and what counts of their faults
pub record Reading : Type 0 where
  pub next : Next
  pub options : List OptionView
  pub faults : Judged

abbrev pub reading : Next → List OptionView → Judged → Reading
reading next os faults = record { next = next; options = os; faults = faults }

abbrev pub refused : Fault → Reading → Reading
refused f s = reading s.next s.options (added s.faults f)

abbrev pub begun : OptionRule → Value → WordView → Reading → Reading
begun r Flag w s = reading Option_ (s.options ++ option_at r w [] ∷ []) s.faults
begun r v w s = reading (ValueOf r w) s.options s.faults

abbrev pub listed : OptionRule → WordView → Reading → Reading
listed r w s = if not r.repeats && has_option (words_had s.options) r.word then refused (Syntax w.place) s else begun r r.value w s

abbrev pub unlisted : WordView → Reading → Reading
unlisted w s = if is_dashed w.text then reading Skipped s.options (added s.faults (Unsupported w.place w.text)) else refused (Syntax w.place) s

-- an option ends with its value, unless that is off the form
abbrev pub valued : List Fault → OptionView → Reading → Reading
valued faults o s =
    if is_any_syntax faults then reading s.next s.options (joined s.faults (judged faults))
    else reading Option_ (s.options ++ o ∷ []) (joined s.faults (judged faults))

abbrev pub at_option : Option OptionRule → WordView → Reading → Reading
at_option None w s = unlisted w s
at_option (Some r) w s = listed r w s

abbrev pub at_skipped : Option OptionRule → WordView → Reading → Reading
at_skipped None w s = s
at_skipped (Some r) w s = listed r w s

abbrev pub step_at : List OptionRule → Next → WordView → Reading → Reading
step_at rules Option_ w s = at_option (rule_of rules w.text) w s
step_at rules Skipped w s = at_skipped (rule_of rules w.text) w s
step_at rules (ValueOf r o) w s = valued (value_faults r.value o w) (option_at r o (values_of r.value w)) s

-- one word
abbrev pub step : List OptionRule → WordView → Reading → Reading
step rules w s = step_at rules s.next w s

-- what was read of a command
pub record Read : Type 0 where
  pub options : List OptionView
  pub faults : Judged
  pub whole : Bool

abbrev pub read : List OptionView → Judged → Bool → Read
read os faults whole = record { options = os; faults = faults; whole = whole }

abbrev pub read_of : Part → Read
read_of p = read p.options (judged p.faults) p.whole

-- behind what was read before
abbrev pub behind : List OptionView → Judged → Part → Read
behind os faults p = read (os ++ p.options) (joined faults (judged p.faults)) p.whole

abbrev pub end_at : Next → Place → Reading → Read
end_at (ValueOf r o) p s = read s.options (added s.faults (Syntax p)) false
end_at next p s = read s.options s.faults true

abbrev pub ended : Option Place → Reading → Read
ended None s = read s.options s.faults false
ended (Some p) s = end_at s.next p s

abbrev pub unless_cut : Reading → (Reading → Read) → Read
unless_cut s more = if s.faults.cut then read s.options s.faults false else more s

abbrev pub run : List OptionRule → Option Place → Reading → List WordView → Read
run rules e s [] = ended e s
run rules e s (w ∷ ws) = unless_cut (step rules w s) (λ t. run rules e t ws)

-- ---- the code's values

abbrev pub next_view : List (List ℕ) → code.Next → Next
next_view names nexts.Option = Option_
next_view names (nexts.ValueOf r w) = ValueOf (rule_view r) (word_view names w)
next_view names nexts.Skipped = Skipped

abbrev pub next_numbers : code.Next → List ℕ
next_numbers nexts.Option = []
next_numbers (nexts.ValueOf r w) = w.name.0 ∷ []
next_numbers nexts.Skipped = []

abbrev pub reading_view : List (List ℕ) → code_reading.Reading → Reading
reading_view names s = reading (next_view names s.next) (map (option_view names) s.options) (faults_view names s.faults)

abbrev pub reading_numbers : code_reading.Reading → List ℕ
reading_numbers s = next_numbers s.next ++ (flat_map command_option_numbers s.options ++ first_numbers s.faults.first)

abbrev pub options_view : List (List ℕ) → code_options.Options → Read
options_view names r = read (map (option_view names) r.options) (faults_view names r.faults) r.whole

abbrev pub options_numbers : code_options.Options → List ℕ
options_numbers r = flat_map command_option_numbers r.options ++ first_numbers r.faults.first

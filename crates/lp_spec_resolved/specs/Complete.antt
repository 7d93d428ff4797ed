-- What each command of a text that is read has (IEEE 1801-2015, clause 6): each option is one of the command's with a value of its form, and each that it must have is there.
use Rattle.std.specs.Prelude.{◌≡◌, true, List, [], Option, Some}
use Rattle.lp_model.specs.declared.upf.CommandWord.TheVariants as commands
use Rattle.lp_model.specs.CommandsView.{WordView, OptionView, CommandView}
use Rattle.lp_spec_upf.specs.Shapes.{OptionRule, Value, Flag, NameRule, OneName, shape_of}
use Rattle.lp_spec_upf.specs.Commands.{name_faults, value_faults, values_of, lacks_none, words_had}
use Rattle.lp_spec_design.specs.Winners.{IsIn}

-- the words of a value, which has no fault; a flag has none
abbrev pub HasForm : Value → List WordView → Type 0
HasForm Flag words = words ≡ []
HasForm v words = (o : WordView) × (w : WordView) × (words ≡ values_of v w) × (value_faults v o w ≡ [])

-- an option of one of these rules
pub record IsOption (rules : List OptionRule) (o : OptionView) : Type 0 where
  pub rule : OptionRule
  pub listed : IsIn rule rules
  pub word : rule.word ≡ o.word
  pub form : HasForm rule.value o.values

-- the one word that names what a command makes has no fault
abbrev pub HasName : NameRule → Option WordView → Type 0
HasName OneName (Some w) = name_faults w ≡ []
HasName rule name = Unit {0}

-- the rules of a command, but for the number of states of a row
pub record IsComplete (c : CommandView) : Type 0 where
  pub name : HasName (shape_of c.word).name c.name
  pub needed : lacks_none (shape_of c.word).rules (words_had c.options) ≡ true
  pub options : (c.word ≡ commands.AddPstState → ⊥) → (o : OptionView) → IsIn o c.options → IsOption (shape_of c.word).rules o

-- The tables of the code as those of the definitions.
use Rattle.std.specs.Prelude.{ℕ, List, [], ◌∷◌, codes}
use Rattle.lp_spec_upf.specs.Shapes as shapes
use Rattle.lp_spec_upf.specs.Shapes.{OptionRule, handles, functions, senses}
use Rattle.lp_spec_upf.specs.Commands.{exactly}
use Rattle.lp_upf.specs.declared.tables.Choice.{Choice}
use Rattle.lp_upf.specs.declared.tables.Choice.TheVariants as choices
use Rattle.lp_upf.specs.declared.tables.Element.{Element}
use Rattle.lp_upf.specs.declared.tables.Element.TheVariants as elements
use Rattle.lp_upf.specs.declared.tables.Form.{Form}
use Rattle.lp_upf.specs.declared.tables.Form.TheVariants as forms
use Rattle.lp_upf.specs.declared.tables.Value.{Value}
use Rattle.lp_upf.specs.declared.tables.Value.TheVariants as values
use Rattle.lp_upf.specs.declared.tables.Need.{Need}
use Rattle.lp_upf.specs.declared.tables.Need.TheVariants as needs
use Rattle.lp_upf.specs.declared.tables.NameRule.{NameRule}
use Rattle.lp_upf.specs.declared.tables.NameRule.TheVariants as names
use Rattle.lp_upf.specs.declared.tables.Rule.{Rule}

abbrev pub words_of : Choice → List (List ℕ)
words_of choices.Handles = handles
words_of choices.Functions = functions
words_of choices.Senses = senses
words_of choices.Levels = codes "high" ∷ codes "low" ∷ []
words_of choices.Directions = codes "in" ∷ codes "out" ∷ []
words_of choices.Sides = codes "inputs" ∷ codes "outputs" ∷ codes "both" ∷ []
words_of choices.Locations = codes "self" ∷ codes "parent" ∷ codes "automatic" ∷ []
words_of choices.Truth = codes "TRUE" ∷ codes "FALSE" ∷ []
words_of choices.Shifts = codes "low_to_high" ∷ codes "high_to_low" ∷ codes "both" ∷ []

abbrev pub element_of : Element → shapes.Element
element_of elements.Any = shapes.Any
element_of elements.Text = shapes.Text
element_of (elements.Among words) = shapes.Among (words_of words)
element_of elements.Voltage = shapes.Voltage

-- the word `off`, or one voltage or three
abbrev pub voltages : shapes.Form
voltages = shapes.OffOr (shapes.May shapes.Voltage (shapes.Needs shapes.Voltage shapes.Closed))

abbrev pub form_of : Form → shapes.Form
form_of forms.Closed = shapes.Closed
form_of forms.Rest = shapes.Rest
form_of (forms.One a) = shapes.Needs (element_of a) shapes.Closed
form_of (forms.Two a b) = shapes.Needs (element_of a) (shapes.Needs (element_of b) shapes.Closed)
form_of (forms.Names n) = exactly n
form_of forms.Expression = shapes.Needs shapes.Any (shapes.Needs shapes.Any (shapes.Needs shapes.Text shapes.Closed))
form_of forms.PortState = shapes.Needs shapes.Any voltages
form_of forms.Voltages = voltages
form_of forms.Greater = shapes.May shapes.Voltage (shapes.Needs shapes.Voltage shapes.Closed)

abbrev pub value_of : Value → shapes.Value
value_of values.Flag = shapes.Flag
value_of values.Name = shapes.Name
value_of (values.OneOf words) = shapes.OneOf (words_of words)
value_of values.Clamp = shapes.Clamp
value_of values.Threshold = shapes.Threshold
value_of (values.Listed form) = shapes.Listed (form_of form)

abbrev pub need_of : Need → shapes.Need
need_of needs.Free = shapes.Free
need_of needs.Always = shapes.Always
need_of (needs.Unless word) = shapes.Unless word

abbrev pub rule_view : Rule → OptionRule
rule_view r = record { word = r.word; value = value_of r.value; need = need_of r.need; twin = r.twin; repeats = r.repeats }

abbrev pub name_rule_of : NameRule → shapes.NameRule
name_rule_of names.NoName = shapes.NoName
name_rule_of names.MayName = shapes.MayName
name_rule_of names.OneName = shapes.OneName
name_rule_of names.NameList = shapes.NameList

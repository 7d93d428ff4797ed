-- Texts, what they say, and where their faults stand.
use Rattle.std.specs.Prelude.{◌≡◌, ℕ, true, false, List, ◌∷◌, ◌++◌, codes, Option, Some, None, Result, Ok, Err, bytes_eq, if◌then◌else◌}
use Rattle.std.proofs.Common.{refl}
use lib.Utf8.{encode}
use Rattle.lp_text.specs.declared.place.Place.{Place}
use Rattle.lp_model.specs.CommandsView.{CommandView}
use Rattle.lp_upf_words.specs.Bytes.{kind_of}
use Rattle.lp_upf_words.specs.Reading.{read, start}
use Rattle.lp_spec_upf.specs.Commands.{Fault, Syntax, Unsupported, ClampRefused, Sense, intent_of}

-- the name itself and its complement
abbrev sense : Sense
sense = record { of = λ text control. if bytes_eq text control then Some true else if bytes_eq text (codes "!" ++ control) then Some false else None }

abbrev said : List ℕ → Result (List CommandView) Fault
said text = intent_of sense (read kind_of start text)

abbrev failed : Result (List CommandView) Fault → Option Fault
failed (Ok cs) = None
failed (Err f) = Some f

abbrev at : ℕ → Place
at column = record { line = 1; column = column }

abbrev at_line : ℕ → ℕ → Place
at_line line column = record { line = line; column = column }

-- a missing required option stands before a clamp value that is refused
missing-first : failed (said (codes "set_isolation I1 -clamp_value latch")) ≡ Some (Syntax (at 1))
unfolding encode
missing-first = refl

-- a surplus word ends the command
surplus : failed (said (codes "set_isolation I1 foo")) ≡ Some (Syntax (at 18))
unfolding encode
surplus = refl

-- what stands before a fault of words is judged first
first-word : failed (said (codes "foo $x")) ≡ Some (Unsupported (at 1) (codes "foo"))
unfolding encode
first-word = refl

-- a variable within a command whose options are not complete
variable : failed (said (codes "set_isolation I1 $x")) ≡ Some (Unsupported (at 18) (codes "$"))
unfolding encode
variable = refl

-- a name that begins with a dash
dashed-name : failed (said (codes "create_pst -supplies")) ≡ Some (Syntax (at 1))
unfolding encode
dashed-name = refl

-- a missing name
no-name : failed (said (codes "set_scope")) ≡ Some (Syntax (at 10))
unfolding encode
no-name = refl

-- a missing value
no-value : failed (said (codes "create_supply_net N -domain")) ≡ Some (Syntax (at 28))
unfolding encode
no-value = refl

-- a second use of an option, by its other word
twice : failed (said (codes "set_retention R -retention_supply S -retention_supply_set S")) ≡ Some (Syntax (at 37))
unfolding encode
twice = refl

-- and by its own
again : failed (said (codes "set_isolation I -location self -location parent")) ≡ Some (Syntax (at 32))
unfolding encode
again = refl

-- an option that is not listed, with its values
unlisted : failed (said (codes "create_supply_net N -resolve unresolved -reuse")) ≡ Some (Unsupported (at 21) (codes "-resolve"))
unfolding encode
unlisted = refl

-- too many elements of a list
many : failed (said (codes "create_supply_set S -function {power N M}")) ≡ Some (Syntax (at 40))
unfolding encode
many = refl

-- too few elements of a list
few : failed (said (codes "create_supply_set S -function {power}")) ≡ Some (Syntax (at 37))
unfolding encode
few = refl

-- a list whose own brace does not close
unclosed : failed (said (codes "connect_supply_net N -ports {a \"b}")) ≡ Some (Syntax (at 34))
unfolding encode
unclosed = refl

-- a voltage that is no number
voltage : failed (said (codes "add_port_state P -state {A 1.0} -state {B x}")) ≡ Some (Syntax (at 43))
unfolding encode
voltage = refl

-- a least and a nominal voltage alone
three : failed (said (codes "add_port_state P -state {A 1.0 1.1}")) ≡ Some (Syntax (at 35))
unfolding encode
three = refl

-- a function that is not listed, and a third element
function : failed (said (codes "create_supply_set S -function {bias N M}")) ≡ Some (Unsupported (at 32) (codes "bias"))
unfolding encode
function = refl

-- a clamp value other than 0 and 1
clamp : failed (said (codes "set_isolation I -domain D -clamp_value Z -isolation_signal e")) ≡ Some (ClampRefused (at 40))
unfolding encode
clamp = refl

-- a threshold that is a list
threshold : failed (said (codes "set_level_shifter L -domain D -threshold {0.1 0.2}")) ≡ Some (Unsupported (at 31) (codes "-threshold"))
unfolding encode
threshold = refl

-- a load in a text alone
load : failed (said (codes "load_upf f")) ≡ Some (Unsupported (at 1) (codes "load_upf"))
unfolding encode
load = refl

-- an on expression of another name
on-state : failed (said (codes "create_power_switch S -input_supply_port {i I} -output_supply_port {o O} -on_state {on i {!d}} -control_port {c E}")) ≡ Some (Unsupported (at 74) (codes "-on_state"))
unfolding encode
on-state = refl

-- an off expression that is the on expression
off-state : failed (said (codes "create_power_switch S -input_supply_port {i I} -output_supply_port {o O} -control_port {c E} -on_state {on i c} -off_state {off c}")) ≡ Some (Unsupported (at 113) (codes "-off_state"))
unfolding encode
off-state = refl

-- a switch
taken : failed (said (codes "create_power_switch S -input_supply_port {i I} -output_supply_port {o O} -control_port {c E} -on_state {on i {!c}} -off_state {off c}")) ≡ None
unfolding encode
taken = refl

-- a row with too few states of the last table of its name, at one past its content
row-short : failed (said (codes "create_pst T -supplies {A}" ++ (10 ∷ codes "create_pst T -supplies {A B}" ++ (10 ∷ codes "add_pst_state R -state {N} -pst T")))) ≡ Some (Syntax (at_line 3 26))
unfolding encode
row-short = refl

-- a row with too many
row-long : failed (said (codes "create_pst T -supplies {A}" ++ (10 ∷ codes "add_pst_state R -pst T -state {N M}"))) ≡ Some (Syntax (at_line 2 34))
unfolding encode
row-long = refl

-- a row of no table before it is not judged
row-unknown : failed (said (codes "add_pst_state R -pst T -state {N M}" ++ (10 ∷ codes "create_pst T -supplies {A}"))) ≡ None
unfolding encode
row-unknown = refl

-- a location that the tool may choose
location : failed (said (codes "set_level_shifter L -domain D -location automatic")) ≡ None
unfolding encode
location = refl

-- a name that is empty, a byte of one that is not visible, and an element that is none
empty-name : failed (said (codes "create_supply_net {}")) ≡ Some (Syntax (at 19))
unfolding encode
empty-name = refl

blank-name : failed (said (codes "create_supply_net N -domain {D E}")) ≡ Some (Syntax (at 29))
unfolding encode
blank-name = refl

empty-element : failed (said (codes "create_pst T -supplies {a {} b}")) ≡ Some (Syntax (at 27))
unfolding encode
empty-element = refl

-- Cells of small Liberty groups.
use Rattle.std.proofs.Common.{◌≡◌, ℕ, false, true, List, [], ◌∷◌, ◌++◌, Option, Some, None, refl}
use Rattle.std.specs.Prelude.{codes, map}
use Rattle.lp_expr.specs.declared.step.Step.TheVariants.{Variable}
use Rattle.lp_model.specs.declared.library.Action.TheVariants.{Rise, Fall}
use Rattle.lp_model.specs.declared.library.PinUse.{PinUse}
use Rattle.lp_model.specs.declared.library.PinUse.TheVariants.{Retain}
use Rattle.lp_model.specs.declared.library.RetClass.TheVariants.{Save, Restore, Both}
use Rattle.lp_model.specs.declared.reason.Reason.{Reason}
use Rattle.lp_model.specs.declared.reason.Reason.TheVariants as reasons
use Rattle.lp_model.specs.GroupsView.{AttrView, GroupView}
use Rattle.lp_model.specs.LibraryView.{ExprView, PinView}
use Rattle.lp_expr.specs.Grammar.{is_blank, is_inner}
use Rattle.lp_attributes.specs.Expressions.{expression_of}
use Rattle.lp_parts.specs.Names.{is_state}
use Rattle.lp_parts.specs.Pins.{pins_at, use_of}
use Rattle.lp_parts.specs.Roles.{is_condition}
use Rattle.lp_parts.specs.States.{is_output_pin, is_pin}
use Rattle.lp_cells.specs.Cells.{cell_of}

simple : List ℕ → List ℕ → AttrView
simple word value = record { word = word; items = value ∷ []; complex = false }

-- a group of the cell, which is group 0
part : List ℕ → List (List ℕ) → List AttrView → GroupView
part word args attrs = record { word = word; args = args; parent = Some 0; attrs = attrs }

head : List AttrView → GroupView
head attrs = record { word = codes "cell"; args = codes "C" ∷ []; parent = None; attrs = attrs }

supplies : List GroupView
supplies = part (codes "pg_pin") (codes "VDD" ∷ []) (simple (codes "pg_type") (codes "primary_power") ∷ []) ∷ part (codes "pg_pin") (codes "VSS" ∷ []) (simple (codes "pg_type") (codes "primary_ground") ∷ []) ∷ []

input : List ℕ → List AttrView → GroupView
input name attrs = part (codes "pin") (name ∷ []) (simple (codes "direction") (codes "input") ∷ attrs)

output : List ℕ → List ℕ → GroupView
output name function = part (codes "pin") (name ∷ []) (simple (codes "direction") (codes "output") ∷ simple (codes "function") function ∷ [])

reason_of_cell : List AttrView → List GroupView → Option Reason
reason_of_cell attrs groups = (cell_of 0 (head attrs) (supplies ++ groups)).unusable

functions : List GroupView → List (Option ExprView)
functions groups = map (λ (p : PinView). p.function) (cell_of 0 (head []) (supplies ++ groups)).pins

-- ---- an output pin with the name of a state variable

flop : List GroupView
flop =
    part (codes "ff") (codes "Q" ∷ codes "QN" ∷ []) (simple (codes "next_state") (codes "D") ∷ simple (codes "clocked_on") (codes "CK") ∷ [])
    ∷ input (codes "D") [] ∷ input (codes "CK") [] ∷ output (codes "Q") (codes "Q") ∷ []

state_name : reason_of_cell [] flop ≡ None
unfolding reason_of_cell head supplies part simple input output flop cell_of is_state is_pin is_output_pin is_condition pins_at expression_of is_blank is_inner
state_name = refl

-- another output's name is no variable
other_output : reason_of_cell [] (input (codes "A") [] ∷ output (codes "X") (codes "A") ∷ output (codes "Y") (codes "X") ∷ []) ≡ Some reasons.Function
unfolding reason_of_cell head supplies part simple input output cell_of is_state is_pin is_output_pin is_condition pins_at expression_of is_blank is_inner
other_output = refl

-- ---- a group that makes no pin

no_pin : reason_of_cell [] (part (codes "pin") [] (simple (codes "three_state") (codes "D") ∷ []) ∷ input (codes "A") [] ∷ output (codes "Y") (codes "A") ∷ []) ≡ None
unfolding reason_of_cell head supplies part simple input output cell_of is_state is_pin is_output_pin is_condition pins_at expression_of is_blank is_inner
no_pin = refl

-- ---- retention pins

retains : List ℕ → List AttrView → GroupView
retains class attrs = input (codes "R") (record { word = codes "retention_pin"; items = class ∷ codes "0" ∷ []; complex = true } ∷ attrs)

both_actions : List AttrView
both_actions = simple (codes "save_action") (codes "R") ∷ simple (codes "restore_action") (codes "F") ∷ []

save_alone : use_of (retains (codes "save") both_actions) ≡ Retain Save (Some Rise) None
unfolding retains both_actions input part simple
save_alone = refl

restore_alone : use_of (retains (codes "restore") both_actions) ≡ Retain Restore None (Some Fall)
unfolding retains both_actions input part simple
restore_alone = refl

both_kept : use_of (retains (codes "save_restore") both_actions) ≡ Retain Both (Some Rise) (Some Fall)
unfolding retains both_actions input part simple
both_kept = refl

-- an action that the class does not have has to be known
unknown_other : reason_of_cell [] (retains (codes "save") (simple (codes "save_action") (codes "R") ∷ simple (codes "restore_action") (codes "X") ∷ []) ∷ output (codes "Y") (codes "R") ∷ []) ≡ Some reasons.Retention
unfolding reason_of_cell head supplies part simple input output retains cell_of is_state is_pin is_output_pin is_condition pins_at expression_of is_blank is_inner
unknown_other = refl

-- ---- several retention conditions

condition : List AttrView → GroupView
condition attrs = part (codes "retention_condition") [] attrs

copy : List ℕ → List AttrView
copy text = simple (codes "power_down_function") text ∷ []

kept : List GroupView → Option Reason
kept conditions = reason_of_cell (simple (codes "retention_cell") (codes "k") ∷ []) (conditions ++ flop)

first_counts : kept (condition (copy (codes "VSS")) ∷ condition [] ∷ []) ≡ None
unfolding kept condition copy reason_of_cell head supplies part simple input output flop cell_of is_state is_pin is_output_pin is_condition pins_at expression_of is_blank is_inner
first_counts = refl

first_lacks : kept (condition [] ∷ condition (copy (codes "VSS")) ∷ []) ≡ Some reasons.Retention
unfolding kept condition copy reason_of_cell head supplies part simple input output flop cell_of is_state is_pin is_output_pin is_condition pins_at expression_of is_blank is_inner
first_lacks = refl

other_reads : kept (condition (copy (codes "VSS")) ∷ condition (copy (codes "A +")) ∷ []) ≡ Some reasons.Function
unfolding kept condition copy reason_of_cell head supplies part simple input output flop cell_of is_state is_pin is_output_pin is_condition pins_at expression_of is_blank is_inner
other_reads = refl

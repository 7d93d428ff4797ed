-- Which cells of the small library fit, and what their pins are joined to.
use Rattle.std.proofs.Common.{◌≡◌, List, true, false, [], ◌∷◌, ◌++◌, Option, Some, None, refl}
use Rattle.std.specs.Prelude.{ℕ, codes, map}
use Rattle.lp_expr.specs.declared.step.Step.TheVariants.{Variable, Not, Or}
use Rattle.lp_model.specs.declared.library.Action.TheVariants.{High, Rise, Fall}
use Rattle.lp_model.specs.declared.library.PgKind.TheVariants.{PrimaryPower, InternalPower}
use Rattle.lp_model.specs.declared.library.PinUse.TheVariants.{Plain, Retain}
use Rattle.lp_model.specs.declared.library.RetClass.TheVariants.{Both}
use Rattle.lp_model.specs.declared.library.ShifterKind.TheVariants as shifters
use Rattle.lp_model.specs.LibraryView.{ExprView, PinView, CellView}
use Rattle.lp_spec_design.specs.Graph.{numbered}
use Rattle.lp_spec_design.proofs.Samples.{one_name}
use Rattle.lp_spec_fit.specs.Joins.{Joins, source_joins, clamp_joins, register_joins, shifter_joins, switch_joins}
use Rattle.lp_spec_fit.specs.PowerDown.{is_unfit_power}
use Rattle.lp_spec_fit.specs.Fits.{fits_clamp, fits_shifter, fits_register, fits_switch}
use Rattle.lp_spec_fit.specs.Choice.{clamp_choice, shifter_choice, register_choice, switch_choice}
use Rattle.lp_spec_fit.proofs.Samples.{pg, input, output, clamp, clamp_with_backup, shifter, register, retention_register, header, and_with_wells, buffer, cells, set_of, clamp_by, shift_between, retained_at, on_high, on_low, plain_pgs}

-- ---- clamps

the_clamp_fits : fits_clamp (clamp_by false true) clamp ≡ true
the_clamp_fits = refl

not_to_1 : fits_clamp (clamp_by true true) clamp ≡ false
not_to_1 = refl

not_active_low : fits_clamp (clamp_by false false) clamp ≡ false
not_active_low = refl

no_other_fits : map (fits_clamp (clamp_by false true)) cells ≡ false ∷ false ∷ false ∷ true ∷ false ∷ false ∷ false ∷ []
no_other_fits = refl

-- D + E is a clamp to 1
abbrev to_1 : CellView
to_1 = record clamp { pins = map (λ (q : PinView). by q q.function) clamp.pins }
  where
    by : PinView → Option ExprView → PinView
    by q None = q
    by q (Some f) = output (codes "Y") (record { variables = codes "EN" ∷ codes "D" ∷ []; steps = Variable 0 ∷ Variable 1 ∷ Or ∷ [] })

fits_to_1 : map (λ x. fits_clamp x to_1) (clamp_by true true ∷ clamp_by false true ∷ clamp_by true false ∷ clamp_by false false ∷ []) ≡ true ∷ false ∷ false ∷ false ∷ []
fits_to_1 = refl

-- a clamp that is lost with another supply too
abbrev needs_both : CellView
needs_both = record clamp_with_backup { pins = map (λ (q : PinView). by q q.function) clamp_with_backup.pins }
  where
    by : PinView → Option ExprView → PinView
    by q None = q
    by q (Some f) = record q { power_down = Some (record { variables = codes "VDDB" ∷ codes "VDD" ∷ codes "VSS" ∷ []; steps = Variable 0 ∷ Not ∷ Variable 1 ∷ Not ∷ Or ∷ Variable 2 ∷ Or ∷ [] }) }

with_backup : map (λ c. fits_clamp (clamp_by false true) c) (clamp_with_backup ∷ needs_both ∷ []) ≡ true ∷ false ∷ []
with_backup = refl

-- where both supplies are one, they are lost together
both_are_one : fits_clamp (record (clamp_by false true) { place = set_of 0 }) needs_both ≡ true
both_are_one = refl

abbrev joined_in : CellView → Joins → List (Option ℕ)
joined_in c join = map (λ x. join x.0 x.1) (numbered 0 c.pgs)

backup_pin_to_the_clamps_supply : joined_in clamp_with_backup (clamp_joins (set_of 0) (set_of 1) clamp_with_backup) ≡ Some 0 ∷ Some 9 ∷ Some 1 ∷ Some 1 ∷ []
backup_pin_to_the_clamps_supply = refl

-- an internal power pin gets no supply
with_internal_pin : fits_clamp (clamp_by false true) (record clamp { pgs = plain_pgs ++ pg (codes "VI") InternalPower ∷ [] }) ≡ false
with_internal_pin = refl

-- ---- level shifters

low_to_high : fits_shifter (shift_between 800000 1000000) shifter ≡ true
low_to_high = refl

high_to_low : fits_shifter (shift_between 1200000 1000000) shifter ≡ false
high_to_low = refl

joins_of_the_shifter : map (λ x. shifter_joins (set_of 1) (set_of 0) (input (codes "A") Plain) (record (output (codes "Y") (one_name (codes "A"))) { power = 1 }) x.0 x.1) (numbered 0 shifter.pgs) ≡ Some 1 ∷ Some 0 ∷ Some 9 ∷ []
joins_of_the_shifter = refl

-- a shifter on its output supply alone, which reads no input that is lower
abbrev on_output : CellView
on_output = record shifter {
  pgs = plain_pgs;
  pins = map (λ (q : PinView). record q { power = 0; gnd = Some 1; power_down = (output (codes "Y") (one_name (codes "A"))).power_down }) shifter.pins;
  roles = record { iso = false; shifter = Some (record { input = None; output = None; kind = shifters.Both }); retention = None; switch = false };
}

on_output_alone : map (λ x. fits_shifter x on_output) (shift_between 1200000 1000000 ∷ shift_between 800000 1000000 ∷ record (shift_between 800000 1000000) { margin = 200000 } ∷ []) ≡ true ∷ false ∷ true ∷ []
on_output_alone = refl

abbrev in_ranges : CellView
in_ranges = record shifter { roles = record { iso = false; shifter = Some (record { input = Some (record { low = 700000; high = 800000 }); output = None; kind = shifters.Both }); retention = None; switch = false } }

ranges : map (λ x. fits_shifter x in_ranges) (shift_between 800000 1000000 ∷ shift_between 700000 600000 ∷ shift_between 800001 1000000 ∷ []) ≡ true ∷ true ∷ false ∷ []
ranges = refl

-- ---- retention registers

at_both_rises : fits_register (retained_at Rise Rise) retention_register ≡ true
at_both_rises = refl

not_at_a_fall : map (λ x. fits_register x retention_register) (retained_at Fall Rise ∷ retained_at Rise Fall ∷ retained_at High Rise ∷ []) ≡ false ∷ false ∷ false ∷ []
not_at_a_fall = refl

not_another_source : fits_register (record (retained_at Rise Rise) { source = record register { pins = input (codes "D") Plain ∷ input (codes "CKN") Plain ∷ output (codes "Q") (one_name (codes "IQ")) ∷ [] } }) retention_register ≡ false
not_another_source = refl

joins_of_the_register : joined_in retention_register (register_joins (set_of 1) (set_of 2)) ≡ Some 1 ∷ Some 9 ∷ Some 2 ∷ []
joins_of_the_register = refl

-- an output of the inverse variable is another function
inverted : fits_register (record (retained_at Rise Rise) { source = record register { pins = input (codes "D") Plain ∷ input (codes "CK") Plain ∷ output (codes "Q") (one_name (codes "IQN")) ∷ [] } }) retention_register ≡ false
inverted = refl

-- ... unless it is complemented once more
inverted_twice : fits_register (record (retained_at Rise Rise) { source = record register { pins = input (codes "D") Plain ∷ input (codes "CK") Plain ∷ output (codes "Q") (record { variables = codes "IQN" ∷ []; steps = Variable 0 ∷ Not ∷ [] }) ∷ [] } }) retention_register ≡ true
inverted_twice = refl

-- one pin that saves and restores
abbrev one_pin : CellView
one_pin = record retention_register { pins = record (input (codes "RET") (Retain Both (Some Rise) (Some Fall))) { power = 2 } ∷ input (codes "CK") Plain ∷ input (codes "D") Plain ∷ output (codes "Q") (one_name (codes "KQ")) ∷ [] }

by_one_signal : map (λ x. fits_register x one_pin) (record (retained_at Rise Fall) { one_signal = true } ∷ retained_at Rise Fall ∷ record (retained_at Rise Rise) { one_signal = true } ∷ []) ≡ true ∷ false ∷ false ∷ []
by_one_signal = refl

-- ---- power switches

on_where_the_control_is_0 : fits_switch on_low header ≡ true
on_where_the_control_is_0 = refl

not_where_it_is_1 : fits_switch on_high header ≡ false
not_where_it_is_1 = refl

joins_of_the_switch : joined_in header (switch_joins 3 4 9 0) ≡ Some 3 ∷ Some 4 ∷ Some 9 ∷ []
joins_of_the_switch = refl

a_second_power_pin : fits_switch on_low (record header { pgs = header.pgs ++ pg (codes "VDD2") PrimaryPower ∷ [] }) ≡ false
a_second_power_pin = refl

-- ---- choices

the_first_of_two : clamp_choice (clamp_by false true) (cells ++ clamp ∷ []) ≡ Some 3
the_first_of_two = refl

the_smaller_of_two : clamp_choice (clamp_by false true) (cells ++ record clamp { area = 2999999 } ∷ []) ≡ Some 7
the_smaller_of_two = refl

the_listed_one : clamp_choice (record (clamp_by false true) { mapped = Some (codes "ISO9" ∷ codes "ISO1" ∷ []) }) (cells ++ record clamp { name = codes "ISO1" } ∷ []) ≡ Some 7
the_listed_one = refl

none_fits : clamp_choice (clamp_by true true) cells ≡ None
none_fits = refl

none_is_listed : clamp_choice (record (clamp_by false true) { mapped = Some [] }) cells ≡ None
none_is_listed = refl

the_others : shifter_choice (shift_between 800000 1000000) cells ≡ Some 4
the_others = refl

the_register : register_choice (retained_at Rise Rise) cells ≡ Some 5
the_register = refl

the_switch : switch_choice on_low cells ≡ Some 6
the_switch = refl

-- ---- cells of the source

wells_to_the_power_and_the_ground : joined_in and_with_wells (source_joins (set_of 1)) ≡ Some 1 ∷ Some 9 ∷ Some 1 ∷ Some 9 ∷ []
wells_to_the_power_and_the_ground = refl

fit_power : map (λ c. is_unfit_power c (set_of 1)) (buffer ∷ and_with_wells ∷ register ∷ []) ≡ false ∷ false ∷ false ∷ []
fit_power = refl

-- a cell that is lost with its n-well, where the well has the supply of the power, and where it has another
abbrev well_down : PinView
well_down = record (output (codes "Y") (one_name (codes "A"))) { power_down = Some (record { variables = codes "VDD" ∷ codes "VSS" ∷ codes "VNW" ∷ []; steps = Variable 0 ∷ Not ∷ Variable 1 ∷ Or ∷ Variable 2 ∷ Not ∷ Or ∷ [] }) }

with_the_well : map (λ s. is_unfit_power (record and_with_wells { pins = well_down ∷ [] }) s) (set_of 1 ∷ record (set_of 1) { nwell = record { 0 = 2 } } ∷ []) ≡ false ∷ true ∷ []
with_the_well = refl

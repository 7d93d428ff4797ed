-- Cells of a small library: they are sound, and what single functions give.
use Rattle.std.proofs.Common.{◌≡◌, Bool, true, false, List, [], ◌∷◌, Option, Some, None, map, refl}
use Rattle.std.specs.Prelude.{codes}
use Rattle.std.specs.List.{list_any}
use Rattle.lp_tern.specs.declared.tern.Tern.TheVariants.{Zero, X}
use Rattle.lp_expr.specs.declared.step.Step.TheVariants.{Variable, Not, And}
use Rattle.lp_model.specs.declared.library.PgKind.TheVariants.{PrimaryPower, PrimaryGround, BackupPower, InternalPower}
use Rattle.lp_model.specs.LibraryView.{ExprView, PinView, CellView}
use Rattle.lp_spec_design.specs.Keys.{Name}
use Rattle.lp_spec_design.specs.Settled.{function_value}
use Rattle.lp_spec_design.proofs.Samples.{one_name}
use Rattle.lp_spec_pins.specs.Pins.{FromTop, is_zero_for}
use Rattle.lp_spec_fit.specs.PowerDown.{power_down_equals}
use Rattle.lp_spec_fit.specs.Fits.{same_function, fits_switch}
use Rattle.lp_spec_fit.proofs.Samples.{pg, on_low, and_with_wells, clamp, clamp_with_backup, shifter, register, retention_register, header}
use Rattle.lp_spec_cells.specs.Sound.{is_function_of, is_primary_power, IsSound}

sound_clamp : IsSound clamp
sound_clamp = record { names_apart = refl; pgs_apart = refl; related = refl; pins = refl; switched = refl; state = refl; retention = refl; powered = refl }

sound_clamp_with_backup : IsSound clamp_with_backup
sound_clamp_with_backup = record { names_apart = refl; pgs_apart = refl; related = refl; pins = refl; switched = refl; state = refl; retention = refl; powered = refl }

sound_shifter : IsSound shifter
sound_shifter = record { names_apart = refl; pgs_apart = refl; related = refl; pins = refl; switched = refl; state = refl; retention = refl; powered = refl }

sound_register : IsSound register
sound_register = record { names_apart = refl; pgs_apart = refl; related = refl; pins = refl; switched = refl; state = refl; retention = refl; powered = refl }

sound_retention_register : IsSound retention_register
sound_retention_register = record { names_apart = refl; pgs_apart = refl; related = refl; pins = refl; switched = refl; state = refl; retention = refl; powered = refl }

sound_header : IsSound header
sound_header = record { names_apart = refl; pgs_apart = refl; related = refl; pins = refl; switched = refl; state = refl; retention = refl; powered = refl }

-- ---- why the variables of a function have to differ

-- A * !B, and A * !A with its variable named twice and once
abbrev of_two : Name → Name → ExprView
of_two a b = record { variables = a ∷ b ∷ []; steps = Variable 0 ∷ Variable 1 ∷ Not ∷ And ∷ [] }

abbrev named_once : ExprView
named_once = record { variables = codes "A" ∷ []; steps = Variable 0 ∷ Variable 0 ∷ Not ∷ And ∷ [] }

-- both are the constant 0 ...
equal_functions : same_function and_with_wells and_with_wells (of_two (codes "A") (codes "A")) named_once ≡ true
equal_functions = refl

-- ... and an unknown pin makes the one unknown, whose two places are replaced apart
unequal_values : map (λ e. function_value and_with_wells (λ v. X) X e) (of_two (codes "A") (codes "A") ∷ named_once ∷ []) ≡ X ∷ Zero ∷ []
unequal_values = refl

only_one_is_sound : map (is_function_of and_with_wells) (of_two (codes "A") (codes "A") ∷ named_once ∷ of_two (codes "A") (codes "B") ∷ []) ≡ false ∷ true ∷ true ∷ []
only_one_is_sound = refl

-- ---- why each pin has a supply

-- two power pins on one origin
abbrev two_powers : CellView
two_powers = record clamp { pgs = pg (codes "VDD") PrimaryPower ∷ pg (codes "VDDB") BackupPower ∷ [] }

-- VDD * !VDDB, which is 0 whatever the origin is
abbrev one_of_both : ExprView
one_of_both = of_two (codes "VDD") (codes "VDDB")

lost_with_nothing : power_down_equals two_powers (λ k g. Some 0) [] (Some one_of_both) ≡ true
lost_with_nothing = refl

-- pins on one unknown supply are replaced together, pins without a supply apart
replaced_together : map (λ s. is_zero_for two_powers one_of_both (s ∷ s ∷ []) (X ∷ X ∷ [])) (Some (FromTop (codes "V")) ∷ None ∷ []) ≡ true ∷ false ∷ []
replaced_together = refl

-- ---- why a switch cell has a primary power pin

-- a switched pin that passes on itself
abbrev own_input : CellView
own_input = record header {
  pgs = record { name = codes "VDD"; kind = InternalPower; switched = Some (record { off = one_name (codes "SLEEP"); passes = 0 }) } ∷ pg (codes "VSS") PrimaryGround ∷ [];
  pins = map (λ (q : PinView). record q { gnd = Some 1 }) header.pins;
}

fits_alone : fits_switch on_low own_input ∷ list_any is_primary_power own_input.pgs ∷ [] ≡ true ∷ false ∷ []
fits_alone = refl

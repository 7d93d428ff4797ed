-- Functions of known levels.
use Rattle.std.proofs.Common.{◌≡◌, ℕ, Bool, true, false, not, List, [], ◌∷◌, ◌++◌, map, refl, ◌∙◌, ap}
use mathlib.Core.Bool.{beq}
use Rattle.lp_text.specs.declared.names.NameId.{NameId}
use Rattle.lp_tern.specs.Values.{agreed}
use Rattle.lp_expr.specs.Formula.{Formula, truth, completions, value_of}
use Rattle.lp_expr.specs.Places.{is_one}
use Rattle.lp_model.specs.Agreement.{name_texts}
use Rattle.lp_model.specs.LibraryView.{cell_view}
use Rattle.lp_model.specs.declared.library.Cell.{Cell}
use Rattle.lp_behaviour.specs.Signals.{known}
use Rattle.lp_spec_design.specs.Keys.{same_bool}
use Rattle.lp_spec_plain.specs.Cells.{levels_with}
use Rattle.lp_plain_cells.specs.Rails.{value_named}

-- known values have no other replacement
completions-known : (bits : List Bool) → completions (map known bits) ≡ bits ∷ []
completions-known [] = refl
completions-known (true ∷ bits) = ap (λ cs. map (λ c. true ∷ c) cs ++ []) (completions-known bits)
completions-known (false ∷ bits) = ap (λ cs. map (λ c. false ∷ c) cs ++ []) (completions-known bits)

agreed-one : (b : Bool) → agreed (b ∷ []) ≡ known b
agreed-one true = refl
agreed-one false = refl

values-known : (texts : List (List ℕ)) (cell : Cell) (power gnd : Bool) (vs : List NameId) → map (value_named texts cell power gnd) vs ≡ map known (levels_with (cell_view texts cell) power gnd (name_texts texts vs))
values-known texts cell power gnd [] = refl
values-known texts cell power gnd (v ∷ vs) = ap (λ rest. value_named texts cell power gnd v ∷ rest) (values-known texts cell power gnd vs)

-- the value of a function where the power and the ground are on or not
pub value-known : (texts : List (List ℕ)) (cell : Cell) (power gnd : Bool) (e : Formula) → value_of e (map (value_named texts cell power gnd) e.variables) ≡ known (truth e.steps (levels_with (cell_view texts cell) power gnd (name_texts texts e.variables)))
value-known texts cell power gnd e =
    ap (value_of e) (values-known texts cell power gnd e.variables)
    ∙ (ap (λ cs. agreed (map (truth e.steps) cs)) (completions-known (levels_with (cell_view texts cell) power gnd (name_texts texts e.variables)))
    ∙ agreed-one (truth e.steps (levels_with (cell_view texts cell) power gnd (name_texts texts e.variables))))

-- a value that is 1 or not against what is on
pub down-known : (t on : Bool) → not (beq (is_one (known t)) on) ≡ same_bool t (not on)
down-known true true = refl
down-known true false = refl
down-known false true = refl
down-known false false = refl

-- When a power_down_function says that one of some supplies is not on (Liberty power_down_function; own rule).
use Rattle.std.specs.Prelude.{ℕ, ◌==◌, Bool, true, false, not, ◌&&◌, List, [], ◌∷◌, ◌++◌, map, Option, Some, None, is_some, if◌then◌else◌, option_and_then, bytes_eq, flat_map}
use Rattle.std.specs.List.{list_all}
use Rattle.lp_expr.specs.Formula.{truth}
use Rattle.lp_model.specs.declared.supply.SetOrigins.{SetOrigins}
use Rattle.lp_model.specs.LibraryView.{ExprView, PgPinView, PinView, StateView, CellView}
use Rattle.lp_spec_design.specs.Keys.{Name}
use Rattle.lp_spec_design.specs.Netlists.{first}
use Rattle.lp_spec_design.specs.Graph.{numbered, is_output_pin, some_of}
use Rattle.lp_spec_pins.specs.Pins.{is_power}
use Rattle.lp_spec_fit.specs.Equality.{are_equal}
use Rattle.lp_spec_fit.specs.Joins.{Joins, source_joins}

-- which origins are on
abbrev pub Onness : Type 0
Onness = ℕ → Bool

-- a set is on where its power and its ground are on
abbrev pub is_set_on : Onness → SetOrigins → Bool
is_set_on on s = on s.power.0 && on s.gnd.0

abbrev pub is_some_off : List SetOrigins → Onness → Bool
is_some_off sets on = not (list_all (is_set_on on) sets)

-- the origin of the power or ground pin of a name
abbrev pub origin_of_pin : CellView → Joins → Name → Option (ℕ × PgPinView)
origin_of_pin c join v = option_and_then (λ x. option_and_then (λ o. Some (o, x.1)) (join x.0 x.1)) (first (λ x. bytes_eq x.1.name v) (numbered 0 c.pgs))

-- the level of a pin: a power pin is 1 where its origin is on, a ground pin where it is not
abbrev pub level_where : Onness → Option (ℕ × PgPinView) → Bool
level_where on None = false
level_where on (Some x) = if is_power x.1.kind then on x.0 else not (on x.0)

abbrev pub power_down_where : CellView → Joins → ExprView → Onness → Bool
power_down_where c join e on = truth e.steps (map (λ v. level_where on (origin_of_pin c join v)) e.variables)

-- the origins on which a power-down function depends, and those of sets
abbrev pub origins_named : CellView → Joins → ExprView → List ℕ
origins_named c join e = some_of (λ v. option_and_then (λ x. Some x.0) (origin_of_pin c join v)) e.variables

abbrev pub origins_of_sets : List SetOrigins → List ℕ
origins_of_sets sets = flat_map (λ s. s.power.0 ∷ s.gnd.0 ∷ []) sets

-- the function, with each pin replaced by the level of the supply that it is joined to, is 1 exactly where one of the sets is not on
abbrev pub power_down_equals : CellView → Joins → List SetOrigins → Option ExprView → Bool
power_down_equals c join sets None = false
power_down_equals c join sets (Some e) =
    are_equal (λ a b. a == b) (origins_named c join e ++ origins_of_sets sets) (power_down_where c join e) (is_some_off sets)

abbrev pub state_power_down : CellView → Option ExprView
state_power_down c = option_and_then (λ (g : StateView). Some g.power_down) c.state

-- the outputs and the state, if there is one, are lost exactly where a set is not on
abbrev pub outputs_need : CellView → Joins → SetOrigins → Bool
outputs_need c join set = list_all (λ (q : PinView). if is_output_pin q then power_down_equals c join (set ∷ []) q.power_down else true) c.pins

abbrev pub state_needs : CellView → Joins → SetOrigins → Bool
state_needs c join set = if is_some c.state then power_down_equals c join (set ∷ []) (state_power_down c) else true

-- own rule: a cell of the source has to be lost exactly where the primary supply of its domain is not on
abbrev pub is_unfit_power : CellView → SetOrigins → Bool
is_unfit_power c primary = not (outputs_need c (source_joins primary) primary && state_needs c (source_joins primary) primary)

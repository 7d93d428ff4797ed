-- The supply network of definitions (by sets) as that of the state table (by origins): IEEE 1801-2015 create_supply_set, create_pst, add_pst_state.
use Rattle.std.specs.Prelude.{ℕ, Bool, false, List, [], ◌∷◌, map, Option, Some, None, option_and_then, slice_get}
use Rattle.std.specs.List.{list_any}
use Rattle.lp_model.specs.declared.intent.RowState.{RowState}
use Rattle.lp_model.specs.declared.supply.OriginKind.{OriginKind}
use Rattle.lp_model.specs.declared.supply.OriginKind.TheVariants.{Port, Switch}
use Rattle.lp_model.specs.declared.supply.Origin as model
use Rattle.lp_model.specs.declared.supply.Row.{Row}
use Rattle.lp_model.specs.declared.supply.SetOrigins.{SetOrigins}
use Rattle.lp_model.specs.declared.supply.Supplies.{Supplies}
use Rattle.lp_rows.specs.Rows.{lower_in}
use Rattle.lp_rows.specs.Leaks.{leaks_in}
use Rattle.lp_spec_design.specs.Domains.{first_number}
use Rattle.lp_spec_design.specs.Keys.{Node}
use Rattle.lp_spec_design.specs.Intents.{SetNumber, SupplySet, Origin, FromPort, FromSwitch, Network}

-- the rows of the state table; without any there is one, which leaves everything free
abbrev pub all_rows : List Row → List (List RowState)
all_rows [] = [] ∷ []
all_rows (row ∷ rows) = row.states ∷ map (λ (r : Row). r.states) rows

abbrev pub rows_of : Supplies → List (List RowState)
rows_of s = all_rows s.rows

-- the number of the first row that passes a test; rows count from 1, and without any there is row 0
abbrev pub first_among : (List RowState → Bool) → List Row → Option ℕ
first_among p [] = first_number p 0 ([] ∷ [])
first_among p (row ∷ rows) = first_number p 1 (row.states ∷ map (λ (r : Row). r.states) rows)

abbrev pub first_row : Supplies → (List RowState → Bool) → Option ℕ
first_row s p = first_among p s.rows

-- some row allows the roots of two origins voltages of which the first, with a number added, is below the second
abbrev pub lower_origins : Supplies → ℕ → ℕ → ℕ → Bool
lower_origins s a b by = list_any (λ row. lower_in s row a b by) (rows_of s)

-- in some combination of a row the first origin is off and the second is on
abbrev pub leaking_origins : Supplies → ℕ → ℕ → Bool
leaking_origins s a b = list_any (λ row. leaks_in s row a b) (rows_of s)

-- of sets both speak of the power origins
abbrev pub set_at : Supplies → SetNumber → Option SetOrigins
set_at s k = option_and_then (λ x. x) (slice_get s.sets k)

abbrev pub of_powers : (ℕ → ℕ → Bool) → Option SetOrigins → Option SetOrigins → Bool
of_powers test (Some a) (Some b) = test a.power.0 b.power.0
of_powers test _ _ = false

abbrev pub lower_sets : Supplies → SetNumber → SetNumber → ℕ → Bool
lower_sets s a b by = of_powers (λ o p. lower_origins s o p by) (set_at s a) (set_at s b)

abbrev pub leaking_sets : Supplies → SetNumber → SetNumber → Bool
leaking_sets s a b = of_powers (leaking_origins s) (set_at s a) (set_at s b)

-- ---- the network that definitions speak of; nodes by their numbers have places by names

abbrev pub kind_view : (ℕ → Node) → OriginKind → Origin
kind_view node (Port states) = FromPort
kind_view node (Switch input control high) = FromSwitch input.0 (node control.0) high

-- a set that is not used has no origins, and is never on
abbrev pub set_view : Option SetOrigins → SupplySet
set_view (Some s) = record { power = s.power.0; gnd = s.gnd.0 }
set_view None = record { power = 1024; gnd = 1024 }

abbrev pub network_view : (ℕ → Node) → ℕ → Supplies → Network
network_view node margin s = record {
  sets = map set_view s.sets;
  origins = map (λ (o : model.Origin). kind_view node o.kind) s.origins;
  lower = lower_sets s;
  margin = margin;
}

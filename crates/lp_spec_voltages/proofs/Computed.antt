-- Supplies and their voltages, computed on small networks and designs: what the laws say, and what is false without their premises.
use Rattle.std.proofs.Common.{◌≡◌, ℕ, zero, suc, List, true, false, [], ◌∷◌, Option, Some, refl}
use Rattle.std.specs.Prelude.{Bool, codes, map}
use Rattle.lp_tern.specs.declared.tern.Tern.TheVariants.{X}
use Rattle.lp_tern.specs.declared.supply.SupplyState.{SupplyState}
use Rattle.lp_tern.specs.declared.supply.SupplyState.TheVariants as state
use Rattle.lp_model.specs.declared.supply.SetOrigins.{SetOrigins}
use Rattle.lp_model.specs.declared.supply.Supplies.{Supplies}
use Rattle.lp_model.specs.LibraryView.{PinView, CellView}
use Rattle.lp_rows.specs.Rows.{within_in}
use Rattle.lp_rows.specs.Voltages.{under_of}
use Rattle.lp_spec_design.specs.Nodes.{computing}
use Rattle.lp_spec_design.specs.Settled.{Assignment, At, Of, Logic, State}
use Rattle.lp_spec_network.specs.Views.{lower_origins}
use Rattle.lp_spec_network.specs.Pairs.{paired, pairs_of}
use Rattle.lp_spec_network.proofs.Samples as network
use Rattle.lp_spec_fit.specs.Joins.{source_joins, shifter_joins}
use Rattle.lp_spec_fit.proofs.Samples.{shifter, and_with_wells, input, set_of}
use Rattle.lp_spec_realises.specs.Projects.{Project}
use Rattle.lp_spec_realises.proofs.Samples.{supplies, project, by_the_block}
use Rattle.lp_spec_faults.specs.Lines.{first_of}
use Rattle.lp_spec_faults.specs.Supplies.{no_states}
use Rattle.lp_spec_faults.specs.Readings.{all_readings, reaching_rail, reading_supply}
use Rattle.lp_model.specs.declared.library.PinUse.TheVariants.{Plain}
use Rattle.lp_spec_voltages.specs.Powers.{has_power, power_origin}
use Rattle.lp_spec_voltages.specs.Voltages.{has_states, power_state}

-- ---- ports without states

-- the block's port has no declared states
abbrev stateless : Supplies
stateless = supplies [] []

-- it takes any state and is never lower, but may be under: so the premise is needed, and the fault gives it
any_state_is_within : within_in stateless [] (state.On 1000000 ∷ state.On 700000 ∷ state.Off ∷ state.On 0 ∷ []) ≡ true
any_state_is_within = refl

not_lower : lower_origins stateless 1 0 0 ≡ false
not_lower = refl

but_under : under_of (state.On 700000) (state.On 0) (state.On 1000000) (state.On 0) 0 ≡ true
but_under = refl

it_lacks_states : has_states stateless 1 ∷ has_states stateless 0 ∷ has_states stateless 3 ∷ [] ≡ false ∷ true ∷ true ∷ []
it_lacks_states = refl

the_fault_says_so : first_of (no_states stateless) ≡ Some 1
the_fault_says_so = refl

-- a switch has the states of its root
switch_has_states : map (has_states network.supplies) (0 ∷ 1 ∷ 2 ∷ 3 ∷ 4 ∷ []) ≡ true ∷ true ∷ true ∷ true ∷ false ∷ []
switch_has_states = refl

-- ---- readings

-- supplies at these states, and nothing else
abbrev stands : List SupplyState → Assignment
stands states (At k) = Logic X
stands states (Of o) = State (at o states)
  where
    at : ℕ → List SupplyState → SupplyState
    at o [] = state.Unknown
    at zero (x ∷ xs) = x
    at (suc k) (x ∷ xs) = at k xs

-- which readings are under what reaches them, with grounds that count as on
abbrev unders : Project → List SupplyState → List Bool
unders p states = map (λ x. under_of (power_state p (stands states) (reaching_rail p x)) (state.On 0) (power_state p (stands states) (reading_supply p x)) (state.On 0) p.margin) (all_readings p)

-- with a clamp at the block's output the buffer reads the clamp's supply
none_is_under : unders (project by_the_block) (state.On 1000000 ∷ state.On 1000000 ∷ state.On 1000000 ∷ state.On 0 ∷ []) ≡ false ∷ false ∷ false ∷ false ∷ []
unfolding computing
none_is_under = refl

-- a block at a lower voltage: the clamp, which reads it, is under
the_clamp_is_under : unders (project by_the_block) (state.On 1000000 ∷ state.On 800000 ∷ state.On 1000000 ∷ state.On 0 ∷ []) ≡ true ∷ false ∷ false ∷ false ∷ []
unfolding computing
the_clamp_is_under = refl

-- not where it is off
none_where_it_is_off : unders (project by_the_block) (state.On 1000000 ∷ state.Off ∷ state.On 1000000 ∷ state.On 0 ∷ []) ≡ false ∷ false ∷ false ∷ false ∷ []
unfolding computing
none_where_it_is_off = refl

-- ---- pairs and powers

-- the pairs of two rows, and a shifter from low to high that takes them
the_pairs : pairs_of network.supplies 1 0 ≡ paired 800000 1000000 ∷ paired 1000000 1200000 ∷ []
the_pairs = refl

-- the origins of the powers of a shifter's pins, and where both relate to one power pin
abbrev powers : CellView → PinView → PinView → List (Option ℕ)
powers c d y = power_origin c (shifter_joins (set_of 1) (set_of 0) d y) d ∷ power_origin c (shifter_joins (set_of 1) (set_of 0) d y) y ∷ []

abbrev data_at : ℕ → PinView
data_at k = record (input (codes "A") Plain) { power = k }

from_one_to_the_other : powers shifter (data_at 0) (data_at 1) ≡ Some 1 ∷ Some 0 ∷ []
from_one_to_the_other = refl

on_one_power : powers shifter (data_at 1) (data_at 1) ≡ Some 0 ∷ Some 0 ∷ []
on_one_power = refl

-- a pin that related to a bias pin would have the power of an n-well: no cell that can be used has one
abbrev apart_well : SetOrigins
apart_well = record (set_of 0) { nwell = record { 0 = 5 } }

of_the_well : power_origin and_with_wells (source_joins apart_well) (data_at 2) ∷ power_origin and_with_wells (source_joins apart_well) (data_at 0) ∷ [] ≡ Some 5 ∷ Some 0 ∷ []
of_the_well = refl

no_bias_pin : has_power and_with_wells (data_at 2) ∷ has_power and_with_wells (data_at 0) ∷ [] ≡ false ∷ true ∷ []
no_bias_pin = refl

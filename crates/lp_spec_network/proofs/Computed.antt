-- Which supplies may be lower, leak or have voltages together, computed on the small supply network.
use Rattle.std.proofs.Common.{◌≡◌, List, true, false, [], ◌∷◌, Some, None, refl}
use Rattle.std.specs.Prelude.{ℕ, ◌&&◌, Bool, codes, map}
use Rattle.lp_tern.specs.declared.supply.SupplyState.TheVariants as state
use Rattle.lp_rows.specs.Rows.{lower_in, within_in}
use Rattle.lp_model.specs.declared.need.VoltagePair.{VoltagePair}
use Rattle.lp_model.specs.declared.supply.Supplies.{Supplies}
use Rattle.lp_spec_design.specs.Keys.{Inner}
use Rattle.lp_spec_design.specs.Intents.{Network, FromPort, FromSwitch}
use Rattle.lp_spec_network.specs.Views.{first_row, rows_of, lower_sets, leaking_sets, network_view}
use Rattle.lp_spec_network.specs.Pairs.{pairs_of}
use Rattle.lp_spec_network.proofs.Samples.{supplies, untabled}

-- set 1 is always lower, by 0.2 and no more; a set that the switch feeds has the voltage of set 0
abbrev lower_than : Supplies → ℕ → List Bool
lower_than s by = map (λ (p : ℕ × ℕ). lower_sets s p.0 p.1 by) ((1, 0) ∷ (0, 1) ∷ (1, 2) ∷ (2, 1) ∷ (0, 2) ∷ (0, 0) ∷ (3, 0) ∷ [])

by_nothing : lower_than supplies 0 ≡ true ∷ false ∷ true ∷ false ∷ false ∷ false ∷ false ∷ []
by_nothing = refl

by_too_much : lower_than supplies 200000 ≡ false ∷ false ∷ false ∷ false ∷ false ∷ false ∷ false ∷ []
by_too_much = refl

-- without a table both may be lower by less than 0.4, but not the first
free_states : lower_than untabled 399999 ≡ true ∷ false ∷ true ∷ false ∷ false ∷ false ∷ false ∷ []
free_states = refl

the_first_row : map (λ (x : Supplies × ℕ × ℕ). first_row x.0 (λ row. lower_in x.0 row x.1 x.2 0)) ((supplies, 1, 0) ∷ (supplies, 0, 1) ∷ (untabled, 1, 0) ∷ []) ≡ Some 1 ∷ None ∷ Some 0 ∷ []
the_first_row = refl

-- of these two tests together only the second row passes both
second_row : first_row supplies (λ row. lower_in supplies row 1 0 100000 && within_in supplies row (state.On 1200000 ∷ state.Off ∷ state.On 0 ∷ [])) ≡ Some 2
second_row = refl

each_row_shows_it : map (λ row. lower_in supplies row 1 0 0) (rows_of supplies) ≡ true ∷ true ∷ []
each_row_shows_it = refl

no_row_shows_the_other : map (λ row. lower_in supplies row 0 1 0) (rows_of supplies) ≡ false ∷ false ∷ []
no_row_shows_the_other = refl

-- VDD at 1.2 with VDC at 0.8 is in no row; with VDC off it is
tuples : map (λ t. map (λ row. within_in supplies row t) (rows_of supplies)) ((state.On 1200000 ∷ state.On 800000 ∷ state.On 0 ∷ []) ∷ (state.On 1200000 ∷ state.Off ∷ state.On 0 ∷ []) ∷ []) ≡ (false ∷ false ∷ []) ∷ (false ∷ true ∷ []) ∷ []
tuples = refl

-- the switch may be off while VDD is on, and not the other way round
leaks : map (λ (p : ℕ × ℕ). leaking_sets supplies p.0 p.1) ((2, 0) ∷ (0, 2) ∷ (0, 1) ∷ (2, 1) ∷ []) ≡ true ∷ false ∷ false ∷ true ∷ []
leaks = refl

abbrev pair : ℕ → ℕ → VoltagePair
pair v w = record { input = v; output = w }

pairs_by_rows : pairs_of supplies 1 0 ≡ pair 800000 1000000 ∷ pair 1000000 1200000 ∷ []
pairs_by_rows = refl

pairs_of_one_root : pairs_of untabled 3 0 ≡ pair 1000000 1000000 ∷ pair 1200000 1200000 ∷ []
pairs_of_one_root = refl

all_pairs : pairs_of untabled 1 0 ≡ pair 800000 1000000 ∷ pair 800000 1200000 ∷ pair 1000000 1000000 ∷ pair 1000000 1200000 ∷ []
all_pairs = refl

abbrev network : Network
network = network_view (λ k. Inner (codes "sl") (Some k) []) 0 supplies

as_designs_have_it : network.origins ≡ FromPort ∷ FromPort ∷ FromPort ∷ FromSwitch 0 (Inner (codes "sl") (Some 5) []) true ∷ []
as_designs_have_it = refl

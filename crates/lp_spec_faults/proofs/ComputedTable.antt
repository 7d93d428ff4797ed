-- The line about the state table, computed on the small supply network.
use Rattle.std.proofs.Common.{◌≡◌, true, false, Bool, [], ◌∷◌, Option, Some, None, refl}
use Rattle.std.specs.Prelude.{ℕ, ◌==◌, List, map, if◌then◌else◌}
use Rattle.lp_model.specs.declared.intent.DeclaredState.{DeclaredState}
use Rattle.lp_model.specs.declared.intent.DeclaredState.TheVariants.{On, Off}
use Rattle.lp_model.specs.declared.intent.RowState.{RowState}
use Rattle.lp_model.specs.declared.intent.RowState.TheVariants as listed
use Rattle.lp_spec_network.proofs.Samples.{supplies}
use Rattle.lp_spec_faults.specs.Lines.{first_of}
use Rattle.lp_spec_faults.specs.StateTable.{Entry, OfRow, OfSwitch, StateTable, state_mismatch}

-- columns for VDD, for VDC, for the switch that VDD feeds, and a second one for VDC
abbrev table : List DeclaredState → List (ℕ × List RowState) → List (ℕ × ℕ) → StateTable
table states rows switches = record { supplies = supplies; columns = 0 ∷ 1 ∷ 3 ∷ 1 ∷ []; rows = rows; switches = switches; output_states = λ o. if o == 3 then states else [] }

-- a row, or a switch
abbrev at : Option Entry → Option (Bool × ℕ)
at None = None
at (Some (OfRow n states)) = Some (true, n)
at (Some (OfSwitch o)) = Some (false, o)

abbrev of_rows : List (List RowState) → List (Option (Bool × ℕ))
of_rows rows = map (λ r. at (first_of (state_mismatch (table [] ((0, r) ∷ []) [])))) rows

-- a port at a voltage that it has, with the switch off, on at the same voltage as its root, or not listed
rows_with_a_combination : of_rows ((listed.Free ∷ listed.On 800000 ∷ listed.Off ∷ listed.Free ∷ []) ∷ (listed.On 1200000 ∷ listed.On 800000 ∷ listed.On 1200000 ∷ listed.Free ∷ []) ∷ (listed.Free ∷ listed.Free ∷ listed.On 1200000 ∷ listed.Free ∷ []) ∷ (listed.Free ∷ listed.Free ∷ listed.Free ∷ listed.Free ∷ []) ∷ []) ≡ None ∷ None ∷ None ∷ None ∷ []
rows_with_a_combination = refl

-- a switch on at another voltage than its root, at one that the root lacks, and under a root that is off
rows_without_a_combination : of_rows ((listed.On 1000000 ∷ listed.Free ∷ listed.On 1200000 ∷ listed.Free ∷ []) ∷ (listed.Free ∷ listed.Free ∷ listed.On 800000 ∷ listed.Free ∷ []) ∷ (listed.Off ∷ listed.Free ∷ listed.On 1000000 ∷ listed.Free ∷ []) ∷ []) ≡ Some (true, 1) ∷ Some (true, 1) ∷ Some (true, 1) ∷ []
rows_without_a_combination = refl

-- one supply in two columns, with two different states, and with one
supply_listed_twice : of_rows ((listed.Free ∷ listed.On 800000 ∷ listed.Free ∷ listed.On 1000000 ∷ []) ∷ (listed.Free ∷ listed.On 800000 ∷ listed.Free ∷ listed.Off ∷ []) ∷ (listed.Free ∷ listed.On 800000 ∷ listed.Free ∷ listed.On 800000 ∷ []) ∷ (listed.Free ∷ listed.On 800000 ∷ listed.Free ∷ listed.Free ∷ []) ∷ []) ≡ Some (true, 1) ∷ Some (true, 1) ∷ None ∷ None ∷ []
supply_listed_twice = refl

-- the switch declares a voltage that VDD lacks
states_of_a_switch : map (λ states. at (first_of (state_mismatch (table states [] ((0, 3) ∷ []))))) ((Off ∷ On 1200000 ∷ On 1100000 ∷ []) ∷ (Off ∷ On 1200000 ∷ On 1000000 ∷ []) ∷ [] ∷ []) ≡ Some (false, 3) ∷ None ∷ None ∷ []
states_of_a_switch = refl

-- the second row lacks a combination, and the switch a state: the one of the earlier command comes first
first_of_two : map (λ k. at (first_of (state_mismatch (table (On 1100000 ∷ []) ((1, listed.Free ∷ listed.Free ∷ listed.Free ∷ []) ∷ (3, listed.Off ∷ listed.Free ∷ listed.On 1000000 ∷ []) ∷ []) ((k, 3) ∷ []))))) (4 ∷ 2 ∷ 0 ∷ []) ≡ Some (true, 2) ∷ Some (false, 3) ∷ Some (false, 3) ∷ []
first_of_two = refl

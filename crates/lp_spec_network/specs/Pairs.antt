-- The voltages that two supplies may have together (own rule; IEEE 1801-2015 add_port_state, add_pst_state).
use Rattle.std.specs.Prelude.{ℕ, ◌==◌, Bool, ◌&&◌, if◌then◌else◌, List, [], ◌∷◌, map, flat_map}
use Rattle.std.specs.List.{list_any}
use Rattle.lp_model.specs.declared.intent.DeclaredState.{DeclaredState}
use Rattle.lp_model.specs.declared.intent.DeclaredState.TheVariants.{On, Off}
use Rattle.lp_model.specs.declared.intent.RowState.{RowState}
use Rattle.lp_model.specs.declared.need.VoltagePair.{VoltagePair}
use Rattle.lp_model.specs.declared.supply.Supplies.{Supplies}
use Rattle.lp_rows.specs.Network.{root_of}
use Rattle.lp_rows.specs.Rows.{allowed}
use Rattle.lp_spec_network.specs.Views.{rows_of}

abbrev pub voltages : List DeclaredState → List ℕ
voltages [] = []
voltages (On v ∷ xs) = v ∷ voltages xs
voltages (Off ∷ xs) = voltages xs

abbrev pub paired : ℕ → ℕ → VoltagePair
paired v w = record { input = v; output = w }

-- in a row: two supplies of one root have one voltage, any others each of their own
abbrev pub pairs_in : Supplies → ℕ → ℕ → List RowState → List VoltagePair
pairs_in s a b row =
    if root_of s a == root_of s b then map (λ v. paired v v) (voltages (allowed s row (root_of s a)))
    else flat_map (λ v. map (paired v) (voltages (allowed s row (root_of s b)))) (voltages (allowed s row (root_of s a)))

abbrev pub same_pair : VoltagePair → VoltagePair → Bool
same_pair p q = (p.input == q.input) && (p.output == q.output)

-- each pair once
abbrev pub once : List VoltagePair → List VoltagePair
once [] = []
once (p ∷ ps) = if list_any (same_pair p) ps then once ps else p ∷ once ps

-- in all rows
abbrev pub pairs_of : Supplies → ℕ → ℕ → List VoltagePair
pairs_of s a b = once (flat_map (pairs_in s a b) (rows_of s))

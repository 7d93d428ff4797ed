-- The lowest and the highest voltage among states, and one supply below another.
use Rattle.std.specs.Prelude.{◌+◌, ℕ, nat_lt, Bool, false, if◌then◌else◌, List, [], ◌∷◌, Option, Some, None}
use Rattle.lp_tern.specs.declared.supply.SupplyState.{SupplyState}
use Rattle.lp_tern.specs.declared.supply.SupplyState.TheVariants as State
use Rattle.lp_model.specs.declared.intent.DeclaredState.{DeclaredState}
use Rattle.lp_model.specs.declared.intent.DeclaredState.TheVariants.{On, Off}

abbrev pub lesser : Option ℕ → ℕ → ℕ
lesser None v = v
lesser (Some u) v = if nat_lt v u then v else u

abbrev pub greater : Option ℕ → ℕ → ℕ
greater None v = v
greater (Some u) v = if nat_lt u v then v else u

-- the lowest voltage of a state that is on, or one that was found before
abbrev pub lowest_from : Option ℕ → List DeclaredState → Option ℕ
lowest_from found [] = found
lowest_from found (On v ∷ xs) = lowest_from (Some (lesser found v)) xs
lowest_from found (Off ∷ xs) = lowest_from found xs

abbrev pub highest_from : Option ℕ → List DeclaredState → Option ℕ
highest_from found [] = found
highest_from found (On v ∷ xs) = highest_from (Some (greater found v)) xs
highest_from found (Off ∷ xs) = highest_from found xs

-- the first voltage with a number added is below the second
abbrev pub is_below : ℕ → Option ℕ → Option ℕ → Bool
is_below d (Some v) (Some w) = nat_lt (v + d) w
is_below d (Some v) None = false
is_below d None w = false

-- own rule: both sets, each a power and a ground, are on, and the first power voltage with a margin added is below the
-- second
abbrev pub under_of : SupplyState → SupplyState → SupplyState → SupplyState → ℕ → Bool
under_of (State.On v) (State.On g) (State.On w) (State.On h) margin = nat_lt (v + margin) w
under_of _ _ _ _ margin = false

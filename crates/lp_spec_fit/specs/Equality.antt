-- Boolean functions that are equal: they have one value for each choice of 0 or 1 for the things on which they depend (own rule).
use Rattle.std.specs.Prelude.{ℕ, zero, suc, nat_le, Bool, true, false, ◌&&◌, if◌then◌else◌, List, [], ◌∷◌, ◌++◌, map, length}
use Rattle.std.specs.List.{list_any, list_all}
use Rattle.lp_spec_design.specs.Keys.{same_bool}

-- every choice of 0 or 1 for a number of things
abbrev pub choices : ℕ → List (List Bool)
choices zero = [] ∷ []
choices (suc n) = map (λ c. false ∷ c) (choices n) ++ map (λ c. true ∷ c) (choices n)

module _ {K : Type 0} (same : K → K → Bool) where
  -- each thing of a list once
  abbrev pub once : List K → List K
  once [] = []
  once (k ∷ ks) = if list_any (same k) ks then once ks else k ∷ once ks

  -- what a choice for the things of a list gives to one of them
  abbrev pub chosen : List K → List Bool → K → Bool
  chosen [] c k = false
  chosen (j ∷ js) [] k = false
  chosen (j ∷ js) (b ∷ c) k = if same j k then b else chosen js c k

  abbrev pub agree_over : List K → ((K → Bool) → Bool) → ((K → Bool) → Bool) → Bool
  agree_over ks f g = list_all (λ c. same_bool (f (chosen ks c)) (g (chosen ks c))) (choices (length ks))

  -- equal for each choice; functions over more than 12 things count as different
  abbrev pub are_equal : List K → ((K → Bool) → Bool) → ((K → Bool) → Bool) → Bool
  are_equal ks f g = nat_le (length (once ks)) 12 && agree_over (once ks) f g

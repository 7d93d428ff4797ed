-- What commands made, in the order of the commands (own rule).
use Rattle.std.specs.Prelude.{ℕ, ◌+◌, max, nat_le, ◌==◌, Bool, true, ◌&&◌, List, [], ◌∷◌, map, filter, flat_map}
use Rattle.std.specs.List.{list_all}
use Rattle.lp_spec_design.specs.Netlists.{upward}

-- one more than the greatest number
abbrev pub numbers_below : {A : Type 0} → List (ℕ × A) → ℕ
numbers_below [] = 0
numbers_below (x ∷ xs) = max (x.0 + 1) (numbers_below xs)

-- of things with the numbers of their commands, those of one command
abbrev pub of_command : {A : Type 0} → List (ℕ × A) → ℕ → List (ℕ × A)
of_command all k = filter (λ x. x.0 == k) all

-- for each command, from the first one on, what it made
abbrev pub by_commands : {A : Type 0} → List (ℕ × A) → List (ℕ × A)
by_commands all = flat_map (of_command all) (upward (numbers_below all) 0)

abbrev pub in_command_order : {A : Type 0} → List (ℕ × A) → List A
in_command_order all = map (λ x. x.1) (by_commands all)

-- no number is above one behind it
abbrev pub goes_up : {A : Type 0} → List (ℕ × A) → Bool
goes_up [] = true
goes_up (x ∷ xs) = list_all (λ y. nat_le x.0 y.0) xs && goes_up xs

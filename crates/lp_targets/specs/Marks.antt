-- Marks by number, and the modules that no instance is of, by the numbers of names in place of their texts.
use Rattle.std.specs.Prelude.{◌≡◌, ℕ, Bool, false, not, ◌||◌, List, map, filter, length, flat_map, slice_index_or}
use Rattle.lp_model.specs.declared.netlist.Instance.{Instance}
use Rattle.lp_model.specs.declared.netlist.Module.{Module}
use Rattle.lp_places.specs.Places.{has_number}

abbrev pub HasNoMarks : List Bool → Type 0
HasNoMarks marks = (n : ℕ) → slice_index_or marks n false ≡ false

-- these numbers are marked too
abbrev pub AddsMarks : List Bool → List Bool → List ℕ → Type 0
AddsMarks old new ks = (n : ℕ) → slice_index_or new n false ≡ (slice_index_or old n false || has_number n ks)

abbrev pub targets_in : List Instance → List ℕ
targets_in xs = map (λ (i : Instance). i.target.0) xs

abbrev pub all_targets : List Module → List ℕ
all_targets ms = flat_map (λ (m : Module). targets_in m.instances) ms

-- these numbers are marked, and no others
abbrev pub AreMarks : List Bool → List ℕ → Type 0
AreMarks marks ks = (n : ℕ) → slice_index_or marks n false ≡ has_number n ks

abbrev pub is_free : List Bool → Module → Bool
is_free marks m = not (slice_index_or marks m.name.0 false)

abbrev pub count_free : List Bool → List Module → ℕ
count_free marks ms = length (filter (is_free marks) ms)

abbrev pub tops_numbered : List Module → ℕ
tops_numbered ms = length (filter (λ (m : Module). not (has_number m.name.0 (all_targets ms))) ms)

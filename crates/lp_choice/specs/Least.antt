-- The first of the least areas, found from the last cell to the first (own rule).
use Rattle.std.specs.Prelude.{ℕ, ◌+◌, nat_le, Bool, if◌then◌else◌, List, [], ◌∷◌, Option, Some, None}
use Rattle.std.specs.Option.{option_map}
use Rattle.lp_model.specs.LibraryView.{CellView}
use Rattle.lp_choice.specs.declared.least.Best.{Best}

-- the best of the cells from a place on, where that of those behind it is known: of equal areas the first counts
abbrev pub better : ℕ → Option ℕ → Option Best → Option Best
better k None best = best
better k (Some a) None = Some (record { place = k; area = a })
better k (Some a) (Some b) = if nat_le a b.area then Some (record { place = k; area = a }) else Some b

-- the best of a list that is counted from a place, in which each cell that fits has its area
abbrev pub least_from : ℕ → List (Option ℕ) → Option Best
least_from k [] = None
least_from k (x ∷ xs) = better k x (least_from (k + 1) xs)

-- its place
abbrev pub least_place : List (Option ℕ) → Option ℕ
least_place areas = option_map (λ (b : Best). b.place) (least_from 0 areas)

-- the area of a cell that passes a test
abbrev pub area_if : (CellView → Bool) → CellView → Option ℕ
area_if fits c = if fits c then Some c.area else None

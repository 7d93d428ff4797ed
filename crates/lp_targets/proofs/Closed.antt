-- The places of children are places of modules, and those of cells are places of cells.
use Rattle.std.proofs.Common.{◌≡◌, ℕ, suc, ◌<◌, List, [], ◌∷◌, length, Option, Some, None, refl, sym, ap, ◌∙◌, subst}
use Rattle.std.specs.Prelude.{map}
use Rattle.std.specs.List.{All}
use Rattle.std.proofs.lemmas.List.Elements.{All-nil, All-cons}
use Rattle.lp_model.specs.declared.library.Cell.{Cell}
use Rattle.lp_model.specs.declared.netlist.Instance.{Instance}
use Rattle.lp_model.specs.declared.netlist.Module.{Module}
use Rattle.lp_order.specs.Order.{ReadsBelow}
use Rattle.lp_spec_design.specs.Graph.{and_more, some_of}
use Rattle.lp_places.specs.Places.{place_of_number}
use Rattle.lp_places.proofs.Numbers.{place-below}
use Rattle.lp_targets.specs.declared.target.Target.{Target}
use Rattle.lp_targets.specs.Numbered.{module_numbers, cell_numbers, target_by, target_of, row_in}
use Rattle.lp_targets.specs.Children.{children_of, children, cells_of, cell_rows}

pub count_map : {A B : Type 0} (f : A → B) (xs : List A) → length (map f xs) ≡ length xs
count_map f [] = refl
count_map f (x ∷ xs) = ap suc (count_map f xs)

module _ (modules cells : List ℕ) where
  row_below : (xs : List Instance) → All (λ b. b < length modules) (children_of (some_of (target_of modules cells) xs))
  row_below [] = All-nil (λ b. b < length modules)
  row_below (x ∷ xs) = by (place_of_number x.target.0 modules) refl (place_of_number x.target.0 cells) (row_below xs)
    where
      by : (p : Option ℕ) → place_of_number x.target.0 modules ≡ p → (q : Option ℕ) → All (λ b. b < length modules) (children_of (some_of (target_of modules cells) xs)) → All (λ b. b < length modules) (children_of (and_more (target_by p q) (some_of (target_of modules cells) xs)))
      by (Some k) e q rest = All-cons (λ b. b < length modules) k (children_of (some_of (target_of modules cells) xs)) (place-below x.target.0 modules k e) rest
      by None e (Some k) rest = rest
      by None e None rest = rest

  rows_below : (ms : List Module) → ReadsBelow (length modules) (children (map (row_in modules cells) ms))
  rows_below [] = All-nil (λ (row : List ℕ). All (λ b. b < length modules) row)
  rows_below (m ∷ ms) = All-cons (λ (row : List ℕ). All (λ b. b < length modules) row) (children_of (row_in modules cells m)) (children (map (row_in modules cells) ms)) (row_below m.instances) (rows_below ms)

pub closed : (im ic : List ℕ) (ms : List Module) → im ≡ module_numbers ms → (rows : List (List Target)) → rows ≡ map (row_in im ic) ms → ReadsBelow (length rows) (children rows)
closed im ic ms is_im rows is_rows =
    let count : length im ≡ length rows = ap length is_im ∙ count_map (λ (m : Module). m.name.0) ms ∙ sym (count_map (row_in im ic) ms) ∙ sym (ap length is_rows) in
    subst (λ k. ReadsBelow k (children rows)) count (subst (λ (rs : List (List Target)). ReadsBelow (length im) (children rs)) (sym is_rows) (rows_below im ic ms))

pub counted : (im ic : List ℕ) (ms all : List Module) → ms ≡ all → (rows : List (List Target)) → rows ≡ map (row_in im ic) ms → length rows ≡ length all
counted im ic ms all is rows e = ap length e ∙ count_map (row_in im ic) ms ∙ ap length is

module _ (modules cells : List ℕ) where
  cells_below : (xs : List Instance) → All (λ k. k < length cells) (cells_of (some_of (target_of modules cells) xs))
  cells_below [] = All-nil (λ k. k < length cells)
  cells_below (x ∷ xs) = by (place_of_number x.target.0 modules) (place_of_number x.target.0 cells) refl (cells_below xs)
    where
      by : (p q : Option ℕ) → place_of_number x.target.0 cells ≡ q → All (λ k. k < length cells) (cells_of (some_of (target_of modules cells) xs)) → All (λ k. k < length cells) (cells_of (and_more (target_by p q) (some_of (target_of modules cells) xs)))
      by (Some j) q e rest = rest
      by None (Some k) e rest = All-cons (λ b. b < length cells) k (cells_of (some_of (target_of modules cells) xs)) (place-below x.target.0 cells k e) rest
      by None None e rest = rest

  all_cells_below : (ms : List Module) → ReadsBelow (length cells) (cell_rows (map (row_in modules cells) ms))
  all_cells_below [] = All-nil (λ (row : List ℕ). All (λ b. b < length cells) row)
  all_cells_below (m ∷ ms) = All-cons (λ (row : List ℕ). All (λ b. b < length cells) row) (cells_of (row_in modules cells m)) (cell_rows (map (row_in modules cells) ms)) (cells_below m.instances) (all_cells_below ms)

pub cells_within : (im ic : List ℕ) (ms : List Module) (cs all : List Cell) → cs ≡ all → ic ≡ cell_numbers cs → (rows : List (List Target)) → rows ≡ map (row_in im ic) ms → ReadsBelow (length all) (cell_rows rows)
cells_within im ic ms cs all is_cs is_ic rows is_rows =
    let count : length ic ≡ length all = ap length is_ic ∙ count_map (λ (x : Cell). x.name.0) cs ∙ ap length is_cs in
    subst (λ k. ReadsBelow k (cell_rows rows)) count (subst (λ (rs : List (List Target)). ReadsBelow (length ic) (cell_rows rs)) (sym is_rows) (all_cells_below im ic ms))

pub closed_children : (rows : List (List Target)) (graph : List (List ℕ)) → graph ≡ children rows → ReadsBelow (length rows) (children rows) → ReadsBelow (length graph) graph
closed_children rows graph e below =
    subst (λ g. ReadsBelow (length g) g) (sym e) (subst (λ k. ReadsBelow k (children rows)) (sym (count_map children_of rows)) below)

-- Cells by the numbers of their names in place of the texts.
use Rattle.std.proofs.Common.{Bor, ◌≡◌, ℕ, suc, ◌==◌, Bool, true, false, List, [], ◌∷◌, Option, Some, None, refl, ap}
use Rattle.std.specs.Prelude.{map, slice_get, bytes_eq, if◌then◌else◌}
use Rattle.std.specs.Option.{option_map, option_and_then, option_copied}
use Rattle.lp_text.specs.Texts.{text_at, place_of, same_text, same_text_comm}
use Rattle.lp_model.specs.declared.library.Cell.{Cell}
use Rattle.lp_model.specs.LibraryView.{cell_view}
use Rattle.lp_spec_plain_netlist.specs.Fits.{cell_named}
pub use Rattle.lp_places.proofs.Numbers.{below-left, below-right, below-head, below-tail, same_name, place_of_text, place-below, is_some-place}
use Rattle.lp_places.specs.Places.{place_of_number}
use Rattle.lp_plain_index.specs.Cells.{cell_numbered}

-- ---- cells

pub map_map : {A B C : Type 0} (g : B → C) (f : A → B) (xs : List A) → map g (map f xs) ≡ map (λ x. g (f x)) xs
map_map g f [] = refl
map_map g f (x ∷ xs) = ap (λ ys. g (f x) ∷ ys) (map_map g f xs)

-- a cell by the place of its name
pub cell_at : (texts : List (List ℕ)) (cells : List Cell) (t : List ℕ) → option_map (cell_view texts) (option_and_then (slice_get cells) (place_of t (map (λ c. text_at texts c.name.0) cells))) ≡ cell_named (map (cell_view texts) cells) t
cell_at texts [] t = refl
cell_at texts (c ∷ cells) t = by (same_text t (text_at texts c.name.0)) (same_text_comm (text_at texts c.name.0) t) (place_of t (map (λ c. text_at texts c.name.0) cells)) (cell_at texts cells t)
  where
    by : (b : Bool) → bytes_eq (text_at texts c.name.0) t ≡ b → (r : Option ℕ) → option_map (cell_view texts) (option_and_then (slice_get cells) r) ≡ cell_named (map (cell_view texts) cells) t → option_map (cell_view texts) (option_and_then (slice_get (c ∷ cells)) (if b then Some 0 else option_map suc r)) ≡ cell_named (map (cell_view texts) (c ∷ cells)) t
    by true s r e = rw (s) refl
    by false s None e = rw (s) e
    by false s (Some k) e = rw (s) e

pub copied_cell : (texts : List (List ℕ)) (r : Option (Bor Cell)) → option_map (λ c. cell_view texts c.now) r ≡ option_map (cell_view texts) (option_copied r)
copied_cell texts None = refl
copied_cell texts (Some c) = refl

-- a cell by the place of its number
pub cell_at_number : (cells : List Cell) (n : ℕ) → option_and_then (slice_get cells) (place_of_number n (map (λ c. c.name.0) cells)) ≡ cell_numbered cells n
cell_at_number [] n = refl
cell_at_number (c ∷ cells) n = by (n == c.name.0) (place_of_number n (map (λ c. c.name.0) cells)) (cell_at_number cells n)
  where
    by : (b : Bool) (r : Option ℕ) → option_and_then (slice_get cells) r ≡ cell_numbered cells n → option_and_then (slice_get (c ∷ cells)) (if b then Some 0 else option_map suc r) ≡ (if b then Some c else cell_numbered cells n)
    by true r e = refl
    by false None e = e
    by false (Some k) e = e

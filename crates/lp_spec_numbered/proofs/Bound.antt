-- What each instance is of, by place: a module or a cell that there is.
use Rattle.std.proofs.Common.{◌≡◌, ℕ, zero, suc, ◌<◌, List, [], ◌∷◌, length, Some, sym, ap, ◌∙◌, subst, arith}
use Rattle.std.specs.Prelude.{map, slice_get, slice_index_or}
use Rattle.std.specs.List.{All}
use Rattle.lp_model.specs.NetlistView.{InstanceView, ModuleView}
use Rattle.lp_spec_design.specs.Netlists.{Structure, module_named, cell_named}
use Rattle.lp_targets.specs.declared.target.Target.{Target}
use Rattle.lp_targets.specs.declared.target.Target.TheVariants.{OfModule, OfCell}
use Rattle.lp_targets.specs.Targets.{module_of, cell_of}
use Rattle.lp_targets.specs.Children.{children_of, children, cells_of, cell_rows}
use Rattle.lp_targets.specs.Sizes.{AreRows}
use Rattle.lp_targets.proofs.Recursion.{at_place, row_at}
use Rattle.lp_targets.proofs.Looping.{count}
use Rattle.lp_spec_numbered.proofs.Places.{length-map, within-list}

all-first : (n x : ℕ) (xs : List ℕ) → All (λ b. b < n) (x ∷ xs) → x < n
all-first n x xs all = all 0 0 (omega arith)

all-behind : (n x : ℕ) (xs : List ℕ) → All (λ b. b < n) (x ∷ xs) → All (λ b. b < n) xs
all-behind n x xs all = λ i d h. all (suc i) d (omega (arith, h))

module-below : (n : ℕ) (row : List Target) (i k : ℕ) → All (λ b. b < n) (children_of row) → slice_get row i ≡ Some (OfModule k) → k < n
module-below n [] i k all e = cc
module-below n (OfModule j ∷ row) zero k all e = let is : j ≡ k = cc in subst (λ z. z < n) is (all-first n j (children_of row) all)
module-below n (OfModule j ∷ row) (suc i) k all e = module-below n row i k (all-behind n j (children_of row) all) e
module-below n (OfCell j ∷ row) zero k all e = cc
module-below n (OfCell j ∷ row) (suc i) k all e = module-below n row i k all e

cell-below : (n : ℕ) (row : List Target) (i k : ℕ) → All (λ b. b < n) (cells_of row) → slice_get row i ≡ Some (OfCell k) → k < n
cell-below n [] i k all e = cc
cell-below n (OfCell j ∷ row) zero k all e = let is : j ≡ k = cc in subst (λ z. z < n) is (all-first n j (cells_of row) all)
cell-below n (OfCell j ∷ row) (suc i) k all e = cell-below n row i k (all-behind n j (cells_of row) all) e
cell-below n (OfModule j ∷ row) zero k all e = cc
cell-below n (OfModule j ∷ row) (suc i) k all e = cell-below n row i k all e

cell-row-at : (rows : List (List Target)) (a : ℕ) (row : List Target) → slice_get rows a ≡ Some row → slice_index_or (cell_rows rows) a [] ≡ cells_of row
cell-row-at [] a row e = cc
cell-row-at (r ∷ rows) zero row e = let is : r ≡ row = cc in ap cells_of is
cell-row-at (r ∷ rows) (suc a) row e = cell-row-at rows a row e

-- an instance is of what the target says, which there is
pub record IsBound (s : Structure) (y : InstanceView) (t : Target) : Type 0 where
  pub of_module : module_of s t ≡ module_named s y.target
  pub of_cell : cell_of s t ≡ cell_named s y.target
  pub modules : (k : ℕ) → t ≡ OfModule k → k < length s.modules
  pub cells : (k : ℕ) → t ≡ OfCell k → k < length s.cells

-- and each of a module's instances has its target, and each target its instance
pub record IsRow (s : Structure) (m : ModuleView) (row : List Target) : Type 0 where
  pub each : (i : ℕ) (y : InstanceView) → slice_get m.instances i ≡ Some y → (t : Target) × (slice_get row i ≡ Some t) × IsBound s y t
  pub held : (i : ℕ) (t : Target) → slice_get row i ≡ Some t → (y : InstanceView) × (slice_get m.instances i ≡ Some y) × IsBound s y t

module _ (s : Structure) (rows : List (List Target)) (known : AreRows s rows) where
  pub bound-row : (a : ℕ) (m : ModuleView) → slice_get s.modules a ≡ Some m → (row : List Target) × (slice_get rows a ≡ Some row) × IsRow s m row
  bound-row a m at =
      let there = at_place (map (module_of s)) (λ (x : ModuleView). map (λ (i : InstanceView). module_named s i.target) x.instances) rows s.modules known.targets.modules a m at in
      let again = at_place (map (cell_of s)) (λ (x : ModuleView). map (λ (i : InstanceView). cell_named s i.target) x.instances) rows s.modules known.targets.cells a m at in
      let row : List Target = there.0 in
      let both : Some again.0 ≡ Some row = sym again.1 ∙ there.1 in
      let same : again.0 ≡ row = cc in
      let cells : map (cell_of s) row ≡ map (λ (i : InstanceView). cell_named s i.target) m.instances = subst (λ (r : List Target). map (cell_of s) r ≡ map (λ (i : InstanceView). cell_named s i.target) m.instances) same again.2 in
      let place : a < length rows = within-list rows a row there.1 in
      let places : length (children rows) ≡ length rows = length-map children_of rows in
      let cell-places : length (cell_rows rows) ≡ length rows = length-map cells_of rows in
      let inner : All (λ b. b < length rows) (children_of row) = subst (All (λ b. b < length rows)) (row_at rows a row there.1) (known.closed a [] (omega (arith, place, places))) in
      let leaves : All (λ b. b < length s.cells) (cells_of row) = subst (All (λ b. b < length s.cells)) (cell-row-at rows a row there.1) (known.cells a [] (omega (arith, place, cell-places))) in
      let many : length rows ≡ length s.modules = sym places ∙ count s rows known.targets in
      let bind : (i : ℕ) (y : InstanceView) → slice_get m.instances i ≡ Some y → (t : Target) × (slice_get row i ≡ Some t) × IsBound s y t =
      λ i y e.
      let t = at_place (module_of s) (λ (x : InstanceView). module_named s x.target) row m.instances there.2 i y e in
      let u = at_place (cell_of s) (λ (x : InstanceView). cell_named s x.target) row m.instances cells i y e in
      let equal : Some u.0 ≡ Some t.0 = sym u.1 ∙ t.1 in
      let is : u.0 ≡ t.0 = cc in (
        t.0,
        t.1,
        record {
          of_module = t.2;
          of_cell = ap (cell_of s) (sym is) ∙ u.2;
          modules = λ k f. subst (λ z. k < z) many (module-below (length rows) row i k inner (t.1 ∙ ap (λ (z : Target). Some z) f));
          cells = λ k f. cell-below (length s.cells) row i k leaves (t.1 ∙ ap (λ (z : Target). Some z) f);
        },
      ) in (
        row,
        there.1,
        record {
          each = bind;
          held = λ i t e.
              let y = at_place (λ (x : InstanceView). module_named s x.target) (module_of s) m.instances row (sym there.2) i t e in
              let found = bind i y.0 y.1 in
              let equal : Some found.0 ≡ Some t = sym found.1 ∙ e in
              let is : found.0 ≡ t = cc in (y.0, y.1, subst (IsBound s y.0) is found.2);
        },
      )

-- Where no cell lacks, each operator has its place and its cell.
use Rattle.std.proofs.Common.{◌≡◌, ℕ, suc, ◌+◌, Bool, true, false, cond, not, List, [], ◌∷◌, map, Option, Some, None, refl, ap, ◌∙◌, arith}
use Rattle.std.specs.Prelude.{is_some, slice_get, option_and_then}
use Rattle.std.proofs.lemmas.Bool.{true≢false, false≢true}
use Rattle.lp_model.specs.declared.supply.SetOrigins.{SetOrigins}
use Rattle.lp_model.specs.LibraryView.{CellView}
use Rattle.lp_spec_design.specs.Keys.{Path}
use Rattle.lp_spec_design.specs.Intents.{Strategy}
use Rattle.lp_spec_design.specs.Domains.{first_number}
use Rattle.lp_spec_design.specs.Chains.{Operator, Clamp, Shift}
use Rattle.lp_spec_design.proofs.Members.{in-left, in-map}
use Rattle.lp_spec_realises.specs.Projects.{Project, functions_of}
use Rattle.lp_spec_realises.specs.Operators.{OperatorAt, all_operators}
use Rattle.lp_spec_realises.specs.Realises.{primary_at}
use Rattle.lp_spec_realises.specs.Implements.{Lists, clamp_chosen, shifter_chosen, operator_path, operator_chosen}
use Rattle.lp_spec_faults.specs.Lines.{first_of}
use Rattle.lp_spec_faults.specs.Readings.{OfOperator, lacks_cell, no_cell}
use Rattle.lp_spec_written.specs.Places.{cell_numbered, standing_at}
use Rattle.lp_spec_hub.specs.Entries.{HasItsCells}
use Rattle.lp_spec_hub.proofs.Flow.{none-first}

number-there : (t : CellView → Bool) (k n : ℕ) (xs : List CellView) → first_number t k xs ≡ Some n → (m : ℕ) × (n ≡ k + m) × (is_some (slice_get xs m) ≡ true)
number-there t k n [] e = absurd cc
number-there t k n (x ∷ xs) e = by (t x) e (number-there t (k + 1) n xs)
  where
    by : (b : Bool) → cond b (Some k) (first_number t (k + 1) xs) ≡ Some n → (first_number t (k + 1) xs ≡ Some n → (m : ℕ) × (n ≡ (k + 1) + m) × (is_some (slice_get xs m) ≡ true)) → (m : ℕ) × (n ≡ k + m) × (is_some (slice_get (x ∷ xs) m) ≡ true)
    by true e more = let same : k ≡ n = cc in (0, omega (arith, same), refl)
    by false e more = let found = more e in let is = found.1 in (suc found.0, omega (arith, is), found.2)

pub choice-there : (t : CellView → Bool) (cells : List CellView) (n : ℕ) → first_number t 0 cells ≡ Some n → is_some (slice_get cells n) ≡ true
choice-there t cells n e = let found = number-there t 0 n cells e in let same : n ≡ found.0 = omega (arith, found.1) in ap (λ m. is_some (slice_get cells m)) same ∙ found.2

module _ (p : Project) (l : Lists) where
  clamp-there : (path : Path) (k n : ℕ) (s q : Option SetOrigins) (t : Option Strategy) → clamp_chosen p l path k s q t ≡ Some n → is_some (slice_get p.structure.cells n) ≡ true
  clamp-there path k n (Some s) (Some q) (Some t) e = choice-there _ p.structure.cells n e
  clamp-there path k n None q t e = absurd cc
  clamp-there path k n (Some s) None t e = absurd cc
  clamp-there path k n (Some s) (Some q) None e = absurd cc

  shifter-there : (k n : ℕ) (a b : Option SetOrigins) → shifter_chosen p l k a b ≡ Some n → is_some (slice_get p.structure.cells n) ≡ true
  shifter-there k n (Some a) (Some b) e = choice-there _ p.structure.cells n e
  shifter-there k n None b e = absurd cc
  shifter-there k n (Some a) None e = absurd cc

  chosen-there : (path : Path) (o : Operator) (n : ℕ) → operator_chosen p l path o ≡ Some n → is_some (slice_get p.structure.cells n) ≡ true
  chosen-there path (Clamp t i) n e = clamp-there path t n (functions_of p (Some i)) (primary_at p path) (slice_get p.intent.strategies t) e
  chosen-there path (Shift t a b) n e = shifter-there t n (functions_of p (Some a)) (functions_of p (Some b)) e

  pub then-some : {A B : Type 0} (f : A → B) (o : Option A) → is_some o ≡ true → is_some (option_and_then (λ x. Some (f x)) o) ≡ true
  then-some f None e = absurd (false≢true e)
  then-some f (Some x) e = refl

  cell-there : (path : Path) (o : Operator) (k : Option ℕ) → operator_chosen p l path o ≡ k → not (is_some k) ≡ false → is_some (cell_numbered p k) ≡ true
  cell-there path o None e h = absurd (true≢false h)
  cell-there path o (Some n) e h = chosen-there path o n e

  stands : (o : OperatorAt) (x : Option Path) → operator_path p o ≡ x → lacks_cell p l (OfOperator o) ≡ false → is_some (standing_at p l o x) ≡ true
  stands o None is h = let wrong : true ≡ false = rw is at h in absurd (true≢false wrong)
  stands o (Some path) is h =
      let chosen : not (is_some (operator_chosen p l path o.operator)) ≡ false = rw is at h in
      then-some (λ (c : CellView). record { asked = o; path = path; cell = c }) (cell_numbered p (operator_chosen p l path o.operator)) (cell-there path o.operator (operator_chosen p l path o.operator) refl chosen)

  pub cells-there : first_of (no_cell p l) ≡ None → HasItsCells p l
  cells-there none o h =
      stands o (operator_path p o) refl
      (none-first (no_cell p l).test (no_cell p l).places none (OfOperator o) (in-left (OfOperator o) (map (λ q. OfOperator q) (all_operators p)) _ (in-map (λ q. OfOperator q) o (all_operators p) h)))

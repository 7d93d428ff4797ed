-- What statements hold stays as it is while the tables behind them grow.
use Rattle.std.proofs.Common.{◌≡◌, ℕ, zero, suc, ◌+◌, ◌<◌, ◌≤◌, List, [], ◌∷◌, ◌++◌, length, take, drop, Some, None, refl, ap, subst, ◌∙◌, arith, length-append}
use Rattle.std.specs.Prelude.{map, slice_get, slice_index_or}
use Rattle.std.proofs.lemmas.List.{get_or_append_left, get_or-append-add, take-append-le, drop-append-le, length-drop, map-append}
use Rattle.lp_model.specs.declared.graph.PinNet.{PinNet}
use Rattle.lp_spec_layout.specs.Parts as parts
use Rattle.lp_templates.specs.declared.template.Child.{Child}
use Rattle.lp_templates.specs.declared.template.CellRow.{CellRow}
use Rattle.lp_templates.specs.declared.template.Statement.{Statement}
use Rattle.lp_templates.specs.declared.template.Statement.TheVariants.{OfModule, OfCell}
use Rattle.lp_templates.specs.Views.{child_view, cell_view, no_child, statement_view, statements_view, IsHeld, AreHeld}

pub held_at : (children : List Child) (pins : List PinNet) (xs : List Statement) → AreHeld children pins xs → (k : ℕ) (x : Statement) → slice_get xs k ≡ Some x → IsHeld children pins x
held_at children pins [] held k x e = cc
held_at children pins (y ∷ ys) held zero x e = let same : y ≡ x = cc in subst (λ z. IsHeld children pins z) same held.0
held_at children pins (y ∷ ys) held (suc k) x e = held_at children pins ys held.1 k x e

-- ---- more modules

module _ (children : List Child) (pins : List PinNet) (c : Child) where
  child-held : (x : Statement) → IsHeld children pins x → IsHeld (children ++ c ∷ []) pins x
  child-held (OfModule k) held = omega (arith, held, length-append children (c ∷ []))
  child-held (OfCell r) held = held

  pub children_held : (xs : List Statement) → AreHeld children pins xs → AreHeld (children ++ c ∷ []) pins xs
  children_held [] held = tt
  children_held (x ∷ xs) held = (child-held x held.0, children_held xs held.1)

  child-same : (x : Statement) → IsHeld children pins x → statement_view (children ++ c ∷ []) pins x ≡ statement_view children pins x
  child-same (OfModule k) held = ap (λ z. parts.OfModule (child_view z)) (get_or_append_left children (c ∷ []) no_child k held)
  child-same (OfCell r) held = refl

  children-same : (xs : List Statement) → AreHeld children pins xs → statements_view (children ++ c ∷ []) pins xs ≡ statements_view children pins xs
  children-same [] held = refl
  children-same (x ∷ xs) held = λ i. child-same x held.0 i ∷ children-same xs held.1 i

  pub child_held : (xs : List Statement) → AreHeld children pins xs → AreHeld (children ++ c ∷ []) pins (xs ++ OfModule (length children) ∷ [])
  child_held [] held = (omega (arith, length-append children (c ∷ [])), tt)
  child_held (x ∷ xs) held = (child-held x held.0, child_held xs held.1)

  last : slice_index_or (children ++ c ∷ []) (length children) no_child ≡ c
  last = ap (λ k. slice_index_or (children ++ c ∷ []) k no_child) (let e : length children ≡ length children + 0 = omega arith in e) ∙ get_or-append-add children (c ∷ []) 0 no_child

  pub child_pushed : (xs : List Statement) → AreHeld children pins xs → statements_view (children ++ c ∷ []) pins (xs ++ OfModule (length children) ∷ []) ≡ statements_view children pins xs ++ parts.OfModule (child_view c) ∷ []
  child_pushed xs held =
      map-append (statement_view (children ++ c ∷ []) pins) xs (OfModule (length children) ∷ [])
      ∙ (λ i. children-same xs held i ++ parts.OfModule (child_view (last i)) ∷ [])

-- ---- more pins

module _ (children : List Child) (pins row : List PinNet) where
  row-held : (x : Statement) → IsHeld children pins x → IsHeld children (pins ++ row) x
  row-held (OfModule k) held = held
  row-held (OfCell r) held = omega (arith, held, length-append pins row)

  pub rows_held : (xs : List Statement) → AreHeld children pins xs → AreHeld children (pins ++ row) xs
  rows_held [] held = tt
  rows_held (x ∷ xs) held = (row-held x held.0, rows_held xs held.1)

  part-same : (start count : ℕ) → start + count ≤ length pins → take count (drop start (pins ++ row)) ≡ take count (drop start pins)
  part-same start count within =
      let here : start ≤ length pins = omega (arith, within) in
      let few : count ≤ length (drop start pins) = omega (arith, within, length-drop start pins) in
      ap (take count) (drop-append-le start pins row here) ∙ take-append-le count (drop start pins) row few

  row-same : (x : Statement) → IsHeld children pins x → statement_view children (pins ++ row) x ≡ statement_view children pins x
  row-same (OfModule k) held = refl
  row-same (OfCell r) held = ap (λ z. parts.OfCell (cell_view r.of r.before z)) (part-same r.start r.count held)

  rows-same : (xs : List Statement) → AreHeld children pins xs → statements_view children (pins ++ row) xs ≡ statements_view children pins xs
  rows-same [] held = refl
  rows-same (x ∷ xs) held = λ i. row-same x held.0 i ∷ rows-same xs held.1 i

  abbrev cell : ℕ → ℕ → Statement
  cell of before = OfCell (record { start = length pins; count = length row; of = of; before = before })

  pub row_held : (of before : ℕ) (xs : List Statement) → AreHeld children pins xs → AreHeld children (pins ++ row) (xs ++ cell of before ∷ [])
  row_held of before [] held = (omega (arith, length-append pins row), tt)
  row_held of before (x ∷ xs) held = (row-held x held.0, row_held of before xs held.1)

  behind : take (length row) (drop (length pins) (pins ++ row)) ≡ row
  behind = ap (take (length row)) (drop-all pins) ∙ take-all row
    where
      drop-all : (ps : List PinNet) → drop (length ps) (ps ++ row) ≡ row
      drop-all [] = refl
      drop-all (p ∷ ps) = drop-all ps

      take-all : (ps : List PinNet) → take (length ps) ps ≡ ps
      take-all [] = refl
      take-all (p ∷ ps) = ap (λ r. p ∷ r) (take-all ps)

  pub row_pushed : (of before : ℕ) (xs : List Statement) → AreHeld children pins xs → statements_view children (pins ++ row) (xs ++ cell of before ∷ []) ≡ statements_view children pins xs ++ parts.OfCell (cell_view of before row) ∷ []
  row_pushed of before xs held =
      map-append (statement_view children (pins ++ row)) xs (cell of before ∷ [])
      ∙ (λ i. rows-same xs held i ++ parts.OfCell (cell_view of before (behind i)) ∷ [])

-- ---- what is seen of a statement

get-map : {A B : Type 0} (f : A → B) (xs : List A) (k : ℕ) (x : A) → slice_get xs k ≡ Some x → slice_get (map f xs) k ≡ Some (f x)
get-map f [] k x e = cc
get-map f (y ∷ ys) zero x e = let same : y ≡ x = cc in ap (λ z. Some (f z)) same
get-map f (y ∷ ys) (suc k) x e = get-map f ys k x e

get-within : {A : Type 0} (xs : List A) (k : ℕ) → k < length xs → slice_get xs k ≡ None → ⊥
get-within [] k l e = omega (arith, l)
get-within (y ∷ ys) zero l e = cc
get-within (y ∷ ys) (suc k) l e = get-within ys k (omega (arith, l)) e

index-got : {A : Type 0} (xs : List A) (k : ℕ) (x d : A) → slice_get xs k ≡ Some x → slice_index_or xs k d ≡ x
index-got [] k x d e = cc
index-got (y ∷ ys) zero x d e = let same : y ≡ x = cc in same
index-got (y ∷ ys) (suc k) x d e = index-got ys k x d e

module _ (children : List Child) (pins : List PinNet) (xs : List Statement) (held : AreHeld children pins xs) (k : ℕ) where
  -- an instance of a module is in its table
  pub child_there : (j : ℕ) → slice_get xs k ≡ Some (OfModule j) → slice_get children j ≡ None → ⊥
  child_there j e none = get-within children j (held_at children pins xs held k (OfModule j) e) none

  pub child_seen : (j : ℕ) (c : Child) → slice_get xs k ≡ Some (OfModule j) → slice_get children j ≡ Some c → slice_get (statements_view children pins xs) k ≡ Some (parts.OfModule (child_view c))
  child_seen j c e got = get-map (statement_view children pins) xs k (OfModule j) e ∙ ap (λ z. Some (parts.OfModule (child_view z))) (index-got children j c no_child got)

  pub row_there : (r : CellRow) → slice_get xs k ≡ Some (OfCell r) → r.start + r.count ≤ length pins
  row_there r e = held_at children pins xs held k (OfCell r) e

  pub row_seen : (r : CellRow) → slice_get xs k ≡ Some (OfCell r) → slice_get (statements_view children pins xs) k ≡ Some (parts.OfCell (cell_view r.of r.before (take r.count (drop r.start pins))))
  row_seen r e = get-map (statement_view children pins) xs k (OfCell r) e

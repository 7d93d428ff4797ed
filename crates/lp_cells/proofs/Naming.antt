-- The names of cells and pins are those of their views, and what the files give.
use Rattle.std.proofs.Common.{◌≡◌, ℕ, true, List, [], ◌∷◌, ◌++◌, length, Option, Some, None, Result, refl, sym, ap, ◌∙◌, subst}
use Rattle.std.specs.Prelude.{map, IfOk, IfErr}
use Rattle.std.specs.List.{flat_map}
use Rattle.std.specs.Option.{option_map}
use Rattle.std.proofs.lemmas.List.{map-append}
use Rattle.lp_text.specs.declared.names.NameId.{NameId}
use Rattle.lp_text.specs.Texts.{text_at}
use Rattle.lp_model.specs.declared.library.Cell.{Cell}
use Rattle.lp_model.specs.declared.library.Library.{Library}
use Rattle.lp_model.specs.declared.library.Pin.{Pin}
use Rattle.lp_model.specs.declared.library.PgPin.{PgPin}
use Rattle.lp_model.specs.declared.fault.refusal.Refusal.{Refusal}
use Rattle.lp_model.specs.Agreement.{name_texts, numbers_below}
use Rattle.lp_model.specs.GroupsView.{GroupView}
use Rattle.lp_model.specs.LibraryView.{PinView, PgPinView, CellView, pg_pin_numbers, pin_view, pg_pin_view, cell_view, library_view}
use Rattle.lp_attributes.specs.Expressions.{are_known}
use Rattle.lp_parts.specs.declared.scope.Frame.{Frame}
use Rattle.lp_parts.specs.Views.{frame_view}
use Rattle.lp_cells.specs.Reasons.{all_names, reason_by, reason_of, repeated}
use Rattle.lp_cells.specs.Cells.{cells_of, cell_names, IsLibrary, RefusesLibrary, Duplicate, GivesCells}

pub known_as : (table set names : List (List ℕ)) → set ≡ names → are_known table names ≡ true → are_known table set ≡ true
known_as table set names is known = subst (λ (s : List (List ℕ)). are_known table s ≡ true) (sym is) known

pub below_as : (table : List (List ℕ)) (a b : List PgPin) → a ≡ b → numbers_below (length table) (flat_map pg_pin_numbers b) ≡ true → numbers_below (length table) (flat_map pg_pin_numbers a) ≡ true
below_as table a b is below = subst (λ (s : List PgPin). numbers_below (length table) (flat_map pg_pin_numbers s) ≡ true) (sym is) below

pub pins_named : (T : List (List ℕ)) (pins : List Pin) → name_texts T (map (λ (p : Pin). p.name) pins) ≡ map (λ (p : PinView). p.name) (map (pin_view T) pins)
pins_named T [] = refl
pins_named T (p ∷ pins) = ap (λ (xs : List (List ℕ)). text_at T p.name.0 ∷ xs) (pins_named T pins)

pub pgs_named : (T : List (List ℕ)) (pgs : List PgPin) → name_texts T (map (λ (p : PgPin). p.name) pgs) ≡ map (λ (p : PgPinView). p.name) (map (pg_pin_view T) pgs)
pgs_named T [] = refl
pgs_named T (p ∷ pgs) = ap (λ (xs : List (List ℕ)). text_at T p.name.0 ∷ xs) (pgs_named T pgs)

pub cells_named : (T : List (List ℕ)) (cells : List Cell) → name_texts T (map (λ (c : Cell). c.name) cells) ≡ cell_names (map (cell_view T) cells)
cells_named T [] = refl
cells_named T (c ∷ cells) = ap (λ (xs : List (List ℕ)). text_at T c.name.0 ∷ xs) (cells_named T cells)

all_named : (T : List (List ℕ)) (pins : List Pin) (pgs : List PgPin) → name_texts T (map (λ (p : Pin). p.name) pins ++ map (λ (p : PgPin). p.name) pgs) ≡ all_names (map (pin_view T) pins) (map (pg_pin_view T) pgs)
all_named T pins pgs =
    map-append (λ (n : NameId). text_at T n.0) (map (λ (p : Pin). p.name) pins) (map (λ (p : PgPin). p.name) pgs) ∙ (ap (λ (xs : List (List ℕ)). xs ++ name_texts T (map (λ (p : PgPin). p.name) pgs)) (pins_named T pins) ∙ ap (λ (ys : List (List ℕ)). map (λ (p : PinView). p.name) (map (pin_view T) pins) ++ ys) (pgs_named T pgs))

pub reason_same : (T : List (List ℕ)) (place : ℕ) (frame : Frame) (head : GroupView) (groups : List GroupView) (pins : List Pin) (own all : List NameId) → own ≡ map (λ (p : Pin). p.name) pins → all ≡ map (λ (p : Pin). p.name) pins ++ map (λ (p : PgPin). p.name) frame.pgs → reason_by place (frame_view T frame) head groups (name_texts T own) (name_texts T all) ≡ reason_of place (frame_view T frame) head groups (map (pin_view T) pins)
reason_same T place frame head groups pins own all is_own is_all =
    let one : name_texts T own ≡ map (λ (p : PinView). p.name) (map (pin_view T) pins) = ap (name_texts T) is_own ∙ pins_named T pins in
    let two : name_texts T all ≡ all_names (map (pin_view T) pins) (map (pg_pin_view T) frame.pgs) = ap (name_texts T) is_all ∙ all_named T pins frame.pgs in
    ap (λ (xs : List (List ℕ)). reason_by place (frame_view T frame) head groups xs (name_texts T all)) one ∙ ap (λ (ys : List (List ℕ)). reason_by place (frame_view T frame) head groups (map (λ (p : PinView). p.name) (map (pin_view T) pins)) ys) two

-- ---- what files give

module _ (T : List (List ℕ)) (files : List (List GroupView)) (cells : List Cell) (denoted : map (cell_view T) cells ≡ cells_of files) where
  pub library_found : (twice : Option NameId) (r : Result Library Refusal) → GivesCells r cells twice → option_map (λ (id : NameId). text_at T id.0) twice ≡ repeated [] (cell_names (map (cell_view T) cells)) → IfOk r (λ (l : Library). IsLibrary files (library_view T l))
  library_found None r gives apart = subst (λ (q : Result Library Refusal). IfOk q (λ (l : Library). IsLibrary files (library_view T l))) (sym gives) (record { denoted = denoted; apart = sym apart })
  library_found (Some cell) r gives apart = subst (λ (q : Result Library Refusal). IfOk q (λ (l : Library). IsLibrary files (library_view T l))) (sym gives) tt

  pub library_refused : (twice : Option NameId) (r : Result Library Refusal) → GivesCells r cells twice → option_map (λ (id : NameId). text_at T id.0) twice ≡ repeated [] (cell_names (map (cell_view T) cells)) → IfErr r (RefusesLibrary T files)
  library_refused None r gives apart = subst (λ (q : Result Library Refusal). IfErr q (RefusesLibrary T files)) (sym gives) tt
  library_refused (Some cell) r gives apart =
      subst (λ (q : Result Library Refusal). IfErr q (RefusesLibrary T files)) (sym gives) (Duplicate cell (record { first = sym (apart ∙ ap (λ (cs : List CellView). repeated [] (cell_names cs)) denoted) }))

-- What a cell by its texts says of the cell.
use Rattle.std.proofs.Common.{◌≡◌, ℕ, Bool, true, false, not, ◌&&◌, cond, List, [], ◌∷◌, map, Option, Some, None, refl, ◌∙◌, ap}
use Rattle.std.specs.Prelude.{is_some, bytes_eq}
use Rattle.std.specs.List.{list_all, find}
use Rattle.std.specs.Option.{option_map}
use Rattle.std.proofs.lemmas.List.Folds.{list_all-map}
use Rattle.lp_text.specs.Texts.{text_at}
use Rattle.lp_text.specs.declared.names.NameId.{NameId}
use Rattle.lp_tern.specs.declared.tern.Tern.TheVariants.{Zero}
use Rattle.lp_model.specs.Agreement.{name_texts}
use Rattle.lp_model.specs.LibraryView.{PgPinView, PinView, CellView, cell_view, pg_pin_view, pin_view}
use Rattle.lp_model.specs.declared.library.Cell.{Cell}
use Rattle.lp_model.specs.declared.library.PgPin.{PgPin}
use Rattle.lp_behaviour.specs.Signals.{known}
use Rattle.lp_spec_design.specs.Netlists.{first}
use Rattle.lp_spec_pins.specs.Pins.{is_power, pg_named, level_by}
use Rattle.lp_spec_plain.specs.Cells.{on_with, follows}
use Rattle.lp_plain_cells.specs.Rails.{pg_found, value_named, is_lost_pin}

is_some-map : {A B : Type 0} (f : A → B) (o : Option A) → is_some (option_map f o) ≡ is_some o
is_some-map f None = refl
is_some-map f (Some x) = refl

module _ (texts : List (List ℕ)) where
  -- ---- names of power and ground pins

  first-map : (n : List ℕ) (pgs : List PgPin) → first (λ (g : PgPinView). bytes_eq g.name n) (map (pg_pin_view texts) pgs) ≡ option_map (pg_pin_view texts) (find (λ (g : PgPin). bytes_eq (text_at texts g.name.0) n) pgs)
  first-map n [] = refl
  first-map n (g ∷ pgs) = by (bytes_eq (text_at texts g.name.0) n) (first-map n pgs)
    where
      by : (b : Bool) → first (λ (h : PgPinView). bytes_eq h.name n) (map (pg_pin_view texts) pgs) ≡ option_map (pg_pin_view texts) (find (λ (h : PgPin). bytes_eq (text_at texts h.name.0) n) pgs)
          → cond b (Some (pg_pin_view texts g)) (first (λ (h : PgPinView). bytes_eq h.name n) (map (pg_pin_view texts) pgs)) ≡ option_map (pg_pin_view texts) (cond b (Some g) (find (λ (h : PgPin). bytes_eq (text_at texts h.name.0) n) pgs))
      by true rest = refl
      by false rest = rest

  module _ (cell : Cell) where
    abbrev view : CellView
    view = cell_view texts cell

    named : (name : NameId) → pg_named view (text_at texts name.0) ≡ option_map (pg_pin_view texts) (pg_found texts cell.pgs name)
    named name = first-map (text_at texts name.0) cell.pgs

    pub all_named : (vs : List NameId) → list_all (λ v. is_some (pg_named view v)) (name_texts texts vs) ≡ list_all (λ (v : NameId). is_some (pg_found texts cell.pgs v)) vs
    all_named [] = refl
    all_named (v ∷ vs) = λ i. (ap is_some (named v) ∙ is_some-map (pg_pin_view texts) (pg_found texts cell.pgs v)) i && all_named vs i

    level_with : (power gnd : Bool) (g : PgPin) → level_by (Some (pg_pin_view texts g)) (on_with power gnd (Some (pg_pin_view texts g))) ≡ cond (is_power g.kind) power (not gnd)
    level_with power gnd g = by (is_power g.kind)
      where
        by : (b : Bool) → cond b (cond b power gnd) (not (cond b power gnd)) ≡ cond b power (not gnd)
        by true = refl
        by false = refl

    pub value-Some : (power gnd : Bool) (name : NameId) (g : PgPin) → pg_found texts cell.pgs name ≡ Some g → value_named texts cell power gnd name ≡ known (cond (is_power g.kind) power (not gnd))
    value-Some power gnd name g e =
        ap (λ o. known (level_by o (on_with power gnd o))) (named name ∙ ap (option_map (pg_pin_view texts)) e)
        ∙ ap known (level_with power gnd g)

    pub value-None : (power gnd : Bool) (name : NameId) → pg_found texts cell.pgs name ≡ None → value_named texts cell power gnd name ≡ Zero
    value-None power gnd name e = ap (λ o. known (level_by o (on_with power gnd o))) (named name ∙ ap (option_map (pg_pin_view texts)) e)

    -- ---- all of them

    pub all_lost : list_all (λ (q : PinView). follows view q.function q.power_down) view.pins ≡ list_all (is_lost_pin texts cell) cell.pins
    all_lost = list_all-map (λ (q : PinView). follows view q.function q.power_down) (pin_view texts) cell.pins

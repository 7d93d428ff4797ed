-- The cells of a library that is read have names of their own for all their pins, and only their internal power pins are switched.
use Rattle.std.specs.Prelude.{codes, if◌then◌else◌, is_some}
use Rattle.std.specs.List.{list_all}
use Rattle.std.proofs.Common.{◌≡◌, ◌+◌, ℕ, Bool, true, false, not, ◌&&◌, ◌||◌, List, [], ◌∷◌, ◌++◌, Option, Some, None, inl, inr, refl, sym, ap, ◌∙◌, subst}
use Rattle.std.proofs.lemmas.Bool.{and_parts, and_from}
use Rattle.std.proofs.lemmas.List.Folds.{list_all-append}
use Rattle.std.proofs.lemmas.List.{append_assoc, append-nil}
use Rattle.lp_text.specs.Texts.{has_text, distinct, distinct-push}
use Rattle.lp_model.specs.declared.library.PgKind.{PgKind}
use Rattle.lp_model.specs.declared.library.PgKind.TheVariants as kinds
use Rattle.lp_model.specs.GroupsView.{GroupView}
use Rattle.lp_model.specs.LibraryView.{PgPinView, CellView}
use Rattle.lp_attributes.specs.Attributes.{value_of}
use Rattle.lp_parts.specs.Source.{is_part, inside, is_cell}
use Rattle.lp_parts.specs.Pins.{kind_of, switched_by, pg_of, pgs_at, pgs_of}
use Rattle.lp_cells.specs.Reasons.{is_free, is_visible, all_names, repeated}
use Rattle.lp_cells.specs.Sound as read
use Rattle.lp_cells.specs.Cells.{scope_of, cell_of, cell_at, cells_from, cells_in, cells_of, cell_names}
use Rattle.lp_cells.proofs.Sounding.{all_sound}
use Rattle.lp_spec_design.specs.Winners.{IsIn}
use Rattle.lp_spec_design.proofs.Members.{in-either, of-flat}
use Rattle.lp_spec_cells.proofs.Outcomes.{all-in}
use Rattle.lp_spec_sound.proofs.Soundness.{read-sound}
use Rattle.lp_spec_agreement.specs.Faultless.{is_internal}
use Rattle.lp_spec_read.specs.Laws.{ReadCellsHaveSoundPins, ReadCellNamesDiffer}

-- ---- switched pins

abbrev may_switch : PgPinView → Bool
may_switch g = not (is_some g.switched) || is_internal g

by_kind : (signals pgs : List (List ℕ)) (g : GroupView) (o : Option PgKind) → kind_of g ≡ o → may_switch (pg_of signals pgs g) ≡ true
by_kind signals pgs g None e = rw e refl
by_kind signals pgs g (Some kinds.InternalPower) e = rw e (by (is_some (switched_by signals pgs (value_of (codes "switch_function") g) (value_of (codes "pg_function") g))))
  where
    by : (b : Bool) → (not b || true) ≡ true
    by true = refl
    by false = refl
by_kind signals pgs g (Some kinds.PrimaryPower) e = rw e refl
by_kind signals pgs g (Some kinds.PrimaryGround) e = rw e refl
by_kind signals pgs g (Some kinds.BackupPower) e = rw e refl
by_kind signals pgs g (Some kinds.BackupGround) e = rw e refl
by_kind signals pgs g (Some kinds.InternalGround) e = rw e refl
by_kind signals pgs g (Some kinds.Nwell) e = rw e refl
by_kind signals pgs g (Some kinds.Pwell) e = rw e refl
by_kind signals pgs g (Some kinds.Deepnwell) e = rw e refl
by_kind signals pgs g (Some kinds.Deeppwell) e = rw e refl

pins_may_switch : (place : ℕ) (signals names : List (List ℕ)) (groups : List GroupView) → list_all may_switch (pgs_of place signals names groups) ≡ true
pins_may_switch place signals names [] = refl
pins_may_switch place signals names (g ∷ groups) =
    list_all-append may_switch (pgs_at place signals names g) (pgs_of place signals names groups)
    ∙ and_from _ _ (by (is_part place (codes "pg_pin") g)) (pins_may_switch place signals names groups)
  where
    by : (b : Bool) → list_all may_switch (if b then pg_of signals names g ∷ [] else []) ≡ true
    by true = and_from _ _ (by_kind signals names g (kind_of g) refl) refl
    by false = refl

-- ---- the cells of a library

-- what a cell of a library is made of
record IsCellOf (c : CellView) : Type 0 where
  place : ℕ
  head : GroupView
  groups : List GroupView
  is : c ≡ cell_of place head groups

in_file : (all : List GroupView) (c : CellView) (groups : List GroupView) (n : ℕ) → IsIn c (cells_from all n groups) → IsCellOf c
unfolding cell_at
in_file all c [] n h = absurd h
in_file all c (g ∷ groups) n h = elim (in-either c (cell_at all n g groups) (cells_from all (n + 1) groups) h) [ inl here ↦ by (is_cell all g) here | inr rest ↦ in_file all c groups (n + 1) rest ]
  where
    by : (b : Bool) → IsIn c (if b then cell_of n g (inside n groups) ∷ [] else []) → IsCellOf c
    by true (inl is) = record { place = n; head = g; groups = inside n groups; is = is }
    by true (inr none) = absurd none
    by false none = absurd none

cell_may_switch : (place : ℕ) (head : GroupView) (groups : List GroupView) → list_all may_switch (cell_of place head groups).pgs ≡ true
unfolding cell_of
cell_may_switch place head groups = pins_may_switch place (scope_of place head groups).signals (scope_of place head groups).names groups

passed : (c : CellView) → read.is_sound_cell c ≡ true → c.unusable ≡ None → read.passes c ≡ true
unfolding read.is_sound_cell
passed c e none = sym (ap (λ o. is_some o || read.passes c) none) ∙ e

pub sound_pins : ReadCellsHaveSoundPins
sound_pins files cells library c m none =
    let there : IsIn c (cells_of files) = subst (λ cs. IsIn c cs) library.denoted m in
    let ok = passed c (all-in read.is_sound_cell (cells_of files) c (all_sound files) there) none in
    let names = and_parts (read.has_names c) _ ok in
    let seen = and_parts (is_free c.name) (list_all is_visible (all_names c.pins c.pgs) && distinct (all_names c.pins c.pgs)) names.0 in
    let apart = and_parts (list_all is_visible (all_names c.pins c.pgs)) (distinct (all_names c.pins c.pgs)) seen.1 in
    let file = of-flat cells_in c files there in
    let made = in_file file.0 c file.0 0 file.2 in
    record {
      names = apart.1;
      switched = subst (λ (d : CellView). list_all may_switch d.pgs ≡ true) (sym made.is) (cell_may_switch made.place made.head made.groups);
      sound = read-sound files cells library c m none;
    }

-- ---- the names of cells

without_repetition : (names met : List (List ℕ)) → distinct met ≡ true → repeated met names ≡ None → distinct (met ++ names) ≡ true
without_repetition [] met apart none = ap distinct (append-nil met) ∙ apart
without_repetition (n ∷ names) met apart none = by (has_text n met) refl none (without_repetition names (met ++ n ∷ []))
  where
    by : (b : Bool) → has_text n met ≡ b → (if b then Some n else repeated (met ++ n ∷ []) names) ≡ None
        → (distinct (met ++ n ∷ []) ≡ true → repeated (met ++ n ∷ []) names ≡ None → distinct ((met ++ n ∷ []) ++ names) ≡ true)
        → distinct (met ++ n ∷ names) ≡ true
    by true e h more = absurd cc
    by false e h more = ap distinct (sym (append_assoc met (n ∷ []) names)) ∙ more (distinct-push met n ∙ and_from _ _ (ap not e) apart) h

pub names_differ : ReadCellNamesDiffer
names_differ files cells library = without_repetition (cell_names cells) [] refl library.apart

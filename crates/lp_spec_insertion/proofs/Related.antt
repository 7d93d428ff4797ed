-- The pins of cells that were read: what signal pins relate to, and which pins are switched.
use Rattle.std.proofs.Common.{◌≡◌, ℕ, ◌+◌, Bool, true, false, ◌||◌, List, [], ◌∷◌, Option, Some, None, refl, sym, ap, ◌∙◌, subst}
use Rattle.std.specs.Prelude.{is_none, slice_get, unwrap_or, codes, if◌then◌else◌, not}
use Rattle.std.specs.List.{list_all}
use Rattle.std.specs.Option.{option_map}
use Rattle.std.proofs.lemmas.Bool.{false≢true, and_parts, and_from, or_right}
use Rattle.std.proofs.lemmas.Option.{slice_get-map}
use Rattle.std.proofs.lemmas.List.Folds.{list_all-append}
use Rattle.lp_model.specs.declared.library.PgKind.{PgKind}
use Rattle.lp_model.specs.declared.library.PgKind.TheVariants as kinds
use Rattle.lp_model.specs.GroupsView.{GroupView}
use Rattle.lp_model.specs.LibraryView.{PgPinView, PinView, CellView}
use Rattle.lp_attributes.specs.Attributes.{value_of}
use Rattle.lp_parts.specs.Source.{is_part, inside, is_cell}
use Rattle.lp_parts.specs.Functions as parts
use Rattle.lp_parts.specs.Pins.{kind_of, is_internal_power, switched_by, pg_of, pgs_at, pgs_of, floats}
use Rattle.lp_cells.specs.Cells.{cell_of, cell_at, cells_from, cells_in, cells_of, scope_of}
use Rattle.lp_cells.specs.Reasons as reasons
use Rattle.lp_cells.specs.Sound.{is_grounded_at, has_related, has_parts, is_sound_pg, is_sound_pin}
use Rattle.lp_spec_pins.specs.Pins.{is_power}
use Rattle.lp_spec_plain.specs.Cells.{is_power_at, is_ground_at, has_ground, is_related_pin}
use Rattle.lp_spec_plain_module.proofs.Lists.{all-weaker}
use Rattle.lp_spec_plain_netlist.specs.Fits.{is_extra, has_related_pins, is_switched_inside}

-- ---- kinds

power_kind : (k : PgKind) → parts.is_power k ≡ true → is_power k ≡ true
power_kind kinds.PrimaryPower e = refl
power_kind kinds.BackupPower e = refl
power_kind kinds.InternalPower e = refl
power_kind kinds.PrimaryGround e = absurd (false≢true e)
power_kind kinds.BackupGround e = absurd (false≢true e)
power_kind kinds.InternalGround e = absurd (false≢true e)
power_kind kinds.Nwell e = absurd (false≢true e)
power_kind kinds.Pwell e = absurd (false≢true e)
power_kind kinds.Deepnwell e = absurd (false≢true e)
power_kind kinds.Deeppwell e = absurd (false≢true e)

ground_kind : (k : PgKind) → parts.is_ground k ≡ true → not (is_power k) ≡ true
ground_kind kinds.PrimaryGround e = refl
ground_kind kinds.BackupGround e = refl
ground_kind kinds.InternalGround e = refl
ground_kind kinds.PrimaryPower e = absurd (false≢true e)
ground_kind kinds.BackupPower e = absurd (false≢true e)
ground_kind kinds.InternalPower e = absurd (false≢true e)
ground_kind kinds.Nwell e = absurd (false≢true e)
ground_kind kinds.Pwell e = absurd (false≢true e)
ground_kind kinds.Deepnwell e = absurd (false≢true e)
ground_kind kinds.Deeppwell e = absurd (false≢true e)

-- ---- related pins

module _ (c : CellView) where
  power_by : (o : Option PgPinView) → reasons.is_power_at (option_map (λ (g : PgPinView). g.kind) o) ≡ true → is_power_at o ≡ true
  power_by None e = e
  power_by (Some g) e = power_kind g.kind e

  ground_by : (o : Option PgPinView) → reasons.is_ground_at (option_map (λ (g : PgPinView). g.kind) o) ≡ true → is_ground_at o ≡ true
  ground_by None e = e
  ground_by (Some g) e = ground_kind g.kind e

  powered : (k : ℕ) → reasons.names_power (parts.kinds_of c.pgs) (Some k) ≡ true → is_power_at (slice_get c.pgs k) ≡ true
  powered k e = power_by (slice_get c.pgs k) (ap reasons.is_power_at (sym (slice_get-map (λ (g : PgPinView). g.kind) c.pgs k)) ∙ e)

  grounded : (o : Option ℕ) → reasons.names_ground (parts.kinds_of c.pgs) o ≡ true → has_ground c o ≡ true
  grounded None e = e
  grounded (Some k) e = ground_by (slice_get c.pgs k) (ap reasons.is_ground_at (sym (slice_get-map (λ (g : PgPinView). g.kind) c.pgs k)) ∙ e)

  -- a pin of a cell with ground pins
  related_by : (q : PinView) → has_related false (parts.kinds_of c.pgs) q ≡ true → is_related_pin c q ≡ true
  related_by q e =
      let both = and_parts (reasons.names_power (parts.kinds_of c.pgs) (Some q.power)) (is_grounded_at false (parts.kinds_of c.pgs) q.gnd) e in
      and_from _ _ (powered q.power both.0) (grounded q.gnd both.1)

  all_related : list_all (is_sound_pin c) c.pins ≡ true → (b : Bool) → c.roles.switch ≡ b → (b || list_all (is_related_pin c) c.pins) ≡ true
  all_related sound true is = refl
  all_related sound false is =
      all-weaker (is_sound_pin c) (is_related_pin c)
      (λ q h. related_by q (subst (λ b. has_related (floats b c.pgs) (parts.kinds_of c.pgs) q ≡ true) is (and_parts (has_related (floats c.roles.switch c.pgs) (parts.kinds_of c.pgs) q) _ h).0)) c.pins sound

  pub related : has_parts c ≡ true → has_related_pins c ≡ true
  related e = all_related (and_parts (list_all (is_sound_pin c) c.pins) _ (and_parts (list_all (is_sound_pg c) c.pgs) _ e).1).0 c.roles.switch refl

-- ---- switched pins

abbrev pub switches_inside : CellView → Bool
switches_inside c = list_all is_switched_inside c.pgs

module _ (place : ℕ) (signals names : List (List ℕ)) where
  pg_inside : (g : GroupView) → is_switched_inside (pg_of signals names g) ≡ true
  pg_inside g = by (kind_of g)
    where
      by : (o : Option PgKind) → (is_none (if is_internal_power o then switched_by signals names (value_of (codes "switch_function") g) (value_of (codes "pg_function") g) else None) || is_extra (unwrap_or o kinds.PrimaryPower)) ≡ true
      by None = refl
      by (Some kinds.PrimaryPower) = refl
      by (Some kinds.PrimaryGround) = refl
      by (Some kinds.BackupPower) = refl
      by (Some kinds.BackupGround) = refl
      by (Some kinds.InternalPower) = or_right _ true refl
      by (Some kinds.InternalGround) = refl
      by (Some kinds.Nwell) = refl
      by (Some kinds.Pwell) = refl
      by (Some kinds.Deepnwell) = refl
      by (Some kinds.Deeppwell) = refl

  pgs_inside : (groups : List GroupView) → list_all is_switched_inside (pgs_of place signals names groups) ≡ true
  pgs_inside [] = refl
  pgs_inside (g ∷ groups) =
      list_all-append is_switched_inside (pgs_at place signals names g) (pgs_of place signals names groups)
      ∙ and_from _ _ (by (is_part place (codes "pg_pin") g)) (pgs_inside groups)
    where
      by : (b : Bool) → list_all is_switched_inside (if b then pg_of signals names g ∷ [] else []) ≡ true
      by true = and_from _ _ (pg_inside g) refl
      by false = refl

cell_inside : (n : ℕ) (g : GroupView) (groups : List GroupView) → switches_inside (cell_of n g groups) ≡ true
unfolding cell_of
cell_inside n g groups = pgs_inside n (scope_of n g groups).signals (scope_of n g groups).names groups

from_inside : (all : List GroupView) (groups : List GroupView) (n : ℕ) → list_all switches_inside (cells_from all n groups) ≡ true
unfolding cell_at
from_inside all [] n = refl
from_inside all (g ∷ groups) n =
    list_all-append switches_inside (cell_at all n g groups) (cells_from all (n + 1) groups) ∙ and_from _ _ (by (is_cell all g)) (from_inside all groups (n + 1))
  where
    by : (b : Bool) → list_all switches_inside (if b then cell_of n g (inside n groups) ∷ [] else []) ≡ true
    by true = and_from _ _ (cell_inside n g (inside n groups)) refl
    by false = refl

pub all_inside : (files : List (List GroupView)) → list_all switches_inside (cells_of files) ≡ true
all_inside [] = refl
all_inside (file ∷ files) = list_all-append switches_inside (cells_in file) (cells_of files) ∙ and_from _ _ (from_inside file file 0) (all_inside files)

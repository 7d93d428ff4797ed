-- The related supplies of the pins of cells that are joined.
use Rattle.std.proofs.Common.{◌≡◌, ◌⊎◌, ℕ, ◌==◌, Bool, true, false, not, List, [], ◌∷◌, Option, Some, None, inl, inr, refl, sym, ap, ◌∙◌, subst}
use Rattle.std.specs.Prelude.{if◌then◌else◌, is_some, option_and_then, slice_get, length}
use Rattle.std.specs.List.{list_all}
use Rattle.std.proofs.lemmas.Bool.{false≢true, and_parts, eqb-true, eq-eqb}
use Rattle.lp_model.specs.declared.library.PgKind.{PgKind}
use Rattle.lp_model.specs.declared.library.PgKind.TheVariants as kinds
use Rattle.lp_model.specs.declared.supply.SetOrigins.{SetOrigins}
use Rattle.lp_model.specs.LibraryView.{SwitchedView, PgPinView, PinView, CellView}
use Rattle.lp_spec_design.specs.Keys.{Name, Path}
use Rattle.lp_spec_design.specs.Winners.{IsIn}
use Rattle.lp_spec_design.proofs.Members.{of-filter}
use Rattle.lp_spec_pins.specs.Pins.{Powered, PinAssignment, state_from, state_of_pg, state_of_ground, related, is_data, input_for, only}
use Rattle.lp_spec_fit.specs.Needs.{ClampNeed, ShifterNeed, RegisterNeed, SwitchCellNeed}
use Rattle.lp_spec_fit.specs.Joins.{Joins, by_kind, joined_at, is_origin, relates_to, source_joins, clamp_joins, register_joins, shifter_power, shifter_joins, ToGround, switch_side, switch_origin, switch_joins}
use Rattle.lp_spec_fit.specs.Fits.{is_primary, at_pg, relates_by, is_retention_pin, plain_pins, is_iso_data, is_iso_enable, is_switch_pin, one_output, switched_pins, is_usable, only_isolates, fits_with_pins, clamps, has_function, fits_clamp, fits_shifter, fits_register, fits_switch}
use Rattle.lp_spec_cells.specs.Sound.{is_power_kind, is_ground_kind, is_kind_at, is_ground_at, has_related, IsSound}
use Rattle.lp_spec_cells.specs.Joined.{Comes, OriginStates, PgIsJoined, IsJoinedBy, Stands, ground_in, pair_in}
use Rattle.lp_spec_cells.proofs.Outcomes.{all-in}
use Rattle.lp_spec_cells.proofs.Names.{get-numbered, input-for}
use Rattle.lp_spec_cells.proofs.Shifters.{fits-shifter}
use Rattle.lp_spec_cells.proofs.Switches.{fits-switch, passed-on}
use Rattle.lp_spec_cells.proofs.Outputs.{related-is}
use Rattle.lp_spec_cells.proofs.Retained.{fits-register}

-- ---- origins by kinds

-- a power pin that is joined is joined as a primary or as a backup one
power-origin : (primary backup : Option ℕ) (set : SetOrigins) (kind : PgKind) (o : ℕ) → is_power_kind kind ≡ true → by_kind primary backup set kind ≡ Some o
    → ((primary ≡ Some o) × (kind ≡ kinds.PrimaryPower)) ⊎ ((backup ≡ Some o) × (kind ≡ kinds.BackupPower))
power-origin primary backup set kinds.PrimaryPower o p e = inl (e, refl)
power-origin primary backup set kinds.BackupPower o p e = inr (e, refl)
power-origin primary backup set kinds.InternalPower o p e = absurd cc
power-origin primary backup set kinds.PrimaryGround o p e = absurd (false≢true p)
power-origin primary backup set kinds.BackupGround o p e = absurd (false≢true p)
power-origin primary backup set kinds.InternalGround o p e = absurd (false≢true p)
power-origin primary backup set kinds.Nwell o p e = absurd (false≢true p)
power-origin primary backup set kinds.Pwell o p e = absurd (false≢true p)
power-origin primary backup set kinds.Deepnwell o p e = absurd (false≢true p)
power-origin primary backup set kinds.Deeppwell o p e = absurd (false≢true p)

-- a ground pin to the ground
ground-origin : (primary backup : Option ℕ) (set : SetOrigins) (kind : PgKind) → is_ground_kind kind ≡ true → by_kind primary backup set kind ≡ Some set.gnd.0
ground-origin primary backup set kinds.PrimaryGround p = refl
ground-origin primary backup set kinds.BackupGround p = refl
ground-origin primary backup set kinds.InternalGround p = refl
ground-origin primary backup set kinds.PrimaryPower p = absurd (false≢true p)
ground-origin primary backup set kinds.BackupPower p = absurd (false≢true p)
ground-origin primary backup set kinds.InternalPower p = absurd (false≢true p)
ground-origin primary backup set kinds.Nwell p = absurd (false≢true p)
ground-origin primary backup set kinds.Pwell p = absurd (false≢true p)
ground-origin primary backup set kinds.Deepnwell p = absurd (false≢true p)
ground-origin primary backup set kinds.Deeppwell p = absurd (false≢true p)

some-same : {A : Type 0} (a b : A) → Some a ≡ Some b → a ≡ b
some-same a b e = cc

-- what is found at a place
record At (pgs : List PgPinView) (k : ℕ) (test : PgKind → Bool) : Type 0 where
  pin : PgPinView
  there : slice_get pgs k ≡ Some pin
  passes : test pin.kind ≡ true

found-at : (pgs : List PgPinView) (k : ℕ) (test : PgKind → Bool) → is_kind_at test (slice_get pgs k) ≡ true → At pgs k test
found-at pgs k test e = by (slice_get pgs k) refl e
  where
    by : (g : Option PgPinView) → slice_get pgs k ≡ g → is_kind_at test g ≡ true → At pgs k test
    by None at h = absurd (false≢true h)
    by (Some g) at h = record { pin = g; there = at; passes = h }

module _ (c : CellView) (sound : IsSound c) (q : PinView) (m : IsIn q c.pins) where
  related-parts : (is_kind_at is_power_kind (slice_get c.pgs q.power) ≡ true) × (is_ground_at c q.gnd ≡ true)
  related-parts = and_parts (is_kind_at is_power_kind (slice_get c.pgs q.power)) (is_ground_at c q.gnd) (all-in (has_related c) c.pins q sound.related m)

  power-pin : At c.pgs q.power is_power_kind
  power-pin = found-at c.pgs q.power is_power_kind related-parts.0

  module _ (w : Powered) (B : PinAssignment) (path : Path) (x : Name) (source : Comes) (join : Joins) (st : OriginStates) (joined : IsJoinedBy w path x c source join) (stands : Stands B source st) where
    joined-power : PgIsJoined w path x source join q.power power-pin.pin
    joined-power = joined.each q.power power-pin.pin (get-numbered c.pgs q.power power-pin.pin power-pin.there)

    -- the power of a pin has the state of its origin
    power-is : (o : ℕ) → joined-power.origin ≡ o → state_of_pg w B path x (slice_get c.pgs q.power) ≡ st o
    power-is o e =
        ap (state_of_pg w B path x) power-pin.there
        ∙ (ap (state_from B) (joined-power.pin ∙ sym joined-power.comes) ∙ (stands joined-power.origin ∙ ap st e))

    -- and its ground that of the ground
    ground-is : (o : ℕ) → ((k : ℕ) (g : PgPinView) → is_ground_kind g.kind ≡ true → join k g ≡ Some o) → state_of_ground w B path x c q.gnd ≡ ground_in (st o) q.gnd
    ground-is o h = by q.gnd related-parts.1
      where
        by : (k : Option ℕ) → is_ground_at c k ≡ true → state_of_ground w B path x c k ≡ ground_in (st o) k
        by None e = refl
        by (Some k) e =
            let found = found-at c.pgs k is_ground_kind e in
            let j = joined.each k found.pin (get-numbered c.pgs k found.pin found.there) in
            let same : j.origin ≡ o = some-same j.origin o (sym j.joins ∙ h k found.pin found.passes) in
            ap (state_of_pg w B path x) found.there ∙ (ap (state_from B) (j.pin ∙ sym j.comes) ∙ (stands j.origin ∙ ap st same))

    pair-is : (power gnd : ℕ) → joined-power.origin ≡ power → ((k : ℕ) (g : PgPinView) → is_ground_kind g.kind ≡ true → join k g ≡ Some gnd) → related w B path x c q ≡ pair_in st power gnd q.gnd
    pair-is power gnd e h = λ i. record { power = power-is power e i; gnd = ground-is gnd h i }

-- ---- cells of the source, and registers with retention

pub source-relates : (c : CellView) (primary : SetOrigins) → IsSound c
    → (w : Powered) (B : PinAssignment) (path : Path) (x : Name) (source : Comes) (st : OriginStates)
    → IsJoinedBy w path x c source (source_joins primary) → Stands B source st
    → (q : PinView) → IsIn q c.pins
    → related w B path x c q ≡ pair_in st primary.power.0 primary.gnd.0 q.gnd
source-relates c primary sound w B path x source st joined stands q m =
    let g = power-pin c sound q m in
    let j = joined-power c sound q m w B path x source (source_joins primary) st joined stands in
    let origin : j.origin ≡ primary.power.0 = elim (power-origin (Some primary.power.0) None primary g.pin.kind j.origin g.passes j.joins) [ inl h ↦ sym (some-same primary.power.0 j.origin h.0) | inr h ↦ (let no : None ≡ Some j.origin = h.0 in absurd cc) ] in
    pair-is c sound q m w B path x source (source_joins primary) st joined stands primary.power.0 primary.gnd.0 origin (λ k h e. ground-origin (Some primary.power.0) None primary h.kind e)

module _ (c : CellView) (primary retention : SetOrigins) (sound : IsSound c)
    (w : Powered) (B : PinAssignment) (path : Path) (x : Name) (source : Comes) (st : OriginStates)
    (joined : IsJoinedBy w path x c source (register_joins primary retention)) (stands : Stands B source st) (q : PinView) (m : IsIn q c.pins) where
  register-join : PgIsJoined w path x source (register_joins primary retention) q.power (power-pin c sound q m).pin
  register-join = joined-power c sound q m w B path x source (register_joins primary retention) st joined stands

  with-origin : (o : ℕ) → register-join.origin ≡ o → related w B path x c q ≡ pair_in st o primary.gnd.0 q.gnd
  unfolding register-join
  with-origin o e = pair-is c sound q m w B path x source (register_joins primary retention) st joined stands o primary.gnd.0 e (λ k h f. ground-origin (Some primary.power.0) (Some retention.power.0) primary h.kind f)

  pub register-relates : (related w B path x c q ≡ pair_in st primary.power.0 primary.gnd.0 q.gnd) ⊎ (related w B path x c q ≡ pair_in st retention.power.0 primary.gnd.0 q.gnd)
  register-relates =
      elim (power-origin (Some primary.power.0) (Some retention.power.0) primary (power-pin c sound q m).pin.kind register-join.origin (power-pin c sound q m).passes register-join.joins) [
        | inl h ↦ inl (with-origin primary.power.0 (sym (some-same primary.power.0 register-join.origin h.0)))
        | inr h ↦ inr (with-origin retention.power.0 (sym (some-same retention.power.0 register-join.origin h.0)))
      ]

  -- a pin that relates to primary pins
  pub primary-relates : relates_by is_primary c q ≡ true → related w B path x c q ≡ pair_in st primary.power.0 primary.gnd.0 q.gnd
  primary-relates e =
      elim (power-origin (Some primary.power.0) (Some retention.power.0) primary (power-pin c sound q m).pin.kind register-join.origin (power-pin c sound q m).passes register-join.joins) [
        | inl h ↦ with-origin primary.power.0 (sym (some-same primary.power.0 register-join.origin h.0))
        | inr h ↦ absurd (no-backup (power-pin c sound q m).pin h.1 (at-place (power-pin c sound q m).pin (power-pin c sound q m).there (and_parts (at_pg is_primary c (Some q.power)) (at_pg is_primary c q.gnd) e).0))
      ]
    where
      at-place : (p : PgPinView) → slice_get c.pgs q.power ≡ Some p → at_pg is_primary c (Some q.power) ≡ true → is_primary p ≡ true
      at-place p at h = let there : is_primary p ≡ true = rw at at h in there

      no-backup : (p : PgPinView) → p.kind ≡ kinds.BackupPower → is_primary p ≡ true → ⊥
      no-backup p e h = false≢true (subst (λ k. is_primary (record p { kind = k }) ≡ true) e h)

pub plain-pin-relates : (n : RegisterNeed) (c : CellView) → fits_register n c ≡ true → IsSound c
    → (w : Powered) (B : PinAssignment) (path : Path) (x : Name) (source : Comes) (st : OriginStates)
    → IsJoinedBy w path x c source (register_joins n.primary n.retention) → Stands B source st
    → (q : PinView) → IsIn q (plain_pins c)
    → related w B path x c q ≡ pair_in st n.primary.power.0 n.primary.gnd.0 q.gnd
plain-pin-relates n c fits sound w B path x source st joined stands q m =
    primary-relates c n.primary n.retention sound w B path x source st joined stands q (of-filter (λ (r : PinView). not (is_retention_pin r)) q c.pins m).0
    (all-in (relates_by is_primary c) (plain_pins c) q (fits-register n c fits).plain_related m)

-- ---- operators

-- a cell that fits a clamp relates its pins to the clamp's supply
all-relate : (n : ClampNeed) (c : CellView) (d e y : Option PinView) → fits_with_pins n c (clamp_joins n.supply n.place c) d e y ≡ true → list_all (relates_to c (clamp_joins n.supply n.place c) n.supply) c.pins ≡ true
all-relate n c (Some d) (Some e) (Some y) h =
    let function = and_parts (has_function (d.name ∷ e.name ∷ []) (λ v. clamps n.clamp n.high (v d.name) (v e.name)) y.function) _ h in
    (and_parts (list_all (relates_to c (clamp_joins n.supply n.place c) n.supply) c.pins) _ function.1).0
all-relate n c None e y h = absurd (false≢true h)
all-relate n c (Some d) None y h = absurd (false≢true h)
all-relate n c (Some d) (Some e) None h = absurd (false≢true h)

pub clamp-relates : (n : ClampNeed) (c : CellView) → fits_clamp n c ≡ true
    → (w : Powered) (B : PinAssignment) (path : Path) (x : Name) (source : Comes) (st : OriginStates)
    → IsJoinedBy w path x c source (clamp_joins n.supply n.place c) → Stands B source st
    → (q : PinView) → IsIn q c.pins
    → related w B path x c q ≡ record { power = st n.supply.power.0; gnd = st n.supply.gnd.0 }
clamp-relates n c fits w B path x source st joined stands q m =
    let usable = and_parts (is_usable c) _ fits in
    let alone = and_parts (only_isolates c.roles) _ usable.1 in
    let stateless = and_parts (not (is_some c.state)) _ alone.1 in
    let three = and_parts (length c.pins == 3) _ stateless.1 in
    let all = all-relate n c (input_for is_iso_data c) (input_for is_iso_enable c) (one_output c) three.1 in
    related-is w B path x c source (clamp_joins n.supply n.place c) st joined stands n.supply q (all-in (relates_to c (clamp_joins n.supply n.place c) n.supply) c.pins q all m)

pub shifter-output-relates : (n : ShifterNeed) (c : CellView) → fits_shifter n c ≡ true
    → (d y : PinView) → input_for is_data c ≡ Some d → one_output c ≡ Some y
    → (w : Powered) (B : PinAssignment) (path : Path) (x : Name) (source : Comes) (st : OriginStates)
    → IsJoinedBy w path x c source (shifter_joins n.input n.output d y) → Stands B source st
    → related w B path x c y ≡ record { power = st n.output.power.0; gnd = st n.output.gnd.0 }
shifter-output-relates n c fits d y at_d at_y w B path x source st joined stands =
    related-is w B path x c source (shifter_joins n.input n.output d y) st joined stands n.output y (fits-shifter n c fits d y at_d at_y).relates

-- the data's power pin is joined to the output supply where it is the output's, else to the input supply
shifted-from : (input output : SetOrigins) (d y : PinView) → shifter_power input output d y d.power ≡ Some (if d.power == y.power then output.power.0 else input.power.0)
shifted-from input output d y = by (d.power == y.power)
  where
    by : (b : Bool) → (if b then Some output.power.0 else if d.power == d.power then Some input.power.0 else None) ≡ Some (if b then output.power.0 else input.power.0)
    by true = refl
    by false = ap (λ b. if b then Some input.power.0 else None) (eq-eqb d.power d.power refl)

pub shifter-data-relates : (c : CellView) (input output : SetOrigins) → IsSound c
    → (d y : PinView) → input_for is_data c ≡ Some d
    → (w : Powered) (B : PinAssignment) (path : Path) (x : Name) (source : Comes) (st : OriginStates)
    → IsJoinedBy w path x c source (shifter_joins input output d y) → Stands B source st
    → related w B path x c d ≡ pair_in st (if d.power == y.power then output.power.0 else input.power.0) output.gnd.0 d.gnd
shifter-data-relates c input output sound d y at_d w B path x source st joined stands =
    let m = (input-for is_data c d at_d).is_in in
    let g = power-pin c sound d m in
    let j = joined-power c sound d m w B path x source (shifter_joins input output d y) st joined stands in
    let from = shifted-from input output d y in
    let power : ℕ = if d.power == y.power then output.power.0 else input.power.0 in
    let origin : j.origin ≡ power = elim (power-origin (shifter_power input output d y d.power) (shifter_power input output d y d.power) output g.pin.kind j.origin g.passes j.joins) [
      | inl h ↦ sym (some-same power j.origin (sym from ∙ h.0))
      | inr h ↦ sym (some-same power j.origin (sym from ∙ h.0))
    ] in
    pair-is c sound d m w B path x source (shifter_joins input output d y) st joined stands power output.gnd.0 origin (λ k h e. ground-origin (shifter_power input output d y k) (shifter_power input output d y k) output h.kind e)

-- ---- switches

-- a ground pin of a switch is joined to the ground
ground-side : (passes k : ℕ) (p : PgPinView) (kind : PgKind) → is_ground_kind kind ≡ true → switch_side passes k (record p { kind = kind }) ≡ Some ToGround
ground-side passes k p kinds.PrimaryGround e = refl
ground-side passes k p kinds.BackupGround e = refl
ground-side passes k p kinds.InternalGround e = refl
ground-side passes k p kinds.PrimaryPower e = absurd (false≢true e)
ground-side passes k p kinds.BackupPower e = absurd (false≢true e)
ground-side passes k p kinds.InternalPower e = absurd (false≢true e)
ground-side passes k p kinds.Nwell e = absurd (false≢true e)
ground-side passes k p kinds.Pwell e = absurd (false≢true e)
ground-side passes k p kinds.Deepnwell e = absurd (false≢true e)
ground-side passes k p kinds.Deeppwell e = absurd (false≢true e)

pub switch-pin-relates : (n : SwitchCellNeed) (c : CellView) → fits_switch n c ≡ true → IsSound c
    → (q : PinView) (s : SwitchedView) → input_for is_switch_pin c ≡ Some q → only (switched_pins c) ≡ Some s
    → (w : Powered) (B : PinAssignment) (path : Path) (x : Name) (source : Comes) (st : OriginStates) (input output gnd : ℕ)
    → IsJoinedBy w path x c source (switch_joins input output gnd s.passes) → Stands B source st
    → related w B path x c q ≡ pair_in st input gnd q.gnd
switch-pin-relates n c fits sound q s at_q at_s w B path x source st input output gnd joined stands =
    let parts = fits-switch n c fits q s at_q at_s in
    let m = (input-for is_switch_pin c q at_q).is_in in
    let join : Joins = switch_joins input output gnd s.passes in
    let g = power-pin c sound q m in
    let j = joined-power c sound q m w B path x source join st joined stands in
    let place : q.power ≡ s.passes = eqb-true q.power s.passes parts.power in
    let at : is_origin input (joined_at c join q.power) ≡ true = ap (λ k. is_origin input (joined_at c join k)) place ∙ passed-on c s input output gnd sound parts.sides in
    let pin : is_origin input (join q.power g.pin) ≡ true = sym (ap (λ o. is_origin input (option_and_then (join q.power) o)) g.there) ∙ at in
    let origin : j.origin ≡ input = sym (eqb-true input j.origin (sym (ap (is_origin input) j.joins) ∙ pin)) in
    pair-is c sound q m w B path x source join st joined stands input gnd origin
    (λ k h e. ap (λ o. option_and_then (λ z. Some (switch_origin input output gnd z)) o) (ground-side s.passes k h h.kind e))

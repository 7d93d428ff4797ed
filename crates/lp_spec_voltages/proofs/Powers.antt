-- By which supplies the pins of cells are powered: the ground is left out, since one that a cell lacks counts as on.
use Rattle.std.proofs.Common.{◌≡◌, ◌⊎◌, ◌==◌, ℕ, Bool, true, false, not, ◌&&◌, ◌||◌, [], ◌∷◌, length, Option, Some, None, inl, inr, refl, sym, ap, ◌∙◌, arith}
use Rattle.std.specs.Prelude.{slice_get, is_some, option_and_then, if◌then◌else◌}
use Rattle.std.specs.List.{list_all}
use Rattle.std.proofs.lemmas.Bool.{and_parts, eqb-true, eq-eqb, false≢true}
use Rattle.lp_model.specs.declared.library.PgKind.{PgKind}
use Rattle.lp_model.specs.declared.library.PgKind.TheVariants.{PrimaryPower, BackupPower, InternalPower}
use Rattle.lp_model.specs.declared.supply.SetOrigins.{SetOrigins}
use Rattle.lp_model.specs.LibraryView.{PgPinView, PinView, CellView}
use Rattle.lp_spec_design.specs.Graph.{numbered}
use Rattle.lp_spec_design.specs.Winners.{IsIn}
use Rattle.lp_spec_pins.specs.Pins.{is_data, is_input_pin, input_for}
use Rattle.lp_spec_fit.specs.Joins.{Joins, by_kind, source_joins, register_joins, clamp_joins, shifter_power, shifter_joins, joined_at, all_joined, is_origin, ground_is, relates_to}
use Rattle.lp_spec_fit.specs.PowerDown.{outputs_need, state_needs, power_down_equals}
use Rattle.lp_spec_fit.specs.Needs.{ClampNeed, ShifterNeed, RegisterNeed}
use Rattle.lp_spec_fit.specs.Fits.{only_retains, has_exactly_pins_of, same_state, controls_match, copy_needs, has_function, may_be_lower, one_output, is_iso_data, is_iso_enable, is_usable, only_isolates, fits_with_pins, fits_clamp, only_shifts, takes_pairs, shifts_with_pins, fits_shifter, is_primary, is_primary_or_backup, at_pg, relates_by, plain_pins, retention_pins, fits_register}
use Rattle.lp_spec_voltages.specs.Powers.{is_supply_kind, is_supply_pin, has_power, power_origin}
use Rattle.lp_spec_voltages.proofs.Roots.{numbered-in}
use Rattle.lp_spec_voltages.proofs.Within.{all-of}

-- a power pin that is joined is joined as a primary or as a backup pin
kind-is : (primary backup : Option ℕ) (set : SetOrigins) (kind : PgKind) → is_supply_kind kind ≡ true → is_some (by_kind primary backup set kind) ≡ true
    → (by_kind primary backup set kind ≡ primary) ⊎ (by_kind primary backup set kind ≡ backup)
kind-is primary backup set PrimaryPower e f = inl refl
kind-is primary backup set BackupPower e f = inr refl
kind-is primary backup set InternalPower e f = absurd (false≢true f)
kind-is primary backup set _ e f = absurd (false≢true e)

-- the related power pin of a signal pin
pin-of : (c : CellView) (q : PinView) → has_power c q ≡ true → (g : PgPinView) × (slice_get c.pgs q.power ≡ Some g) × (is_supply_kind g.kind ≡ true)
pin-of c q e = by (slice_get c.pgs q.power) refl e
  where
    by : (found : Option PgPinView) → slice_get c.pgs q.power ≡ found → is_supply_pin found ≡ true
        → (g : PgPinView) × (slice_get c.pgs q.power ≡ Some g) × (is_supply_kind g.kind ≡ true)
    by None is f = absurd (false≢true f)
    by (Some g) is f = (g, is, f)

joined-by : (c : CellView) (join : Joins) (k : ℕ) (g : PgPinView) → slice_get c.pgs k ≡ Some g → joined_at c join k ≡ join k g
joined-by c join k g is = ap (option_and_then (join k)) is

is-joined : (c : CellView) (join : Joins) (k : ℕ) (g : PgPinView) → all_joined c join ≡ true → slice_get c.pgs k ≡ Some g → is_some (join k g) ≡ true
is-joined c join k g all is = all-of (λ (x : ℕ × PgPinView). is_some (join x.0 x.1)) (k, g) (numbered 0 c.pgs) all (numbered-in 0 c.pgs k k g (omega arith) is)

-- ---- cells of the source

pub source-power : (c : CellView) (s : SetOrigins) (q : PinView) → has_power c q ≡ true → all_joined c (source_joins s) ≡ true
    → power_origin c (source_joins s) q ≡ Some s.power.0
source-power c s q has all =
    let g = pin-of c q has in
    let some = is-joined c (source_joins s) q.power g.0 all g.1 in
    joined-by c (source_joins s) q.power g.0 g.1
    ∙ elim (kind-is (Some s.power.0) None s g.0.kind g.2 some) [ inl is ↦ is | inr none ↦ absurd (false≢true (ap is_some (sym none) ∙ some)) ]

-- ---- registers with retention

primary-kind : (g : PgPinView) (kind : PgKind) → is_primary (record g { kind = kind }) ≡ true → is_supply_kind kind ≡ true → kind ≡ PrimaryPower
primary-kind g PrimaryPower e f = refl
primary-kind g BackupPower e f = absurd (false≢true e)
primary-kind g InternalPower e f = absurd (false≢true e)
primary-kind g _ e f = absurd (false≢true f)

either-kind : (g : PgPinView) (kind : PgKind) → is_primary_or_backup (record g { kind = kind }) ≡ true → is_supply_kind kind ≡ true
    → (kind ≡ PrimaryPower) ⊎ (kind ≡ BackupPower)
either-kind g PrimaryPower e f = inl refl
either-kind g BackupPower e f = inr refl
either-kind g InternalPower e f = absurd (false≢true e)
either-kind g _ e f = absurd (false≢true f)

passes-at : (test : PgPinView → Bool) (c : CellView) (k : ℕ) (g : PgPinView) → slice_get c.pgs k ≡ Some g → at_pg test c (Some k) ≡ true → test g ≡ true
passes-at test c k g is e = rw is at e

tenth-of : (a b c d e f g h i j k l : Bool) → (a && (b && (c && (d && (e && (f && (g && (h && (i && (j && (k && l))))))))))) ≡ true → (j ≡ true) × (k ≡ true)
tenth-of true true true true true true true true true true true l e = (refl, refl)
tenth-of a b c d e f g h i j k l x = absurd cc

register-parts : (n : RegisterNeed) (c : CellView) → fits_register n c ≡ true
    → (list_all (relates_by is_primary c) (plain_pins c) ≡ true) × (list_all (relates_by is_primary_or_backup c) (retention_pins c) ≡ true)
register-parts n c fits =
    let join : Joins = register_joins n.primary n.retention in
    tenth-of (is_usable c) (only_retains c.roles) (has_exactly_pins_of n.source c) (same_state n.source c n.source.state c.state) (list_all is_input_pin (retention_pins c))
    (controls_match n (retention_pins c)) (outputs_need c join n.primary) (state_needs c join n.primary) (copy_needs n c join)
    (list_all (relates_by is_primary c) (plain_pins c)) (list_all (relates_by is_primary_or_backup c) (retention_pins c)) (all_joined c join) fits

pub register-power : (n : RegisterNeed) (c : CellView) (q : PinView) → fits_register n c ≡ true → IsIn q (plain_pins c) → has_power c q ≡ true
    → power_origin c (register_joins n.primary n.retention) q ≡ Some n.primary.power.0
register-power n c q fits plain has =
    let g = pin-of c q has in
    let passes = and_parts (at_pg is_primary c (Some q.power)) (at_pg is_primary c q.gnd) (all-of (relates_by is_primary c) q (plain_pins c) (register-parts n c fits).0 plain) in
    let kind = primary-kind g.0 g.0.kind (passes-at is_primary c q.power g.0 g.1 passes.0) g.2 in
    joined-by c (register_joins n.primary n.retention) q.power g.0 g.1 ∙ ap (by_kind (Some n.primary.power.0) (Some n.retention.power.0) n.primary) kind

pub retention-power : (n : RegisterNeed) (c : CellView) (q : PinView) → fits_register n c ≡ true → IsIn q (retention_pins c) → has_power c q ≡ true
    → (power_origin c (register_joins n.primary n.retention) q ≡ Some n.primary.power.0) ⊎ (power_origin c (register_joins n.primary n.retention) q ≡ Some n.retention.power.0)
retention-power n c q fits kept has =
    let g = pin-of c q has in
    let passes = and_parts (at_pg is_primary_or_backup c (Some q.power)) (at_pg is_primary_or_backup c q.gnd) (all-of (relates_by is_primary_or_backup c) q (retention_pins c) (register-parts n c fits).1 kept) in
    let at = joined-by c (register_joins n.primary n.retention) q.power g.0 g.1 in
    elim (either-kind g.0 g.0.kind (passes-at is_primary_or_backup c q.power g.0 g.1 passes.0) g.2) [
      | inl is ↦ inl (at ∙ ap (by_kind (Some n.primary.power.0) (Some n.retention.power.0) n.primary) is)
      | inr is ↦ inr (at ∙ ap (by_kind (Some n.primary.power.0) (Some n.retention.power.0) n.primary) is)
    ]

-- ---- operators

origin-of : (o : ℕ) (found : Option ℕ) → is_origin o found ≡ true → found ≡ Some o
origin-of o None e = absurd (false≢true e)
origin-of o (Some k) e = ap (λ z. Some z) (sym (eqb-true o k e))

related-power : (c : CellView) (join : Joins) (set : SetOrigins) (q : PinView) → relates_to c join set q ≡ true → power_origin c join q ≡ Some set.power.0
related-power c join set q e = origin-of set.power.0 (joined_at c join q.power) (by (is_origin set.power.0 (joined_at c join q.power)) e)
  where
    by : (b : Bool) → (if b then ground_is c join set.gnd.0 q.gnd else false) ≡ true → b ≡ true
    by true f = refl
    by false f = absurd (false≢true f)

clamp-pins : (n : ClampNeed) (c : CellView) (join : Joins) (d e y : Option PinView) → fits_with_pins n c join d e y ≡ true
    → list_all (relates_to c join n.supply) c.pins ≡ true
clamp-pins n c join (Some d) (Some e) (Some y) fits = (and_parts _ _ (and_parts _ _ fits).1).0
clamp-pins n c join (Some d) (Some e) None fits = absurd (false≢true fits)
clamp-pins n c join (Some d) None y fits = absurd (false≢true fits)
clamp-pins n c join None e y fits = absurd (false≢true fits)

fifth-of : (a b c d e : Bool) → (a && (b && (c && (d && e)))) ≡ true → e ≡ true
fifth-of true true true true e h = h
fifth-of a b c d e h = absurd cc

pub clamp-power : (n : ClampNeed) (c : CellView) (q : PinView) → fits_clamp n c ≡ true → IsIn q c.pins
    → power_origin c (clamp_joins n.supply n.place c) q ≡ Some n.supply.power.0
clamp-power n c q fits among =
    let pins = fifth-of (is_usable c) (only_isolates c.roles) (not (is_some c.state)) (length c.pins == 3) (fits_with_pins n c (clamp_joins n.supply n.place c) (input_for is_iso_data c) (input_for is_iso_enable c) (one_output c)) fits in
    related-power c (clamp_joins n.supply n.place c) n.supply q
    (all-of (relates_to c (clamp_joins n.supply n.place c) n.supply) q c.pins (clamp-pins n c (clamp_joins n.supply n.place c) (input_for is_iso_data c) (input_for is_iso_enable c) (one_output c) pins) among)

sixth-of : (a b c d e f : Bool) → (a && (b && (c && (d && (e && f))))) ≡ true → f ≡ true
sixth-of true true true true true f h = h
sixth-of a b c d e f h = absurd cc

shifts-with : (n : ShifterNeed) (c : CellView) (d y : PinView) → fits_shifter n c ≡ true → input_for is_data c ≡ Some d → one_output c ≡ Some y
    → shifts_with_pins n c (Some d) (Some y) ≡ true
shifts-with n c d y fits data_is output_is =
    (λ i. shifts_with_pins n c (sym data_is i) (sym output_is i))
    ∙ sixth-of (is_usable c) (only_shifts c.roles) (not (is_some c.state)) (length c.pins == 2) (takes_pairs n.pairs c.roles.shifter) (shifts_with_pins n c (input_for is_data c) (one_output c)) fits

second-of-five : (a b c d e : Bool) → (a && (b && (c && (d && e)))) ≡ true → (b ≡ true) × (e ≡ true)
second-of-five true true true true e h = (refl, h)
second-of-five a b c d e h = absurd cc

shifter-parts : (n : ShifterNeed) (c : CellView) (d y : PinView) → shifts_with_pins n c (Some d) (Some y) ≡ true
    → (relates_to c (shifter_joins n.input n.output d y) n.output y ≡ true) × (all_joined c (shifter_joins n.input n.output d y) ≡ true)
shifter-parts n c d y e =
    let join : Joins = shifter_joins n.input n.output d y in
    second-of-five (has_function (d.name ∷ []) (λ v. v d.name) y.function) (relates_to c join n.output y) (not (d.power == y.power) || not (may_be_lower n))
    (power_down_equals c join (n.input ∷ n.output ∷ []) y.power_down || power_down_equals c join (n.output ∷ []) y.power_down) (all_joined c join) e

pub shifter-output-power : (n : ShifterNeed) (c : CellView) (d y : PinView) → fits_shifter n c ≡ true → input_for is_data c ≡ Some d
    → one_output c ≡ Some y → power_origin c (shifter_joins n.input n.output d y) y ≡ Some n.output.power.0
shifter-output-power n c d y fits data_is output_is = related-power c (shifter_joins n.input n.output d y) n.output y (shifter-parts n c d y (shifts-with n c d y fits data_is output_is)).0

own-power : (input output : SetOrigins) (d y : PinView) → (d.power == y.power) ≡ false → shifter_power input output d y d.power ≡ Some input.power.0
own-power input output d y apart =
    ap (λ b. if b then Some output.power.0 else (if d.power == d.power then Some input.power.0 else None)) apart
    ∙ ap (λ b. if b then Some input.power.0 else None) (eq-eqb d.power d.power refl)

pub shifter-data-power : (n : ShifterNeed) (c : CellView) (d y : PinView) → fits_shifter n c ≡ true → input_for is_data c ≡ Some d
    → one_output c ≡ Some y → has_power c d ≡ true
    → power_origin c (shifter_joins n.input n.output d y) d ≡ (if d.power == y.power then Some n.output.power.0 else Some n.input.power.0)
shifter-data-power n c d y fits data_is output_is has = by (d.power == y.power) refl
  where
    by : (same : Bool) → (d.power == y.power) ≡ same
        → power_origin c (shifter_joins n.input n.output d y) d ≡ (if same then Some n.output.power.0 else Some n.input.power.0)
    by true e = ap (joined_at c (shifter_joins n.input n.output d y)) (eqb-true d.power y.power e) ∙ shifter-output-power n c d y fits data_is output_is
    by false e =
        let g = pin-of c d has in
        let all = (shifter-parts n c d y (shifts-with n c d y fits data_is output_is)).1 in
        let some = is-joined c (shifter_joins n.input n.output d y) d.power g.0 all g.1 in
        joined-by c (shifter_joins n.input n.output d y) d.power g.0 g.1
        ∙ elim (kind-is (shifter_power n.input n.output d y d.power) (shifter_power n.input n.output d y d.power) n.output g.0.kind g.2 some) [ inl is ↦ is | inr is ↦ is ]
        ∙ own-power n.input n.output d y e

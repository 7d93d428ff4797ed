-- What cells have that fit: one output, pins that no other name takes, and no switched pins but those of switches.
use Rattle.std.proofs.Common.{◌≡◌, ℕ, ◌==◌, Bool, true, false, not, ◌||◌, List, [], ◌∷◌, ◌++◌, map, length, Option, Some, None, inl, inr, refl, sym, ap, ◌∙◌, subst}
use Rattle.std.specs.Prelude.{filter, bytes_eq, is_some, if◌then◌else◌}
use Rattle.std.specs.List.{list_any, list_all}
use Rattle.std.proofs.lemmas.Bool.{true≢false, false≢true, and_parts, not-true}
use Rattle.lp_model.specs.declared.library.PgKind.{PgKind}
use Rattle.lp_model.specs.declared.library.PgKind.TheVariants as kinds
use Rattle.lp_model.specs.declared.netlist.Direction.{Direction}
use Rattle.lp_model.specs.declared.netlist.Direction.TheVariants.{Input, Output}
use Rattle.lp_model.specs.declared.supply.SetOrigins.{SetOrigins}
use Rattle.lp_model.specs.LibraryView.{PgPinView, PinView, CellView}
use Rattle.lp_spec_design.specs.Keys.{Name, same_bool}
use Rattle.lp_spec_design.specs.Graph.{numbered, is_output_pin}
use Rattle.lp_spec_design.specs.Settled.{pin_named}
use Rattle.lp_spec_design.specs.Reads.{name-true, name-self}
use Rattle.lp_spec_design.specs.Winners.{IsIn}
use Rattle.lp_spec_design.proofs.Members.{in-right, in-map, any-in, of-filter}
use Rattle.lp_spec_design.proofs.Sources.{first_in}
use Rattle.lp_spec_pins.specs.Pins.{is_input_pin, is_data, input_for}
use Rattle.lp_spec_fit.specs.Needs.{ClampNeed, ShifterNeed, RegisterNeed}
use Rattle.lp_spec_fit.specs.PowerDown.{power_down_equals}
use Rattle.lp_spec_fit.specs.Joins.{Joins, by_kind, relates_to, all_joined, is_backup_power, clamp_joins, shifter_joins, shifter_power, register_joins}
use Rattle.lp_spec_fit.specs.Fits.{has_function, clamps, may_be_lower, one_output, is_iso_data, is_iso_enable, is_usable, fits_with_pins, fits_clamp, shifts_with_pins, fits_shifter, only_isolates, only_shifts, takes_pairs, is_retention_pin, retention_pins, plain_pins, same_pin, has_pins_of, has_exactly_pins_of, only_retains, same_state, fits_register}
use Rattle.lp_spec_realises.specs.ProjectNetlists.{are_apart}
use Rattle.lp_spec_cells.proofs.Names.{numbered-at}
use Rattle.lp_spec_cells.proofs.Retained.{fits-register}
use Rattle.lp_spec_agreement.specs.Faultless.{is_internal, IsSoundCell}
use Rattle.lp_spec_agreement.proofs.Apart.{all_in, apart_left, same_named}
use Rattle.lp_spec_driven.specs.Sound.{HasPinsApart, SwitchesNothing, HasOutputsOf, TakesPlace}

-- ---- names of pins

is-false : (b : Bool) → (b ≡ true → ⊥) → b ≡ false
is-false true f = absurd (f refl)
is-false false f = refl

-- no name of the first list is one of the second
lists-apart : (xs ys : List Name) → are_apart (xs ++ ys) ≡ true → (a : Name) → IsIn a xs → IsIn a ys → ⊥
lists-apart [] ys e a h g = absurd h
lists-apart (x ∷ xs) ys e a (inl is) g =
    let parts = and_parts (not (list_any (bytes_eq x) (xs ++ ys))) (are_apart (xs ++ ys)) e in
    let found : list_any (bytes_eq x) (xs ++ ys) ≡ true = any-in (bytes_eq x) a (xs ++ ys) (in-right a xs ys g) (ap (bytes_eq x) is ∙ name-self x) in
    false≢true (ap not (sym found) ∙ parts.0)
lists-apart (x ∷ xs) ys e a (inr h) g = lists-apart xs ys (and_parts (not (list_any (bytes_eq x) (xs ++ ys))) (are_apart (xs ++ ys)) e).1 a h g

pub pins-apart : (c : CellView) → IsSoundCell c → HasPinsApart c
pins-apart c sound = record {
  pins = λ q r h g e. same_named (λ (t : PinView). t.name) c.pins (apart_left (map (λ (t : PinView). t.name) c.pins) (map (λ (t : PgPinView). t.name) c.pgs) sound.names) q r h g (name-true q.name r.name e);
  pgs = λ q g h there. is-false (bytes_eq g.name q.name) (λ e.
      lists-apart (map (λ (t : PinView). t.name) c.pins) (map (λ (t : PgPinView). t.name) c.pgs) sound.names q.name
      (in-map (λ (t : PinView). t.name) q c.pins h)
      (subst (λ n. IsIn n (map (λ (t : PgPinView). t.name) c.pgs)) (name-true g.name q.name e) (in-map (λ (t : PgPinView). t.name) g c.pgs there)));
}

-- ---- switched pins

either-false : (a b : Bool) → (not a || b) ≡ true → b ≡ false → a ≡ false
either-false true b e f = absurd (false≢true (sym f ∙ e))
either-false false b e f = refl

-- a sound cell without internal power pins switches nothing
pub not-switched : (c : CellView) → IsSoundCell c → ((g : PgPinView) → IsIn g c.pgs → is_internal g ≡ false) → SwitchesNothing c
not-switched c sound none g h =
    either-false (is_some g.switched) (is_internal g)
    (all_in (λ (t : PgPinView). not (is_some t.switched) || is_internal t) g c.pgs sound.switched h)
    (none g h)

-- a pin with a supply by its kind is none
joined-outside : (a b : Option ℕ) (s : SetOrigins) (g : PgPinView) → is_some (by_kind a b s g.kind) ≡ true → is_internal g ≡ false
joined-outside a b s g e = by g.kind refl
  where
    by : (k : PgKind) → g.kind ≡ k → is_internal g ≡ false
    by kinds.PrimaryPower is = rw is refl
    by kinds.PrimaryGround is = rw is refl
    by kinds.BackupPower is = rw is refl
    by kinds.BackupGround is = rw is refl
    by kinds.InternalPower is = let none : false ≡ true = ap (λ k. is_some (by_kind a b s k)) (sym is) ∙ e in absurd (false≢true none)
    by kinds.InternalGround is = rw is refl
    by kinds.Nwell is = rw is refl
    by kinds.Pwell is = rw is refl
    by kinds.Deepnwell is = rw is refl
    by kinds.Deeppwell is = rw is refl

joined-pin : (c : CellView) (join : Joins) → all_joined c join ≡ true → (g : PgPinView) → IsIn g c.pgs → (k : ℕ) × (is_some (join k g) ≡ true)
joined-pin c join all g h =
    let at = numbered-at c.pgs 0 g h in
    (at.0, all_in (λ (x : ℕ × PgPinView). is_some (join x.0 x.1)) (at.0, g) (numbered 0 c.pgs) all at.1)

clamp-outside : (supply place : SetOrigins) (c : CellView) (k : ℕ) (g : PgPinView) → is_some (clamp_joins supply place c k g) ≡ true → is_internal g ≡ false
clamp-outside supply place c k g e = by (list_any is_backup_power c.pgs) e
  where
    by : (b : Bool) → is_some (if b then by_kind (Some place.power.0) (Some supply.power.0) place g.kind else by_kind (Some supply.power.0) None supply g.kind) ≡ true → is_internal g ≡ false
    by true f = joined-outside (Some place.power.0) (Some supply.power.0) place g f
    by false f = joined-outside (Some supply.power.0) None supply g f

-- ---- operators

-- what a cell of an operator has
pub record IsOperatorCell (c : CellView) : Type 0 where
  pub output : (q : PinView) × (one_output c ≡ Some q)
  pub inner : (g : PgPinView) → IsIn g c.pgs → is_internal g ≡ false

clamp-by : (n : ClampNeed) (c : CellView) (d e y : Option PinView) → one_output c ≡ y → fits_with_pins n c (clamp_joins n.supply n.place c) d e y ≡ true → IsOperatorCell c
clamp-by n c (Some d) (Some e) (Some y) is fits =
    let function = and_parts (has_function (d.name ∷ e.name ∷ []) (λ v. clamps n.clamp n.high (v d.name) (v e.name)) y.function) _ fits in
    let related = and_parts (list_all (relates_to c (clamp_joins n.supply n.place c) n.supply) c.pins) _ function.1 in
    let down = and_parts (power_down_equals c (clamp_joins n.supply n.place c) (n.supply ∷ []) y.power_down) (all_joined c (clamp_joins n.supply n.place c)) related.1 in
    record {
      output = (y, is);
      inner = λ g h. let at = joined-pin c (clamp_joins n.supply n.place c) down.1 g h in clamp-outside n.supply n.place c at.0 g at.1;
    }
clamp-by n c None e y is fits = absurd (false≢true fits)
clamp-by n c (Some d) None y is fits = absurd (false≢true fits)
clamp-by n c (Some d) (Some e) None is fits = absurd (false≢true fits)

pub clamp-cell : (n : ClampNeed) (c : CellView) → fits_clamp n c ≡ true → IsOperatorCell c
clamp-cell n c fits =
    let usable = and_parts (is_usable c) _ fits in
    let alone = and_parts (only_isolates c.roles) _ usable.1 in
    let stateless = and_parts (not (is_some c.state)) _ alone.1 in
    let three = and_parts (length c.pins == 3) _ stateless.1 in
    clamp-by n c (input_for is_iso_data c) (input_for is_iso_enable c) (one_output c) refl three.1

shifter-by : (n : ShifterNeed) (c : CellView) (d y : Option PinView) → one_output c ≡ y → shifts_with_pins n c d y ≡ true → IsOperatorCell c
shifter-by n c (Some d) (Some y) is fits =
    let join : Joins = shifter_joins n.input n.output d y in
    let function = and_parts (has_function (d.name ∷ []) (λ v. v d.name) y.function) _ fits in
    let related = and_parts (relates_to c join n.output y) _ function.1 in
    let other = and_parts (not (d.power == y.power) || not (may_be_lower n)) _ related.1 in
    let down = and_parts (power_down_equals c join (n.input ∷ n.output ∷ []) y.power_down || power_down_equals c join (n.output ∷ []) y.power_down) (all_joined c join) other.1 in
    record {
      output = (y, is);
      inner = λ g h.
          let at = joined-pin c (shifter_joins n.input n.output d y) down.1 g h in
          joined-outside (shifter_power n.input n.output d y at.0) (shifter_power n.input n.output d y at.0) n.output g at.1;
    }
shifter-by n c None y is fits = absurd (false≢true fits)
shifter-by n c (Some d) None is fits = absurd (false≢true fits)

pub shifter-cell : (n : ShifterNeed) (c : CellView) → fits_shifter n c ≡ true → IsOperatorCell c
shifter-cell n c fits =
    let usable = and_parts (is_usable c) _ fits in
    let alone = and_parts (only_shifts c.roles) _ usable.1 in
    let stateless = and_parts (not (is_some c.state)) _ alone.1 in
    let two = and_parts (length c.pins == 2) _ stateless.1 in
    let pairs = and_parts (takes_pairs n.pairs c.roles.shifter) _ two.1 in
    shifter-by n c (input_for is_data c) (one_output c) refl pairs.1

-- ---- registers

input-not-output : (q : PinView) → is_input_pin q ≡ true → is_output_pin q ≡ false
input-not-output q e = by q.direction refl
  where
    by : (d : Direction) → q.direction ≡ d → is_output_pin q ≡ false
    by Input g = rw g refl
    by Output g = let bad : false ≡ true = rw g at e in absurd (false≢true bad)

same-true : (a b : Bool) → same_bool a b ≡ true → a ≡ b
same-true true b e = sym e
same-true false true e = absurd (false≢true e)
same-true false false e = refl

named-is : (c : CellView) (n : Name) (q : PinView) → pin_named c n ≡ Some q → IsIn q c.pins × (q.name ≡ n)
named-is c n q e = let at = first_in (λ (r : PinView). bytes_eq r.name n) c.pins q e in (at.0, name-true q.name n at.1)

-- what has the name of a pin of the source is a pin of the cell that is no retention pin and goes the same way
pub record HasPinOf (b : CellView) (q : PinView) : Type 0 where
  pub pin : PinView
  pub listed : IsIn pin b.pins
  pub name : pin.name ≡ q.name
  pub plain : is_retention_pin pin ≡ false
  pub direction : is_output_pin q ≡ is_output_pin pin

pin-by : (a b : CellView) (q : PinView) (o : Option PinView) → pin_named b q.name ≡ o → same_pin a b q o ≡ true → HasPinOf b q
pin-by a b q None is e = absurd (false≢true e)
pin-by a b q (Some r) is e =
    let plain = and_parts (not (is_retention_pin r)) _ e in
    let direction = and_parts (same_bool (is_output_pin q) (is_output_pin r)) _ plain.1 in
    let at = named-is b q.name r is in
    record { pin = r; listed = at.0; name = at.1; plain = not-true (is_retention_pin r) plain.0; direction = same-true (is_output_pin q) (is_output_pin r) direction.0 }

pub pin-of : (n : RegisterNeed) (d : CellView) → fits_register n d ≡ true → (q : PinView) → IsIn q n.source.pins → HasPinOf d q
pin-of n d fits q h =
    let exactly = and_parts (has_pins_of n.source d) _ (fits-register n d fits).exactly in
    pin-by n.source d q (pin_named d q.name) refl (all_in (λ (r : PinView). same_pin n.source d r (pin_named d r.name)) q n.source.pins exactly.0 h)

retention-inputs : (n : RegisterNeed) (d : CellView) → fits_register n d ≡ true → list_all is_input_pin (retention_pins d) ≡ true
retention-inputs n d fits =
    let usable = and_parts (is_usable d) _ fits in
    let alone = and_parts (only_retains d.roles) _ usable.1 in
    let exactly = and_parts (has_exactly_pins_of n.source d) _ alone.1 in
    let state = and_parts (same_state n.source d n.source.state d.state) _ exactly.1 in
    (and_parts (list_all is_input_pin (retention_pins d)) _ state.1).0

some-named : (c : CellView) (n : Name) (o : Option PinView) → pin_named c n ≡ o → is_some o ≡ true → (q : PinView) × IsIn q c.pins × (q.name ≡ n)
some-named c n None is e = absurd (false≢true e)
some-named c n (Some q) is e = let at = named-is c n q is in (q, at.0, at.1)

-- a cell that fits a register with retention takes the register's place
module _ (n : RegisterNeed) (d : CellView) (sound : IsSoundCell d) (fits : fits_register n d ≡ true) where
  abbrev c : CellView
  c = n.source

  retention-input : (r : PinView) → IsIn r (retention_pins d) → is_output_pin r ≡ false
  retention-input r h = input-not-output r (all_in is_input_pin r (retention_pins d) (retention-inputs n d fits) h)

  to-cell : HasOutputsOf c d
  to-cell q h out = let at = pin-of n d fits q h in (at.pin, at.listed, sym at.direction ∙ out, at.name)

  kept : {A : Type 0} (t : A → Bool) (xs : List A) (x : A) → IsIn x xs → t x ≡ true → IsIn x (filter t xs)
  kept t [] x h e = absurd h
  kept t (y ∷ xs) x h e = by (t y) refl (λ r. kept t xs x r e)
    where
      by : (b : Bool) → t y ≡ b → (IsIn x xs → IsIn x (filter t xs)) → IsIn x (if b then y ∷ filter t xs else filter t xs)
      by true f more = elim h [ inl is ↦ inl is | inr r ↦ inr (more r) ]
      by false f more = elim h [ inl is ↦ absurd (false≢true (sym f ∙ (ap t (sym is) ∙ e))) | inr r ↦ more r ]

  plain-output : (r : PinView) → IsIn r d.pins → is_output_pin r ≡ true → is_retention_pin r ≡ false
  plain-output r h out = is-false (is_retention_pin r) (λ e. false≢true (sym (retention-input r (kept is_retention_pin d.pins r h e)) ∙ out))

  to-source : HasOutputsOf d c
  to-source r h out =
      let exactly = and_parts (has_pins_of c d) (list_all (λ (t : PinView). is_some (pin_named c t.name)) (plain_pins d)) (fits-register n d fits).exactly in
      let plain : IsIn r (plain_pins d) = kept (λ (t : PinView). not (is_retention_pin t)) d.pins r h (ap not (plain-output r h out)) in
      let named = some-named c r.name (pin_named c r.name) refl (all_in (λ (t : PinView). is_some (pin_named c t.name)) r (plain_pins d) exactly.1 plain) in
      let at = pin-of n d fits named.0 named.1 in
      let same : at.pin ≡ r = same_named (λ (t : PinView). t.name) d.pins (apart_left (map (λ (t : PinView). t.name) d.pins) (map (λ (t : PgPinView). t.name) d.pgs) sound.names) at.pin r at.listed h (at.name ∙ named.2) in
      (named.0, named.1, at.direction ∙ (ap is_output_pin same ∙ out), named.2)

  pub takes-place : TakesPlace c d
  takes-place = record {
    outputs = to-source;
    all = to-cell;
    retention = retention-input;
    switches = not-switched d sound (λ g h.
        let at = joined-pin d (register_joins n.primary n.retention) (fits-register n d fits).joined g h in
        joined-outside (Some n.primary.power.0) (Some n.retention.power.0) n.primary g at.1);
  }

  -- no name of a pin of the source is that of a retention pin
  pub no-retention : (q r : PinView) → IsIn q c.pins → IsIn r (retention_pins d) → q.name ≡ r.name → ⊥
  no-retention q r h g e =
      let at = pin-of n d fits q h in
      let there = of-filter is_retention_pin r d.pins g in
      let same : at.pin ≡ r = same_named (λ (t : PinView). t.name) d.pins (apart_left (map (λ (t : PinView). t.name) d.pins) (map (λ (t : PgPinView). t.name) d.pgs) sound.names) at.pin r at.listed there.0 (at.name ∙ e) in
      true≢false (sym there.1 ∙ (ap is_retention_pin (sym same) ∙ at.plain))

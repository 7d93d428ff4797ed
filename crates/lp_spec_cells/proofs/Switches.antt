-- What the switched pin of a cell that fits a power switch gives.
use Rattle.std.proofs.Common.{◌≡◌, ℕ, ◌==◌, Bool, true, false, not, List, [], ◌∷◌, map, Option, Some, None, inl, inr, refl, sym, ap, ◌∙◌, subst, arith}
use Rattle.std.specs.Prelude.{if◌then◌else◌, is_some, filter, slice_get, option_and_then}
use Rattle.std.specs.List.{list_all}
use Rattle.std.proofs.lemmas.Bool.{false≢true, and_parts, eqb-true, eq-eqb}
use Rattle.lp_tern.specs.declared.tern.Tern.{Tern}
use Rattle.lp_tern.specs.declared.tern.Tern.TheVariants.{Zero, One, X}
use Rattle.lp_tern.specs.declared.supply.SupplyState.{SupplyState}
use Rattle.lp_tern.specs.declared.supply.SupplyState.TheVariants.{On, Off, Unknown}
use Rattle.lp_tern.specs.Values.{replacements, agreed, negate_of, choose_supply_of}
use Rattle.lp_expr.specs.Formula.{truth}
use Rattle.lp_model.specs.declared.library.PgKind.{PgKind}
use Rattle.lp_model.specs.declared.library.PgKind.TheVariants as kinds
use Rattle.lp_model.specs.LibraryView.{ExprView, SwitchedView, PgPinView, PinView, CellView}
use Rattle.lp_spec_design.specs.Keys.{Name, Path}
use Rattle.lp_spec_design.specs.Netlists.{first}
use Rattle.lp_spec_design.specs.Graph.{numbered}
use Rattle.lp_spec_design.specs.Winners.{IsIn}
use Rattle.lp_spec_design.specs.Settled.{Registers, sensed, function_value}
use Rattle.lp_spec_design.proofs.Members.{in-map, of-map, of-any}
use Rattle.lp_spec_pins.specs.Pins.{Powered, PinAssignment, pins_read, is_input_pin, only, input_for, pg_named, switched_of, switched_state, switch_equation}
use Rattle.lp_spec_fit.specs.Needs.{Mapped, SwitchCellNeed}
use Rattle.lp_spec_fit.specs.Joins.{ToInput, switch_origin, switch_side, switch_joins, joined_at, is_origin}
use Rattle.lp_spec_fit.specs.Fits.{is_usable, is_switch_pin, switched_pins, is_complement, switches_with, fits_switch}
use Rattle.lp_spec_cells.specs.Sound.{is_function_of, is_sound_switched, is_primary_power, IsSound}
use Rattle.lp_spec_cells.specs.Joined.{Comes, OriginStates, IsJoinedBy, Stands, on_where}
use Rattle.lp_spec_cells.proofs.Outcomes.{all-in, in-kept, of-kept}
use Rattle.lp_spec_cells.proofs.OverPins.{value-over}
use Rattle.lp_spec_cells.proofs.Names.{input-for, only-is, filtered, first-in, first-named, numbered-get, numbered-at}
use Rattle.lp_spec_cells.proofs.Clamps.{none-there}
use Rattle.lp_spec_cells.proofs.Shifters.{one_bit, one-may, one-gives}
use Rattle.lp_spec_cells.proofs.Outputs.{state-of-joined}

-- off where it is not on
chosen-off : (u : Tern) (s : SupplyState) → choose_supply_of (negate_of u) Off s ≡ choose_supply_of u s Off
chosen-off Zero s = refl
chosen-off One s = refl
chosen-off X (On v) = refl
chosen-off X Off = refl
chosen-off X Unknown = refl

-- whether a switch is off, by its control
off_where : Name → Bool → Bool → Bool
off_where v high b = not (truth (on_where v high).steps (map (λ name. b) (on_where v high).variables))

off-table : (v : Name) (high : Bool) (t : Tern) → agreed (map (off_where v high) (replacements t)) ≡ negate_of (sensed high t)
unfolding off_where
off-table v true Zero = refl
off-table v true One = refl
off-table v true X = refl
off-table v false Zero = refl
off-table v false One = refl
off-table v false X = refl

-- ---- the one switched pin

only-first : {A : Type 0} (x : A) (xs : List A) (y : A) → only (x ∷ xs) ≡ Some y → x ≡ y
only-first x [] y e = cc
only-first x (z ∷ xs) y e = absurd cc

pub switched-first : (c : CellView) (pgs : List PgPinView) (g : PgPinView) (s : SwitchedView) → first (λ (h : PgPinView). is_some h.switched) pgs ≡ Some g → only (switched_pins (record c { pgs = pgs })) ≡ Some s → g.switched ≡ Some s
switched-first c [] g s e o = absurd cc
switched-first c (p ∷ ps) g s e o = by p.switched e o (switched-first c ps g s)
  where
    by : (t : Option SwitchedView) → first (λ (h : PgPinView). is_some h.switched) (record p { switched = t } ∷ ps) ≡ Some g
        → only (switched_pins (record c { pgs = record p { switched = t } ∷ ps })) ≡ Some s
        → (first (λ (h : PgPinView). is_some h.switched) ps ≡ Some g → only (switched_pins (record c { pgs = ps })) ≡ Some s → g.switched ≡ Some s)
        → g.switched ≡ Some s
    by None f m more = more f m
    by (Some t) f m more =
        let here : record p { switched = Some t } ≡ g = cc in
        sym (ap (λ (h : PgPinView). h.switched) here) ∙ ap (λ r. Some r) (only-first t _ s m)

-- ---- the pin that it passes on

primary-side : (passes k : ℕ) (p : PgPinView) (kind : PgKind) → is_primary_power (record p { kind = kind }) ≡ true → is_some (switch_side passes k (record p { kind = kind })) ≡ true
    → (k ≡ passes) × (switch_side passes k (record p { kind = kind }) ≡ Some ToInput)
primary-side passes k p kinds.PrimaryPower e f = by (k == passes) refl f
  where
    by : (b : Bool) → (k == passes) ≡ b → is_some (if b then Some ToInput else None) ≡ true → (k ≡ passes) × ((if b then Some ToInput else None) ≡ Some ToInput)
    by true g h = (eqb-true k passes g, refl)
    by false g h = absurd (false≢true h)
primary-side passes k p kinds.PrimaryGround e f = absurd (false≢true e)
primary-side passes k p kinds.BackupPower e f = absurd (false≢true e)
primary-side passes k p kinds.BackupGround e f = absurd (false≢true e)
primary-side passes k p kinds.InternalPower e f = absurd (false≢true e)
primary-side passes k p kinds.InternalGround e f = absurd (false≢true e)
primary-side passes k p kinds.Nwell e f = absurd (false≢true e)
primary-side passes k p kinds.Pwell e f = absurd (false≢true e)
primary-side passes k p kinds.Deepnwell e f = absurd (false≢true e)
primary-side passes k p kinds.Deeppwell e f = absurd (false≢true e)

-- the pin that a fitting switch passes on is joined to its input
pub passed-on : (c : CellView) (s : SwitchedView) (input output gnd : ℕ) → IsSound c → list_all (λ x. is_some (switch_side s.passes x.0 x.1)) (numbered 0 c.pgs) ≡ true
    → is_origin input (joined_at c (switch_joins input output gnd s.passes) s.passes) ≡ true
passed-on c s input output gnd sound all =
    let primary = of-any is_primary_power c.pgs sound.powered in
    let there = numbered-at c.pgs 0 primary.0 primary.1 in
    let side = primary-side s.passes there.0 primary.0 primary.0.kind primary.2 (all-in (λ x. is_some (switch_side s.passes x.0 x.1)) (numbered 0 c.pgs) (there.0, primary.0) all there.1) in
    let at = numbered-get c.pgs 0 there.0 primary.0 there.1 in
    let number : at.0 ≡ s.passes = omega (arith, at.1, side.0) in
    let pin : slice_get c.pgs s.passes ≡ Some primary.0 = ap (slice_get c.pgs) (sym number) ∙ at.2 in
    let joins : switch_joins input output gnd s.passes s.passes primary.0 ≡ Some input = ap (λ k. switch_joins input output gnd s.passes k primary.0) (sym side.0) ∙ ap (λ o. option_and_then (λ z. Some (switch_origin input output gnd z)) o) side.1 in
    ap (λ g. is_origin input (option_and_then (switch_joins input output gnd s.passes s.passes) g)) pin ∙ (ap (is_origin input) joins ∙ eq-eqb input input refl)

-- ---- the whole

-- what a cell that fits has
pub record FitsSwitch (n : SwitchCellNeed) (c : CellView) (q : PinView) (s : SwitchedView) : Type 0 where
  pub stateless : not (is_some c.state) ≡ true
  pub complement : is_complement q.name n.on s.off ≡ true
  pub power : (q.power == s.passes) ≡ true
  pub sides : list_all (λ x. is_some (switch_side s.passes x.0 x.1)) (numbered 0 c.pgs) ≡ true

fits-with : (n : SwitchCellNeed) (c : CellView) (s : SwitchedView) (q : PinView) → IsIn q c.pins → is_input_pin q ≡ true → not (is_some c.state) ≡ true
    → (o : Option PinView) → only (filter is_input_pin c.pins) ≡ o → switches_with n c o (Some s) ≡ true → FitsSwitch n c q s
fits-with n c s q m i none None at h = absurd (false≢true h)
fits-with n c s q m i none (Some r) at h =
    let alone = only-is (filter is_input_pin c.pins) r at in
    let there : IsIn q (r ∷ []) = subst (λ qs. IsIn q qs) alone (filtered is_input_pin q c.pins m i) in
    let same : r ≡ q = elim there [ inl is ↦ sym is | inr none ↦ absurd none ] in
    let switch = and_parts (is_switch_pin r) _ h in
    let complement = and_parts (is_complement r.name n.on s.off) _ switch.1 in
    let power = and_parts (r.power == s.passes) _ complement.1 in
    record { stateless = none; complement = sym (ap (λ (z : PinView). is_complement z.name n.on s.off) same) ∙ complement.0; power = sym (ap (λ (z : PinView). z.power == s.passes) same) ∙ power.0; sides = power.1 }

pub fits-switch : (n : SwitchCellNeed) (c : CellView) → fits_switch n c ≡ true → (q : PinView) (s : SwitchedView) → input_for is_switch_pin c ≡ Some q → only (switched_pins c) ≡ Some s → FitsSwitch n c q s
fits-switch n c fits q s at_q at_s =
    let usable = and_parts (is_usable c) _ fits in
    let switch = and_parts c.roles.switch _ usable.1 in
    let none = and_parts (not (is_some c.state)) _ switch.1 in
    let found = input-for is_switch_pin c q at_q in
    fits-with n c s q found.is_in found.input none.0 (only (filter is_input_pin c.pins)) refl (sym (ap (λ o. switches_with n c (only (filter is_input_pin c.pins)) o) at_s) ∙ none.1)

off-value : (c : CellView) (none : c.state ≡ None) (q : PinView) (v : Name) (high : Bool) (e : ExprView) (pins : Name → Tern) (state : Tern) → is_function_of c e ≡ true → is_complement q.name (on_where v high) e ≡ true
    → function_value c pins state e ≡ negate_of (sensed high (pins q.name))
unfolding off_where
off-value c none q v high e pins state sound h =
    value-over c none pins state e sound (q.name ∷ []) (λ u. off_where v high (u q.name)) h (λ u w same. ap (off_where v high) (same q.name (inl refl))) (map (off_where v high) (replacements (pins q.name)))
    (λ u may. in-map (off_where v high) (u q.name) (replacements (pins q.name)) (in-kept (pins q.name) (u q.name) (may q.name)))
    (λ b m.
    let found = of-map (off_where v high) b (replacements (pins q.name)) m in
    record { by = one_bit pins q.name found.0; may = one-may pins q.name found.0 (of-kept (pins q.name) found.0 found.1); is = found.2 ∙ ap (off_where v high) (sym (one-gives pins q.name found.0)) })
    ∙ off-table v high (pins q.name)

pub switch-gives : (v : Name) (high : Bool) (mapped : Mapped) (c : CellView) → fits_switch (record { on = on_where v high; mapped = mapped }) c ≡ true → IsSound c
    → (q : PinView) (s : SwitchedView) (g : PgPinView) → input_for is_switch_pin c ≡ Some q → only (switched_pins c) ≡ Some s → first (λ (h : PgPinView). is_some h.switched) c.pgs ≡ Some g
    → (w : Powered) (B : PinAssignment) (path : Path) (x : Name) (source : Comes) (st : OriginStates) (input output gnd : ℕ)
    → IsJoinedBy w path x c source (switch_joins input output gnd s.passes) → Stands B source st
    → (regs : Registers)
    → switch_equation w B regs path x g.name (Some c) ≡ choose_supply_of (sensed high (pins_read w B path x c q.name)) (st input) Off
switch-gives v high mapped c fits sound q s g at_q at_s at_g w B path x source st input output gnd joined stands regs =
    let parts = fits-switch (record { on = on_where v high; mapped = mapped }) c fits q s at_q at_s in
    let there = first-in (λ (h : PgPinView). is_some h.switched) c.pgs g at_g in
    let named : pg_named c g.name ≡ Some g = first-named (λ (h : PgPinView). h.name) c.pgs g sound.pgs_apart there.0 in
    let switched : g.switched ≡ Some s = switched-first c c.pgs g s at_g at_s in
    let sound_off : is_function_of c s.off ≡ true = sym (ap (is_sound_switched c) switched) ∙ all-in (λ (h : PgPinView). is_sound_switched c h.switched) c.pgs g sound.switched there.0 in
    let off = off-value c (none-there c.state parts.stateless) q v high s.off (pins_read w B path x c) (regs path x) sound_off parts.complement in
    let from = state-of-joined w B path x c source (switch_joins input output gnd s.passes) st joined stands s.passes input (passed-on c s input output gnd sound parts.sides) in
    ap (λ o. switched_state w B regs path x c (switched_of o)) named
    ∙ (ap (switched_state w B regs path x c) switched
    ∙ ((λ i. choose_supply_of (off i) Off (from i)) ∙ chosen-off (sensed high (pins_read w B path x c q.name)) (st input)))

-- What a cell instance looks at: its input pins, and the supplies of its power and ground pins.
use Rattle.std.proofs.Common.{◌≡◌, ℕ, zero, suc, ◌==◌, Bool, true, false, not, ◌&&◌, List, [], ◌∷◌, map, Option, Some, None, inl, inr, refl, sym, ap, ◌∙◌}
use Rattle.std.specs.Prelude.{if◌then◌else◌, is_some, bytes_eq, slice_get, filter}
use Rattle.std.specs.List.{list_all}
use Rattle.std.proofs.lemmas.Bool.{false≢true, and_parts}
use Rattle.lp_tern.specs.declared.tern.Tern.{Tern}
use Rattle.lp_tern.specs.declared.tern.Tern.TheVariants.{Zero, One, X}
use Rattle.lp_tern.specs.declared.supply.SupplyState.{SupplyState}
use Rattle.lp_tern.specs.declared.supply.SupplyState.TheVariants.{On, Off, Unknown}
use Rattle.lp_tern.specs.Values.{choose_supply_of}
use Rattle.lp_model.specs.declared.library.Shifter.{Shifter}
use Rattle.lp_model.specs.LibraryView.{ExprView, SwitchedView, PgPinView, PinView, StateView, CellView}
use Rattle.lp_spec_design.specs.Keys.{Name, Path}
use Rattle.lp_spec_design.specs.Netlists.{first}
use Rattle.lp_spec_design.specs.Graph.{numbered}
use Rattle.lp_spec_design.specs.Winners.{IsIn}
use Rattle.lp_spec_design.specs.Settled.{Registers, kept, pin_named, node_at_pin, function_value}
use Rattle.lp_spec_pins.specs.Pins.{Powered, PinAssignment, Pair, state_from, source_of_pg, state_of_pg, related, pins_read, onness, pg_named, sources_named, is_zero_for, is_up, is_data, is_outside, is_unfit_at, is_unfit, input_supply, outside_by, is_input_pin, input_for, only, driving_pin, output_at, cell_output_at, switched_state, switched_of, switch_equation}
use Rattle.lp_spec_fit.specs.Needs.{ClampNeed, ShifterNeed, RegisterNeed, SwitchCellNeed}
use Rattle.lp_spec_fit.specs.Joins.{switch_side, shifter_joins, switch_joins}
use Rattle.lp_spec_fit.specs.Fits.{is_usable, only_isolates, only_shifts, same_state, one_output, switched_pins, switches_with, is_complement, is_switch_pin, fits_clamp, fits_shifter, fits_register, fits_switch}
use Rattle.lp_spec_cells.specs.Sound.{IsSound}
use Rattle.lp_spec_cells.specs.Joined.{Comes, OriginStates, IsJoinedBy, Stands, ground_in, pair_in}
use Rattle.lp_spec_cells.specs.Retention.{SameInputs}
use Rattle.lp_spec_cells.specs.PinLaws.{SameSupplies}
use Rattle.lp_spec_cells.proofs.Names.{first-in, first-named}
use Rattle.lp_spec_cells.proofs.Clamps.{none-there}
use Rattle.lp_spec_cells.proofs.States.{read-same, function-same, output-same}
use Rattle.lp_spec_cells.proofs.Retained.{fits-register}
use Rattle.lp_spec_cells.proofs.Outputs.{state-of-joined}
use Rattle.lp_spec_cells.proofs.Switches.{switched-first, passed-on}
use Rattle.lp_spec_cells.proofs.RelatedPins.{shifter-output-relates, shifter-data-relates}

get-in : {A : Type 0} (xs : List A) (k : ℕ) (a : A) → slice_get xs k ≡ Some a → IsIn a xs
get-in [] k a e = absurd cc
get-in (x ∷ xs) zero a e = let is : x ≡ a = cc in inl (sym is)
get-in (x ∷ xs) (suc k) a e = inr (get-in xs k a e)

module _ (w : Powered) (B C : PinAssignment) (path : Path) (x : Name) (c : CellView) (same : SameInputs c (pins_read w B path x c) (pins_read w C path x c)) (supplies : SameSupplies w B C path x c) where
  -- the state of the pin of a name
  named-state : (v : Name) (o : Option PgPinView) → pg_named c v ≡ o → state_of_pg w B path x o ≡ state_of_pg w C path x o
  named-state v None e = refl
  named-state v (Some g) e = supplies g (first-in (λ (h : PgPinView). bytes_eq h.name v) c.pgs g e).0

  placed-state : (k : ℕ) (o : Option PgPinView) → slice_get c.pgs k ≡ o → state_of_pg w B path x o ≡ state_of_pg w C path x o
  placed-state k None e = refl
  placed-state k (Some g) e = supplies g (get-in c.pgs k g e)

  named-ons : (vs : List Name) → map (λ s. onness (state_from B s)) (sources_named w path x c vs) ≡ map (λ s. onness (state_from C s)) (sources_named w path x c vs)
  named-ons [] = refl
  named-ons (v ∷ vs) =
      let one : onness (state_from B (source_of_pg w path x (pg_named c v))) ≡ onness (state_from C (source_of_pg w path x (pg_named c v))) = ap onness (named-state v (pg_named c v) refl) in
      let rest = named-ons vs in
      λ i. one i ∷ rest i

  up-same : (o : Option ExprView) → is_up w B path x c o ≡ is_up w C path x c o
  up-same None = refl
  up-same (Some e) = ap (is_zero_for c e (sources_named w path x c e.variables)) (named-ons e.variables)

  pub shown-same : ((y : PinView) → IsIn y c.pins → is_unfit w B path x c y ≡ is_unfit w C path x c y) → (regs : Registers) (q : Name) → cell_output_at w B regs path x q (Some c) ≡ cell_output_at w C regs path x q (Some c)
  shown-same unfit regs q = by (pin_named c q) refl
    where
      by : (o : Option PinView) → pin_named c q ≡ o → output_at w B regs path x c o ≡ output_at w C regs path x c o
      by None e = refl
      by (Some y) e =
          let there = (first-in (λ (r : PinView). bytes_eq r.name q) c.pins y e).0 in
          let up = up-same y.power_down in
          let fit = unfit y there in
          let value = output-same c (pins_read w B path x c) (pins_read w C path x c) (read-same c (pins_read w B path x c) (pins_read w C path x c) same) (regs path x) y.function in
          λ i. kept (up i && not (fit i)) (value i)

  switched-same : (regs : Registers) (o : Option SwitchedView) → switched_state w B regs path x c o ≡ switched_state w C regs path x c o
  switched-same regs None = refl
  switched-same regs (Some s) =
      let value = function-same c (pins_read w B path x c) (pins_read w C path x c) (read-same c (pins_read w B path x c) (pins_read w C path x c) same) (regs path x) s.off in
      let state = placed-state s.passes (slice_get c.pgs s.passes) refl in
      λ i. choose_supply_of (value i) Off (state i)

  pub looks-at : c.roles.shifter ≡ None → (regs : Registers) (q : Name)
      → (cell_output_at w B regs path x q (Some c) ≡ cell_output_at w C regs path x q (Some c)) × (switch_equation w B regs path x q (Some c) ≡ switch_equation w C regs path x q (Some c))
  looks-at none regs q = (
    shown-same (λ y m. ap (λ f. is_unfit_at w B path x c y f (input_for is_data c)) none ∙ sym (ap (λ f. is_unfit_at w C path x c y f (input_for is_data c)) none)) regs q,
    switched-same regs (switched_of (pg_named c q)),
  )

pub looks-at-its-pins : (w : Powered) (B C : PinAssignment) (path : Path) (x : Name) (c : CellView) → c.roles.shifter ≡ None
    → SameInputs c (pins_read w B path x c) (pins_read w C path x c) → SameSupplies w B C path x c → (regs : Registers) (q : Name)
    → (cell_output_at w B regs path x q (Some c) ≡ cell_output_at w C regs path x q (Some c)) × (switch_equation w B regs path x q (Some c) ≡ switch_equation w C regs path x q (Some c))
looks-at-its-pins w B C path x c none same supplies regs q = looks-at w B C path x c same supplies none regs q

pub shifter-looks : (w : Powered) (B C : PinAssignment) (path : Path) (x : Name) (c : CellView) → ((y : PinView) → IsIn y c.pins → is_unfit w B path x c y ≡ is_unfit w C path x c y)
    → SameInputs c (pins_read w B path x c) (pins_read w C path x c) → SameSupplies w B C path x c → (regs : Registers) (q : Name)
    → cell_output_at w B regs path x q (Some c) ≡ cell_output_at w C regs path x q (Some c)
shifter-looks w B C path x c unfit same supplies regs q = shown-same w B C path x c same supplies unfit regs q

-- ---- states of cells

state-of-source : (a b : CellView) (g h : Option StateView) → same_state a b g h ≡ true → (is_some g ≡ true) × (is_some h ≡ true)
state-of-source a b (Some g) (Some h) e = (refl, refl)
state-of-source a b None h e = absurd (false≢true e)
state-of-source a b (Some g) None e = absurd (false≢true e)

pub registers-hold-state : (n : RegisterNeed) (c : CellView) → fits_register n c ≡ true → (is_some n.source.state ≡ true) × (is_some c.state ≡ true)
registers-hold-state n c fits = state-of-source n.source c n.source.state c.state (fits-register n c fits).state

pub added-hold-no-state : (c : CellView) → ((n : ClampNeed) → fits_clamp n c ≡ true → c.state ≡ None) × ((n : ShifterNeed) → fits_shifter n c ≡ true → c.state ≡ None) × ((n : SwitchCellNeed) → fits_switch n c ≡ true → c.state ≡ None)
added-hold-no-state c = (
  λ n fits. none-there c.state (and_parts (not (is_some c.state)) _ (and_parts (only_isolates c.roles) _ (and_parts (is_usable c) _ fits).1).1).0,
  λ n fits. none-there c.state (and_parts (not (is_some c.state)) _ (and_parts (only_shifts c.roles) _ (and_parts (is_usable c) _ fits).1).1).0,
  λ n fits. none-there c.state (and_parts (not (is_some c.state)) _ (and_parts c.roles.switch _ (and_parts (is_usable c) _ fits).1).1).0,
)

-- ---- switches

fed : (u : Tern) (s : SupplyState) (v : ℕ) → choose_supply_of u Off s ≡ On v → s ≡ On v
fed Zero s v e = e
fed One s v e = absurd cc
fed X (On u) v e = absurd cc
fed X Off v e = absurd cc
fed X Unknown v e = absurd cc

sides-of : (n : SwitchCellNeed) (c : CellView) (s : SwitchedView) (o : Option PinView) → switches_with n c o (Some s) ≡ true → list_all (λ y. is_some (switch_side s.passes y.0 y.1)) (numbered 0 c.pgs) ≡ true
sides-of n c s None h = absurd (false≢true h)
sides-of n c s (Some r) h =
    let switch = and_parts (is_switch_pin r) _ h in
    let complement = and_parts (is_complement r.name n.on s.off) _ switch.1 in
    (and_parts (r.power == s.passes) _ complement.1).1

pub switch-feeds : (n : SwitchCellNeed) (c : CellView) → fits_switch n c ≡ true → IsSound c
    → (s : SwitchedView) (g : PgPinView) → only (switched_pins c) ≡ Some s → first (λ (h : PgPinView). is_some h.switched) c.pgs ≡ Some g
    → (w : Powered) (B : PinAssignment) (path : Path) (x : Name) (source : Comes) (st : OriginStates) (input output gnd : ℕ)
    → IsJoinedBy w path x c source (switch_joins input output gnd s.passes) → Stands B source st
    → (regs : Registers) (v : ℕ) → switch_equation w B regs path x g.name (Some c) ≡ On v
    → st input ≡ On v
switch-feeds n c fits sound s g at_s at_g w B path x source st input output gnd joined stands regs v on =
    let usable = and_parts (is_usable c) _ fits in
    let switch = and_parts c.roles.switch _ usable.1 in
    let none = and_parts (not (is_some c.state)) _ switch.1 in
    let with_s : switches_with n c (only (filter is_input_pin c.pins)) (Some s) ≡ true = sym (ap (switches_with n c (only (filter is_input_pin c.pins))) at_s) ∙ none.1 in
    let sides = sides-of n c s (only (filter is_input_pin c.pins)) with_s in
    let there = first-in (λ (h : PgPinView). is_some h.switched) c.pgs g at_g in
    let named : pg_named c g.name ≡ Some g = first-named (λ (h : PgPinView). h.name) c.pgs g sound.pgs_apart there.0 in
    let switched : g.switched ≡ Some s = switched-first c c.pgs g s at_g at_s in
    let state : state_of_pg w B path x (slice_get c.pgs s.passes) ≡ st input = state-of-joined w B path x c source (switch_joins input output gnd s.passes) st joined stands s.passes input (passed-on c s input output gnd sound sides) in
    let equation : switched_state w B regs path x c (Some s) ≡ On v = sym (ap (λ o. switched_state w B regs path x c (switched_of o)) named ∙ ap (switched_state w B regs path x c) switched) ∙ on in
    sym state ∙ fed (function_value c (pins_read w B path x c) (regs path x) s.off) (state_of_pg w B path x (slice_get c.pgs s.passes)) v equation

-- ---- level shifters

pub shifter-is-inside : (n : ShifterNeed) (c : CellView) → fits_shifter n c ≡ true → IsSound c
    → (d y : PinView) → input_for is_data c ≡ Some d → one_output c ≡ Some y
    → (w : Powered) (B : PinAssignment) (path : Path) (x : Name) (source : Comes) (st : OriginStates)
    → IsJoinedBy w path x c source (shifter_joins n.input n.output d y) → Stands B source st
    → ((f : Shifter) (g h : SupplyState) → c.roles.shifter ≡ Some f → is_outside f (record { power = st n.input.power.0; gnd = g }) (record { power = st n.output.power.0; gnd = h }) ≡ false)
    → ((d.power == y.power) ≡ true → (r : Pair) → driving_pin w B (node_at_pin w.structure path x d.name) ≡ Some r → r.power ≡ st n.input.power.0)
    → is_unfit w B path x c y ≡ false
shifter-is-inside n c fits sound d y at_d at_y w B path x source st joined stands inside driven =
    ap (is_unfit_at w B path x c y c.roles.shifter) at_d ∙ by c.roles.shifter refl
  where
    out : related w B path x c y ≡ record { power = st n.output.power.0; gnd = st n.output.gnd.0 }
    out = shifter-output-relates n c fits d y at_d at_y w B path x source st joined stands

    own : (f : Shifter) → c.roles.shifter ≡ Some f → (b : Bool) → (d.power == y.power) ≡ b
        → related w B path x c d ≡ pair_in st (if b then n.output.power.0 else n.input.power.0) n.output.gnd.0 d.gnd
        → outside_by f (input_supply w B path x c d b) (related w B path x c y) ≡ false
    own f role false e is = (λ i. is_outside f (is i) (out i)) ∙ inside f (ground_in (st n.output.gnd.0) d.gnd) (st n.output.gnd.0) role
    own f role true e is = shared (driving_pin w B (node_at_pin w.structure path x d.name)) refl
      where
        shared : (r : Option Pair) → driving_pin w B (node_at_pin w.structure path x d.name) ≡ r → outside_by f r (related w B path x c y) ≡ false
        shared None at = refl
        shared (Some r) at =
            let power = driven e r at in
            (λ i. is_outside f (record { power = power i; gnd = r.gnd }) (out i)) ∙ inside f r.gnd (st n.output.gnd.0) role

    by : (o : Option Shifter) → c.roles.shifter ≡ o → is_unfit_at w B path x c y o (Some d) ≡ false
    by None role = refl
    by (Some f) role = own f role (d.power == y.power) refl (shifter-data-relates c n.input n.output sound d y at_d w B path x source st joined stands)

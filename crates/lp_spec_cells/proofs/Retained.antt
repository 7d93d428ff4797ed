-- What a cell that fits a register with retention does: its state, its copy and its outputs.
use Rattle.std.proofs.Common.{◌≡◌, Bool, true, false, not, ◌&&◌, [], ◌∷◌, Option, Some, None, refl, sym, ap, ◌∙◌}
use Rattle.std.specs.Prelude.{if◌then◌else◌, is_some, option_and_then, bytes_eq}
use Rattle.std.specs.List.{list_all}
use Rattle.std.proofs.lemmas.Bool.{false≢true, and_parts}
use Rattle.lp_text.specs.Texts.{same_text-true}
use Rattle.lp_tern.specs.declared.tern.Tern.{Tern}
use Rattle.lp_model.specs.declared.supply.SetOrigins.{SetOrigins}
use Rattle.lp_model.specs.LibraryView.{ExprView, PinView, StateView, RolesView, CellView}
use Rattle.lp_behaviour.specs.Registers.{fires_of, main_of, copy_of}
use Rattle.lp_spec_design.specs.Keys.{Name, Path, same_bool}
use Rattle.lp_spec_design.specs.Graph.{is_output_pin}
use Rattle.lp_spec_design.specs.Winners.{IsIn}
use Rattle.lp_spec_design.specs.Settled.{Registers, kept, pin_named, output_by}
use Rattle.lp_spec_design.specs.Registers.{States, cell_after}
use Rattle.lp_spec_pins.specs.Pins.{Powered, PinAssignment, pins_read, is_input_pin, is_up, output_at, cell_output_at}
use Rattle.lp_spec_pins.specs.Registers.{restore_of, read_before, fires_in, state_is_up, restored_in, main_in, saved_in}
use Rattle.lp_spec_fit.specs.Needs.{RegisterNeed}
use Rattle.lp_spec_fit.specs.Joins.{Joins, all_joined, register_joins}
use Rattle.lp_spec_fit.specs.PowerDown.{power_down_equals, outputs_need, state_needs}
use Rattle.lp_spec_fit.specs.Fits.{is_usable, only_retains, same_function_if_any, same_state, is_retention_pin, same_pin, has_pins_of, has_exactly_pins_of, retention_pins, controls_match, relates_by, is_primary, is_primary_or_backup, plain_pins, copy_needs, fits_register}
use Rattle.lp_spec_cells.specs.Sound.{passes_if_any, is_function_of, is_down_of, has_sound_functions, is_sound_state, IsSound}
use Rattle.lp_spec_cells.specs.Joined.{Comes, OriginStates, IsJoinedBy, Apart, Stands, on_in}
use Rattle.lp_spec_cells.specs.Retention.{Controls, ReadsControls, SameInputs}
use Rattle.lp_spec_cells.proofs.Outcomes.{all-in}
use Rattle.lp_spec_cells.proofs.Names.{first-in}
use Rattle.lp_spec_cells.proofs.Clamps.{none-there}
use Rattle.lp_spec_cells.proofs.PoweredUp.{up_where_on}
use Rattle.lp_spec_cells.proofs.Outputs.{and-true, shows-at, output-up, never-outside}
use Rattle.lp_spec_cells.proofs.States.{read-same, after-agrees, outputs-agree}
use Rattle.lp_spec_cells.proofs.Firing.{save-fires, restore-fires}

-- what a cell that fits has
pub record FitsRegister (n : RegisterNeed) (c : CellView) : Type 0 where
  pub alone : only_retains c.roles ≡ true
  pub exactly : has_exactly_pins_of n.source c ≡ true
  pub state : same_state n.source c n.source.state c.state ≡ true
  pub controls : controls_match n (retention_pins c) ≡ true
  pub outputs : outputs_need c (register_joins n.primary n.retention) n.primary ≡ true
  pub state_down : state_needs c (register_joins n.primary n.retention) n.primary ≡ true
  pub copy_down : copy_needs n c (register_joins n.primary n.retention) ≡ true
  pub plain_related : list_all (relates_by is_primary c) (plain_pins c) ≡ true
  pub joined : all_joined c (register_joins n.primary n.retention) ≡ true

pub fits-register : (n : RegisterNeed) (c : CellView) → fits_register n c ≡ true → FitsRegister n c
fits-register n c fits =
    let join : Joins = register_joins n.primary n.retention in
    let usable = and_parts (is_usable c) _ fits in
    let alone = and_parts (only_retains c.roles) _ usable.1 in
    let exactly = and_parts (has_exactly_pins_of n.source c) _ alone.1 in
    let state = and_parts (same_state n.source c n.source.state c.state) _ exactly.1 in
    let inputs = and_parts (list_all is_input_pin (retention_pins c)) _ state.1 in
    let controls = and_parts (controls_match n (retention_pins c)) _ inputs.1 in
    let outputs = and_parts (outputs_need c join n.primary) _ controls.1 in
    let state_down = and_parts (state_needs c join n.primary) _ outputs.1 in
    let copy_down = and_parts (copy_needs n c join) _ state_down.1 in
    let plain = and_parts (list_all (relates_by is_primary c) (plain_pins c)) _ copy_down.1 in
    let others = and_parts (list_all (relates_by is_primary_or_backup c) (retention_pins c)) (all_joined c join) plain.1 in
    record {
      alone = alone.0;
      exactly = exactly.0;
      state = state.0;
      controls = controls.0;
      outputs = outputs.0;
      state_down = state_down.0;
      copy_down = copy_down.0;
      plain_related = plain.0;
      joined = others.1;
    }

-- it has a retention condition, and is no level shifter
retains : (r : RolesView) → only_retains r ≡ true → is_some r.retention ≡ true
retains r e = (and_parts (is_some r.retention) _ e).0

no-shifter : (r : RolesView) → only_retains r ≡ true → r.shifter ≡ None
no-shifter r e =
    let iso = and_parts (not r.iso) (not (is_some r.shifter) && not r.switch) (and_parts (is_some r.retention) _ e).1 in
    none-there r.shifter (and_parts (not (is_some r.shifter)) (not r.switch) iso.1).0

has-state : (a b : CellView) (g h : Option StateView) → same_state a b g h ≡ true → is_some h ≡ true
has-state a b g (Some h) e = refl
has-state a b None None e = absurd (false≢true e)
has-state a b (Some g) None e = absurd (false≢true e)

-- ---- supplies

module _ (w : Powered) (B : PinAssignment) (path : Path) (x : Name) (c : CellView) (sound : IsSound c) (source : Comes) (join : Joins) (st : OriginStates)
    (joined : IsJoinedBy w path x c source join) (apart : Apart source) (stands : Stands B source st) where
  -- a power-down function of one set
  pub one-up : (set : SetOrigins) (o : Option ExprView) → power_down_equals c join (set ∷ []) o ≡ true → passes_if_any (is_down_of c) o ≡ true → is_up w B path x c o ≡ on_in st set
  one-up set None e s = absurd (false≢true e)
  one-up set (Some f) e s = up_where_on w B path x c source join st joined apart stands (set ∷ []) f e s ∙ and-true (on_in st set)

  -- the state is kept where the set is on with which it is lost
  pub state-up : (set : SetOrigins) (g : Option StateView) → is_some g ≡ true → is_sound_state c g ≡ true
      → (if is_some g then power_down_equals c join (set ∷ []) (option_and_then (λ (h : StateView). Some h.power_down) g) else true) ≡ true
      → is_up w B path x c (option_and_then (λ (h : StateView). Some h.power_down) g) ≡ on_in st set
  state-up set None some s e = absurd (false≢true some)
  state-up set (Some g) some s e =
      let next = and_parts (is_function_of c g.next) _ s in
      let clock = and_parts (is_function_of c g.clock) _ next.1 in
      let clear = and_parts (is_function_of c g.clear) _ clock.1 in
      let preset = and_parts (is_function_of c g.preset) (is_down_of c g.power_down) clear.1 in
      one-up set (Some g.power_down) e preset.1

-- a restore, where the cell has a retention condition
restores-with : (c : CellView) (o : Option ExprView) → is_some o ≡ true → (last now : Name → Tern) (v result : Tern) → restored_in c o last now v result ≡ main_of (fires_in restore_of c last now) v result
restores-with c None e last now v result = absurd (false≢true e)
restores-with c (Some f) e last now v result = refl

module _ (n : RegisterNeed) (c : CellView) (fits : fits_register n c ≡ true) (source_sound : IsSound n.source) (sound : IsSound c) where
  parts : FitsRegister n c
  parts = fits-register n c fits

  module _ (w : Powered) (last : Option PinAssignment) (B : PinAssignment) (path : Path) (x : Name) (source : Comes) (st : OriginStates)
      (joined : IsJoinedBy w path x c source (register_joins n.primary n.retention)) (apart : Apart source) (stands : Stands B source st) where
    main-up : state_is_up w B path x c ≡ on_in st n.primary
    main-up =
        state-up w B path x c sound source (register_joins n.primary n.retention) st joined apart stands n.primary c.state
        (has-state n.source c n.source.state c.state parts.state) sound.state parts.state_down

    copy-up : is_up w B path x c c.roles.retention ≡ on_in st n.retention
    copy-up = one-up w B path x c sound source (register_joins n.primary n.retention) st joined apart stands n.retention c.roles.retention parts.copy_down sound.retention

    pub register-saves : (k : Controls) → ReadsControls n c k (read_before w last path x c) (pins_read w B path x c) → (s : States)
        → saved_in w last B s path x (Some c) ≡ kept (on_in st n.retention) (copy_of (fires_of n.save k.save_before k.save_now) (kept (on_in st n.primary) (s.main path x)) (kept (on_in st n.retention) (s.saved path x)))
    register-saves k read s =
        let fires = save-fires n k (read_before w last path x c) (pins_read w B path x c) c parts.controls read in
        λ i. kept (copy-up i) (copy_of (fires i) (kept (main-up i) (s.main path x)) (kept (copy-up i) (s.saved path x)))

    pub register-does : (before now : Name → Tern) → SameInputs n.source before (read_before w last path x c) → SameInputs n.source now (pins_read w B path x c)
        → (k : Controls) → ReadsControls n c k (read_before w last path x c) (pins_read w B path x c) → (s : States)
        → main_in w last B s path x (Some c)
        ≡ kept (on_in st n.primary) (main_of (fires_of n.restore k.restore_before k.restore_now) (kept (on_in st n.retention) (s.saved path x)) (cell_after (Some n.source) before now (s.main path x)))
    register-does before now was is k read s =
        let fires = restore-fires n k (read_before w last path x c) (pins_read w B path x c) c parts.controls read in
        let after = after-agrees n.source c before now (read_before w last path x c) (pins_read w B path x c)
        (λ v a b. read-same n.source before (read_before w last path x c) was v a) (λ v a b. read-same n.source now (pins_read w B path x c) is v a)
        (s.main path x) parts.state source_sound.state sound.state in
        let restores = restores-with c c.roles.retention (retains c.roles parts.alone) (read_before w last path x c) (pins_read w B path x c) in
        (λ i. kept (main-up i) (restores (kept (copy-up i) (s.saved path x)) (cell_after (Some c) (read_before w last path x c) (pins_read w B path x c) (s.main path x)) i))
        ∙ (λ i. kept (on_in st n.primary) (main_of (fires i) (kept (on_in st n.retention) (s.saved path x)) (sym after i)))

  -- ---- outputs

  bools-same : (a b : Bool) → same_bool a b ≡ true → a ≡ true → b ≡ true
  bools-same true b e t = e
  bools-same false b e t = absurd (false≢true t)

  module _ (w : Powered) (B : PinAssignment) (path : Path) (x : Name) (source : Comes) (st : OriginStates)
      (joined : IsJoinedBy w path x c source (register_joins n.primary n.retention)) (apart : Apart source) (stands : Stands B source st) where
    pin-shows : (now : Name → Tern) → SameInputs n.source now (pins_read w B path x c) → (regs : Registers) (q : PinView) → IsIn q n.source.pins → is_output_pin q ≡ true
        → (r : Option PinView) → pin_named c q.name ≡ r → same_pin n.source c q r ≡ true
        → output_at w B regs path x c r ≡ kept (on_in st n.primary) (output_by n.source now (regs path x) q.function)
    pin-shows now is regs q m out None at e = absurd (false≢true e)
    pin-shows now is regs q m out (Some r) at e =
        let here = first-in (λ (z : PinView). bytes_eq z.name q.name) c.pins r at in
        let rest = and_parts (not (is_retention_pin r)) _ e in
        let same = and_parts (same_bool (is_output_pin q) (is_output_pin r)) (same_function_if_any n.source c q.function r.function) rest.1 in
        let out_too = bools-same (is_output_pin q) (is_output_pin r) same.0 out in
        let need = all-in (λ (z : PinView). if is_output_pin z then power_down_equals c (register_joins n.primary n.retention) (n.primary ∷ []) z.power_down else true) c.pins r parts.outputs here.0 in
        let equals : power_down_equals c (register_joins n.primary n.retention) (n.primary ∷ []) r.power_down ≡ true =
        sym (ap (λ b. if b then power_down_equals c (register_joins n.primary n.retention) (n.primary ∷ []) r.power_down else true) out_too) ∙ need in
        let mine = (and_parts (passes_if_any (is_function_of n.source) q.function) (passes_if_any (is_down_of n.source) q.power_down) (all-in (has_sound_functions n.source) n.source.pins q source_sound.pins m)).0 in
        let its = (and_parts (passes_if_any (is_function_of c) r.function) (passes_if_any (is_down_of c) r.power_down) (all-in (has_sound_functions c) c.pins r sound.pins here.0)).0 in
        let agree = outputs-agree n.source c now now (pins_read w B path x c) (pins_read w B path x c)
        (λ v a b. read-same n.source now (pins_read w B path x c) is v a) (λ v a b. read-same n.source now (pins_read w B path x c) is v a)
        (regs path x) q.function r.function same.1 mine its in
        shows-at w B path x c sound regs r (on_in st n.primary) (output_by n.source now (regs path x) q.function)
        (output-up w B path x c sound source (register_joins n.primary n.retention) st joined stands apart r here.0 (n.primary ∷ []) equals ∙ and-true (on_in st n.primary))
        (never-outside w B path x c sound r (no-shifter c.roles parts.alone))
        (sym agree)

    pub register-shows : (now : Name → Tern) → SameInputs n.source now (pins_read w B path x c) → (regs : Registers) (v : Name) (q : PinView) → pin_named n.source v ≡ Some q → is_output_pin q ≡ true
        → cell_output_at w B regs path x v (Some c) ≡ kept (on_in st n.primary) (output_by n.source now (regs path x) q.function)
    register-shows now is regs v q at out =
        let there = first-in (λ (z : PinView). bytes_eq z.name v) n.source.pins q at in
        let named : q.name ≡ v = same_text-true q.name v there.1 in
        let has = (and_parts (has_pins_of n.source c) _ parts.exactly).0 in
        let pin = all-in (λ z. same_pin n.source c z (pin_named c z.name)) n.source.pins q has there.0 in
        ap (λ z. output_at w B regs path x c (pin_named c z)) (sym named) ∙ pin-shows now is regs q there.0 out (pin_named c q.name) refl pin

-- The next state of a cell by equal functions, or by equal values at its pins.
use Rattle.std.proofs.Common.{◌≡◌, Bool, true, ◌&&◌, List, [], ◌∷◌, map, Option, Some, None, refl, sym, ap, ◌∙◌}
use Rattle.std.specs.Prelude.{bytes_eq, is_some, flat_map}
use Rattle.std.proofs.lemmas.Bool.{false≢true, and_parts}
use Rattle.lp_text.specs.Texts.{same_text-true}
use Rattle.lp_tern.specs.declared.tern.Tern.{Tern}
use Rattle.lp_tern.specs.Values.{replacements, agreed}
use Rattle.lp_expr.specs.Formula.{truth, completions}
use Rattle.lp_model.specs.declared.netlist.Direction.{Direction}
use Rattle.lp_model.specs.declared.netlist.Direction.TheVariants.{Input, Output}
use Rattle.lp_model.specs.declared.library.StateKind.{StateKind}
use Rattle.lp_model.specs.declared.library.StateKind.TheVariants.{Flop, Latch}
use Rattle.lp_model.specs.LibraryView.{ExprView, PinView, StateView, CellView}
use Rattle.lp_behaviour.specs.Signals.{is_input}
use Rattle.lp_behaviour.specs.Registers.{loaded_of, forced_of}
use Rattle.lp_spec_design.specs.Keys.{Name}
use Rattle.lp_spec_design.specs.Settled.{read_pin, state_named, value_named, named_value, function_value, output_by}
use Rattle.lp_spec_design.specs.Registers.{state_after, cell_after}
use Rattle.lp_spec_pins.specs.Pins.{is_input_pin}
use Rattle.lp_spec_fit.specs.Fits.{same_function, same_function_if_any, same_state_kind, same_state}
use Rattle.lp_spec_cells.specs.Sound.{is_function_of, is_down_of, passes_if_any, is_sound_state}
use Rattle.lp_spec_cells.specs.Retention.{SameInputs}
use Rattle.lp_spec_cells.proofs.Names.{first-in}
use Rattle.lp_spec_cells.proofs.Functions.{agree}

input-pin : (q : PinView) (d : Direction) → is_input d ≡ true → is_input_pin (record q { direction = d }) ≡ true
input-pin q Input e = refl
input-pin q Output e = absurd (false≢true e)

-- values that are the same at the input pins of a cell are so at what its functions read
pub read-same : (c : CellView) (f g : Name → Tern) → SameInputs c f g → (v : Name) → is_some (read_pin c v) ≡ true → f v ≡ g v
read-same c f g same v e = by (read_pin c v) refl e
  where
    by : (o : Option PinView) → read_pin c v ≡ o → is_some o ≡ true → f v ≡ g v
    by None at h = absurd (false≢true h)
    by (Some q) at h =
        let found = first-in (λ (r : PinView). is_input r.direction && bytes_eq r.name v) c.pins q at in
        let parts = and_parts (is_input q.direction) (bytes_eq q.name v) found.1 in
        let named : q.name ≡ v = same_text-true q.name v parts.1 in
        ap f (sym named) ∙ (same q found.0 (input-pin q q.direction parts.0) ∙ ap g named)

-- ---- equal values

module _ (c : CellView) (f g : Name → Tern) (same : (v : Name) → is_some (read_pin c v) ≡ true → f v ≡ g v) where
  value-same : (v : Name) (o : Option PinView) (s : Tern) → (is_some o ≡ true → f v ≡ g v) → value_named o (f v) s ≡ value_named o (g v) s
  value-same v None s h = refl
  value-same v (Some q) s h = h refl

  values-same : (bit : Bool) (vs : List Name) → map (named_value c f bit) vs ≡ map (named_value c g bit) vs
  values-same bit [] = refl
  values-same bit (v ∷ vs) =
      let one = value-same v (read_pin c v) (state_named c.state bit v) (same v) in
      let rest = values-same bit vs in
      λ i. one i ∷ rest i

  pub function-same : (q : Tern) (e : ExprView) → function_value c f q e ≡ function_value c g q e
  function-same q e = λ i. agreed (flat_map (λ bit. map (truth e.steps) (completions (values-same bit e.variables i))) (replacements q))

  pub output-same : (q : Tern) (e : Option ExprView) → output_by c f q e ≡ output_by c g q e
  output-same q None = refl
  output-same q (Some e) = function-same q e

-- the same cell makes the same of equal values
pub after-same : (c : CellView) (before now last present : Name → Tern) (q : Tern)
    → ((v : Name) → is_some (read_pin c v) ≡ true → before v ≡ last v) → ((v : Name) → is_some (read_pin c v) ≡ true → now v ≡ present v)
    → cell_after (Some c) before now q ≡ cell_after (Some c) last present q
after-same c before now last present q was is = by c.state
  where
    by : (g : Option StateView) → state_after c g before now q ≡ state_after c g last present q
    by None = refl
    by (Some g) = λ i.
        forced_of (function-same c now present is q g.clear i) (function-same c now present is q g.preset i)
        (loaded_of g.kind (function-same c before last was q g.clock i) (function-same c now present is q g.clock i) (function-same c before last was q g.next i) (function-same c now present is q g.next i) q)

-- ---- equal functions of two cells

kinds-same : (a b : StateKind) → same_state_kind a b ≡ true → a ≡ b
kinds-same Flop Flop e = refl
kinds-same Flop Latch e = absurd (false≢true e)
kinds-same Latch Flop e = absurd (false≢true e)
kinds-same Latch Latch e = refl

-- the values at the input pins of a cell are those at the same names of another
abbrev pub ReadSame : CellView → CellView → (Name → Tern) → (Name → Tern) → Type 0
ReadSame a b f g = (v : Name) → is_some (read_pin a v) ≡ true → is_some (read_pin b v) ≡ true → f v ≡ g v

module _ (a b : CellView) (before now last present : Name → Tern) (was : ReadSame a b before last) (is : ReadSame a b now present) where
  pub outputs-agree : (q : Tern) (e f : Option ExprView) → same_function_if_any a b e f ≡ true → passes_if_any (is_function_of a) e ≡ true → passes_if_any (is_function_of b) f ≡ true
      → output_by a now q e ≡ output_by b present q f
  outputs-agree q None None same sound also = refl
  outputs-agree q (Some e) (Some f) same sound also = agree a b e f same sound also now present q is
  outputs-agree q None (Some f) same sound also = absurd (false≢true same)
  outputs-agree q (Some e) None same sound also = absurd (false≢true same)

  state-agrees : (g h : Option StateView) (q : Tern) → same_state a b g h ≡ true → is_sound_state a g ≡ true → is_sound_state b h ≡ true → state_after a g before now q ≡ state_after b h last present q
  state-agrees None h q same sound also = absurd (false≢true same)
  state-agrees (Some g) None q same sound also = absurd (false≢true same)
  state-agrees (Some g) (Some h) q same sound also =
      let kind = and_parts (same_state_kind g.kind h.kind) _ same in
      let next = and_parts (same_function a b g.next h.next) _ kind.1 in
      let clock = and_parts (same_function a b g.clock h.clock) _ next.1 in
      let rest = and_parts (same_function a b g.clear h.clear) (same_function a b g.preset h.preset) clock.1 in
      let next_a = and_parts (is_function_of a g.next) _ sound in
      let clock_a = and_parts (is_function_of a g.clock) _ next_a.1 in
      let clear_a = and_parts (is_function_of a g.clear) _ clock_a.1 in
      let preset_a = and_parts (is_function_of a g.preset) (is_down_of a g.power_down) clear_a.1 in
      let next_b = and_parts (is_function_of b h.next) _ also in
      let clock_b = and_parts (is_function_of b h.clock) _ next_b.1 in
      let clear_b = and_parts (is_function_of b h.clear) _ clock_b.1 in
      let preset_b = and_parts (is_function_of b h.preset) (is_down_of b h.power_down) clear_b.1 in
      let kinds = kinds-same g.kind h.kind kind.0 in
      let clear_now = agree a b g.clear h.clear rest.0 clear_a.0 clear_b.0 now present q is in
      let preset_now = agree a b g.preset h.preset rest.1 preset_a.0 preset_b.0 now present q is in
      let clock_before = agree a b g.clock h.clock clock.0 clock_a.0 clock_b.0 before last q was in
      let clock_now = agree a b g.clock h.clock clock.0 clock_a.0 clock_b.0 now present q is in
      let next_before = agree a b g.next h.next next.0 next_a.0 next_b.0 before last q was in
      let next_now = agree a b g.next h.next next.0 next_a.0 next_b.0 now present q is in
      λ i. forced_of (clear_now i) (preset_now i) (loaded_of (kinds i) (clock_before i) (clock_now i) (next_before i) (next_now i) q)

  pub after-agrees : (q : Tern) → same_state a b a.state b.state ≡ true → is_sound_state a a.state ≡ true → is_sound_state b b.state ≡ true → cell_after (Some a) before now q ≡ cell_after (Some b) last present q
  after-agrees q same sound also = state-agrees a.state b.state q same sound also

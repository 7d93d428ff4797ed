-- What a cell of the source does that is lost exactly with the primary supply of its domain.
use Rattle.std.proofs.Common.{◌≡◌, Bool, true, false, [], ◌∷◌, Option, Some, None, refl, sym, ap, ◌∙◌}
use Rattle.std.specs.Prelude.{if◌then◌else◌, is_some, option_and_then, bytes_eq}
use Rattle.std.proofs.lemmas.Bool.{and_parts, not-false}
use Rattle.lp_tern.specs.declared.tern.Tern.{Tern}
use Rattle.lp_tern.specs.declared.tern.Tern.TheVariants.{X}
use Rattle.lp_model.specs.declared.supply.SetOrigins.{SetOrigins}
use Rattle.lp_model.specs.LibraryView.{PinView, StateView, CellView}
use Rattle.lp_spec_design.specs.Keys.{Name, Path}
use Rattle.lp_spec_design.specs.Graph.{is_output_pin}
use Rattle.lp_spec_design.specs.Settled.{Registers, kept, pin_named, output_by}
use Rattle.lp_spec_design.specs.Registers.{States, state_after, cell_after}
use Rattle.lp_spec_pins.specs.Pins.{Powered, PinAssignment, pins_read, is_up, output_at, cell_output_at}
use Rattle.lp_spec_pins.specs.Registers.{read_before, state_is_up, copy_kept, restored_in, main_in}
use Rattle.lp_spec_fit.specs.Joins.{source_joins}
use Rattle.lp_spec_fit.specs.PowerDown.{power_down_equals, outputs_need, state_needs, is_unfit_power}
use Rattle.lp_spec_cells.specs.Sound.{is_sound_state, IsSound}
use Rattle.lp_spec_cells.specs.Joined.{Comes, OriginStates, IsJoinedBy, Apart, Stands, on_in}
use Rattle.lp_spec_cells.specs.Retention.{SameInputs}
use Rattle.lp_spec_cells.proofs.Outcomes.{all-in}
use Rattle.lp_spec_cells.proofs.Names.{first-in}
use Rattle.lp_spec_cells.proofs.Outputs.{and-true, shows-at, output-up, never-outside}
use Rattle.lp_spec_cells.proofs.States.{read-same, output-same, after-same}
use Rattle.lp_spec_cells.proofs.Retained.{state-up}

kept-X : (a b : Bool) → kept a X ≡ kept b X
kept-X true true = refl
kept-X true false = refl
kept-X false true = refl
kept-X false false = refl

module _ (c : CellView) (primary : SetOrigins) (fit : is_unfit_power c primary ≡ false) where
  needs : (outputs_need c (source_joins primary) primary ≡ true) × (state_needs c (source_joins primary) primary ≡ true)
  needs = and_parts (outputs_need c (source_joins primary) primary) (state_needs c (source_joins primary) primary) (not-false _ fit)

  pub source-shows : c.roles.shifter ≡ None → IsSound c
      → (w : Powered) (B : PinAssignment) (path : Path) (x : Name) (source : Comes) (st : OriginStates)
      → IsJoinedBy w path x c source (source_joins primary) → Apart source → Stands B source st
      → (now : Name → Tern) → SameInputs c now (pins_read w B path x c)
      → (regs : Registers) (v : Name) (q : PinView) → pin_named c v ≡ Some q → is_output_pin q ≡ true
      → cell_output_at w B regs path x v (Some c) ≡ kept (on_in st primary) (output_by c now (regs path x) q.function)
  source-shows none sound w B path x source st joined apart stands now is regs v q at out =
      let there = first-in (λ (z : PinView). bytes_eq z.name v) c.pins q at in
      let need = all-in (λ (z : PinView). if is_output_pin z then power_down_equals c (source_joins primary) (primary ∷ []) z.power_down else true) c.pins q needs.0 there.0 in
      let equals : power_down_equals c (source_joins primary) (primary ∷ []) q.power_down ≡ true =
      sym (ap (λ b. if b then power_down_equals c (source_joins primary) (primary ∷ []) q.power_down else true) out) ∙ need in
      ap (output_at w B regs path x c) at
      ∙ shows-at w B path x c sound regs q (on_in st primary) (output_by c now (regs path x) q.function)
      (output-up w B path x c sound source (source_joins primary) st joined stands apart q there.0 (primary ∷ []) equals ∙ and-true (on_in st primary))
      (never-outside w B path x c sound q none)
      (sym (output-same c now (pins_read w B path x c) (read-same c now (pins_read w B path x c) is) (regs path x) q.function))

  pub source-does : c.roles.retention ≡ None → IsSound c
      → (w : Powered) (last : Option PinAssignment) (B : PinAssignment) (path : Path) (x : Name) (source : Comes) (st : OriginStates)
      → IsJoinedBy w path x c source (source_joins primary) → Apart source → Stands B source st
      → (before now : Name → Tern) → SameInputs c before (read_before w last path x c) → SameInputs c now (pins_read w B path x c)
      → (s : States)
      → main_in w last B s path x (Some c) ≡ kept (on_in st primary) (cell_after (Some c) before now (s.main path x))
  source-does none sound w last B path x source st joined apart stands before now was is s =
      let after = after-same c before now (read_before w last path x c) (pins_read w B path x c) (s.main path x) (read-same c before (read_before w last path x c) was) (read-same c now (pins_read w B path x c) is) in
      ap (λ o. kept (state_is_up w B path x c) (restored_in c o (read_before w last path x c) (pins_read w B path x c) (copy_kept w B path x c (s.saved path x)) (cell_after (Some c) (read_before w last path x c) (pins_read w B path x c) (s.main path x)))) none
      ∙ (ap (kept (state_is_up w B path x c)) (sym after) ∙ by c.state sound.state needs.1)
    where
      by : (g : Option StateView) → is_sound_state c g ≡ true
          → (if is_some g then power_down_equals c (source_joins primary) (primary ∷ []) (option_and_then (λ (h : StateView). Some h.power_down) g) else true) ≡ true
          → kept (is_up w B path x c (option_and_then (λ (h : StateView). Some h.power_down) g)) (state_after c g before now (s.main path x)) ≡ kept (on_in st primary) (state_after c g before now (s.main path x))
      by None ok e = kept-X false (on_in st primary)
      by (Some g) ok e = ap (λ b. kept b (state_after c (Some g) before now (s.main path x))) (state-up w B path x c sound source (source_joins primary) st joined apart stands primary (Some g) refl ok e)

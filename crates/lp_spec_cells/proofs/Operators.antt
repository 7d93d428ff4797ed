-- What the cells of operators show at their outputs: a clamp its value while its supply is on, a shifter its data while its supplies are on.
use Rattle.std.proofs.Common.{◌≡◌, ◌⊎◌, true, false, not, ◌&&◌, [], ◌∷◌, Some, None, inl, inr, ap, ◌∙◌}
use Rattle.std.specs.Prelude.{is_some}
use Rattle.std.proofs.lemmas.Bool.{and_parts}
use Rattle.lp_tern.specs.Values.{choose_of}
use Rattle.lp_model.specs.LibraryView.{PinView, RolesView, CellView}
use Rattle.lp_behaviour.specs.Signals.{known}
use Rattle.lp_spec_design.specs.Keys.{Name, Path}
use Rattle.lp_spec_design.specs.Graph.{is_output_pin}
use Rattle.lp_spec_design.specs.Settled.{Registers, kept, sensed}
use Rattle.lp_spec_pins.specs.Pins.{Powered, PinAssignment, pins_read, is_data, input_for, is_up, is_unfit, cell_output_at}
use Rattle.lp_spec_fit.specs.Needs.{ClampNeed, ShifterNeed}
use Rattle.lp_spec_fit.specs.Joins.{clamp_joins, shifter_joins}
use Rattle.lp_spec_fit.specs.Fits.{is_iso_data, is_iso_enable, one_output, only_isolates, fits_clamp, fits_shifter}
use Rattle.lp_spec_cells.specs.Sound.{IsSound}
use Rattle.lp_spec_cells.specs.Joined.{Comes, OriginStates, IsJoinedBy, Apart, Stands, on_in}
use Rattle.lp_spec_cells.proofs.Names.{only-passes}
use Rattle.lp_spec_cells.proofs.Clamps.{fits-clamp, clamp-gives, none-there}
use Rattle.lp_spec_cells.proofs.Shifters.{fits-shifter, shifter-passes}
use Rattle.lp_spec_cells.proofs.Outputs.{and-true, shows, never-outside, output-up}

no-shifter : (r : RolesView) → only_isolates r ≡ true → r.shifter ≡ None
no-shifter r e = none-there r.shifter (and_parts (not (is_some r.shifter)) (not (is_some r.retention) && not r.switch) (and_parts r.iso _ e).1).0

pub clamp-shows : (n : ClampNeed) (c : CellView) → fits_clamp n c ≡ true → IsSound c
    → (d e y : PinView) → input_for is_iso_data c ≡ Some d → input_for is_iso_enable c ≡ Some e → one_output c ≡ Some y
    → (w : Powered) (B : PinAssignment) (path : Path) (x : Name) (source : Comes) (st : OriginStates)
    → IsJoinedBy w path x c source (clamp_joins n.supply n.place c) → Apart source → Stands B source st
    → (regs : Registers)
    → cell_output_at w B regs path x y.name (Some c) ≡ kept (on_in st n.supply) (choose_of (sensed n.high (pins_read w B path x c e.name)) (known n.clamp) (pins_read w B path x c d.name))
clamp-shows n c fits sound d e y at_d at_e at_y w B path x source st joined apart stands regs =
    let parts = fits-clamp n c fits d e y at_d at_e at_y in
    let there = only-passes is_output_pin c.pins y at_y in
    shows w B path x c sound regs y there.0 (on_in st n.supply) (choose_of (sensed n.high (pins_read w B path x c e.name)) (known n.clamp) (pins_read w B path x c d.name))
    (output-up w B path x c sound source (clamp_joins n.supply n.place c) st joined stands apart y there.0 (n.supply ∷ []) parts.down ∙ and-true (on_in st n.supply))
    (never-outside w B path x c sound y (no-shifter c.roles parts.alone))
    (clamp-gives n c fits sound d e y at_d at_e at_y (pins_read w B path x c) (regs path x))

pub shifter-up : (n : ShifterNeed) (c : CellView) → fits_shifter n c ≡ true → IsSound c
    → (d y : PinView) → input_for is_data c ≡ Some d → one_output c ≡ Some y
    → (w : Powered) (B : PinAssignment) (path : Path) (x : Name) (source : Comes) (st : OriginStates)
    → IsJoinedBy w path x c source (shifter_joins n.input n.output d y) → Apart source → Stands B source st
    → (is_up w B path x c y.power_down ≡ (on_in st n.input && on_in st n.output)) ⊎ (is_up w B path x c y.power_down ≡ on_in st n.output)
shifter-up n c fits sound d y at_d at_y w B path x source st joined apart stands =
    let there = only-passes is_output_pin c.pins y at_y in
    elim (fits-shifter n c fits d y at_d at_y).down [
      | inl both ↦ inl (output-up w B path x c sound source (shifter_joins n.input n.output d y) st joined stands apart y there.0 (n.input ∷ n.output ∷ []) both ∙ ap (λ b. on_in st n.input && b) (and-true (on_in st n.output)))
      | inr own ↦ inr (output-up w B path x c sound source (shifter_joins n.input n.output d y) st joined stands apart y there.0 (n.output ∷ []) own ∙ and-true (on_in st n.output))
    ]

pub shifter-shows : (n : ShifterNeed) (c : CellView) → fits_shifter n c ≡ true → IsSound c
    → (d y : PinView) → input_for is_data c ≡ Some d → one_output c ≡ Some y
    → (w : Powered) (B : PinAssignment) (path : Path) (x : Name) (source : Comes) (st : OriginStates)
    → IsJoinedBy w path x c source (shifter_joins n.input n.output d y) → Apart source → Stands B source st
    → is_unfit w B path x c y ≡ false
    → (regs : Registers)
    → (cell_output_at w B regs path x y.name (Some c) ≡ kept (on_in st n.input && on_in st n.output) (pins_read w B path x c d.name))
    ⊎ (cell_output_at w B regs path x y.name (Some c) ≡ kept (on_in st n.output) (pins_read w B path x c d.name))
shifter-shows n c fits sound d y at_d at_y w B path x source st joined apart stands inside regs =
    let there = only-passes is_output_pin c.pins y at_y in
    let value = shifter-passes n c fits sound d y at_d at_y (pins_read w B path x c) (regs path x) in
    elim (shifter-up n c fits sound d y at_d at_y w B path x source st joined apart stands) [
      | inl both ↦ inl (shows w B path x c sound regs y there.0 (on_in st n.input && on_in st n.output) (pins_read w B path x c d.name) both inside value)
      | inr own ↦ inr (shows w B path x c sound regs y there.0 (on_in st n.output) (pins_read w B path x c d.name) own inside value)
    ]

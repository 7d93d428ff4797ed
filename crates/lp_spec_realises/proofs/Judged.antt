-- The written netlist of a small project, judged by its pins in the project's surroundings, shows what the source shows under its intent.
use Rattle.std.proofs.Common.{◌≡◌, ℕ, zero, suc, List, true, false, [], ◌∷◌, Option, Some, None, refl, sym, ap, ◌∙◌}
use Rattle.std.proofs.lemmas.Bool.{false≢true}
use Rattle.std.specs.Prelude.{Bool, ◌==◌, ◌&&◌, codes, map, if◌then◌else◌, bytes_eq}
use Rattle.lp_tern.specs.declared.tern.Tern.{Tern}
use Rattle.lp_tern.specs.declared.tern.Tern.TheVariants.{Zero, One, X}
use Rattle.lp_tern.specs.declared.supply.SupplyState.{SupplyState}
use Rattle.lp_tern.specs.declared.supply.SupplyState.TheVariants.{On, Off, Unknown}
use Rattle.lp_model.specs.declared.intent.RowState.{RowState}
use Rattle.lp_model.specs.NetlistView.{ModuleView}
use Rattle.lp_rows.specs.Rows.{row_of, within_in}
use Rattle.lp_spec_design.specs.Keys.{Name, same_index}
use Rattle.lp_spec_design.specs.Nodes.{computing}
use Rattle.lp_spec_design.specs.Settled.{Event, Registers, computed, output}
use Rattle.lp_spec_design.specs.Domains.{reader_supply}
use Rattle.lp_spec_design.specs.Graph.{TopOutput}
use Rattle.lp_spec_pins.specs.Pins.{Powered, output_by_pins, computed_by_pins}
use Rattle.lp_spec_pins.specs.Supplied.{is_supplied}
use Rattle.lp_spec_pins.proofs.Clamped.{inner}
use Rattle.lp_spec_network.proofs.Samples as table
use Rattle.lp_spec_realises.specs.Projects.{Project, design_of}
use Rattle.lp_spec_realises.specs.ProjectNetlists.{netlist_of}
use Rattle.lp_spec_realises.specs.Surroundings.{powered_of, event_at_pins, IsWithinRows}
use Rattle.lp_spec_realises.proofs.Samples.{project, by_the_block}
use Rattle.lp_spec_realises.proofs.Computed.{written, in_block, netlist, straight, ports_as}

-- the top's supply is on, the block's is given, and so is the ground
abbrev event : Tern → Tern → SupplyState → Event
event a en block = record {
  inputs = λ n j. if bytes_eq n (codes "a") then a else en;
  supplies = λ o. if o == 1 then block else if o == 3 then On 0 else On 1000000;
}

abbrev no_registers : Registers
no_registers p q = X

abbrev judged : Powered
judged = powered_of (project by_the_block) (written inner) in_block

supplied : is_supplied judged ≡ true
unfolding computing
supplied = refl

-- what the output shows under the intent, and by pins
abbrev shown : Event → Tern × Tern
shown ev =
    let p = project by_the_block in (
      output (design_of p) (computed (design_of p) ev no_registers 14) (codes "y") None (reader_supply p.intent (TopOutput (codes "y") None)),
      output_by_pins judged (computed_by_pins judged (event_at_pins p netlist ev) no_registers 14) (codes "y") None,
    )

alike : map shown (event Zero Zero (On 1000000) ∷ event Zero Zero Off ∷ event Zero One Off ∷ event One X (On 1000000) ∷ event Zero Zero Unknown ∷ []) ≡ (One, One) ∷ (X, X) ∷ (Zero, Zero) ∷ (Zero, Zero) ∷ (X, X) ∷ []
unfolding computing
alike = refl

-- ---- inputs go by place

-- the first bit from the left of a[1:0] is 1
abbrev first_is_one : Event
first_is_one = record (event Zero Zero Off) { inputs = λ n j. if bytes_eq n (codes "a") && same_index j (Some 1) then One else Zero }

abbrev bits_of : List ModuleView → Name → List Tern
bits_of modules n = let at = event_at_pins straight (netlist_of straight modules) first_is_one in at.inputs n (Some 0) ∷ at.inputs n (Some 1) ∷ []

in_the_same_order : bits_of (ports_as 1 0 1 0) (codes "a") ≡ Zero ∷ One ∷ []
unfolding computing
in_the_same_order = refl

turned_round : bits_of (ports_as 0 1 1 0) (codes "a") ≡ One ∷ Zero ∷ []
unfolding computing
turned_round = refl

-- what is no input of the source is X
other_input : bits_of (ports_as 1 0 1 0) (codes "b") ≡ X ∷ X ∷ []
unfolding computing
other_input = refl

-- ---- events within the rows

-- VDD at 1.0 with VDC at 0.8, or 1.2 with 1.0
abbrev tabled : Project
tabled = record (project by_the_block) { supplies = table.supplies }

abbrev at : ℕ → ℕ → Event
at first second = record (event Zero Zero Off) { supplies = λ o. if o == 0 then On first else if o == 1 then On second else On 0 }

within : IsWithinRows tabled (at 1200000 1000000)
unfolding computing
within = (2, _, refl, refl)

-- each state is in some row, but not both in one
abbrev passes : Option (List RowState) → Bool
passes None = false
passes (Some row) = within_in table.supplies row (On 1200000 ∷ On 800000 ∷ On 0 ∷ [])

none_passes : (n : ℕ) → passes (row_of table.supplies n) ≡ false
none_passes zero = refl
none_passes (suc zero) = refl
none_passes (suc (suc zero)) = refl
none_passes (suc (suc (suc n))) = refl

beyond : IsWithinRows tabled (at 1200000 800000) → ⊥
beyond h = absurd (false≢true (sym (none_passes h.0) ∙ (ap passes h.2 ∙ h.3)))

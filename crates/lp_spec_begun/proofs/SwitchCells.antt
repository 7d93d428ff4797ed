-- Each switch in the written netlist: its instance, its cell, and what its pins are connected to.
use Rattle.std.proofs.Common.{◌≡◌, ℕ, true, ◌==◌, List, [], Some, inl, refl, sym, ap, ◌∙◌, subst}
use Rattle.std.specs.Prelude.{codes, option_and_then, unwrap_or}
use Rattle.lp_model.specs.NetlistView.{ConnectionView, ModuleView}
use Rattle.lp_model.specs.LibraryView.{PinView}
use Rattle.lp_spec_design.specs.Keys.{Name, same_path}
use Rattle.lp_spec_design.specs.Netlists.{Structure, first, module_at}
use Rattle.lp_spec_design.specs.Instances.{Placed}
use Rattle.lp_spec_design.specs.Graph.{numbered}
use Rattle.lp_spec_design.specs.Settled.{node_at_pin}
use Rattle.lp_spec_design.specs.Reads.{path-self}
use Rattle.lp_spec_design.specs.Winners.{IsIn}
use Rattle.lp_spec_design.proofs.Members.{in-left, in-right, in-map}
use Rattle.lp_spec_design.proofs.Sources.{first_in}
use Rattle.lp_spec_pins.specs.Pins.{input_for}
use Rattle.lp_spec_fit.specs.Fits.{is_switch_pin}
use Rattle.lp_spec_realises.specs.Projects.{Project}
use Rattle.lp_spec_realises.specs.Operators.{SwitchAt, all_switches, placed_switch}
use Rattle.lp_spec_realises.specs.Implements.{Lists}
use Rattle.lp_spec_realises.specs.Realises.{cell_of, passed_by, switch_fits, switch_stands}
use Rattle.lp_spec_written.specs.Places.{Switching, plan, switches_in, with_number}
use Rattle.lp_spec_written.specs.Supplies.{joined_to, origin_bits, switch_of, switch_pins, supply_connections}
use Rattle.lp_spec_written.specs.Routes.{control_bits}
use Rattle.lp_spec_written.specs.Written.{Additions, additions, at_pin, written_switch}
use Rattle.lp_spec_wired.specs.Names.{switch_at, placement_of}
use Rattle.lp_spec_written_at.specs.Sources.{node_of_bits, connections_of, HasSwitchCells}
use Rattle.lp_spec_written_at.proofs.Lists.{of-all}
use Rattle.lp_spec_written_at.proofs.Paths.{some-is}
use Rattle.lp_spec_written_at.proofs.Switches.{first-kept, first-numbered, switch-placed}
use Rattle.lp_spec_written_at.proofs.Stands.{switch-there, switches-stand}
use Rattle.lp_spec_written_at.proofs.PinsAt.{switch-read}
use Rattle.lp_spec_begun.specs.Begun.{HasWires, HasPins}

-- a switch that is asked for, with its written instance and its cell, which fits
pub record IsSwitch (p : Project) (l : Lists) (w : Structure) (x : SwitchAt) : Type 0 where
  pub s : Switching
  pub at : switch_of (plan p l) x.origin ≡ Some s
  pub asked : s.asked ≡ x
  pub planned : IsIn s (plan p l).switches
  pub m : ModuleView
  pub module_is : module_at p.structure s.path ≡ Some m
  pub y : ℕ × Switching
  pub listed : IsIn y (numbered 0 (switches_in (plan p l) s.path))
  pub standing : y.1 ≡ s
  pub placed : placed_switch (placement_of p l) x ≡ record { path = s.path; instance = with_number (codes "lp_s_") y.0 }
  pub cell : cell_of w (record { path = s.path; instance = with_number (codes "lp_s_") y.0 }) ≡ Some s.cell
  pub fits : switch_fits x s.cell ≡ true

module _ (p : Project) (l : Lists) (w : Structure) (h : HasWires p l w) (pins : HasPins p l) (cells : HasSwitchCells p l) where
  pub is-switch : (x : SwitchAt) → IsIn x (all_switches p) → IsSwitch p l w x
  is-switch x g =
      let its = switch-there p l cells x g in
      let s = its.0 in
      let scope = some-is (module_at p.structure (l.scope_of_switch x.origin)) (cells.scope x g) in
      let here : module_at p.structure s.path ≡ Some scope.0 = ap (module_at p.structure) its.2.path ∙ scope.1 in
      let kept : first (λ (z : Switching). z.asked.origin == x.origin) (switches_in (plan p l) s.path) ≡ Some s =
      first-kept (λ (z : Switching). z.asked.origin == x.origin) (λ (z : Switching). same_path z.path s.path) (plan p l).switches s its.1 (path-self s.path) in
      let found = first-numbered (λ (z : Switching). z.asked.origin == x.origin) 0 (switches_in (plan p l) s.path) s kept in
      let placed : placed_switch (placement_of p l) x ≡ record { path = s.path; instance = with_number (codes "lp_s_") found.0.0 } =
      ap (switch_at (additions p l) x.origin) its.1
      ∙ ap (λ r. record { path = s.path; instance = unwrap_or (option_and_then (λ (y : ℕ × Switching). Some (with_number (codes "lp_s_") y.0)) r) [] }) found.1 in
      let at = switch-placed p l w h.proper.fit.free h.proper.fit.names h.content x.origin s its.1 scope.0 here (pins.few.switches s.path) in
      let cell : cell_of w (record { path = s.path; instance = with_number (codes "lp_s_") found.0.0 }) ≡ Some s.cell = ap (cell_of w) (sym placed) ∙ at.1 in
      let stands : switch_stands w (placement_of p l) x ≡ true = of-all (switch_stands w (placement_of p l)) x (all_switches p) (switches-stand p l cells w h.proper.fit.free h.proper.fit.names h.content pins.few.switches) g in
      record {
        s = s;
        at = its.1;
        asked = its.2.asked;
        planned = (first_in (λ (z : Switching). z.asked.origin == x.origin) (plan p l).switches s its.1).0;
        m = scope.0;
        module_is = here;
        y = found.0;
        listed = found.2;
        standing = found.3;
        placed = placed;
        cell = cell;
        fits = sym (ap (passed_by (switch_fits x)) cell) ∙ (sym (ap (λ (z : Placed). passed_by (switch_fits x) (cell_of w z)) placed) ∙ stands);
      }

-- ---- its pins

module _ (p : Project) (l : Lists) (w : Structure) (h : HasWires p l w) (pins : HasPins p l) (x : SwitchAt) (i : IsSwitch p l w x) where
  abbrev its : Additions
  its = additions p l

  abbrev instance : Name
  instance = with_number (codes "lp_s_") i.y.0

  abbrev switching : List ConnectionView
  switching = at_pin (input_for is_switch_pin i.y.1.cell) (control_bits its.chains its.controls i.s.path i.y.1.asked.control)

  abbrev supplied : List ConnectionView
  supplied = supply_connections p its.plan (switch_pins p i.y.1)

  its-pin : (c : ConnectionView) → IsIn c (connections_of (written_switch p its i.s.path i.y).connections) → node_at_pin w i.s.path instance c.port ≡ node_of_bits i.s.path c.bits
  its-pin c g = switch-read p l w h.proper.fit.free pins.few h.content i.s.path i.m i.module_is i.y i.listed (pins.switches i.y.1 (subst (λ r. IsIn r (plan p l).switches) (sym i.standing) i.planned)) c g

  pub control-pin : (d : PinView) → input_for is_switch_pin i.s.cell ≡ Some d → node_at_pin w i.s.path instance d.name ≡ node_of_bits i.s.path (control_bits its.chains its.controls i.s.path x.control)
  control-pin d e =
      let bits = control_bits its.chains its.controls i.s.path i.y.1.asked.control in
      let is : input_for is_switch_pin i.y.1.cell ≡ Some d = ap (λ (r : Switching). input_for is_switch_pin r.cell) i.standing ∙ e in
      its-pin (joined_to d.name bits) (in-left (joined_to d.name bits) switching supplied (subst (λ r. IsIn (joined_to d.name bits) (at_pin r bits)) (sym is) (inl refl)))
      ∙ ap (λ (r : SwitchAt). node_of_bits i.s.path (control_bits its.chains its.controls i.s.path r.control)) (ap (λ (r : Switching). r.asked) i.standing ∙ i.asked)

  pub supply-pin : (z : Name × ℕ) → IsIn z (switch_pins p i.s) → node_at_pin w i.s.path instance z.0 ≡ node_of_bits i.s.path (origin_bits p its.plan z.1)
  supply-pin z g =
      let c : ConnectionView = joined_to z.0 (origin_bits p its.plan z.1) in
      let here : IsIn z (switch_pins p i.y.1) = subst (λ r. IsIn z (switch_pins p r)) (sym i.standing) g in
      its-pin c (in-right c switching supplied (in-map (λ (v : Name × ℕ). joined_to v.0 (origin_bits p its.plan v.1)) z (switch_pins p i.y.1) here))

-- The nets of switches where they stand, and the own nets of constants.
use Rattle.std.proofs.Common.{◌≡◌, ℕ, ◌+◌, true, not, List, [], ◌∷◌, ◌++◌, map, Some, None, inl, inr, refl, sym, ◌∙◌, ap, subst, arith, Option, ◌||◌, Bool, false}
use Rattle.std.specs.Prelude.{slice_get, is_some, if◌then◌else◌}
use Rattle.std.specs.List.{list_any}
use Rattle.std.proofs.lemmas.Bool.{false≢true}
use Rattle.lp_model.specs.NetlistView.{BitView, NetBit, AssignView, ModuleView}
use Rattle.lp_spec_design.specs.Keys.{Name, Path, same_path, Node, Inner, Way, AssignBit, Source, From, same_node}
use Rattle.lp_spec_design.specs.Netlists.{Structure, module_at, node_of, is_input}
use Rattle.lp_spec_design.specs.Graph.{pairs, numbered, when, some_of, source_of}
use Rattle.lp_spec_design.specs.Reads.{path-self, node-self, other}
use Rattle.lp_spec_design.specs.Winners.{IsIn}
use Rattle.lp_spec_design.proofs.Members.{in-left, in-right, in-map}
use Rattle.lp_spec_realises.specs.Projects.{Project}
use Rattle.lp_spec_written.specs.Places.{Standing, Switching, switches_in}
use Rattle.lp_spec_written.specs.Nets.{Stretch, stretches_in, is_inside, is_constant, leads_constant, stood, chain_net, renamed_assign, constant_assign, renamed, bit_of}
use Rattle.lp_spec_written.specs.Supplies.{switch_net}
use Rattle.lp_spec_written.specs.Routes.{control_assigns, Part, PortOut, has_part, parts_in, control_net, is_between, part_for, part_bits, carried, control_bits, is_own_control, is_led_out, control_assign}
use Rattle.lp_spec_written.specs.Written.{Additions, written_instance, written_operators, written_switch, written_switches, written_instances, written_module}
use Rattle.lp_spec_hub.specs.Spots.{Lead, Carried, on_way, Routed}
use Rattle.lp_spec_wired.specs.Contents.{HasContent, IsWrittenAt}
use Rattle.lp_spec_wired.specs.Names.{name_by, placement_by}
use Rattle.lp_spec_wired.specs.Laws.{StandsFor}
use Rattle.lp_spec_wired.proofs.Chains.{in-filter}
use Rattle.lp_spec_wired.proofs.Others.{supply-name, part-name}
use Rattle.lp_spec_wired.proofs.Wires.{Own, own, lead-name}
use Rattle.lp_spec_written_at.proofs.Lists.{in-some}
use Rattle.lp_spec_hub.specs.Drives.{part_at}
use Rattle.lp_spec_driven.proofs.Parts.{is-made}
use Rattle.lp_spec_driven.specs.Sound.{IsProper}
use Rattle.lp_spec_driven.specs.Laws.{SwitchOutputsStand, ConstantNetsStand, ControlsLeadOut}
use Rattle.lp_spec_driven.proofs.Switches as switches
use Rattle.lp_spec_driven.proofs.Have.{from-instance, from-assigned, instance-there}
use Rattle.lp_spec_driven.proofs.Stand.{driven-as-told}

has-number : {A : Type 0} (x : A) (xs : List A) (n : ℕ) → IsIn x xs → (k : ℕ) × IsIn (k, x) (numbered n xs)
has-number x [] n h = absurd h
has-number x (y ∷ xs) n h = elim h [ inl is ↦ (n, inl (ap (λ z. (n, z)) is)) | inr r ↦ let found = has-number x xs (n + 1) r in (found.0, inr found.1) ]

-- ---- a switch

pub switch-outputs-stand : SwitchOutputsStand
switch-outputs-stand p a w from written proper s s_in m e =
    let place = has-number s (switches_in a.plan s.path) 0 (in-filter (λ (r : Switching). same_path r.path s.path) a.plan.switches s s_in (path-self s.path)) in
    let at_path = written.modules s.path m e in
    let here = instance-there w s.path (written_instances p a s.path m) at_path.here.instances (written_switch p a s.path (place.0, s)) at_path.content.instances
    (in-right (written_switch p a s.path (place.0, s)) (map (written_instance p a s.path) m.instances) (written_operators p a s.path ++ written_switches p a s.path)
    (in-right (written_switch p a s.path (place.0, s)) (written_operators p a s.path) (written_switches p a s.path) (in-map (written_switch p a s.path) (place.0, s) (numbered 0 (switches_in a.plan s.path)) place.1))) in
    let bits = switches.bits-are p a w from written proper.fit proper.switches s.path m e (place.0, s) place.1 here.0 here.2 in
    let source = from-instance w s.path (switch_net s) None at_path.here here.0 _ at_path.is here.1 (switches.its-source p a w from written proper.fit proper.switches s.path m e (place.0, s) place.1 here.0 here.2) in
    driven-as-told p a w from written proper (Carried s.asked.origin s.path) (record { net = switch_net s; bits = bits }) (switch_net s) None s.path (supply-name p a s.asked.origin (switch_net s) s.path bits) m e source.0 source.1

-- ---- a constant's own net

module _ (p : Project) (a : Additions) (w : Structure) (from : Way → Node) (written : IsWrittenAt p a w) (proper : IsProper p a from) (way : Way) (o : Standing) (at : slice_get (on_way a.plan.operators way) 0 ≡ Some o) (leads : leads_constant p.structure o.path o.asked.bit ≡ true)
    (m : ModuleView) (e : module_at p.structure o.path ≡ Some m) where
  abbrev x : Path
  x = o.path

  abbrev its : Own p a proper.names.chains proper.names.stand proper.names.bits way 0 o
  its = own p a proper.names.chains proper.names.stand proper.names.bits way 0 o at

  abbrev t : Stretch
  t = its.s

  t-leads : leads_constant p.structure t.path t.bit ≡ true
  t-leads = ap (λ u. leads_constant p.structure u t.bit) its.path_is ∙ (ap (leads_constant p.structure o.path) (sym its.bit_is) ∙ leads)

  abbrev net : Name
  net = chain_net (t.start + 0)

  name-is : name_by p a (Lead way) ≡ Inner net None x
  name-is = (lead-name p a proper.names.chains proper.names.stand proper.names.bits proper.names.nets way way 0 o o at at leads its).1 ∙ ap (Inner net None) its.path_is

  abbrev at_path : HasContent w x (written_module p a x m)
  at_path = written.modules x m e

  abbrev assign : AssignView
  assign = record { left = NetBit (chain_net t.start) ∷ []; right = stood p.structure t.bit }

  some-bit : (bits : List BitView) → list_any is_constant bits ≡ true → (u : BitView) × (rest : List BitView) × (bits ≡ u ∷ rest)
  some-bit [] g = absurd (false≢true g)
  some-bit (u ∷ rest) g = (u, rest, refl)

  bit : (u : BitView) × (rest : List BitView) × (stood p.structure t.bit ≡ u ∷ rest)
  bit = some-bit (stood p.structure t.bit) (other (not (is_inside t.path t.bit)) _ (other (is_input t.bit.port) _ t-leads))

  assign-in : IsIn assign at_path.here.assigns
  assign-in =
      subst (λ l. IsIn assign l) (sym at_path.content.assigns)
      (in-right assign (map (renamed_assign a.chains x) m.assigns) (some_of (constant_assign p) (stretches_in a.chains x) ++ control_assigns a.chains a.controls x)
      (in-left assign (some_of (constant_assign p) (stretches_in a.chains x)) (control_assigns a.chains a.controls x)
      (in-some (constant_assign p) t assign (stretches_in a.chains x)
      (in-filter (λ (r : Stretch). same_path r.path x) a.chains t (subst (λ l. IsIn t l) (sym proper.names.chains.chains) its.listed) (ap (λ u. same_path u x) its.path_is ∙ path-self x))
      (ap (λ u. when u assign) t-leads))))

  place : (k : ℕ) × IsIn (k, assign) (numbered 0 at_path.here.assigns)
  place = has-number assign at_path.here.assigns 0 assign-in

  source : (z : Source) × (source_of w (Inner (chain_net t.start) None x) ≡ Some z)
  source =
      from-assigned w x (chain_net t.start) None at_path.here (place.0, assign) (From (AssignBit x place.0 0) (node_of x bit.0)) at_path.is place.1
      (in-some (λ (pair : ℕ × (BitView × BitView)). when (same_node (node_of x pair.1.0) (Inner (chain_net t.start) None x)) (From (AssignBit x place.0 pair.0) (node_of x pair.1.1))) (0, (NetBit (chain_net t.start), bit.0)) (From (AssignBit x place.0 0) (node_of x bit.0))
      (numbered 0 (pairs (NetBit (chain_net t.start) ∷ []) (stood p.structure t.bit)))
      (subst (λ l. IsIn (0, (NetBit (chain_net t.start), bit.0)) (numbered 0 (pairs (NetBit (chain_net t.start) ∷ []) l))) (sym bit.2) (inl refl))
      (ap (λ u. when u (From (AssignBit x place.0 0) (node_of x bit.0))) (node-self (Inner (chain_net t.start) None x))))

  pub lead-stands : StandsFor p a w (placement_by p a) from (Lead way)
  lead-stands =
      let zero_more : t.start + 0 ≡ t.start = omega arith in
      driven-as-told p a w from written proper (Lead way) (record { operator = o; at = at; leads = leads }) (chain_net t.start) None x (name-is ∙ ap (λ u. Inner (chain_net u) None x) zero_more) m e source.0 source.1

pub constant-nets-stand : ConstantNetsStand
constant-nets-stand p a w from written proper way o at leads m e = lead-stands p a w from written proper way o at leads m e

-- ---- a control that leaves an instance

module _ (p : Project) (a : Additions) (w : Structure) (from : Way → Node) (written : IsWrittenAt p a w) (proper : IsProper p a from) (x : Path) (m : ModuleView) (e : module_at p.structure x ≡ Some m) (k : Node) (has : has_part a.controls (part_at k x PortOut) ≡ true)
    (led : is_led_out a.controls x (part_at k x PortOut) ≡ true) where
  part : (t : ℕ × Part) × IsIn t (parts_in a.controls x) × (t.1 ≡ part_at k x PortOut) × (name_by p a (Routed (part_at k x PortOut)) ≡ Inner (control_net t.0) None x)
  part = part-name p a (part_at k x PortOut) has

  abbrev port : Name
  port = control_net part.0.0

  abbrev here : HasContent w x (written_module p a x m)
  here = written.modules x m e

  one-bit : (n : Name) (i : Option ℕ) (own_path : Path) → k ≡ Inner n i own_path → (b : BitView) × (control_bits a.chains a.controls x k ≡ b ∷ [])
  one-bit n i own_path inner = by (same_path own_path x) refl
    where
      at-home : (d : Bool) → same_path own_path x ≡ d → control_bits a.chains a.controls x k ≡ (if d then renamed a.chains x (bit_of n i) ∷ [] else carried (parts_in a.controls x) (Inner n i own_path))
      at-home d g = ap (control_bits a.chains a.controls x) inner ∙ ap (λ q. if q then renamed a.chains x (bit_of n i) ∷ [] else carried (parts_in a.controls x) (Inner n i own_path)) g

      right : (c d : Bool) → c ≡ false → (c || d) ≡ true → d ≡ true
      right true d g h = absurd (false≢true (sym g))
      right false d g h = h

      wired : (r : Option (ℕ × Part)) → part_for (parts_in a.controls x) (Inner n i own_path) is_between ≡ r → is_some r ≡ true → (b : BitView) × (carried (parts_in a.controls x) (Inner n i own_path) ≡ b ∷ [])
      wired None g h = absurd (false≢true h)
      wired (Some v) g h = (NetBit (control_net v.0), ap (λ q. part_bits q (part_for (parts_in a.controls x) (Inner n i own_path) (λ y. true))) g)

      by : (d : Bool) → same_path own_path x ≡ d → (b : BitView) × (control_bits a.chains a.controls x k ≡ b ∷ [])
      by true g = (renamed a.chains x (bit_of n i), at-home true g)
      by false g =
          let some = right (is_own_control x k) _ (ap (is_own_control x) inner ∙ g) led in
          let found = wired (part_for (parts_in a.controls x) (Inner n i own_path) is_between) refl (ap (λ q. is_some (part_for (parts_in a.controls x) q is_between)) (sym inner) ∙ some) in
          (found.0, at-home false g ∙ found.1)

  bit-of-control : (b : BitView) × (control_bits a.chains a.controls x k ≡ b ∷ [])
  bit-of-control =
      let made = is-made p a proper.routes x part.0 part.1 in
      let inner = proper.routes.inner part.0.1 made.0 in
      one-bit inner.0 inner.1 inner.2 (sym (ap (λ (t : Part). t.control) part.2) ∙ inner.3)

  abbrev out : AssignView
  out = record { left = NetBit port ∷ []; right = control_bits a.chains a.controls x k }

  out-in : IsIn out here.here.assigns
  out-in =
      subst (λ l. IsIn out l) (sym here.content.assigns)
      (in-right out (map (renamed_assign a.chains x) m.assigns) (some_of (constant_assign p) (stretches_in a.chains x) ++ control_assigns a.chains a.controls x)
      (in-right out (some_of (constant_assign p) (stretches_in a.chains x)) (control_assigns a.chains a.controls x)
      (in-some (control_assign a.chains a.controls x) part.0 out (parts_in a.controls x) part.1
      (ap (λ (t : Part). when (is_led_out a.controls x t) (record { left = NetBit port ∷ []; right = control_bits a.chains a.controls x t.control })) part.2 ∙ ap (λ q. when q out) led))))

  numbered-out : (j : ℕ) × IsIn (j, out) (numbered 0 here.here.assigns)
  numbered-out = has-number out here.here.assigns 0 out-in

  out-source : (z : Source) × (source_of w (Inner port None x) ≡ Some z)
  out-source =
      from-assigned w x port None here.here (numbered-out.0, out) (From (AssignBit x numbered-out.0 0) (node_of x bit-of-control.0)) here.is numbered-out.1
      (in-some (λ (pair : ℕ × (BitView × BitView)). when (same_node (node_of x pair.1.0) (Inner port None x)) (From (AssignBit x numbered-out.0 pair.0) (node_of x pair.1.1))) (0, (NetBit port, bit-of-control.0)) (From (AssignBit x numbered-out.0 0) (node_of x bit-of-control.0))
      (numbered 0 (pairs (NetBit port ∷ []) (control_bits a.chains a.controls x k)))
      (subst (λ l. IsIn (0, (NetBit port, bit-of-control.0)) (numbered 0 (pairs (NetBit port ∷ []) l))) (sym bit-of-control.1) (inl refl))
      (ap (λ u. when u (From (AssignBit x numbered-out.0 0) (node_of x bit-of-control.0))) (node-self (Inner port None x))))

  pub leads-out : StandsFor p a w (placement_by p a) from (Routed (part_at k x PortOut))
  leads-out = driven-as-told p a w from written proper (Routed (part_at k x PortOut)) has port None x part.3 m e out-source.0 out-source.1

pub controls-lead-out : ControlsLeadOut
controls-lead-out p a w from written proper x m e k has led = leads-out p a w from written proper x m e k has led

-- Net bits of a parent that added outputs of its module instances drive.
use Rattle.std.proofs.Common.{◌≡◌, ℕ, Bool, true, false, not, [], ◌∷◌, ◌++◌, map, Some, None, refl, sym, ◌∙◌, ap, subst, ◌⊎◌, ◌&&◌, inr, List, Option, inl}
use Rattle.std.specs.Prelude.{filter, slice_get, option_and_then, if◌then◌else◌}
use Rattle.lp_model.specs.declared.netlist.Direction.TheVariants.{Input, Output}
use Rattle.lp_model.specs.NetlistView.{NetBit, PortView, InstanceView, ModuleView, BitView}
use Rattle.lp_spec_design.specs.Keys.{Name, Path, Node, Inner, Way, PortBit, Source, From, same_node}
use Rattle.lp_spec_design.specs.Netlists.{Structure, module_named, cell_named, module_at, is_input, first, node_of, connected}
use Rattle.lp_spec_design.specs.Graph.{numbered, when, joined_inside, from_target, source_of}
use Rattle.lp_spec_design.specs.Intents.{FromSwitch}
use Rattle.lp_spec_design.specs.Winners.{IsIn}
use Rattle.lp_spec_design.proofs.Members.{in-left, in-right, in-map, in-flat}
use Rattle.lp_spec_realises.specs.Projects.{Project, network_of}
use Rattle.lp_spec_written.specs.Places.{Switching}
use Rattle.lp_spec_written.specs.Supplies.{switch_of, switch_net, switch_port, scalar, goes_out, goes_in, origin_port}
use Rattle.lp_spec_written.specs.Routes.{control_ports, Part, Kind, PortOut, Between, PortIn, has_part, parts_in, control_net, is_between, port_of_kind, control_port, part_for, part_bits, carried}
use Rattle.lp_spec_written.specs.Written.{Additions, added_supply_ports, written_instance, written_operators, written_switches, written_instances, written_module}
use Rattle.lp_spec_hub.specs.Spots.{Carried, Routed}
use Rattle.lp_spec_wired.specs.Contents.{IsInstance, HasContent, IsWrittenAt}
use Rattle.lp_spec_wired.specs.Names.{placement_by, name_by}
use Rattle.lp_spec_wired.specs.Laws.{StandsFor}
use Rattle.lp_spec_wired.proofs.Chains.{in-filter}
use Rattle.lp_spec_wired.proofs.Lists.{numbered-at}
use Rattle.lp_spec_wired.proofs.Others.{supply-name, part-name}
use Rattle.lp_spec_wired.proofs.Supplies.{supply-bits}
use Rattle.lp_spec_written_at.proofs.Lists.{in-some}
use Rattle.lp_spec_written_at.proofs.Modules.{written-name}
use Rattle.lp_spec_written_at.proofs.Paths.{source-by-names}
use Rattle.std.proofs.lemmas.Bool.{both_ways}
use Rattle.lp_spec_design.specs.Reads.{node-self}
use Rattle.lp_spec_design.specs.Registers.{is_above}
use Rattle.lp_spec_hub.specs.Drives.{part_at, own_instance}
use Rattle.lp_spec_driven.proofs.Parts.{one-place, is-made, has-it, Net, net-of}
use Rattle.lp_spec_hub.proofs.Paths.{above-parent}
use Rattle.lp_spec_driven.specs.Sound.{IsProper}
use Rattle.lp_spec_driven.specs.Laws.{SuppliesGoUp, ControlsGoUp}
use Rattle.lp_spec_driven.proofs.Added as added
use Rattle.lp_spec_driven.proofs.Have.{from-instance, instance-there}
use Rattle.lp_spec_driven.proofs.Stand.{driven-as-told}

none-passes : {A : Type 0} (t : A → Bool) (zs : List A) → first t zs ≡ None → (u : A) → IsIn u zs → t u ≡ true → ⊥
none-passes t [] g u i e = i
none-passes t (z ∷ zs) g u i e = by (t z) refl g (none-passes t zs)
  where
    by : (d : Bool) → t z ≡ d → (if d then Some z else first t zs) ≡ None → (first t zs ≡ None → (v : _) → IsIn v zs → t v ≡ true → ⊥) → ⊥
    by true is h more = absurd cc
    by false is h more = elim i [ inl same ↦ both_ways (t z) is (ap t (sym same) ∙ e) | inr r ↦ more h u r e ]

module _ (p : Project) (a : Additions) (w : Structure) (from : Way → Node) (written : IsWrittenAt p a w) (proper : IsProper p a from) (x : Path) (m : ModuleView) (e : module_at p.structure x ≡ Some m)
    (y : InstanceView) (inner : ModuleView) (y_in : IsIn y m.instances) (target : module_named p.structure y.target ≡ Some inner) where
  abbrev c : Path
  c = y.name ∷ x

  below : module_at p.structure c ≡ Some inner
  below = sym (source-by-names p proper.fit.free x m y e y_in) ∙ target

  abbrev at_path : HasContent w x (written_module p a x m)
  at_path = written.modules x m e

  abbrev child_path : HasContent w c (written_module p a c inner)
  child_path = written.modules c inner below

  instance : (v : InstanceView) × IsIn v at_path.here.instances × IsInstance w x (written_instance p a x y) v
  instance = instance-there w x (written_instances p a x m) at_path.here.instances (written_instance p a x y) at_path.content.instances
      (in-left (written_instance p a x y) (map (written_instance p a x) m.instances) (written_operators p a x ++ written_switches p a x) (in-map (written_instance p a x) y m.instances y_in))

  found : module_named w instance.0.target ≡ Some child_path.here
  found = instance.2.inner ∙ (ap (λ k. module_at w (k ∷ x)) (written-name p a proper.fit.free proper.fit.listed x y) ∙ child_path.is)

  -- an added output that is connected to a bit is a source of its net bit
  from-output : (r : PortView) (n : Name) (z : Source) → IsIn r (added_supply_ports p a c ++ control_ports a.controls c) → is_input r ≡ false → IsIn z (joined_inside x n None instance.0 child_path.here r) → (q : Source) × (source_of w (Inner n None x) ≡ Some q)
  from-output r n z r_in output h =
      from-instance w x n None at_path.here instance.0 z at_path.is instance.1
      (subst (λ l. IsIn z l) (sym (ap (λ o. from_target x n None instance.0 o (cell_named w instance.0.target)) found))
      (in-flat (joined_inside x n None instance.0 child_path.here) r z (filter (λ (q : PortView). not (is_input q)) child_path.here.ports)
      (in-filter (λ (q : PortView). not (is_input q)) child_path.here.ports r
      (subst (λ l. IsIn r l) (sym child_path.content.ports) (in-right r inner.ports (added_supply_ports p a c ++ control_ports a.controls c) r_in)) (ap not output)) h))

  -- ---- a control

  module _ (k : Node) (has_out : has_part a.controls (part_at k c PortOut) ≡ true) (kind : Kind) (has : has_part a.controls (part_at k x kind) ≡ true) (which : (kind ≡ Between) ⊎ ((kind ≡ PortOut) × (has_part a.controls (part_at k x Between) ≡ false))) where
    lower : (t : ℕ × Part) × IsIn t (parts_in a.controls c) × (t.1 ≡ part_at k c PortOut) × (name_by p a (Routed (part_at k c PortOut)) ≡ Inner (control_net t.0) None c)
    lower = part-name p a (part_at k c PortOut) has_out

    upper : (t : ℕ × Part) × IsIn t (parts_in a.controls x) × (t.1 ≡ part_at k x kind) × (name_by p a (Routed (part_at k x kind)) ≡ Inner (control_net t.0) None x)
    upper = part-name p a (part_at k x kind) has

    passes : (same_node upper.0.1.control k && true) ≡ true
    passes = ap (λ b. b && true) (ap (λ (t : Part). same_node t.control k) upper.2 ∙ node-self k)

    one-bit : (wire all : Option (ℕ × Part)) → part_for (parts_in a.controls x) k is_between ≡ wire → part_for (parts_in a.controls x) k (λ t. true) ≡ all → (b : BitView) × (part_bits wire all ≡ b ∷ [])
    one-bit (Some v) all g h = (NetBit (control_net v.0), refl)
    one-bit None (Some v) g h = (NetBit (control_net v.0), refl)
    one-bit None None g h = absurd (none-passes (λ (t : ℕ × Part). same_node t.1.control k && true) (parts_in a.controls x) h upper.0 upper.1 passes)

    bit : (b : BitView) × (carried (parts_in a.controls x) k ≡ b ∷ [])
    bit = one-bit (part_for (parts_in a.controls x) k is_between) (part_for (parts_in a.controls x) k (λ t. true)) refl refl

    its_net : Net p a proper.routes x k bit.0
    its_net = net-of p a proper.routes x k bit.0 (subst (λ l. IsIn bit.0 l) (sym bit.1) (inl refl))

    part-is : (q : Kind) → its_net.part.1.kind ≡ q → its_net.part.1 ≡ part_at k x q
    part-is q g =
        let made = is-made p a proper.routes x its_net.part its_net.listed in
        ap (λ r. record { control = r; path = its_net.part.1.path; kind = its_net.part.1.kind }) its_net.control ∙ (ap (λ r. record { control = k; path = r; kind = its_net.part.1.kind }) made.1 ∙ ap (part_at k x) g)

    has-net : (q : Kind) → its_net.part.1.kind ≡ q → has_part a.controls (part_at k x q) ≡ true
    has-net q g = ap (has_part a.controls) (sym (part-is q g)) ∙ has-it p a proper.routes x its_net.part its_net.listed

    same-part : its_net.part.1 ≡ part_at k x kind
    same-part = by its_net.part.1.kind refl its_net.wire which
      where
        by : (q : Kind) → its_net.part.1.kind ≡ q → (its_net.part.1.kind ≡ Between) ⊎ (has_part a.controls (part_at k x Between) ≡ false) → (kind ≡ Between) ⊎ ((kind ≡ PortOut) × (has_part a.controls (part_at k x Between) ≡ false)) → its_net.part.1 ≡ part_at k x kind
        by q g (inl wire) (inl is) = part-is Between wire ∙ ap (part_at k x) (sym is)
        by q g (inl wire) (inr is) = absurd (both_ways (has_part a.controls (part_at k x Between)) is.1 (has-net Between wire))
        by q g (inr none) (inl is) = absurd (both_ways (has_part a.controls (part_at k x Between)) none (ap (λ r. has_part a.controls (part_at k x r)) (sym is) ∙ has))
        by Between g (inr none) (inr is) = absurd (both_ways (has_part a.controls (part_at k x Between)) none (has-net Between g))
        by PortOut g (inr none) (inr is) = part-is PortOut g ∙ ap (part_at k x) (sym is.0)
        by PortIn g (inr none) (inr is) = absurd (both_ways (is_above x (own_instance k)) (proper.routes.aside k x (has-net PortIn g)) (above-parent x y.name (own_instance k) (proper.routes.routed.above k c has_out)))

    same-place : its_net.part ≡ upper.0
    same-place = one-place p a proper.routes x its_net.part upper.0 its_net.listed upper.1 (same-part ∙ sym upper.2)

    abbrev low_net : Name
    low_net = control_net lower.0.0

    abbrev z : Source
    z = From (PortBit (instance.0.name ∷ x) low_net None) (Inner low_net None (instance.0.name ∷ x))

    low-kind : lower.0.1.kind ≡ PortOut
    low-kind = ap (λ (t : Part). t.kind) lower.2

    port-there : IsIn (scalar low_net Output) (control_ports a.controls c)
    port-there = in-some control_port lower.0 (scalar low_net Output) (parts_in a.controls c) lower.1 (ap (port_of_kind lower.0.0) low-kind)

    connected-to : connected child_path.here.ports low_net instance.0.connections ≡ bit.0 ∷ []
    connected-to =
        added.added-bits p a w (placement_by p a) from written proper.names proper.routes proper.plain proper.fit x m e y instance.0 inner y_in target instance.2 (control_net upper.0.0) None z child_path.here low_net refl
        ∙ (added.control-bits p a w (placement_by p a) from written proper.names proper.routes proper.plain proper.fit x m e y instance.0 inner y_in target instance.2 (control_net upper.0.0) None z child_path.here lower.0 lower.1 low-kind
        ∙ (added.carried-bits p a w (placement_by p a) from written proper.names proper.routes proper.plain proper.fit x m e y instance.0 inner y_in target instance.2 (control_net upper.0.0) None z child_path.here lower.0 lower.1 low-kind
        ∙ (ap (λ (t : Part). carried (parts_in a.controls x) t.control) lower.2 ∙ bit.1)))

    control-source : (q : Source) × (source_of w (Inner (control_net upper.0.0) None x) ≡ Some q)
    control-source =
        from-output (scalar low_net Output) (control_net upper.0.0) z (in-right (scalar low_net Output) (added_supply_ports p a c) (control_ports a.controls c) port-there) refl
        (added.scalar-there p a w (placement_by p a) from written proper.names proper.routes proper.plain proper.fit x m e y instance.0 inner y_in target instance.2 (control_net upper.0.0) None z child_path.here low_net bit.0 [] connected-to
        (ap (node_of x) its_net.bit ∙ ap (λ (t : ℕ × Part). Inner (control_net t.0) None x) same-place))

    pub control-goes-up : StandsFor p a w (placement_by p a) from (Routed (part_at k x kind))
    control-goes-up = driven-as-told p a w from written proper (Routed (part_at k x kind)) has (control_net upper.0.0) None x upper.3 m e control-source.0 control-source.1

  module _ (o input : ℕ) (control : Node) (high : Bool) (kind : slice_get (network_of p).origins o ≡ Some (FromSwitch input control high)) (s : Switching) (its : switch_of a.plan o ≡ Some s) (out : goes_out a.uses s c ≡ true) where
    abbrev net : Name
    net = switch_net s

    port-in : IsIn (scalar net Output) (added_supply_ports p a c)
    port-in =
        in-some (origin_port p a.plan a.uses c) (o, FromSwitch input control high) (scalar net Output) (numbered 0 (network_of p).origins) (numbered-at (network_of p).origins o (FromSwitch input control high) kind)
        (ap (option_and_then (λ (t : Switching). switch_port a.uses t c)) its ∙ ap (λ b. if b then Some (scalar net Output) else when (goes_in a.uses s c) (scalar net Input)) out)

    source : (q : Source) × (source_of w (Inner net None x) ≡ Some q)
    source =
        from-output (scalar net Output) net (From (PortBit (instance.0.name ∷ x) net None) (Inner net None (instance.0.name ∷ x))) (in-left (scalar net Output) (added_supply_ports p a c) (control_ports a.controls c) port-in) refl
        (added.scalar-there p a w (placement_by p a) from written proper.names proper.routes proper.plain proper.fit x m e y instance.0 inner y_in target instance.2 net None (From (PortBit (instance.0.name ∷ x) net None) (Inner net None (instance.0.name ∷ x))) child_path.here net (NetBit net) []
        (added.added-bits p a w (placement_by p a) from written proper.names proper.routes proper.plain proper.fit x m e y instance.0 inner y_in target instance.2 net None (From (PortBit (instance.0.name ∷ x) net None) (Inner net None (instance.0.name ∷ x))) child_path.here net refl
        ∙ supply-bits p a x c (scalar net Output) port-in)
        refl)

    pub goes-up : StandsFor p a w (placement_by p a) from (Carried o x)
    goes-up =
        let bits = added.bits-are p a w (placement_by p a) from written proper.names proper.routes proper.plain proper.fit x m e y instance.0 inner y_in target instance.2 net None (From (PortBit (instance.0.name ∷ x) net None) (Inner net None (instance.0.name ∷ x))) child_path.here o input control high kind s its out in
        driven-as-told p a w from written proper (Carried o x) (record { net = net; bits = bits }) net None x (supply-name p a o net x bits) m e source.0 source.1

pub supplies-go-up : SuppliesGoUp
supplies-go-up p a w from written proper x m e y inner y_in target o input control high kind s its out = goes-up p a w from written proper x m e y inner y_in target o input control high kind s its out

pub controls-go-up : ControlsGoUp
controls-go-up p a w from written proper x m e y inner y_in target k has_out kind has which = control-goes-up p a w from written proper x m e y inner y_in target k has_out kind has which

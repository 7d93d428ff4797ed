-- What control names give, and what switches have as controls, are net bits of their instances, or constants.
use Rattle.std.proofs.Common.{◌≡◌, ℕ, ◌+◌, Bool, false, List, [], ◌∷◌, map, Option, Some, None, inl, inr, refl, sym, ap, ◌∙◌, subst}
use Rattle.std.specs.Prelude.{flat_map, option_and_then, slice_get, unwrap_or, bytes_eq}
use Rattle.lp_model.specs.declared.supply.OriginKind.{OriginKind}
use Rattle.lp_model.specs.declared.supply.OriginKind.TheVariants.{Port, Switch}
use Rattle.lp_model.specs.declared.supply.Origin as model
use Rattle.lp_model.specs.NetlistView.{PortView, NetView, ModuleView}
use Rattle.lp_spec_design.specs.Keys.{Name, Path, Node, Inner, Outer, Fixed}
use Rattle.lp_spec_design.specs.Netlists.{Structure, first, module_at, indices}
use Rattle.lp_spec_design.specs.Instances.{module_instances}
use Rattle.lp_spec_design.specs.Nodes.{nodes_in, inner_nodes, outer_in, nodes_of}
use Rattle.lp_spec_design.specs.Graph.{numbered}
use Rattle.lp_spec_design.specs.Intents.{Origin, FromPort, FromSwitch}
use Rattle.lp_spec_design.specs.Winners.{IsIn}
use Rattle.lp_spec_design.proofs.Members.{in-left, in-right, in-either, in-map, in-flat, of-map, of-flat}
use Rattle.lp_spec_design.proofs.Sources.{then_is, first_in}
use Rattle.lp_spec_network.specs.Views.{kind_view}
use Rattle.lp_spec_realises.specs.Projects.{Project, numbered_node, network_of}
use Rattle.lp_spec_realises.specs.Operators.{SwitchAt, switches_among, all_switches}
use Rattle.lp_spec_realises.specs.Controls.{bits_of_net, all_bits, is_scalar, whole_name, or_bit, bit_named, control_node}
use Rattle.lp_spec_written_at.specs.Sources.{IsNetBit}
use Rattle.lp_spec_written_at.proofs.Lists.{in-slice}

some-same : {A : Type 0} (u v : A) → Some u ≡ Some v → u ≡ v
some-same u v e = cc

-- ---- control names

or-is : (a b : Option (Name × Option ℕ)) (v : Name × Option ℕ) (bits : List (Name × Option ℕ)) → ((z : Name × Option ℕ) → a ≡ Some z → IsIn z bits) → ((z : Name × Option ℕ) → b ≡ Some z → IsIn z bits) → or_bit a b ≡ Some v → IsIn v bits
or-is (Some z) b v bits f g e = subst (λ u. IsIn u bits) (some-same z v e) (f z refl)
or-is None b v bits f g e = g v e

named-in : (text : Name) (bits : List (Name × Option ℕ)) (v : Name × Option ℕ) → bit_named text bits ≡ Some v → IsIn v bits
named-in text bits v e =
    or-is (first (is_scalar text) bits) (first (λ b. bytes_eq (whole_name b.0 b.1) text) bits) v bits
    (λ z g. (first_in (is_scalar text) bits z g).0)
    (λ z g. (first_in (λ (b : Name × Option ℕ). bytes_eq (whole_name b.0 b.1) text) bits z g).0)
    e

bit-node : (x : Path) (m : ModuleView) (v : Name × Option ℕ) → IsIn v (all_bits m) → IsIn (Inner v.0 v.1 x) (nodes_in x (Some m))
bit-node x m v h = elim (in-either v (flat_map (λ (q : PortView). bits_of_net q.name q.range) m.ports) (flat_map (λ (n : NetView). bits_of_net n.name n.range) m.nets) h) [
  | inl p ↦
      let q = of-flat (λ (q : PortView). bits_of_net q.name q.range) v m.ports p in
      let i = of-map (λ (i : Option ℕ). (q.0.name, i)) v (indices q.0.range) q.2 in
      in-left (Inner v.0 v.1 x) (flat_map (λ (r : PortView). map (λ i. Inner r.name i x) (indices r.range)) m.ports) (flat_map (λ (n : NetView). map (λ i. Inner n.name i x) (indices n.range)) m.nets)
      (in-flat (λ (r : PortView). map (λ i. Inner r.name i x) (indices r.range)) q.0 (Inner v.0 v.1 x) m.ports q.1
      (subst (λ (u : Name × Option ℕ). IsIn (Inner u.0 u.1 x) (map (λ i. Inner q.0.name i x) (indices q.0.range))) (sym i.2) (in-map (λ i. Inner q.0.name i x) i.0 (indices q.0.range) i.1)))
  | inr p ↦
      let n = of-flat (λ (n : NetView). bits_of_net n.name n.range) v m.nets p in
      let i = of-map (λ (i : Option ℕ). (n.0.name, i)) v (indices n.0.range) n.2 in
      in-right (Inner v.0 v.1 x) (flat_map (λ (r : PortView). map (λ i. Inner r.name i x) (indices r.range)) m.ports) (flat_map (λ (k : NetView). map (λ i. Inner k.name i x) (indices k.range)) m.nets)
      (in-flat (λ (k : NetView). map (λ i. Inner k.name i x) (indices k.range)) n.0 (Inner v.0 v.1 x) m.nets n.1
      (subst (λ (u : Name × Option ℕ). IsIn (Inner u.0 u.1 x) (map (λ i. Inner n.0.name i x) (indices n.0.range))) (sym i.2) (in-map (λ i. Inner n.0.name i x) i.0 (indices n.0.range) i.1)))
]

-- a node among those of an instance
in-instance : (s : Structure) (x : Path) (n : Name) (i : Option ℕ) → IsIn (Inner n i x) (nodes_in x (module_at s x)) → IsNetBit s (Inner n i x)
in-instance s x n i h m e = subst (λ o. IsIn (Inner n i x) (nodes_in x o)) e h

pub named-bits : (s : Structure) (x : Path) (text : Name) (k : Node) → control_node s x text ≡ Some k → IsNetBit s k
named-bits s x text k e =
    let m = then_is (λ (m : ModuleView). option_and_then (λ (b : Name × Option ℕ). Some (Inner b.0 b.1 x)) (bit_named text (all_bits m))) (module_at s x) k e in
    let b = then_is (λ (b : Name × Option ℕ). Some (Inner b.0 b.1 x)) (bit_named text (all_bits m.0)) k m.2 in
    subst (IsNetBit s) (some-same (Inner b.0.0 b.0.1 x) k b.2)
    (in-instance s x b.0.0 b.0.1 (subst (λ o. IsIn (Inner b.0.0 b.0.1 x) (nodes_in x o)) (sym m.1) (bit-node x m.0 b.0 (named-in text (all_bits m.0) b.0 b.1))))

-- ---- controls of switches

path_in : Path → Node → Type 0
path_in x (Inner n i y) = x ≡ y
path_in x (Outer n i) = Unit {0}
path_in x (Fixed b) = Unit {0}

node-path : (x : Path) (o : Option ModuleView) (k : Node) → IsIn k (nodes_in x o) → path_in x k
unfolding path_in
node-path x None k h = absurd h
node-path x (Some m) k h = elim (in-either k (flat_map (λ (r : PortView). map (λ i. Inner r.name i x) (indices r.range)) m.ports) (flat_map (λ (n : NetView). map (λ i. Inner n.name i x) (indices n.range)) m.nets) h) [
  | inl p ↦
      let q = of-flat (λ (r : PortView). map (λ i. Inner r.name i x) (indices r.range)) k m.ports p in
      let i = of-map (λ i. Inner q.0.name i x) k (indices q.0.range) q.2 in
      subst (path_in x) (sym i.2) refl
  | inr p ↦
      let n = of-flat (λ (n : NetView). map (λ i. Inner n.name i x) (indices n.range)) k m.nets p in
      let i = of-map (λ i. Inner n.0.name i x) k (indices n.0.range) n.2 in
      subst (path_in x) (sym i.2) refl
]

inner-bits : (s : Structure) (x : Path) (k : Node) → IsIn k (nodes_in x (module_at s x)) → IsNetBit s k
unfolding path_in
inner-bits s x (Inner n i y) h =
    let same : x ≡ y = node-path x (module_at s x) (Inner n i y) h in
    in-instance s y n i (subst (λ z. IsIn (Inner n i y) (nodes_in z (module_at s z))) same h)
inner-bits s x (Outer n i) h = tt
inner-bits s x (Fixed b) h = tt

outer-bits : (s : Structure) (o : Option ModuleView) (k : Node) → IsIn k (outer_in o) → IsNetBit s k
outer-bits s None k h = absurd h
outer-bits s (Some m) k h =
    let q = of-flat (λ (r : PortView). map (λ i. Outer r.name i) (indices r.range)) k m.ports h in
    let i = of-map (λ i. Outer q.0.name i) k (indices q.0.range) q.2 in
    subst (IsNetBit s) (sym i.2) tt

node-bits : (s : Structure) (k : Node) → IsIn k (nodes_of s) → IsNetBit s k
unfolding inner_nodes
node-bits s k h = elim (in-either k (inner_nodes s) (outer_in (module_at s [])) h) [
  | inl inner ↦ let x = of-flat (λ x. nodes_in x (module_at s x)) k (module_instances s) inner in inner-bits s x.0 k x.2
  | inr outer ↦ outer-bits s (module_at s []) k outer
]

numbered-bits : (s : Structure) (j : ℕ) → IsNetBit s (numbered_node s j)
numbered-bits s j = by (slice_get (nodes_of s) j) refl
  where
    by : (o : Option Node) → slice_get (nodes_of s) j ≡ o → IsNetBit s (unwrap_or o (Fixed false))
    by None e = tt
    by (Some k) e = node-bits s k (in-slice (nodes_of s) j k e)

-- the controls among origins are those of origins
among : (s : Structure) (k : ℕ) (os : List Origin) → ((o : Origin) → IsIn o os → (input : ℕ) (control : Node) (high : Bool) → o ≡ FromSwitch input control high → IsNetBit s control) → (x : SwitchAt) → IsIn x (switches_among (numbered k os)) → IsNetBit s x.control
among s k [] all x h = absurd h
among s k (FromPort ∷ os) all x h = among s (k + 1) os (λ o g. all o (inr g)) x h
among s k (FromSwitch input control high ∷ os) all x (inl is) = subst (λ (y : SwitchAt). IsNetBit s y.control) (sym is) (all (FromSwitch input control high) (inl refl) input control high refl)
among s k (FromSwitch input control high ∷ os) all x (inr h) = among s (k + 1) os (λ o g. all o (inr g)) x h

abbrev control_in : Origin → Node
control_in FromPort = Fixed false
control_in (FromSwitch input control high) = control

kind-bits : (s : Structure) (kind : OriginKind) (input : ℕ) (control : Node) (high : Bool) → kind_view (numbered_node s) kind ≡ FromSwitch input control high → IsNetBit s control
kind-bits s (Port states) input control high e = absurd cc
kind-bits s (Switch i c h) input control high e = subst (IsNetBit s) (ap control_in e) (numbered-bits s c.0)

pub switch-bits : (p : Project) (x : SwitchAt) → IsIn x (all_switches p) → IsNetBit p.structure x.control
switch-bits p x h =
    among p.structure 0 (network_of p).origins
    (λ o g input control high e.
    let one = of-map (λ (o : model.Origin). kind_view (numbered_node p.structure) o.kind) o p.supplies.origins g in
    kind-bits p.structure one.0.kind input control high (sym one.2 ∙ e))
    x h

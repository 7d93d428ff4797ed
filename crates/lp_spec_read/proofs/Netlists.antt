-- A netlist that is read has its names apart, and what it joins and assigns is declared.
use Rattle.std.specs.Prelude.{cond, flat_map, if◌then◌else◌, nat_le}
use Rattle.std.specs.List.{list_all}
use Rattle.std.proofs.Common.{◌≡◌, ◌≤◌, ◌<◌, ◌+◌, ◌-◌, ◌⊎◌, ◌&&◌, ℕ, zero, suc, Bool, true, false, List, [], ◌∷◌, ◌++◌, map, Option, Some, None, inl, inr, refl, sym, ap, ◌∙◌, subst, arith}
use Rattle.std.proofs.lemmas.Bool.{false≢true, and_parts, or_cases, cases_lt, leb-true, leb-false}
use Rattle.lp_text.specs.Texts.{same_text, distinct}
use Rattle.lp_model.specs.declared.netlist.BitRange.{BitRange}
use Rattle.lp_model.specs.NetlistView.{BitView, NetBit, SelectBit, ConstBit, PortView, NetView, ConnectionView, ConnectionsView, ByName, ByPosition, InstanceView, AssignView, ModuleView}
use Rattle.lp_verilog_draft.specs.Values.{is_in}
use Rattle.lp_vwrite.specs.Layout.{port_nets, wire_nets, declared}
use Rattle.lp_vwrite.specs.WellFormed.{is_name, is_net, declaration, is_scalar, has_index, is_bit, is_filled, is_connection, is_assign, names_of}
use Rattle.lp_vwrite.specs.Sound.{is_read_connections, is_read_instance, is_read_module, is_read}
use Rattle.lp_vwrite.proofs.Sighted.{read_is_sound}
use Rattle.lp_spec_design.specs.Keys.{Name, Path, Node, Inner}
use Rattle.lp_spec_design.specs.Netlists.{Structure, upward, downward, indices}
use Rattle.lp_spec_design.specs.Nodes.{nodes_in, connected_bits, joined_bits, IsDeclared}
use Rattle.lp_spec_design.specs.Reads.{name-true}
use Rattle.lp_spec_design.specs.Winners.{IsIn}
use Rattle.lp_spec_design.proofs.Members.{in-left, in-right, in-either, in-map, in-flat, of-map, of-flat}
use Rattle.lp_spec_realises.specs.ProjectNetlists.{are_apart, names_in, has_names_apart}
use Rattle.lp_spec_agreement.proofs.Apart.{all_in, module_in}
use Rattle.lp_spec_faultless.specs.Faults.{IsReadNetlist}
use Rattle.lp_spec_read.specs.Laws.{ReadNetlistsDeclareTheirBits}

-- ---- ranges

up_in : (n from i : ℕ) → from ≤ i → i < from + n → IsIn (Some i) (map (λ (k : ℕ). Some k) (upward n from))
up_in zero from i low high = absurd (omega arith)
up_in (suc n) from i low high = elim (cases_lt from i) [
  | inl more ↦ inr (up_in n (from + 1) i (omega arith) (omega arith))
  | inr here ↦ let is : i ≡ from = omega arith in inl (ap (λ (k : ℕ). Some k) is)
]

down_in : (n from i : ℕ) → i ≤ from → from < i + n → IsIn (Some i) (map (λ (k : ℕ). Some k) (downward n from))
down_in zero from i low high = absurd (omega arith)
down_in (suc n) from i low high = elim (cases_lt i from) [
  | inl more ↦ inr (down_in n (from - 1) i (omega arith) (omega arith))
  | inr here ↦ let is : i ≡ from = omega arith in inl (ap (λ (k : ℕ). Some k) is)
]

index_in : (r : BitRange) (i : ℕ) → is_in r i ≡ true → IsIn (Some i) (indices (Some r))
index_in r i e = by (nat_le r.left r.right) refl (or_cases (nat_le r.left i && nat_le i r.right) (nat_le r.right i && nat_le i r.left) e)
  where
    by : (b : Bool) → nat_le r.left r.right ≡ b → ((nat_le r.left i && nat_le i r.right) ≡ true) ⊎ ((nat_le r.right i && nat_le i r.left) ≡ true)
        → IsIn (Some i) (map (λ (k : ℕ). Some k) (if b then upward (r.right + 1 - r.left) r.left else downward (r.left + 1 - r.right) r.left))
    by true up (inl h) =
        let a = and_parts (nat_le r.left i) (nat_le i r.right) h in
        let low = leb-true r.left i a.0 in
        let high = leb-true i r.right a.1 in
        up_in (r.right + 1 - r.left) r.left i low (omega (arith, low, high))
    by true up (inr h) =
        let a = and_parts (nat_le r.right i) (nat_le i r.left) h in
        let low = leb-true r.right i a.0 in
        let high = leb-true i r.left a.1 in
        let way = leb-true r.left r.right up in
        up_in (r.right + 1 - r.left) r.left i (omega (arith, low, high, way)) (omega (arith, low, high, way))
    by false down (inl h) =
        let a = and_parts (nat_le r.left i) (nat_le i r.right) h in
        let low = leb-true r.left i a.0 in
        let high = leb-true i r.right a.1 in
        let way = leb-false r.left r.right down in
        absurd (omega (arith, low, high, way))
    by false down (inr h) =
        let a = and_parts (nat_le r.right i) (nat_le i r.left) h in
        let low = leb-true r.right i a.0 in
        let high = leb-true i r.left a.1 in
        down_in (r.left + 1 - r.right) r.left i high (omega (arith, low, high))

-- ---- a bit of a module

entry : (n : Name) (nets : List (Name × Option BitRange)) (r : Option BitRange) → declaration nets n ≡ Some r → IsIn (n, r) nets
entry n [] r e = absurd cc
entry n (x ∷ xs) r e = by (same_text n x.0) refl e (entry n xs r)
  where
    by : (b : Bool) → same_text n x.0 ≡ b → cond b (Some x.1) (declaration xs n) ≡ Some r → (declaration xs n ≡ Some r → IsIn (n, r) xs) → IsIn (n, r) (x ∷ xs)
    by true same h more = let range : r ≡ x.1 = cc in let name : n ≡ x.0 = name-true n x.0 same in inl (λ i. (name i, range i))
    by false same h more = inr (more h)

module _ (q : Path) (m : ModuleView) where
  port_bits : List Node
  port_bits = flat_map (λ (x : PortView). map (λ j. Inner x.name j q) (indices x.range)) m.ports

  net_bits : List Node
  net_bits = flat_map (λ (x : NetView). map (λ j. Inner x.name j q) (indices x.range)) m.nets

  node_there : (n : Name) (r : Option BitRange) (i : Option ℕ) → IsIn (n, r) (declared m) → IsIn i (indices r) → IsIn (Inner n i q) (nodes_in q (Some m))
  unfolding port_bits net_bits
  node_there n r i h in_range = elim (in-either (n, r) (port_nets m.ports) (wire_nets m.nets) h) [
    | inl port ↦
        let x = of-map (λ (p : PortView). (p.name, p.range)) (n, r) m.ports port in
        let bit = in-map (λ j. Inner x.0.name j q) i (indices x.0.range) (subst (λ z. IsIn i (indices z)) (ap (λ (z : Name × Option BitRange). z.1) x.2) in_range) in
        in-left (Inner n i q) port_bits net_bits
        (in-flat (λ (y : PortView). map (λ j. Inner y.name j q) (indices y.range)) x.0 (Inner n i q) m.ports x.1
        (subst (λ z. IsIn (Inner z i q) (map (λ j. Inner x.0.name j q) (indices x.0.range))) (sym (ap (λ (z : Name × Option BitRange). z.0) x.2)) bit))
    | inr net ↦
        let x = of-map (λ (y : NetView). (y.name, y.range)) (n, r) m.nets net in
        let bit = in-map (λ j. Inner x.0.name j q) i (indices x.0.range) (subst (λ z. IsIn i (indices z)) (ap (λ (z : Name × Option BitRange). z.1) x.2) in_range) in
        in-right (Inner n i q) port_bits net_bits
        (in-flat (λ (y : NetView). map (λ j. Inner y.name j q) (indices y.range)) x.0 (Inner n i q) m.nets x.1
        (subst (λ z. IsIn (Inner z i q) (map (λ j. Inner x.0.name j q) (indices x.0.range))) (sym (ap (λ (z : Name × Option BitRange). z.0) x.2)) bit))
  ]

  as_scalar : (n : Name) (o : Option (Option BitRange)) → declaration (declared m) n ≡ o → is_scalar o ≡ true → IsIn (Inner n None q) (nodes_in q (Some m))
  as_scalar n None e h = absurd (false≢true h)
  as_scalar n (Some (Some r)) e h = absurd (false≢true h)
  as_scalar n (Some None) e h = node_there n None None (entry n (declared m) None e) (inl refl)

  as_bit : (n : Name) (i : ℕ) (o : Option (Option BitRange)) → declaration (declared m) n ≡ o → has_index o i ≡ true → IsIn (Inner n (Some i) q) (nodes_in q (Some m))
  as_bit n i None e h = absurd (false≢true h)
  as_bit n i (Some None) e h = absurd (false≢true h)
  as_bit n i (Some (Some r)) e h = node_there n (Some r) (Some i) (entry n (declared m) (Some r) e) (index_in r i h)

  pub bit_declared : (b : BitView) → is_bit (declared m) b ≡ true → IsDeclared q m b
  bit_declared (ConstBit b) h = tt
  bit_declared (NetBit n) h = as_scalar n (declaration (declared m) n) refl h
  bit_declared (SelectBit n i) h = as_bit n i (declaration (declared m) n) refl h

-- ---- the bits that a module joins

connected_bit : (nets : List (Name × Option BitRange)) (cs : ConnectionsView) (b : BitView) → is_read_connections nets cs ≡ true → IsIn b (connected_bits cs) → is_bit nets b ≡ true
connected_bit nets (ByName cs) b e h =
    let c = of-flat (λ (x : ConnectionView). x.bits) b cs h in
    let good = all_in (is_connection nets) c.0 cs e c.1 in
    all_in (is_bit nets) b c.0.bits (and_parts (is_name c.0.port) (list_all (is_bit nets) c.0.bits) good).1 c.2
connected_bit nets (ByPosition values) b e h =
    let bits = of-flat (λ (x : List BitView). x) b values h in
    all_in (is_bit nets) b bits.0 (all_in (list_all (is_bit nets)) bits.0 values e bits.1) bits.2

pub instance_bit : (nets : List (Name × Option BitRange)) (x : InstanceView) (b : BitView) → is_read_instance nets x ≡ true → IsIn b (connected_bits x.connections) → is_bit nets b ≡ true
instance_bit nets x b e h =
    let name = and_parts (is_name x.name) _ e in
    connected_bit nets x.connections b (and_parts (is_name x.target) (is_read_connections nets x.connections) name.1).1 h

pub assigned_bit : (nets : List (Name × Option BitRange)) (a : AssignView) (b : BitView) → is_assign nets a ≡ true → IsIn b a.left → is_bit nets b ≡ true
assigned_bit nets a b e h =
    let left = and_parts (is_filled a.left) _ e in
    let right = and_parts (is_filled a.right) _ left.1 in
    all_in (is_bit nets) b a.left (and_parts (list_all (is_bit nets) a.left) _ right.1).0 h

pub taken_bit : (nets : List (Name × Option BitRange)) (a : AssignView) (b : BitView) → is_assign nets a ≡ true → IsIn b a.right → is_bit nets b ≡ true
taken_bit nets a b e h =
    let left = and_parts (is_filled a.left) _ e in
    let right = and_parts (is_filled a.right) _ left.1 in
    let bits = and_parts (list_all (is_bit nets) a.left) _ right.1 in
    all_in (is_bit nets) b a.right (and_parts (list_all (is_bit nets) a.right) _ bits.1).0 h

pub its_assigns : (m : ModuleView) → is_read_module m ≡ true → list_all (is_assign (declared m)) m.assigns ≡ true
its_assigns m e =
    let name = and_parts (is_name m.name) _ e in
    let nets = and_parts (list_all is_net (declared m)) _ name.1 in
    let names = and_parts (distinct (names_of m)) _ nets.1 in
    (and_parts (list_all (is_read_instance (declared m)) m.instances) (list_all (is_assign (declared m)) m.assigns) names.1).1

joined_bit : (m : ModuleView) (b : BitView) → is_read_module m ≡ true → IsIn b (joined_bits m) → is_bit (declared m) b ≡ true
joined_bit m b e h =
    let name = and_parts (is_name m.name) _ e in
    let nets = and_parts (list_all is_net (declared m)) _ name.1 in
    let names = and_parts (distinct (names_of m)) _ nets.1 in
    let items = and_parts (list_all (is_read_instance (declared m)) m.instances) (list_all (is_assign (declared m)) m.assigns) names.1 in
    elim (in-either b (flat_map (λ (x : InstanceView). connected_bits x.connections) m.instances) (flat_map (λ (a : AssignView). a.left) m.assigns) h) [
      | inl connected ↦
          let x = of-flat (λ (y : InstanceView). connected_bits y.connections) b m.instances connected in
          instance_bit (declared m) x.0 b (all_in (is_read_instance (declared m)) x.0 m.instances items.0 x.1) x.2
      | inr assigned ↦
          let a = of-flat (λ (y : AssignView). y.left) b m.assigns assigned in
          assigned_bit (declared m) a.0 b (all_in (is_assign (declared m)) a.0 m.assigns items.1 a.1) a.2
    ]

-- ---- names

nets_by : (nets : List NetView) (rest : List Name) → map (λ (n : Name × Option BitRange). n.0) (wire_nets nets) ++ rest ≡ map (λ (n : NetView). n.name) nets ++ rest
nets_by [] rest = refl
nets_by (n ∷ nets) rest = ap (λ z. n.name ∷ z) (nets_by nets rest)

names_by : (ports : List PortView) (nets : List NetView) (rest : List Name) → map (λ (n : Name × Option BitRange). n.0) (port_nets ports ++ wire_nets nets) ++ rest ≡ map (λ (q : PortView). q.name) ports ++ (map (λ (n : NetView). n.name) nets ++ rest)
names_by [] nets rest = nets_by nets rest
names_by (q ∷ ports) nets rest = ap (λ z. q.name ∷ z) (names_by ports nets rest)

pub module_apart : (m : ModuleView) → is_read_module m ≡ true → are_apart (names_in m) ≡ true
module_apart m e =
    let name = and_parts (is_name m.name) _ e in
    let nets = and_parts (list_all is_net (declared m)) _ name.1 in
    let names = and_parts (distinct (names_of m)) _ nets.1 in
    subst (λ z. are_apart z ≡ true) (names_by m.ports m.nets (map (λ (x : InstanceView). x.name) m.instances)) names.0

all_apart : (modules : List ModuleView) → list_all is_read_module modules ≡ true → list_all (λ (m : ModuleView). are_apart (names_in m)) modules ≡ true
all_apart [] e = refl
all_apart (m ∷ modules) e =
    let parts = and_parts (is_read_module m) (list_all is_read_module modules) e in
    ap (λ z. z && list_all (λ (k : ModuleView). are_apart (names_in k)) modules) (module_apart m parts.0) ∙ all_apart modules parts.1

-- ---- the whole

module _ (s : Structure) (read : is_read s.modules ≡ true) where
  parts : (distinct (map (λ (m : ModuleView). m.name) s.modules) ≡ true) × (list_all is_read_module s.modules ≡ true)
  parts = and_parts (distinct (map (λ (m : ModuleView). m.name) s.modules)) (list_all is_read_module s.modules) read

  apart : has_names_apart s.modules ≡ true
  apart = ap (λ z. z && list_all (λ (m : ModuleView). are_apart (names_in m)) s.modules) parts.0 ∙ all_apart s.modules parts.1

  all_declared : IsReadNetlist s
  all_declared = record {
    names_apart = apart;
    declared = λ q m b e h. bit_declared q m b (joined_bit m b (all_in is_read_module m s.modules parts.1 (module_in s apart q m e)) h);
    assigned = λ q m a b e h g.
        bit_declared q m b
        (taken_bit (declared m) a b (all_in (is_assign (declared m)) a m.assigns (its_assigns m (all_in is_read_module m s.modules parts.1 (module_in s apart q m e))) h) g);
  }

pub netlists_declare : ReadNetlistsDeclareTheirBits
netlists_declare text s read = all_declared s (read_is_sound text s.modules read)

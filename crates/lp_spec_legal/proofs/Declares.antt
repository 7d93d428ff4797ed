-- A bit that a module declares is one by the test of well-formedness.
use Rattle.std.specs.Prelude.{cond, flat_map, if◌then◌else◌, nat_le}
use Rattle.std.proofs.Common.{◌≡◌, ◌≤◌, ◌<◌, ◌+◌, ◌-◌, ◌&&◌, ◌||◌, ℕ, zero, suc, Bool, true, false, not, List, [], ◌∷◌, ◌++◌, map, Option, Some, None, inl, inr, refl, sym, ap, ◌∙◌, subst, append_assoc, arith}
use Rattle.std.proofs.lemmas.Bool.{false≢true, and_parts, and_from, le-leb, leb-true, leb-false}
use Rattle.lp_text.specs.Texts.{same_text, has_text, distinct, distinct-append_left}
use Rattle.lp_model.specs.declared.netlist.BitRange.{BitRange}
use Rattle.lp_model.specs.NetlistView.{BitView, NetBit, SelectBit, ConstBit, PortView, NetView, InstanceView, ModuleView}
use Rattle.lp_verilog_draft.specs.Values.{is_in}
use Rattle.lp_vwrite.specs.Layout.{port_nets, wire_nets, declared}
use Rattle.lp_vwrite.specs.WellFormed.{declaration, is_scalar, has_index, is_bit, names_of}
use Rattle.lp_spec_design.specs.Keys.{Name, Path, Inner}
use Rattle.lp_spec_design.specs.Netlists.{upward, downward, indices}
use Rattle.lp_spec_design.specs.Nodes.{nodes_in, IsDeclared}
use Rattle.lp_spec_design.specs.Reads.{name-true, name-self}
use Rattle.lp_spec_design.specs.Winners.{IsIn}
use Rattle.lp_spec_design.proofs.Members.{in-left, in-right, in-either, in-map, of-map, of-flat, any-in}
use Rattle.lp_spec_realises.specs.ProjectNetlists.{are_apart, names_in}

-- ---- ranges

of-up : (n from i : ℕ) → IsIn (Some i) (map (λ (k : ℕ). Some k) (upward n from)) → (from ≤ i) × (i < from + n)
of-up zero from i h = absurd h
of-up (suc n) from i (inl is) = let same : i ≡ from = cc in (omega (arith, same), omega (arith, same))
of-up (suc n) from i (inr h) = let more = of-up n (from + 1) i h in let low = more.0 in let high = more.1 in (omega (arith, low), omega (arith, high))

-- indices go down no further than their count, which is not past 0
of-down : (n from i : ℕ) → n ≤ from + 1 → IsIn (Some i) (map (λ (k : ℕ). Some k) (downward n from)) → (i ≤ from) × (from < i + n)
of-down zero from i few h = absurd h
of-down (suc n) from i few (inl is) = let same : i ≡ from = cc in (omega (arith, same), omega (arith, same))
of-down (suc zero) from i few (inr h) = absurd h
of-down (suc (suc n)) from i few (inr h) = let more = of-down (suc n) (from - 1) i (omega (arith, few)) h in let low = more.0 in let high = more.1 in (omega (arith, low, few), omega (arith, high, few))

from-index : (r : BitRange) (i : ℕ) → IsIn (Some i) (indices (Some r)) → is_in r i ≡ true
from-index r i h = by (nat_le r.left r.right) refl h
  where
    left : (a b : Bool) → a ≡ true → (a || b) ≡ true
    left a b e = ap (λ z. z || b) e

    right : (a b : Bool) → b ≡ true → (a || b) ≡ true
    right true b e = refl
    right false b e = e

    by : (t : Bool) → nat_le r.left r.right ≡ t → IsIn (Some i) (map (λ (k : ℕ). Some k) (if t then upward (r.right + 1 - r.left) r.left else downward (r.left + 1 - r.right) r.left)) → is_in r i ≡ true
    by true e g =
        let at = of-up (r.right + 1 - r.left) r.left i g in
        let low = at.0 in
        let high = at.1 in
        let way = leb-true r.left r.right e in
        left (nat_le r.left i && nat_le i r.right) (nat_le r.right i && nat_le i r.left)
        (and_from (nat_le r.left i) (nat_le i r.right) (le-leb r.left i low) (le-leb i r.right (omega (arith, high, way))))
    by false e g =
        let at = of-down (r.left + 1 - r.right) r.left i (omega arith) g in
        let low = at.0 in
        let high = at.1 in
        let way = leb-false r.left r.right e in
        right (nat_le r.left i && nat_le i r.right) (nat_le r.right i && nat_le i r.left)
        (and_from (nat_le r.right i) (nat_le i r.left) (le-leb r.right i (omega (arith, high, way))) (le-leb i r.left low))

no-scalar : (r : BitRange) → IsIn None (indices (Some r)) → ⊥
no-scalar r h = let one = of-map (λ (k : ℕ). Some k) None (if nat_le r.left r.right then upward (r.right + 1 - r.left) r.left else downward (r.left + 1 - r.right) r.left) h in absurd (let e : None ≡ Some one.0 = one.2 in cc)

-- ---- declarations

-- of nets whose names are apart each is the declaration of its name
its-own : (nets : List (Name × Option BitRange)) → distinct (map (λ (z : Name × Option BitRange). z.0) nets) ≡ true → (n : Name) (r : Option BitRange) → IsIn (n, r) nets → declaration nets n ≡ Some r
its-own [] apart n r h = absurd h
its-own (x ∷ nets) apart n r (inl is) =
    ap (λ (z : Name × Option BitRange). cond (same_text z.0 x.0) (Some x.1) (declaration nets z.0)) is
    ∙ (ap (λ b. cond b (Some x.1) (declaration nets x.0)) (name-self x.0)
    ∙ ap (λ (z : Name × Option BitRange). Some z.1) (sym is))
its-own (x ∷ nets) apart n r (inr h) = by (same_text n x.0) refl (its-own nets parts.1 n r h)
  where
    names : List Name
    names = map (λ (z : Name × Option BitRange). z.0) nets

    parts : (not (has_text x.0 names) ≡ true) × (distinct names ≡ true)
    parts = and_parts (not (has_text x.0 names)) (distinct names) apart

    there : (m : Name) → m ≡ x.0 → IsIn m names → ⊥
    there m same g = false≢true (ap not (sym (any-in (same_text x.0) m names g (ap (same_text x.0) same ∙ name-self x.0))) ∙ parts.0)

    by : (b : Bool) → same_text n x.0 ≡ b → declaration nets n ≡ Some r → cond b (Some x.1) (declaration nets n) ≡ Some r
    by true e more = absurd (there n (name-true n x.0 e) (in-map (λ (z : Name × Option BitRange). z.0) (n, r) nets h))
    by false e more = more

-- ---- a bit of a module

-- the range that a net bit has among nets
record HasNode (nets : List (Name × Option BitRange)) (n : Name) (i : Option ℕ) : Type 0 where
  range : Option BitRange
  listed : IsIn (n, range) nets
  among : IsIn i (indices range)

module _ (x : Path) where
  from-inner : (n k : Name) (i j : Option ℕ) → Inner n i x ≡ Inner k j x → (n ≡ k) × (i ≡ j)
  from-inner n k i j e = let name : n ≡ k = cc in let index : i ≡ j = cc in (name, index)

  of-ports : (n : Name) (i : Option ℕ) (ports : List PortView) → IsIn (Inner n i x) (flat_map (λ (q : PortView). map (λ j. Inner q.name j x) (indices q.range)) ports) → HasNode (port_nets ports) n i
  of-ports n i ports h =
      let q = of-flat (λ (q : PortView). map (λ j. Inner q.name j x) (indices q.range)) (Inner n i x) ports h in
      let j = of-map (λ j. Inner q.0.name j x) (Inner n i x) (indices q.0.range) q.2 in
      let same = from-inner n q.0.name i j.0 j.2 in
      record {
        range = q.0.range;
        listed = subst (λ m. IsIn (m, q.0.range) (port_nets ports)) (sym same.0) (in-map (λ (p : PortView). (p.name, p.range)) q.0 ports q.1);
        among = subst (λ k. IsIn k (indices q.0.range)) (sym same.1) j.1;
      }

  of-wires : (n : Name) (i : Option ℕ) (nets : List NetView) → IsIn (Inner n i x) (flat_map (λ (v : NetView). map (λ j. Inner v.name j x) (indices v.range)) nets) → HasNode (wire_nets nets) n i
  of-wires n i nets h =
      let q = of-flat (λ (v : NetView). map (λ j. Inner v.name j x) (indices v.range)) (Inner n i x) nets h in
      let j = of-map (λ j. Inner q.0.name j x) (Inner n i x) (indices q.0.range) q.2 in
      let same = from-inner n q.0.name i j.0 j.2 in
      record {
        range = q.0.range;
        listed = subst (λ m. IsIn (m, q.0.range) (wire_nets nets)) (sym same.0) (in-map (λ (v : NetView). (v.name, v.range)) q.0 nets q.1);
        among = subst (λ k. IsIn k (indices q.0.range)) (sym same.1) j.1;
      }

  of-node : (m : ModuleView) (n : Name) (i : Option ℕ) → IsIn (Inner n i x) (nodes_in x (Some m)) → HasNode (declared m) n i
  of-node m n i h = elim (in-either (Inner n i x) (flat_map (λ (q : PortView). map (λ j. Inner q.name j x) (indices q.range)) m.ports) (flat_map (λ (v : NetView). map (λ j. Inner v.name j x) (indices v.range)) m.nets) h) [
    | inl p ↦ let at = of-ports n i m.ports p in record { range = at.range; listed = in-left (n, at.range) (port_nets m.ports) (wire_nets m.nets) at.listed; among = at.among }
    | inr w ↦ let at = of-wires n i m.nets w in record { range = at.range; listed = in-right (n, at.range) (port_nets m.ports) (wire_nets m.nets) at.listed; among = at.among }
  ]

  module _ (m : ModuleView) (apart : distinct (map (λ (z : Name × Option BitRange). z.0) (declared m)) ≡ true) where
    scalar-bit : (n : Name) (at : HasNode (declared m) n None) → is_scalar (declaration (declared m) n) ≡ true
    scalar-bit n at = by at.range (its-own (declared m) apart n at.range at.listed) at.among
      where
        by : (r : Option BitRange) → declaration (declared m) n ≡ Some r → IsIn None (indices r) → is_scalar (declaration (declared m) n) ≡ true
        by None e g = ap is_scalar e
        by (Some r) e g = absurd (no-scalar r g)

    vector-bit : (n : Name) (i : ℕ) (at : HasNode (declared m) n (Some i)) → has_index (declaration (declared m) n) i ≡ true
    vector-bit n i at = by at.range (its-own (declared m) apart n at.range at.listed) at.among
      where
        by : (r : Option BitRange) → declaration (declared m) n ≡ Some r → IsIn (Some i) (indices r) → has_index (declaration (declared m) n) i ≡ true
        by None e (inl is) = absurd (let bad : Some i ≡ None = is in cc)
        by None e (inr g) = absurd g
        by (Some r) e g = ap (λ o. has_index o i) e ∙ from-index r i g

    bit-of : (b : BitView) → IsDeclared x m b → is_bit (declared m) b ≡ true
    bit-of (ConstBit c) h = refl
    bit-of (NetBit n) h = scalar-bit n (of-node m n None h)
    bit-of (SelectBit n i) h = vector-bit n i (of-node m n (Some i) h)

-- ---- the names of a module

nets-by : (nets : List NetView) → map (λ (z : Name × Option BitRange). z.0) (wire_nets nets) ≡ map (λ (v : NetView). v.name) nets
nets-by [] = refl
nets-by (v ∷ nets) = ap (λ z. v.name ∷ z) (nets-by nets)

declared-by : (ports : List PortView) (nets : List NetView) → map (λ (z : Name × Option BitRange). z.0) (port_nets ports ++ wire_nets nets) ≡ map (λ (q : PortView). q.name) ports ++ map (λ (v : NetView). v.name) nets
declared-by [] nets = nets-by nets
declared-by (q ∷ ports) nets = ap (λ z. q.name ∷ z) (declared-by ports nets)

pub names-by : (m : ModuleView) → names_of m ≡ names_in m
names-by m =
    ap (λ z. z ++ map (λ (y : InstanceView). y.name) m.instances) (declared-by m.ports m.nets)
    ∙ append_assoc (map (λ (q : PortView). q.name) m.ports) (map (λ (v : NetView). v.name) m.nets) (map (λ (y : InstanceView). y.name) m.instances)

-- names that are apart are distinct, the same by its clauses
pub names-distinct : (m : ModuleView) → are_apart (names_in m) ≡ true → distinct (names_of m) ≡ true
names-distinct m apart = ap distinct (names-by m) ∙ apart

-- a node of the module, found in whatever order, is a bit by the test
pub declared-bit : (x : Path) (m : ModuleView) → are_apart (names_in m) ≡ true → (b : BitView) → IsDeclared x m b → is_bit (declared m) b ≡ true
declared-bit x m apart b h = bit-of x m (distinct-append_left (map (λ (z : Name × Option BitRange). z.0) (declared m)) (map (λ (y : InstanceView). y.name) m.instances) (names-distinct m apart)) b h

-- Where no net bit of an instance has two drivers, no node has.
use Rattle.std.proofs.Common.{◌≡◌, ◌≤◌, Bool, true, false, ◌&&◌, List, [], ◌∷◌, map, length, Option, Some, None, inl, inr, refl, sym, ap, ◌∙◌, subst, arith}
use Rattle.std.specs.Prelude.{bytes_eq, filter, if◌then◌else◌}
use Rattle.std.specs.List.{list_any}
use Rattle.std.proofs.lemmas.Bool.{ltb-false}
use Rattle.std.proofs.lemmas.List.{length-map}
use Rattle.lp_model.specs.NetlistView.{PortView, NetView, ModuleView}
use Rattle.lp_spec_design.specs.Keys.{Name, Node, Outer, Source, same_index}
use Rattle.lp_spec_design.specs.Netlists.{Structure, module_at, indices}
use Rattle.lp_spec_design.specs.Graph.{sources_of, outside}
use Rattle.lp_spec_design.specs.Nodes.{inner_nodes, outer_in, nodes_of}
use Rattle.lp_spec_design.specs.Reads.{name-true}
use Rattle.lp_spec_design.specs.Winners.{IsIn}
use Rattle.lp_spec_design.proofs.Looped.{outer_by}
use Rattle.lp_spec_design.proofs.Members.{in-either, of-flat, of-map}
use Rattle.lp_spec_faults.specs.Lines.{first_of, HasFirst}
use Rattle.lp_spec_faults.specs.Wires.{two_drivers}
use Rattle.lp_spec_faults.proofs.Loops.{has_first}
use Rattle.lp_spec_bridge.specs.Keyed.{IsApart}
use Rattle.lp_spec_bridge.specs.Names.{HasNamesApart}
use Rattle.lp_spec_bridge.proofs.Distinct.{apart-left, module-in}
use Rattle.lp_spec_elaborated.proofs.Lists.{none-any}

none-named : (n : Name) (t : PortView → Bool) (ports : List PortView) → (IsIn n (map (λ (q : PortView). q.name) ports) → ⊥) → length (filter (λ port. bytes_eq port.name n && t port) ports) ≡ 0
none-named n t [] h = refl
none-named n t (q ∷ ports) h = by (bytes_eq q.name n) refl (none-named n t ports (λ g. h (inr g)))
  where
    by : (b : Bool) → bytes_eq q.name n ≡ b → length (filter (λ port. bytes_eq port.name n && t port) ports) ≡ 0
        → length (if b && t q then q ∷ filter (λ port. bytes_eq port.name n && t port) ports else filter (λ port. bytes_eq port.name n && t port) ports) ≡ 0
    by true e more = absurd (h (inl (sym (name-true q.name n e))))
    by false e more = more

-- of ports with names apart, one at most has a name
one-named : (n : Name) (t : PortView → Bool) (ports : List PortView) → IsApart (map (λ (q : PortView). q.name) ports) → length (filter (λ port. bytes_eq port.name n && t port) ports) ≤ 1
one-named n t [] apart = omega arith
one-named n t (q ∷ ports) apart = by (bytes_eq q.name n) (t q) refl (one-named n t ports apart.1)
  where
    by : (b c : Bool) → bytes_eq q.name n ≡ b → length (filter (λ port. bytes_eq port.name n && t port) ports) ≤ 1
        → length (if b && c then q ∷ filter (λ port. bytes_eq port.name n && t port) ports else filter (λ port. bytes_eq port.name n && t port) ports) ≤ 1
    by true true e more =
        let none = none-named n t ports (λ h. apart.0 (subst (λ z. IsIn z (map (λ (q : PortView). q.name) ports)) (sym (name-true q.name n e)) h)) in
        omega (arith, none)
    by true false e more = more
    by false c e more = more

module _ (s : Structure) (names : HasNamesApart s) (drivers : first_of (two_drivers s) ≡ None) where
  outer-single : (k : Node) (o : Option ModuleView) → module_at s [] ≡ o → IsIn k (outer_in o) → length (sources_of s k) ≤ 1
  outer-single k None is h = absurd h
  outer-single k (Some m) is h =
      let port = of-flat (λ (x : PortView). map (λ i. Outer x.name i) (indices x.range)) k m.ports h in
      let bit = of-map (λ i. Outer port.0.name i) k (indices port.0.range) port.2 in
      let n = port.0.name in
      let i = bit.0 in
      let among = filter (λ (q : PortView). bytes_eq q.name n && list_any (same_index i) (indices q.range)) m.ports in
      let made : length (sources_of s k) ≡ length (map (outside n i) among) = ap (λ z. length (sources_of s z)) bit.2 ∙ ap (λ (z : List Source). length z) (outer_by s n i (Some m) is) in
      let size = length-map among (outside n i) in
      let few = one-named n (λ (q : PortView). list_any (same_index i) (indices q.range)) m.ports
      (apart-left (map (λ (q : PortView). q.name) m.ports) (map (λ (y : NetView). y.name) m.nets) (names.nets m (module-in s [] m is))) in
      omega (arith, made, size, few)

  pub single : (k : Node) → IsIn k (nodes_of s) → length (sources_of s k) ≤ 1
  single k h = elim (in-either k (inner_nodes s) (outer_in (module_at s [])) h) [
    | inl here ↦ ltb-false 1 (length (sources_of s k)) (none-any (two_drivers s).test (inner_nodes s) k (subst (HasFirst (two_drivers s)) drivers (has_first (two_drivers s))) here)
    | inr there ↦ outer-single k (module_at s []) refl there
  ]

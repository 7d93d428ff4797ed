-- Where no net bit has two drivers, all that drives is no more than there are nodes.
use Rattle.std.proofs.Common.{◌≡◌, ◌<◌, ◌≤◌, ℕ, zero, suc, ◌+◌, Bool, true, false, ◌&&◌, ◌==◌, List, [], ◌∷◌, map, length, Some, None, inl, inr, refl, sym, ap, ◌∙◌, subst, arith}
use Rattle.std.specs.Prelude.{bytes_eq, filter, nat_lt, if◌then◌else◌}
use Rattle.std.specs.List.{list_all, list_any}
use Rattle.std.proofs.lemmas.Bool.{true≢false, eq-eqb, ltb-true, ltb-false}
use Rattle.std.proofs.lemmas.List.{length-map}
use Rattle.lp_model.specs.NetlistView.{PortView, NetView, ModuleView}
use Rattle.lp_spec_design.specs.Keys.{Name, Node, Outer, Source, same_index}
use Rattle.lp_spec_design.specs.Netlists.{Structure, module_at, indices}
use Rattle.lp_spec_design.specs.Graph.{sources_of, outside}
use Rattle.lp_spec_design.specs.Nodes.{inner_nodes, outer_in, nodes_of}
use Rattle.lp_spec_design.specs.Winners.{IsIn}
use Rattle.lp_spec_design.specs.Reads.{one, other, name-true}
use Rattle.lp_spec_design.proofs.Members.{in-either, of-flat, of-map}
use Rattle.lp_spec_design.proofs.Looped.{outer_by}
use Rattle.lp_spec_faults.specs.Lines.{first_of}
use Rattle.lp_spec_faults.specs.Wires.{two_drivers}
use Rattle.lp_spec_bridge.specs.Keyed.{IsApart}
use Rattle.lp_spec_bridge.specs.Names.{HasNamesApart}
use Rattle.lp_spec_bridge.proofs.Distinct.{apart-left}
use Rattle.lp_spec_drivers.specs.Counts.{times}
use Rattle.lp_spec_numbered.proofs.Faults.{first-none}

-- ---- numbers below a bound, none of which stands twice

-- how many of a list are below a number
abbrev below-of : ℕ → List ℕ → ℕ
below-of n [] = 0
below-of n (x ∷ xs) = (if nat_lt x n then 1 else 0) + below-of n xs

all-below : (n : ℕ) (xs : List ℕ) → list_all (λ x. nat_lt x n) xs ≡ true → below-of n xs ≡ length xs
all-below n [] e = refl
all-below n (x ∷ xs) e =
    let rest = all-below n xs (other (nat_lt x n) (list_all (λ x. nat_lt x n) xs) e) in
    ap (λ b. (if b then 1 else 0) + below-of n xs) (one (nat_lt x n) (list_all (λ x. nat_lt x n) xs) e) ∙ omega (arith, rest)

none-below : (xs : List ℕ) → below-of 0 xs ≡ 0
none-below [] = refl
none-below (x ∷ xs) = by (nat_lt x 0) refl (none-below xs)
  where
    by : (b : Bool) → nat_lt x 0 ≡ b → below-of 0 xs ≡ 0 → (if b then 1 else 0) + below-of 0 xs ≡ 0
    by true e more = let low = ltb-true x 0 e in absurd (omega (arith, low))
    by false e more = omega (arith, more)

one-more : (n : ℕ) (xs : List ℕ) → below-of (suc n) xs ≤ below-of n xs + times n xs
one-more n [] = omega arith
one-more n (x ∷ xs) = by (nat_lt x (suc n)) (nat_lt x n) (x == n) refl refl refl (one-more n xs)
  where
    by : (a b c : Bool) → nat_lt x (suc n) ≡ a → nat_lt x n ≡ b → (x == n) ≡ c → below-of (suc n) xs ≤ below-of n xs + times n xs
        → (if a then 1 else 0) + below-of (suc n) xs ≤ ((if b then 1 else 0) + below-of n xs) + (if c then suc (times n xs) else times n xs)
    by false true true e f g more = omega (arith, more)
    by false true false e f g more = omega (arith, more)
    by false false true e f g more = omega (arith, more)
    by false false false e f g more = omega (arith, more)
    by true true true e f g more = omega (arith, more)
    by true true false e f g more = omega (arith, more)
    by true false true e f g more = omega (arith, more)
    by true false false e f g more =
        let low = ltb-true x (suc n) e in
        let high = ltb-false x n f in
        let same : x ≡ n = omega (arith, low, high) in
        absurd (true≢false (sym (eq-eqb x n same) ∙ g))

once-each : (n : ℕ) (xs : List ℕ) → ((k : ℕ) → k < n → times k xs ≤ 1) → below-of n xs ≤ n
once-each zero xs h = let none = none-below xs in omega (arith, none)
once-each (suc n) xs h =
    let more = one-more n xs in
    let here = h n (omega arith) in
    let rest = once-each n xs (λ k low. h k (omega (arith, low))) in
    omega (arith, more, here, rest)

pub no-more : (n : ℕ) (xs : List ℕ) → list_all (λ x. nat_lt x n) xs ≡ true → ((k : ℕ) → k < n → times k xs ≤ 1) → length xs ≤ n
no-more n xs e h = let all = all-below n xs e in let few = once-each n xs h in omega (arith, all, few)

-- ---- the sources of a node

none-named : (n : Name) (t : PortView → Bool) (ports : List PortView) → (IsIn n (map (λ (q : PortView). q.name) ports) → ⊥) → length (filter (λ port. bytes_eq port.name n && t port) ports) ≡ 0
none-named n t [] h = refl
none-named n t (q ∷ ports) h = by (bytes_eq q.name n) refl (none-named n t ports (λ g. h (inr g)))
  where
    by : (b : Bool) → bytes_eq q.name n ≡ b → length (filter (λ port. bytes_eq port.name n && t port) ports) ≡ 0
        → length (if b && t q then q ∷ filter (λ port. bytes_eq port.name n && t port) ports else filter (λ port. bytes_eq port.name n && t port) ports) ≡ 0
    by true e more = absurd (h (inl (sym (name-true q.name n e))))
    by false e more = more

one-named : (n : Name) (t : PortView → Bool) (ports : List PortView) → IsApart (map (λ (q : PortView). q.name) ports) → length (filter (λ port. bytes_eq port.name n && t port) ports) ≤ 1
one-named n t [] apart = omega arith
one-named n t (q ∷ ports) apart = by (bytes_eq q.name n) (t q) refl (one-named n t ports apart.1)
  where
    by : (b c : Bool) → bytes_eq q.name n ≡ b → length (filter (λ port. bytes_eq port.name n && t port) ports) ≤ 1
        → length (if b && c then q ∷ filter (λ port. bytes_eq port.name n && t port) ports else filter (λ port. bytes_eq port.name n && t port) ports) ≤ 1
    by true true e more =
        let none = none-named n t ports (λ h. apart.0 (subst (λ z. IsIn z (map (λ (q : PortView). q.name) ports)) (sym (name-true q.name n e)) h)) in
        omega (arith, none)
    by true false e more = more
    by false c e more = more

module _ (s : Structure) (names : HasNamesApart s) (m : ModuleView) (is : module_at s [] ≡ Some m) (member : IsIn m s.modules) (drivers : first_of (two_drivers s) ≡ None) where
  outer-single : (x : Node) → IsIn x (outer_in (Some m)) → length (sources_of s x) ≤ 1
  outer-single x h =
      let port = of-flat (λ (x : PortView). map (λ i. Outer x.name i) (indices x.range)) x m.ports h in
      let bit = of-map (λ i. Outer port.0.name i) x (indices port.0.range) port.2 in
      let n = port.0.name in
      let i = bit.0 in
      let among = filter (λ (q : PortView). bytes_eq q.name n && list_any (same_index i) (indices q.range)) m.ports in
      let made : length (sources_of s x) ≡ length (map (outside n i) among) = ap (λ z. length (sources_of s z)) bit.2 ∙ ap (λ (z : List Source). length z) (outer_by s n i (Some m) is) in
      let size = length-map among (outside n i) in
      let few = one-named n (λ (q : PortView). list_any (same_index i) (indices q.range)) m.ports
      (apart-left (map (λ (q : PortView). q.name) m.ports) (map (λ (y : NetView). y.name) m.nets) (names.nets m member)) in
      omega (arith, made, size, few)

  pub single : (x : Node) → IsIn x (nodes_of s) → length (sources_of s x) ≤ 1
  single x h = elim (in-either x (inner_nodes s) (outer_in (module_at s [])) h) [
    | inl here ↦ ltb-false 1 (length (sources_of s x)) (first-none (two_drivers s).test (inner_nodes s) x drivers here)
    | inr there ↦ outer-single x (subst (λ o. IsIn x (outer_in o)) is there)
  ]

-- What lies at a place of a stretch is one bit at most.
use Rattle.std.proofs.Common.{◌≡◌, ◌≤◌, ℕ, Bool, true, false, List, [], ◌∷◌, ◌++◌, map, length, Option, Some, None, inl, inr, refl, sym, ap, subst, arith}
use Rattle.std.specs.Prelude.{option_and_then, unwrap_or, if◌then◌else◌}
use Rattle.std.proofs.lemmas.List.{length-map}
use Rattle.lp_model.specs.NetlistView.{BitView, NetBit, InstanceView, ModuleView}
use Rattle.lp_spec_design.specs.Keys.{Name, Path, same_index}
use Rattle.lp_spec_design.specs.Netlists.{Structure, module_named, module_at, instance_named, indices, connected, is_input}
use Rattle.lp_spec_design.specs.Graph.{pairs, and_more, when}
use Rattle.lp_spec_design.specs.Domains.{BoundaryBit}
use Rattle.lp_spec_design.specs.Reads.{index-true}
use Rattle.lp_spec_design.specs.Winners.{IsIn}
use Rattle.lp_spec_design.proofs.Members.{IsApart, in-either, of-map}
use Rattle.lp_spec_realises.specs.Projects.{Project}
use Rattle.lp_spec_realises.specs.Tops.{ports_of}
use Rattle.lp_spec_written.specs.Nets.{Stretch, leads_constant, is_inside, bits_at, connected_at, stood_at, stood, bit_of, renamed, nets_of, net_bits, far, links}
use Rattle.lp_spec_bridge.proofs.Driven.{indices-apart}

-- no index stands twice among the bits of a port
none-at : (i : Option ℕ) (is : List (Option ℕ)) (bits : List BitView) → (IsIn i is → ⊥) → bits_at i (pairs is bits) ≡ []
none-at i [] bits none = refl
none-at i (j ∷ is) [] none = refl
none-at i (j ∷ is) (b ∷ bits) none = by (same_index j i) refl (none-at i is bits (λ h. none (inr h)))
  where
    by : (t : Bool) → same_index j i ≡ t → bits_at i (pairs is bits) ≡ [] → and_more (when t b) (bits_at i (pairs is bits)) ≡ []
    by true e more = absurd (none (inl (sym (index-true j i e))))
    by false e more = more

at-most-one : (i : Option ℕ) (is : List (Option ℕ)) (bits : List BitView) → IsApart is → length (bits_at i (pairs is bits)) ≤ 1
at-most-one i [] bits apart = omega arith
at-most-one i (j ∷ is) [] apart = omega arith
at-most-one i (j ∷ is) (b ∷ bits) apart = by (same_index j i) refl (at-most-one i is bits apart.1)
  where
    by : (t : Bool) → same_index j i ≡ t → length (bits_at i (pairs is bits)) ≤ 1 → length (and_more (when t b) (bits_at i (pairs is bits))) ≤ 1
    by true e more = let none : length (bits_at i (pairs is bits)) ≡ 0 = ap length (none-at i is bits (λ h. apart.0 (subst (λ k. IsIn k is) (sym (index-true j i e)) h))) in omega (arith, none)
    by false e more = more

stood-by : (s : Structure) (b : BoundaryBit) (o : Option InstanceView) → length (unwrap_or (option_and_then (λ y. Some (connected_at s b y)) o) []) ≤ 1
stood-by s b None = omega arith
stood-by s b (Some y) = at-most-one b.index (indices b.port.range) (connected (ports_of (module_named s y.target)) b.port.name y.connections) (indices-apart b.port.range)

stood-of : (s : Structure) (b : BoundaryBit) (i : Name) (o : Option ModuleView) → length (unwrap_or (option_and_then (λ (m : ModuleView). option_and_then (λ y. Some (connected_at s b y)) (instance_named m i)) o) []) ≤ 1
stood-of s b i None = omega arith
stood-of s b i (Some m) = stood-by s b (instance_named m i)

at-path : (s : Structure) (b : BoundaryBit) (x : Path) → length (stood_at s b x) ≤ 1
at-path s b [] = omega arith
at-path s b (i ∷ x) = stood-of s b i (module_at s x)

pub stood-short : (s : Structure) (b : BoundaryBit) → length (stood s b) ≤ 1
stood-short s b = at-path s b b.path

net-short : (t : Stretch) (l : List BitView) → IsIn l (net_bits t) → length l ≤ 1
net-short t l h =
    let found = of-map (λ n. NetBit n ∷ []) l (nets_of t) h in
    let one : length l ≡ 1 = ap length found.2 in
    omega (arith, one)

far-short : (p : Project) (all : List Stretch) (t : Stretch) → length (far p all t) ≤ 1
far-short p all t = by (is_inside t.path t.bit)
  where
    by : (b : Bool) → length (if b then bit_of t.bit.port.name t.bit.index ∷ [] else map (renamed all t.path) (stood p.structure t.bit)) ≤ 1
    by true = omega arith
    by false = let long = length-map (stood p.structure t.bit) (renamed all t.path) in let short = stood-short p.structure t.bit in omega (arith, long, short)

pub links-short : (p : Project) (all : List Stretch) (t : Stretch) (l : List BitView) → IsIn l (links p all t) → length l ≤ 1
links-short p all t l h = by (is_input t.bit.port) (leads_constant p.structure t.path t.bit) h
  where
    is-far : l ≡ far p all t → length l ≤ 1
    is-far e = let same : length l ≡ length (far p all t) = ap length e in let short = far-short p all t in omega (arith, same, short)

    by : (b c : Bool) → IsIn l (if b then (if c then net_bits t else far p all t ∷ net_bits t) else net_bits t ++ (far p all t ∷ [])) → length l ≤ 1
    by true true g = net-short t l g
    by true false g = elim g [ inl e ↦ is-far e | inr r ↦ net-short t l r ]
    by false c g = elim (in-either l (net_bits t) (far p all t ∷ []) g) [ inl r ↦ net-short t l r | inr r ↦ elim r [ inl e ↦ is-far e | inr none ↦ absurd none ] ]

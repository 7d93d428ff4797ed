-- A node that reaches itself is or passes a net bit.
use Rattle.std.proofs.Common.{◌≡◌, ◌≤◌, ℕ, suc, Bool, true, false, List, [], ◌∷◌, map, Option, Some, None, refl, sym, ◌∙◌, subst, inl, inr}
use Rattle.std.specs.Prelude.{filter, bytes_eq, ◌&&◌}
use Rattle.std.specs.List.{list_any}
use Rattle.std.proofs.lemmas.Bool.{false≢true}
use Rattle.lp_model.specs.NetlistView.{PortView, ModuleView}
use Rattle.lp_spec_design.specs.Keys.{Name, Path, Way, Node, Inner, Outer, Fixed, Source, Environment, From, same_index}
use Rattle.lp_spec_design.specs.Netlists.{Structure, module_at, indices, is_input}
use Rattle.lp_spec_design.specs.Graph.{sources_of, source_of, outside, trail}
use Rattle.lp_spec_design.specs.Winners.{IsIn}
use Rattle.lp_spec_design.specs.Nodes.{inner_nodes, outer_in, nodes_of, fuel_of, is_on_its_way, has_wire_loop, HasItsNodes}
use Rattle.lp_spec_design.proofs.Members.{in-either, of-flat, of-map, any-in}
use Rattle.lp_spec_design.proofs.WaysBack.{Back, back-more, back-on, has-fuel}

abbrev pub head_of : List Source → Option Source
head_of [] = None
head_of (x ∷ xs) = Some x

pub source_by : (s : Structure) (k : Node) (xs : List Source) → sources_of s k ≡ xs → source_of s k ≡ head_of xs
source_by s k [] e = rw (e) refl
source_by s k (x ∷ xs) e = rw (e) refl

module _ (s : Structure) (n : Name) (i : Option ℕ) where
  abbrev pub outer_sources : Option ModuleView → List Source
  outer_sources None = []
  outer_sources (Some m) = map (outside n i) (filter (λ port. bytes_eq port.name n && list_any (same_index i) (indices port.range)) m.ports)

  pub outer_by : (o : Option ModuleView) → module_at s [] ≡ o → sources_of s (Outer n i) ≡ outer_sources o
  outer_by None e = rw (e) refl
  outer_by (Some m) e = rw (e) refl

  one_outside : (ports : List PortView) (w : Way) (j : Node) → head_of (map (outside n i) ports) ≡ Some (From w j) → j ≡ Inner n i []
  one_outside [] w j e = absurd cc
  one_outside (q ∷ ports) w j e = by (is_input q) refl
    where
      by : (b : Bool) → is_input q ≡ b → j ≡ Inner n i []
      by true is = let here : Some Environment ≡ Some (From w j) = rw is at e in absurd cc
      by false is = let here = rw is at e in cc

  outer_from : (o : Option ModuleView) (w : Way) (j : Node) → head_of (outer_sources o) ≡ Some (From w j) → j ≡ Inner n i []
  outer_from None w j e = absurd cc
  outer_from (Some m) w j e = one_outside (filter (λ port. bytes_eq port.name n && list_any (same_index i) (indices port.range)) m.ports) w j e

  pub outer-inner : (w : Way) (j : Node) → source_of s (Outer n i) ≡ Some (From w j) → j ≡ Inner n i []
  outer-inner w j e = outer_from (module_at s []) w j (sym (source_by s (Outer n i) (outer_sources (module_at s [])) (outer_by (module_at s []) refl)) ∙ e)

no_outer : (n : Name) (i : Option ℕ) (p : Path) (o : Option ModuleView) → IsIn (Inner n i p) (outer_in o) → ⊥
no_outer n i p None h = h
no_outer n i p (Some m) h =
    let port = of-flat (λ (x : PortView). map (λ j. Outer x.name j) (indices x.range)) (Inner n i p) m.ports h in
    let bit = of-map (λ j. Outer port.0.name j) (Inner n i p) (indices port.0.range) port.2 in
    let is : Inner n i p ≡ Outer port.0.name bit.0 = bit.2 in
    absurd cc

module _ (s : Structure) (known : HasItsNodes s) (none : has_wire_loop s ≡ false) where
  inner_known : (n : Name) (i : Option ℕ) (p : Path) (x : Source) → source_of s (Inner n i p) ≡ Some x → IsIn (Inner n i p) (inner_nodes s)
  inner_known n i p x e = elim (in-either (Inner n i p) (inner_nodes s) (outer_in (module_at s [])) (known (Inner n i p) x e)) [ inl here ↦ here | inr there ↦ absurd (no_outer n i p (module_at s []) there) ]

  inner_loop : (n : Name) (i : Option ℕ) (p : Path) (m : ℕ) → Back s (suc m) (Inner n i p) (Inner n i p) → suc m ≤ fuel_of s → ⊥
  inner_loop n i p m back enough =
      false≢true (sym none ∙ any-in (is_on_its_way s) (Inner n i p) (inner_nodes s) (inner_known n i p (From back.0 back.1) back.2) (back-on s m (fuel_of s) (Inner n i p) (Inner n i p) back enough))

  no_loop : (k : Node) (m : ℕ) → Back s (suc m) k k → suc m ≤ fuel_of s → ⊥
  no_loop (Inner n i p) m back enough = inner_loop n i p m back enough
  no_loop (Outer n i) m back enough =
      let is : back.1 ≡ Inner n i [] = outer-inner s n i back.0 back.1 back.2 in
      inner_loop n i [] m (subst (λ j. Back s (suc m) j j) is (back-more s m back.1 (Outer n i) back.1 back.0 back.3 back.2)) enough
  no_loop (Fixed b) m back enough = let is : None ≡ Some (From back.0 back.1) = back.2 in absurd cc

  pub no_loop_fuel : (k : Node) → trail s (suc (fuel_of s)) k ≡ trail s (fuel_of s) k
  unfolding fuel_of no_loop
  no_loop_fuel k = has-fuel s (nodes_of s) known no_loop k

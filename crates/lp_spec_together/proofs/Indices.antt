-- A netlist of the written content has the ports of the source first, so the bits of ports keep their indices.
use Rattle.std.specs.Prelude.{bytes_eq, if◌then◌else◌}
use Rattle.std.proofs.Common.{◌≡◌, ℕ, Bool, true, false, List, [], ◌∷◌, ◌++◌, Option, Some, None, refl, sym, ap, ◌∙◌}
use Rattle.lp_model.specs.NetlistView.{PortView, ModuleView}
use Rattle.lp_spec_design.specs.Keys.{Name, same_index}
use Rattle.lp_spec_design.specs.Netlists.{first, module_at, indices}
use Rattle.lp_spec_design.specs.Graph.{pairs}
use Rattle.lp_spec_design.specs.Reads.{index-true}
use Rattle.lp_spec_realises.specs.Projects.{Project}
use Rattle.lp_spec_realises.specs.ProjectNetlists.{netlist_of}
use Rattle.lp_spec_realises.specs.Tops.{ports_of, top_ports, beside, index_between, top_port, index_across}
use Rattle.lp_spec_written.specs.Written.{Additions}
use Rattle.lp_spec_written.specs.Supplies.{supply_ports}
use Rattle.lp_spec_written.specs.Routes.{control_ports}
use Rattle.lp_spec_wired.specs.Contents.{IsWrittenAt}
use Rattle.lp_spec_together.specs.Laws.{ContentKeepsIndices}

-- an index beside itself
beside_itself : (i : Option ℕ) (xs : List (Option ℕ)) → beside i (pairs xs xs) ≡ i
beside_itself i [] = refl
beside_itself i (x ∷ xs) = by (same_index i x) refl (beside_itself i xs)
  where
    by : (b : Bool) → same_index i x ≡ b → beside i (pairs xs xs) ≡ i → (if b then x else beside i (pairs xs xs)) ≡ i
    by true e more = sym (index-true i x e)
    by false e more = more

-- what is found in front stays found
first_in_front : {A : Type 0} (t : A → Bool) (xs more : List A) (a : A) → first t xs ≡ Some a → first t (xs ++ more) ≡ Some a
first_in_front t [] more a e = absurd cc
first_in_front t (x ∷ xs) more a e = by (t x) e (first_in_front t xs more a)
  where
    by : (b : Bool) → (if b then Some x else first t xs) ≡ Some a → (first t xs ≡ Some a → first t (xs ++ more) ≡ Some a) → (if b then Some x else first t (xs ++ more)) ≡ Some a
    by true h later = h
    by false h later = later h

module _ (p : Project) (a : Additions) (modules : List ModuleView) (at : IsWrittenAt p a (netlist_of p modules)) where
  -- the ports of the source, and those behind them
  ports_first : (more : List PortView) × (top_ports (netlist_of p modules) ≡ top_ports p.structure ++ more)
  ports_first = by (module_at p.structure []) refl
    where
      by : (o : Option ModuleView) → module_at p.structure [] ≡ o → (more : List PortView) × (top_ports (netlist_of p modules) ≡ ports_of (module_at p.structure []) ++ more)
      by None e = ([], ap ports_of (at.none [] e) ∙ sym (ap (λ o. ports_of o ++ []) e))
      by (Some m) e =
          let there = at.modules [] m e in
          let added = supply_ports p a.plan a.uses [] ++ control_ports a.controls [] in
          (added, ap ports_of there.is ∙ (there.content.ports ∙ sym (ap (λ o. ports_of o ++ added) e)))

  same_port_first : (n : Name) (q : PortView) → top_port p.structure n ≡ Some q → top_port (netlist_of p modules) n ≡ Some q
  same_port_first n q e =
      ap (first (λ (r : PortView). bytes_eq r.name n)) ports_first.1 ∙ first_in_front (λ (r : PortView). bytes_eq r.name n) (top_ports p.structure) ports_first.0 q e

  keeps : (n : Name) (i : Option ℕ) → index_across p.structure (netlist_of p modules) n i ≡ i
  keeps n i = by (top_port p.structure n) refl
    where
      by : (o : Option PortView) → top_port p.structure n ≡ o → index_between i o (top_port (netlist_of p modules) n) ≡ i
      by None e = refl
      by (Some q) e = ap (index_between i (Some q)) (same_port_first n q e) ∙ beside_itself i (indices q.range)

pub content_keeps_indices : ContentKeepsIndices
content_keeps_indices p a modules at b h = keeps p a modules at b.0 b.1

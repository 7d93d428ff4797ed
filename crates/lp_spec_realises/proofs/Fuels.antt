-- In a netlist of a project whatever has a source is one of the nodes, and no way back is longer than there are nodes.
use Rattle.std.proofs.Common.{◌≡◌, ◌<◌, ◌≤◌, Bool, true, List, [], ◌∷◌, length, Option, Some, None, inl, inr, refl, sym, ◌∙◌, ap, subst, arith}
use Rattle.std.specs.Prelude.{nat_lt}
use Rattle.std.specs.List.{list_any, list_all}
use Rattle.std.proofs.lemmas.Bool.{and_parts, ltb-true}
use Rattle.lp_model.specs.NetlistView.{BitView, NetBit, SelectBit, ConstBit, ModuleView}
use Rattle.lp_spec_design.specs.Keys.{Path, Node, Inner, same_node}
use Rattle.lp_spec_design.specs.Netlists.{Structure, module_at}
use Rattle.lp_spec_design.specs.Instances.{below, module_instances}
use Rattle.lp_spec_design.specs.Nodes.{nodes_in, joined_bits, IsDeclared, DeclaresBits, HasItsNodes, HasFuel}
use Rattle.lp_spec_design.specs.Reads.{node-true}
use Rattle.lp_spec_design.specs.Winners.{IsIn}
use Rattle.lp_spec_design.proofs.Members.{of-any}
use Rattle.lp_spec_design.proofs.Looped.{no_loop_fuel}
use Rattle.lp_spec_design.proofs.Sources.{child_of, in_reach, sources_known}
use Rattle.lp_spec_realises.specs.Projects.{Project}
use Rattle.lp_spec_realises.specs.ProjectNetlists.{netlist_of, is_declared, declares_its_bits, is_shallow, IsProjectNetlist}

in-passes : {A : Type 0} (p : A → Bool) (a : A) (xs : List A) → list_all p xs ≡ true → IsIn a xs → p a ≡ true
in-passes p a [] all h = absurd h
in-passes p a (x ∷ xs) all h = elim h [ inl is ↦ ap p is ∙ (and_parts _ _ all).0 | inr rest ↦ in-passes p a xs (and_parts _ _ all).1 rest ]

same-in : (k : Node) (nodes : List Node) → list_any (same_node k) nodes ≡ true → IsIn k nodes
same-in k nodes e = let found = of-any (same_node k) nodes e in subst (λ j. IsIn j nodes) (sym (node-true k found.0 found.2)) found.1

module _ (w : Structure) (shallow : is_shallow w ≡ true) where
  is_short : (p : Path) (m : ModuleView) → module_at w p ≡ Some m → length p < 64
  is_short [] m e = omega arith
  is_short (i ∷ p) m e =
      let up = child_of w i p m e in
      let above = is_short p up.0 up.1 in
      ltb-true (length (i ∷ p)) 64 (in-passes (λ (x : Path). nat_lt (length x) 64) (i ∷ p) (below w 65 []) shallow (in_reach w 65 (i ∷ p) m e (omega (arith, above))))

  none-deeper : (p : Path) → 64 ≤ length p → module_at w p ≡ None
  none-deeper p deep = by (module_at w p) refl
    where
      by : (o : Option ModuleView) → module_at w p ≡ o → o ≡ None
      by None e = refl
      by (Some m) e = let short = is_short p m e in absurd (omega (arith, short, deep))

  module _ (declared : list_all (λ path. declares_its_bits path (module_at w path)) (module_instances w) ≡ true) where
    as_declared : (p : Path) (m : ModuleView) (b : BitView) → is_declared p (nodes_in p (Some m)) b ≡ true → IsDeclared p m b
    as_declared p m (ConstBit b) e = tt
    as_declared p m (NetBit n) e = same-in (Inner n None p) (nodes_in p (Some m)) e
    as_declared p m (SelectBit n i) e = same-in (Inner n (Some i) p) (nodes_in p (Some m)) e

    is_instance : (p : Path) (m : ModuleView) → module_at w p ≡ Some m → IsIn p (module_instances w)
    unfolding module_instances
    is_instance p m e = in_reach w 64 p m e (is_short p m e)

    declares : DeclaresBits w
    declares = record {
      declared = λ p m b e h.
          let all : declares_its_bits p (module_at w p) ≡ true = in-passes (λ path. declares_its_bits path (module_at w path)) p (module_instances w) declared (is_instance p m e) in
          as_declared p m b (in-passes (is_declared p (nodes_in p (Some m))) b (joined_bits m) (ap (declares_its_bits p) (sym e) ∙ all) h);
      shallow = none-deeper;
    }

module _ (p : Project) (modules : List ModuleView) (netlist : IsProjectNetlist p modules) where
  pub has_nodes : HasItsNodes (netlist_of p modules)
  has_nodes = sources_known (netlist_of p modules) (declares (netlist_of p modules) netlist.shallow netlist.declared)

  pub has_fuel : HasFuel (netlist_of p modules)
  has_fuel = no_loop_fuel (netlist_of p modules) has_nodes netlist.no_loop

-- What the assigns of the source drive in the written netlist.
use Rattle.std.proofs.Common.{◌≡◌, ℕ, ◌+◌, List, [], ◌∷◌, ◌++◌, map, length, Option, Some, inl, inr, refl, sym, ◌∙◌, ap, subst}
use Rattle.std.specs.Prelude.{flat_map, option_and_then}
use Rattle.lp_model.specs.NetlistView.{BitView, InstanceView, AssignView, ModuleView}
use Rattle.lp_spec_design.specs.Keys.{Name, Path, Node, Inner, Way, AssignBit, Source, From, same_node}
use Rattle.lp_spec_design.specs.Netlists.{Structure, module_at, node_of}
use Rattle.lp_spec_design.specs.Graph.{pairs, when, numbered, ports_in, from_one, from_assign, source_of}
use Rattle.lp_spec_design.specs.Nodes.{connected_bits, joined_bits}
use Rattle.lp_spec_design.specs.Reads.{node-true, node-self}
use Rattle.lp_spec_design.specs.Winners.{IsIn}
use Rattle.lp_spec_design.proofs.Members.{in-right, in-flat, of-some, of-when, of-pairs, of-numbered}
use Rattle.lp_spec_realises.specs.Projects.{Project}
use Rattle.lp_spec_realises.specs.Operators.{Placement}
use Rattle.lp_spec_written.specs.Places.{Standing}
use Rattle.lp_spec_written.specs.Nets.{renamed, renamed_assign}
use Rattle.lp_spec_written.specs.Written.{Additions}
use Rattle.lp_spec_hub.specs.Spots.{OfNode, FromSpot, on_way}
use Rattle.lp_spec_hub.specs.Drives.{drive_by, passed}
use Rattle.lp_spec_wired.proofs.Chains.{node-renamed}
use Rattle.lp_spec_written_at.proofs.Lists.{in-some}
use Rattle.lp_spec_driven.specs.Wires.{IsOfWire}
use Rattle.lp_spec_driven.specs.Sound.{IsPlainSource}
use Rattle.lp_spec_driven.specs.Laws.{AssignsGive}
use Rattle.lp_spec_driven.proofs.Sources.{of-when-is, the-source, in-by, bit-of}

-- ---- lists

numbered-map : {A B : Type 0} (f : A → B) (k : ℕ) (xs : List A) (z : ℕ × B) → IsIn z (numbered k (map f xs)) → (x : A) × IsIn (z.0, x) (numbered k xs) × (z.1 ≡ f x)
numbered-map f k [] z h = absurd h
numbered-map f k (x ∷ xs) z (inl is) = (x, inl (ap (λ (u : ℕ × _). (u.0, x)) is), ap (λ (u : ℕ × _). u.1) is)
numbered-map f k (x ∷ xs) z (inr h) = let found = numbered-map f (k + 1) xs z h in (found.0, inr found.1, found.2)

pairs-map : {A B : Type 0} (f : A → B) (xs ys : List A) → pairs (map f xs) (map f ys) ≡ map (λ (z : A × A). (f z.0, f z.1)) (pairs xs ys)
pairs-map f [] ys = refl
pairs-map f (x ∷ xs) [] = refl
pairs-map f (x ∷ xs) (y ∷ ys) = ap (λ r. (f x, f y) ∷ r) (pairs-map f xs ys)

-- no operator stands on a way of an assign
pub no-operators : (all : List Standing) (x : Path) (j k : ℕ) → on_way all (AssignBit x j k) ≡ []
no-operators [] x j k = refl
no-operators (o ∷ all) x j k = no-operators all x j k

module _ (p : Project) (a : Additions) (w : Structure) (at : Placement) (from : Way → Node) (plain : IsPlainSource p.structure) (x : Path) (m : ModuleView) (e : module_at p.structure x ≡ Some m) where
  abbrev s : Structure
  s = p.structure

  left-bit : (k : ℕ) (q : AssignView) (u : BitView) → IsIn (k, q) (numbered 0 m.assigns) → IsIn u q.left → IsIn u (joined_bits m)
  left-bit k q u h g =
      in-right u (flat_map (λ (z : InstanceView). connected_bits z.connections) m.instances) (flat_map (λ (z : AssignView). z.left) m.assigns)
      (in-flat (λ (z : AssignView). z.left) q u m.assigns (of-numbered 0 (k, q) m.assigns h) g)

  module _ (n : Name) (i : Option ℕ) (k j : ℕ) (q : AssignView) (two : BitView × BitView) (h : IsIn (k, q) (numbered 0 m.assigns)) (g : IsIn (j, two) (numbered 0 (pairs q.left q.right))) where
    in-source : (r : Name) (l : Option ℕ) → node_of x two.0 ≡ Inner r l x → source_of s (Inner r l x) ≡ Some (From (AssignBit x k j) (node_of x two.1))
    in-source r l same =
        the-source s (Inner r l x) (From (AssignBit x k j) (node_of x two.1)) (plain.single (Inner r l x))
        (subst (λ z. IsIn (From (AssignBit x k j) (node_of x two.1)) z) (sym (in-by s x r l m e))
        (in-right (From (AssignBit x k j) (node_of x two.1)) (ports_in s x r l m) (flat_map (from_one s x r l) m.instances ++ flat_map (from_assign x r l) (numbered 0 m.assigns))
        (in-right (From (AssignBit x k j) (node_of x two.1)) (flat_map (from_one s x r l) m.instances) (flat_map (from_assign x r l) (numbered 0 m.assigns))
        (in-flat (from_assign x r l) (k, q) (From (AssignBit x k j) (node_of x two.1)) (numbered 0 m.assigns) h
        (in-some (λ (pair : ℕ × (BitView × BitView)). when (same_node (node_of x pair.1.0) (Inner r l x)) (From (AssignBit x k pair.0) (node_of x pair.1.1))) (j, two) (From (AssignBit x k j) (node_of x two.1)) (numbered 0 (pairs q.left q.right)) g
        (ap (λ t. when t (From (AssignBit x k j) (node_of x two.1))) (ap (λ u. same_node u (Inner r l x)) same ∙ node-self (Inner r l x))))))))

    assigned : (z : Source) → node_of x (renamed a.chains x two.0) ≡ Inner n i x → z ≡ From (AssignBit x k j) (node_of x (renamed a.chains x two.1)) → IsOfWire p a w at from (Inner n i x) z
    assigned z same z_is =
        let its = bit-of p a x two.0 n i (plain.free x m two.0 e (left-bit k q two.0 h (of-pairs two q.left q.right (of-numbered 0 (j, two) (pairs q.left q.right) g)).0)) same in
        record {
          wire = OfNode (Inner its.net its.index x);
          there = its.free;
          name = its.name;
          driven = FromSpot (OfNode (node_of x two.1));
          is =
              ap (option_and_then (λ u. Some (drive_by a.plan.operators u))) (in-source its.net its.index its.is)
              ∙ ap (λ l. Some (passed l (AssignBit x k j) (node_of x two.1) (length l))) (no-operators a.plan.operators x k j);
          gives = record { way = AssignBit x k j; is = z_is ∙ ap (From (AssignBit x k j)) (sym (node-renamed a.chains x two.1)) };
        }

  pub gives-assign : (n : Name) (i : Option ℕ) (z : Source) (u : ℕ × AssignView) → IsIn u (numbered 0 (map (renamed_assign a.chains x) m.assigns)) → IsIn z (from_assign x n i u) → IsOfWire p a w at from (Inner n i x) z
  gives-assign n i z u h g =
      let of = numbered-map (renamed_assign a.chains x) 0 m.assigns u h in
      let found = of-some (λ (pair : ℕ × (BitView × BitView)). when (same_node (node_of x pair.1.0) (Inner n i x)) (From (AssignBit x u.0 pair.0) (node_of x pair.1.1))) z (numbered 0 (pairs u.1.left u.1.right)) g in
      let listed : IsIn found.0 (numbered 0 (map (λ (t : BitView × BitView). (renamed a.chains x t.0, renamed a.chains x t.1)) (pairs of.0.left of.0.right))) =
      subst (λ l. IsIn found.0 (numbered 0 l)) (ap (λ (t : AssignView). pairs t.left t.right) of.2 ∙ pairs-map (renamed a.chains x) of.0.left of.0.right) found.1 in
      let pair = numbered-map (λ (t : BitView × BitView). (renamed a.chains x t.0, renamed a.chains x t.1)) 0 (pairs of.0.left of.0.right) found.0 listed in
      let test = node-true (node_of x found.0.1.0) (Inner n i x) (of-when (same_node (node_of x found.0.1.0) (Inner n i x)) (From (AssignBit x u.0 found.0.0) (node_of x found.0.1.1)) z found.2) in
      let is_z = of-when-is (same_node (node_of x found.0.1.0) (Inner n i x)) (From (AssignBit x u.0 found.0.0) (node_of x found.0.1.1)) z found.2 in
      assigned n i u.0 found.0.0 of.0 pair.0 of.1 pair.1 z
      (sym (ap (λ (t : BitView × BitView). node_of x t.0) pair.2) ∙ test)
      (is_z ∙ ap (λ (t : BitView × BitView). From (AssignBit x u.0 found.0.0) (node_of x t.1)) pair.2)

pub assigns-give : AssignsGive
assigns-give p a w at from plain x m e n i z u h g = gives-assign p a w at from plain x m e n i z u h g

-- Net bits that outputs of module instances drive in the parent, and what the first operator there reads.
use Rattle.std.proofs.Common.{◌≡◌, ◌<◌, ℕ, zero, suc, true, false, List, [], ◌∷◌, ◌++◌, length, Option, Some, None, inl, inr, sym, ◌∙◌, ap, subst, arith}
use Rattle.std.specs.Prelude.{slice_get}
use Rattle.lp_model.specs.NetlistView.{BitView, PortView, InstanceView, ModuleView}
use Rattle.lp_spec_design.specs.Keys.{Name, Path, same_index, Node, Inner, Way, PortBit, AssignBit}
use Rattle.lp_spec_design.specs.Netlists.{Structure, module_at, node_of, indices, connected, is_input}
use Rattle.lp_spec_design.specs.Graph.{pairs}
use Rattle.lp_spec_design.specs.Winners.{IsIn}
use Rattle.lp_spec_bridge.proofs.Apart.{index-self}
use Rattle.lp_spec_faults.specs.Modules.{is_own}
use Rattle.lp_spec_realises.specs.Projects.{Project}
use Rattle.lp_spec_written.specs.Places.{Standing}
use Rattle.lp_spec_written.specs.Written.{Additions}
use Rattle.lp_spec_hub.specs.Spots.{Spot, OfNode, Before, on_way, is_behind}
use Rattle.lp_spec_wired.specs.Contents.{IsWrittenAt}
use Rattle.lp_spec_wired.specs.Names.{placement_by, node_at}
use Rattle.lp_spec_wired.specs.Laws.{StandsFor}
use Rattle.lp_spec_written_at.proofs.Paths.{source-by-names}
use Rattle.lp_spec_driven.specs.Sound.{IsProper, node_behind, behind_by}
use Rattle.lp_spec_driven.specs.Laws.{HasOutput}
use Rattle.lp_spec_driven.proofs.Come.{output-bits-stand, output-reads-stand}
use Rattle.lp_spec_driven.proofs.Edges.{path_of_way}
use Rattle.lp_spec_data_wires.proofs.Lists.{inner-name, instance-found, stood-is}
use Rattle.lp_spec_data_wires.proofs.Ports as ports

-- what is at a place in front of a list's end is in the front
in-front : {A : Type 0} (xs ys : List A) (l : ℕ) (z : A) → l < length xs → slice_get (xs ++ ys) l ≡ Some z → IsIn z xs
in-front [] ys l z h e = absurd (omega (arith, h))
in-front (x ∷ xs) ys zero z h e = let is : x ≡ z = cc in inl (sym is)
in-front (x ∷ xs) ys (suc l) z h e = inr (in-front xs ys l z (omega (arith, h)) e)

abbrev index_of_way : Way → Option ℕ
index_of_way (PortBit x n i) = i
index_of_way (AssignBit x j k) = None

module _ (p : Project) (a : Additions) (w : Structure) (from : Way → Node) (written : IsWrittenAt p a w) (proper : IsProper p a from)
    (x : Path) (m : ModuleView) (y : InstanceView) (r : PortView) (j : Option ℕ) (b : BitView) (has : HasOutput p x m y r j b) where
  abbrev s : Structure
  s = p.structure

  abbrev Stands : Spot → Type 0
  Stands k = StandsFor p a w (placement_by p a) from k

  abbrev c : Path
  c = y.name ∷ x

  abbrev way : Way
  way = PortBit c r.name j

  abbrev here : List Standing
  here = on_way a.plan.operators way

  below : module_at s c ≡ Some has.inner
  below = sym (source-by-names p proper.fit.free x m y has.at has.listed) ∙ has.target

  -- the way leads to the bit that the parent has there
  behind-is : (o : Standing) → IsIn o here → node_behind s o.asked.bit ≡ node_of x b
  behind-is o h =
      let on = ports.on-plan p a w from written proper way o h in
      let port : o.asked.bit.port ≡ r = ports.port-is p a w from written proper c has.inner below r has.port j o h in
      let path : o.asked.bit.path ≡ c = ap path_of_way on.1 in
      let index : j ≡ o.asked.bit.index = sym (ap index_of_way on.1) in
      let pair : IsIn (j, b) (pairs (indices o.asked.bit.port.range) (connected has.inner.ports o.asked.bit.port.name y.connections)) =
      subst (λ (q : PortView). IsIn (j, b) (pairs (indices q.range) (connected has.inner.ports q.name y.connections))) (sym port) has.pair in
      let found = stood-is s o.asked.bit y.name x path m has.at y (instance-found p proper.fit.free x m y has.at has.listed) has.inner has.target (j, b) pair (ap (same_index j) (sym index) ∙ index-self j) in
      ap (behind_by s o.asked.bit o.asked.bit.path) (ap is_input port ∙ has.output)
      ∙ (ap (λ u. behind_by s o.asked.bit u false) path
      ∙ ap (node_at x) found)

  pub output-node : (n : Name) (i : Option ℕ) → is_own n ≡ false → node_of x b ≡ Inner n i x → Stands (OfNode (Inner n i x))
  output-node n i free is =
      let name = inner-name p a n i x in
      ports.node-stands p a w from written proper way (Inner n i x) (λ o h. behind-is o h ∙ is)
      (λ none. output-bits-stand p a w from written proper x m y r j b has none n i free is name.0 name.1 name.2)

  pub output-reading : (k : ℕ) (o : Standing) → slice_get here k ≡ Some o → is_behind o ≡ true → Stands (Before way k)
  output-reading k o f side =
      ports.reading-stands p a w from written proper way k o f side
      (λ edged. output-reads-stand p a w from written proper x m y r j b has k o f side
      (λ l q h g. edged.front q (in-front edged.outer (o ∷ edged.inner) l q (less l h edged.long) (ap (λ zs. slice_get zs l) (sym edged.all) ∙ g))))
    where
      less : (l : ℕ) {n : ℕ} → l < k → n ≡ k → l < n
      less l h is = omega (arith, h, is)

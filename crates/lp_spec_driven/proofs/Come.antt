-- Net bits of a parent that outputs of its module instances drive.
use Rattle.std.proofs.Common.{◌≡◌, ◌⊎◌, ◌<◌, ◌≤◌, ℕ, zero, suc, true, false, List, [], ◌∷◌, ◌++◌, map, Option, Some, None, inl, inr, refl, ◌∙◌, ap, subst, arith}
use Rattle.std.specs.Prelude.{slice_get}
use Rattle.std.proofs.lemmas.Bool.{both_ways}
use Rattle.lp_model.specs.NetlistView.{BitView, PortView, InstanceView, ModuleView}
use Rattle.lp_spec_design.specs.Keys.{Name, Path, Node, Inner, Way, PortBit}
use Rattle.lp_spec_design.specs.Netlists.{Structure, node_of}
use Rattle.lp_spec_design.specs.Winners.{IsIn}
use Rattle.lp_spec_design.proofs.Members.{in-left, in-map}
use Rattle.lp_spec_faults.specs.Modules.{is_own}
use Rattle.lp_spec_realises.specs.Projects.{Project}
use Rattle.lp_spec_written.specs.Places.{instances, Standing}
use Rattle.lp_spec_written.specs.Written.{Additions, written_instance, written_operators, written_switches, written_instances, written_module}
use Rattle.lp_spec_hub.specs.Spots.{OfNode, Before, on_way, is_behind}
use Rattle.lp_spec_wired.specs.Contents.{IsInstance, HasContent, IsWrittenAt}
use Rattle.lp_spec_wired.specs.Names.{name_by, placement_by}
use Rattle.lp_spec_wired.specs.Laws.{StandsFor}
use Rattle.lp_spec_written_at.proofs.Modules.{in-instances}
use Rattle.lp_spec_driven.specs.Sound.{IsProper}
use Rattle.lp_spec_driven.specs.Laws.{HasOutput, OutputBitsStand, OutputReadsStand}
use Rattle.lp_spec_driven.proofs.Outputs as outputs
use Rattle.lp_spec_driven.proofs.Edges.{Edge, edge, edge-low}
use Rattle.lp_spec_driven.proofs.Have.{from-instance, instance-there}
use Rattle.lp_spec_driven.proofs.Stand.{driven-as-told}

less-or : (a b : ℕ) → a ≤ b → (a ≡ b) ⊎ (a < b)
less-or zero zero h = inl refl
less-or zero (suc b) h = inr (omega arith)
less-or (suc a) zero h = absurd (omega (arith, h))
less-or (suc a) (suc b) h = elim (less-or a b (omega (arith, h))) [ inl is ↦ inl (ap suc is) | inr s ↦ inr (omega (arith, s)) ]

get-below : {A : Type 0} (xs : List A) (k l : ℕ) (z : A) → slice_get xs l ≡ Some z → k ≤ l → (x : A) × (slice_get xs k ≡ Some x)
get-below [] k l z g h = absurd cc
get-below (x ∷ xs) zero l z g h = (x, refl)
get-below (x ∷ xs) (suc k) zero z g h = absurd (omega (arith, h))
get-below (x ∷ xs) (suc k) (suc l) z g h = get-below xs k l z g (omega (arith, h))

module _ (p : Project) (a : Additions) (w : Structure) (from : Way → Node) (written : IsWrittenAt p a w) (proper : IsProper p a from) (x : Path) (m : ModuleView) (y : InstanceView) (r : PortView) (j : Option ℕ) (b : BitView) (has : HasOutput p x m y r j b) where
  abbrev at_path : HasContent w x (written_module p a x m)
  at_path = written.modules x m has.at

  there : IsIn x (instances p)
  there = in-instances p a proper.fit.free proper.fit.listed x m has.at

  instance : (v : InstanceView) × IsIn v at_path.here.instances × IsInstance w x (written_instance p a x y) v
  instance = instance-there w x (written_instances p a x m) at_path.here.instances (written_instance p a x y) at_path.content.instances
      (in-left (written_instance p a x y) (map (written_instance p a x) m.instances) (written_operators p a x ++ written_switches p a x) (in-map (written_instance p a x) y m.instances has.listed))

  abbrev ops : List Standing
  ops = on_way a.plan.operators (PortBit (y.name ∷ x) r.name j)

  pub bits : ((o : Standing) → IsIn o ops → is_behind o ≡ false) → (n : Name) (i : Option ℕ) → is_own n ≡ false → node_of x b ≡ Inner n i x → (net : Name) (l : Option ℕ) → name_by p a (OfNode (Inner n i x)) ≡ Inner net l x → StandsFor p a w (placement_by p a) from (OfNode (Inner n i x))
  bits none n i free is_bit net l name =
      let made = outputs.plain-source p a w (placement_by p a) from written proper.names proper.plain proper.fit proper.on_ways proper.comes x m has.at there y instance.0 has.inner has.listed has.target instance.2 r has.port has.output j b has.pair none n i net l is_bit name in
      let source = from-instance w x net l at_path.here instance.0 made.0 at_path.is instance.1 made.1 in
      driven-as-told p a w from written proper (OfNode (Inner n i x)) free net l x name m has.at source.0 source.1

  abbrev the_edge : Edge is_behind ops
  the_edge = edge p a proper.names proper.on_ways (y.name ∷ x) has.inner (outputs.below p a w (placement_by p a) from written proper.names proper.plain proper.fit proper.on_ways proper.comes x m has.at there y instance.0 has.inner has.listed has.target instance.2) r (outputs.alone p a w (placement_by p a) from written proper.names proper.plain proper.fit proper.on_ways proper.comes x m has.at there y instance.0 has.inner has.listed has.target instance.2 r has.port has.output) has.output j

  abbrev at : ℕ
  at = the_edge.k

  stand-at : (o : Standing) (l : ℕ) → at ≡ l → slice_get ops l ≡ Some o → StandsFor p a w (placement_by p a) from (Before (PortBit (y.name ∷ x) r.name j) l)
  stand-at o l same g =
      let at_edge : slice_get ops at ≡ Some o = ap (slice_get ops) same ∙ g in
      let made = outputs.read-source p a w (placement_by p a) from written proper.names proper.plain proper.fit proper.on_ways proper.comes x m has.at there y instance.0 has.inner has.listed has.target instance.2 r has.port has.output j b has.pair o at_edge in
      let source = from-instance w x made.0 None at_path.here instance.0 made.2 at_path.is instance.1 made.3 in
      subst (λ q. StandsFor p a w (placement_by p a) from (Before (PortBit (y.name ∷ x) r.name j) q)) same
      (driven-as-told p a w from written proper (Before (PortBit (y.name ∷ x) r.name j) at) (record { operator = o; at = at_edge; side = the_edge.next o at_edge }) made.0 None x made.1 m has.at source.0 source.1)

  pub reads : (k : ℕ) (o : Standing) → slice_get ops k ≡ Some o → is_behind o ≡ true → ((l : ℕ) (q : Standing) → l < k → slice_get ops l ≡ Some q → is_behind q ≡ false) → StandsFor p a w (placement_by p a) from (Before (PortBit (y.name ∷ x) r.name j) k)
  reads k o f side front = by (less-or at k (edge-low is_behind ops the_edge k o f side))
    where
      by : (at ≡ k) ⊎ (at < k) → StandsFor p a w (placement_by p a) from (Before (PortBit (y.name ∷ x) r.name j) k)
      by (inl same) = stand-at o k same f
      by (inr less) =
          let here = get-below ops at k o f (omega (arith, less)) in
          absurd (both_ways (is_behind here.0) (front at here.0 less here.1) (the_edge.next here.0 here.1))

pub output-bits-stand : OutputBitsStand
output-bits-stand p a w from written proper x m y r j b has none n i free is_bit net l name = bits p a w from written proper x m y r j b has none n i free is_bit net l name

pub output-reads-stand : OutputReadsStand
output-reads-stand p a w from written proper x m y r j b has k o f side front = reads p a w from written proper x m y r j b has k o f side front

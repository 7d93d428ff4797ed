-- The wires that operators drive: their net bits are driven by the operators' outputs.
use Rattle.std.proofs.Common.{◌≡◌, ℕ, zero, suc, List, [], ◌∷◌, ◌++◌, map, Some, inl, inr, refl, sym, ◌∙◌, ap, subst}
use Rattle.std.specs.Prelude.{slice_get}
use Rattle.lp_model.specs.NetlistView.{InstanceView, ModuleView}
use Rattle.lp_spec_design.specs.Keys.{Name, Path, Node, Inner, Way, same_way, Source}
use Rattle.lp_spec_design.specs.Netlists.{Structure, module_at}
use Rattle.lp_spec_design.specs.Graph.{source_of}
use Rattle.lp_spec_design.specs.Domains.{way_of}
use Rattle.lp_spec_design.specs.Winners.{IsIn}
use Rattle.lp_spec_design.proofs.Members.{in-left, in-right, in-map, of-filter}
use Rattle.lp_spec_realises.specs.Projects.{Project}
use Rattle.lp_spec_written.specs.Places.{instances, Standing}
use Rattle.lp_spec_written.specs.Nets.{Linked, linked}
use Rattle.lp_spec_written.specs.Written.{Additions, written_instance, written_operator, written_operators, named_operators, written_switches, written_instances, written_module}
use Rattle.lp_spec_hub.specs.Spots.{Spot, OfNode, Behind, Before, on_way}
use Rattle.lp_spec_wired.specs.Contents.{IsInstance, HasContent, IsWrittenAt}
use Rattle.lp_spec_wired.specs.Names.{placement_by}
use Rattle.lp_spec_wired.specs.Laws.{StandsFor}
use Rattle.lp_spec_wired.proofs.Chains.{way-true}
use Rattle.lp_spec_written_at.proofs.Modules.{in-instances}
use Rattle.lp_spec_written_at.proofs.Instances.{instances-apart}
use Rattle.lp_spec_driven.specs.Sound.{IsProper, node_behind}
use Rattle.lp_spec_driven.specs.Laws.{OperatorStands, OperatorsStand}
use Rattle.lp_spec_driven.proofs.Linked.{IsLinked, written-for}
use Rattle.lp_spec_driven.proofs.Operators as operators
use Rattle.lp_spec_driven.proofs.Have.{from-instance, instance-there}
use Rattle.lp_spec_driven.proofs.Stand.{driven-as-told}

module _ (p : Project) (a : Additions) (w : Structure) (from : Way → Node) (written : IsWrittenAt p a w) (proper : IsProper p a from) (x : Path) (m : ModuleView) (e : module_at p.structure x ≡ Some m)
    (y : Name × Linked) (h : IsIn y (named_operators (linked p a.chains x))) (k : ℕ) (link : IsLinked p a x y (way_of y.1.0.asked.bit) k) where
  abbrev at_path : HasContent w x (written_module p a x m)
  at_path = written.modules x m e

  there : IsIn x (instances p)
  there = in-instances p a proper.fit.free proper.fit.listed x m e

  instance : (v : InstanceView) × IsIn v at_path.here.instances × IsInstance w x (written_operator p a x y) v
  instance = instance-there w x (written_instances p a x m) at_path.here.instances (written_operator p a x y) at_path.content.instances
      (in-right (written_operator p a x y) (map (written_instance p a x) m.instances) (written_operators p a x ++ written_switches p a x)
      (in-left (written_operator p a x y) (written_operators p a x) (written_switches p a x) (in-map (written_operator p a x) y (named_operators (linked p a.chains x)) h)))

  abbrev way : Way
  way = way_of y.1.0.asked.bit

  abbrev drives : operators.Drives p a w from written proper.names proper.fit proper.on_ways x m e there y h instance.0 instance.2 k link
  drives = operators.it-drives p a w from written proper.names proper.fit proper.on_ways x m e there y h instance.0 instance.2 k link

  source : (z : Source) × (source_of w (Inner drives.net drives.index x) ≡ Some z)
  source = from-instance w x drives.net drives.index at_path.here instance.0 _ at_path.is instance.1 (operators.drives-source p a w from written proper.names proper.fit proper.on_ways x m e there y h instance.0 instance.2 k link drives)

  told : (wire : Spot) → operators.Given p a w from written proper.names proper.fit proper.on_ways x m e there y h instance.0 instance.2 k link drives.net drives.index wire → StandsFor p a w (placement_by p a) from wire
  told wire given = subst (StandsFor p a w (placement_by p a) from) given.1 (driven-as-told p a w from written proper given.0.wire given.0.there drives.net drives.index x given.0.name m e source.0 source.1)

  pub stands : OperatorStands p a w from way k y.1.0
  stands = record {
    before = λ side. told (Behind way k) (operators.drives-behind p a w from written proper.names proper.fit proper.on_ways x m e there y h instance.0 instance.2 k link drives side);
    behind = λ next side f. told (Before way (suc k)) (operators.drives-next p a w from written proper.names proper.fit proper.on_ways x m e there y h instance.0 instance.2 k link drives side next f);
    last = λ side f. told (OfNode (node_behind p.structure y.1.0.asked.bit)) (operators.drives-last p a w from written proper.names proper.fit proper.on_ways x m e there y h instance.0 instance.2 k link drives side f);
  }

slice-in : {A : Type 0} (xs : List A) (k : ℕ) (z : A) → slice_get xs k ≡ Some z → IsIn z xs
slice-in [] k z g = absurd cc
slice-in (v ∷ xs) zero z g = let is : v ≡ z = cc in inl (sym is)
slice-in (v ∷ xs) (suc k) z g = inr (slice-in xs k z g)

pub operators-stand : OperatorsStand
operators-stand p a w from written proper way k o at m e =
    let there = in-instances p a proper.fit.free proper.fit.listed o.path m e in
    let found = written-for p a proper.names.chains proper.names.stand proper.names.bits (instances-apart p.structure proper.fit.free.apart) proper.names.ways o.path there way k o at refl in
    let on = of-filter (λ (r : Standing). same_way (way_of r.asked.bit) way) o a.plan.operators (slice-in (on_way a.plan.operators way) k o at) in
    let is_way : way_of found.0.1.0.asked.bit ≡ way = ap (λ (r : Standing). way_of r.asked.bit) found.2 ∙ way-true (way_of o.asked.bit) way on.1 in
    let result = stands p a w from written proper o.path m e found.0 found.1 k (subst (λ v. IsLinked p a o.path found.0 v k) (sym is_way) found.3) in
    subst (OperatorStands p a w from way k) found.2 (subst (λ v. OperatorStands p a w from v k found.0.1.0) is_way result)

-- The net bit of a net bit of the source, the instances of a module by their names, and what the parent has at a boundary bit.
use Rattle.std.proofs.Common.{◌≡◌, ℕ, zero, suc, true, List, [], ◌∷◌, map, Option, Some, None, refl, sym, ◌∙◌, ap, subst}
use Rattle.std.specs.Prelude.{slice_get, option_and_then, unwrap_or}
use Rattle.lp_model.specs.NetlistView.{BitView, PortView, NetView, InstanceView, ModuleView}
use Rattle.lp_spec_design.specs.Keys.{Name, Path, Inner, same_index}
use Rattle.lp_spec_design.specs.Netlists.{Structure, first, module_named, instance_named, module_at, indices, node_of, connected}
use Rattle.lp_spec_design.specs.Graph.{pairs, when}
use Rattle.lp_spec_design.specs.Domains.{BoundaryBit}
use Rattle.lp_spec_design.specs.Reads.{other}
use Rattle.lp_spec_design.specs.Winners.{IsIn}
use Rattle.lp_spec_design.proofs.Sources.{then_is}
use Rattle.lp_spec_realises.specs.Projects.{Project}
use Rattle.lp_spec_realises.specs.ProjectNetlists.{are_apart, names_in}
use Rattle.lp_spec_realises.specs.Implements.{parent_of}
use Rattle.lp_spec_realises.specs.Tops.{ports_of}
use Rattle.lp_spec_written.specs.Nets.{Stretch, bit_of, or_near, is_own, connected_at, stood_at, stood}
use Rattle.lp_spec_written.specs.Written.{Additions}
use Rattle.lp_spec_hub.specs.Spots.{OfNode}
use Rattle.lp_spec_wired.specs.Names.{name_by}
use Rattle.lp_spec_wired.proofs.Kept.{own-node}
use Rattle.lp_spec_written_at.specs.Sources.{IsFree}
use Rattle.lp_spec_written_at.proofs.Lists.{of-all, in-some, apart-right, first-apart}
use Rattle.lp_spec_written_at.proofs.Modules.{from-modules}
use Rattle.lp_spec_driven.proofs.Sources.{only-one}
use Rattle.lp_spec_driven.proofs.Short.{stood-short}

-- the one before
pub before : {A : Type 0} (xs : List A) (k : ℕ) (x : A) → slice_get xs (suc k) ≡ Some x → (u : A) × (slice_get xs k ≡ Some u)
before [] k x e = absurd cc
before (y ∷ xs) zero x e = (y, refl)
before (y ∷ xs) (suc k) x e = before xs k x e

-- ---- names

-- a net bit of the source has one of its instance
pub inner-name : (p : Project) (a : Additions) (n : Name) (i : Option ℕ) (x : Path) → (net : Name) × (l : Option ℕ) × (name_by p a (OfNode (Inner n i x)) ≡ Inner net l x)
inner-name p a n i x = by (first (is_own x (bit_of n i)) a.chains)
  where
    by : (o : Option Stretch) → (net : Name) × (l : Option ℕ) × (node_of x (or_near (bit_of n i) o) ≡ Inner net l x)
    by None = (n, i, own-node n i x)
    by (Some s) = (_, None, refl)

-- ---- modules and instances

-- the parent of an instance has a module too
pub module-above : (s : Structure) (x : Path) (m : ModuleView) → module_at s x ≡ Some m → (k : ModuleView) × (module_at s (parent_of x) ≡ Some k)
module-above s [] m e = (m, e)
module-above s (i ∷ x) m e = let above = then_is (λ (k : ModuleView). option_and_then (λ (y : InstanceView). module_named s y.target) (instance_named k i)) (module_at s x) m e in (above.0, above.1)

pub instance-found : (p : Project) → IsFree p → (x : Path) (m : ModuleView) (y : InstanceView) → module_at p.structure x ≡ Some m → IsIn y m.instances → instance_named m y.name ≡ Some y
instance-found p f x m y e h =
    let names : are_apart (names_in m) ≡ true = of-all (λ (k : ModuleView). are_apart (names_in k)) m p.structure.modules (other (are_apart (map (λ (k : ModuleView). k.name) p.structure.modules)) _ f.apart) (from-modules p.structure x m e) in
    first-apart m.instances y (apart-right (map (λ (n : NetView). n.name) m.nets) _ (apart-right (map (λ (q : PortView). q.name) m.ports) _ names)) h

-- ---- what the parent has at a boundary bit

module _ (s : Structure) (b : BoundaryBit) (inst : Name) (up : Path) (path : b.path ≡ inst ∷ up) (m : ModuleView) (e : module_at s up ≡ Some m) (y : InstanceView) (found : instance_named m inst ≡ Some y)
    (inner : ModuleView) (target : module_named s y.target ≡ Some inner) (two : Option ℕ × BitView) (pair : IsIn two (pairs (indices b.port.range) (connected inner.ports b.port.name y.connections))) (index : same_index two.0 b.index ≡ true) where
  stood-connected : stood s b ≡ connected_at s b y
  stood-connected =
      ap (stood_at s b) path
      ∙ (ap (λ o. unwrap_or (option_and_then (λ (k : ModuleView). option_and_then (λ (z : InstanceView). Some (connected_at s b z)) (instance_named k inst)) o) []) e
      ∙ ap (λ o. unwrap_or (option_and_then (λ (z : InstanceView). Some (connected_at s b z)) o) []) found)

  pub stood-in : IsIn two.1 (stood s b)
  stood-in =
      subst (λ l. IsIn two.1 l) (sym stood-connected)
      (in-some (λ (x : Option ℕ × BitView). when (same_index x.0 b.index) x.1) two two.1 (pairs (indices b.port.range) (connected (ports_of (module_named s y.target)) b.port.name y.connections))
      (subst (λ l. IsIn two l) (sym (ap (λ o. pairs (indices b.port.range) (connected (ports_of o) b.port.name y.connections)) target)) pair)
      (ap (λ t. when t two.1) index))

  pub stood-is : stood s b ≡ two.1 ∷ []
  stood-is = only-one (stood s b) two.1 (stood-short s b) stood-in

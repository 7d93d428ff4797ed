-- What each law of this crate uses of a source without faults: its instances are listed, its net bits that are declared or driven have free names, and names are apart.
use Rattle.std.proofs.Common.{◌≡◌, ◌⊎◌, ℕ, true, false, List, [], ◌∷◌, map, Option, Some, None, inl, inr, refl, sym, ap, ◌∙◌, subst}
use Rattle.std.specs.Prelude.{flat_map, is_some, option_and_then}
use Rattle.lp_model.specs.NetlistView.{BitView, NetBit, SelectBit, ConstBit, PortView, NetView, InstanceView, ModuleView}
use Rattle.lp_spec_design.specs.Keys.{Name, Path, Node, Inner, Outer, Fixed, Source}
use Rattle.lp_spec_design.specs.Netlists.{Structure, module_at, module_named, instance_named, indices}
use Rattle.lp_spec_design.specs.Instances.{module_instances}
use Rattle.lp_spec_design.specs.Graph.{source_of}
use Rattle.lp_spec_design.specs.Nodes.{nodes_in, inner_nodes, outer_in, nodes_of, IsDeclared, DeclaresBits}
use Rattle.lp_spec_design.specs.Winners.{IsIn}
use Rattle.lp_spec_design.proofs.Members.{in-either, of-flat, of-map}
use Rattle.lp_spec_design.proofs.Sources.{sources_known, then_is}
use Rattle.lp_spec_realises.specs.Projects.{Project}
use Rattle.lp_spec_realises.specs.Implements.{Lists}
use Rattle.lp_spec_faults.specs.Modules.{is_own}
use Rattle.lp_spec_faultless.specs.Faults.{IsRead}
use Rattle.lp_spec_faultless.proofs.Whole.{declares}
use Rattle.lp_spec_written.specs.Places.{instances}
use Rattle.lp_spec_written.specs.Written.{additions}
use Rattle.lp_spec_wired.specs.Laws.{IsFreeBit}
use Rattle.lp_spec_written_at.specs.Sources.{IsFree}
use Rattle.lp_spec_written_at.proofs.Modules.{from-modules, free-port, free-net, in-instances, cells-listed}
use Rattle.lp_spec_driven.specs.Wires.{IsFreeNode}
use Rattle.lp_spec_proper.specs.Insertable.{IsInsertable, IsWithinLimits}
use Rattle.lp_spec_proper.proofs.Free.{free}

-- ---- lists

pub some-is : {A : Type 0} (o : Option A) → is_some o ≡ true → (x : A) × (o ≡ Some x)
some-is (Some x) e = (x, refl)
some-is None e = let wrong : false ≡ true = e in absurd cc

-- ---- nodes

abbrev pub PortBits : Path → ModuleView → List Node
PortBits x m = flat_map (λ (q : PortView). map (λ i. Inner q.name i x) (indices q.range)) m.ports

abbrev pub NetBits : Path → ModuleView → List Node
NetBits x m = flat_map (λ (q : NetView). map (λ i. Inner q.name i x) (indices q.range)) m.nets

inner-name : (n m : Name) (i j : Option ℕ) (x y : Path) → Inner n i x ≡ Inner m j y → (n ≡ m) × (x ≡ y)
inner-name n m i j x y e = (cc, cc)

-- a bit of an instance's module is that of a port or of a net
of-nodes : (x y : Path) (m : ModuleView) (n : Name) (i : Option ℕ) → IsIn (Inner n i y) (nodes_in x (Some m))
    → ((q : PortView) × IsIn q m.ports × (n ≡ q.name) × (y ≡ x)) ⊎ ((q : NetView) × IsIn q m.nets × (n ≡ q.name) × (y ≡ x))
of-nodes x y m n i h = elim (in-either (Inner n i y) (PortBits x m) (NetBits x m) h) [
  | inl l ↦
      let q = of-flat (λ (q : PortView). map (λ j. Inner q.name j x) (indices q.range)) (Inner n i y) m.ports l in
      let bit = of-map (λ j. Inner q.0.name j x) (Inner n i y) (indices q.0.range) q.2 in
      let is = inner-name n q.0.name i bit.0 y x bit.2 in
      inl (q.0, q.1, is.0, is.1)
  | inr r ↦
      let q = of-flat (λ (q : NetView). map (λ j. Inner q.name j x) (indices q.range)) (Inner n i y) m.nets r in
      let bit = of-map (λ j. Inner q.0.name j x) (Inner n i y) (indices q.0.range) q.2 in
      let is = inner-name n q.0.name i bit.0 y x bit.2 in
      inr (q.0, q.1, is.0, is.1)
]

not-outer : (n : Name) (i : Option ℕ) (x : Path) (o : Option ModuleView) → IsIn (Inner n i x) (outer_in o) → ⊥
not-outer n i x None h = h
not-outer n i x (Some m) h =
    let port = of-flat (λ (q : PortView). map (λ j. Outer q.name j) (indices q.range)) (Inner n i x) m.ports h in
    let bit = of-map (λ j. Outer port.0.name j) (Inner n i x) (indices port.0.range) port.2 in
    let is : Inner n i x ≡ Outer port.0.name bit.0 = bit.2 in
    absurd cc

pub inner-of : (s : Structure) (n : Name) (i : Option ℕ) (x : Path) → IsIn (Inner n i x) (nodes_of s) → IsIn (Inner n i x) (inner_nodes s)
inner-of s n i x h = elim (in-either (Inner n i x) (inner_nodes s) (outer_in (module_at s [])) h) [ inl l ↦ l | inr r ↦ absurd (not-outer n i x (module_at s []) r) ]

-- a net bit stands in an instance whose module has it
pub record HasBit (s : Structure) (n : Name) (i : Option ℕ) (x : Path) : Type 0 where
  pub owner : ModuleView
  pub at : module_at s x ≡ Some owner
  pub listed : IsIn (Inner n i x) (nodes_in x (Some owner))

pub of-inner : (s : Structure) (n : Name) (i : Option ℕ) (x : Path) → IsIn (Inner n i x) (inner_nodes s) → HasBit s n i x
unfolding inner_nodes
of-inner s n i x h =
    let y = of-flat (λ path. nodes_in path (module_at s path)) (Inner n i x) (module_instances s) h in
    by y.0 (module_at s y.0) refl y.2
  where
    by : (y : Path) (o : Option ModuleView) → module_at s y ≡ o → IsIn (Inner n i x) (nodes_in y o) → HasBit s n i x
    by y None e g = absurd g
    by y (Some m) e g =
        let same : x ≡ y = elim (of-nodes y x m n i g) [ inl q ↦ q.3 | inr q ↦ q.3 ] in
        record { owner = m; at = ap (module_at s) same ∙ e; listed = subst (λ z. IsIn (Inner n i x) (nodes_in z (Some m))) (sym same) g }

-- ---- the source

pub parent-at : (s : Structure) (i : Name) (x : Path) (m : ModuleView) → module_at s (i ∷ x) ≡ Some m → (k : ModuleView) × (module_at s x ≡ Some k)
parent-at s i x m e = let above = then_is (λ (k : ModuleView). option_and_then (λ (z : InstanceView). module_named s z.target) (instance_named k i)) (module_at s x) m e in (above.0, above.1)

module _ (p : Project) (l : Lists) (switch_command : ℕ → ℕ) (read : IsRead p) (good : IsInsertable p l switch_command) (within : IsWithinLimits p l) where
  abbrev s : Structure
  s = p.structure

  pub is-free : IsFree p
  is-free = free p l switch_command read good within

  pub bits : DeclaresBits s
  bits = declares p switch_command read good.values

  pub inside : (x : Path) (m : ModuleView) → module_at s x ≡ Some m → IsIn x (instances p)
  inside x m e = in-instances p (additions p l) is-free (cells-listed p l) x m e

  pub inside-some : (x : Path) → is_some (module_at s x) ≡ true → IsIn x (instances p)
  inside-some x e = let m = some-is (module_at s x) e in inside x m.0 m.1

  pub free-in : (x : Path) (m : ModuleView) (n : Name) (i : Option ℕ) → module_at s x ≡ Some m → IsIn (Inner n i x) (nodes_in x (Some m)) → is_own n ≡ false
  free-in x m n i e h = elim (of-nodes x x m n i h) [
    | inl q ↦ ap is_own q.2 ∙ free-port p is-free m q.0 (from-modules s x m e) q.1
    | inr q ↦ ap is_own q.2 ∙ free-net p is-free m q.0 (from-modules s x m e) q.1
  ]

  pub free-bit : (x : Path) (m : ModuleView) (b : BitView) → module_at s x ≡ Some m → IsDeclared x m b → IsFreeBit b
  free-bit x m (NetBit n) e h = free-in x m n None e h
  free-bit x m (SelectBit n i) e h = free-in x m n (Some i) e h
  free-bit x m (ConstBit c) e h = tt

  -- what is driven has a free name
  pub free-node : (k : Node) (y : Source) → source_of s k ≡ Some y → IsFreeNode k
  free-node (Inner n i x) y e =
      let has = of-inner s n i x (inner-of s n i x (sources_known s bits (Inner n i x) y e)) in
      free-in x has.owner n i has.at has.listed
  free-node (Outer n i) y e = tt
  free-node (Fixed b) y e = tt

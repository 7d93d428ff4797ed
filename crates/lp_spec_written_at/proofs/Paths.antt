-- A netlist that has the written content at each path has the module instances of the source.
use Rattle.std.proofs.Common.{◌≡◌, ◌⊎◌, ◌<◌, ℕ, zero, suc, Bool, true, ◌&&◌, List, [], ◌∷◌, length, map, Option, Some, None, inl, inr, refl, sym, ap, ◌∙◌, subst}
use Rattle.std.specs.Prelude.{filter, option_and_then, is_some, IsTrue}
use Rattle.std.specs.List.{list_all}
use Rattle.std.proofs.lemmas.Bool.{false≢true}
use Rattle.std.proofs.lemmas.Bool.Decides.{leb_tells}
use Rattle.lp_model.specs.NetlistView.{PortView, NetView, InstanceView, ModuleView}
use Rattle.lp_spec_design.specs.Keys.{Path, same_path}
use Rattle.lp_spec_design.specs.Netlists.{Structure, module_named, instance_named, module_at}
use Rattle.lp_spec_design.specs.Instances.{children_in, children, below, module_instances}
use Rattle.lp_spec_design.specs.Winners.{IsIn}
use Rattle.lp_spec_design.specs.Reads.{other, path-self}
use Rattle.lp_spec_design.proofs.Members.{any-in, of-map, of-flat, of-filter}
use Rattle.lp_spec_design.proofs.Sources.{in_reach}
use Rattle.lp_spec_realises.specs.Projects.{Project}
use Rattle.lp_spec_realises.specs.ProjectNetlists.{are_apart, names_in}
use Rattle.lp_spec_realises.specs.Realises.{has_path, same_paths}
use Rattle.lp_spec_written.specs.Written.{Additions, written_module}
use Rattle.lp_spec_wired.specs.Contents.{IsInstance, AreInstances, IsContent, IsWrittenAt}
use Rattle.lp_spec_written_at.specs.Sources.{IsFree}
use Rattle.lp_spec_written_at.proofs.Lists.{of-all, apart-right, first-apart, all-of}
use Rattle.lp_spec_written_at.proofs.Modules.{from-modules}

-- the target of an instance is the module of its path
abbrev pub GoesByNames : Structure → Type 0
GoesByNames t = (x : Path) (m : ModuleView) (y : InstanceView) → module_at t x ≡ Some m → IsIn y m.instances → module_named t y.target ≡ module_at t (y.name ∷ x)

-- a module instance has a module
module _ (t : Structure) (names : GoesByNames t) where
  of-child : (q c : Path) → IsIn c (children t q) → is_some (module_at t c) ≡ true
  of-child q c h = by (module_at t q) refl h
    where
      by : (o : Option ModuleView) → module_at t q ≡ o → IsIn c (children_in t q o) → is_some (module_at t c) ≡ true
      by None e g = absurd g
      by (Some m) e g =
          let one = of-map (λ (y : InstanceView). y.name ∷ q) c (filter (λ (y : InstanceView). is_some (module_named t y.target)) m.instances) g in
          let kept = of-filter (λ (y : InstanceView). is_some (module_named t y.target)) one.0 m.instances one.1 in
          ap (λ z. is_some (module_at t z)) one.2 ∙ (ap is_some (sym (names q m one.0 e kept.0)) ∙ kept.1)

  pub of-below : (depth : ℕ) (q x : Path) → IsIn x (below t depth q) → (x ≡ q) ⊎ (is_some (module_at t x) ≡ true)
  of-below zero q x h = absurd h
  of-below (suc depth) q x h = elim h [
    | inl is ↦ inl is
    | inr r ↦ let at = of-flat (below t depth) x (children t q) r in
        elim (of-below depth at.0 x at.2) [ inl is ↦ inr (ap (λ z. is_some (module_at t z)) is ∙ of-child q at.0 at.1) | inr some ↦ inr some ]
  ]

pub source-by-names : (p : Project) → IsFree p → GoesByNames p.structure
source-by-names p f x m y e h =
    let names : are_apart (names_in m) ≡ true = of-all (λ (k : ModuleView). are_apart (names_in k)) m p.structure.modules (other (are_apart (map (λ (k : ModuleView). k.name) p.structure.modules)) _ f.apart) (from-modules p.structure x m e) in
    let apart : are_apart (map (λ (i : InstanceView). i.name) m.instances) ≡ true = apart-right (map (λ (n : NetView). n.name) m.nets) _ (apart-right (map (λ (q : PortView). q.name) m.ports) _ names) in
    sym (ap (λ o. option_and_then (λ (k : ModuleView). option_and_then (λ (z : InstanceView). module_named p.structure z.target) (instance_named k y.name)) o) e
    ∙ ap (λ o. option_and_then (λ (z : InstanceView). module_named p.structure z.target) o) (first-apart m.instances y apart h))

-- an instance of a netlist is that of the written content
pub record Instanced (w : Structure) (x : Path) (ys : List InstanceView) (here : InstanceView) : Type 0 where
  pub written : InstanceView
  pub among : IsIn written ys
  pub is : IsInstance w x written here

pub of-instances : (w : Structure) (x : Path) (ys hs : List InstanceView) → AreInstances w x ys hs → (h : InstanceView) → IsIn h hs → Instanced w x ys h
of-instances w x [] [] all h g = absurd g
of-instances w x [] (k ∷ hs) all h g = absurd all
of-instances w x (y ∷ ys) [] all h g = absurd g
of-instances w x (y ∷ ys) (k ∷ hs) all h (inl is) = record { written = y; among = inl refl; is = subst (λ z. IsInstance w x y z) (sym is) all.0 }
of-instances w x (y ∷ ys) (k ∷ hs) all h (inr r) = let rest = of-instances w x ys hs all.1 h r in record { written = rest.written; among = inr rest.among; is = rest.is }

pub some-is : {A : Type 0} (o : Option A) → is_some o ≡ true → (a : A) × (o ≡ Some a)
some-is None e = absurd (false≢true e)
some-is (Some a) e = (a, refl)

module _ (p : Project) (a : Additions) (w : Structure) (f : IsFree p) (is : IsWrittenAt p a w) where
  abbrev s : Structure
  s = p.structure

  -- the module of the source at a path of the netlist
  pub source-at : (x : Path) (h : ModuleView) → module_at w x ≡ Some h → (m : ModuleView) × (module_at s x ≡ Some m) × IsContent w x (written_module p a x m) h
  source-at x h e = by (module_at s x) refl
    where
      by : (o : Option ModuleView) → module_at s x ≡ o → (m : ModuleView) × (module_at s x ≡ Some m) × IsContent w x (written_module p a x m) h
      by None g = let none : None ≡ Some h = sym (is.none x g) ∙ e in absurd cc
      by (Some m) g =
          let at = is.modules x m g in
          let both : Some at.here ≡ Some h = sym at.is ∙ e in
          let same : at.here ≡ h = cc in
          (m, g, subst (λ z. IsContent w x (written_module p a x m) z) same at.content)

  pub by-names : GoesByNames w
  by-names x h y e g =
      let of = source-at x h e in
      let one = of-instances w x (written_module p a x of.0).instances h.instances of.2.instances y g in
      one.is.inner ∙ ap (λ n. module_at w (n ∷ x)) (sym one.is.name)

  pub short : (x : Path) (m : ModuleView) → module_at s x ≡ Some m → length x < 64
  short x m e = elim (leb_tells 64 (length x)) [
    | inl h ↦ let none : None ≡ Some m = sym (f.shallow x h.1) ∙ e in absurd cc
    | inr h ↦ h.1
  ]

  there : (x : Path) → IsIn x (module_instances s) → IsIn x (module_instances w)
  unfolding module_instances
  there x h = elim (of-below s (source-by-names p f) 64 [] x h) [
    | inl top ↦ inl top
    | inr some ↦ let m = some-is (module_at s x) some in let at = is.modules x m.0 m.1 in in_reach w 64 x at.here at.is (short x m.0 m.1)
  ]

  back : (x : Path) → IsIn x (module_instances w) → IsIn x (module_instances s)
  unfolding module_instances
  back x h = elim (of-below w by-names 64 [] x h) [
    | inl top ↦ inl top
    | inr some ↦ let m = some-is (module_at w x) some in let of = source-at x m.0 m.1 in in_reach s 64 x of.0 of.1 (short x of.0 of.1)
  ]

  pub paths-are : same_paths s w ≡ true
  paths-are = ap (λ b. both b (list_all (has_path (module_instances s)) (module_instances w))) (all-of (has_path (module_instances w)) (module_instances s) (λ x h. any-in (same_path x) x (module_instances w) (there x h) (path-self x)))
      ∙ all-of (has_path (module_instances s)) (module_instances w) (λ x h. any-in (same_path x) x (module_instances s) (back x h) (path-self x))
    where
      both : Bool → Bool → Bool
      both b c = b && c

pub same-module-paths : (p : Project) (a : Additions) (w : Structure) → IsFree p → IsWrittenAt p a w → IsTrue (same_paths p.structure w)
same-module-paths p a w f is = paths-are p a w f is

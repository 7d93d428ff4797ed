-- Where modules of equal content are written once, each path has the first module of the content that it had.
use Rattle.std.proofs.Common.{◌≡◌, Bool, true, false, not, List, [], ◌∷◌, map, Option, Some, None, inl, refl, sym, ap, ◌∙◌, subst}
use Rattle.std.specs.Prelude.{bytes_eq, filter, is_some, option_and_then, cond, if◌then◌else◌}
use Rattle.std.specs.List.{list_any}
use Rattle.std.proofs.lemmas.Bool.{false≢true}
use Rattle.lp_model.specs.NetlistView.{InstanceView, ModuleView}
use Rattle.lp_spec_design.specs.Keys.{Name, Path}
use Rattle.lp_spec_design.specs.Netlists.{Structure, first, module_named, instance_named, is_instantiated, top_of, module_at}
use Rattle.lp_spec_design.specs.Winners.{IsIn}
use Rattle.lp_spec_design.specs.Reads.{one, other, name-true, name-self}
use Rattle.lp_spec_design.proofs.Members.{in-map, of-map, of-filter, any-in}
use Rattle.lp_spec_design.proofs.Sources.{first_in}
use Rattle.lp_spec_realises.specs.Projects.{Project}
use Rattle.lp_spec_realises.specs.ProjectNetlists.{netlist_of}
use Rattle.lp_spec_written.specs.Shared.{same_list, named, same_found, same_target, same_instance, same_content, first_of_content, is_named_as, is_first, or_name, shared_name, shared_module, shared}
use Rattle.lp_spec_written.specs.Written.{Additions, written_module}
use Rattle.lp_spec_wired.specs.Contents.{IsInstance, AreInstances, IsWrittenAt}
use Rattle.lp_spec_written_at.specs.Sources.{IsReached}
use Rattle.lp_spec_written_at.proofs.Lists.{none-first, some-first, first-made, none-made, none-any}
use Rattle.lp_spec_written_at.proofs.Modules.{from-modules}
use Rattle.lp_spec_written_at.proofs.Paths.{some-is}
use Rattle.lp_spec_written_at.proofs.SourceCells.{in-filter}
use Rattle.lp_spec_written_at.proofs.Wiring.{first-agree}
use Rattle.lp_spec_written_at.proofs.Weave.{names-apart, key-tells}
use Rattle.lp_spec_shared.specs.Sharing.{CanBeShared}
use Rattle.lp_spec_shared.proofs.Parts.{alike, HaveOneContent, content-parts}
use Rattle.lp_spec_shared.proofs.Equivalent.{content-equivalence}
use Rattle.lp_spec_shared.proofs.Depths.{content-more, not-as-top}

some-same : {A : Type 0} (a b : A) → Some a ≡ Some b → a ≡ b
some-same a b e = cc

-- two tests that follow from each other agree
agree : (a b : Bool) → (a ≡ true → b ≡ true) → (b ≡ true → a ≡ true) → a ≡ b
agree true b f g = sym (f refl)
agree false true f g = g refl
agree false false f g = refl

any-holds : {A : Type 0} (t : A → Bool) (xs : List A) (x : A) → IsIn x xs → t x ≡ true → list_any t xs ≡ true
any-holds t xs x h e = any-in t x xs h e

abbrev name_of : ModuleView → Name
name_of m = m.name

module _ (p : Project) (modules : List ModuleView) (can : CanBeShared p modules) where
  abbrev w : Structure
  w = netlist_of p modules

  abbrev v : Structure
  v = netlist_of p (shared modules)

  -- ---- the first of a content

  abbrev of_content : ModuleView → Option ModuleView
  of_content m = first_of_content modules m

  has-first : (m : ModuleView) → IsIn m modules → (j : ModuleView) × (of_content m ≡ Some j)
  has-first m h = some-is (of_content m) (some-first (λ (k : ModuleView). same_content modules 64 k m) m modules h ((content-equivalence modules 64).same m (can.within m h)))

  first-is : (m j : ModuleView) → of_content m ≡ Some j → IsIn j modules × (same_content modules 64 j m ≡ true)
  first-is m j e = first_in (λ (k : ModuleView). same_content modules 64 k m) modules j e

  class-same : (a b : ModuleView) → same_content modules 64 a b ≡ true → of_content a ≡ of_content b
  class-same a b e =
      first-agree (λ (k : ModuleView). same_content modules 64 k a) (λ (k : ModuleView). same_content modules 64 k b) modules
      (λ k h. agree (same_content modules 64 k a) (same_content modules 64 k b)
      (λ g. (content-equivalence modules 64).joined k a b g e)
      (λ g. (content-equivalence modules 64).joined k b a g ((content-equivalence modules 64).turned a b e)))

  first-of-first : (m j : ModuleView) → of_content m ≡ Some j → of_content j ≡ Some j
  first-of-first m j e = class-same j m (first-is m j e).1 ∙ e

  one-name : (a b : ModuleView) → IsIn a modules → IsIn b modules → a.name ≡ b.name → a ≡ b
  one-name a b h g e = key-tells name_of modules (names-apart (map name_of modules) can.apart) a b h g e

  -- ---- modules of the shared netlist

  pub is-shared : (k : ModuleView) → IsIn k (shared modules) → (j : ModuleView) × IsIn j modules × (of_content j ≡ Some j) × (k ≡ shared_module modules j)
  is-shared k h =
      let one = of-map (shared_module modules) k (filter (is_first modules) modules) h in
      let kept = of-filter (is_first modules) one.0 modules one.1 in
      let j = has-first one.0 kept.0 in
      let name : j.0.name ≡ one.0.name = name-true j.0.name one.0.name (ap (is_named_as one.0) (sym j.1) ∙ kept.1) in
      (one.0, kept.0, j.1 ∙ ap (λ z. Some z) (one-name j.0 one.0 (first-is one.0 j.0 j.1).0 kept.0 name), one.2)

  shared-in : (j : ModuleView) → IsIn j modules → of_content j ≡ Some j → IsIn (shared_module modules j) (shared modules)
  shared-in j h e =
      in-map (shared_module modules) j (filter (is_first modules) modules)
      (in-filter (is_first modules) modules j h (ap (is_named_as j) e ∙ name-self j.name))

  -- by its name
  named-shared : (j : ModuleView) → IsIn j modules → of_content j ≡ Some j → module_named v j.name ≡ Some (shared_module modules j)
  named-shared j h e =
      let found = some-is (module_named v j.name) (some-first (λ (k : ModuleView). bytes_eq k.name j.name) (shared_module modules j) (shared modules) (shared-in j h e) (name-self j.name)) in
      let at = first_in (λ (k : ModuleView). bytes_eq k.name j.name) (shared modules) found.0 found.1 in
      let from = is-shared found.0 at.0 in
      let name : from.0.name ≡ j.name = ap name_of (sym from.3) ∙ name-true found.0.name j.name at.1 in
      found.1 ∙ ap (λ z. Some z) (from.3 ∙ ap (shared_module modules) (one-name from.0 j from.1 h name))

  none-shared : (n : Name) → named modules n ≡ None → module_named v n ≡ None
  none-shared n e = none-first (λ (k : ModuleView). bytes_eq k.name n) (shared modules) none
    where
      none : (k : ModuleView) → IsIn k (shared modules) → bytes_eq k.name n ≡ false
      none k h = let from = is-shared k h in by from.0 from.1 (ap name_of from.3) (bytes_eq k.name n) refl
        where
          by : (j : ModuleView) → IsIn j modules → k.name ≡ j.name → (b : Bool) → bytes_eq k.name n ≡ b → b ≡ false
          by j g same false f = refl
          by j g same true f =
              let some = some-first (λ (z : ModuleView). bytes_eq z.name n) j modules g (ap (λ z. bytes_eq z n) (sym same) ∙ f) in
              absurd (false≢true (sym (ap is_some e) ∙ some))

  -- what a module becomes
  abbrev pub becomes : Option ModuleView → Option ModuleView
  becomes o = option_and_then (λ m. option_and_then (λ j. Some (shared_module modules j)) (of_content m)) o

  becomes-some : (m j : ModuleView) → of_content m ≡ Some j → becomes (Some m) ≡ Some (shared_module modules j)
  becomes-some m j e = ap (λ o. option_and_then (λ k. Some (shared_module modules k)) o) e

  -- ---- targets

  target-found : (n k : Name) (a b : Option ModuleView) → named modules n ≡ a → named modules k ≡ b → same_found (same_content modules 63) n k a b ≡ true
      → (module_named v (shared_name modules n) ≡ becomes b) × (b ≡ None → shared_name modules n ≡ k)
  target-found n k None None f g e = (
    ap (module_named v) (ap (λ o. or_name n (option_and_then of_content o)) f) ∙ none-shared n f,
    λ t. ap (λ o. or_name n (option_and_then of_content o)) f ∙ name-true n k e,
  )
  target-found n k (Some a) (Some b) f g e =
      let listed = (first_in (λ (m : ModuleView). bytes_eq m.name n) modules a f).0 in
      let j = has-first a listed in
      let its = first-is a j.0 j.1 in
      let same : of_content a ≡ of_content b = class-same a b (content-more modules 63 a b e) in (
        ap (module_named v) (ap (λ o. or_name n (option_and_then of_content o)) f ∙ ap (or_name n) j.1)
            ∙ (named-shared j.0 its.0 (first-of-first a j.0 j.1)
            ∙ sym (becomes-some b j.0 (sym same ∙ j.1))),
        λ t. absurd (none-some b t),
      )
    where
      none-some : (m : ModuleView) → Some m ≡ None → ⊥
      none-some m t = cc
  target-found n k None (Some b) f g e = absurd (false≢true e)
  target-found n k (Some a) None f g e = absurd (false≢true e)

  pub target-shared : (n k : Name) → same_target (same_content modules 63) modules n k ≡ true → (module_named v (shared_name modules n) ≡ becomes (named modules k)) × (named modules k ≡ None → shared_name modules n ≡ k)
  target-shared n k e = target-found n k (named modules n) (named modules k) refl refl e

  -- ---- instances

  abbrev share : InstanceView → InstanceView
  share x = record x { target = shared_name modules x.target }

  abbrev same : InstanceView → InstanceView → Bool
  same = same_instance (same_content modules 63) modules

  -- the instance of a name in modules of equal content
  Paired : Name → List InstanceView → Option InstanceView → Type 0
  Paired i fs None = first (λ (k : InstanceView). bytes_eq k.name i) fs ≡ None
  Paired i fs (Some y) = (z : InstanceView) × (first (λ (k : InstanceView). bytes_eq k.name i) fs ≡ Some z) × (same z y ≡ true)

  paired : (i : Name) (fs ms : List InstanceView) → same_list same fs ms ≡ true → Paired i fs (first (λ (k : InstanceView). bytes_eq k.name i) ms)
  unfolding Paired
  paired i [] [] e = refl
  paired i [] (m ∷ ms) e = absurd (false≢true e)
  paired i (f ∷ fs) [] e = absurd (false≢true e)
  paired i (f ∷ fs) (m ∷ ms) e = by (bytes_eq m.name i) refl (paired i fs ms (other (same f m) (same_list same fs ms) e))
    where
      here : same f m ≡ true
      here = one (same f m) (same_list same fs ms) e

      test : (b : Bool) → bytes_eq m.name i ≡ b → bytes_eq f.name i ≡ b
      test b g = ap (λ n. bytes_eq n i) (alike (same_content modules 63) modules f m here).name ∙ g

      skip : bytes_eq f.name i ≡ false → (o : Option InstanceView) → Paired i fs o → Paired i (f ∷ fs) o
      skip g None none = ap (λ b. if b then Some f else first (λ (k : InstanceView). bytes_eq k.name i) fs) g ∙ none
      skip g (Some y) some = (some.0, ap (λ b. if b then Some f else first (λ (k : InstanceView). bytes_eq k.name i) fs) g ∙ some.1, some.2)

      by : (b : Bool) → bytes_eq m.name i ≡ b → Paired i fs (first (λ (k : InstanceView). bytes_eq k.name i) ms) → Paired i (f ∷ fs) (if b then Some m else first (λ (k : InstanceView). bytes_eq k.name i) ms)
      by true g more = (f, ap (λ b. if b then Some f else first (λ (k : InstanceView). bytes_eq k.name i) fs) (test true g), here)
      by false g more = skip (test false g) (first (λ (k : InstanceView). bytes_eq k.name i) ms) more

  -- ---- the top

  top-listed : (top : ModuleView) → top_of w ≡ Some top → IsIn top modules
  top-listed top e = (first_in (λ (k : ModuleView). not (is_instantiated w k.name)) modules top e).0

  top-first : (top : ModuleView) (rest : List ModuleView) → modules ≡ top ∷ rest → IsIn top modules → of_content top ≡ Some top
  top-first top rest e h =
      ap (first (λ (k : ModuleView). same_content modules 64 k top)) e
      ∙ ap (λ b. if b then Some top else first (λ (k : ModuleView). same_content modules 64 k top) rest) ((content-equivalence modules 64).same top (can.within top h))

  not-true : (b : Bool) → (b ≡ true → ⊥) → b ≡ false
  not-true true f = absurd (f refl)
  not-true false f = refl

  -- no module that is instantiated has the content of the top
  not-top : (top : ModuleView) → top_of w ≡ Some top → (k : ModuleView) → IsIn k modules → is_instantiated w k.name ≡ true → same_content modules 64 top k ≡ true → ⊥
  not-top top t k h inst e = let at = can.reached k h in by at.0 at.1
    where
      by : (x : Path) → module_at w x ≡ Some k → ⊥
      by [] at =
          let is : top ≡ k = some-same top k (sym t ∙ at) in
          let free = (first_in (λ (z : ModuleView). not (is_instantiated w z.name)) modules top t).1 in
          false≢true (sym (ap not (ap (λ (z : ModuleView). is_instantiated w z.name) is ∙ inst)) ∙ free)
      by (i ∷ x) at = not-as-top modules p.structure.cells i x top k 64 t at ((content-equivalence modules 64).turned top k e) 64 (can.within top (top-listed top t))

  target-other : (top : ModuleView) → top_of w ≡ Some top → (j : ModuleView) → IsIn j modules → (y : InstanceView) → IsIn y j.instances → bytes_eq (shared_name modules y.target) top.name ≡ false
  target-other top t j h y g = not-true _ (by (named modules y.target) refl)
    where
      instantiated : (k : ModuleView) → named modules y.target ≡ Some k → is_instantiated w k.name ≡ true
      instantiated k f =
          any-holds (λ (m : ModuleView). list_any (λ (i : InstanceView). bytes_eq i.target k.name) m.instances) modules j h
          (any-holds (λ (i : InstanceView). bytes_eq i.target k.name) j.instances y g
          (ap (λ n. bytes_eq n k.name) (sym (name-true k.name y.target (first_in (λ (m : ModuleView). bytes_eq m.name y.target) modules k f).1)) ∙ name-self k.name))

      by : (o : Option ModuleView) → named modules y.target ≡ o → bytes_eq (shared_name modules y.target) top.name ≡ true → ⊥
      by None f e =
          let target : y.target ≡ top.name = name-true y.target top.name (ap (λ o. bytes_eq (or_name y.target (option_and_then of_content o)) top.name) (sym f) ∙ e) in
          let some = some-first (λ (z : ModuleView). bytes_eq z.name y.target) top modules (top-listed top t) (ap (λ n. bytes_eq top.name n) target ∙ name-self top.name) in
          false≢true (sym (ap is_some f) ∙ some)
      by (Some k) f e =
          let listed = (first_in (λ (m : ModuleView). bytes_eq m.name y.target) modules k f).0 in
          let first_one = has-first k listed in
          let its = first-is k first_one.0 first_one.1 in
          let name : first_one.0.name ≡ top.name = name-true first_one.0.name top.name (ap (λ o. bytes_eq (or_name y.target o) top.name) (sym first_one.1) ∙ (ap (λ o. bytes_eq (or_name y.target (option_and_then of_content o)) top.name) (sym f) ∙ e)) in
          let is = one-name first_one.0 top its.0 (top-listed top t) name in
          not-top top t k listed (instantiated k f) (ap (λ z. same_content modules 64 z k) (sym is) ∙ its.1)

  top-shared : (top : ModuleView) → top_of w ≡ Some top → top_of v ≡ Some (shared_module modules top)
  top-shared top t =
      let cut = can.head top t in
      let self = top-first top cut.0 cut.1 (top-listed top t) in
      let kept : filter (is_first modules) modules ≡ top ∷ filter (is_first modules) cut.0 = ap (filter (is_first modules)) cut.1 ∙ ap (λ b. cond b (top ∷ filter (is_first modules) cut.0) (filter (is_first modules) cut.0)) (ap (is_named_as top) self ∙ name-self top.name) in
      let free : is_instantiated v top.name ≡ false = none-any _ (shared modules) (λ k h. none-any _ k.instances (λ y g. targets k h y g)) in
      ap (λ ms. first (λ (k : ModuleView). not (is_instantiated v k.name)) (map (shared_module modules) ms)) kept
      ∙ ap (λ b. if not b then Some (shared_module modules top) else first (λ (k : ModuleView). not (is_instantiated v k.name)) (map (shared_module modules) (filter (is_first modules) cut.0))) free
    where
      targets : (k : ModuleView) → IsIn k (shared modules) → (y : InstanceView) → IsIn y k.instances → bytes_eq y.target top.name ≡ false
      targets k h y g =
          let from = is-shared k h in
          let old = of-map share y from.0.instances (subst (λ (z : ModuleView). IsIn y z.instances) from.3 g) in
          ap (λ (z : InstanceView). bytes_eq z.target top.name) old.2 ∙ target-other top t from.0 from.1 old.0 old.1

  -- ---- paths

  step-shared : (i : Name) (f m : ModuleView) → HaveOneContent modules 63 f m → option_and_then (λ (y : InstanceView). module_named v y.target) (instance_named (shared_module modules f) i) ≡ becomes (option_and_then (λ (y : InstanceView). module_named w y.target) (instance_named m i))
  unfolding Paired
  step-shared i f m e = by (instance_named m i) (paired i f.instances m.instances e.instances)
    where
      by : (o : Option InstanceView) → Paired i f.instances o → option_and_then (λ (y : InstanceView). module_named v y.target) (instance_named (shared_module modules f) i) ≡ becomes (option_and_then (λ (y : InstanceView). module_named w y.target) o)
      by None none = ap (λ o. option_and_then (λ (y : InstanceView). module_named v y.target) o) (none-made (λ (k : InstanceView). bytes_eq k.name i) (λ (k : InstanceView). bytes_eq k.name i) share (λ x. refl) f.instances none)
      by (Some y) some =
          ap (λ o. option_and_then (λ (y : InstanceView). module_named v y.target) o) (first-made (λ (k : InstanceView). bytes_eq k.name i) (λ (k : InstanceView). bytes_eq k.name i) share (λ x. refl) f.instances some.0 some.1)
          ∙ (target-shared some.0.target y.target (alike (same_content modules 63) modules some.0 y some.2).target).0

  abbrev step : Structure → Name → ModuleView → Option ModuleView
  step s i m = option_and_then (λ (y : InstanceView). module_named s y.target) (instance_named m i)

  pub at-shared : (x : Path) → module_at v x ≡ becomes (module_at w x)
  at-shared [] = by (top_of w) refl
    where
      no-modules : (ms : List ModuleView) → ((k : ModuleView) → IsIn k ms → ⊥) → ms ≡ []
      no-modules [] none = refl
      no-modules (k ∷ ms) none = absurd (none k (inl refl))

      no-path : top_of w ≡ None → (x : Path) → module_at w x ≡ None
      no-path e [] = e
      no-path e (i ∷ x) = ap (λ o. option_and_then (λ (m : ModuleView). option_and_then (λ (y : InstanceView). module_named w y.target) (instance_named m i)) o) (no-path e x)

      by : (o : Option ModuleView) → top_of w ≡ o → top_of v ≡ becomes (top_of w)
      by None e =
          none-first (λ (k : ModuleView). not (is_instantiated v k.name)) (shared modules)
          (λ k h. let from = is-shared k h in let at = can.reached from.0 from.1 in let none : None ≡ Some from.0 = sym (no-path e at.0) ∙ at.1 in absurd cc)
          ∙ sym (ap becomes e)
      by (Some top) e =
          let cut = can.head top e in
          top-shared top e ∙ sym (ap becomes e ∙ becomes-some top top (top-first top cut.0 cut.1 (top-listed top e)))
  at-shared (i ∷ x) = by (module_at w x) refl (at-shared x)
    where
      by : (o : Option ModuleView) → module_at w x ≡ o → module_at v x ≡ becomes (module_at w x) → option_and_then (step v i) (module_at v x) ≡ becomes (option_and_then (step w i) (module_at w x))
      by None e more = ap (λ o. option_and_then (step v i) o) (more ∙ ap becomes e) ∙ sym (ap (λ o. becomes (option_and_then (step w i) o)) e)
      by (Some m) e more =
          let f = has-first m (from-modules w x m e) in
          ap (λ o. option_and_then (step v i) o) (more ∙ (ap becomes e ∙ becomes-some m f.0 f.1))
          ∙ (step-shared i f.0 m (content-parts modules 63 f.0 m (first-is m f.0 f.1).1)
          ∙ sym (ap (λ o. becomes (option_and_then (step w i) o)) e))

  pub reached-shared : IsReached v
  reached-shared k h =
      let from = is-shared k h in
      let at = can.reached from.0 from.1 in
      (at.0, at-shared at.0 ∙ (ap becomes at.1 ∙ (becomes-some from.0 from.0 from.2 ∙ ap (λ z. Some z) (sym from.3))))

  -- ---- content

  becomes-none : (o : Option ModuleView) → ((m : ModuleView) → o ≡ Some m → IsIn m modules) → becomes o ≡ None → o ≡ None
  becomes-none None listed e = refl
  becomes-none (Some m) listed e =
      let f = has-first m (listed m refl) in
      let none : Some (shared_module modules f.0) ≡ None = sym (becomes-some m f.0 f.1) ∙ e in
      absurd cc

  instance-shared : (x : Path) (y m f : InstanceView) → IsInstance w x y m → same f m ≡ true → IsInstance v x y (share f)
  instance-shared x y m f is e =
      let its = alike (same_content modules 63) modules f m e in
      let target = target-shared f.target m.target its.target in
      record {
        name = its.name ∙ is.name;
        connections = its.connections ∙ is.connections;
        inner = target.0 ∙ (ap becomes is.inner ∙ sym (at-shared (y.name ∷ x)));
        cell = λ none.
            let old : module_at w (y.name ∷ x) ≡ None = becomes-none (module_at w (y.name ∷ x)) (λ k g. from-modules w (y.name ∷ x) k g) (sym (at-shared (y.name ∷ x)) ∙ none) in
            target.1 (is.inner ∙ old) ∙ is.cell old;
      }

  instances-shared : (x : Path) (ys ms fs : List InstanceView) → AreInstances w x ys ms → same_list same fs ms ≡ true → AreInstances v x ys (map share fs)
  instances-shared x [] [] [] all e = tt
  instances-shared x [] [] (f ∷ fs) all e = absurd (false≢true e)
  instances-shared x [] (m ∷ ms) fs all e = absurd all
  instances-shared x (y ∷ ys) [] fs all e = absurd all
  instances-shared x (y ∷ ys) (m ∷ ms) [] all e = absurd (false≢true e)
  instances-shared x (y ∷ ys) (m ∷ ms) (f ∷ fs) all e = (instance-shared x y m f all.0 (one (same f m) (same_list same fs ms) e), instances-shared x ys ms fs all.1 (other (same f m) (same_list same fs ms) e))

  pub shared-written : (a : Additions) → IsWrittenAt p a w → IsWrittenAt p a v
  shared-written a is = record {
    cells = refl;
    modules = λ x m e.
        let at = is.modules x m e in
        let f = has-first at.here (from-modules w x at.here at.is) in
        let its = content-parts modules 63 f.0 at.here (first-is at.here f.0 f.1).1 in
        record {
          here = shared_module modules f.0;
          is = at-shared x ∙ (ap becomes at.is ∙ becomes-some at.here f.0 f.1);
          content = record {
            ports = its.ports ∙ at.content.ports;
            nets = its.nets ∙ at.content.nets;
            instances = instances-shared x (written_module p a x m).instances at.here.instances f.0.instances at.content.instances its.instances;
            assigns = its.assigns ∙ at.content.assigns;
          };
        };
    none = λ x e. at-shared x ∙ ap becomes (is.none x e);
  }

pub content-kept : (p : Project) (a : Additions) (modules : List ModuleView) → CanBeShared p modules → IsWrittenAt p a (netlist_of p modules) → IsWrittenAt p a (netlist_of p (shared modules))
content-kept p a modules can is = shared-written p modules can a is

-- How deep modules of equal content are, and that no module has the content of one that contains it.
use Rattle.std.proofs.Common.{◌≡◌, ℕ, zero, suc, Bool, true, ◌&&◌, List, [], ◌∷◌, Option, Some, None, refl, sym, ap, ◌∙◌}
use Rattle.std.specs.Prelude.{bytes_eq, option_and_then}
use Rattle.std.specs.List.{list_all}
use Rattle.std.proofs.lemmas.Bool.{false≢true}
use Rattle.lp_model.specs.NetlistView.{InstanceView, ModuleView}
use Rattle.lp_model.specs.LibraryView.{CellView}
use Rattle.lp_spec_design.specs.Keys.{Name, Path}
use Rattle.lp_spec_design.specs.Netlists.{Structure, module_named, instance_named, module_at}
use Rattle.lp_spec_design.specs.Winners.{IsIn}
use Rattle.lp_spec_design.specs.Reads.{one, other, both}
use Rattle.lp_spec_design.proofs.Sources.{then_is, first_in}
use Rattle.lp_spec_written.specs.Shared.{same_list, same_port, same_net, same_connections, same_assign, named, same_found, same_target, same_instance, same_content}
use Rattle.lp_spec_hub.specs.Contents.{some_is_within, is_within}
use Rattle.lp_spec_written_at.proofs.Lists.{of-all}
use Rattle.lp_spec_shared.proofs.Parts.{alike, content-parts}

module _ (modules : List ModuleView) where
  -- ---- one level more

  abbrev tests : (ModuleView → Bool) → List InstanceView → Bool
  tests within xs = list_all (λ (x : InstanceView). some_is_within within (named modules x.target)) xs

  tests-more : (t u : ModuleView → Bool) → ((m : ModuleView) → t m ≡ true → u m ≡ true) → (xs : List InstanceView) → tests t xs ≡ true → tests u xs ≡ true
  tests-more t u more [] e = refl
  tests-more t u more (x ∷ xs) e = both (some_is_within u (named modules x.target)) (tests u xs) (by (named modules x.target) (one (some_is_within t (named modules x.target)) (tests t xs) e)) (tests-more t u more xs (other (some_is_within t (named modules x.target)) (tests t xs) e))
    where
      by : (o : Option ModuleView) → some_is_within t o ≡ true → some_is_within u o ≡ true
      by None g = refl
      by (Some m) g = more m g

  within-more : (depth : ℕ) (m : ModuleView) → is_within modules depth m ≡ true → is_within modules (suc depth) m ≡ true
  within-more zero m e = absurd (false≢true e)
  within-more (suc depth) m e = tests-more (is_within modules depth) (is_within modules (suc depth)) (within-more depth) m.instances e

  abbrev Test : Type 0
  Test = ModuleView → ModuleView → Bool

  instance-more : (t u : Test) → ((a b : ModuleView) → t a b ≡ true → u a b ≡ true) → (x y : InstanceView) → same_instance t modules x y ≡ true → same_instance u modules x y ≡ true
  instance-more t u more x y e =
      let rest = other (bytes_eq x.name y.name) (same_target t modules x.target y.target && same_connections x.connections y.connections) e in
      both (bytes_eq x.name y.name) (same_target u modules x.target y.target && same_connections x.connections y.connections)
      (one (bytes_eq x.name y.name) (same_target t modules x.target y.target && same_connections x.connections y.connections) e)
      (both (same_target u modules x.target y.target) (same_connections x.connections y.connections)
      (by (named modules x.target) (named modules y.target) (one (same_target t modules x.target y.target) (same_connections x.connections y.connections) rest))
      (other (same_target t modules x.target y.target) (same_connections x.connections y.connections) rest))
    where
      by : (a b : Option ModuleView) → same_found t x.target y.target a b ≡ true → same_found u x.target y.target a b ≡ true
      by (Some a) (Some b) g = more a b g
      by None None g = g
      by (Some a) None g = absurd (false≢true g)
      by None (Some b) g = absurd (false≢true g)

  list-more : {A : Type 0} (t u : A → A → Bool) → ((x y : A) → t x y ≡ true → u x y ≡ true) → (xs ys : List A) → same_list t xs ys ≡ true → same_list u xs ys ≡ true
  list-more t u more [] [] e = refl
  list-more t u more [] (y ∷ ys) e = absurd (false≢true e)
  list-more t u more (x ∷ xs) [] e = absurd (false≢true e)
  list-more t u more (x ∷ xs) (y ∷ ys) e = both (u x y) (same_list u xs ys) (more x y (one (t x y) (same_list t xs ys) e)) (list-more t u more xs ys (other (t x y) (same_list t xs ys) e))

  pub content-more : (depth : ℕ) (a b : ModuleView) → same_content modules depth a b ≡ true → same_content modules (suc depth) a b ≡ true
  content-more zero a b e = absurd (false≢true e)
  content-more (suc depth) a b e =
      let ports = same_list same_port a.ports b.ports in
      let nets = same_list same_net a.nets b.nets in
      let old = same_list (same_instance (same_content modules depth) modules) a.instances b.instances in
      let new = same_list (same_instance (same_content modules (suc depth)) modules) a.instances b.instances in
      let assigns = same_list same_assign a.assigns b.assigns in
      let after = other ports (nets && (old && assigns)) e in
      let last = other nets (old && assigns) after in
      both ports (nets && (new && assigns)) (one ports (nets && (old && assigns)) e)
      (both nets (new && assigns) (one nets (old && assigns) after)
      (both new assigns
      (list-more (same_instance (same_content modules depth) modules) (same_instance (same_content modules (suc depth)) modules) (instance-more (same_content modules depth) (same_content modules (suc depth)) (content-more depth)) a.instances b.instances (one old assigns last))
      (other old assigns last)))

  -- ---- equal content is equally deep

  found-within : (t : Test) (u : ModuleView → Bool) → ((a b : ModuleView) → t a b ≡ true → u a ≡ true → u b ≡ true) → (m n : Name) (a b : Option ModuleView) → same_found t m n a b ≡ true → some_is_within u a ≡ true → some_is_within u b ≡ true
  found-within t u more m n (Some a) (Some b) e h = more a b e h
  found-within t u more m n a None e h = refl
  found-within t u more m n None (Some b) e h = absurd (false≢true e)

  tests-alike : (t : Test) (u : ModuleView → Bool) → ((a b : ModuleView) → t a b ≡ true → u a ≡ true → u b ≡ true) → (xs ys : List InstanceView) → same_list (same_instance t modules) xs ys ≡ true → tests u xs ≡ true → tests u ys ≡ true
  tests-alike t u more [] [] e h = refl
  tests-alike t u more [] (y ∷ ys) e h = absurd (false≢true e)
  tests-alike t u more (x ∷ xs) [] e h = absurd (false≢true e)
  tests-alike t u more (x ∷ xs) (y ∷ ys) e h =
      let same = alike t modules x y (one (same_instance t modules x y) (same_list (same_instance t modules) xs ys) e) in
      both (some_is_within u (named modules y.target)) (tests u ys)
      (found-within t u more x.target y.target (named modules x.target) (named modules y.target) same.target (one (some_is_within u (named modules x.target)) (tests u xs) h))
      (tests-alike t u more xs ys (other (same_instance t modules x y) (same_list (same_instance t modules) xs ys) e) (other (some_is_within u (named modules x.target)) (tests u xs) h))

  same-within : (depth level : ℕ) (a b : ModuleView) → same_content modules level a b ≡ true → is_within modules depth a ≡ true → is_within modules depth b ≡ true
  same-within zero level a b e h = absurd (false≢true h)
  same-within (suc depth) zero a b e h = absurd (false≢true e)
  same-within (suc depth) (suc level) a b e h =
      tests-alike (same_content modules level) (is_within modules depth) (λ c k. same-within depth level c k) a.instances b.instances (content-parts modules level a b e).instances h

  -- ---- what a module contains is less deep

  inner-within : (depth : ℕ) (m : ModuleView) (y : InstanceView) (k : ModuleView) → IsIn y m.instances → named modules y.target ≡ Some k → is_within modules (suc depth) m ≡ true → is_within modules depth k ≡ true
  inner-within depth m y k h e g =
      ap (some_is_within (is_within modules depth)) (sym e) ∙ of-all (λ (x : InstanceView). some_is_within (is_within modules depth) (named modules x.target)) y m.instances g h

  module _ (cells : List CellView) where
    abbrev w : Structure
    w = record { modules = modules; cells = cells }

    some-same : (a b : ModuleView) → Some a ≡ Some b → a ≡ b
    some-same a b q = cc

    -- where a module instance stands
    record IsInside (x : Path) (k : ModuleView) : Type 0 where
      parent : ModuleView
      at : module_at w x ≡ Some parent
      instance : InstanceView
      listed : IsIn instance parent.instances
      target : named modules instance.target ≡ Some k

    inside : (i : Name) (x : Path) (k : ModuleView) → module_at w (i ∷ x) ≡ Some k → IsInside x k
    inside i x k e =
        let above = then_is (λ (m : ModuleView). option_and_then (λ (y : InstanceView). module_named w y.target) (instance_named m i)) (module_at w x) k e in
        let inst = then_is (λ (y : InstanceView). module_named w y.target) (instance_named above.0 i) k above.2 in
        record {
          parent = above.0;
          at = above.1;
          instance = inst.0;
          listed = (first_in (λ (y : InstanceView). bytes_eq y.name i) above.0.instances inst.0 inst.1).0;
          target = inst.2;
        }

    deeper : (depth : ℕ) (m : ModuleView) (y : InstanceView) (k : ModuleView) → IsIn y m.instances → named modules y.target ≡ Some k → is_within modules depth m ≡ true → is_within modules depth k ≡ true
    deeper zero m y k g q r = absurd (false≢true r)
    deeper (suc depth) m y k g q r = within-more depth k (inner-within depth m y k g q r)

    -- all below the top are
    below-within : (i : Name) (x : Path) (top k : ModuleView) → module_at w [] ≡ Some top → module_at w (i ∷ x) ≡ Some k → (depth : ℕ) → is_within modules (suc depth) top ≡ true → is_within modules depth k ≡ true
    below-within i [] top k t e depth h =
        let its = inside i [] k e in
        inner-within depth its.parent its.instance k its.listed its.target (ap (is_within modules (suc depth)) (some-same its.parent top (sym its.at ∙ t)) ∙ h)
    below-within i (j ∷ v) top k t e depth h =
        let its = inside i (j ∷ v) k e in
        deeper depth its.parent its.instance k its.listed its.target (below-within j v top its.parent t its.at depth h)

    -- so none has the content of the top
    pub not-as-top : (i : Name) (x : Path) (top k : ModuleView) (level : ℕ) → module_at w [] ≡ Some top → module_at w (i ∷ x) ≡ Some k → same_content modules level k top ≡ true → (depth : ℕ) → is_within modules depth top ≡ true → ⊥
    not-as-top i x top k level t e same zero h = false≢true h
    not-as-top i x top k level t e same (suc depth) h = not-as-top i x top k level t e same depth (same-within depth level k top same (below-within i x top k t e depth h))

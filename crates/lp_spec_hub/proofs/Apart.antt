-- Where names stand apart, no two boundary bits have one way.
use Rattle.std.proofs.Common.{◌≡◌, ◌⊎◌, ◌≤◌, ℕ, zero, suc, ◌+◌, ◌-◌, Bool, true, false, cond, not, List, [], ◌∷◌, ◌++◌, map, length, Option, Some, None, inl, inr, refl, sym, ap, ◌∙◌, subst, arith}
use Rattle.std.specs.Prelude.{filter, flat_map, bytes_eq, is_some, nat_le}
use Rattle.std.specs.List.{list_any}
use Rattle.std.proofs.lemmas.Bool.{false≢true}
use Rattle.lp_model.specs.declared.netlist.BitRange.{BitRange}
use Rattle.lp_model.specs.NetlistView.{PortView, NetView, InstanceView, ModuleView}
use Rattle.lp_spec_design.specs.Keys.{Name, Path, Way, PortBit, same_way}
use Rattle.lp_spec_design.specs.Netlists.{Structure, module_named, module_at, upward, downward, indices}
use Rattle.lp_spec_design.specs.Instances.{children_in, children, below, module_instances}
use Rattle.lp_spec_design.specs.Intents.{Intent}
use Rattle.lp_spec_design.specs.Domains.{BoundaryBit, boundary, bits_of, is_boundary, way_of}
use Rattle.lp_spec_design.specs.Winners.{IsIn}
use Rattle.lp_spec_design.specs.Reads.{one, other, name-self}
use Rattle.lp_spec_design.specs.Registers.{is_above}
use Rattle.lp_spec_design.proofs.Members.{IsApart, in-map, of-map, of-flat, of-filter, in-either, any-in}
use Rattle.lp_spec_realises.specs.Projects.{Project}
use Rattle.lp_spec_realises.specs.ProjectNetlists.{are_apart, has_names_apart}
use Rattle.lp_spec_hub.specs.Entries.{HasWaysApart}
use Rattle.lp_spec_hub.proofs.Paths.{above-self, above-parent, above-length, above-line, above-level}
use Rattle.lp_spec_hub.proofs.Ways.{way-true, rest-apart, in-left-names, known-module, its-names, one-port, one-instance, has-port}

-- ---- lists without repetition

apart-append : {A : Type 0} (xs ys : List A) → IsApart xs → IsApart ys → ((z : A) → IsIn z xs → IsIn z ys → ⊥) → IsApart (xs ++ ys)
apart-append [] ys one two none = two
apart-append (x ∷ xs) ys one two none = (λ h. by (in-either x xs ys h), apart-append xs ys one.1 two (λ z h g. none z (inr h) g))
  where
    by : IsIn x xs ⊎ IsIn x ys → ⊥
    by (inl h) = one.0 h
    by (inr h) = none x (inl refl) h

apart-flat : {A B : Type 0} (f : A → List B) (xs : List A) → IsApart xs → ((x : A) → IsIn x xs → IsApart (f x)) → ((x y : A) (b : B) → IsIn x xs → IsIn y xs → IsIn b (f x) → IsIn b (f y) → x ≡ y) → IsApart (flat_map f xs)
apart-flat f [] apart each alone = tt
apart-flat f (x ∷ xs) apart each alone =
    apart-append (f x) (flat_map f xs) (each x (inl refl)) (apart-flat f xs apart.1 (λ y h. each y (inr h)) (λ y z b h g. alone y z b (inr h) (inr g)))
    (λ b h g. let found = of-flat f b xs g in apart.0 (subst (λ y. IsIn y xs) (sym (alone x found.0 b (inl refl) (inr found.1) h found.2)) found.1))

apart-map : {A B : Type 0} (f : A → B) (xs : List A) → IsApart xs → ((a b : A) → IsIn a xs → IsIn b xs → f a ≡ f b → a ≡ b) → IsApart (map f xs)
apart-map f [] apart only = tt
apart-map f (x ∷ xs) apart only =
    (λ h. let found = of-map f (f x) xs h in apart.0 (subst (λ y. IsIn y xs) (sym (only x found.0 (inl refl) (inr found.1) found.2)) found.1), apart-map f xs apart.1 (λ a b h g. only a b (inr h) (inr g)))

apart-filter : {A : Type 0} (t : A → Bool) (xs : List A) → IsApart xs → IsApart (filter t xs)
apart-filter t [] apart = tt
apart-filter t (x ∷ xs) apart = by (t x) (apart-filter t xs apart.1)
  where
    by : (b : Bool) → IsApart (filter t xs) → IsApart (cond b (x ∷ filter t xs) (filter t xs))
    by true more = (λ h. apart.0 (of-filter t x xs h).0, more)
    by false more = more

apart-named : {A : Type 0} (f : A → Name) (xs : List A) (ys : List Name) → are_apart (map f xs ++ ys) ≡ true → IsApart xs
apart-named f [] ys e = tt
apart-named f (x ∷ xs) ys e = (
  λ h.
      let found : list_any (bytes_eq (f x)) (map f xs ++ ys) ≡ true = any-in (bytes_eq (f x)) (f x) (map f xs ++ ys) (in-left-names (f x) (map f xs) ys (in-map f x xs h)) (name-self (f x)) in
      false≢true (ap not (sym found) ∙ one (not (list_any (bytes_eq (f x)) (map f xs ++ ys))) (are_apart (map f xs ++ ys)) e),
  apart-named f xs ys (other (not (list_any (bytes_eq (f x)) (map f xs ++ ys))) (are_apart (map f xs ++ ys)) e),
)

few : {A : Type 0} (xs : List A) → IsApart xs → ((a b : A) → IsIn a xs → IsIn b xs → a ≡ b) → length xs ≤ 1
few [] apart same = omega arith
few (x ∷ []) apart same = omega arith
few (x ∷ y ∷ xs) apart same = absurd (apart.0 (inl (same x y (inl refl) (inr (inl refl)))))

-- ---- the indices of a port

up-least : (n from k : ℕ) → IsIn k (upward n from) → from ≤ k
up-least zero from k h = absurd h
up-least (suc n) from k (inl is) = omega (arith, is)
up-least (suc n) from k (inr h) = let less = up-least n (from + 1) k h in omega (arith, less)

up-apart : (n from : ℕ) → IsApart (upward n from)
up-apart zero from = tt
up-apart (suc n) from = (λ h. let less = up-least n (from + 1) from h in absurd (omega (arith, less)), up-apart n (from + 1))

down-most : (n from k : ℕ) → IsIn k (downward n from) → k ≤ from
down-most zero from k h = absurd h
down-most (suc n) from k (inl is) = omega (arith, is)
down-most (suc n) from k (inr h) = let less = down-most n (from - 1) k h in omega (arith, less)

down-apart : (n from : ℕ) → n ≤ from + 1 → IsApart (downward n from)
down-apart zero from h = tt
down-apart (suc zero) from h = (λ g. g, tt)
down-apart (suc (suc n)) from h = (λ g. let less = down-most (suc n) (from - 1) from g in absurd (omega (arith, less, h)), down-apart (suc n) (from - 1) (omega (arith, h)))

some-apart : (xs : List ℕ) → IsApart xs → IsApart (map (λ i. Some i) xs)
some-apart xs apart = apart-map (λ i. Some i) xs apart (λ a b h g e. inside a b e)
  where
    inside : (a b : ℕ) → Some a ≡ Some b → a ≡ b
    inside a b e = cc

indices-apart : (r : Option BitRange) → IsApart (indices r)
indices-apart None = (λ h. h, tt)
indices-apart (Some r) = by (nat_le r.left r.right)
  where
    by : (b : Bool) → IsApart (map (λ i. Some i) (cond b (upward (r.right + 1 - r.left) r.left) (downward (r.left + 1 - r.right) r.left)))
    by true = some-apart (upward (r.right + 1 - r.left) r.left) (up-apart (r.right + 1 - r.left) r.left)
    by false = some-apart (downward (r.left + 1 - r.right) r.left) (down-apart (r.left + 1 - r.right) r.left (omega arith))

module _ (s : Structure) (apart : has_names_apart s.modules ≡ true) where
  -- ---- module instances

  child-shape : (p : Path) (o : Option ModuleView) (c : Path) → IsIn c (children_in s p o) → (i : Name) × (c ≡ i ∷ p)
  child-shape p None c h = absurd h
  child-shape p (Some m) c h = let found = of-map (λ (x : InstanceView). x.name ∷ p) c (filter (λ (x : InstanceView). is_some (module_named s x.target)) m.instances) h in (found.0.name, found.2)

  children-apart : (p : Path) (o : Option ModuleView) → module_at s p ≡ o → IsApart (children_in s p o)
  children-apart p None e = tt
  children-apart p (Some m) e =
      let instances = rest-apart (map (λ (n : NetView). n.name) m.nets) (map (λ (x : InstanceView). x.name) m.instances) (rest-apart (map (λ (q : PortView). q.name) m.ports) (map (λ (n : NetView). n.name) m.nets ++ map (λ (x : InstanceView). x.name) m.instances) (its-names s apart m (known-module s apart p m e))) in
      apart-map (λ (x : InstanceView). x.name ∷ p) (filter (λ (x : InstanceView). is_some (module_named s x.target)) m.instances)
      (apart-filter (λ (x : InstanceView). is_some (module_named s x.target)) m.instances (apart-named (λ (x : InstanceView). x.name) m.instances [] (ap are_apart (none-more (map (λ (x : InstanceView). x.name) m.instances)) ∙ instances)))
      (λ a b h g same. one-instance s apart m (known-module s apart p m e) a b (of-filter (λ (x : InstanceView). is_some (module_named s x.target)) a m.instances h).0 (of-filter (λ (x : InstanceView). is_some (module_named s x.target)) b m.instances g).0 (heads a.name b.name p same))
    where
      none-more : (xs : List Name) → xs ++ [] ≡ xs
      none-more [] = refl
      none-more (x ∷ xs) = ap (λ r. x ∷ r) (none-more xs)

      heads : (a b : Name) (q : Path) → a ∷ q ≡ b ∷ q → a ≡ b
      heads a b q e = cc

  below-above : (depth : ℕ) (p q : Path) → IsIn q (below s depth p) → is_above p q ≡ true
  below-above zero p q h = absurd h
  below-above (suc depth) p q (inl is) = ap (is_above p) is ∙ above-self p
  below-above (suc depth) p q (inr h) =
      let found = of-flat (below s depth) q (children s p) h in
      let shape = child-shape p (module_at s p) found.0 found.1 in
      above-parent p shape.0 q (ap (λ r. is_above r q) (sym shape.1) ∙ below-above depth found.0 q found.2)

  same-level : (i j : Name) (p q : Path) → is_above (i ∷ p) q ≡ true → is_above (j ∷ p) q ≡ true → i ∷ p ≡ j ∷ p
  same-level i j p q e f = elim (above-line (i ∷ p) (j ∷ p) q e f) [ inl over ↦ sym (above-level (i ∷ p) (j ∷ p) over (omega arith)) | inr under ↦ above-level (j ∷ p) (i ∷ p) under (omega arith) ]

  below-apart : (depth : ℕ) (p : Path) → IsApart (below s depth p)
  below-apart zero p = tt
  below-apart (suc depth) p = (
    λ h.
        let found = of-flat (below s depth) p (children s p) h in
        let shape = child-shape p (module_at s p) found.0 found.1 in
        let less = above-length (shape.0 ∷ p) p (ap (λ r. is_above r p) (sym shape.1) ∙ below-above depth found.0 p found.2) in
        absurd (omega (arith, less)),
    apart-flat (below s depth) (children s p) (children-apart p (module_at s p) refl) (λ c h. below-apart depth c)
        (λ x y b h g there here.
        let one = child-shape p (module_at s p) x h in
        let two = child-shape p (module_at s p) y g in
        one.1 ∙ (same-level one.0 two.0 p b (ap (λ r. is_above r b) (sym one.1) ∙ below-above depth x b there) (ap (λ r. is_above r b) (sym two.1) ∙ below-above depth y b here) ∙ sym two.1)),
  )

  instances-apart : IsApart (module_instances s)
  unfolding module_instances
  instances-apart = below-apart 64 []

  -- ---- boundary bits

  abbrev of_port : Path → PortView → List BoundaryBit
  of_port x q = map (λ i. record { path = x; port = q; index = i }) (indices q.range)

  abbrev bits_list : Path → Option ModuleView → List BoundaryBit
  bits_list x None = []
  bits_list x (Some m) = flat_map (of_port x) m.ports

  bits-by : (x : Path) (o : Option ModuleView) → module_at s x ≡ o → bits_of s x ≡ bits_list x o
  bits-by x None e = rw (e) refl
  bits-by x (Some m) e = rw (e) refl

  of-port : (x : Path) (q : PortView) (b : BoundaryBit) → IsIn b (of_port x q) → (b.path ≡ x) × (b.port ≡ q)
  of-port x q b h = let found = of-map (λ i. record { path = x; port = q; index = i }) b (indices q.range) h in (ap (λ (c : BoundaryBit). c.path) found.2, ap (λ (c : BoundaryBit). c.port) found.2)

  of-path : (x : Path) (o : Option ModuleView) (b : BoundaryBit) → IsIn b (bits_list x o) → b.path ≡ x
  of-path x None b h = absurd h
  of-path x (Some m) b h = let found = of-flat (of_port x) b m.ports h in (of-port x found.0 b found.2).0

  list-apart : (x : Path) (o : Option ModuleView) → module_at s x ≡ o → IsApart (bits_list x o)
  list-apart x None e = tt
  list-apart x (Some m) e =
      apart-flat (of_port x) m.ports
      (apart-named (λ (q : PortView). q.name) m.ports (map (λ (n : NetView). n.name) m.nets ++ map (λ (y : InstanceView). y.name) m.instances) (its-names s apart m (known-module s apart x m e)))
      (λ q h. apart-map (λ i. record { path = x; port = q; index = i }) (indices q.range) (indices-apart q.range) (λ a b there here same. ap (λ (c : BoundaryBit). c.index) same))
      (λ q r b h g there here. sym (of-port x q b there).1 ∙ (of-port x r b here).1)

  bits-path : (x : Path) (b : BoundaryBit) → IsIn b (bits_of s x) → b.path ≡ x
  bits-path x b h = of-path x (module_at s x) b (subst (λ r. IsIn b r) (bits-by x (module_at s x) refl) h)

  boundary-apart : (i : Intent) → IsApart (boundary s i)
  boundary-apart i =
      apart-flat (bits_of s) (filter (is_boundary i) (module_instances s)) (apart-filter (is_boundary i) (module_instances s) instances-apart)
      (λ x h. subst (λ r. IsApart r) (sym (bits-by x (module_at s x) refl)) (list-apart x (module_at s x) refl))
      (λ x y b h g there here. sym (bits-path x b there) ∙ bits-path y b here)

  module _ (i : Intent) (w : Way) where
    abbrev on_it : BoundaryBit → Bool
    on_it b = same_way (way_of b) w

    one-bit : (a b : BoundaryBit) → IsIn a (filter on_it (boundary s i)) → IsIn b (filter on_it (boundary s i)) → a ≡ b
    one-bit a b h g =
        let first = of-filter on_it a (boundary s i) h in
        let second = of-filter on_it b (boundary s i) g in
        let ways : PortBit a.path a.port.name a.index ≡ PortBit b.path b.port.name b.index = way-true (way_of a) w first.1 ∙ sym (way-true (way_of b) w second.1) in
        let path : a.path ≡ b.path = cc in
        let name : a.port.name ≡ b.port.name = cc in
        let index : a.index ≡ b.index = cc in
        let here = has-port s apart i a first.0 in
        let there = has-port s apart i b second.0 in
        let both : Some here.parent ≡ Some there.parent = sym here.at ∙ (ap (module_at s) path ∙ there.at) in
        let same : here.parent ≡ there.parent = cc in
        let port : a.port ≡ b.port = one-port s apart there.parent (known-module s apart b.path there.parent there.at) a.port b.port (subst (λ (o : ModuleView). IsIn a.port o.ports) same here.there) there.there name in
        λ r. record { path = path r; port = port r; index = index r }

    one-way : length (filter on_it (boundary s i)) ≤ 1
    one-way = few (filter on_it (boundary s i)) (apart-filter on_it (boundary s i) (boundary-apart i)) one-bit

pub ways-apart : (p : Project) → has_names_apart p.structure.modules ≡ true → HasWaysApart p
ways-apart p apart w = one-way p.structure apart p.intent w

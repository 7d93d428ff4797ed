-- No module instance stands twice, and an operator stands in one.
use Rattle.std.proofs.Common.{◌≡◌, ◌⊎◌, ℕ, zero, suc, ◌+◌, Bool, true, false, not, cond, List, [], ◌∷◌, ◌++◌, length, map, drop, Option, Some, None, inl, inr, refl, sym, ap, ◌∙◌, subst, arith}
use Rattle.std.specs.Prelude.{filter, flat_map, bytes_eq, is_some, option_and_then, slice_get}
use Rattle.std.specs.List.{list_any, list_all}
use Rattle.std.proofs.lemmas.Bool.{false≢true}
use Rattle.lp_model.specs.declared.side.Side.{Side}
use Rattle.lp_model.specs.declared.side.Side.TheVariants.{Upper, Lower}
use Rattle.lp_model.specs.declared.side.Location.{Location}
use Rattle.lp_model.specs.declared.side.Location.TheVariants.{Own, Parent}
use Rattle.lp_model.specs.NetlistView.{PortView, NetView, InstanceView, ModuleView}
use Rattle.lp_spec_design.specs.Keys.{Name, Path}
use Rattle.lp_spec_design.specs.Netlists.{Structure, module_named, instance_named, module_at, indices}
use Rattle.lp_spec_design.specs.Instances.{children_in, children, below, module_instances}
use Rattle.lp_spec_design.specs.Intents.{Strategy}
use Rattle.lp_spec_design.specs.Domains.{BoundaryBit, boundary, bits_of, is_boundary}
use Rattle.lp_spec_design.specs.Winners.{IsIn, crossing}
use Rattle.lp_spec_design.specs.Nodes.{fuel_of}
use Rattle.lp_spec_design.specs.Reads.{one, other, name-self}
use Rattle.lp_spec_design.proofs.Members.{IsApart, in-either, in-map, of-map, of-flat, of-filter, of-some, any-in}
use Rattle.lp_spec_design.proofs.Sources.{then_is}
use Rattle.lp_spec_realises.specs.Projects.{Project}
use Rattle.lp_spec_realises.specs.ProjectNetlists.{are_apart, names_in, has_names_apart}
use Rattle.lp_spec_realises.specs.Operators.{OperatorAt, operators_of_bit, all_operators, chain_of}
use Rattle.lp_spec_realises.specs.Implements.{Lists, parent_of, path_by, strategy_of, sides_of, operator_path, operator_chosen}
use Rattle.lp_spec_design.specs.Graph.{numbered}
use Rattle.lp_spec_written.specs.Places.{Standing, cell_numbered, standing_at, standing, plan}
use Rattle.lp_spec_written_at.proofs.Lists.{of-all, apart-right}
use Rattle.lp_spec_written_at.proofs.Modules.{from-modules}

-- ---- lists without repetition

pub apart-append : {A : Type 0} (xs ys : List A) → IsApart xs → IsApart ys → ((z : A) → IsIn z xs → IsIn z ys → ⊥) → IsApart (xs ++ ys)
apart-append [] ys one two none = two
apart-append (x ∷ xs) ys one two none = (λ h. elim (in-either x xs ys h) [ inl l ↦ one.0 l | inr r ↦ none x (inl refl) r ], apart-append xs ys one.1 two (λ z h g. none z (inr h) g))

pub apart-flat : {A B : Type 0} (f : A → List B) (xs : List A) → IsApart xs → ((x : A) → IsIn x xs → IsApart (f x)) → ((x y : A) (b : B) → IsIn x xs → IsIn y xs → IsIn b (f x) → IsIn b (f y) → x ≡ y) → IsApart (flat_map f xs)
apart-flat f [] apart each alone = tt
apart-flat f (x ∷ xs) apart each alone =
    apart-append (f x) (flat_map f xs) (each x (inl refl)) (apart-flat f xs apart.1 (λ y h. each y (inr h)) (λ y z b h g. alone y z b (inr h) (inr g)))
    (λ b h g. let found = of-flat f b xs g in apart.0 (subst (λ y. IsIn y xs) (sym (alone x found.0 b (inl refl) (inr found.1) h found.2)) found.1))

-- ---- module instances

module _ (s : Structure) where
  child-shape : (q : Path) (o : Option ModuleView) (c : Path) → IsIn c (children_in s q o) → (i : Name) × (c ≡ i ∷ q)
  child-shape q None c h = absurd h
  child-shape q (Some m) c h = let found = of-map (λ (x : InstanceView). x.name ∷ q) c (filter (λ (x : InstanceView). is_some (module_named s x.target)) m.instances) h in (found.0.name, found.2)

  names-tell : (q : Path) (a b : Name) → a ∷ q ≡ b ∷ q → a ≡ b
  names-tell q a b e = cc

  named-apart : (q : Path) (xs : List InstanceView) → are_apart (map (λ (x : InstanceView). x.name) xs) ≡ true → IsApart (map (λ (x : InstanceView). x.name ∷ q) (filter (λ (x : InstanceView). is_some (module_named s x.target)) xs))
  named-apart q [] e = tt
  named-apart q (x ∷ xs) e = by (is_some (module_named s x.target)) (named-apart q xs (other (not (list_any (bytes_eq x.name) names)) (are_apart names) e))
    where
      names : List Name
      names = map (λ (y : InstanceView). y.name) xs

      kept : List InstanceView
      kept = filter (λ (y : InstanceView). is_some (module_named s y.target)) xs

      absent : IsIn (x.name ∷ q) (map (λ (y : InstanceView). y.name ∷ q) kept) → ⊥
      absent h =
          let found = of-map (λ (y : InstanceView). y.name ∷ q) (x.name ∷ q) kept h in
          let member = (of-filter (λ (y : InstanceView). is_some (module_named s y.target)) found.0 xs found.1).0 in
          let same : bytes_eq x.name found.0.name ≡ true = ap (bytes_eq x.name) (sym (names-tell q x.name found.0.name found.2)) ∙ name-self x.name in
          let there : list_any (bytes_eq x.name) names ≡ true = any-in (bytes_eq x.name) found.0.name names (in-map (λ (y : InstanceView). y.name) found.0 xs member) same in
          false≢true (ap not (sym there) ∙ one (not (list_any (bytes_eq x.name) names)) (are_apart names) e)

      by : (b : Bool) → IsApart (map (λ (y : InstanceView). y.name ∷ q) kept) → IsApart (map (λ (y : InstanceView). y.name ∷ q) (cond b (x ∷ kept) kept))
      by true more = (absent, more)
      by false more = more

  pub drop-tail : (k : ℕ) (y : Path) (i : Name) (q : Path) → drop k y ≡ i ∷ q → drop (suc k) y ≡ q
  drop-tail zero y i q e = ap (drop 1) e
  drop-tail (suc k) [] i q e = absurd cc
  drop-tail (suc k) (x ∷ y) i q e = drop-tail k y i q e

  -- what is below an instance ends in its path
  under : (depth : ℕ) (q y : Path) → IsIn y (below s depth q) → (k : ℕ) × (drop k y ≡ q) × (length y ≡ k + length q)
  under zero q y h = absurd h
  under (suc depth) q y (inl is) = let long : length y ≡ length q = ap length is in (0, is, omega (arith, long))
  under (suc depth) q y (inr h) =
      let found = of-flat (below s depth) y (children s q) h in
      let shape = child-shape q (module_at s q) found.0 found.1 in
      let deep = under depth found.0 y found.2 in
      let long : length found.0 ≡ suc (length q) = ap length shape.1 in
      (suc deep.0, drop-tail deep.0 y shape.0 q (deep.1 ∙ shape.1), omega (arith, deep.2, long))

  module _ (names : has_names_apart s.modules ≡ true) where
    children-apart : (q : Path) (o : Option ModuleView) → module_at s q ≡ o → IsApart (children_in s q o)
    children-apart q None e = tt
    children-apart q (Some m) e =
        let all : are_apart (names_in m) ≡ true = of-all (λ (k : ModuleView). are_apart (names_in k)) m s.modules (other (are_apart (map (λ (k : ModuleView). k.name) s.modules)) (list_all (λ (k : ModuleView). are_apart (names_in k)) s.modules) names) (from-modules s q m e) in
        named-apart q m.instances
        (apart-right (map (λ (n : NetView). n.name) m.nets) (map (λ (x : InstanceView). x.name) m.instances)
        (apart-right (map (λ (q : PortView). q.name) m.ports) (map (λ (n : NetView). n.name) m.nets ++ map (λ (x : InstanceView). x.name) m.instances) all))

    below-apart : (depth : ℕ) (q : Path) → IsApart (below s depth q)
    below-apart zero q = tt
    below-apart (suc depth) q = (not-below, apart-flat (below s depth) (children s q) (children-apart q (module_at s q) refl) (λ c h. below-apart depth c) alone)
      where
        not-below : IsIn q (flat_map (below s depth) (children s q)) → ⊥
        not-below h =
            let found = of-flat (below s depth) q (children s q) h in
            let shape = child-shape q (module_at s q) found.0 found.1 in
            let deep = under depth found.0 q found.2 in
            let long : length found.0 ≡ suc (length q) = ap length shape.1 in
            omega (arith, deep.2, long)

        alone : (x y b : Path) → IsIn x (children s q) → IsIn y (children s q) → IsIn b (below s depth x) → IsIn b (below s depth y) → x ≡ y
        alone x y b h g u v =
            let one = under depth x b u in
            let two = under depth y b v in
            let long : length x ≡ suc (length q) = ap length (child-shape q (module_at s q) x h).1 in
            let also : length y ≡ suc (length q) = ap length (child-shape q (module_at s q) y g).1 in
            let same : one.0 ≡ two.0 = omega (arith, one.2, two.2, long, also) in
            sym one.1 ∙ (ap (λ k. drop k b) same ∙ two.1)

    pub instances-apart : IsApart (module_instances s)
    unfolding module_instances
    instances-apart = below-apart 64 []

-- ---- the instance in which an operator stands

pub record HasModule (s : Structure) (x : Path) : Type 0 where
  pub inner : ModuleView
  pub at : module_at s x ≡ Some inner

bits-some : (s : Structure) (y : Path) (m : ModuleView) → module_at s y ≡ Some m → bits_of s y ≡ flat_map (λ (q : PortView). map (λ i. record { path = y; port = q; index = i }) (indices q.range)) m.ports
bits-some s y m e = rw (e) refl

bits-none : (s : Structure) (y : Path) → module_at s y ≡ None → bits_of s y ≡ []
bits-none s y e = rw (e) refl

pub bit-module : (p : Project) (b : BoundaryBit) → IsIn b (boundary p.structure p.intent) → HasModule p.structure b.path
bit-module p b h =
    let found = of-flat (bits_of p.structure) b (filter (is_boundary p.intent) (module_instances p.structure)) h in
    by found.0 (module_at p.structure found.0) refl found.2
  where
    by : (y : Path) (o : Option ModuleView) → module_at p.structure y ≡ o → IsIn b (bits_of p.structure y) → HasModule p.structure b.path
    by y None f g = absurd (subst (λ l. IsIn b l) (bits-none p.structure y f) g)
    by y (Some m) f g =
        let port = of-flat (λ (q : PortView). map (λ i. record { path = y; port = q; index = i }) (indices q.range)) b m.ports (subst (λ l. IsIn b l) (bits-some p.structure y m f) g) in
        let bit = of-map (λ i. record { path = y; port = port.0; index = i }) b (indices port.0.range) port.2 in
        record { inner = m; at = ap (λ (c : BoundaryBit). module_at p.structure c.path) bit.2 ∙ f }

parent-module : (s : Structure) (y : Path) → HasModule s y → HasModule s (parent_of y)
parent-module s [] h = h
parent-module s (i ∷ y) h =
    let above = then_is (λ (k : ModuleView). option_and_then (λ (z : InstanceView). module_named s z.target) (instance_named k i)) (module_at s y) h.inner h.at in
    record { inner = above.0; at = above.1 }

near-by : (x : Path) (side : Option Side) (location : Location) → (path_by x side location ≡ x) ⊎ (path_by x side location ≡ parent_of x)
near-by x (Some Upper) Own = inl refl
near-by x (Some Upper) Parent = inr refl
near-by x (Some Lower) location = inr refl
near-by x None location = inr refl

-- what is asked for is what stands, at its path, with the cell that was chosen
pub record IsStanding (p : Project) (l : Lists) (o : OperatorAt) (s : Standing) : Type 0 where
  pub asked : s.asked ≡ o
  pub path : operator_path p o ≡ Some s.path
  pub cell : cell_numbered p (operator_chosen p l s.path o.operator) ≡ Some s.cell

standing-by : (p : Project) (l : Lists) (o : OperatorAt) (x : Option Path) (s : Standing) → operator_path p o ≡ x → standing_at p l o x ≡ Some s → IsStanding p l o s
standing-by p l o None s path e = absurd cc
standing-by p l o (Some x) s path e =
    let found = then_is (λ c. Some (record { asked = o; path = x; cell = c })) (cell_numbered p (operator_chosen p l x o.operator)) s e in
    let both : Some (record { asked = o; path = x; cell = found.0 }) ≡ Some s = found.2 in
    inside found.0 found.1 (record { asked = o; path = x; cell = found.0 }) refl refl refl both
  where
    inside : (c : _) → cell_numbered p (operator_chosen p l x o.operator) ≡ Some c → (t : Standing) → t.asked ≡ o → t.path ≡ x → t.cell ≡ c → Some t ≡ Some s → IsStanding p l o s
    inside c chosen t one two three both =
        let same : t ≡ s = cc in
        let here : s.path ≡ x = ap (λ (r : Standing). r.path) (sym same) ∙ two in
        let of : s.cell ≡ c = ap (λ (r : Standing). r.cell) (sym same) ∙ three in
        record {
          asked = ap (λ (r : Standing). r.asked) (sym same) ∙ one;
          path = path ∙ ap (λ y. Some y) (sym here);
          cell = ap (λ y. cell_numbered p (operator_chosen p l y o.operator)) here ∙ (chosen ∙ ap (λ y. Some y) (sym of));
        }

pub is-standing : (p : Project) (l : Lists) (o : OperatorAt) (s : Standing) → standing p l o ≡ Some s → IsStanding p l o s
is-standing p l o s e = standing-by p l o (operator_path p o) s refl e

pub asked-bit : (p : Project) (o : OperatorAt) → IsIn o (all_operators p) → IsIn o.bit (boundary p.structure p.intent)
asked-bit p o h =
    let at = of-flat (operators_of_bit p) o (boundary p.structure p.intent) h in
    let made = of-map (λ x. record { bit = at.0; number = x.0; operator = x.1 }) o (numbered 0 (chain_of p at.0)) at.2 in
    subst (λ b. IsIn b (boundary p.structure p.intent)) (sym (ap (λ (r : OperatorAt). r.bit) made.2)) at.1

pub stands-near : (p : Project) (l : Lists) (o : OperatorAt) (s : Standing) → operator_path p o ≡ Some s.path → (s.path ≡ o.bit.path) ⊎ (s.path ≡ parent_of o.bit.path)
stands-near p l o s e =
    let found = then_is (λ (t : Strategy). Some (path_by o.bit.path (side) t.location)) (slice_get p.intent.strategies (strategy_of o.operator)) s.path e in
    inside (path_by o.bit.path side found.0.location) found.2 (near-by o.bit.path side found.0.location)
  where
    side : Option Side
    side = slice_get (sides_of p (crossing p.structure p.intent (fuel_of p.structure) o.bit)) o.number

    inside : (y : Path) → Some y ≡ Some s.path → (y ≡ o.bit.path) ⊎ (y ≡ parent_of o.bit.path) → (s.path ≡ o.bit.path) ⊎ (s.path ≡ parent_of o.bit.path)
    inside y both near = let same : y ≡ s.path = cc in elim near [ inl own ↦ inl (sym same ∙ own) | inr up ↦ inr (sym same ∙ up) ]

-- an operator of the plan is of a boundary bit, and stands in a module instance
pub record IsPlanned (p : Project) (s : Standing) : Type 0 where
  pub bit : IsIn s.asked.bit (boundary p.structure p.intent)
  pub inner : HasModule p.structure s.path

pub is-planned : (p : Project) (l : Lists) (s : Standing) → IsIn s (plan p l).operators → IsPlanned p s
is-planned p l s h =
    let found = of-some (standing p l) s (all_operators p) h in
    let is = is-standing p l found.0 s found.2 in
    let bit = asked-bit p found.0 found.1 in
    let its = bit-module p found.0.bit bit in
    record {
      bit = subst (λ (o : OperatorAt). IsIn o.bit (boundary p.structure p.intent)) (sym is.asked) bit;
      inner = elim (stands-near p l found.0 s is.path) [
        | inl own ↦ subst (HasModule p.structure) (sym own) its
        | inr up ↦ subst (HasModule p.structure) (sym up) (parent-module p.structure found.0.bit.path its)
      ];
    }

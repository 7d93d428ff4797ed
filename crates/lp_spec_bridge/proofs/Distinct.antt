-- Where the names of each module are apart, no key of a design stands twice.
use Rattle.std.proofs.Common.{◌⊎◌, ◌≡◌, ◌≤◌, ◌+◌, ◌-◌, ℕ, zero, suc, Bool, true, false, not, ◌&&◌, List, [], ◌∷◌, ◌++◌, map, length, drop, Option, Some, None, inl, inr, refl, sym, ap, ◌∙◌, subst, arith}
use Rattle.std.specs.Prelude.{filter, flat_map, bytes_eq, is_some, option_and_then, if◌then◌else◌}
use Rattle.std.specs.List.{list_all}
use Rattle.std.proofs.lemmas.List.{drop-drop, map-id}
use Rattle.lp_model.specs.declared.netlist.BitRange.{BitRange}
use Rattle.lp_model.specs.NetlistView.{PortView, NetView, InstanceView, ModuleView}
use Rattle.lp_model.specs.LibraryView.{CellView}
use Rattle.lp_spec_design.specs.Keys.{Name, Path, Node, Inner, Outer, Fixed}
use Rattle.lp_spec_design.specs.Netlists.{Structure, is_instantiated, module_named, cell_named, instance_named, module_at, indices}
use Rattle.lp_spec_design.specs.Instances.{Placed, children_in, children, below, module_instances, cells_of_target, cells_of, cells_in, cells_below, cell_instances}
use Rattle.lp_spec_design.specs.Winners.{IsIn}
use Rattle.lp_spec_design.specs.Nodes.{nodes_in, inner_nodes, outer_in, nodes_of}
use Rattle.lp_spec_design.proofs.Members.{in-left, in-right, in-either, in-map, of-map, of-flat, of-filter}
use Rattle.lp_spec_design.proofs.Sources.{first_in, then_is}
use Rattle.lp_spec_bridge.specs.Keyed.{IsApart, is_net_bit}
use Rattle.lp_spec_bridge.specs.Names.{HasNamesApart}
use Rattle.lp_spec_bridge.proofs.Driven.{indices-apart, no-outer, no-fixed}

-- ---- lists

pub apart-append : {A : Type 0} (xs ys : List A) → IsApart xs → IsApart ys → ((z : A) → IsIn z xs → IsIn z ys → ⊥) → IsApart (xs ++ ys)
apart-append [] ys a b out = b
apart-append (x ∷ xs) ys a b out = (
  (λ h. elim (in-either x xs ys h) [ inl l ↦ a.0 l | inr l ↦ out x (inl refl) l ]),
  apart-append xs ys a.1 b (λ z l. out z (inr l)),
)

-- the two parts of a list without repetition
pub apart-left : {A : Type 0} (xs ys : List A) → IsApart (xs ++ ys) → IsApart xs
apart-left [] ys a = tt
apart-left (x ∷ xs) ys a = ((λ h. a.0 (in-left x xs ys h)), apart-left xs ys a.1)

pub apart-right : {A : Type 0} (xs ys : List A) → IsApart (xs ++ ys) → IsApart ys
apart-right [] ys a = a
apart-right (x ∷ xs) ys a = apart-right xs ys a.1

pub apart-parts : {A : Type 0} (xs ys : List A) (z : A) → IsApart (xs ++ ys) → IsIn z xs → IsIn z ys → ⊥
apart-parts [] ys z a h g = h
apart-parts (x ∷ xs) ys z a (inl is) g = a.0 (subst (λ y. IsIn y (xs ++ ys)) is (in-right z xs ys g))
apart-parts (x ∷ xs) ys z a (inr h) g = apart-parts xs ys z a.1 h g

-- members that a function tells apart are apart, also those that pass a test
pub apart-filter : {A B C : Type 0} (f : A → B) (g : A → C) (t : A → Bool) (xs : List A) → IsApart (map f xs) → ((x y : A) → g x ≡ g y → f x ≡ f y) → IsApart (map g (filter t xs))
apart-filter f g t [] a inside = tt
apart-filter f g t (x ∷ xs) a inside = by (t x) (apart-filter f g t xs a.1 inside)
  where
    by : (b : Bool) → IsApart (map g (filter t xs)) → IsApart (map g (if b then x ∷ filter t xs else filter t xs))
    by true rest = (
      (λ h.
          let y = of-map g (g x) (filter t xs) h in
          a.0 (subst (λ z. IsIn z (map f xs)) (sym (inside x y.0 y.2)) (in-map f y.0 xs (of-filter t y.0 xs y.1).0))),
      rest,
    )
    by false rest = rest

pub apart-map : {A B C : Type 0} (f : A → B) (g : A → C) (xs : List A) → IsApart (map f xs) → ((x y : A) → g x ≡ g y → f x ≡ f y) → IsApart (map g xs)
apart-map f g [] a inside = tt
apart-map f g (x ∷ xs) a inside = (
  (λ h. let y = of-map g (g x) xs h in a.0 (subst (λ z. IsIn z (map f xs)) (sym (inside x y.0 y.2)) (in-map f y.0 xs y.1))),
  apart-map f g xs a.1 inside,
)

-- parts, each without repetition, of which no two with different keys have a common member
pub apart-flat : {A B K : Type 0} (key : A → K) (f : A → List B) (xs : List A) → IsApart (map key xs) → ((x : A) → IsIn x xs → IsApart (f x)) → ((x y : A) (b : B) → IsIn x xs → IsIn y xs → IsIn b (f x) → IsIn b (f y) → key x ≡ key y) → IsApart (flat_map f xs)
apart-flat key f [] a each common = tt
apart-flat key f (x ∷ xs) a each common =
    apart-append (f x) (flat_map f xs) (each x (inl refl)) (apart-flat key f xs a.1 (λ y h. each y (inr h)) (λ y z b hy hz. common y z b (inr hy) (inr hz)))
    (λ b l r.
    let y = of-flat f b xs r in
    a.0 (subst (λ z. IsIn z (map key xs)) (sym (common x y.0 b (inl refl) (inr y.1) l y.2)) (in-map key y.0 xs y.1)))

-- ---- instances

-- a path is another one with more names in front
abbrev pub IsUnder : Path → Path → Type 0
IsUnder p q = (length p ≤ length q) × (drop (length q - length p) q ≡ p)

pub under-self : (p : Path) → IsUnder p p
under-self p = let zero-off : length p - length p ≡ 0 = omega arith in (omega arith, ap (λ n. drop n p) zero-off)

pub under-child : (n : Name) (p q : Path) → IsUnder (n ∷ p) q → IsUnder p q
under-child n p q u =
    let more : length q - length p ≡ (length q - suc (length p)) + 1 = omega (arith, u.0) in
    (omega (arith, u.0), ap (λ k. drop k q) more ∙ sym (drop-drop 1 (length q - suc (length p)) q) ∙ ap (drop 1) u.1)

-- a path stands under one child only
pub under-one : (m n : Name) (p q : Path) → IsUnder (m ∷ p) q → IsUnder (n ∷ p) q → m ≡ n
under-one m n p q u v = let same : m ∷ p ≡ n ∷ p = sym u.1 ∙ v.1 in cc

module _ (s : Structure) where
  pub below-under : (depth : ℕ) (p q : Path) → IsIn q (below s depth p) → IsUnder p q
  below-under zero p q h = absurd h
  below-under (suc depth) p q (inl is) = subst (IsUnder p) (sym is) (under-self p)
  below-under (suc depth) p q (inr h) =
      let c = of-flat (below s depth) q (children s p) h in
      child (module_at s p) c.0 c.1 (below-under depth c.0 q c.2)
    where
      child : (o : Option ModuleView) (c : Path) → IsIn c (children_in s p o) → IsUnder c q → IsUnder p q
      child None c h u = absurd h
      child (Some m) c h u = let x = of-map (λ (x : InstanceView). x.name ∷ p) c (filter (λ (x : InstanceView). is_some (module_named s x.target)) m.instances) h in under-child x.0.name p q (subst (λ z. IsUnder z q) x.2 u)

  -- the module of an instance is one of the netlist's
  pub module-in : (p : Path) (m : ModuleView) → module_at s p ≡ Some m → IsIn m s.modules
  module-in [] m e = (first_in (λ (x : ModuleView). not (is_instantiated s x.name)) s.modules m e).0
  module-in (i ∷ p) m e =
      let above = then_is (λ (x : ModuleView). option_and_then (λ (y : InstanceView). module_named s y.target) (instance_named x i)) (module_at s p) m e in
      let inst = then_is (λ (y : InstanceView). module_named s y.target) (instance_named above.0 i) m above.2 in
      (first_in (λ (x : ModuleView). bytes_eq x.name inst.0.target) s.modules m inst.2).0

  module _ (apart : HasNamesApart s) where
    children-apart : (p : Path) (o : Option ModuleView) → module_at s p ≡ o → IsApart (children_in s p o)
    children-apart p None e = tt
    children-apart p (Some m) e =
        apart-filter (λ (x : InstanceView). x.name) (λ (x : InstanceView). x.name ∷ p) (λ (x : InstanceView). is_some (module_named s x.target)) m.instances (apart.instances m (module-in p m e)) (λ x y same. cc)

    child-named : (p : Path) (o : Option ModuleView) (c : Path) → IsIn c (children_in s p o) → (n : Name) × (c ≡ n ∷ p)
    child-named p None c h = absurd h
    child-named p (Some m) c h = let x = of-map (λ (x : InstanceView). x.name ∷ p) c (filter (λ (x : InstanceView). is_some (module_named s x.target)) m.instances) h in (x.0.name, x.2)

    pub below-apart : (depth : ℕ) (p : Path) → IsApart (below s depth p)
    below-apart zero p = tt
    below-apart (suc depth) p = (
      (λ h.
          let c = of-flat (below s depth) p (children s p) h in
          let n = child-named p (module_at s p) c.0 c.1 in
          let u = subst (λ z. IsUnder z p) n.1 (below-under depth c.0 p c.2) in
          omega (arith, u.0)),
      apart-flat (λ (c : Path). c) (below s depth) (children s p) (subst IsApart (sym (map-id (children s p))) (children-apart p (module_at s p) refl)) (λ c h. below-apart depth c)
          (λ c d q hc hd lc ld.
          let m = child-named p (module_at s p) c hc in
          let n = child-named p (module_at s p) d hd in
          let one = under-one m.0 n.0 p q (subst (λ z. IsUnder z q) m.1 (below-under depth c q lc)) (subst (λ z. IsUnder z q) n.1 (below-under depth d q ld)) in
          m.1 ∙ ap (λ z. z ∷ p) one ∙ sym n.1),
    )

    pub instances_apart : IsApart (module_instances s)
    unfolding module_instances
    instances_apart = below-apart 64 []

    -- ---- cell instances

    -- what an instance stands for: cells inside it, or itself
    abbrev StandsFor : Path → Name → Placed → Type 0
    StandsFor p n a = IsUnder (n ∷ p) a.path ⊎ ((a.path ≡ p) × (a.instance ≡ n))

    stands-apart : (p : Path) (m n : Name) (a : Placed) → StandsFor p m a → StandsFor p n a → m ≡ n
    stands-apart p m n a (inl u) (inl v) = under-one m n p a.path u v
    stands-apart p m n a (inl u) (inr v) = absurd (omega (arith, u.0, ap (λ (q : Path). length q) v.0))
    stands-apart p m n a (inr u) (inl v) = absurd (omega (arith, v.0, ap (λ (q : Path). length q) u.0))
    stands-apart p m n a (inr u) (inr v) = sym u.1 ∙ v.1

    under-of : (p : Path) (n : Name) (a : Placed) → StandsFor p n a → IsUnder p a.path
    under-of p n a (inl u) = under-child n p a.path u
    under-of p n a (inr e) = subst (IsUnder p) (sym e.0) (under-self p)

    target-stands : (depth : ℕ) (p : Path) (n : Name) (o : Option ModuleView) (c : Option CellView) (a : Placed) → ((q : Path) (b : Placed) → IsIn b (cells_below s depth q) → IsUnder q b.path) → IsIn a (cells_of_target (cells_below s depth) p n o c) → StandsFor p n a
    target-stands depth p n (Some m) c a inside h = inl (inside (n ∷ p) a h)
    target-stands depth p n None (Some c) a inside (inl is) = inr (ap (λ z. z.path) is, ap (λ z. z.instance) is)
    target-stands depth p n None (Some c) a inside (inr h) = absurd h
    target-stands depth p n None None a inside h = absurd h

    cells-under : (depth : ℕ) (p : Path) (a : Placed) → IsIn a (cells_below s depth p) → IsUnder p a.path
    cells-under zero p a h = absurd h
    cells-under (suc depth) p a h = by (module_at s p) h (λ q b g. cells-under depth q b g)
      where
        by : (o : Option ModuleView) → IsIn a (cells_in s (cells_below s depth) p o) → ((q : Path) (b : Placed) → IsIn b (cells_below s depth q) → IsUnder q b.path) → IsUnder p a.path
        by None g inside = absurd g
        by (Some m) g inside =
            let x = of-flat (cells_of s (cells_below s depth) p) a m.instances g in
            under-of p x.0.name a (target-stands depth p x.0.name (module_named s x.0.target) (cell_named s x.0.target) a inside x.2)

    target-apart : (inside : Path → List Placed) (p : Path) (n : Name) (o : Option ModuleView) (c : Option CellView) → ((q : Path) → IsApart (inside q)) → IsApart (cells_of_target inside p n o c)
    target-apart inside p n (Some m) c each = each (n ∷ p)
    target-apart inside p n None (Some c) each = ((λ h. h), tt)
    target-apart inside p n None None each = tt

    cells-apart : (depth : ℕ) (p : Path) → IsApart (cells_below s depth p)
    cells-apart zero p = tt
    cells-apart (suc depth) p = by (module_at s p) refl (λ q. cells-apart depth q)
      where
        by : (o : Option ModuleView) → module_at s p ≡ o → ((q : Path) → IsApart (cells_below s depth q)) → IsApart (cells_in s (cells_below s depth) p o)
        by None e each = tt
        by (Some m) e each =
            let inside = cells_below s depth in
            let stands = λ (x : InstanceView) (a : Placed) (h : IsIn a (cells_of s (cells_below s depth) p x)). target-stands depth p x.name (module_named s x.target) (cell_named s x.target) a (cells-under depth) h in
            apart-flat (λ (x : InstanceView). x.name) (cells_of s (cells_below s depth) p) m.instances (apart.instances m (module-in p m e)) (λ x h. target-apart (cells_below s depth) p x.name (module_named s x.target) (cell_named s x.target) each)
            (λ x y a hx hy ax ay. stands-apart p x.name y.name a (stands x a ax) (stands y a ay))

    pub leaves_apart : IsApart (cell_instances s)
    unfolding cell_instances
    leaves_apart = cells-apart 64 []

    -- ---- nodes

    bits-apart : {A : Type 0} (name : A → Name) (range : A → Option BitRange) (f : Name → Option ℕ → Node) (xs : List A) → IsApart (map name xs) → ((m n : Name) (i j : Option ℕ) → f m i ≡ f n j → (m ≡ n) × (i ≡ j)) → IsApart (flat_map (λ x. map (λ i. f (name x) i) (indices (range x))) xs)
    bits-apart name range f xs names inside =
        apart-flat name (λ x. map (λ i. f (name x) i) (indices (range x))) xs names
        (λ x h. apart-map (λ i. i) (λ i. f (name x) i) (indices (range x)) (subst IsApart (sym (map-id (indices (range x)))) (indices-apart (range x))) (λ i j same. (inside (name x) (name x) i j same).1))
        (λ x y b hx hy bx by.
        let i = of-map (λ i. f (name x) i) b (indices (range x)) bx in
        let j = of-map (λ i. f (name y) i) b (indices (range y)) by in
        (inside (name x) (name y) i.0 j.0 (sym i.2 ∙ j.2)).0)

    nodes-in-apart : (p : Path) (o : Option ModuleView) → module_at s p ≡ o → IsApart (nodes_in p o)
    nodes-in-apart p None e = tt
    nodes-in-apart p (Some m) e =
        let names = apart.nets m (module-in p m e) in
        let ports = map (λ (q : PortView). q.name) m.ports in
        let nets = map (λ (x : NetView). x.name) m.nets in
        let inside : (a b : Name) (i j : Option ℕ) → Inner a i p ≡ Inner b j p → (a ≡ b) × (i ≡ j) = λ a b i j same. (named a b i j same, indexed a b i j same) in
        apart-append (flat_map (λ (x : PortView). map (λ i. Inner x.name i p) (indices x.range)) m.ports) (flat_map (λ (x : NetView). map (λ i. Inner x.name i p) (indices x.range)) m.nets)
        (bits-apart (λ (x : PortView). x.name) (λ (x : PortView). x.range) (λ n i. Inner n i p) m.ports (apart-left ports nets names) inside)
        (bits-apart (λ (x : NetView). x.name) (λ (x : NetView). x.range) (λ n i. Inner n i p) m.nets (apart-right ports nets names) inside)
        (λ z l r.
        let x = of-flat (λ (x : PortView). map (λ i. Inner x.name i p) (indices x.range)) z m.ports l in
        let y = of-flat (λ (x : NetView). map (λ i. Inner x.name i p) (indices x.range)) z m.nets r in
        let i = of-map (λ i. Inner x.0.name i p) z (indices x.0.range) x.2 in
        let j = of-map (λ i. Inner y.0.name i p) z (indices y.0.range) y.2 in
        let same : x.0.name ≡ y.0.name = named x.0.name y.0.name i.0 j.0 (sym i.2 ∙ j.2) in
        apart-parts ports nets x.0.name names (in-map (λ (q : PortView). q.name) x.0 m.ports x.1) (subst (λ n. IsIn n nets) (sym same) (in-map (λ (x : NetView). x.name) y.0 m.nets y.1)))
      where
        named : (a b : Name) (i j : Option ℕ) → Inner a i p ≡ Inner b j p → a ≡ b
        named a b i j same = cc

        indexed : (a b : Name) (i j : Option ℕ) → Inner a i p ≡ Inner b j p → i ≡ j
        indexed a b i j same = cc

    outer-apart : (o : Option ModuleView) → module_at s [] ≡ o → IsApart (outer_in o)
    outer-apart None e = tt
    outer-apart (Some m) e =
        bits-apart (λ (x : PortView). x.name) (λ (x : PortView). x.range) (λ n i. Outer n i) m.ports (apart-left (map (λ (q : PortView). q.name) m.ports) (map (λ (x : NetView). x.name) m.nets) (apart.nets m (module-in [] m e))) (λ a b i j same. (named a b i j same, indexed a b i j same))
      where
        named : (a b : Name) (i j : Option ℕ) → Outer a i ≡ Outer b j → a ≡ b
        named a b i j same = cc

        indexed : (a b : Name) (i j : Option ℕ) → Outer a i ≡ Outer b j → i ≡ j
        indexed a b i j same = cc

    -- a node of an instance is a net bit there
    inner-node : (k : Node) (q : Path) (o : Option ModuleView) → IsIn k (nodes_in q o) → (n : Name) × (i : Option ℕ) × (k ≡ Inner n i q)
    inner-node k q None h = absurd h
    inner-node k q (Some m) h = elim (in-either k (flat_map (λ (x : PortView). map (λ j. Inner x.name j q) (indices x.range)) m.ports) (flat_map (λ (x : NetView). map (λ j. Inner x.name j q) (indices x.range)) m.nets) h) [
      | inl l ↦ let port = of-flat (λ (x : PortView). map (λ j. Inner x.name j q) (indices x.range)) k m.ports l in let bit = of-map (λ j. Inner port.0.name j q) k (indices port.0.range) port.2 in (port.0.name, bit.0, bit.2)
      | inr l ↦ let net = of-flat (λ (x : NetView). map (λ j. Inner x.name j q) (indices x.range)) k m.nets l in let bit = of-map (λ j. Inner net.0.name j q) k (indices net.0.range) net.2 in (net.0.name, bit.0, bit.2)
    ]

    pub nodes_apart : IsApart (nodes_of s)
    unfolding inner_nodes
    nodes_apart =
        apart-append (inner_nodes s) (outer_in (module_at s []))
        (apart-flat (λ (p : Path). p) (λ path. nodes_in path (module_at s path)) (module_instances s) (subst IsApart (sym (map-id (module_instances s))) instances_apart) (λ p h. nodes-in-apart p (module_at s p) refl)
        (λ p q k hp hq kp kq.
        let x = inner-node k p (module_at s p) kp in
        let y = inner-node k q (module_at s q) kq in
        let same : Inner x.0 x.1 p ≡ Inner y.0 y.1 q = sym x.2 ∙ y.2 in
        cc))
        (outer-apart (module_at s []) refl)
        (λ k l r.
        let p = of-flat (λ path. nodes_in path (module_at s path)) k (module_instances s) l in
        let x = inner-node k p.0 (module_at s p.0) p.2 in
        no-outer x.0 x.1 p.0 (module_at s []) (subst (λ z. IsIn z (outer_in (module_at s []))) x.2 r))

all-from-in : {A : Type 0} (p : A → Bool) (xs : List A) → ((x : A) → IsIn x xs → p x ≡ true) → list_all p xs ≡ true
all-from-in p [] h = refl
all-from-in p (x ∷ xs) h = ap (λ b. b && list_all p xs) (h x (inl refl)) ∙ all-from-in p xs (λ y m. h y (inr m))

-- no node is a constant
pub nodes_net_bits : (s : Structure) → list_all is_net_bit (nodes_of s) ≡ true
nodes_net_bits s = all-from-in is_net_bit (nodes_of s) by
  where
    by : (k : Node) → IsIn k (nodes_of s) → is_net_bit k ≡ true
    by (Inner n i p) h = refl
    by (Outer n i) h = refl
    by (Fixed b) h = absurd (no-fixed s b h)

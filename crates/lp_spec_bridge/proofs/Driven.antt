-- What drives a node is what the list of all drives has for it, in the same order.
use Rattle.std.proofs.Common.{◌≡◌, ◌≤◌, ◌+◌, ◌-◌, ℕ, zero, suc, Bool, true, false, not, ◌&&◌, ◌||◌, List, [], ◌∷◌, ◌++◌, map, length, Option, Some, None, inl, inr, refl, sym, ap, ◌∙◌, subst, arith}
use Rattle.std.specs.Prelude.{filter, flat_map, bytes_eq, is_some, option_and_then, unwrap_or, if◌then◌else◌, nat_le}
use Rattle.std.specs.List.{list_any}
use Rattle.std.proofs.lemmas.Bool.{true≢false, eq-eqb}
use Rattle.std.proofs.lemmas.List.{append-nil}
use Rattle.lp_model.specs.declared.netlist.BitRange.{BitRange}
use Rattle.lp_model.specs.NetlistView.{BitView, NetBit, SelectBit, ConstBit, PortView, NetView, InstanceView, AssignView, ModuleView}
use Rattle.lp_model.specs.LibraryView.{PgPinView, PinView, CellView}
use Rattle.lp_spec_design.specs.Keys.{Name, Path, PortBit, AssignBit, Node, Inner, Outer, Fixed, Source, CellPin, SwitchedPin, From, same_index, same_node, same_path}
use Rattle.lp_spec_design.specs.Netlists.{Structure, module_named, cell_named, instance_named, module_at, indices, upward, downward, node_of, is_input, connected}
use Rattle.lp_spec_design.specs.Instances.{module_instances}
use Rattle.lp_spec_design.specs.Graph.{pairs, and_more, some_of, when, joined_outside, from_port, ports_in, joined_inside, from_instance, is_output_pin, touches, from_cell, from_target, from_one, numbered, from_assign, in_module, outside, sources_of}
use Rattle.lp_spec_design.specs.Winners.{IsIn}
use Rattle.lp_spec_design.specs.Reads.{name-true, name-self, path-self, index-true, node-true}
use Rattle.lp_spec_design.specs.Nodes.{nodes_in, inner_nodes, outer_in, nodes_of}
use Rattle.lp_spec_design.proofs.Looped.{outer_by}
use Rattle.lp_spec_design.proofs.Members.{in-either, of-map, of-flat}
use Rattle.lp_spec_bridge.specs.Edges.{Drive, connected_drives, port_drives, output_drives, cell_drives, target_drives, instance_drives, assign_drives, drives_in, outer_drives, drives_of, drivers_among}
use Rattle.lp_spec_bridge.specs.Keyed.{IsApart}
use Rattle.lp_spec_bridge.specs.Driven.{JoinsSingleBits}

-- ---- lists

pub flat-same : {A B : Type 0} (f g : A → List B) (xs : List A) → ((x : A) → IsIn x xs → f x ≡ g x) → flat_map f xs ≡ flat_map g xs
flat-same f g [] h = refl
flat-same f g (x ∷ xs) h = ap (λ r. r ++ flat_map f xs) (h x (inl refl)) ∙ ap (λ r. g x ++ r) (flat-same f g xs (λ y m. h y (inr m)))

pub flat-none : {A B : Type 0} (f : A → List B) (xs : List A) → ((x : A) → IsIn x xs → f x ≡ []) → flat_map f xs ≡ []
flat-none f [] h = refl
flat-none f (x ∷ xs) h = ap (λ r. r ++ flat_map f xs) (h x (inl refl)) ∙ flat-none f xs (λ y m. h y (inr m))

-- only one member of a list without repetition counts
pub flat-only : {A B : Type 0} (g : A → List B) (xs : List A) (p : A) → IsApart xs → IsIn p xs → ((q : A) → IsIn q xs → (q ≡ p → ⊥) → g q ≡ []) → flat_map g xs ≡ g p
flat-only g [] p apart here none = absurd here
flat-only g (x ∷ xs) p apart (inl is) none =
    ap (λ r. g x ++ r) (flat-none g xs (λ q m. none q (inr m) (λ e. apart.0 (subst (λ z. IsIn z xs) (e ∙ is) m))))
    ∙ append-nil (g x) ∙ ap g (sym is)
flat-only g (x ∷ xs) p apart (inr rest) none =
    ap (λ r. r ++ flat_map g xs) (none x (inl refl) (λ e. apart.0 (subst (λ z. IsIn z xs) (sym e) rest)))
    ∙ flat-only g xs p apart.1 rest (λ q m. none q (inr m))

-- two filters, of which the first has a further test
flat-tests : {A B : Type 0} (f g : A → List B) (a b : A → Bool) (xs : List A) → ((x : A) → a x ≡ true → f x ≡ g x) → ((x : A) → a x ≡ false → g x ≡ []) → flat_map f (filter (λ x. a x && b x) xs) ≡ flat_map g (filter b xs)
flat-tests f g a b [] same none = refl
flat-tests f g a b (x ∷ xs) same none = by (a x) (b x) refl (flat-tests f g a b xs same none)
  where
    by : (c d : Bool) → a x ≡ c → flat_map f (filter (λ y. a y && b y) xs) ≡ flat_map g (filter b xs) → flat_map f (if c && d then x ∷ filter (λ y. a y && b y) xs else filter (λ y. a y && b y) xs) ≡ flat_map g (if d then x ∷ filter b xs else filter b xs)
    by true true e more = ap (λ r. r ++ flat_map f (filter (λ y. a y && b y) xs)) (same x e) ∙ ap (λ r. g x ++ r) more
    by true false e more = more
    by false true e more = more ∙ ap (λ r. r ++ flat_map g (filter b xs)) (sym (none x e))
    by false false e more = more

-- ---- the drives of a node among others

module _ (k : Node) where
  among-append : (xs ys : List Drive) → drivers_among k (xs ++ ys) ≡ drivers_among k xs ++ drivers_among k ys
  among-append [] ys = refl
  among-append (x ∷ xs) ys = by (same_node x.0 k) (among-append xs ys)
    where
      by : (b : Bool) → drivers_among k (xs ++ ys) ≡ drivers_among k xs ++ drivers_among k ys
          → map (λ (z : Drive). z.1) (if b then x ∷ filter (λ (z : Drive). same_node z.0 k) (xs ++ ys) else filter (λ (z : Drive). same_node z.0 k) (xs ++ ys))
          ≡ map (λ (z : Drive). z.1) (if b then x ∷ filter (λ (z : Drive). same_node z.0 k) xs else filter (λ (z : Drive). same_node z.0 k) xs) ++ drivers_among k ys
      by true more = ap (λ r. x.1 ∷ r) more
      by false more = more

  among-flat : {A : Type 0} (f : A → List Drive) (xs : List A) → drivers_among k (flat_map f xs) ≡ flat_map (λ z. drivers_among k (f z)) xs
  among-flat f [] = refl
  among-flat f (x ∷ xs) = among-append (f x) (flat_map f xs) ∙ ap (λ r. drivers_among k (f x) ++ r) (among-flat f xs)

  -- none of the drives is one of the node
  among-none : (xs : List Drive) → ((x : Drive) → IsIn x xs → same_node x.0 k ≡ false) → drivers_among k xs ≡ []
  among-none [] h = refl
  among-none (x ∷ xs) h =
      ap (λ b. map (λ (z : Drive). z.1) (if b then x ∷ filter (λ (z : Drive). same_node z.0 k) xs else filter (λ (z : Drive). same_node z.0 k) xs)) (h x (inl refl))
      ∙ among-none xs (λ y m. h y (inr m))

  among-map : {Z : Type 0} (c : Z → Bool) (x : Z → Source) (d : Z → Drive) → ((z : Z) → same_node (d z).0 k ≡ c z) → ((z : Z) → c z ≡ true → (d z).1 ≡ x z) → (zs : List Z) → some_of (λ z. when (c z) (x z)) zs ≡ drivers_among k (map d zs)
  among-map c x d test is [] = refl
  among-map c x d test is (z ∷ zs) =
      by (c z) refl (among-map c x d test is zs)
      ∙ ap (λ b. map (λ (y : Drive). y.1) (if b then d z ∷ filter (λ (y : Drive). same_node y.0 k) (map d zs) else filter (λ (y : Drive). same_node y.0 k) (map d zs))) (sym (test z))
    where
      by : (b : Bool) → c z ≡ b → some_of (λ y. when (c y) (x y)) zs ≡ drivers_among k (map d zs)
          → and_more (when b (x z)) (some_of (λ y. when (c y) (x y)) zs) ≡ map (λ (y : Drive). y.1) (if b then d z ∷ filter (λ (y : Drive). same_node y.0 k) (map d zs) else filter (λ (y : Drive). same_node y.0 k) (map d zs))
      by true e more = ap (λ r. x z ∷ r) more ∙ ap (λ y. y ∷ drivers_among k (map d zs)) (sym (is z e))
      by false e more = more

  among-then : {A : Type 0} (f : A → Option (List Source)) (g : A → Option (List Drive)) (o : Option A) → ((x : A) → unwrap_or (f x) [] ≡ drivers_among k (unwrap_or (g x) [])) → unwrap_or (option_and_then f o) [] ≡ drivers_among k (unwrap_or (option_and_then g o) [])
  among-then f g None h = refl
  among-then f g (Some x) h = h x

-- ---- indices

index-swap : (i j : Option ℕ) → same_index i j ≡ same_index j i
index-swap i j = by (same_index i j) (same_index j i) refl refl
  where
    self : (x : Option ℕ) → same_index x x ≡ true
    self None = refl
    self (Some x) = eq-eqb x x refl

    by : (a b : Bool) → same_index i j ≡ a → same_index j i ≡ b → a ≡ b
    by true true e f = refl
    by false false e f = refl
    by true false e f = let is : i ≡ j = index-true i j e in absurd (true≢false (sym (ap (λ x. same_index x i) (sym is) ∙ self i) ∙ f))
    by false true e f = let is : j ≡ i = index-true j i f in absurd (true≢false (sym (ap (λ x. same_index x j) (sym is) ∙ self j) ∙ e))

upward-from : (n from : ℕ) (i : Option ℕ) → IsIn i (map (λ x. Some x) (upward n from)) → (k : ℕ) × (i ≡ Some k) × (from ≤ k)
upward-from zero from i h = absurd h
upward-from (suc n) from i h = elim h [
  | inl is ↦ (from, is, omega arith)
  | inr rest ↦ let found = upward-from n (from + 1) i rest in (found.0, found.1, omega (arith, found.2))
]

upward-apart : (n from : ℕ) → IsApart (map (λ (x : ℕ). Some x) (upward n from))
upward-apart zero from = tt
upward-apart (suc n) from = ((λ h. let found = upward-from n (from + 1) (Some from) h in let same : from ≡ found.0 = cc in omega (arith, found.2)), upward-apart n (from + 1))

downward-from : (n from : ℕ) (i : Option ℕ) → n ≤ from + 1 → IsIn i (map (λ x. Some x) (downward n from)) → (k : ℕ) × (i ≡ Some k) × (k ≤ from)
downward-from zero from i few h = absurd h
downward-from (suc zero) from i few (inl is) = (from, is, omega arith)
downward-from (suc zero) from i few (inr rest) = absurd rest
downward-from (suc (suc n)) from i few (inl is) = (from, is, omega arith)
downward-from (suc (suc n)) from i few (inr rest) = let found = downward-from (suc n) (from - 1) i (omega arith) rest in (found.0, found.1, omega (arith, found.2))

downward-apart : (n from : ℕ) → n ≤ from + 1 → IsApart (map (λ (x : ℕ). Some x) (downward n from))
downward-apart zero from few = tt
downward-apart (suc zero) from few = ((λ h. h), tt)
downward-apart (suc (suc n)) from few =
    ((λ h. let found = downward-from (suc n) (from - 1) (Some from) (omega arith) h in let same : from ≡ found.0 = cc in omega (arith, found.2)), downward-apart (suc n) (from - 1) (omega arith))

-- no bit of a net stands twice
pub indices-apart : (r : Option BitRange) → IsApart (indices r)
indices-apart None = ((λ h. h), tt)
indices-apart (Some r) = by (nat_le r.left r.right)
  where
    by : (b : Bool) → IsApart (map (λ (x : ℕ). Some x) (if b then upward (r.right + 1 - r.left) r.left else downward (r.left + 1 - r.right) r.left))
    by true = upward-apart (r.right + 1 - r.left) r.left
    by false = downward-apart (r.left + 1 - r.right) r.left (omega arith)

missed : (i : Option ℕ) (zs : List (Option ℕ)) → (IsIn i zs → ⊥) → list_any (same_index i) zs ≡ false
missed i [] out = refl
missed i (z ∷ zs) out = step (same_index i z) refl (missed i zs (λ m. out (inr m)))
  where
    step : (b : Bool) → same_index i z ≡ b → list_any (same_index i) zs ≡ false → (b || list_any (same_index i) zs) ≡ false
    step true e more = absurd (out (inl (index-true i z e)))
    step false e more = more

-- of the bits of a net one is hit, where the net has it
one-hit : {B : Type 0} (i : Option ℕ) (h : Option ℕ → B) (idx : List (Option ℕ)) → IsApart idx → some_of (λ j. when (same_index j i) (h j)) idx ≡ (if list_any (same_index i) idx then h i ∷ [] else [])
one-hit i h [] apart = refl
one-hit i h (j ∷ js) apart = ap (λ b. and_more (when b (h j)) (some_of (λ z. when (same_index z i) (h z)) js)) (index-swap j i) ∙ by (same_index i j) refl (one-hit i h js apart.1)
  where
    by : (b : Bool) → same_index i j ≡ b → some_of (λ z. when (same_index z i) (h z)) js ≡ (if list_any (same_index i) js then h i ∷ [] else [])
        → and_more (when b (h j)) (some_of (λ z. when (same_index z i) (h z)) js) ≡ (if b || list_any (same_index i) js then h i ∷ [] else [])
    by true e more =
        let is : i ≡ j = index-true i j e in
        let gone = missed i js (λ m. apart.0 (subst (λ z. IsIn z js) is m)) in
        ap (λ r. h j ∷ r) (more ∙ ap (λ (b : Bool). if b then h i ∷ [] else []) gone) ∙ ap (λ z. h z ∷ []) (sym is)
    by false e more = more

pub then-in : {A B : Type 0} (f : A → Option (List B)) (o : Option A) (x : B) → IsIn x (unwrap_or (option_and_then f o) []) → (a : A) × IsIn x (unwrap_or (f a) [])
then-in f None x h = absurd h
then-in f (Some a) x h = (a, h)

-- an input port drives bits of its own
pub port-targets : (s : Structure) (q : Path) (port : PortView) (x : Drive) → IsIn x (port_drives s q port) → (j : Option ℕ) × (x.0 ≡ Inner port.name j q)
port-targets s [] port x h =
    let bit = of-map (λ j. (Inner port.name j [], From (PortBit [] port.name j) (Outer port.name j))) x (indices port.range) h in
    (bit.0, ap (λ z. z.0) bit.2)
port-targets s (inst ∷ p) port x h =
    let outer = then-in (λ (o : ModuleView). option_and_then (λ (y : InstanceView). option_and_then (λ (inner : ModuleView). Some (connected_drives (inst ∷ p) port y inner)) (module_named s y.target)) (instance_named o inst)) (module_at s p) x h in
    let y = then-in (λ (y : InstanceView). option_and_then (λ (inner : ModuleView). Some (connected_drives (inst ∷ p) port y inner)) (module_named s y.target)) (instance_named outer.0 inst) x outer.1 in
    let inner = then-in (λ (inner : ModuleView). Some (connected_drives (inst ∷ p) port y.0 inner)) (module_named s y.0.target) x y.1 in
    let bit = of-map (λ (pair : Option ℕ × BitView). (Inner port.name pair.0 (inst ∷ p), From (PortBit (inst ∷ p) port.name pair.0) (node_of p pair.1))) x (pairs (indices port.range) (connected inner.0.ports port.name y.0.connections)) inner.1 in
    (bit.0.0, ap (λ z. z.0) bit.2)

and-true : (b : Bool) → (b && true) ≡ b
and-true true = refl
and-true false = refl

-- ---- where the drives of a module instance lead

-- into the instance, or to a constant
abbrev pub IsAt : Path → Node → Type 0
IsAt p (Inner n i q) = q ≡ p
IsAt p (Outer n i) = ⊥
IsAt p (Fixed b) = Unit {0}

bit-at : (p : Path) (b : BitView) → IsAt p (node_of p b)
bit-at p (NetBit n) = refl
bit-at p (SelectBit n i) = refl
bit-at p (ConstBit b) = tt

of-bit : (p : Path) (x : Drive) (b : BitView) → x.0 ≡ node_of p b → IsAt p x.0
of-bit p x b e = subst (IsAt p) (sym e) (bit-at p b)

target-at : (p : Path) (y : InstanceView) (o : Option ModuleView) (c : Option CellView) (x : Drive) → IsIn x (target_drives p y o c) → IsAt p x.0
target-at p y (Some m) c x h =
    let port = of-flat (output_drives p y m) x (filter (λ (port : PortView). not (is_input port)) m.ports) h in
    let bit = of-map (λ (pair : Option ℕ × BitView). (node_of p pair.1, From (PortBit (y.name ∷ p) port.0.name pair.0) (Inner port.0.name pair.0 (y.name ∷ p)))) x (pairs (indices port.0.range) (connected m.ports port.0.name y.connections)) port.2 in
    of-bit p x bit.0.1 (ap (λ (z : Drive). z.0) bit.2)
target-at p y None (Some c) x h =
    elim (in-either x (flat_map (λ (q : PinView). map (λ b. (node_of p b, CellPin p y.name q.name)) (connected [] q.name y.connections)) (filter is_output_pin c.pins)) (flat_map (λ (g : PgPinView). map (λ b. (node_of p b, SwitchedPin p y.name g.name)) (connected [] g.name y.connections)) (filter (λ (g : PgPinView). is_some g.switched) c.pgs)) h) [
      | inl l ↦
          let q = of-flat (λ (q : PinView). map (λ b. (node_of p b, CellPin p y.name q.name)) (connected [] q.name y.connections)) x (filter is_output_pin c.pins) l in
          let bit = of-map (λ (b : BitView). (node_of p b, CellPin p y.name q.0.name)) x (connected [] q.0.name y.connections) q.2 in
          of-bit p x bit.0 (ap (λ (z : Drive). z.0) bit.2)
      | inr l ↦
          let g = of-flat (λ (g : PgPinView). map (λ b. (node_of p b, SwitchedPin p y.name g.name)) (connected [] g.name y.connections)) x (filter (λ (g : PgPinView). is_some g.switched) c.pgs) l in
          let bit = of-map (λ (b : BitView). (node_of p b, SwitchedPin p y.name g.0.name)) x (connected [] g.0.name y.connections) g.2 in
          of-bit p x bit.0 (ap (λ (z : Drive). z.0) bit.2)
    ]
target-at p y None None x h = absurd h

assign-at : (p : Path) (a : ℕ × AssignView) (x : Drive) → IsIn x (assign_drives p a) → IsAt p x.0
assign-at p a x h =
    let bit = of-map (λ (pair : ℕ × (BitView × BitView)). (node_of p pair.1.0, From (AssignBit p a.0 pair.0) (node_of p pair.1.1))) x (numbered 0 (pairs a.1.left a.1.right)) h in
    of-bit p x bit.0.1.0 (ap (λ (z : Drive). z.0) bit.2)

pub drive-at : (s : Structure) (p : Path) (o : Option ModuleView) (x : Drive) → IsIn x (drives_in s p o) → IsAt p x.0
drive-at s p None x h = absurd h
drive-at s p (Some m) x h = elim (in-either x (flat_map (port_drives s p) (filter is_input m.ports)) (flat_map (instance_drives s p) m.instances ++ flat_map (assign_drives p) (numbered 0 m.assigns)) h) [
  | inl l ↦
      let port = of-flat (port_drives s p) x (filter is_input m.ports) l in
      let at = port-targets s p port.0 x port.2 in
      subst (IsAt p) (sym at.1) refl
  | inr l ↦ elim (in-either x (flat_map (instance_drives s p) m.instances) (flat_map (assign_drives p) (numbered 0 m.assigns)) l) [
    | inl inst ↦ let y = of-flat (instance_drives s p) x m.instances inst in target-at p y.0 (module_named s y.0.target) (cell_named s y.0.target) x y.2
    | inr assign ↦ let a = of-flat (assign_drives p) x (numbered 0 m.assigns) assign in assign-at p a.0 x a.2
  ]
]

-- another instance's node is not hit
misses : (p q : Path) (n : Name) (i : Option ℕ) (x : Node) → IsAt q x → (q ≡ p → ⊥) → same_node x (Inner n i p) ≡ false
misses p q n i x at out = by (same_node x (Inner n i p)) refl
  where
    by : (b : Bool) → same_node x (Inner n i p) ≡ b → b ≡ false
    by false e = refl
    by true e = let is : x ≡ Inner n i p = node-true x (Inner n i p) e in let here : p ≡ q = subst (IsAt q) is at in absurd (out (sym here))

misses-outer : (q : Path) (n : Name) (i : Option ℕ) (x : Node) → IsAt q x → same_node x (Outer n i) ≡ false
misses-outer q n i (Inner m j r) at = refl
misses-outer q n i (Outer m j) at = absurd at
misses-outer q n i (Fixed b) at = refl

-- the outer sides of the top's ports
outer-target : (o : Option ModuleView) (x : Drive) → IsIn x (outer_drives o) → (m : Name) × (j : Option ℕ) × (x.0 ≡ Outer m j)
outer-target None x h = absurd h
outer-target (Some m) x h =
    let port = of-flat (λ (port : PortView). map (λ i. (Outer port.name i, outside port.name i port)) (indices port.range)) x m.ports h in
    let bit = of-map (λ i. (Outer port.0.name i, outside port.0.name i port.0)) x (indices port.0.range) port.2 in
    (port.0.name, bit.0, ap (λ (z : Drive). z.0) bit.2)

-- ---- what drives a net bit of a module instance

module _ (s : Structure) (n : Name) (i : Option ℕ) where
  -- the outside of the top
  top-ports : (port : PortView) → from_port s [] port.name i port ≡ drivers_among (Inner port.name i []) (port_drives s [] port)
  top-ports port =
      sym (one-hit i (λ j. From (PortBit [] port.name j) (Outer port.name j)) (indices port.range) (indices-apart port.range))
      ∙ among-map (Inner port.name i []) (λ j. same_index j i) (λ j. From (PortBit [] port.name j) (Outer port.name j)) (λ j. (Inner port.name j [], From (PortBit [] port.name j) (Outer port.name j)))
      (λ j. ap (λ b. b && (same_index j i && true)) (name-self port.name) ∙ and-true (same_index j i)) (λ j e. refl) (indices port.range)

  -- the outside of another instance
  inst-ports : (inst : Name) (p : Path) (port : PortView) → from_port s (inst ∷ p) port.name i port ≡ drivers_among (Inner port.name i (inst ∷ p)) (port_drives s (inst ∷ p) port)
  inst-ports inst p port =
      among-then k (λ outer. option_and_then (λ x. option_and_then (λ inner. Some (joined_outside p inst port.name i port x inner)) (module_named s x.target)) (instance_named outer inst))
      (λ outer. option_and_then (λ x. option_and_then (λ inner. Some (connected_drives (inst ∷ p) port x inner)) (module_named s x.target)) (instance_named outer inst)) (module_at s p)
      (λ outer. among-then k (λ x. option_and_then (λ inner. Some (joined_outside p inst port.name i port x inner)) (module_named s x.target)) (λ x. option_and_then (λ inner. Some (connected_drives (inst ∷ p) port x inner)) (module_named s x.target)) (instance_named outer inst)
      (λ x. among-then k (λ inner. Some (joined_outside p inst port.name i port x inner)) (λ inner. Some (connected_drives (inst ∷ p) port x inner)) (module_named s x.target)
      (λ inner. among-map k (λ (pair : Option ℕ × BitView). same_index pair.0 i) (λ pair. From (PortBit (inst ∷ p) port.name i) (node_of p pair.1)) (λ pair. (Inner port.name pair.0 (inst ∷ p), From (PortBit (inst ∷ p) port.name pair.0) (node_of p pair.1)))
      (λ pair. ap (λ b. b && (same_index pair.0 i && same_path (inst ∷ p) (inst ∷ p))) (name-self port.name) ∙ ap (λ b. same_index pair.0 i && b) (path-self (inst ∷ p)) ∙ and-true (same_index pair.0 i)) (λ pair e. ap (λ j. From (PortBit (inst ∷ p) port.name j) (node_of p pair.1)) (index-true pair.0 i e))
      (pairs (indices port.range) (connected inner.ports port.name x.connections)))))
    where
      k : Node
      k = Inner port.name i (inst ∷ p)

  -- input ports
  port-drivers : (p : Path) (m : ModuleView) → ports_in s p n i m ≡ drivers_among (Inner n i p) (flat_map (port_drives s p) (filter is_input m.ports))
  port-drivers p m =
      flat-tests (from_port s p n i) (λ port. drivers_among (Inner n i p) (port_drives s p port)) (λ (port : PortView). bytes_eq port.name n) is_input m.ports same none
      ∙ sym (among-flat (Inner n i p) (port_drives s p) (filter is_input m.ports))
    where
      at : (q : Path) (port : PortView) → from_port s q port.name i port ≡ drivers_among (Inner port.name i q) (port_drives s q port)
      at [] port = top-ports port
      at (inst ∷ q) port = inst-ports inst q port

      same : (port : PortView) → bytes_eq port.name n ≡ true → from_port s p n i port ≡ drivers_among (Inner n i p) (port_drives s p port)
      same port e = subst (λ z. from_port s p z i port ≡ drivers_among (Inner z i p) (port_drives s p port)) (name-true port.name n e) (at p port)

      none : (port : PortView) → bytes_eq port.name n ≡ false → drivers_among (Inner n i p) (port_drives s p port) ≡ []
      none port e = among-none (Inner n i p) (port_drives s p port) (λ x h. let at = port-targets s p port x h in ap (λ z. same_node z (Inner n i p)) at.1 ∙ ap (λ b. b && (same_index at.0 i && same_path p p)) e)

  -- ---- instances

  output-drivers : (p : Path) (x : InstanceView) (inner : ModuleView) → from_instance p n i x inner ≡ drivers_among (Inner n i p) (flat_map (output_drives p x inner) (filter (λ port. not (is_input port)) inner.ports))
  output-drivers p x inner =
      flat-same (joined_inside p n i x inner) (λ port. drivers_among (Inner n i p) (output_drives p x inner port)) (filter (λ port. not (is_input port)) inner.ports)
      (λ port h. among-map (Inner n i p) (λ (pair : Option ℕ × BitView). same_node (node_of p pair.1) (Inner n i p)) (λ pair. From (PortBit (x.name ∷ p) port.name pair.0) (Inner port.name pair.0 (x.name ∷ p)))
      (λ pair. (node_of p pair.1, From (PortBit (x.name ∷ p) port.name pair.0) (Inner port.name pair.0 (x.name ∷ p)))) (λ pair. refl) (λ pair e. refl) (pairs (indices port.range) (connected inner.ports port.name x.connections)))
      ∙ sym (among-flat (Inner n i p) (output_drives p x inner) (filter (λ port. not (is_input port)) inner.ports))

  -- a pin has one bit at most
  one-bit : (p : Path) (source : Source) (bits : List BitView) → length bits ≤ 1 → and_more (when (touches p n i bits) source) [] ≡ drivers_among (Inner n i p) (map (λ b. (node_of p b, source)) bits)
  one-bit p source [] few = refl
  one-bit p source (b ∷ []) few = by (same_node (node_of p b) (Inner n i p))
    where
      by : (t : Bool) → and_more (when (t || false) source) [] ≡ map (λ (z : Drive). z.1) (if t then (node_of p b, source) ∷ [] else [])
      by true = refl
      by false = refl
  one-bit p source (b ∷ c ∷ bits) few = absurd (omega arith)

  and_more-append : {A : Type 0} (o : Option A) (rest : List A) → and_more o rest ≡ and_more o [] ++ rest
  and_more-append None rest = refl
  and_more-append (Some x) rest = refl

  -- the pins that drive, each with its bits
  pin-drivers : {Q : Type 0} (p : Path) (drives : Q → Bool) (bits : Q → List BitView) (source : Q → Source) (qs : List Q) → ((q : Q) → IsIn q qs → length (bits q) ≤ 1) → some_of (λ q. when (drives q && touches p n i (bits q)) (source q)) qs ≡ drivers_among (Inner n i p) (flat_map (λ q. map (λ b. (node_of p b, source q)) (bits q)) (filter drives qs))
  pin-drivers p drives bits source [] few = refl
  pin-drivers p drives bits source (q ∷ qs) few = by (drives q) (pin-drivers p drives bits source qs (λ z m. few z (inr m)))
    where
      by : (t : Bool) → some_of (λ z. when (drives z && touches p n i (bits z)) (source z)) qs ≡ drivers_among (Inner n i p) (flat_map (λ z. map (λ b. (node_of p b, source z)) (bits z)) (filter drives qs))
          → and_more (when (t && touches p n i (bits q)) (source q)) (some_of (λ z. when (drives z && touches p n i (bits z)) (source z)) qs)
          ≡ drivers_among (Inner n i p) (flat_map (λ z. map (λ b. (node_of p b, source z)) (bits z)) (if t then q ∷ filter drives qs else filter drives qs))
      by true more =
          and_more-append (when (touches p n i (bits q)) (source q)) (some_of (λ z. when (drives z && touches p n i (bits z)) (source z)) qs)
          ∙ ap (λ r. r ++ some_of (λ z. when (drives z && touches p n i (bits z)) (source z)) qs) (one-bit p (source q) (bits q) (few q (inl refl)))
          ∙ ap (λ r. drivers_among (Inner n i p) (map (λ b. (node_of p b, source q)) (bits q)) ++ r) more
          ∙ sym (among-append (Inner n i p) (map (λ b. (node_of p b, source q)) (bits q)) (flat_map (λ z. map (λ b. (node_of p b, source z)) (bits z)) (filter drives qs)))
      by false more = more

  cell-drivers : (p : Path) (x : InstanceView) (c : CellView) → ((q : PinView) → IsIn q c.pins → length (connected [] q.name x.connections) ≤ 1) → ((g : PgPinView) → IsIn g c.pgs → length (connected [] g.name x.connections) ≤ 1) → from_cell p n i x c ≡ drivers_among (Inner n i p) (cell_drives p x c)
  cell-drivers p x c pins pgs =
      ap (λ r. r ++ some_of (λ (g : PgPinView). when (is_some g.switched && touches p n i (connected [] g.name x.connections)) (SwitchedPin p x.name g.name)) c.pgs)
      (pin-drivers p is_output_pin (λ (q : PinView). connected [] q.name x.connections) (λ q. CellPin p x.name q.name) c.pins pins)
      ∙ ap (λ r. drivers_among (Inner n i p) (flat_map (λ (q : PinView). map (λ b. (node_of p b, CellPin p x.name q.name)) (connected [] q.name x.connections)) (filter is_output_pin c.pins)) ++ r)
      (pin-drivers p (λ (g : PgPinView). is_some g.switched) (λ g. connected [] g.name x.connections) (λ g. SwitchedPin p x.name g.name) c.pgs pgs)
      ∙ sym (among-append (Inner n i p) (flat_map (λ (q : PinView). map (λ b. (node_of p b, CellPin p x.name q.name)) (connected [] q.name x.connections)) (filter is_output_pin c.pins))
      (flat_map (λ (g : PgPinView). map (λ b. (node_of p b, SwitchedPin p x.name g.name)) (connected [] g.name x.connections)) (filter (λ (g : PgPinView). is_some g.switched) c.pgs)))

  -- ---- the module

  assign-drivers : (p : Path) (a : ℕ × AssignView) → from_assign p n i a ≡ drivers_among (Inner n i p) (assign_drives p a)
  assign-drivers p a =
      among-map (Inner n i p) (λ (pair : ℕ × (BitView × BitView)). same_node (node_of p pair.1.0) (Inner n i p)) (λ pair. From (AssignBit p a.0 pair.0) (node_of p pair.1.1)) (λ pair. (node_of p pair.1.0, From (AssignBit p a.0 pair.0) (node_of p pair.1.1)))
      (λ pair. refl) (λ pair e. refl) (numbered 0 (pairs a.1.left a.1.right))

  module _ (single : JoinsSingleBits s) where
    target-drivers : (p : Path) (m : ModuleView) → module_at s p ≡ Some m → (x : InstanceView) → IsIn x m.instances → (o : Option ModuleView) (c : Option CellView) → cell_named s x.target ≡ c → from_target p n i x o c ≡ drivers_among (Inner n i p) (target_drives p x o c)
    target-drivers p m e x h (Some inner) c f = output-drivers p x inner
    target-drivers p m e x h None (Some c) f = cell-drivers p x c (λ q g. single.pins p m x c q e h f g) (λ q g. single.pgs p m x c q e h f g)
    target-drivers p m e x h None None f = refl

    module-drivers : (p : Path) (m : ModuleView) → module_at s p ≡ Some m → in_module s p n i m ≡ drivers_among (Inner n i p) (drives_in s p (Some m))
    module-drivers p m e =
        let k = Inner n i p in
        let ports = flat_map (port_drives s p) (filter is_input m.ports) in
        let insts = flat_map (instance_drives s p) m.instances in
        let assigns = flat_map (assign_drives p) (numbered 0 m.assigns) in
        let second = flat-same (from_one s p n i) (λ x. drivers_among k (instance_drives s p x)) m.instances (λ x h. target-drivers p m e x h (module_named s x.target) (cell_named s x.target) refl) ∙ sym (among-flat k (instance_drives s p) m.instances) in
        let third = flat-same (from_assign p n i) (λ a. drivers_among k (assign_drives p a)) (numbered 0 m.assigns) (λ a h. assign-drivers p a) ∙ sym (among-flat k (assign_drives p) (numbered 0 m.assigns)) in
        ap (λ r. r ++ (flat_map (from_one s p n i) m.instances ++ flat_map (from_assign p n i) (numbered 0 m.assigns))) (port-drivers p m)
        ∙ ap (λ r. drivers_among k ports ++ (r ++ flat_map (from_assign p n i) (numbered 0 m.assigns))) second
        ∙ ap (λ r. drivers_among k ports ++ (drivers_among k insts ++ r)) third
        ∙ ap (λ r. drivers_among k ports ++ r) (sym (among-append k insts assigns))
        ∙ sym (among-append k ports (insts ++ assigns))

  -- ---- all nodes

  sources-in : (p : Path) → Option ModuleView → List Source
  sources-in p None = []
  sources-in p (Some m) = in_module s p n i m

  sources-by : (p : Path) (o : Option ModuleView) → module_at s p ≡ o → sources_of s (Inner n i p) ≡ sources-in p o
  unfolding sources-in
  sources-by p None e = rw (e) refl
  sources-by p (Some m) e = rw (e) refl

  inner-drivers : JoinsSingleBits s → IsApart (module_instances s) → (p : Path) → IsIn p (module_instances s) → drivers_among (Inner n i p) (drives_of s) ≡ sources_of s (Inner n i p)
  unfolding sources-in
  inner-drivers single apart p here =
      let k = Inner n i p in
      let inner = flat_map (λ q. drives_in s q (module_at s q)) (module_instances s) in
      among-append k inner (outer_drives (module_at s []))
      ∙ ap (λ r. drivers_among k inner ++ r) (among-none k (outer_drives (module_at s [])) (λ x h. let at = outer-target (module_at s []) x h in ap (λ z. same_node z k) at.2))
      ∙ append-nil (drivers_among k inner)
      ∙ among-flat k (λ q. drives_in s q (module_at s q)) (module_instances s)
      ∙ flat-only (λ q. drivers_among k (drives_in s q (module_at s q))) (module_instances s) p apart here (λ q h out. among-none k (drives_in s q (module_at s q)) (λ x g. misses p q n i x.0 (drive-at s q (module_at s q) x g) out))
      ∙ by (module_at s p) refl
    where
      by : (o : Option ModuleView) → module_at s p ≡ o → drivers_among (Inner n i p) (drives_in s p (module_at s p)) ≡ sources_of s (Inner n i p)
      by None e = ap (λ o. drivers_among (Inner n i p) (drives_in s p o)) e ∙ sym (sources-by p None e)
      by (Some m) e = ap (λ o. drivers_among (Inner n i p) (drives_in s p o)) e ∙ sym (module-drivers single p m e) ∙ sym (sources-by p (Some m) e)

  outer-drivers-in : (o : Option ModuleView) → module_at s [] ≡ o → drivers_among (Outer n i) (outer_drives o) ≡ sources_of s (Outer n i)
  outer-drivers-in None e = sym (outer_by s n i None e)
  outer-drivers-in (Some m) e =
      among-flat (Outer n i) (λ (port : PortView). map (λ j. (Outer port.name j, outside port.name j port)) (indices port.range)) m.ports
      ∙ ports m.ports
      ∙ sym (outer_by s n i (Some m) e)
    where
      at : (port : PortView) → drivers_among (Outer n i) (map (λ j. (Outer port.name j, outside port.name j port)) (indices port.range)) ≡ (if bytes_eq port.name n && list_any (same_index i) (indices port.range) then outside n i port ∷ [] else [])
      at port = step (bytes_eq port.name n) refl
        where
          step : (b : Bool) → bytes_eq port.name n ≡ b → drivers_among (Outer n i) (map (λ j. (Outer port.name j, outside port.name j port)) (indices port.range)) ≡ (if b && list_any (same_index i) (indices port.range) then outside n i port ∷ [] else [])
          step true f =
              sym (among-map (Outer n i) (λ j. same_index j i) (λ j. outside port.name j port) (λ j. (Outer port.name j, outside port.name j port)) (λ j. ap (λ b. b && same_index j i) f) (λ j g. refl) (indices port.range))
              ∙ one-hit i (λ j. outside port.name j port) (indices port.range) (indices-apart port.range)
              ∙ ap (λ z. if list_any (same_index i) (indices port.range) then outside z i port ∷ [] else []) (name-true port.name n f)
          step false f = among-none (Outer n i) (map (λ j. (Outer port.name j, outside port.name j port)) (indices port.range))
              (λ x h. let bit = of-map (λ j. (Outer port.name j, outside port.name j port)) x (indices port.range) h in ap (λ (z : Drive). same_node z.0 (Outer n i)) bit.2 ∙ ap (λ b. b && same_index bit.0 i) f)

      ports : (qs : List PortView) → flat_map (λ (port : PortView). drivers_among (Outer n i) (map (λ j. (Outer port.name j, outside port.name j port)) (indices port.range))) qs ≡ map (outside n i) (filter (λ port. bytes_eq port.name n && list_any (same_index i) (indices port.range)) qs)
      ports [] = refl
      ports (q ∷ qs) = ap (λ r. r ++ flat_map (λ (port : PortView). drivers_among (Outer n i) (map (λ j. (Outer port.name j, outside port.name j port)) (indices port.range))) qs) (at q) ∙ step (bytes_eq q.name n && list_any (same_index i) (indices q.range)) (ports qs)
        where
          step : (b : Bool) → flat_map (λ (port : PortView). drivers_among (Outer n i) (map (λ j. (Outer port.name j, outside port.name j port)) (indices port.range))) qs ≡ map (outside n i) (filter (λ port. bytes_eq port.name n && list_any (same_index i) (indices port.range)) qs)
              → (if b then outside n i q ∷ [] else []) ++ flat_map (λ (port : PortView). drivers_among (Outer n i) (map (λ j. (Outer port.name j, outside port.name j port)) (indices port.range))) qs
              ≡ map (outside n i) (if b then q ∷ filter (λ port. bytes_eq port.name n && list_any (same_index i) (indices port.range)) qs else filter (λ port. bytes_eq port.name n && list_any (same_index i) (indices port.range)) qs)
          step true more = ap (λ r. outside n i q ∷ r) more
          step false more = more

  outer-drivers : drivers_among (Outer n i) (drives_of s) ≡ sources_of s (Outer n i)
  outer-drivers =
      let k = Outer n i in
      let inner = flat_map (λ q. drives_in s q (module_at s q)) (module_instances s) in
      among-append k inner (outer_drives (module_at s []))
      ∙ ap (λ r. r ++ drivers_among k (outer_drives (module_at s []))) (among-flat k (λ q. drives_in s q (module_at s q)) (module_instances s) ∙ flat-none (λ q. drivers_among k (drives_in s q (module_at s q))) (module_instances s) (λ q h. among-none k (drives_in s q (module_at s q)) (λ x g. misses-outer q n i x.0 (drive-at s q (module_at s q) x g))))
      ∙ outer-drivers-in (module_at s []) refl

pub inner-place : (n : Name) (i : Option ℕ) (p q : Path) (o : Option ModuleView) → IsIn (Inner n i p) (nodes_in q o) → p ≡ q
inner-place n i p q None h = absurd h
inner-place n i p q (Some m) h = elim (in-either (Inner n i p) (flat_map (λ (x : PortView). map (λ j. Inner x.name j q) (indices x.range)) m.ports) (flat_map (λ (x : NetView). map (λ j. Inner x.name j q) (indices x.range)) m.nets) h) [
  | inl l ↦ let port = of-flat (λ (x : PortView). map (λ j. Inner x.name j q) (indices x.range)) (Inner n i p) m.ports l in let bit = of-map (λ j. Inner port.0.name j q) (Inner n i p) (indices port.0.range) port.2 in let is : Inner n i p ≡ Inner port.0.name bit.0 q = bit.2 in cc
  | inr l ↦ let net = of-flat (λ (x : NetView). map (λ j. Inner x.name j q) (indices x.range)) (Inner n i p) m.nets l in let bit = of-map (λ j. Inner net.0.name j q) (Inner n i p) (indices net.0.range) net.2 in let is : Inner n i p ≡ Inner net.0.name bit.0 q = bit.2 in cc
]

pub no-outer : (n : Name) (i : Option ℕ) (p : Path) (o : Option ModuleView) → IsIn (Inner n i p) (outer_in o) → ⊥
no-outer n i p None h = h
no-outer n i p (Some m) h =
    let port = of-flat (λ (x : PortView). map (λ j. Outer x.name j) (indices x.range)) (Inner n i p) m.ports h in
    let bit = of-map (λ j. Outer port.0.name j) (Inner n i p) (indices port.0.range) port.2 in
    let is : Inner n i p ≡ Outer port.0.name bit.0 = bit.2 in
    absurd cc

-- a net bit that is one of the nodes stands in one of the instances
node-instance : (s : Structure) (n : Name) (i : Option ℕ) (p : Path) → IsIn (Inner n i p) (nodes_of s) → IsIn p (module_instances s)
unfolding inner_nodes
node-instance s n i p h = elim (in-either (Inner n i p) (inner_nodes s) (outer_in (module_at s [])) h) [
  | inl l ↦ let q = of-flat (λ path. nodes_in path (module_at s path)) (Inner n i p) (module_instances s) l in subst (λ z. IsIn z (module_instances s)) (sym (inner-place n i p q.0 (module_at s q.0) q.2)) q.1
  | inr l ↦ absurd (no-outer n i p (module_at s []) l)
]

no-fixed-inner : (b : Bool) (q : Path) (o : Option ModuleView) → IsIn (Fixed b) (nodes_in q o) → ⊥
no-fixed-inner b q None h = h
no-fixed-inner b q (Some m) h = elim (in-either (Fixed b) (flat_map (λ (x : PortView). map (λ j. Inner x.name j q) (indices x.range)) m.ports) (flat_map (λ (x : NetView). map (λ j. Inner x.name j q) (indices x.range)) m.nets) h) [
  | inl l ↦ let port = of-flat (λ (x : PortView). map (λ j. Inner x.name j q) (indices x.range)) (Fixed b) m.ports l in let bit = of-map (λ j. Inner port.0.name j q) (Fixed b) (indices port.0.range) port.2 in let is : Fixed b ≡ Inner port.0.name bit.0 q = bit.2 in absurd cc
  | inr l ↦ let net = of-flat (λ (x : NetView). map (λ j. Inner x.name j q) (indices x.range)) (Fixed b) m.nets l in let bit = of-map (λ j. Inner net.0.name j q) (Fixed b) (indices net.0.range) net.2 in let is : Fixed b ≡ Inner net.0.name bit.0 q = bit.2 in absurd cc
]

no-fixed-outer : (b : Bool) (o : Option ModuleView) → IsIn (Fixed b) (outer_in o) → ⊥
no-fixed-outer b None h = h
no-fixed-outer b (Some m) h =
    let port = of-flat (λ (x : PortView). map (λ j. Outer x.name j) (indices x.range)) (Fixed b) m.ports h in
    let bit = of-map (λ j. Outer port.0.name j) (Fixed b) (indices port.0.range) port.2 in
    let is : Fixed b ≡ Outer port.0.name bit.0 = bit.2 in
    absurd cc

pub no-fixed : (s : Structure) (b : Bool) → IsIn (Fixed b) (nodes_of s) → ⊥
unfolding inner_nodes
no-fixed s b h = elim (in-either (Fixed b) (inner_nodes s) (outer_in (module_at s [])) h) [
  | inl l ↦ let q = of-flat (λ path. nodes_in path (module_at s path)) (Fixed b) (module_instances s) l in no-fixed-inner b q.0 (module_at s q.0) q.2
  | inr l ↦ no-fixed-outer b (module_at s []) l
]

pub drivers_listed : (s : Structure) → JoinsSingleBits s → IsApart (module_instances s) → (k : Node) → IsIn k (nodes_of s) → drivers_among k (drives_of s) ≡ sources_of s k
drivers_listed s single apart (Inner n i p) h = inner-drivers s n i single apart p (node-instance s n i p h)
drivers_listed s single apart (Outer n i) h = outer-drivers s n i
drivers_listed s single apart (Fixed b) h = absurd (no-fixed s b h)

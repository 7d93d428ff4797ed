-- Where names stand apart, a way of a boundary bit that leads to a node comes from the node before the bit.
use Rattle.std.proofs.Common.{◌≡◌, ◌⊎◌, ℕ, Bool, true, false, cond, not, ◌&&◌, ◌==◌, List, [], ◌∷◌, ◌++◌, map, Option, Some, None, inl, inr, refl, sym, ap, ◌∙◌, subst}
use Rattle.std.specs.Prelude.{filter, flat_map, bytes_eq, is_some, option_and_then, unwrap_or}
use Rattle.std.specs.List.{list_any, list_all}
use Rattle.std.proofs.lemmas.Bool.{true≢false, false≢true, not-true, eqb-true}
use Rattle.lp_model.specs.declared.netlist.BitRange.{BitRange}
use Rattle.lp_model.specs.declared.netlist.Direction.{Direction}
use Rattle.lp_model.specs.declared.netlist.Direction.TheVariants.{Input, Output}
use Rattle.lp_model.specs.LibraryView.{PgPinView, PinView, CellView}
use Rattle.lp_model.specs.NetlistView.{BitView, PortView, NetView, InstanceView, ModuleView}
use Rattle.lp_spec_design.specs.Keys.{Name, Path, Node, Inner, Outer, Fixed, Way, PortBit, AssignBit, same_way, Source, CellPin, SwitchedPin, Environment, From, same_index, same_path, same_node}
use Rattle.lp_spec_design.specs.Netlists.{Structure, first, is_instantiated, module_named, cell_named, instance_named, module_at, indices, node_of, is_input, connected}
use Rattle.lp_spec_design.specs.Instances.{module_instances}
use Rattle.lp_spec_design.specs.Graph.{pairs, some_of, when, joined_outside, from_port, ports_in, joined_inside, from_instance, is_output_pin, touches, from_cell, from_target, from_one, numbered, from_assign, in_module, outside, sources_of, source_of, trail, way_in, going_back, beginning}
use Rattle.lp_spec_design.specs.Intents.{Intent}
use Rattle.lp_spec_design.specs.Domains.{BoundaryBit, boundary, bits_of, is_boundary, way_of, node_before}
use Rattle.lp_spec_design.specs.Chains.{bit_of_way}
use Rattle.lp_spec_design.specs.Winners.{IsIn}
use Rattle.lp_spec_design.specs.Reads.{one, other, name-true, name-self, index-true, path-true}
use Rattle.lp_spec_design.proofs.Members.{in-either, in-map, of-map, of-flat, of-some, of-filter, any-in}
use Rattle.lp_spec_design.proofs.Sources.{then_is, first_in}
use Rattle.lp_spec_design.proofs.Looped.{source_by, head_of, outer_sources, outer_by}
use Rattle.lp_spec_realises.specs.Projects.{Project}
use Rattle.lp_spec_realises.specs.ProjectNetlists.{are_apart, names_in, has_names_apart}
use Rattle.lp_spec_hub.specs.Entries.{HasWaysFromBits}

-- ---- names that stand apart

pub way-true : (v w : Way) → same_way v w ≡ true → v ≡ w
way-true (PortBit p m i) (PortBit q n j) e =
    let rest = other (bytes_eq m n) (same_index i j && same_path p q) e in
    λ k. PortBit (path-true p q (other (same_index i j) (same_path p q) rest) k) (name-true m n (one (bytes_eq m n) (same_index i j && same_path p q) e) k) (index-true i j (one (same_index i j) (same_path p q) rest) k)
way-true (PortBit p m i) (AssignBit q b l) e = absurd (false≢true e)
way-true (AssignBit p a k) (PortBit q n j) e = absurd (false≢true e)
way-true (AssignBit p a k) (AssignBit q b l) e =
    let rest = other (a == b) ((k == l) && same_path p q) e in
    λ i. AssignBit (path-true p q (other (k == l) (same_path p q) rest) i) (eqb-true a b (one (a == b) ((k == l) && same_path p q) e) i) (eqb-true k l (one (k == l) (same_path p q) rest) i)

all-in : {A : Type 0} (f : A → Bool) (xs : List A) (x : A) → list_all f xs ≡ true → IsIn x xs → f x ≡ true
all-in f [] x e h = absurd h
all-in f (y ∷ ys) x e (inl is) = ap f is ∙ one (f y) (list_all f ys) e
all-in f (y ∷ ys) x e (inr h) = all-in f ys x (other (f y) (list_all f ys) e) h

pub rest-apart : (xs ys : List Name) → are_apart (xs ++ ys) ≡ true → are_apart ys ≡ true
rest-apart [] ys e = e
rest-apart (x ∷ xs) ys e = rest-apart xs ys (other (not (list_any (bytes_eq x) (xs ++ ys))) (are_apart (xs ++ ys)) e)

pub in-left-names : (a : Name) (xs ys : List Name) → IsIn a xs → IsIn a (xs ++ ys)
in-left-names a [] ys h = absurd h
in-left-names a (x ∷ xs) ys (inl is) = inl is
in-left-names a (x ∷ xs) ys (inr h) = inr (in-left-names a xs ys h)

unique : {A : Type 0} (f : A → Name) (xs : List A) (ys : List Name) → are_apart (map f xs ++ ys) ≡ true → (a b : A) → IsIn a xs → IsIn b xs → f a ≡ f b → a ≡ b
unique f [] ys e a b h g same = absurd h
unique f (x ∷ xs) ys e a b h g same = by h g (λ l r. unique f xs ys (other (not (list_any (bytes_eq (f x)) (map f xs ++ ys))) (are_apart (map f xs ++ ys)) e) a b l r same)
  where
    later : (c : _) → IsIn c xs → f x ≡ f c → ⊥
    later c there is =
        let found : list_any (bytes_eq (f x)) (map f xs ++ ys) ≡ true = any-in (bytes_eq (f x)) (f c) (map f xs ++ ys) (in-left-names (f c) (map f xs) ys (in-map f c xs there)) (ap (bytes_eq (f x)) (sym is) ∙ name-self (f x)) in
        false≢true (ap not (sym found) ∙ one (not (list_any (bytes_eq (f x)) (map f xs ++ ys))) (are_apart (map f xs ++ ys)) e)

    by : (a ≡ x) ⊎ IsIn a xs → (b ≡ x) ⊎ IsIn b xs → (IsIn a xs → IsIn b xs → a ≡ b) → a ≡ b
    by (inl l) (inl r) more = l ∙ sym r
    by (inl l) (inr r) more = absurd (later b r (ap f (sym l) ∙ same))
    by (inr l) (inl r) more = absurd (later a l (ap f (sym r) ∙ sym same))
    by (inr l) (inr r) more = more l r

first-found : {A : Type 0} (t : A → Bool) (y : A) (xs : List A) → IsIn y xs → t y ≡ true → ((z : A) → IsIn z xs → t z ≡ true → z ≡ y) → first t xs ≡ Some y
first-found t y [] h e only = absurd h
first-found t y (x ∷ xs) h e only = by (t x) refl h (λ g. first-found t y xs g e (λ z there is. only z (inr there) is))
  where
    by : (b : Bool) → t x ≡ b → (y ≡ x) ⊎ IsIn y xs → (IsIn y xs → first t xs ≡ Some y) → cond b (Some x) (first t xs) ≡ Some y
    by true is h more = ap (λ z. Some z) (only x (inl refl) is)
    by false is (inl same) more = absurd (true≢false (sym e ∙ (ap t same ∙ is)))
    by false is (inr h) more = more h

-- ---- modules and their ports

module _ (s : Structure) (apart : has_names_apart s.modules ≡ true) where
  module-in : (n : Name) (m : ModuleView) → module_named s n ≡ Some m → IsIn m s.modules
  module-in n m e = (first_in (λ (k : ModuleView). bytes_eq k.name n) s.modules m e).0

  pub known-module : (x : Path) (m : ModuleView) → module_at s x ≡ Some m → IsIn m s.modules
  known-module [] m e = (first_in (λ (k : ModuleView). not (is_instantiated s k.name)) s.modules m e).0
  known-module (i ∷ x) m e =
      let above = then_is (λ (k : ModuleView). option_and_then (λ (y : InstanceView). module_named s y.target) (instance_named k i)) (module_at s x) m e in
      let inst = then_is (λ (y : InstanceView). module_named s y.target) (instance_named above.0 i) m above.2 in
      module-in inst.0.target m inst.2

  pub its-names : (m : ModuleView) → IsIn m s.modules → are_apart (names_in m) ≡ true
  its-names m h = all-in (λ (k : ModuleView). are_apart (names_in k)) s.modules m (other (are_apart (map (λ (k : ModuleView). k.name) s.modules)) (list_all (λ (k : ModuleView). are_apart (names_in k)) s.modules) apart) h

  pub one-port : (m : ModuleView) → IsIn m s.modules → (a b : PortView) → IsIn a m.ports → IsIn b m.ports → a.name ≡ b.name → a ≡ b
  one-port m h a b there here same = unique (λ (q : PortView). q.name) m.ports (map (λ (n : NetView). n.name) m.nets ++ map (λ (x : InstanceView). x.name) m.instances) (its-names m h) a b there here same

  append-names-none : (xs : List Name) → xs ++ [] ≡ xs
  append-names-none [] = refl
  append-names-none (x ∷ xs) = ap (λ r. x ∷ r) (append-names-none xs)

  pub one-instance : (m : ModuleView) → IsIn m s.modules → (a b : InstanceView) → IsIn a m.instances → IsIn b m.instances → a.name ≡ b.name → a ≡ b
  one-instance m h a b there here same =
      unique (λ (x : InstanceView). x.name) m.instances []
      (ap are_apart (append-names-none (map (λ (x : InstanceView). x.name) m.instances))
      ∙ rest-apart (map (λ (n : NetView). n.name) m.nets) (map (λ (x : InstanceView). x.name) m.instances) (rest-apart (map (λ (q : PortView). q.name) m.ports) (map (λ (n : NetView). n.name) m.nets ++ map (λ (x : InstanceView). x.name) m.instances) (its-names m h)))
      a b there here same

  found-instance : (m : ModuleView) → IsIn m s.modules → (y : InstanceView) → IsIn y m.instances → instance_named m y.name ≡ Some y
  found-instance m h y there = first-found (λ (z : InstanceView). bytes_eq z.name y.name) y m.instances there (name-self y.name) (λ z here is. one-instance m h z y here there (name-true z.name y.name is))

  child-at : (x : Path) (m : ModuleView) (y : InstanceView) (inner : ModuleView) → module_at s x ≡ Some m → IsIn y m.instances → module_named s y.target ≡ Some inner → module_at s (y.name ∷ x) ≡ Some inner
  child-at x m y inner at there is =
      ap (λ o. option_and_then (λ (k : ModuleView). option_and_then (λ (z : InstanceView). module_named s z.target) (instance_named k y.name)) o) at
      ∙ (ap (λ o. option_and_then (λ (z : InstanceView). module_named s z.target) o) (found-instance m (known-module x m at) y there) ∙ is)

  -- ---- a port bit of a boundary instance

  pub record HasPort (b : BoundaryBit) : Type 0 where
    pub parent : ModuleView
    pub at : module_at s b.path ≡ Some parent
    pub there : IsIn b.port parent.ports

  bits_list : Path → Option ModuleView → List BoundaryBit
  bits_list x None = []
  bits_list x (Some m) = flat_map (λ (q : PortView). map (λ i. record { path = x; port = q; index = i }) (indices q.range)) m.ports

  bits-by : (x : Path) (o : Option ModuleView) → module_at s x ≡ o → bits_of s x ≡ bits_list x o
  unfolding bits_list
  bits-by x None e = rw (e) refl
  bits-by x (Some m) e = rw (e) refl

  of-bits : (x : Path) (o : Option ModuleView) → module_at s x ≡ o → (b : BoundaryBit) → IsIn b (bits_list x o) → HasPort b
  unfolding bits_list
  of-bits x None e b h = absurd h
  of-bits x (Some m) e b h =
      let port = of-flat (λ (q : PortView). map (λ i. record { path = x; port = q; index = i }) (indices q.range)) b m.ports h in
      let index = of-map (λ i. record { path = x; port = port.0; index = i }) b (indices port.0.range) port.2 in
      record {
        parent = m;
        at = ap (λ (c : BoundaryBit). module_at s c.path) index.2 ∙ e;
        there = subst (λ q. IsIn q m.ports) (sym (ap (λ (c : BoundaryBit). c.port) index.2)) port.1;
      }

  pub has-port : (i : Intent) (b : BoundaryBit) → IsIn b (boundary s i) → HasPort b
  has-port i b h =
      let x = of-flat (bits_of s) b (filter (is_boundary i) (module_instances s)) h in
      of-bits x.0 (module_at s x.0) refl b (subst (λ r. IsIn b r) (bits-by x.0 (module_at s x.0) refl) x.2)

  -- ---- ways that lead to a node

  -- into an input port, from the outside of the top or from what is connected to the instance
  pub record InputWay (k j : Node) (w : Way) : Type 0 where
    pub path : Path
    pub parent : ModuleView
    pub at : module_at s path ≡ Some parent
    pub port : PortView
    pub there : IsIn port parent.ports
    pub direction : is_input port ≡ true
    pub index : Option ℕ
    pub way : w ≡ PortBit path port.name index
    pub node : k ≡ Inner port.name index path
    pub top : path ≡ [] → j ≡ Outer port.name index

  -- out of an output port
  pub record OutputWay (j : Node) (w : Way) : Type 0 where
    pub path : Path
    pub parent : ModuleView
    pub at : module_at s path ≡ Some parent
    pub port : PortView
    pub there : IsIn port parent.ports
    pub direction : is_input port ≡ false
    pub index : Option ℕ
    pub way : w ≡ PortBit path port.name index
    pub node : j ≡ Inner port.name index path

  -- by an assign
  pub record AssignWay (w : Way) : Type 0 where
    pub path : Path
    pub number : ℕ
    pub place : ℕ
    pub way : w ≡ AssignBit path number place

  pub data Leads (k j : Node) (w : Way) : Type 0 where
    Into : InputWay k j w → Leads k j w
    Out : OutputWay j w → Leads k j w
    ByAssign : AssignWay w → Leads k j w

  when-is : {A : Type 0} (b : Bool) (x y : A) → when b x ≡ Some y → x ≡ y
  when-is true x y e = cc
  when-is false x y e = absurd cc

  ways-are : (v w : Way) (h j : Node) → From v h ≡ From w j → v ≡ w
  ways-are v w h j e = cc

  nodes-are : (v w : Way) (h j : Node) → From v h ≡ From w j → h ≡ j
  nodes-are v w h j e = cc

  in-then : {A B : Type 0} (f : A → Option (List B)) (o : Option A) (x : B) → IsIn x (unwrap_or (option_and_then f o) []) → (a : A) × IsIn x (unwrap_or (f a) [])
  in-then f None x h = absurd h
  in-then f (Some a) x h = (a, h)

  module _ (n : Name) (i : Option ℕ) (j : Node) (w : Way) where
    port-way : (x : Path) (port : PortView) → IsIn (From w j) (from_port s x n i port) → (w ≡ PortBit x n i) × (x ≡ [] → j ≡ Outer n i)
    port-way [] port h = let found = by (list_any (same_index i) (indices port.range)) h in (found.0, λ same. found.1)
      where
        by : (t : Bool) → IsIn (From w j) (cond t (From (PortBit [] n i) (Outer n i) ∷ []) []) → (w ≡ PortBit [] n i) × (j ≡ Outer n i)
        by true (inl e) = (ways-are w (PortBit [] n i) j (Outer n i) e, nodes-are w (PortBit [] n i) j (Outer n i) e)
        by true (inr e) = absurd e
        by false e = absurd e
    port-way (inst ∷ q) port h =
        let above = in-then (λ (outer : ModuleView). option_and_then (λ (y : InstanceView). option_and_then (λ (inner : ModuleView). Some (joined_outside q inst n i port y inner)) (module_named s y.target)) (first (λ (y : InstanceView). bytes_eq y.name inst) outer.instances)) (module_at s q) (From w j) h in
        let at = in-then (λ (y : InstanceView). option_and_then (λ (inner : ModuleView). Some (joined_outside q inst n i port y inner)) (module_named s y.target)) (first (λ (y : InstanceView). bytes_eq y.name inst) above.0.instances) (From w j) above.1 in
        let of = in-then (λ (inner : ModuleView). Some (joined_outside q inst n i port at.0 inner)) (module_named s at.0.target) (From w j) at.1 in
        let pair = of-some (λ (z : Option ℕ × BitView). when (same_index z.0 i) (From (PortBit (inst ∷ q) n i) (node_of q z.1))) (From w j) (pairs (indices port.range) (connected of.0.ports n at.0.connections)) of.1 in
        let is = when-is (same_index pair.0.0 i) (From (PortBit (inst ∷ q) n i) (node_of q pair.0.1)) (From w j) pair.2 in
        (sym (ways-are (PortBit (inst ∷ q) n i) w (node_of q pair.0.1) j is), λ same. absurd cc)

    module _ (x : Path) (m : ModuleView) (at : module_at s x ≡ Some m) where
      of-port : IsIn (From w j) (ports_in s x n i m) → Leads (Inner n i x) j w
      of-port h =
          let port = of-flat (from_port s x n i) (From w j) (filter (λ (q : PortView). bytes_eq q.name n && is_input q) m.ports) h in
          let kept = of-filter (λ (q : PortView). bytes_eq q.name n && is_input q) port.0 m.ports port.1 in
          let named : port.0.name ≡ n = name-true port.0.name n (one (bytes_eq port.0.name n) (is_input port.0) kept.1) in
          let found = port-way x port.0 port.2 in
          Into (record {
            path = x;
            parent = m;
            at = at;
            port = port.0;
            there = kept.0;
            direction = other (bytes_eq port.0.name n) (is_input port.0) kept.1;
            index = i;
            way = found.0 ∙ ap (λ a. PortBit x a i) (sym named);
            node = ap (λ a. Inner a i x) (sym named);
            top = λ same. found.1 same ∙ ap (λ a. Outer a i) (sym named);
          })

      of-inside : (y : InstanceView) → IsIn y m.instances → (inner : ModuleView) → module_named s y.target ≡ Some inner → IsIn (From w j) (from_instance x n i y inner) → Leads (Inner n i x) j w
      of-inside y hy inner target h =
          let port = of-flat (joined_inside x n i y inner) (From w j) (filter (λ (q : PortView). not (is_input q)) inner.ports) h in
          let kept = of-filter (λ (q : PortView). not (is_input q)) port.0 inner.ports port.1 in
          let f = λ (z : Option ℕ × BitView). when (same_node (node_of x z.1) (Inner n i x)) (From (PortBit (y.name ∷ x) port.0.name z.0) (Inner port.0.name z.0 (y.name ∷ x))) in
          let pair = of-some f (From w j) (pairs (indices port.0.range) (connected inner.ports port.0.name y.connections)) port.2 in
          let is = when-is (same_node (node_of x pair.0.1) (Inner n i x)) (From (PortBit (y.name ∷ x) port.0.name pair.0.0) (Inner port.0.name pair.0.0 (y.name ∷ x))) (From w j) pair.2 in
          Out (record {
            path = y.name ∷ x;
            parent = inner;
            at = child-at x m y inner at hy target;
            port = port.0;
            there = kept.0;
            direction = not-true (is_input port.0) kept.1;
            index = pair.0.0;
            way = sym (ways-are (PortBit (y.name ∷ x) port.0.name pair.0.0) w (Inner port.0.name pair.0.0 (y.name ∷ x)) j is);
            node = sym (nodes-are (PortBit (y.name ∷ x) port.0.name pair.0.0) w (Inner port.0.name pair.0.0 (y.name ∷ x)) j is);
          })

      pins_from : InstanceView → CellView → List Source
      pins_from y c = some_of (λ (q : PinView). when (is_output_pin q && touches x n i (connected [] q.name y.connections)) (CellPin x y.name q.name)) c.pins

      pgs_from : InstanceView → CellView → List Source
      pgs_from y c = some_of (λ (g : PgPinView). when (is_some g.switched && touches x n i (connected [] g.name y.connections)) (SwitchedPin x y.name g.name)) c.pgs

      of-cell : (y : InstanceView) (c : CellView) → IsIn (From w j) (from_cell x n i y c) → Leads (Inner n i x) j w
      unfolding pins_from pgs_from
      of-cell y c h = elim (in-either (From w j) (pins_from y c) (pgs_from y c) h) [
        | inl pin ↦
            let q = of-some (λ (q : PinView). when (is_output_pin q && touches x n i (connected [] q.name y.connections)) (CellPin x y.name q.name)) (From w j) c.pins pin in
            let is : CellPin x y.name q.0.name ≡ From w j = when-is (is_output_pin q.0 && touches x n i (connected [] q.0.name y.connections)) (CellPin x y.name q.0.name) (From w j) q.2 in
            absurd cc
        | inr pg ↦
            let g = of-some (λ (g : PgPinView). when (is_some g.switched && touches x n i (connected [] g.name y.connections)) (SwitchedPin x y.name g.name)) (From w j) c.pgs pg in
            let is : SwitchedPin x y.name g.0.name ≡ From w j = when-is (is_some g.0.switched && touches x n i (connected [] g.0.name y.connections)) (SwitchedPin x y.name g.0.name) (From w j) g.2 in
            absurd cc
      ]

      of-target : (y : InstanceView) → IsIn y m.instances → (o : Option ModuleView) (c : Option CellView) → module_named s y.target ≡ o → IsIn (From w j) (from_target x n i y o c) → Leads (Inner n i x) j w
      of-target y hy (Some inner) c e h = of-inside y hy inner e h
      of-target y hy None (Some c) e h = of-cell y c h
      of-target y hy None None e h = absurd h

      of-assign : IsIn (From w j) (flat_map (from_assign x n i) (numbered 0 m.assigns)) → Leads (Inner n i x) j w
      of-assign h =
          let a = of-flat (from_assign x n i) (From w j) (numbered 0 m.assigns) h in
          let f = λ (z : ℕ × (BitView × BitView)). when (same_node (node_of x z.1.0) (Inner n i x)) (From (AssignBit x a.0.0 z.0) (node_of x z.1.1)) in
          let pair = of-some f (From w j) (numbered 0 (pairs a.0.1.left a.0.1.right)) a.2 in
          let is = when-is (same_node (node_of x pair.0.1.0) (Inner n i x)) (From (AssignBit x a.0.0 pair.0.0) (node_of x pair.0.1.1)) (From w j) pair.2 in
          ByAssign (record { path = x; number = a.0.0; place = pair.0.0; way = sym (ways-are (AssignBit x a.0.0 pair.0.0) w (node_of x pair.0.1.1) j is) })

      of-module : IsIn (From w j) (in_module s x n i m) → Leads (Inner n i x) j w
      of-module h = elim (in-either (From w j) (ports_in s x n i m) (flat_map (from_one s x n i) m.instances ++ flat_map (from_assign x n i) (numbered 0 m.assigns)) h) [
        | inl port ↦ of-port port
        | inr rest ↦ elim (in-either (From w j) (flat_map (from_one s x n i) m.instances) (flat_map (from_assign x n i) (numbered 0 m.assigns)) rest) [
          | inl inst ↦ let y = of-flat (from_one s x n i) (From w j) m.instances inst in of-target y.0 y.1 (module_named s y.0.target) (cell_named s y.0.target) refl y.2
          | inr assign ↦ of-assign assign
        ]
      ]

    head-in : (xs : List Source) (x : Source) → head_of xs ≡ Some x → IsIn x xs
    head-in [] x e = absurd cc
    head-in (y ∷ xs) x e = let is : x ≡ y = cc in inl is

    inner_sources : Path → Option ModuleView → List Source
    inner_sources x None = []
    inner_sources x (Some m) = in_module s x n i m

    inner-by : (x : Path) (o : Option ModuleView) → module_at s x ≡ o → sources_of s (Inner n i x) ≡ inner_sources x o
    unfolding inner_sources
    inner-by x None e = rw (e) refl
    inner-by x (Some m) e = rw (e) refl

    inner-leads : (x : Path) (o : Option ModuleView) → module_at s x ≡ o → source_of s (Inner n i x) ≡ Some (From w j) → Leads (Inner n i x) j w
    unfolding inner_sources
    inner-leads x None is e = let none : None ≡ Some (From w j) = sym (source_by s (Inner n i x) [] (inner-by x None is)) ∙ e in absurd cc
    inner-leads x (Some m) is e = of-module x m is (head-in (in_module s x n i m) (From w j) (sym (source_by s (Inner n i x) (in_module s x n i m) (inner-by x (Some m) is)) ∙ e))

    outside-is : (port : PortView) → outside n i port ≡ From w j → (is_input port ≡ false) × (w ≡ PortBit [] n i) × (j ≡ Inner n i [])
    outside-is port e = by (is_input port) refl e
      where
        by : (b : Bool) → is_input port ≡ b → cond b Environment (From (PortBit [] n i) (Inner n i [])) ≡ From w j → (is_input port ≡ false) × (w ≡ PortBit [] n i) × (j ≡ Inner n i [])
        by true is e = absurd cc
        by false is e = (is, sym (ways-are (PortBit [] n i) w (Inner n i []) j e), sym (nodes-are (PortBit [] n i) w (Inner n i []) j e))

    outer-leads : (o : Option ModuleView) → module_at s [] ≡ o → source_of s (Outer n i) ≡ Some (From w j) → Leads (Outer n i) j w
    outer-leads None is e = let none : None ≡ Some (From w j) = sym (source_by s (Outer n i) [] (outer_by s n i None is)) ∙ e in absurd cc
    outer-leads (Some m) is e =
        let test = λ (port : PortView). bytes_eq port.name n && list_any (same_index i) (indices port.range) in
        let there = head-in (outer_sources s n i (Some m)) (From w j) (sym (source_by s (Outer n i) (outer_sources s n i (Some m)) (outer_by s n i (Some m) is)) ∙ e) in
        let port = of-map (outside n i) (From w j) (filter test m.ports) there in
        let kept = of-filter test port.0 m.ports port.1 in
        let named : port.0.name ≡ n = name-true port.0.name n (one (bytes_eq port.0.name n) (list_any (same_index i) (indices port.0.range)) kept.1) in
        let found = outside-is port.0 (sym port.2) in
        Out (record {
          path = [];
          parent = m;
          at = is;
          port = port.0;
          there = kept.0;
          direction = found.0;
          index = i;
          way = found.1 ∙ ap (λ a. PortBit [] a i) (sym named);
          node = found.2 ∙ ap (λ a. Inner a i []) (sym named);
        })

  leads : (k j : Node) (w : Way) → source_of s k ≡ Some (From w j) → Leads k j w
  leads (Inner n i x) j w e = inner-leads n i j w x (module_at s x) refl e
  leads (Outer n i) j w e = outer-leads n i j w (module_at s []) refl e
  leads (Fixed b) j w e = let none : None ≡ Some (From w j) = e in absurd cc

  -- ---- the node before a bit

  input-before : (x : Path) (n : Name) (r : Option BitRange) (i : Option ℕ) (d : Direction) → is_input (record { name = n; direction = d; range = r }) ≡ true
      → (k j : Node) (w : Way) → source_of s k ≡ Some (From w j) → k ≡ Inner n i x → (x ≡ [] → j ≡ Outer n i)
      → node_before s (record { path = x; port = record { name = n; direction = d; range = r }; index = i }) ≡ j
  input-before x n r i Output is k j w e node top = absurd (false≢true is)
  input-before [] n r i Input is k j w e node top = sym (top refl)
  input-before (y ∷ x) n r i Input is k j w e node top = ap (λ o. beginning (Inner n i (y ∷ x)) (going_back (λ z. trail s 0 z) (way_in o))) (ap (source_of s) (sym node) ∙ e)

  output-before : (x : Path) (n : Name) (r : Option BitRange) (i : Option ℕ) (d : Direction) → is_input (record { name = n; direction = d; range = r }) ≡ false
      → node_before s (record { path = x; port = record { name = n; direction = d; range = r }; index = i }) ≡ Inner n i x
  output-before x n r i Input is = absurd (true≢false is)
  output-before [] n r i Output is = refl
  output-before (y ∷ x) n r i Output is = refl

  module _ (i : Intent) (k j : Node) (w : Way) (b : BoundaryBit) (source : source_of s k ≡ Some (From w j)) (found : bit_of_way s i w ≡ Some b) where
    way-is : PortBit b.path b.port.name b.index ≡ w
    way-is = way-true (PortBit b.path b.port.name b.index) w (first_in (λ (c : BoundaryBit). same_way (way_of c) w) (boundary s i) b found).1

    its-port : HasPort b
    its-port = has-port i b (first_in (λ (c : BoundaryBit). same_way (way_of c) w) (boundary s i) b found).0

    -- the port of a module of the bit's instance that has the bit's name is the bit's
    the-port : (x : Path) (m : ModuleView) (q : PortView) → module_at s x ≡ Some m → IsIn q m.ports → b.path ≡ x → b.port.name ≡ q.name → b.port ≡ q
    the-port x m q at there path name =
        let both : Some its-port.parent ≡ Some m = sym its-port.at ∙ (ap (module_at s) path ∙ at) in
        let same : its-port.parent ≡ m = cc in
        one-port m (known-module x m at) b.port q (subst (λ (o : ModuleView). IsIn b.port o.ports) same its-port.there) there name

    before : Leads k j w → node_before s b ≡ j
    before (Into h) =
        let ways : PortBit b.path b.port.name b.index ≡ PortBit h.path h.port.name h.index = way-is ∙ h.way in
        let path : b.path ≡ h.path = cc in
        let name : b.port.name ≡ h.port.name = cc in
        let index : b.index ≡ h.index = cc in
        let input : is_input b.port ≡ true = ap is_input (the-port h.path h.parent h.port h.at h.there path name) ∙ h.direction in
        input-before b.path b.port.name b.port.range b.index b.port.direction input k j w source
        (h.node ∙ sym (λ r. Inner (name r) (index r) (path r)))
        (λ top. h.top (sym path ∙ top) ∙ sym (λ r. Outer (name r) (index r)))
    before (Out h) =
        let ways : PortBit b.path b.port.name b.index ≡ PortBit h.path h.port.name h.index = way-is ∙ h.way in
        let path : b.path ≡ h.path = cc in
        let name : b.port.name ≡ h.port.name = cc in
        let index : b.index ≡ h.index = cc in
        let output : is_input b.port ≡ false = ap is_input (the-port h.path h.parent h.port h.at h.there path name) ∙ h.direction in
        output-before b.path b.port.name b.port.range b.index b.port.direction output
        ∙ ((λ r. Inner (name r) (index r) (path r)) ∙ sym h.node)
    before (ByAssign h) = let wrong : PortBit b.path b.port.name b.index ≡ AssignBit h.path h.number h.place = way-is ∙ h.way in absurd cc

pub from-bits : (p : Project) → has_names_apart p.structure.modules ≡ true → HasWaysFromBits p
from-bits p apart k j w b source found = before p.structure apart p.intent k j w b source found (leads p.structure apart k j w source)

-- The boundary bit of a way begins where the way comes from.
use Rattle.std.proofs.Common.{◌≡◌, ◌⊎◌, ℕ, ◌==◌, Bool, true, false, not, ◌&&◌, List, [], ◌∷◌, ◌++◌, map, Option, Some, None, inl, inr, refl, sym, ap, ◌∙◌, subst}
use Rattle.std.specs.Prelude.{bytes_eq, filter, flat_map, is_some, if◌then◌else◌, option_and_then, unwrap_or}
use Rattle.std.specs.List.{list_any}
use Rattle.std.proofs.lemmas.Bool.{and_parts, false≢true, not-true, eqb-true}
use Rattle.lp_model.specs.NetlistView.{BitView, PortView, InstanceView, ModuleView}
use Rattle.lp_model.specs.LibraryView.{PgPinView, PinView, CellView}
use Rattle.lp_spec_design.specs.Keys.{Name, Path, same_path, same_index, same_way, Way, PortBit, AssignBit, Node, Inner, Outer, Fixed, same_node, Source, CellPin, SwitchedPin, Environment, From}
use Rattle.lp_spec_design.specs.Netlists.{Structure, first, module_named, cell_named, module_at, indices, node_of, is_input, connected}
use Rattle.lp_spec_design.specs.Instances.{module_instances}
use Rattle.lp_spec_design.specs.Graph.{pairs, some_of, when, joined_outside, from_port, ports_in, joined_inside, from_instance, is_output_pin, touches, from_cell, from_target, from_one, numbered, from_assign, in_module, outside, sources_of, source_of, trail, way_in, going_back, beginning}
use Rattle.lp_spec_design.specs.Intents.{Intent}
use Rattle.lp_spec_design.specs.Domains.{BoundaryBit, bits_of, boundary, is_boundary, way_of, node_before}
use Rattle.lp_spec_design.specs.Chains.{bit_of_way}
use Rattle.lp_spec_design.specs.Winners.{IsIn}
use Rattle.lp_spec_design.specs.Reads.{one, other, name-true, path-true, index-true}
use Rattle.lp_spec_design.proofs.Members.{in-either, of-map, of-flat, of-filter, of-some}
use Rattle.lp_spec_design.proofs.Looped.{head_of, source_by, outer_sources, outer_by}
use Rattle.lp_spec_design.proofs.Sources.{first_in}
use Rattle.lp_spec_realises.specs.ProjectNetlists.{has_names_apart}
use Rattle.lp_spec_agreement.proofs.Apart.{when_is, same_named, ports_apart, module_below}

pub head_in : (xs : List Source) (x : Source) → head_of xs ≡ Some x → IsIn x xs
head_in [] x e = absurd cc
head_in (y ∷ xs) x e = let is : x ≡ y = cc in inl is

pub in_some : {A B : Type 0} (f : A → Option (List B)) (o : Option A) (x : B) → IsIn x (unwrap_or (option_and_then f o) []) → (a : A) × (o ≡ Some a) × IsIn x (unwrap_or (f a) [])
in_some f None x h = absurd h
in_some f (Some a) x h = (a, refl, h)

way-true : (v w : Way) → same_way v w ≡ true → v ≡ w
way-true (PortBit p m i) (PortBit q n j) e = λ r.
    PortBit (path-true p q (other (same_index i j) (same_path p q) (other (bytes_eq m n) (same_index i j && same_path p q) e)) r)
    (name-true m n (one (bytes_eq m n) (same_index i j && same_path p q) e) r)
    (index-true i j (one (same_index i j) (same_path p q) (other (bytes_eq m n) (same_index i j && same_path p q) e)) r)
way-true (PortBit p m i) (AssignBit q b l) e = absurd (false≢true e)
way-true (AssignBit p a k) (PortBit q n j) e = absurd (false≢true e)
way-true (AssignBit p a k) (AssignBit q b l) e = λ r.
    AssignBit (path-true p q (other (k == l) (same_path p q) (other (a == b) ((k == l) && same_path p q) e)) r)
    (eqb-true a b (one (a == b) ((k == l) && same_path p q) e) r)
    (eqb-true k l (one (k == l) (same_path p q) (other (a == b) ((k == l) && same_path p q) e)) r)

-- ---- a boundary bit is a bit of a port of its instance

pub record IsBitOf (s : Structure) (b : BoundaryBit) : Type 0 where
  pub owner : ModuleView
  pub there : module_at s b.path ≡ Some owner
  pub port_in : IsIn b.port owner.ports

bits_by : Path → Option ModuleView → List BoundaryBit
bits_by p None = []
bits_by p (Some m) = flat_map (λ (x : PortView). map (λ i. record { path = p; port = x; index = i }) (indices x.range)) m.ports

bits_are : (s : Structure) (p : Path) (o : Option ModuleView) → module_at s p ≡ o → bits_of s p ≡ bits_by p o
unfolding bits_by
bits_are s p None e = rw e refl
bits_are s p (Some m) e = rw e refl

is_bit : (s : Structure) (b : BoundaryBit) (p : Path) (o : Option ModuleView) → module_at s p ≡ o → IsIn b (bits_by p o) → IsBitOf s b
unfolding bits_by
is_bit s b p None e h = absurd h
is_bit s b p (Some m) e h =
    let port = of-flat (λ (x : PortView). map (λ i. record { path = p; port = x; index = i }) (indices x.range)) b m.ports h in
    let index = of-map (λ i. record { path = p; port = port.0; index = i }) b (indices port.0.range) port.2 in
    let is : b ≡ record { path = p; port = port.0; index = index.0 } = index.2 in
    record { owner = m; there = ap (λ z. module_at s z.path) is ∙ e; port_in = subst (λ z. IsIn z m.ports) (ap (λ z. z.port) (sym is)) port.1 }

pub bit_owner : (s : Structure) (i : Intent) (b : BoundaryBit) → IsIn b (boundary s i) → IsBitOf s b
bit_owner s i b h =
    let at = of-flat (bits_of s) b (filter (is_boundary i) (module_instances s)) h in
    is_bit s b at.0 (module_at s at.0) refl (subst (λ xs. IsIn b xs) (bits_are s at.0 (module_at s at.0) refl) at.2)

module _ (s : Structure) (apart : has_names_apart s.modules ≡ true) (b : BoundaryBit) (of : IsBitOf s b) where
  -- a port of the bit's instance that has its name is its port
  same_port : (m : ModuleView) (q : PortView) → module_at s b.path ≡ Some m → IsIn q m.ports → q.name ≡ b.port.name → q ≡ b.port
  same_port m q e h n =
      let same : Some m ≡ Some of.owner = sym e ∙ of.there in
      let is : m ≡ of.owner = cc in
      same_named (λ (x : PortView). x.name) of.owner.ports (ports_apart s apart b.path of.owner of.there) q b.port (subst (λ k. IsIn q k.ports) is h) of.port_in n

  -- where the way of a bit comes from, by the bit's direction
  before_of : Path → Bool → Node → Node
  before_of [] true k = Outer b.port.name b.index
  before_of [] false k = Inner b.port.name b.index []
  before_of (x ∷ p) true k = k
  before_of (x ∷ p) false k = Inner b.port.name b.index (x ∷ p)

  before_is : (p : Path) (t : Bool) (w : Way) (j : Node) → b.path ≡ p → is_input b.port ≡ t → (t ≡ true → (source_of s (Inner b.port.name b.index p) ≡ Some (From w j)) ⊎ (p ≡ [])) → node_before s b ≡ before_of p t j
  unfolding before_of
  before_is [] true w j e f above = rw (e, f) refl
  before_is [] false w j e f above = rw (e, f) refl
  before_is (x ∷ p) false w j e f above = rw (e, f) refl
  before_is (x ∷ p) true w j e f above = elim (above refl) [
    | inl source ↦
        let here : node_before s b ≡ beginning (Inner b.port.name b.index (x ∷ p)) (going_back (λ i. trail s 0 i) (way_in (source_of s (Inner b.port.name b.index (x ∷ p))))) = rw (e, f) refl in
        here ∙ ap (λ o. beginning (Inner b.port.name b.index (x ∷ p)) (going_back (λ i. trail s 0 i) (way_in o))) source
    | inr none ↦ let no : (x ∷ p) ≡ [] = none in absurd cc
  ]

  module _ (w : Way) (j : Node) (named : way_of b ≡ w) where
    -- through an input port of the top
    top_in : (m : ModuleView) (n : Name) (i : Option ℕ) (q : PortView) → module_at s [] ≡ Some m → IsIn q m.ports → bytes_eq q.name n ≡ true → is_input q ≡ true → IsIn (From w j) (from_port s [] n i q) → node_before s b ≡ j
    unfolding before_of
    top_in m n i q at h qn input x = by (list_any (same_index i) (indices q.range)) refl x
      where
        by : (t : Bool) → list_any (same_index i) (indices q.range) ≡ t → IsIn (From w j) (if t then From (PortBit [] n i) (Outer n i) ∷ [] else []) → node_before s b ≡ j
        by false e g = absurd g
        by true e (inr g) = absurd g
        by true e (inl is) =
            let way : w ≡ PortBit [] n i = cc in
            let from : j ≡ Outer n i = cc in
            let all : PortBit b.path b.port.name b.index ≡ PortBit [] n i = named ∙ way in
            let path : b.path ≡ [] = cc in
            let name : b.port.name ≡ n = cc in
            let index : b.index ≡ i = cc in
            let port : q ≡ b.port = same_port m q (ap (module_at s) path ∙ at) h (name-true q.name n qn ∙ sym name) in
            before_is [] true w j path (ap is_input (sym port) ∙ input) (λ t. inr refl) ∙ ((λ r. Outer (name r) (index r)) ∙ sym from)

    -- through an input port of an instance
    instance_in : (inst : Name) (p : Path) (m : ModuleView) (n : Name) (i : Option ℕ) (q : PortView) → module_at s (inst ∷ p) ≡ Some m → IsIn q m.ports → bytes_eq q.name n ≡ true → is_input q ≡ true
        → source_of s (Inner n i (inst ∷ p)) ≡ Some (From w j) → IsIn (From w j) (from_port s (inst ∷ p) n i q) → node_before s b ≡ j
    unfolding before_of
    instance_in inst p m n i q at h qn input e x =
        let above = in_some (λ (outer : ModuleView). option_and_then (λ (y : InstanceView). option_and_then (λ (inner : ModuleView). Some (joined_outside p inst n i q y inner)) (module_named s y.target)) (first (λ (y : InstanceView). bytes_eq y.name inst) outer.instances)) (module_at s p) (From w j) x in
        let that = in_some (λ (y : InstanceView). option_and_then (λ (inner : ModuleView). Some (joined_outside p inst n i q y inner)) (module_named s y.target)) (first (λ (y : InstanceView). bytes_eq y.name inst) above.0.instances) (From w j) above.2 in
        let inside = in_some (λ (inner : ModuleView). Some (joined_outside p inst n i q that.0 inner)) (module_named s that.0.target) (From w j) that.2 in
        let pair = of-some (λ (z : Option ℕ × BitView). when (same_index z.0 i) (From (PortBit (inst ∷ p) n i) (node_of p z.1))) (From w j) (pairs (indices q.range) (connected inside.0.ports n that.0.connections)) inside.2 in
        let is = (when_is (same_index pair.0.0 i) (From (PortBit (inst ∷ p) n i) (node_of p pair.0.1)) (From w j) pair.2).1 in
        let way : w ≡ PortBit (inst ∷ p) n i = cc in
        let all : PortBit b.path b.port.name b.index ≡ PortBit (inst ∷ p) n i = named ∙ way in
        let path : b.path ≡ inst ∷ p = cc in
        let name : b.port.name ≡ n = cc in
        let index : b.index ≡ i = cc in
        let port : q ≡ b.port = same_port m q (ap (module_at s) path ∙ at) h (name-true q.name n qn ∙ sym name) in
        before_is (inst ∷ p) true w j path (ap is_input (sym port) ∙ input) (λ t. inl ((λ r. source_of s (Inner (name r) (index r) (inst ∷ p))) ∙ e))

    -- through an output port of an instance
    instance_out : (p : Path) (m : ModuleView) → module_at s p ≡ Some m → (n : Name) (i : Option ℕ) (y : InstanceView) → IsIn y m.instances → (inner : ModuleView) → module_named s y.target ≡ Some inner
        → IsIn (From w j) (from_instance p n i y inner) → node_before s b ≡ j
    unfolding before_of
    instance_out p m at n i y hy inner target x =
        let port = of-flat (joined_inside p n i y inner) (From w j) (filter (λ (q : PortView). not (is_input q)) inner.ports) x in
        let kept = of-filter (λ (q : PortView). not (is_input q)) port.0 inner.ports port.1 in
        let pair = of-some (λ (z : Option ℕ × BitView). when (same_node (node_of p z.1) (Inner n i p)) (From (PortBit (y.name ∷ p) port.0.name z.0) (Inner port.0.name z.0 (y.name ∷ p)))) (From w j) (pairs (indices port.0.range) (connected inner.ports port.0.name y.connections)) port.2 in
        let is = (when_is (same_node (node_of p pair.0.1) (Inner n i p)) (From (PortBit (y.name ∷ p) port.0.name pair.0.0) (Inner port.0.name pair.0.0 (y.name ∷ p))) (From w j) pair.2).1 in
        let way : w ≡ PortBit (y.name ∷ p) port.0.name pair.0.0 = cc in
        let from : j ≡ Inner port.0.name pair.0.0 (y.name ∷ p) = cc in
        let all : PortBit b.path b.port.name b.index ≡ PortBit (y.name ∷ p) port.0.name pair.0.0 = named ∙ way in
        let path : b.path ≡ y.name ∷ p = cc in
        let name : b.port.name ≡ port.0.name = cc in
        let index : b.index ≡ pair.0.0 = cc in
        let same : port.0 ≡ b.port = same_port inner port.0 (ap (module_at s) path ∙ (module_below s apart p m at y hy ∙ target)) kept.0 (sym name) in
        before_is (y.name ∷ p) false w j path (ap is_input (sym same) ∙ not-true _ kept.1) (λ t. absurd (false≢true t))
        ∙ ((λ r. Inner (name r) (index r) (y.name ∷ p)) ∙ sym from)

    no_cell : (p : Path) (n : Name) (i : Option ℕ) (y : InstanceView) (c : CellView) → IsIn (From w j) (from_cell p n i y c) → ⊥
    no_cell p n i y c x = elim (in-either (From w j)
        (some_of (λ (q : PinView). when (is_output_pin q && touches p n i (connected [] q.name y.connections)) (CellPin p y.name q.name)) c.pins)
        (some_of (λ (g : PgPinView). when (is_some g.switched && touches p n i (connected [] g.name y.connections)) (SwitchedPin p y.name g.name)) c.pgs) x) [
          | inl pin ↦
              let at = of-some (λ (q : PinView). when (is_output_pin q && touches p n i (connected [] q.name y.connections)) (CellPin p y.name q.name)) (From w j) c.pins pin in
              let is = (when_is (is_output_pin at.0 && touches p n i (connected [] at.0.name y.connections)) (CellPin p y.name at.0.name) (From w j) at.2).1 in absurd cc
          | inr pg ↦
              let at = of-some (λ (g : PgPinView). when (is_some g.switched && touches p n i (connected [] g.name y.connections)) (SwitchedPin p y.name g.name)) (From w j) c.pgs pg in
              let is = (when_is (is_some at.0.switched && touches p n i (connected [] at.0.name y.connections)) (SwitchedPin p y.name at.0.name) (From w j) at.2).1 in absurd cc
        ]

    no_assign : (p : Path) (n : Name) (i : Option ℕ) (m : ModuleView) → IsIn (From w j) (flat_map (from_assign p n i) (numbered 0 m.assigns)) → ⊥
    no_assign p n i m x =
        let a = of-flat (from_assign p n i) (From w j) (numbered 0 m.assigns) x in
        let pair = of-some (λ (z : ℕ × (BitView × BitView)). when (same_node (node_of p z.1.0) (Inner n i p)) (From (AssignBit p a.0.0 z.0) (node_of p z.1.1))) (From w j) (numbered 0 (pairs a.0.1.left a.0.1.right)) a.2 in
        let is = (when_is (same_node (node_of p pair.0.1.0) (Inner n i p)) (From (AssignBit p a.0.0 pair.0.0) (node_of p pair.0.1.1)) (From w j) pair.2).1 in
        let way : w ≡ AssignBit p a.0.0 pair.0.0 = cc in
        let all : PortBit b.path b.port.name b.index ≡ AssignBit p a.0.0 pair.0.0 = named ∙ way in
        absurd cc

    inner_sources : Path → Name → Option ℕ → Option ModuleView → List Source
    inner_sources p n i None = []
    inner_sources p n i (Some m) = in_module s p n i m

    inner_by : (p : Path) (n : Name) (i : Option ℕ) (o : Option ModuleView) → module_at s p ≡ o → sources_of s (Inner n i p) ≡ inner_sources p n i o
    unfolding inner_sources
    inner_by p n i None e = rw (e) refl
    inner_by p n i (Some m) e = rw (e) refl

    target_in : (p : Path) (m : ModuleView) → module_at s p ≡ Some m → (n : Name) (i : Option ℕ) (y : InstanceView) → IsIn y m.instances
        → (o : Option ModuleView) → module_named s y.target ≡ o → (c : Option CellView) → IsIn (From w j) (from_target p n i y o c) → node_before s b ≡ j
    target_in p m at n i y hy (Some inner) target c x = instance_out p m at n i y hy inner target x
    target_in p m at n i y hy None target (Some c) x = absurd (no_cell p n i y c x)
    target_in p m at n i y hy None target None x = absurd x

    port_in : (p : Path) (m : ModuleView) → module_at s p ≡ Some m → (n : Name) (i : Option ℕ) (q : PortView) → IsIn q m.ports → bytes_eq q.name n ≡ true → is_input q ≡ true
        → source_of s (Inner n i p) ≡ Some (From w j) → IsIn (From w j) (from_port s p n i q) → node_before s b ≡ j
    port_in [] m at n i q h qn input e x = top_in m n i q at h qn input x
    port_in (inst ∷ p) m at n i q h qn input e x = instance_in inst p m n i q at h qn input e x

    module_in : (p : Path) (m : ModuleView) → module_at s p ≡ Some m → (n : Name) (i : Option ℕ) → source_of s (Inner n i p) ≡ Some (From w j) → IsIn (From w j) (in_module s p n i m) → node_before s b ≡ j
    module_in p m at n i e x = elim (in-either (From w j) (ports_in s p n i m) (flat_map (from_one s p n i) m.instances ++ flat_map (from_assign p n i) (numbered 0 m.assigns)) x) [
      | inl port ↦
          let q = of-flat (from_port s p n i) (From w j) (filter (λ (q : PortView). bytes_eq q.name n && is_input q) m.ports) port in
          let kept = of-filter (λ (q : PortView). bytes_eq q.name n && is_input q) q.0 m.ports q.1 in
          let both = and_parts _ _ kept.1 in
          port_in p m at n i q.0 kept.0 both.0 both.1 e q.2
      | inr rest ↦ elim (in-either (From w j) (flat_map (from_one s p n i) m.instances) (flat_map (from_assign p n i) (numbered 0 m.assigns)) rest) [
        | inl inst ↦ let y = of-flat (from_one s p n i) (From w j) m.instances inst in target_in p m at n i y.0 y.1 (module_named s y.0.target) refl (cell_named s y.0.target) y.2
        | inr assign ↦ absurd (no_assign p n i m assign)
      ]
    ]

    inner_in : (p : Path) (n : Name) (i : Option ℕ) → source_of s (Inner n i p) ≡ Some (From w j) → (o : Option ModuleView) → module_at s p ≡ o → node_before s b ≡ j
    unfolding inner_sources
    inner_in p n i e None at = let none : None ≡ Some (From w j) = sym (source_by s (Inner n i p) [] (inner_by p n i None at)) ∙ e in absurd cc
    inner_in p n i e (Some m) at = module_in p m at n i e (head_in (in_module s p n i m) (From w j) (sym (source_by s (Inner n i p) (in_module s p n i m) (inner_by p n i (Some m) at)) ∙ e))

    outer_in : (n : Name) (i : Option ℕ) → source_of s (Outer n i) ≡ Some (From w j) → (o : Option ModuleView) → module_at s [] ≡ o → node_before s b ≡ j
    unfolding before_of
    outer_in n i e None at = let none : None ≡ Some (From w j) = sym (source_by s (Outer n i) [] (outer_by s n i None at)) ∙ e in absurd cc
    outer_in n i e (Some m) at =
        let test = λ (port : PortView). bytes_eq port.name n && list_any (same_index i) (indices port.range) in
        let there = head_in (outer_sources s n i (Some m)) (From w j) (sym (source_by s (Outer n i) (outer_sources s n i (Some m)) (outer_by s n i (Some m) at)) ∙ e) in
        let port = of-map (outside n i) (From w j) (filter test m.ports) there in
        let kept = of-filter test port.0 m.ports port.1 in
        by port.0 kept.0 (name-true port.0.name n (and_parts _ _ kept.1).0) (is_input port.0) refl port.2
      where
        by : (q : PortView) → IsIn q m.ports → q.name ≡ n → (t : Bool) → is_input q ≡ t → From w j ≡ outside n i q → node_before s b ≡ j
        by q h qn true input is = let no : From w j ≡ Environment = rw input at is in absurd cc
        by q h qn false input is =
            let here : From w j ≡ From (PortBit [] n i) (Inner n i []) = rw input at is in
            let way : w ≡ PortBit [] n i = cc in
            let from : j ≡ Inner n i [] = cc in
            let all : PortBit b.path b.port.name b.index ≡ PortBit [] n i = named ∙ way in
            let path : b.path ≡ [] = cc in
            let name : b.port.name ≡ n = cc in
            let index : b.index ≡ i = cc in
            let same : q ≡ b.port = same_port m q (ap (module_at s) path ∙ at) h (qn ∙ sym name) in
            before_is [] false w j path (ap is_input (sym same) ∙ input) (λ t. absurd (false≢true t)) ∙ ((λ r. Inner (name r) (index r) []) ∙ sym from)

    begins_before : (k : Node) → source_of s k ≡ Some (From w j) → node_before s b ≡ j
    begins_before (Inner n i p) e = inner_in p n i e (module_at s p) refl
    begins_before (Outer n i) e = outer_in n i e (module_at s []) refl
    begins_before (Fixed c) e = let none : None ≡ Some (From w j) = e in absurd cc

-- the bit that is found for a way has that way, is one of the boundary, and begins where the way comes from
pub bit_begins : (s : Structure) (i : Intent) → has_names_apart s.modules ≡ true → (k j : Node) (w : Way) (b : BoundaryBit) → source_of s k ≡ Some (From w j) → bit_of_way s i w ≡ Some b
    → (way_of b ≡ w) × IsIn b (boundary s i) × (node_before s b ≡ j)
bit_begins s i apart k j w b e is =
    let found = first_in (λ c. same_way (way_of c) w) (boundary s i) b is in
    let named = way-true (way_of b) w found.1 in
    (named, found.0, begins_before s apart b (bit_owner s i b found.0) w j named k e)
